-- A step of another, as a delivery takes it: it is by another actor, brings the delivery's name not about, and does what is owed to
-- deliveries.
use Rattle.std.proofs.Common.{ℕ, ◌≡◌, ◌≢◌, List, Some, refl, ap, subst}
use Rattle.md_jobs.specs.declared.call.Call.{Call}
use Rattle.md_core.specs.Accepting.{MakesMessage}
use Rattle.md_core.specs.Interleaving.{IsDelivery}
use Rattle.md_core.specs.Trace.{call_at}
use Rattle.md_law.specs.History.{IsBy}
use Rattle.md_beside.specs.Story.{Story, Step, another, step_at, step_seen, actor_seen, state}
use Rattle.md_beside.specs.Beside.{IsStory, IsAtWork, AreOurs, BringsAbout}
use Rattle.md_beside.specs.Jobs.{OwesJobs, OwesDeliveries, AreLawful}
use Rattle.md_beside.proofs.Histories.{next_at, history-next}

pub record IsOther (t : Story) (k : ℕ) (x : Step) (job : ℕ) (u : List ℕ) : Type 0 where
  pub actor : List ℕ
  pub by : IsBy (next_at t k x) actor
  pub differs : actor ≢ t.actor job
  pub owes : OwesDeliveries (next_at t k x)
  pub brings : BringsAbout t k u → ⊥

-- so is each step of another program, if the others do what they owe and the names are ours
module _ (t : Story) (story : IsStory t) (lawful : AreLawful t) (names : AreOurs t)
    (k : ℕ) (x : Step) (actor : List ℕ) (is : step_at t k ≡ Some x) (who : x.who ≡ another actor) where
  pub program-owes : OwesJobs (next_at t k x)
  program-owes = subst OwesJobs (history-next t k x is) (lawful.to_jobs k x actor is who)

  module _ (job : ℕ) (c : Call) (u : List ℕ) (of : call_at t.calls job ≡ Some c) (works : IsAtWork t job) (makes : MakesMessage c u) where
    pub brings-none : BringsAbout t k u → ⊥
    brings-none = names k job x actor c u is who of works makes

    pub by-program : IsDelivery c → IsOther t k x job u
    by-program delivery = record {
      actor = actor;
      by = (step_seen t.actor (state t k) x, refl, ap (actor_seen t.actor) who);
      differs = story.foreign k job x actor is who;
      owes = subst OwesDeliveries (history-next t k x is) (lawful.to_deliveries job c of works delivery k x actor is who);
      brings = brings-none;
    }
