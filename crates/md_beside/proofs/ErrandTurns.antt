-- The turns of an errand. It may have read another size of its message than this has now; but nothing that it does hangs on that, so that
-- md_core's turns serve, with the size as it is now: its effect alone tells the size.
use Rattle.std.proofs.Common.{ℕ, suc, ◌≡◌, ◌-◌, List, Option, Some, None, MatchBool, MatchOption, Bool, true, false, cond, length, nat_le, refl, sym, ap, ◌∙◌}
use Rattle.std.specs.FinMap.{get}
use Rattle.std.specs.Option.{option_map_or, option_or}
use Rattle.md_dirs.specs.State.{State, IsSound}
use Rattle.md_dirs.specs.declared.paths.Place.{Place}
use Rattle.md_dirs.specs.declared.rows.Row.{Row}
use Rattle.md_jobs.specs.Turn.{After, Turn, goes_on, rows_for}
use Rattle.md_jobs.specs.Machines.Errand.{at_stage, stage_turn, errand_turn}
use Rattle.md_jobs.specs.Machines.Purposes.{first}
use Rattle.md_jobs.specs.Machines.Refusals.{refuses}
use Rattle.md_jobs.specs.Tasks.Errand.{Errand as ErrandOf, Stage, Look, Act}
use Rattle.md_jobs.specs.declared.answer.Answer.{Answer}
use Rattle.md_jobs.specs.declared.call.Call.{Call}
use Rattle.md_jobs.specs.declared.effect.Effect.{Effect}
use Rattle.md_jobs.specs.declared.purpose.Purpose.{Purpose}
use Rattle.md_jobs.specs.declared.refusal.Refusal.TheVariants.{Lost}
use Rattle.md_jobs.specs.declared.step.DirReply.{DirReply}
use Rattle.md_jobs.specs.declared.step.DirReply.TheVariants as reply
use Rattle.md_core.specs.Interleaving.{is_success}
use Rattle.md_core.specs.Mailbox.{Entry, Mailbox, HasOnePath, mailbox_of}
use Rattle.md_core.specs.Stepping.{AsAlone}
use Rattle.md_core.specs.Tasks.Task.{Errand}
use Rattle.md_core.proofs.Induction.Good.{Does, ErrandFits, FoundAt, HasSize, IsAtStage, Settles}
use Rattle.md_core.proofs.Machines.Errand.Table.Calls.{on}
use Rattle.md_beside.specs.Story.{Story, Step, asked, step_at, state}
use Rattle.md_beside.specs.Beside.{IsStory}
use Rattle.md_beside.proofs.OwnTurns.{turn-does}

-- ---- the size as it is now

-- of the message of a unique name, and 0 where none is there
abbrev pub size_at : State → List ℕ → ℕ
size_at s u = option_map_or (λ (e : Entry). length e.bytes) (get (mailbox_of s) u) 0

-- a row, and a stage, with it
abbrev pub sized_row : State → List ℕ → Row → Row
sized_row s u row = record { name = row.name; stamp = row.stamp; size = size_at s u }

abbrev pub sized : State → List ℕ → Stage → Stage
sized s u (Look place tries) = Look place tries
sized s u (Act place row tries) = Act place (sized_row s u row) tries

-- it is what md_core's turns ask of an errand
module _ (s : State) (u : List ℕ) where
  sized-fits : (p : Purpose) (stage : Stage) → IsAtStage u p stage → IsAtStage u p (sized s u stage)
  sized-fits p (Look place tries) fits = fits
  sized-fits p (Act place row tries) fits = record { at = fits.at; named = fits.named; unique = fits.unique; acts = fits.acts }

  sized-known : (stage : Stage) (v : List ℕ) (size : ℕ) → FoundAt u (sized s u stage) v size → HasSize (mailbox_of s) v size
  sized-known (Look place tries) v size found = absurd found
  sized-known (Act place row tries) v size found = λ e at.
      sym (ap (λ (o : Option Entry). option_map_or (λ (x : Entry). length x.bytes) o 0) (ap (get (mailbox_of s)) found.0 ∙ at)) ∙ found.1

-- ---- what follows is the same, but for the size that an effect tells, and the task of a job that ends

-- there is no effect, or each gives the same answer
abbrev pub HaveOneAnswer : Option Effect → Option Effect → Type 0
HaveOneAnswer None None = Unit {0}
HaveOneAnswer (Some a) (Some b) = a.answer ≡ b.answer
HaveOneAnswer None (Some b) = ⊥
HaveOneAnswer (Some a) None = ⊥

pub record IsLike (a b : After ErrandOf) : Type 0 where
  pub answer : a.answer ≡ b.answer
  pub effect : HaveOneAnswer a.effect b.effect
  pub task : b.answer ≡ None → a.task ≡ b.task

-- what an effect does alone hangs on its answer, and so does what it settles
pub alone-like : (c : Call) (m m' : Mailbox) (o o' : Option Effect) → HaveOneAnswer o o' → AsAlone c o m m' → AsAlone c o' m m'
alone-like c m m' None None like alone = alone
alone-like c m m' (Some a) (Some b) like alone = alone ∙ ap (λ (x : Answer). record { answer = x; after = m' }) like
alone-like c m m' None (Some b) like alone = absurd like
alone-like c m m' (Some a) None like alone = absurd like

-- an effect settles a success of its answer, and no refusal
abbrev SettledBy : Effect → Answer → Bool → Type 0
SettledBy a x success = MatchBool success ((e : Effect) × (◌≡◌ {A = Option Effect} (Some a) (Some e)) × (e.answer ≡ x))
    (◌≡◌ {A = Option Effect} (Some a) None)

settled-by : (a b : Effect) (x : Answer) (success : Bool) → a.answer ≡ b.answer → SettledBy a x success → SettledBy b x success
settled-by a b x true like (e, is, says) = let same : a ≡ e = cc in (b, refl, sym like ∙ ap (λ (y : Effect). y.answer) same ∙ says)
settled-by a b x false like is = cc

pub settles-like : (answer : Option Answer) (o o' : Option Effect) → HaveOneAnswer o o' →
    MatchOption answer (None ≡ option_or o None) (Settles (option_or o None)) →
    MatchOption answer (None ≡ option_or o' None) (Settles (option_or o' None))
settles-like answer None None like settles = settles
settles-like None (Some a) (Some b) like settles = cc
settles-like (Some x) (Some a) (Some b) like settles = settled-by a b x (is_success x) like settles
settles-like answer None (Some b) like settles = absurd like
settles-like answer (Some a) None like settles = absurd like

module _ (job : ℕ) (s : State) (folder : ℕ) (u : List ℕ) where
  abbrev turn : Purpose → Stage → Turn ErrandOf
  turn p stage = stage_turn job (on folder u p stage) stage

  itself : (o : Option Effect) → HaveOneAnswer o o
  itself None = tt
  itself (Some e) = refl

  abbrev follows : Purpose → Stage → DirReply → After ErrandOf
  follows p stage r = (turn p stage).follows r (rows_for (turn p stage).asked s)

  same-asked : (p : Purpose) (stage : Stage) → (turn p (sized s u stage)).asked ≡ (turn p stage).asked
  same-asked p (Look place tries) = refl
  same-asked p (Act place row tries) = refl

  again-like : (p : Purpose) (stage stage' next : Stage) (b : Bool) →
      IsLike (cond b (refuses (on folder u p stage) Lost) (goes_on (at_stage (on folder u p stage) next)))
      (cond b (refuses (on folder u p stage') Lost) (goes_on (at_stage (on folder u p stage') next)))
  again-like p stage stage' next true = record { answer = refl; effect = tt; task = λ none. cc }
  again-like p stage stage' next false = record { answer = refl; effect = tt; task = λ none. refl }

  module _ (place : Place) (row : Row) (tries : ℕ) where
    abbrev Act-like : Purpose → DirReply → Type 0
    Act-like p r = IsLike (follows p (Act place (sized_row s u row) tries) r) (follows p (Act place row tries) r)

    act-like : (p : Purpose) (r : DirReply) → Act-like p r
    act-like p reply.Ok = record { answer = refl; effect = refl; task = λ none. cc }
    act-like p reply.Exists = record { answer = refl; effect = tt; task = λ none. cc }
    act-like p reply.NotFound = again-like p (Act place (sized_row s u row) tries) (Act place row tries)
        (Look (first p) (tries - 1)) (nat_le tries 1)
    act-like p reply.Fault = record { answer = refl; effect = tt; task = λ none. cc }

  like : (p : Purpose) (stage : Stage) (r : DirReply) → IsLike (follows p (sized s u stage) r) (follows p stage r)
  like p (Look place tries) r = record { answer = refl; effect = itself (follows p (Look place tries) r).effect; task = λ none. refl }
  like p (Act place row tries) r = act-like place row tries p r

-- ---- the turn in a story

module _ (t : Story) (story : IsStory t) (k job : ℕ) (x : Step) (is : step_at t k ≡ Some x) (c : Call) (e : ErrandOf)
    (makes : x.did ≡ asked (errand_turn job e).asked) (sound : IsSound (state t k)) (one : HasOnePath (state t k))
    (fits : ErrandFits (state t k) c e) where
  -- the errand, with the size as it is now
  abbrev pub now : ErrandOf
  now = on e.folder e.unique e.purpose (sized (state t k) e.unique e.stage)

  abbrev pub after_now : After ErrandOf
  after_now = (errand_turn job now).follows x.reply (rows_for (errand_turn job now).asked (state t k))

  now-fits : ErrandFits (state t k) c now
  now-fits = record {
    tries = fits.tries;
    of = fits.of;
    in_folder = fits.in_folder;
    to_folder = fits.to_folder;
    valid = fits.valid;
    is_for = fits.is_for;
    none = fits.none;
    stage = sized-fits (state t k) e.unique e.purpose e.stage fits.stage;
  }

  pub now-does : Does (state t k) (state t (suc k)) job c (Errand now) (errand_turn job now).asked x.reply
      (record { task = Errand after_now.task; answer = after_now.answer; effect = after_now.effect })
  now-does = turn-does t story k job x is c (Errand now)
      (makes ∙ ap asked (sym (same-asked job (state t k) e.folder e.unique e.purpose e.stage))) sound one now-fits
      (λ v size found. sized-known (state t k) e.unique e.stage v size found)

  pub now-like : IsLike after_now ((errand_turn job e).follows x.reply (rows_for (errand_turn job e).asked (state t k)))
  now-like = like job (state t k) e.folder e.unique e.purpose e.stage x.reply
