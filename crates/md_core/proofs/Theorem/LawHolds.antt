-- What holds of every run, from what each turn does.
use Rattle.std.proofs.Common.{ℕ, zero, suc, ◌≡◌, ◌≢◌, ◌<◌, ◌≤◌, ◌+◌, List, [], ◌∷◌, Option, Some, None, Bool, true, false, cond, MatchBool, IfSome, refl, sym, ap, subst, ◌∙◌, length, take, slice_get, arith}
use Rattle.std.specs.FinMap as finmap
use Rattle.std.proofs.lemmas.List.{take_all}
use Rattle.md_core.proofs.Values.{State, file_at, Call, Answer, Effect, Task, Deliver, Errand, Clean, Path, Entry, mailbox_of, is_tmp, is_message, Names, names_of, as_listed, names_after, IsNowhere, Step, call_at, Run, beginning, machine_at, machine_of, jobs_of, dirs_of, dirs_at_first, IsRun, Simulates, effects_by, NoneOverwritten, is_success, MakesMessage, IsAccepted, option_to_list, option_map, most_over, delivery_effect}
use Rattle.md_jobs.specs.declared.call.Call.TheVariants as call
use Rattle.md_core.specs.Machine.{Machine, Standing, working, answered, Occurrence, job_at, steps_left, new_job}
use Rattle.md_core.proofs.Theorem.RunLaw.{Happened, IsSafe, is_linked, is_past_link, steps_of, JobLaw, RunLaw}
use Rattle.md_core.proofs.Induction.Good.{EachTurn, IsGood, HasNoMessage, Affects, own_effect}
use Rattle.md_core.proofs.Lists.Places.{at_place}
use Rattle.md_core.proofs.Directories.Frames.{message-key}
use Rattle.md_core.proofs.Mailbox.Shown.{mailbox-shows}
use Rattle.md_core.proofs.Mailbox.Naming.{get-names}
use Rattle.md_core.proofs.Runs.ByEvent.{moment-over}
use Rattle.md_core.proofs.Induction.Going.{Goes}
use Rattle.md_core.proofs.Induction.GoodRuns.{new_at, all-apart, good-moment, what-at, going-at, done-what, kept-moment, kept-machine, accepted-at}
use Rattle.md_core.proofs.Theorem.Histories.{Has, Tells, tells-more}
use Rattle.md_core.proofs.Theorem.Comes.{wholes-moment}
use Rattle.md_core.proofs.Theorem.Bounds.{bounded-machine, steps_left-some}
use Rattle.md_core.proofs.Machines.Errand.Table.Calls.{each-new}
use Rattle.md_core.proofs.Machines.Errand.Table.Rows.{all-tries}
use Rattle.md_core.proofs.Machines.Errand.Table.Checks.{makes-fresh, accepted-errand}

-- what goes on simulates its call
pub simulates : (calls : List Call) (m m' : Machine) (what : Step) (g : Goes calls m m' what) → Simulates g.asked what m m'
simulates calls m m' what g = record {
  history = g.effects;
  own = own what.effect g.does.effect;
  is_effect = g.does.is_effect;
  as_alone = g.does.as_alone;
}
  where
    own : (o : Option Effect) → IfSome o (Affects what.job g.asked m.dirs.folders (mailbox_of m.dirs) (mailbox_of m'.dirs)) → IfSome o (λ x. x.job ≡ what.job)
    own None h = tt
    own (Some e) h = h.of

-- nothing is overwritten where nothing happens
none_overwritten-same : (s s' : State) → s' ≡ s → NoneOverwritten s s'
none_overwritten-same s s' same p m n at at' = let e : Some n ≡ Some m = sym at' ∙ ap (λ (x : State). file_at x p) same ∙ at in cc

-- how a job stands, and the effects that it has had
at_most_one : (number : ℕ) (job : Standing) (es : List Effect) → Has number job es → length es ≤ 1
at_most_one number (working task) es own = by (own_effect number task) own
  where
    by : (o : Option Effect) → es ≡ option_to_list o → length es ≤ 1
    by None is = let h = ap length is in omega (arith, h)
    by (Some e) is = let h = ap length is in omega (arith, h)
at_most_one number (answered a) es own = by (is_success a) own
  where
    by : (b : Bool) → MatchBool b ((e : Effect) × (es ≡ e ∷ []) × (e.answer ≡ a)) (es ≡ []) → length es ≤ 1
    by true h = let n = ap length h.1 in omega (arith, n)
    by false h = let n = ap length h in omega (arith, n)

by_success : (number : ℕ) (a : Answer) (es : List Effect) → Has number (answered a) es → is_success a ≡ true → (e : Effect) × (es ≡ e ∷ []) × (e.answer ≡ a)
by_success number a es own success = subst (λ b. MatchBool b ((e : Effect) × (es ≡ e ∷ []) × (e.answer ≡ a)) (es ≡ [])) success own

by_failure : (number : ℕ) (a : Answer) (es : List Effect) → Has number (answered a) es → is_success a ≡ false → es ≡ []
by_failure number a es own failure = subst (λ b. MatchBool b ((e : Effect) × (es ≡ e ∷ []) × (e.answer ≡ a)) (es ≡ [])) failure own

-- the effect of a delivery that has no answer is its link
by_link : (number : ℕ) (task : Task) (es : List Effect) → Has number (working task) es → es ≢ [] → is_past_link task ≡ true
by_link number (Deliver d) es own some = by (is_linked d.stage) own
  where
    by : (b : Bool) → es ≡ option_to_list (cond {A = Option Effect} b (Some (delivery_effect number d)) None) → b ≡ true
    by true h = refl
    by false h = absurd (some h)
by_link number (Errand e) es own some = absurd (some own)
by_link number (Clean c) es own some = absurd (some own)

-- what a job of an accepted call may take at its beginning is the most that its call takes
steps_left-most : (s image : State) (earlier : List Call) (c : Call) → IsAccepted image earlier c → steps_left s (Some (new_job c)) ≡ most_over s c
steps_left-most s image earlier = each-new (λ c job. IsAccepted image earlier c → steps_left s (Some job) ≡ most_over s c)
    (λ folder u body chunk a. refl)
    (λ folder u p tries a. all-tries s p folder u tries (accepted-errand image earlier folder u p tries a).tried)
    (λ folder a. refl)

-- a job with no step left has its answer
ends-by : (s : State) (job : Standing) → steps_left s (Some job) ≤ 0 → (a : Answer) × (job ≡ answered a)
ends-by s (working task) none = let some = steps_left-some s task in absurd (omega arith)
ends-by s (answered a) none = (a, refl)

module _ (turns : EachTurn) (r : Run) (run : IsRun r) where
  abbrev opening : Names
  opening = names_of (mailbox_of r.image)

  -- event k, as it goes
  module _ (k : ℕ) (e : Occurrence) (at : slice_get r.events k ≡ Some e) where
    going : Goes r.calls (machine_at r k) (machine_at r (k + 1)) (what-at r run turns k e at)
    going = going-at r run turns k e at

    happened : Happened r k
    happened = record {
      what = what-at r run turns k e at;
      at = done-what r run turns k e at;
      call = going.asked;
      of = ap (call_at r.calls) going.number_is ∙ going.of;
      simulates = simulates r.calls (machine_at r k) (machine_at r (k + 1)) (what-at r run turns k e at) going;
    }

  happens-at : (k : ℕ) → k < length r.events → Happened r k
  happens-at k within = at_place r.events k (happened k) (λ past. absurd (omega arith))

  none_overwritten : (k : ℕ) → NoneOverwritten (machine_at r k).dirs (machine_at r (k + 1)).dirs
  none_overwritten k = at_place r.events k
      (λ e at. (going k e at).does.none_overwritten)
      (λ past. none_overwritten-same (machine_at r k).dirs (machine_at r (k + 1)).dirs (ap (λ (m : Machine). m.dirs) (moment-over r k past)))

  abbrev Others : List Occurrence → Machine → Type 0
  Others es m = (p : Path) → is_tmp p.place ≡ false → is_message p ≡ false → file_at m.dirs p ≡ file_at r.image p

  others : (k : ℕ) → Others (take k r.events) (machine_at r k)
  others = kept-moment r run turns Others (λ p not_tmp not_message. refl)
      (λ es m m' e what of good g was p not_tmp not_message. g.does.no_messages p not_tmp not_message ∙ was p not_tmp not_message)

  safe : (k : ℕ) → IsSafe r k
  safe k = record {
    sound = (good-moment r run turns k).sound;
    one_path = (good-moment r run turns k).one_path;
    whole = wholes-moment r run turns k;
    others = others k;
  }

  -- a name that a call makes is nowhere at the beginning
  fresh-name : (i : ℕ) (asked : Call) (u : List ℕ) → slice_get r.calls i ≡ Some asked → MakesMessage asked u → IsNowhere opening u
  fresh-name i asked u at makes =
      let unused = (makes-fresh r.image (take i r.calls) asked u (accepted-at r run i asked at) makes).unused in
      get-names (mailbox_of r.image) u ∙ ap (option_map (as_listed u)) (no_entry (λ p message same. unused p (message-key p message ∙ same)) _ refl)
    where
      no_entry : HasNoMessage r.image u → (o : Option Entry) → finmap.get (mailbox_of r.image) u ≡ o → finmap.get (mailbox_of r.image) u ≡ None
      no_entry none None is = is
      no_entry none (Some e) is = let h = mailbox-shows r.image u e is in let gone = none h.path h.message h.unique in let there = h.there in cc

  tells-start : Tells r.image.folders opening r.calls (beginning r.image r.clock r.calls)
  tells-start = record {
    folders_stay = refl;
    legal = record { once = λ i j a b ata atb same. cc; each = λ i e at. cc };
    names = refl;
    nowhere = λ j asked task u of at without makes k. subst (λ (es : List Effect). IsNowhere (names_after opening es) u) (sym (take_all k [] (omega arith)))
        (fresh-name j asked u of makes);
    own = λ j job at. let new = new_at r.calls j job at in subst (λ (x : Standing). Has (suc j) x []) (sym new.2) (new-has (suc j) new.0);
    there = λ i e at. cc;
  }
    where
      new-has : (number : ℕ) (asked : Call) → Has number (new_job asked) []
      new-has number (call.Deliver folder u body chunk) = refl
      new-has number c = refl

  abbrev Told : List Occurrence → Machine → Type 0
  Told es m = Tells r.image.folders opening r.calls m

  told-more : (es : List Occurrence) (m m' : Machine) (e : Occurrence) (what : Step) → what.job ≡ e.event.job → IsGood r.calls m → Goes r.calls m m' what →
      Told es m → Told es m'
  told-more es m m' e what of good g was = tells-more r.image.folders opening r.calls (all-apart r run) m m' what g good was

  tells-moment : (k : ℕ) → Tells r.image.folders opening r.calls (machine_at r k)
  tells-moment = kept-moment r run turns Told tells-start told-more

  tells : Tells r.image.folders opening r.calls (machine_of r)
  tells = kept-machine r run turns Told tells-start told-more

  keeps : (number : ℕ) (asked : Call) (job : Standing) → call_at r.calls number ≡ Some asked → job_at (jobs_of r) number ≡ Some job → JobLaw r number asked job
  keeps zero asked job from at = cc
  keeps (suc j) asked job from at =
      let own : Has (suc j) job (effects_by r (suc j)) = tells.own j job at in
      let most = bounded-machine r run turns (suc j) asked job from at in
      let whole = steps_left-most (dirs_at_first r (suc j)) r.image (take j r.calls) asked (accepted-at r run j asked from) in
      record {
        once = at_most_one (suc j) job (effects_by r (suc j)) own;
        success = λ a is success. by_success (suc j) a (effects_by r (suc j)) (subst (λ (x : Standing). Has (suc j) x (effects_by r (suc j))) is own) success;
        failure = λ a is failure. by_failure (suc j) a (effects_by r (suc j)) (subst (λ (x : Standing). Has (suc j) x (effects_by r (suc j))) is own) failure;
        unanswered = λ t is some. by_link (suc j) t (effects_by r (suc j)) (subst (λ (x : Standing). Has (suc j) x (effects_by r (suc j))) is own) some;
        bounded = subst (λ (n : ℕ). steps_of r (suc j) + steps_left (dirs_of r) (Some job) ≤ n) whole most;
        ends = λ all. ends-by (dirs_of r) job (omega (arith, most, whole, all));
      }

-- Whatever the order of a run's events and whichever directory calls fault, it interleaves: if each turn does what it should.
pub run-law : EachTurn → (r : Run) → IsRun r → RunLaw r
run-law turns r run = record {
  happened = happens-at turns r run;
  none_overwritten = none_overwritten turns r run;
  safe = safe turns r run;
  legal = (tells turns r run).legal;
  names = λ k. (tells-moment turns r run k).names;
  jobs = keeps turns r run;
}

-- no event makes or takes away a folder
pub folders-stay : EachTurn → (r : Run) → IsRun r → (machine_of r).dirs.folders ≡ r.image.folders
folders-stay turns r run = (tells turns r run).folders_stay
