-- What one look-up says is so at its moment; and what a search says that looked in new and then in cur is so at one of the two moments.
use Rattle.md_jobs.specs.Tasks.Errand.{Stage, Look, Act}
use Rattle.md_jobs.specs.Machines.Errand.{at_stage}
use Rattle.md_core.proofs.Machines.Errand.Table.Rows.{one-place, last-place}
use Rattle.std.proofs.Common.{ℕ, ◌≡◌, ◌<◌, ◌≤◌, ◌+◌, ◌⊎◌, inl, inr, List, Option, Some, None, Bool, true, false, cond, not, refl, sym, ap, subst, ◌∙◌, length, arith, if◌then◌else◌}
use Rattle.std.proofs.lemmas.Bool.{eq-eqb, and_from, and_parts, not-true}
use Rattle.md_core.proofs.Values.{State, Tmp, New, Cur, Call, Answer, DirReply, Task, Deliver, Errand, Clean, place_index, Place, Entry, mailbox_of, is_tmp, alone, entry_if, is_in_place, is_in_folder, working, job_at, new_job, Run, machine_at, box_in, call_at, IsStepOf, After, IsRun, IsOfSpan, trace_of, Purpose, searches, place_after, first, get}
use Rattle.md_jobs.specs.declared.answer.Answer.TheVariants as answer
use Rattle.md_jobs.specs.declared.call.Call.TheVariants as call
use Rattle.md_core.proofs.Induction.Good.{ErrandFits, TaskFits}
use Rattle.md_core.proofs.Mailbox.Shown.{mailbox-shows}
use Rattle.md_core.proofs.Answers.LastStep.{IsTurn, reply_in, left_by, is-step, is_within, holds}
use Rattle.md_core.proofs.Answers.Turns.OneMessage.{IsAlone, IsPastNew, IsPastLast, FindsNone, HasLooked}
use Rattle.md_core.proofs.Answers.Turns.EachSays.{TaskSays, UndoesTask, IsClean, turn-says, fits-at}
use Rattle.md_core.proofs.Answers.Turns.Told.{at-none}
use Rattle.md_core.proofs.Answers.Touches.StaysInCur.{stays-in_cur}
use Rattle.md_core.proofs.Machines.Errand.Table.Calls.{IfWorking, new-task}
use Rattle.md_core.proofs.Machines.Errand.Table.Says.{alone-none}
use Rattle.md_core.proofs.Traces.Same.{state-same}

-- what a call would be answered alone at a step of its job
pub at-step : (r : Run) → IsRun r → (job k : ℕ) (c : Call) (a : Answer) → IsStepOf (trace_of r) job k → IsAlone (machine_at r k).dirs c a →
    IsOfSpan (trace_of r) job c a
at-step r run job k c a step is = record {
  k = k;
  in_span = record { from = k; to = k; begun = step; goes_on = step; after = omega arith; before = omega arith };
  is = ap (λ (s : State). (alone c (mailbox_of s)).answer) (state-same r run k) ∙ is;
}

-- ---- a search that is past new

-- an earlier step of the job, at which the message was not in new
record WasPastNew (r : Run) (job : ℕ) (folder : ℕ) (u : List ℕ) (k : ℕ) : Type 0 where
  from : ℕ
  begun : IsStepOf (trace_of r) job from
  before : from < k
  none : entry_if (is_in_place New folder) (get (box_in (machine_at r from)) u) ≡ None

abbrev SearchedAt : Run → ℕ → ℕ → ℕ → List ℕ → Bool → Stage → Type 0
SearchedAt r k job folder u both (Look place tries) = both ≡ true → place ≡ Cur → WasPastNew r job folder u k
SearchedAt r k job folder u both (Act place row tries) = Unit {0}

abbrev SearchedBy : Run → ℕ → ℕ → Task → Type 0
SearchedBy r k job (Errand e) = SearchedAt r k job e.folder e.unique (searches e.purpose) e.stage
SearchedBy r k job other = Unit {0}

abbrev Searched : Run → ℕ → ℕ → Task → Type 0
Searched r k job task = (c : Call) → call_at r.calls job ≡ Some c → SearchedBy r k job task

new-searched : (r : Run) (job : ℕ) (c : Call) → IfWorking (SearchedBy r 0 job) (new_job c)
new-searched r job (call.Deliver folder u body chunk) = tt
new-searched r job (call.Clean folder) = tt
new-searched r job c = λ both cur. cc

module _ (r : Run) (k job : ℕ) where
  -- the step at which the job looked in new
  just-searched : (step : IsStepOf (trace_of r) job k) (task : Task) → HasLooked (machine_at r k).dirs task → SearchedBy r (k + 1) job task
  just-searched step (Deliver d) h = tt
  just-searched step (Errand e) h = by e.stage h
    where
      by : (stage : Stage) → IsPastNew (machine_at r k).dirs e.folder e.unique (searches e.purpose) stage →
          SearchedAt r (k + 1) job e.folder e.unique (searches e.purpose) stage
      by (Look place tries) none = λ both cur. record { from = k; begun = step; before = omega arith; none = none both cur }
      by (Act place row tries) none = tt
  just-searched step (Clean c) h = tt

  undoing-searched : (given : DirReply) (task : Task) → UndoesTask given task → SearchedBy r (k + 1) job task
  undoing-searched given (Deliver d) h = tt
  undoing-searched given task h = absurd h

  clean-searched : (task : Task) → IsClean task → SearchedBy r (k + 1) job task
  clean-searched (Clean c) h = tt
  clean-searched task h = absurd h

  searched-on : (s' : State) (c : Call) (step : IsStepOf (trace_of r) job k) (task : Task) (given : DirReply) (after : After Task) →
      TaskSays (machine_at r k).dirs s' c given task after →
      after.answer ≡ None → SearchedBy r (k + 1) job after.task
  searched-on s' c step (Deliver d) given after says none = undoing-searched given after.task (at-none after.answer _ _ none says)
  searched-on s' c step (Errand e) given after says none = just-searched step after.task (at-none after.answer _ _ none says).looked
  searched-on s' c step (Clean x) given after says none = clean-searched after.task (at-none after.answer _ _ none says)

  later : (folder : ℕ) (u : List ℕ) (both : Bool) (stage : Stage) → SearchedAt r k job folder u both stage →
      SearchedAt r (k + 1) job folder u both stage
  later folder u both (Look place tries) h = λ is cur.
      let w = h is cur in
      record { from = w.from; begun = w.begun; before = (let b = w.before in omega (arith, b)); none = w.none }
  later folder u both (Act place row tries) h = tt

  still-searched : (task : Task) → SearchedBy r k job task → SearchedBy r (k + 1) job task
  still-searched (Errand e) h = later e.folder e.unique (searches e.purpose) e.stage h
  still-searched other h = tt

module _ (r : Run) (run : IsRun r) where
  searched-at : (k job : ℕ) (task : Task) → k ≤ length r.events → job_at (machine_at r k).jobs job ≡ Some (working task) → Searched r k job task
  searched-at = holds r run (Searched r)
      (λ job c task of new c' of'. new-task (SearchedBy r 0 job) c task (new-searched r job c) new)
      (λ k job t none was c of.
      searched-on r k job (machine_at r (k + 1)).dirs c (is-step r run k job t) t.task (reply_in (machine_at r k) t.event t.task) (left_by r k job t)
      (turn-says r run k job c of t) none)
      (λ k job task e at differ there was c of. still-searched r k job task (was c of))

  -- ---- not in new, and then not in cur

  module _ (i j : ℕ) (within : i ≤ j) (folder : ℕ) (u : List ℕ) (not_new : entry_if (is_in_place New folder) (get (box_in (machine_at r i)) u) ≡ None)
      (not_cur : entry_if (is_in_place Cur folder) (get (box_in (machine_at r j)) u) ≡ None) where
    abbrev InFolder : ℕ → Option Entry
    InFolder k = entry_if (is_in_folder folder) (get (box_in (machine_at r k)) u)

    outside : (o : Option Entry) (e : Entry) → o ≡ Some e → is_in_folder folder e ≡ false → entry_if (is_in_folder folder) o ≡ None
    outside o e is out = ap (entry_if (is_in_folder folder)) is ∙ ap (λ b. cond b (Some e) None) out

    in-place : (place : Place) (o : Option Entry) (e : Entry) → o ≡ Some e → entry_if (is_in_place place folder) o ≡ None →
        is_in_folder folder e ≡ true → e.place ≡ place → ⊥
    in-place place o e is none inside at =
        let yes : is_in_place place folder e ≡ true = and_from _ _ (eq-eqb _ _ (ap place_index at)) inside in
        let some : entry_if (is_in_place place folder) o ≡ Some e =
        ap (entry_if (is_in_place place folder)) is ∙ ap (λ b. cond b (Some e) None) yes in
        let both : Some e ≡ None = sym some ∙ none in
        cc

    -- it was in cur at the first moment: so it is in cur at the second, or not there
    gone-by : (x : Entry) → get (box_in (machine_at r i)) u ≡ Some x → x.place ≡ Cur → InFolder j ≡ None
    gone-by x there at = by (get (box_in (machine_at r j)) u) refl
      where
        by : (o : Option Entry) → get (box_in (machine_at r j)) u ≡ o → InFolder j ≡ None
        by None is = ap (entry_if (is_in_folder folder)) is
        by (Some e) is = on (is_in_folder folder e) refl
          where
            on : (b : Bool) → is_in_folder folder e ≡ b → InFolder j ≡ None
            on true inside =
                absurd (in-place Cur (get (box_in (machine_at r j)) u) e is not_cur inside (stays-in_cur r run i u x there at j within e is))
            on false out = outside (get (box_in (machine_at r j)) u) e is out

    -- a message is in new or cur
    by-place : (x : Entry) → get (box_in (machine_at r i)) u ≡ Some x → is_in_folder folder x ≡ true → (p : Place) → x.place ≡ p →
        InFolder j ≡ None
    by-place x there inside Tmp at =
        let h = mailbox-shows (machine_at r i).dirs u x there in
        let no : is_tmp h.path.place ≡ false = not-true (is_tmp h.path.place) (and_parts (not (is_tmp h.path.place)) _ h.message).0 in
        let yes : is_tmp h.path.place ≡ true = ap is_tmp (ap (λ (e : Entry). e.place) h.entry ∙ at) in
        cc
    by-place x there inside New at = absurd (in-place New (get (box_in (machine_at r i)) u) x there not_new inside at)
    by-place x there inside Cur at = gone-by x there at

    pub not-there : (InFolder i ≡ None) ⊎ (InFolder j ≡ None)
    not-there = by (get (box_in (machine_at r i)) u) refl
      where
        by : (o : Option Entry) → get (box_in (machine_at r i)) u ≡ o → (InFolder i ≡ None) ⊎ (InFolder j ≡ None)
        by None is = inl (ap (entry_if (is_in_folder folder)) is)
        by (Some x) is = on (is_in_folder folder x) refl
          where
            on : (b : Bool) → is_in_folder folder x ≡ b → (InFolder i ≡ None) ⊎ (InFolder j ≡ None)
            on true inside = inr (by-place x is inside x.place refl)
            on false out = inl (outside (get (box_in (machine_at r i)) u) x is out)

  -- what an errand says that ended after its last place
  module _ (k job : ℕ) (c : Call) (step : IsStepOf (trace_of r) job k) (folder : ℕ) (u : List ℕ) (place : Place) (tries : ℕ) where
    -- one look says it of its own moment, and a search of one of its two
    search-none : ((i : ℕ) → entry_if (is_in_folder folder) (get (box_in (machine_at r i)) u) ≡ None → IsAlone (machine_at r i).dirs c answer.NotThere) →
        place ≡ Cur → entry_if (is_in_place place folder) (get (box_in (machine_at r k)) u) ≡ None → WasPastNew r job folder u k →
        IsOfSpan (trace_of r) job c answer.NotThere
    search-none alone-none cur none was =
        let b = was.before in
        let gone = subst (λ (q : Place). entry_if (is_in_place q folder) (get (box_in (machine_at r k)) u) ≡ None) cur none in
        elim (not-there was.from k (omega (arith, b)) folder u was.none gone) [
          | inl first ↦ at-step r run job was.from c answer.NotThere was.begun (alone-none was.from first)
          | inr last ↦ at-step r run job k c answer.NotThere step (alone-none k last)
        ]

    errand-none : (p : Purpose) (fits : ErrandFits (machine_at r k).dirs c (record { folder = folder; unique = u; purpose = p; stage = Look place tries })) →
        IsPastLast (machine_at r k).dirs folder u (searches p) (Look place tries) → SearchedAt r k job folder u (searches p) (Look place tries) →
        IsOfSpan (trace_of r) job c answer.NotThere
    errand-none p fits h was = by (searches p) refl
      where
        alone-then : (b : Bool) → searches p ≡ b → (i : ℕ) →
            entry_if (if b then is_in_folder folder else is_in_place (first p) folder) (get (box_in (machine_at r i)) u) ≡ None →
            IsAlone (machine_at r i).dirs c answer.NotThere
        alone-then b is i none = subst (λ (x : Call). IsAlone (machine_at r i).dirs x answer.NotThere) (sym fits.of)
            (alone-none (machine_at r i).dirs p folder u fits.tries
            (ap (λ (both : Bool). entry_if (if both then is_in_folder folder else is_in_place (first p) folder) (get (box_in (machine_at r i)) u)) is
            ∙ none))

        by : (b : Bool) → searches p ≡ b → IsOfSpan (trace_of r) job c answer.NotThere
        by true both =
            let cur = last-place p place both fits.stage (ap (λ (b : Bool). place_after b place) (sym both) ∙ h.1) in
            search-none (alone-then true both) cur h.0 (was both cur)
        by false one =
            let first-is = one-place p place one fits.stage in
            at-step r run job k c answer.NotThere step
            (alone-then false one k (subst (λ (q : Place). entry_if (is_in_place q folder) (get (box_in (machine_at r k)) u) ≡ None) first-is h.0))

  -- nothing was found at the last turn of a job
  pub says-none : (k job : ℕ) (c : Call) → call_at r.calls job ≡ Some c → (t : IsTurn r k job) → FindsNone (machine_at r k).dirs c t.task →
      IsOfSpan (trace_of r) job c answer.NotThere
  says-none k job c of t finds =
      by t.task finds (searched-at k job t.task (let within = is_within r k job t in omega (arith, within)) t.there c of)
      (fits-at r run k job c of t.task t.there)
    where
      step : IsStepOf (trace_of r) job k
      step = is-step r run k job t

      by : (task : Task) → FindsNone (machine_at r k).dirs c task → SearchedBy r k job task → TaskFits (machine_at r k).dirs c task →
          IsOfSpan (trace_of r) job c answer.NotThere
      by (Deliver d) h was fits = absurd h
      by (Errand e) h was fits = at e.stage h was fits
        where
          at : (stage : Stage) → IsPastLast (machine_at r k).dirs e.folder e.unique (searches e.purpose) stage →
              SearchedAt r k job e.folder e.unique (searches e.purpose) stage → ErrandFits (machine_at r k).dirs c (at_stage e stage) →
              IsOfSpan (trace_of r) job c answer.NotThere
          at (Look place tries) h was fits = errand-none k job c step e.folder e.unique place tries e.purpose fits h was
          at (Act place row tries) h was fits = absurd h
      by (Clean x) h was fits = absurd h
