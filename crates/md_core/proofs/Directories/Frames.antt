-- A call that acts on the paths of one name leaves what fits the deliveries of others.
use Rattle.std.proofs.Common.{ℕ, ◌≡◌, ◌≢◌, ◌⊎◌, inl, inr, List, Option, Some, None, true, cond, refl, sym, ap, subst, ◌∙◌, not, ◌&&◌, ◌<◌, take}
use Rattle.md_core.proofs.Values.{State, file_at, Place, Tmp, New, Cur, Call, Task, Deliver, Errand, Clean, Path, unique_of, is_message_name, is_message, is_tmp, Delivery, Stage, Start, Writing, Linked, Undo, MakesMessage, name_used}
use Rattle.md_core.proofs.Induction.Good.{bytes_at, IsUnused, HasNoMessage, IsAlone, StageFits, DeliveryFits, ErrandFits, TaskFits}
use Rattle.md_core.proofs.Mailbox.Changes.{by_name}
use Rattle.md_core.proofs.Machines.Errand.Table.Calls.{folder_to}
use Rattle.md_jobs.specs.Tasks.Errand.{Errand as ErrandOf}

pub message-key : (p : Path) → is_message p ≡ true → name_used p ≡ unique_of p.name
message-key p m = by p.place m
  where
    by : (x : Place) → (not (is_tmp x) && is_message_name p.name) ≡ true → cond (is_tmp x) p.name (unique_of p.name) ≡ unique_of p.name
    by Tmp h = cc
    by New h = refl
    by Cur h = refl

pub tmp-key : (p : Path) → p.place ≡ Tmp → name_used p ≡ p.name
tmp-key p is = ap (λ (x : Place). cond (is_tmp x) p.name (unique_of p.name)) is

pub not_tmp : (q p : Path) → p.place ≡ Tmp → is_message q ≡ true → q ≢ p
not_tmp q p in_tmp m is =
    let no : is_message (record p { place = Tmp }) ≡ true = ap (λ (x : Place). is_message (record p { place = x })) (sym in_tmp) ∙ ap is_message (sym is) ∙ m in
    cc

pub other_key : (q p : Path) (u : List ℕ) → name_used p ≡ u → name_used q ≢ u → q ≢ p
other_key q p u is not same = not (ap name_used same ∙ is)

-- only paths of the name v change, and only bytes of their files; a file of such a path is new, or was one's before, or a message's
pub record Frame (s s' : State) (v : List ℕ) : Type 0 where
  pub names : (q : Path) → name_used q ≢ v → file_at s' q ≡ file_at s q
  pub bytes : (q : Path) (m : ℕ) → name_used q ≢ v → file_at s q ≡ Some m → bytes_at s' m ≡ bytes_at s m
  pub origin : (q : Path) (m : ℕ) → name_used q ≡ v → file_at s' q ≡ Some m →
      ((r : Path) → file_at s r ≢ Some m) ⊎ ((r : Path) × ((name_used r ≡ v) ⊎ (is_message r ≡ true)) × (file_at s r ≡ Some m))

module _ (s s' : State) (u v : List ℕ) (differ : u ≢ v) (f : Frame s s' v) where
  mine : (p : Path) → name_used p ≡ u → name_used p ≢ v
  mine p is other = differ (sym is ∙ other)

  pub unused-frame : IsUnused s u → IsUnused s' u
  unused-frame h p is = f.names p (mine p is) ∙ h p is

  pub no_message-frame : HasNoMessage s u → HasNoMessage s' u
  no_message-frame h p m is = f.names p (mine p (message-key p m ∙ is)) ∙ h p m is

  pub alone-frame : (p : Path) (bytes : List ℕ) → p.place ≡ Tmp → name_used p ≡ u → IsAlone s p bytes → IsAlone s' p bytes
  alone-frame p bytes in_tmp is h = record {
    holds = λ n there. let before = sym (f.names p (mine p is)) ∙ there in f.bytes p n (mine p is) before ∙ h.holds n before;
    only = λ n q there at.
        let before = sym (f.names p (mine p is)) ∙ there in
        by_name (name_used q) v
        (λ same. elim (f.origin q n same at) [
          | inl none ↦ absurd (none p before)
          | inr one ↦ let itself : one.0 ≡ p = h.only n one.0 before one.2 in elim one.1 [
            | inl key ↦ absurd (mine p is (ap name_used (sym itself) ∙ key))
            | inr message ↦ absurd (not_tmp one.0 p in_tmp message itself)
          ]
        ])
        (λ other. h.only n q before (sym (f.names q other) ∙ at));
  }

-- a delivery of another name
module _ (s s' : State) (d : Delivery) (v : List ℕ) (differ : d.tmp.name ≢ v) (f : Frame s s' v) where
  stage-frame : (stage : Stage) → d.tmp.place ≡ Tmp → StageFits s d stage → StageFits s' d stage
  stage-frame Start place h = unused-frame s s' d.tmp.name v differ f h
  stage-frame (Writing start k) place h = (
    h.0,
    no_message-frame s s' d.tmp.name v differ f h.1,
    alone-frame s s' d.tmp.name v differ f d.tmp (take k d.body) place (tmp-key d.tmp place) h.2,
  )
  stage-frame Linked place h = tt
  stage-frame (Undo a) place h = (no_message-frame s s' d.tmp.name v differ f h.0, h.1)

  pub delivery-frame : (asked : Call) → s'.folders ≡ s.folders → DeliveryFits s asked d → DeliveryFits s' asked d
  delivery-frame asked folders h = record {
    of = h.of;
    in_tmp = h.in_tmp;
    in_folder = subst (λ (n : ℕ). d.tmp.folder < n) (sym folders) h.in_folder;
    name = h.name;
    chunked = h.chunked;
    stage = stage-frame d.stage h.in_tmp h.stage;
  }

-- no path uses the name, so no message has it
pub unused-no_message : (s : State) (u : List ℕ) → IsUnused s u → HasNoMessage s u
unused-no_message s u unused p message is = unused p (message-key p message ∙ is)

-- a delivery of any name, where a message has the name whose paths change
module _ (s s' : State) (d : Delivery) (v : List ℕ) (f : Frame s s' v) (some : HasNoMessage s v → ⊥) where
  other : HasNoMessage s d.tmp.name → d.tmp.name ≢ v
  other none is = some (subst (HasNoMessage s) is none)

  stage-stays : (stage : Stage) → d.tmp.place ≡ Tmp → StageFits s d stage → StageFits s' d stage
  stage-stays Start place h = stage-frame s s' d v (other (unused-no_message s d.tmp.name h)) f Start place h
  stage-stays (Writing start k) place h = stage-frame s s' d v (other h.1) f (Writing start k) place h
  stage-stays Linked place h = tt
  stage-stays (Undo a) place h = stage-frame s s' d v (other h.0) f (Undo a) place h

  pub delivery-stays : (asked : Call) → s'.folders ≡ s.folders → DeliveryFits s asked d → DeliveryFits s' asked d
  delivery-stays asked folders h = record {
    of = h.of;
    in_tmp = h.in_tmp;
    in_folder = subst (λ (n : ℕ). d.tmp.folder < n) (sym folders) h.in_folder;
    name = h.name;
    chunked = h.chunked;
    stage = stage-stays d.stage h.in_tmp h.stage;
  }

-- an errand, where a name that it makes has no message still
pub errand-refit : (s s' : State) (e : ErrandOf) (asked : Call) → s'.folders ≡ s.folders →
    ((u : List ℕ) → MakesMessage asked u → HasNoMessage s u → HasNoMessage s' u) → ErrandFits s asked e → ErrandFits s' asked e
errand-refit s s' e asked folders none h = record {
  tries = h.tries;
  of = h.of;
  in_folder = subst (λ (n : ℕ). e.folder < n) (sym folders) h.in_folder;
  to_folder = subst (λ (n : ℕ). folder_to e.folder e.purpose < n) (sym folders) h.to_folder;
  valid = h.valid;
  is_for = h.is_for;
  none = λ u makes. none u makes (h.none u makes);
  stage = h.stage;
}

-- the name of a delivery is one that its call makes
pub makes-delivery : (s : State) (asked : Call) (d : Delivery) → DeliveryFits s asked d → MakesMessage asked d.tmp.name
makes-delivery s asked d fits = subst (λ (c : Call). MakesMessage c d.tmp.name) (sym fits.of) refl

-- a task of a call that doesn't make the name
pub task-frame : (s s' : State) (v : List ℕ) → Frame s s' v → s'.folders ≡ s.folders → (asked : Call) (task : Task) → (MakesMessage asked v → ⊥) →
    TaskFits s asked task → TaskFits s' asked task
task-frame s s' v f folders asked (Deliver d) apart h =
    delivery-frame s s' d v (λ is. apart (subst (MakesMessage asked) is (makes-delivery s asked d h))) f asked folders h
task-frame s s' v f folders asked (Errand e) apart h =
    errand-refit s s' e asked folders (λ u makes. no_message-frame s s' u v (λ is. apart (subst (MakesMessage asked) is makes)) f) h
task-frame s s' v f folders asked (Clean c) apart h = h

-- a task of any call, where a message has the name
pub task-stays : (s s' : State) (v : List ℕ) → Frame s s' v → s'.folders ≡ s.folders → (HasNoMessage s v → ⊥) → (asked : Call) (task : Task) →
    TaskFits s asked task → TaskFits s' asked task
task-stays s s' v f folders some asked (Deliver d) h = delivery-stays s s' d v f some asked folders h
task-stays s s' v f folders some asked (Errand e) h =
    errand-refit s s' e asked folders (λ u makes none. no_message-frame s s' u v (λ is. some (subst (HasNoMessage s) is none)) f none) h
task-stays s s' v f folders some asked (Clean c) h = h

-- names alone go, and files with the last of theirs
pub record Shrinks (s s' : State) : Type 0 where
  pub folders : s'.folders ≡ s.folders
  pub names : (q : Path) (n : ℕ) → file_at s' q ≡ Some n → file_at s q ≡ Some n
  pub bytes : (q : Path) (n : ℕ) → file_at s' q ≡ Some n → bytes_at s' n ≡ bytes_at s n

module _ (s s' : State) (h : Shrinks s s') where
  none-shrinks : (q : Path) → file_at s q ≡ None → file_at s' q ≡ None
  none-shrinks q none = by (file_at s' q) refl
    where
      by : (o : Option ℕ) → file_at s' q ≡ o → file_at s' q ≡ None
      by None is = is
      by (Some n) is = let before = h.names q n is in cc

  no_message-shrinks : (u : List ℕ) → HasNoMessage s u → HasNoMessage s' u
  no_message-shrinks u none p message is = none-shrinks p (none p message is)

  stage-shrinks : (d : Delivery) (stage : Stage) → StageFits s d stage → StageFits s' d stage
  stage-shrinks d Start fits = λ p is. none-shrinks p (fits p is)
  stage-shrinks d (Writing start k) fits = (
    fits.0,
    no_message-shrinks d.tmp.name fits.1,
    record {
      holds = λ n there. h.bytes d.tmp n there ∙ fits.2.holds n (h.names d.tmp n there);
      only = λ n q there at. fits.2.only n q (h.names d.tmp n there) (h.names q n at);
    },
  )
  stage-shrinks d Linked fits = tt
  stage-shrinks d (Undo a) fits = (no_message-shrinks d.tmp.name fits.0, fits.1)

  -- a task of any call
  pub task-shrinks : (asked : Call) (task : Task) → TaskFits s asked task → TaskFits s' asked task
  task-shrinks asked (Deliver d) fits = record {
    of = fits.of;
    in_tmp = fits.in_tmp;
    in_folder = subst (λ (n : ℕ). d.tmp.folder < n) (sym h.folders) fits.in_folder;
    name = fits.name;
    chunked = fits.chunked;
    stage = stage-shrinks d d.stage fits.stage;
  }
  task-shrinks asked (Errand e) fits = errand-refit s s' e asked h.folders (λ u makes. no_message-shrinks u) fits
  task-shrinks asked (Clean c) fits = fits
