-- What no step so far did with the name and the file of a delivery: no message ever had the name, no reader saw the file before its link,
-- and its last write didn't fail.
use Rattle.std.proofs.Common.{ℕ, suc, ◌≡◌, ◌≤◌, inl, inr, List, Some, refl, sym, ap, subst, ◌∙◌, arith, length}
use Rattle.std.proofs.lemmas.List.{length-map}
use Rattle.md_dirs.proofs.Sound.{number-within}
use Rattle.md_dirs.specs.State.{State, IsSound, file_at}
use Rattle.md_dirs.specs.declared.paths.Path.{Path}
use Rattle.md_jobs.specs.declared.deliver.Stage.{Stage}
use Rattle.md_jobs.specs.declared.deliver.Stage.TheVariants.{Start, Writing, Linked, Undo}
use Rattle.md_core.specs.Accepting.{name_used}
use Rattle.md_core.proofs.Directories.Frames.{message-key}
use Rattle.md_core.proofs.Induction.Good.{IsUnused, HasNoMessage}
use Rattle.md_log.specs.declared.line.Reply.TheVariants as said
use Rattle.md_log.specs.declared.line.Step.{Step as Seen}
use Rattle.md_law.specs.Files.{Writes, IsCut, IsMaker}
use Rattle.md_law.specs.History.{History, Moment, opening, next, moment, at, Once, Since}
use Rattle.md_law.specs.Messages.{IsThere, IsSeen}
use Rattle.md_beside.specs.Story.{Story, Step, step_at, step_seen, state, history, without_bytes}
use Rattle.md_beside.specs.Beside.{IsStory}
use Rattle.md_beside.proofs.Histories.{next_at, history-first, history-next, at-history, path-history, path-next}
use Rattle.md_beside.proofs.OneMaker.{files-rise, maker-still}

-- no message of the name was ever there
abbrev pub NeverThere : Story → ℕ → List ℕ → Type 0
NeverThere t k u = Once (λ m. (folder : ℕ) × IsThere (at m) folder u) (history t k) → ⊥

-- no path of the name was ever there
abbrev pub NeverUsed : Story → ℕ → List ℕ → Type 0
NeverUsed t k u = Once (λ m. (q : Path) × (n : ℕ) × (name_used q ≡ u) × (file_at (at m) q ≡ Some n)) (history t k) → ⊥

-- no reader saw the file, and its last write didn't fail
abbrev pub IsWhole : Story → ℕ → ℕ → Type 0
IsWhole t k n = (Once (λ m. IsSeen (at m) n) (history t k) → ⊥) × (IsCut (history t k) n → ⊥)

-- the job made each file that has the name
abbrev pub IsHeld : Story → ℕ → ℕ → List ℕ → Type 0
IsHeld t k job u = (q : Path) (n : ℕ) → name_used q ≡ u → file_at (state t k) q ≡ Some n → (IsMaker (history t k) (t.actor job) n → ⊥) → ⊥

-- what is so at a delivery's stages
abbrev pub StageFresh : Story → ℕ → ℕ → Path → Stage → Type 0
StageFresh t k job tmp Start = NeverThere t k tmp.name × ((n : ℕ) → length (state t k).files ≤ n → IsWhole t k n) × NeverUsed t k tmp.name
StageFresh t k job tmp (Writing start from) = NeverThere t k tmp.name × ((n : ℕ) → file_at (state t k) tmp ≡ Some n → IsWhole t k n)
StageFresh t k job tmp Linked = IsHeld t k job tmp.name
StageFresh t k job tmp (Undo a) = Unit {0}

pub unused-none : (s : State) (u : List ℕ) → IsUnused s u → HasNoMessage s u
unused-none s u unused p message is = unused p (message-key p message ∙ is)

-- ---- what was so once, or since

once-opening : (P : History → Type 0) (m : Moment) → (P (opening m) → ⊥) → Once P (opening m) → ⊥
unfolding Once
once-opening P m not once = not once

once-next : (P : History → Type 0) (h : History) (x : Seen) → (P (next h x) → ⊥) → (Once P h → ⊥) → Once P (next h x) → ⊥
unfolding Once
once-next P h x not before (inl now) = not now
once-next P h x not before (inr once) = before once

cut-opening : (m : Moment) (n : ℕ) → IsCut (opening m) n → ⊥
unfolding Since
cut-opening m n cut = let none = cut.1.1 in cc

cut-next : (h : History) (x : Seen) (n : ℕ) → (Writes (next h x) n said.Fault → ⊥) → (IsCut h n → ⊥) → IsCut (next h x) n → ⊥
unfolding Since
cut-next h x n not before (inl now) = not now
cut-next h x n not before (inr since) = before since.1

-- ---- at the beginning

module _ (t : Story) (sound : IsSound t.image) where
  abbrev first : Moment
  first = record { state = without_bytes t.image; now = t.clock }

  opening-at : at (opening first) ≡ without_bytes t.image
  unfolding moment
  opening-at = refl

  opening-path : (q : Path) → file_at (at (opening first)) q ≡ file_at t.image q
  opening-path q = ap (λ (s : State). file_at s q) opening-at

  pub never-first : (u : List ℕ) → HasNoMessage t.image u → NeverThere t 0 u
  never-first u none = subst (λ (h : History). Once (λ m. (folder : ℕ) × IsThere (at m) folder u) h → ⊥) (sym (history-first t))
      (once-opening (λ m. (folder : ℕ) × IsThere (at m) folder u) first
      (λ there. let one = there.1.2 in let free = none there.1.0 one.1.0 one.1.2 in let now = sym (opening-path there.1.0) ∙ one.0 in cc))

  pub unused-first : (u : List ℕ) → IsUnused t.image u → NeverUsed t 0 u
  unused-first u unused =
      subst (λ (h : History). Once (λ m. (q : Path) × (n : ℕ) × (name_used q ≡ u) × (file_at (at m) q ≡ Some n)) h →
      ⊥) (sym (history-first t))
      (once-opening (λ m. (q : Path) × (n : ℕ) × (name_used q ≡ u) × (file_at (at m) q ≡ Some n)) first
      (λ there. let none = unused there.0 there.2 in let now = sym (opening-path there.0) ∙ there.3 in cc))

  pub whole-first : (n : ℕ) → length t.image.files ≤ n → IsWhole t 0 n
  whole-first n past = subst (λ (h : History). (Once (λ m. IsSeen (at m) n) h → ⊥) × (IsCut h n → ⊥)) (sym (history-first t)) (
    once-opening (λ m. IsSeen (at m) n) first
        (λ seen. let low = number-within t.image sound seen.0 n (sym (opening-path seen.0) ∙ seen.1) in omega (arith, past, low)),
    cut-opening first n,
  )

-- ---- at each step

module _ (t : Story) (story : IsStory t) (k : ℕ) (x : Step) (is : step_at t k ≡ Some x) where
  pub never-next : (u : List ℕ) → HasNoMessage (state t (suc k)) u → NeverThere t k u → NeverThere t (suc k) u
  never-next u none before = subst (λ (h : History). Once (λ m. (folder : ℕ) × IsThere (at m) folder u) h → ⊥) (sym (history-next t k x is))
      (once-next (λ m. (folder : ℕ) × IsThere (at m) folder u) (history t k) (step_seen t.actor (state t k) x)
      (λ there.
      let one = there.1.2 in
      let free = none there.1.0 one.1.0 one.1.2 in
      let now = sym (path-next t story k x is there.1.0) ∙ one.0 in cc)
      before)

  pub unused-next : (u : List ℕ) → IsUnused (state t (suc k)) u → NeverUsed t k u → NeverUsed t (suc k) u
  unused-next u unused before =
      subst (λ (h : History). Once (λ m. (q : Path) × (n : ℕ) × (name_used q ≡ u) × (file_at (at m) q ≡ Some n)) h →
      ⊥) (sym (history-next t k x is))
      (once-next (λ m. (q : Path) × (n : ℕ) × (name_used q ≡ u)
      × (file_at (at m) q ≡ Some n)) (history t k) (step_seen t.actor (state t k) x)
      (λ there. let none = unused there.0 there.2 in let now = sym (path-next t story k x is there.0) ∙ there.3 in cc) before)

  pub whole-next : (n : ℕ) → (IsSeen (state t (suc k)) n → ⊥) → (Writes (next_at t k x) n said.Fault → ⊥) → IsWhole t k n →
      IsWhole t (suc k) n
  whole-next n unseen wrote before =
      subst (λ (h : History). (Once (λ m. IsSeen (at m) n) h → ⊥) × (IsCut h n → ⊥)) (sym (history-next t k x is)) (
        once-next (λ m. IsSeen (at m) n) (history t k) (step_seen t.actor (state t k) x)
            (λ seen. unseen (seen.0, sym (path-next t story k x is seen.0) ∙ seen.1, seen.2)) before.0,
        cut-next (history t k) (step_seen t.actor (state t k) x) n wrote before.1,
      )

  -- the numbers of files don't go down
  pub numbers-rise : length (state t k).files ≤ length (state t (suc k)).files
  numbers-rise =
      let rise = files-rise (history t k) (step_seen t.actor (state t k) x) in
      let first : length (at (history t k)).files ≡ length (state t k).files =
      ap (λ (s : State). length s.files) (at-history t story k) ∙ length-map (state t k).files _ in
      let then : length (at (next_at t k x)).files ≡ length (state t (suc k)).files =
      ap (λ (h : History). length (at h).files) (sym (history-next t k x is))
      ∙ ap (λ (s : State). length s.files) (at-history t story (suc k)) ∙ length-map (state t (suc k)).files _ in
      omega (arith, rise, first, then)

  -- a file that is not made yet was not seen or written to
  pub unmade-next : IsSound (state t k) → IsSound (state t (suc k)) → ((n : ℕ) → length (state t k).files ≤ n → IsWhole t k n) →
      (n : ℕ) → length (state t (suc k)).files ≤ n → IsWhole t (suc k) n
  unmade-next sound sound' before n past = whole-next n
      (λ seen. let low = number-within (state t (suc k)) sound' seen.0 n seen.1 in omega (arith, past, low))
      (λ writes.
      let low = number-within (state t k) sound writes.0 n (sym (path-history t story k writes.0) ∙ writes.2) in
      let rise = numbers-rise in omega (arith, past, low, rise))
      (before n (let rise = numbers-rise in omega (arith, past, rise)))

  -- the files of a name are the job's still where each that has the name had it before, or is the job's
  pub held-next : (job : ℕ) (u : List ℕ) → ((q : Path) (n : ℕ) → name_used q ≡ u → file_at (state t (suc k)) q ≡ Some n →
      (IsMaker (history t k) (t.actor job) n → ⊥) → ⊥) → IsHeld t (suc k) job u
  held-next job u before q n used now not = before q n used now
      (λ m. not (subst (λ (h : History). IsMaker h (t.actor job) n) (sym (history-next t k x is))
      (maker-still (history t k) (step_seen t.actor (state t k) x) (t.actor job) n m)))
