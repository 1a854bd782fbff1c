-- What a clean takes away, and what it says of it.
use Rattle.std.proofs.Common.{ℕ, suc, ◌≡◌, ◌≤◌, ◌+◌, ◌-◌, List, [], ◌∷◌, Some, None, Bool, true, false, cond, is_some, length, take, map, filter, refl, ap, ◌∙◌, arith, inl, inr}
use Rattle.std.specs.Prelude.{count_by}
use Rattle.std.proofs.lemmas.List.Sums.{sum_by-cons}
use Rattle.md_dirs.specs.Path.{path_of as path}
use Rattle.md_dirs.specs.declared.paths.Path.{Path}
use Rattle.md_dirs.specs.declared.paths.Place.TheVariants.{Tmp}
use Rattle.md_dirs.specs.declared.rows.Row.{Row}
use Rattle.md_jobs.specs.Asked.{Asked, list, unlink}
use Rattle.md_jobs.specs.Laws.{IsInTmp, KeepsToTmp, CleansOld, unused_names}
use Rattle.md_jobs.specs.Made.{Heard, Made, made, answer_in, unlinks, takes_away, is_done}
use Rattle.md_jobs.specs.Machines.Clean.{new_cleaning, old_names, after_next, cleaning_turn}
use Rattle.md_jobs.specs.Machines.Clean as cleaned_by
use Rattle.md_jobs.specs.Tasks.Cleaning.{Cleaning, Stage, Look, Remove}
use Rattle.md_jobs.specs.Turn.{Turn}
use Rattle.md_jobs.specs.declared.answer.Answer.TheVariants as answer
use Rattle.md_jobs.specs.declared.step.DirReply.{DirReply}
use Rattle.md_jobs.specs.declared.step.DirReply.TheVariants as reply
use Rattle.md_jobs.specs.declared.step.Moment.{Moment}

-- the turn of a clean, as one of a job
abbrev pub turn_at : Cleaning → Moment → Turn Cleaning
turn_at c at = cleaning_turn c at.own

-- ---- one turn

module _ (own : ℕ) (c : Cleaning) (rows : List Row) where
  next-keeps : (asked : Asked) → IsInTmp c.folder asked → (names : List (List ℕ)) (files : ℕ) → KeepsToTmp c asked (after_next c names files)
  next-keeps asked asks [] files = record { asks = asks; effect = refl; answer = inl (files, refl) }
  next-keeps asked asks (name ∷ rest) files = record { asks = asks; effect = refl; answer = tt }

  stage-keeps : (stage : Stage) (r : DirReply) →
      KeepsToTmp c (cleaned_by.stage_turn c own stage).asked ((cleaned_by.stage_turn c own stage).follows r rows)
  stage-keeps Look reply.Ok = next-keeps _ (refl, refl) (old_names own rows) (length (old_names own rows))
  stage-keeps Look reply.Exists = record { asks = (refl, refl); effect = refl; answer = inr refl }
  stage-keeps Look reply.NotFound = record { asks = (refl, refl); effect = refl; answer = inr refl }
  stage-keeps Look reply.Fault = record { asks = (refl, refl); effect = refl; answer = inr refl }
  stage-keeps (Remove name rest files) reply.Ok = next-keeps _ (refl, refl) rest files
  stage-keeps (Remove name rest files) reply.Exists = record { asks = (refl, refl); effect = refl; answer = inr refl }
  stage-keeps (Remove name rest files) reply.NotFound = next-keeps _ (refl, refl) rest (files - 1)
  stage-keeps (Remove name rest files) reply.Fault = record { asks = (refl, refl); effect = refl; answer = inr refl }

pub clean-keeps : (own : ℕ) (c : Cleaning) (r : DirReply) (rows : List Row) →
    KeepsToTmp c (cleaning_turn c own).asked ((cleaning_turn c own).follows r rows)
clean-keeps own c r rows = stage-keeps own c rows c.stage r

-- ---- all calls

-- what is known of the calls of a clean that has these names left, of which so many files will be removed
pub record Removes (folder : ℕ) (names : List (List ℕ)) (files : ℕ) (calls : List Made) : Type 0 where
  pub n : ℕ
  pub taken : unlinks calls ≡ map (path folder Tmp) (take n names)
  pub all : (k : ℕ) → answer_in calls ≡ Some (answer.Cleaned k) → n ≡ length names
  pub counted : (k : ℕ) → answer_in calls ≡ Some (answer.Cleaned k) → k + length names ≡ files + count_by takes_away calls
  pub few : length calls ≤ length names

-- a clean that has these names left
abbrev removing : ℕ → List ℕ → List (List ℕ) → ℕ → Cleaning
removing folder name rest files = record { folder = folder; stage = Remove name rest files }

-- a clean that has any names left removes them over these replies
abbrev RemovesOver : ℕ → List Heard → Type 0
RemovesOver folder heard = (name : List ℕ) (rest : List (List ℕ)) (files : ℕ) → 1 + length rest ≤ files →
    Removes folder (name ∷ rest) files (made turn_at (removing folder name rest files) heard)

-- one more name, which was there or not
removes-more : (folder : ℕ) (name : List ℕ) (names : List (List ℕ)) (files left : ℕ) (r : DirReply) (calls : List Made) →
    left + 1 ≡ files + cond (is_done r) 1 0 → Removes folder names left calls →
    Removes folder (name ∷ names) files (record { asked = unlink (path folder Tmp name); reply = r; answer = None; effect = None } ∷ calls)
unfolding answer_in
removes-more folder name names files left r calls is more =
    let m : Made = record { asked = unlink (path folder Tmp name); reply = r; answer = None; effect = None } in
    let one : count_by takes_away (m ∷ calls) ≡ cond (is_done r) 1 0 + count_by takes_away calls = sum_by-cons (λ x. cond (takes_away x) 1 0) m calls in
    record {
      n = suc more.n;
      taken = ap (λ (ps : List Path). path folder Tmp name ∷ ps) more.taken;
      all = λ k said. ap suc (more.all k said);
      counted = λ k said. (let count = more.counted k said in omega (arith, count, one, is));
      few = (let few = more.few in omega (arith, few));
    }

removes-next : (folder : ℕ) (at : Moment) (rows : List Row) (hs : List Heard) → RemovesOver folder hs → (name : List ℕ) (rest : List (List ℕ))
    (files : ℕ) (r : DirReply) → 1 + length rest ≤ files →
    Removes folder (name ∷ rest) files (made turn_at (removing folder name rest files) (record { at = at; reply = r; rows = rows } ∷ hs))
unfolding made answer_in
removes-next folder at rows hs on name [] files reply.Ok within =
    record { n = 1; taken = refl; all = λ k is. refl; counted = λ k is. (let said : files ≡ k = cc in omega (arith, said)); few = omega arith }
removes-next folder at rows hs on name [] files reply.NotFound within =
    record {
      n = 1;
      taken = refl;
      all = λ k is. refl;
      counted = λ k is. (let said : files - 1 ≡ k = cc in omega (arith, said, within));
      few = omega arith;
    }
removes-next folder at rows hs on name (next ∷ rest) files reply.Ok within =
    removes-more folder name (next ∷ rest) files files reply.Ok _ refl (on next rest files (omega (arith, within)))
removes-next folder at rows hs on name (next ∷ rest) files reply.NotFound within =
    removes-more folder name (next ∷ rest) files (files - 1) reply.NotFound _ (omega (arith, within)) (on next rest (files - 1) (omega (arith, within)))
removes-next folder at rows hs on name rest files reply.Exists within =
    record { n = 1; taken = refl; all = λ k is. cc; counted = λ k is. cc; few = omega arith }
removes-next folder at rows hs on name rest files reply.Fault within =
    record { n = 1; taken = refl; all = λ k is. cc; counted = λ k is. cc; few = omega arith }

removes-all : (folder : ℕ) (heard : List Heard) → RemovesOver folder heard
unfolding made answer_in
removes-all folder [] name rest files within = record { n = 0; taken = refl; all = λ k is. cc; counted = λ k is. cc; few = omega arith }
removes-all folder (h ∷ hs) name rest files within = removes-next folder h.at h.rows hs (removes-all folder hs) name rest files h.reply within

-- what passes is no more than there was
few-old : (p : Row → Bool) (rows : List Row) → length (map (λ (row : Row). row.name) (filter p rows)) ≤ length rows
few-old p [] = omega arith
few-old p (row ∷ rows) = by (few-old p rows) (p row)
  where
    by : length (map (λ (r : Row). r.name) (filter p rows)) ≤ length rows → (b : Bool) →
        length (map (λ (r : Row). r.name) (cond b (row ∷ filter p rows) (filter p rows))) ≤ suc (length rows)
    by rest true = omega (arith, rest)
    by rest false = omega (arith, rest)

-- the calls of a clean that has heard its listing
pub record Cleans (folder : ℕ) (listing : Heard) (calls : List Made) : Type 0 where
  pub old : CleansOld folder listing calls
  pub few : length calls ≤ 1 + length listing.rows

-- the calls of a clean whose listing was done
cleans-listed : (folder : ℕ) (at : Moment) (rows : List Row) (hs : List Heard) (names : List (List ℕ)) → names ≡ unused_names at.own rows →
    length names ≤ length rows →
    (let after = after_next (new_cleaning folder) names (length names) in
    Cleans folder (record { at = at; reply = reply.Ok; rows = rows })
    (record { asked = list folder Tmp; reply = reply.Ok; answer = after.answer; effect = after.effect }
    ∷ cond (is_some after.answer) [] (made turn_at after.task hs)))
unfolding made answer_in
cleans-listed folder at rows hs [] are some = record {
  old = record { n = 0; names = refl; all = λ k is. ap length are; counted = λ k is. (let said : 0 ≡ k = cc in omega (arith, said)) };
  few = omega arith;
}
cleans-listed folder at rows hs (name ∷ rest) are some =
    let all = removes-all folder hs name rest (suc (length rest)) (omega arith) in
    record {
      old = record {
        n = all.n;
        names = all.taken ∙ ap (λ (names : List (List ℕ)). map (path folder Tmp) (take all.n names)) are;
        all = λ k is. all.all k is ∙ ap length are;
        counted = λ k is. (let count = all.counted k is in omega (arith, count));
      };
      few = (let few = all.few in omega (arith, few, some));
    }

pub cleans : (folder : ℕ) (listing : Heard) (heard : List Heard) → Cleans folder listing (made turn_at (new_cleaning folder) (listing ∷ heard))
unfolding made answer_in
cleans folder listing heard = by listing.reply
  where
    failed : (r : DirReply) → Cleans folder (record { at = listing.at; reply = r; rows = listing.rows })
        (record { asked = list folder Tmp; reply = r; answer = Some answer.Fault; effect = None } ∷ [])
    failed r = record { old = record { n = 0; names = refl; all = λ k is. cc; counted = λ k is. cc }; few = omega arith }

    by : (r : DirReply) → Cleans folder (record { at = listing.at; reply = r; rows = listing.rows })
        (made turn_at (new_cleaning folder) (record { at = listing.at; reply = r; rows = listing.rows } ∷ heard))
    by reply.Ok =
        cleans-listed folder listing.at listing.rows heard (old_names listing.at.own listing.rows) refl
        (few-old (cleaned_by.is_old listing.at.own) listing.rows)
    by reply.Exists = failed reply.Exists
    by reply.NotFound = failed reply.NotFound
    by reply.Fault = failed reply.Fault
