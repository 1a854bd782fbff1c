-- The names of old files that a clean has seen stay names of old files or of none, where no name of tmp is made again and no old file is
-- written to. So it takes no young file.
use Rattle.std.proofs.Common.{ℕ, suc, ◌≡◌, ◌≢◌, ◌<◌, ◌≤◌, ◌-◌, inl, inr, List, [], ◌∷◌, Option, Some, None, true, IsSome, refl, sym, ap, subst, ◌∙◌, arith, length}
use Rattle.std.proofs.lemmas.Bool.Decides.{nat_tests}
use Rattle.lists.proofs.Members.{Has}
use Rattle.md_dirs.proofs.Sound.{by_number, by_path, some_file, number-within}
use Rattle.md_dirs.specs.Path.{path_of}
use Rattle.md_dirs.specs.Rows.{rows_of}
use Rattle.md_dirs.specs.State.{State, IsSound, file_at, file_by}
use Rattle.md_dirs.specs.declared.paths.File.{File}
use Rattle.md_dirs.specs.declared.paths.Path.{Path}
use Rattle.md_dirs.specs.declared.paths.Place.TheVariants.{Tmp}
use Rattle.md_dirs.specs.declared.rows.Row.{Row}
use Rattle.md_jobs.specs.Asked.{unlink}
use Rattle.md_jobs.specs.Machines.Clean.{after_next, is_old, old_names, stage_turn, tmp}
use Rattle.md_jobs.specs.Tasks.Cleaning.{Cleaning, Stage, Look, Remove}
use Rattle.md_jobs.specs.Turn.{Turn, rows_for}
use Rattle.md_jobs.specs.declared.call.Call.TheVariants as call
use Rattle.md_jobs.specs.declared.step.DirReply.{DirReply}
use Rattle.md_jobs.specs.declared.step.DirReply.TheVariants as reply
use Rattle.md_core.proofs.Answers.Files.Listed.{has-old, listed-file}
use Rattle.md_core.proofs.Values.{stamp_of}
use Rattle.md_law.specs.Clauses.{CleanedEarly}
use Rattle.md_law.specs.History.{History, next, at, now, Once}
use Rattle.md_law.specs.Law.{MadeAgain, WrittenLate}
use Rattle.md_log.specs.declared.line.Step.{Step as Seen}
use Rattle.md_beside.specs.Story.{Story, Step, asked, step_at, step_seen, after_did, state, history, bare_file}
use Rattle.md_beside.specs.Beside.{IsStory}
use Rattle.md_beside.proofs.ErrandPaths.{leaves, lists-nothing}
use Rattle.md_beside.proofs.Fresh.{numbers-rise}
use Rattle.md_beside.proofs.Histories.{next_at, state-more, history-next, at-history, path-history, path-next, clock-before, clock-next}
use Rattle.md_beside.proofs.KeepsPaths.{once-now}
use Rattle.md_beside.proofs.KeptBytes.{kept-file}
use Rattle.md_beside.proofs.OwnSteps.{unlink-others}
use Rattle.md_beside.proofs.StaysBeside.{sound-stays}
use Rattle.md_beside.proofs.StaysThere.{clock-at}
use Rattle.md_beside.proofs.WithoutBytes.{file-bare}

-- nobody has written to the file for 36 hours, as long as it is there
abbrev IsOldFile : Story → ℕ → ℕ → Type 0
IsOldFile t k n = (file : File) → file_by (state t k).files n ≡ Some file → 129600 ≤ now (history t k) - file.stamp

-- the path named such a file, and names no other
pub record IsOldPath (t : Story) (k : ℕ) (p : Path) : Type 0 where
  pub file : ℕ
  pub made : file < length (state t k).files
  pub was : Once (λ m. file_at (at m) p ≡ Some file) (history t k)
  pub only : (n : ℕ) → file_at (state t k) p ≡ Some n → n ≡ file
  pub old : IsOldFile t k file

-- so are the names that a clean has left to take away
abbrev pub StageOld : Story → ℕ → ℕ → Stage → Type 0
StageOld t k folder Look = Unit {0}
StageOld t k folder (Remove name rest files) = (v : List ℕ) → Has (name ∷ rest) v → IsOldPath t k (path_of folder Tmp v)

once-later : (P : History → Type 0) (h : History) (x : Seen) → Once P h → Once P (next h x)
unfolding Once
once-later P h x was = inr was

module _ (t : Story) (story : IsStory t) (k : ℕ) (x : Step) (is : step_at t k ≡ Some x) (sound : IsSound (state t k)) where
  sound' : IsSound (state t (suc k))
  sound' = sound-stays t story k x is sound

  -- ---- any step

  module _ (unmade : MadeAgain (next_at t k x) → ⊥) (in_time : WrittenLate (next_at t k x) → ⊥) where
    -- an old file is not written to
    unwritten : (n : ℕ) → IsOldFile t k n → n < length (state t k).files → (q : Path) → file_at (state t (suc k)) q ≡ Some n →
        file_by (state t (suc k)).files n ≡ file_by (state t k).files n
    unwritten n old low q there = ap (λ (s : State). file_by s.files n) more
        ∙ kept-file (state t k) n low x.did x.at.clock x.reply
        (λ p e call answered named.
        let here = some_file (file_by (state t k).files n) (sound.filed p n named) in
        let late = old here.0 here.1 in
        let rises = clock-before t story k x is in
        let clock = clock-next t story k x is in
        in_time (
          n,
          record here.0 { bytes = [] },
          (e, answered, (p, (step_seen t.actor (state t k) x, refl, call), path-history t story k p ∙ named)),
          ap (λ (s : State). file_by s.files n) (at-history t story k) ∙ file-bare (state t k).files n ∙ ap bare_file here.1,
          omega (arith, late, rises, clock),
        ))
        q (sym (ap (λ (s : State). file_at s q) more) ∙ there)
      where
        more : state t (suc k) ≡ after_did x.did x.at.clock x.reply (state t k)
        more = state-more t.image t.steps k x is

    old-stays : (n : ℕ) → n < length (state t k).files → IsOldFile t k n → IsOldFile t (suc k) n
    old-stays n low old file by =
        let named = sound'.has_path n (subst (λ (o : Option File). IsSome o) (sym by) refl) in
        let late = old file (sym (unwritten n old low named.0 named.1) ∙ by) in
        let rises = clock-before t story k x is in
        let clock = clock-at t story k x is in
        omega (arith, late, rises, clock)

    path-stays : (p : Path) → p.place ≡ Tmp → IsOldPath t k p → IsOldPath t (suc k) p
    path-stays p in_tmp o = record {
      file = o.file;
      made = let low = o.made in let rise = numbers-rise t story k x is in omega (arith, low, rise);
      was = subst (λ (h : History). Once (λ m. file_at (at m) p ≡ Some o.file) h) (sym (history-next t k x is))
          (once-later (λ m. file_at (at m) p ≡ Some o.file) (history t k) (step_seen t.actor (state t k) x) o.was);
      only = λ n there. by_number n o.file (λ same. same) (λ differ. absurd (unmade (
        p,
        n,
        o.file,
        (path-next t story k x is p ∙ there, λ before. differ (o.only n (sym (path-history t story k p) ∙ before))),
        in_tmp,
        (λ same. differ (sym same)),
        o.was,
      )));
      old = old-stays o.file o.made o.old;
    }

    pub stage_old-stays : (folder : ℕ) (stage : Stage) → StageOld t k folder stage → StageOld t (suc k) folder stage
    stage_old-stays folder Look old = tt
    stage_old-stays folder (Remove name rest files) old = λ v has. path-stays (path_of folder Tmp v) refl (old v has)

    -- ---- a step of its own

    module _ (behind : x.at.own ≤ x.at.clock) where
      -- a name that it lists as old
      listed-old : (folder : ℕ) → state t (suc k) ≡ state t k → (v : List ℕ) →
          Has (old_names x.at.own (rows_of (state t k) folder Tmp)) v → IsOldPath t (suc k) (path_of folder Tmp v)
      listed-old folder same v has = record {
        file = shown.0;
        made = number-within (state t (suc k)) sound' (path_of folder Tmp v) shown.0 there;
        was = once-now (λ m. file_at (at m) (path_of folder Tmp v) ≡ Some shown.0) (history t (suc k))
            (path-history t story (suc k) (path_of folder Tmp v) ∙ there);
        only = λ n now_there. (let both : Some n ≡ Some shown.0 = sym now_there ∙ there in cc);
        old = λ file by.
            let stamp : row.0.stamp ≡ file.stamp =
            shown.2 ∙ ap stamp_of (ap (λ (s : State). file_by s.files shown.0) (sym same) ∙ by) in
            let by_rows = row.2 in
            let seen : 129600 ≤ x.at.own - row.0.stamp = grind (arith, nat_tests, by_rows) in
            let clock = clock-at t story k x is in
            omega (arith, seen, stamp, clock, behind);
      }
        where
          row : (row : Row) × Has (rows_of (state t k) folder Tmp) row
              × (is_old x.at.own row ≡ true) × (row.name ≡ v)
          row = has-old x.at.own (rows_of (state t k) folder Tmp) v has

          shown : (n : ℕ) × (file_at (state t k) (path_of folder Tmp row.0.name) ≡ Some n)
              × (row.0.stamp ≡ stamp_of (file_by (state t k).files n))
          shown = listed-file (state t k) folder Tmp row.0 row.1

          there : file_at (state t (suc k)) (path_of folder Tmp v) ≡ Some shown.0
          there = ap (λ (s : State). file_at s (path_of folder Tmp v)) same
              ∙ ap (λ (u : List ℕ). file_at (state t k) (path_of folder Tmp u)) (sym row.3) ∙ shown.1

      goes-next : (c : Cleaning) (names : List (List ℕ)) (files : ℕ) →
          ((v : List ℕ) → Has names v → IsOldPath t (suc k) (tmp c v)) → (after_next c names files).answer ≡ None →
          StageOld t (suc k) (after_next c names files).task.folder (after_next c names files).task.stage
      goes-next c [] files all on = cc
      goes-next c (name ∷ rest) files all on = all

      -- after a turn with which it goes on
      abbrev Goes : Turn Cleaning → DirReply → Type 0
      Goes turn r = x.did ≡ asked turn.asked → (turn.follows r (rows_for turn.asked (state t k))).answer ≡ None →
          StageOld t (suc k) (turn.follows r (rows_for turn.asked (state t k))).task.folder
          (turn.follows r (rows_for turn.asked (state t k))).task.stage

      pub old-goes : (c : Cleaning) (stage : Stage) → StageOld t k c.folder stage → (r : DirReply) → Goes (stage_turn c x.at.own stage) r
      old-goes c Look old reply.Ok did on =
          let names = old_names x.at.own (rows_of (state t k) c.folder Tmp) in
          goes-next c names (length names)
          (listed-old c.folder (lists-nothing t story k x is (call.Clean c.folder) c.folder Tmp did x.reply refl)) on
      old-goes c Look old reply.Exists did on = cc
      old-goes c Look old reply.NotFound did on = cc
      old-goes c Look old reply.Fault did on = cc
      old-goes c (Remove name rest files) old reply.Ok did on =
          goes-next c rest files (λ v has. path-stays (tmp c v) refl (old v (inr has))) on
      old-goes c (Remove name rest files) old reply.NotFound did on =
          goes-next c rest (files - 1) (λ v has. path-stays (tmp c v) refl (old v (inr has))) on
      old-goes c (Remove name rest files) old reply.Exists did on = cc
      old-goes c (Remove name rest files) old reply.Fault did on = cc

  -- ---- no young file

  takes-old : (p : Path) → IsOldPath t k p → ((q : Path) → q ≢ p → file_at (state t (suc k)) q ≡ file_at (state t k) q) →
      CleanedEarly (next_at t k x) → ⊥
  takes-old p o others early = by_path early.1 p
      (λ one.
      let was : file_at (state t k) p ≡ Some early.2 =
      ap (file_at (state t k)) (sym one) ∙ sym (path-history t story k early.1) ∙ early.6.0 in
      let here = some_file (file_by (state t k).files early.2) (sound.filed p early.2 was) in
      let bare : bare_file (Some here.0) ≡ Some early.3 =
      ap bare_file (sym here.1) ∙ sym (ap (λ (s : State). file_by s.files early.2) (at-history t story k)
      ∙ file-bare (state t k).files early.2) ∙ early.9 in
      let stamp : here.0.stamp ≡ early.3.stamp =
      (let e : record here.0 { bytes = [] } ≡ early.3 = cc in ap (λ (f : File). f.stamp) e) in
      let late = o.old here.0 (ap (file_by (state t k).files) (sym (o.only early.2 was)) ∙ here.1) in
      let young = early.10 in
      let rises = clock-before t story k x is in
      let clock = clock-next t story k x is in
      omega (arith, late, stamp, young, rises, clock))
      (λ differ. early.6.1 (path-next t story k x is early.1 ∙ others early.1 differ ∙ sym (path-history t story k early.1) ∙ early.6.0))

  pub never-early : (c : Cleaning) (stage : Stage) → StageOld t k c.folder stage → x.did ≡ asked (stage_turn c x.at.own stage).asked →
      CleanedEarly (next_at t k x) → ⊥
  never-early c Look old did early =
      let same = lists-nothing t story k x is (call.Clean c.folder) c.folder Tmp did x.reply refl in
      early.6.1 (path-next t story k x is early.1 ∙ ap (λ (s : State). file_at s early.1) same
      ∙ sym (path-history t story k early.1) ∙ early.6.0)
  never-early c (Remove name rest files) old did early = takes-old (tmp c name) (old name (inl refl))
      (λ q differ. ap (λ (s : State). file_at s q) (leaves t story k x is (call.Clean c.folder) (unlink (tmp c name)) x.reply did refl)
      ∙ unlink-others (state t k) (tmp c name) x.at.clock x.reply q differ)
      early
