-- What each call answers and leaves, of paths as a finite map and files with the counts of their names.
use Rattle.std.proofs.Common.{ℕ, zero, suc, ◌≡◌, ◌≢◌, ◌+◌, ◌<◌, ◌++◌, ◌==◌, inl, inr, List, [], ◌∷◌, Option, Some, None, Bool, true, false, cond, Ok, Err, refl, sym, ap, subst, ◌∙◌, arith, length, map, slice_set, get_or, IsSome, is_some, is_none, MatchOption, filter, slice_get}
use Rattle.std.proofs.lemmas.Bool.{lt-ltb}
use Rattle.std.proofs.lemmas.Bool.Decides.{nat_tests}
use Rattle.std.proofs.lemmas.List.{map-append, map-set}
use Rattle.std.proofs.lemmas.Option.{slice_get-get_or}
use Rattle.std.specs.Option.{option_map}
use Rattle.std.specs.FinMap as finmap
use Rattle.std.specs.FinMap.{entries, same_map}
use Rattle.md_dirs.specs.Path.{path_cmp}
use Rattle.md_dirs.specs.State.{State, IsSound, file_by, file_at, bare}
use Rattle.md_dirs.specs.Calls.{Obeys, with_new_file, append, link, rename, unlink, after_append, file_with_more, with_path, without_path, after_rename, is_one_file, with_files_still_named, files_still_named, after_unlink as dirs_without}
use Rattle.md_dirs.specs.Rows.{is_in, rows_of}
use Rattle.md_dirs.specs.Index.{PathMap, rows_in, named_row}
use Rattle.md_dirs.specs.Files.{files_of, slot_at, names_held, paths_of, IsCounted, kept_state, grown_slot, named_again, let_go, name_row}
use Rattle.md_dirs.specs.declared.paths.Path.{Path}
use Rattle.md_dirs.specs.declared.paths.Place.{Place}
use Rattle.md_dirs.specs.declared.paths.File.{File}
use Rattle.md_dirs.specs.declared.files.Kept.{Kept}
use Rattle.md_dirs.specs.declared.calls.DirError.TheVariants.{NotFound}
use Rattle.md_dirs.proofs.PathOrder.{path_total, path_exact}
use Rattle.lists.proofs.Maps as maps
use Rattle.lists.proofs.Members.{Has, has-get}
use Rattle.std.proofs.lemmas.Option.{slice_get-map}
use Rattle.md_dirs.proofs.Looked.{rows-named}
use Rattle.md_dirs.proofs.Kept.{sure, made, refused}
use Rattle.md_dirs.proofs.Sound.{by_path, by_number, file-within, sound-bare, sound-placed, sound-appended, sound-named, sound-without, sound-moved}
use Rattle.md_dirs.proofs.Steps.{link-refusal, rename-refusal}
use Rattle.md_dirs.proofs.Counted.{hits, paths-insert, paths-remove, length-files, file-slot, slot-set_same, slot-set_other, slot-last, slot-early, held-none, let_go-counted, let_go-files}

one-hit : (n m : ℕ) → n ≡ m → hits n (Some m) ≡ 1
one-hit n m same = let t : (m == n) ≡ true = grind (arith, nat_tests) in ap (λ b. cond b 1 0) t

no-hit : (n m : ℕ) → n ≢ m → hits n (Some m) ≡ 0
no-hit n m differ = let t : (m == n) ≡ false = grind (arith, nat_tests) in ap (λ b. cond b 1 0) t

-- nothing there
pub absent : (o : Option ℕ) → is_none o ≡ true → o ≡ None
absent None is = refl
absent (Some n) is = cc

-- no file
pub counted-none : (folders : ℕ) (names : PathMap) (slots : List (Option Kept)) → names ≡ finmap.empty → slots ≡ [] → IsCounted folders names slots
counted-none folders names slots none none' =
    let bare-is : kept_state folders names slots ≡ bare folders = (λ i. record { folders = folders; names = none i; files = files_of (none' i) }) in
    record {
      sound = subst IsSound (sym bare-is) (sound-bare folders);
      counted = λ n. zeros n;
    }
  where
    zeros : (n : ℕ) → paths_of names n ≡ names_held (slot_at slots n)
    zeros n =
        (λ i. paths_of (none i) n) ∙ ap (λ es. length (filter (λ (e : Path × ℕ). e.1 == n) es)) (maps.entries-empty path_cmp) ∙ sym (λ i. names_held (slot_at (none' i) n))

pub remove-absent : (m : PathMap) (p : Path) → finmap.get m p ≡ None → finmap.remove m p ≡ m
remove-absent m p none = maps.drop-absent path_total path_exact m p none

swap-names : (m : PathMap) (o n : Path) (k : ℕ) → o ≢ n → finmap.remove (finmap.insert m n k) o ≡ finmap.insert (finmap.remove m o) n k
swap-names m o n k differ = same_map path_total path_exact _ _ (λ q. by_path q o
    (λ one. maps.at_drop path_total path_exact (finmap.insert m n k) o q one
    ∙ sym (maps.beside_put path_total path_exact (finmap.remove m o) n q k (λ is. differ (sym one ∙ is)) ∙ maps.at_drop path_total path_exact m o q one))
    (λ not. maps.beside_drop path_total path_exact (finmap.insert m n k) o q not ∙ by_path q n
    (λ is. maps.at_put path_total path_exact m n q k is ∙ sym (maps.at_put path_total path_exact (finmap.remove m o) n q k is))
    (λ other. maps.beside_put path_total path_exact m n q k other ∙
    sym (maps.beside_put path_total path_exact (finmap.remove m o) n q k other ∙ maps.beside_drop path_total path_exact m o q not))))

module _ (folders : ℕ) (names : PathMap) (slots : List (Option Kept)) (whole : IsCounted folders names slots) where
  abbrev start : State
  start = kept_state folders names slots

  -- the file of a path is there
  pub slot-number : (p : Path) (n : ℕ) → finmap.get names p ≡ Some n → n < length slots
  slot-number p n at = let within = file-within (files_of slots) n (whole.sound.filed p n at) in omega (arith, length-files slots)

  pub slot-number_if : (p : Path) (o : Option ℕ) → finmap.get names p ≡ o → MatchOption o (Unit {0}) (λ n. n < length slots)
  slot-number_if p None at = tt
  slot-number_if p (Some n) at = slot-number p n at

  slot-filed : (p : Path) (n : ℕ) → finmap.get names p ≡ Some n → (k : Kept) × (slot_at slots n ≡ Some k)
  slot-filed p n at = by (slot_at slots n) refl
    where
      by : (s : Option Kept) → slot_at slots n ≡ s → (k : Kept) × (slot_at slots n ≡ Some k)
      by None is = let there = whole.sound.filed p n at in let none : file_by (files_of slots) n ≡ None =
          file-slot slots n ∙ ap (option_map (λ (k : Kept). k.file)) is in let no : is_some (file_by (files_of slots) n) ≡ false =
          ap is_some none in cc
      by (Some k) is = (k, is)

  -- a new file
  made-is : (p : Path) (file : File) →
      kept_state folders (finmap.insert names p (length slots)) (slots ++ Some (record { file = file; names = 1 }) ∷ []) ≡ with_new_file p file start
  made-is p file = λ i. record {
    folders = folders;
    names = finmap.insert names p (sym (length-files slots) i);
    files = map-append (option_map (λ (k : Kept). k.file)) slots (Some (record { file = file; names = 1 }) ∷ []) i;
  }

  pub counted-made : (p : Path) (file : File) → p.folder < folders → finmap.get names p ≡ None →
      IsCounted folders (finmap.insert names p (length slots)) (slots ++ Some (record { file = file; names = 1 }) ∷ [])
  counted-made p file within none = record {
    sound = subst IsSound (sym (made-is p file)) (sound-placed start whole.sound p file within none);
    counted = λ n.
        let came : paths_of (finmap.insert names p (length slots)) n ≡ paths_of names n + hits n (Some (length slots)) =
        sym (add-zero-to _) ∙ ap (λ o. paths_of (finmap.insert names p (length slots)) n + hits n o) (sym none) ∙
        paths-insert n names p (length slots) in
        by_number n (length slots)
        (λ same.
        let last : names_held (slot_at (slots ++ Some (record { file = file; names = 1 }) ∷ []) n) ≡ 1 =
        ap (λ k. names_held (slot_at (slots ++ Some (record { file = file; names = 1 }) ∷ []) k)) same ∙
        ap names_held (slot-last slots (Some (record { file = file; names = 1 }))) in
        let before : names_held (slot_at slots n) ≡ 0 = ap (λ k. names_held (slot_at slots k)) same ∙ held-none slots in
        omega (arith, whole.counted n, one-hit n (length slots) same))
        (λ differ.
        let early : names_held (slot_at (slots ++ Some (record { file = file; names = 1 }) ∷ []) n) ≡ names_held (slot_at slots n) =
        ap names_held (slot-early slots (Some (record { file = file; names = 1 })) n differ) in
        omega (arith, whole.counted n, no-hit n (length slots) differ));
  }
    where
      add-zero-to : (k : ℕ) → k + 0 ≡ k
      add-zero-to k = omega arith

  -- more bytes
  grown-file : (more : List ℕ) (now : ℕ) (s : Option Kept) →
      option_map (λ (k : Kept). k.file) (grown_slot more now s) ≡ file_with_more more now (option_map (λ (k : Kept). k.file) s)
  grown-file more now None = refl
  grown-file more now (Some k) = refl

  grown-names : (more : List ℕ) (now : ℕ) (s : Option Kept) → names_held (grown_slot more now s) ≡ names_held s
  grown-names more now None = refl
  grown-names more now (Some k) = refl

  grown-is : (p : Path) (more : List ℕ) (now n : ℕ) → finmap.get names p ≡ Some n →
      kept_state folders names (slice_set slots n (grown_slot more now (slot_at slots n))) ≡ after_append more now start (file_at start p)
  grown-is p more now n at =
      (λ i. record start {
        files = (map-set (option_map (λ (k : Kept). k.file)) slots n (grown_slot more now (slot_at slots n))
            ∙ ap (slice_set (files_of slots) n) (grown-file more now (slot_at slots n) ∙ ap (file_with_more more now) (sym (file-slot slots n)))) i;
      })
      ∙ ap (after_append more now start) (sym at)

  pub append-done : (p : Path) (more : List ℕ) (now n k k' : ℕ) → finmap.get names p ≡ Some n → k' ≡ k + 1 →
      Obeys {T = Unit {0}} (append p more now) (sure start k) (Ok tt)
      (sure (kept_state folders names (slice_set slots n (grown_slot more now (slot_at slots n)))) k')
  append-done p more now n k k' at counted =
      made _ _ _ _ k k' (ap (λ x. cond (is_some x) None (Some NotFound)) at) (grown-is p more now n at) counted

  pub counted-grown : (p : Path) (more : List ℕ) (now n : ℕ) → finmap.get names p ≡ Some n →
      IsCounted folders names (slice_set slots n (grown_slot more now (slot_at slots n)))
  counted-grown p more now n at = record {
    sound = subst IsSound (sym (grown-is p more now n at)) (sound-appended start whole.sound more now (file_at start p));
    counted = λ m. whole.counted m ∙ by_number m n
        (λ same.
        ap (λ k. names_held (slot_at slots k)) same ∙ sym (grown-names more now (slot_at slots n))
        ∙ sym (ap (λ k. names_held (slot_at (slice_set slots n (grown_slot more now (slot_at slots n))) k)) same ∙
        ap names_held (slot-set_same slots n (grown_slot more now (slot_at slots n)) (slot-number p n at))))
        (λ differ. sym (ap names_held (slot-set_other slots n m (grown_slot more now (slot_at slots n)) differ)));
  }

  -- one more name
  linked-is : (o p : Path) (n : ℕ) → finmap.get names o ≡ Some n →
      kept_state folders (finmap.insert names p n) (slice_set slots n (named_again (slot_at slots n))) ≡ with_path p start (Some n)
  linked-is o p n at =
      let filed = slot-filed o n at in
      (λ i. record {
        folders = folders;
        names = finmap.insert names p n;
        files = (map-set (option_map (λ (k : Kept). k.file)) slots n (named_again (slot_at slots n))
            ∙ ap (λ s. slice_set (files_of slots) n (option_map (λ (k : Kept). k.file) (named_again s))) filed.1
            ∙ set-file (files_of slots) n filed.0.file (file-slot slots n ∙ ap (option_map (λ (k : Kept). k.file)) filed.1)) i;
      })
    where
      set-file : (files : List (Option File)) (i : ℕ) (file : File) → file_by files i ≡ Some file → slice_set files i (Some file) ≡ files
      set-file [] i file is = refl
      set-file (f ∷ fs) zero file is = ap (λ g. g ∷ fs) (sym is)
      set-file (f ∷ fs) (suc i) file is = ap (λ gs. f ∷ gs) (set-file fs i file is)

  pub link-done : (o p : Path) (n k k' : ℕ) → finmap.get names o ≡ Some n → p.folder < folders → finmap.get names p ≡ None → k' ≡ k + 1 →
      Obeys {T = Unit {0}} (link o p) (sure start k) (Ok tt)
      (sure (kept_state folders (finmap.insert names p n) (slice_set slots n (named_again (slot_at slots n)))) k')
  link-done o p n k k' at within none counted =
      made _ _ _ _ k k' (link-refusal o p start (Some n) true None at (lt-ltb _ _ within) none)
      (linked-is o p n at ∙ ap (with_path p start) (sym at)) counted

  pub counted-linked : (o p : Path) (n : ℕ) → finmap.get names o ≡ Some n → p.folder < folders → finmap.get names p ≡ None →
      IsCounted folders (finmap.insert names p n) (slice_set slots n (named_again (slot_at slots n)))
  counted-linked o p n at within none = record {
    sound = subst IsSound (sym (linked-is o p n at)) (sound-named start whole.sound p o n within none at);
    counted = λ m.
        let came : paths_of (finmap.insert names p n) m + 0 ≡ paths_of names m + hits m (Some n) =
        ap (λ o. paths_of (finmap.insert names p n) m + hits m o) (sym none) ∙ paths-insert m names p n in
        by_number m n
        (λ same.
        let filed = slot-filed o n at in
        let again : names_held (slot_at (slice_set slots n (named_again (slot_at slots n))) m) ≡ filed.0.names + 1 =
        ap (λ k. names_held (slot_at (slice_set slots n (named_again (slot_at slots n))) k)) same ∙
        ap names_held (slot-set_same slots n (named_again (slot_at slots n)) (slot-number o n at) ∙ ap named_again filed.1) in
        let before : names_held (slot_at slots m) ≡ filed.0.names = ap (λ k. names_held (slot_at slots k)) same ∙ ap names_held filed.1 in
        omega (arith, whole.counted m, one-hit m n same))
        (λ differ.
        let other : names_held (slot_at (slice_set slots n (named_again (slot_at slots n))) m) ≡ names_held (slot_at slots m) =
        ap names_held (slot-set_other slots n m (named_again (slot_at slots n)) differ) in
        omega (arith, whole.counted m, no-hit m n differ));
  }

  -- one name less
  left : (p : Path) (n : ℕ) → finmap.get names p ≡ Some n → (m : ℕ) → paths_of (finmap.remove names p) m + hits m (Some n) ≡ names_held (slot_at slots m)
  left p n at m = ap (λ o. paths_of (finmap.remove names p) m + hits m o) (sym at) ∙ paths-remove m names p ∙ whole.counted m

  unlinked-is : (p : Path) (n : ℕ) → finmap.get names p ≡ Some n → kept_state folders (finmap.remove names p) (let_go (Some n) slots) ≡ dirs_without p start
  unlinked-is p n at = λ i. record {
    folders = folders;
    names = finmap.remove names p;
    files = (let_go-files (finmap.remove names p) slots (Some n) (left p n at) ∙
        ap (λ o. files_still_named (entries (finmap.remove names p)) o (files_of slots)) (sym at)) i;
  }

  pub unlink-done : (p : Path) (n k k' : ℕ) → finmap.get names p ≡ Some n → k' ≡ k + 1 →
      Obeys {T = Unit {0}} (unlink p) (sure start k) (Ok tt) (sure (kept_state folders (finmap.remove names p) (let_go (Some n) slots)) k')
  unlink-done p n k k' at counted = made _ _ _ _ k k' (ap (λ x. cond (is_some x) None (Some NotFound)) at) (unlinked-is p n at) counted

  pub counted-unlinked : (p : Path) (n : ℕ) → finmap.get names p ≡ Some n → IsCounted folders (finmap.remove names p) (let_go (Some n) slots)
  counted-unlinked p n at = record {
    sound = subst IsSound (sym (unlinked-is p n at)) (sound-without start whole.sound p);
    counted = let_go-counted (finmap.remove names p) slots (Some n) (left p n at);
  }

  pub unlink-nothing : (p : Path) (k k' : ℕ) → finmap.get names p ≡ None → k' ≡ k + 1 →
      Obeys {T = Unit {0}} (unlink p) (sure start k) (Err NotFound) (sure (kept_state folders (finmap.remove names p) slots) k')
  unlink-nothing p k k' none counted =
      subst (λ (m : PathMap). Obeys {T = Unit {0}} (unlink p) (sure start k) (Err NotFound) (sure (kept_state folders m slots) k'))
      (sym (remove-absent names p none)) (refused _ _ k k' (ap (λ x. cond (is_some x) None (Some NotFound)) none) counted)

  pub counted-nothing : (p : Path) → finmap.get names p ≡ None → IsCounted folders (finmap.remove names p) slots
  counted-nothing p none = subst (λ (m : PathMap). IsCounted folders m slots) (sym (remove-absent names p none)) whole

  -- another name
  apart : (o n : Path) (k : ℕ) → finmap.get names o ≡ Some k → is_one_file (Some k) (finmap.get names n) ≡ false → o ≢ n
  apart o n k at differ same =
      let one : is_one_file (Some k) (finmap.get names n) ≡ (k == k) = ap (is_one_file (Some k)) (ap (finmap.get names) (sym same) ∙ at) in
      let t : (k == k) ≡ true = grind (arith, nat_tests) in cc

  shifted : (o n : Path) (k : ℕ) (there : Option ℕ) → finmap.get names o ≡ Some k → finmap.get names n ≡ there → o ≢ n → (m : ℕ) →
      paths_of (finmap.insert (finmap.remove names o) n k) m + hits m there ≡ names_held (slot_at slots m)
  shifted o n k there at is differ m =
      let beside : finmap.get (finmap.remove names o) n ≡ there = maps.beside_drop path_total path_exact names o n (λ e. differ (sym e)) ∙ is in
      ap (λ x. paths_of (finmap.insert (finmap.remove names o) n k) m + hits m x) (sym beside) ∙ paths-insert m (finmap.remove names o) n k
      ∙ ap (λ x. paths_of (finmap.remove names o) m + hits m x) (sym at) ∙ paths-remove m names o ∙ whole.counted m

  moved-is : (o n : Path) (k : ℕ) (there : Option ℕ) → finmap.get names o ≡ Some k → finmap.get names n ≡ there → is_one_file (Some k) there ≡ false →
      kept_state folders (finmap.insert (finmap.remove names o) n k) (let_go there slots) ≡ after_rename o n start
  moved-is o n k there at is differ =
      let not = apart o n k at (ap (is_one_file (Some k)) is ∙ differ) in
      (λ i. record {
        folders = folders;
        names = finmap.insert (finmap.remove names o) n k;
        files = let_go-files (finmap.insert (finmap.remove names o) n k) slots there (shifted o n k there at is not) i;
      })
      ∙ sym (λ i. cond (by i) start (with_files_still_named (is i) (with_path n (without_path o start) (at i))))
    where
      by : is_one_file (finmap.get names o) (finmap.get names n) ≡ false
      by = (λ i. is_one_file (at i) (is i)) ∙ differ

  pub rename-done : (o n : Path) (k : ℕ) (there : Option ℕ) (calls calls' : ℕ) → finmap.get names o ≡ Some k → n.folder < folders →
      finmap.get names n ≡ there → is_one_file (Some k) there ≡ false → calls' ≡ calls + 1 →
      Obeys {T = Unit {0}} (rename o n) (sure start calls) (Ok tt)
      (sure (kept_state folders (finmap.remove (finmap.insert names n k) o) (let_go there slots)) calls')
  rename-done o n k there calls calls' at within is differ counted =
      made _ _ _ _ calls calls' (rename-refusal o n start (Some k) true at (lt-ltb _ _ within))
      (ap (λ (m : PathMap). kept_state folders m (let_go there slots))
      (swap-names names o n k (apart o n k at (ap (is_one_file (Some k)) is ∙ differ))) ∙ moved-is o n k there at is differ) counted

  pub counted-moved : (o n : Path) (k : ℕ) (there : Option ℕ) → finmap.get names o ≡ Some k → n.folder < folders → finmap.get names n ≡ there →
      is_one_file (Some k) there ≡ false → IsCounted folders (finmap.remove (finmap.insert names n k) o) (let_go there slots)
  counted-moved o n k there at within is differ =
      let not = apart o n k at (ap (is_one_file (Some k)) is ∙ differ) in
      subst (λ (m : PathMap). IsCounted folders m (let_go there slots)) (sym (swap-names names o n k not))
      (record {
        sound = subst IsSound (sym (moved-is o n k there at is differ)) (sound-moved start whole.sound o n k within at);
        counted = let_go-counted (finmap.insert (finmap.remove names o) n k) slots there (shifted o n k there at is not);
      })

  -- what directories show of their rows
  pub rows-shown : (folder : ℕ) (place : Place) → rows_of start folder place ≡ map (name_row (files_of slots)) (rows_in names folder place)
  rows-shown = rows-named start

  filed-in : (p : Path × ℕ → Bool) (es : List (Path × ℕ)) → ((x : Path × ℕ) → Has es x → IsSome (file_by (files_of slots) x.1)) →
      (i : ℕ) (r : List ℕ × ℕ) → slice_get (map named_row (filter p es)) i ≡ Some r → IsSome (file_by (files_of slots) r.1)
  filed-in p [] filed i r is = cc
  filed-in p (e ∷ es) filed i r is = at (λ j is'. filed-in p es (λ x among. filed x (inr among)) j r is') (p e) i is
    where
      at : ((j : ℕ) → slice_get (map named_row (filter p es)) j ≡ Some r → IsSome (file_by (files_of slots) r.1)) → (b : Bool) (j : ℕ) →
          slice_get (map named_row (cond b (e ∷ filter p es) (filter p es))) j ≡ Some r → IsSome (file_by (files_of slots) r.1)
      at rest true zero h = let number : e.1 ≡ r.1 =
          (let pair : (e.0.name, e.1) ≡ r = cc in ap (λ (x : List ℕ × ℕ). x.1) pair) in subst (λ n. IsSome (file_by (files_of slots) n)) number
          (filed e (inl refl))
      at rest true (suc j) h = rest j h
      at rest false j h = rest j h

  each-filed : (x : Path × ℕ) → Has (entries names) x → IsSome (file_by (files_of slots) x.1)
  each-filed x among = whole.sound.filed x.0 x.1 (has-get path_total path_exact names x among)

  -- each row has a file
  pub row-filed : (folder : ℕ) (place : Place) (i : ℕ) (r : List ℕ × ℕ) → slice_get (rows_in names folder place) i ≡ Some r →
      IsSome (file_by (files_of slots) r.1)
  row-filed folder place = filed-in (λ e. is_in folder place e.0) (entries names) each-filed

  pub all-filed : (folder : ℕ) (place : Place) (k : ℕ) (d : List ℕ × ℕ) → k < length (rows_in names folder place) →
      IsSome (file_by (files_of slots) (get_or (rows_in names folder place) k d).1)
  all-filed folder place k d within = row-filed folder place k _ (slice_get-get_or (rows_in names folder place) k d within)

  pub row-shown : (folder : ℕ) (place : Place) (i : ℕ) (o : Option (List ℕ × ℕ)) → slice_get (rows_in names folder place) i ≡ o →
      option_map (name_row (files_of slots)) o ≡ slice_get (rows_of start folder place) i
  row-shown folder place i o is =
      ap (option_map (name_row (files_of slots))) (sym is) ∙ sym (slice_get-map (name_row (files_of slots)) (rows_in names folder place) i) ∙
      ap (λ rows. slice_get rows i) (sym (rows-shown folder place))
