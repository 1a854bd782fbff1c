-- How the counts of paths change with a call: the path that comes to name a file is counted anew, and what it named before and the path
-- that is taken away no longer are.
use Rattle.std.proofs.Common.{ℕ, ◌≡◌, ◌≢◌, ◌+◌, ◌==◌, cond, not, List, [], ◌∷◌, Option, Some, None, Bool, true, false, T, refl, sym, ap, ◌∙◌, length, arith}
use Rattle.std.specs.List.{count_by}
use Rattle.std.specs.FinMap as finmap
use Rattle.std.specs.FinMap.{find, put, is_sorted, entries_sorted, entries-insert, get-entries}
use Rattle.std.specs.FinMap.Entries.{by_order, where_key}
use Rattle.std.specs.Cmp.{Equal-is}
use Rattle.std.specs.Ordering.{eq_by_cmp, is_eq}
use Rattle.std.specs.declared.cmp.Ordering.{Ordering}
use Rattle.std.specs.declared.cmp.Ordering.TheVariants.{Less, Equal, Greater}
use Rattle.std.proofs.lemmas.List.Sums.{sum_by-cons}
use Rattle.std.proofs.lemmas.Bool.Decides.{Decides-eqb}
use Rattle.md_dirs.specs.Path.{path_cmp}
use Rattle.md_dirs.specs.State.{State, file_at}
use Rattle.md_dirs.specs.Calls.{without_path, with_path, after_rename, after_append, is_one_file, with_files_still_named}
use Rattle.md_dirs.specs.declared.paths.Path.{Path}
use Rattle.md_dirs.proofs.PathOrder.{path_total, path_exact}
use Rattle.lists.proofs.Booleans.{first, second}
use Rattle.lists.proofs.Maps as maps
use Rattle.lists.proofs.Members.{find-above, below-trans}
use Rattle.md_log.specs.declared.line.Call.{Call}
use Rattle.md_log.specs.declared.line.Call.TheVariants as call
use Rattle.md_log.specs.declared.line.Deed.TheVariants as deed
use Rattle.md_log.specs.declared.line.Naming.TheVariants as naming
use Rattle.md_log.specs.declared.line.Reply.TheVariants as reply
use Rattle.md_law.specs.History.{after_call}
use Rattle.md_monitor.specs.Changes.{Change, no_change, change_of, naming_change, with_file, turned_by, is_file}
use Rattle.md_monitor.specs.Files.{is_some_and, count_where}
use Rattle.md_monitor.proofs.Tests.{file-is}

module _ (test : Path × ℕ → Bool) where
  abbrev one : Bool → ℕ
  one b = cond b 1 0

  -- what a path counts that has this file
  abbrev weight : Path → Option ℕ → ℕ
  weight p file = one (is_some_and (with_file p file) test)

  more : (e : Path × ℕ) (es : List (Path × ℕ)) → count_by test (e ∷ es) ≡ one (test e) + count_by test es
  more e es = sum_by-cons (λ x. one (test x)) e es

  -- ---- lists of paths in order

  putting : (k : Path) (v : ℕ) (es : List (Path × ℕ)) → T (is_sorted path_cmp es)
      → count_by test (put path_cmp k v es) + weight k (find path_cmp k es) ≡ count_by test es + one (test (k, v))
  putting k v [] sorted = let size = more (k, v) [] in omega (arith, size)
  putting k v (e ∷ es) sorted = by (putting k v es (second _ _ sorted)) (path_cmp k e.0) refl
    where
      by : count_by test (put path_cmp k v es) + weight k (find path_cmp k es) ≡ count_by test es + one (test (k, v))
          → (o : Ordering) → path_cmp k e.0 ≡ o
          → count_by test (by_order o ((k, v) ∷ e ∷ es) ((e.0, v) ∷ es) (e ∷ put path_cmp k v es))
          + weight k (cond (is_eq o) (Some e.1) (find path_cmp k es)) ≡ count_by test (e ∷ es) + one (test (k, v))
      by rest Less is =
          let none : find path_cmp k es ≡ None = find-above path_cmp k es (below-trans path_total k e.0 es is (first _ _ sorted)) in
          let nothing : weight k (find path_cmp k es) ≡ 0 = ap (weight k) none in
          let size = more (k, v) (e ∷ es) in
          omega (arith, size, nothing)
      by rest Equal is =
          let same = path_exact k e.0 is in
          let new : one (test (e.0, v)) ≡ one (test (k, v)) = ap (λ (q : Path). one (test (q, v))) (sym same) in
          let old : one (test (k, e.1)) ≡ one (test e) = ap (λ (q : Path). one (test (q, e.1))) same in
          let size = more (e.0, v) es in
          let was = more e es in
          omega (arith, size, was, new, old)
      by rest Greater is =
          let size = more e (put path_cmp k v es) in
          let was = more e es in
          omega (arith, size, was, rest)

  dropping : (k : Path) (es : List (Path × ℕ)) → T (is_sorted path_cmp es)
      → count_by test (where_key path_cmp (λ x. not (eq_by_cmp path_cmp k x)) es) + weight k (find path_cmp k es) ≡ count_by test es
  dropping k [] sorted = omega arith
  dropping k (e ∷ es) sorted = by (dropping k es (second _ _ sorted)) (eq_by_cmp path_cmp k e.0) refl
    where
      kept : List (Path × ℕ)
      kept = where_key path_cmp (λ x. not (eq_by_cmp path_cmp k x)) es

      by : count_by test kept + weight k (find path_cmp k es) ≡ count_by test es → (b : Bool) → eq_by_cmp path_cmp k e.0 ≡ b
          → count_by test (cond (not b) (e ∷ kept) kept) + weight k (cond b (Some e.1) (find path_cmp k es)) ≡ count_by test (e ∷ es)
      by rest true is =
          let same = path_exact k e.0 ((Equal-is _).0 is) in
          let none : find path_cmp k es ≡ None = ap (λ (q : Path). find path_cmp q es) same
          ∙ find-above path_cmp e.0 es (first _ _ sorted) in
          let nothing : weight k (find path_cmp k es) ≡ 0 = ap (weight k) none in
          let old : one (test (k, e.1)) ≡ one (test e) = ap (λ (q : Path). one (test (q, e.1))) same in
          let was = more e es in
          omega (arith, rest, nothing, old, was)
      by rest false is =
          let size = more e kept in
          let was = more e es in
          omega (arith, size, was, rest)

  -- ---- paths of directories

  pub put-count : (s : State) (q : Path) (n : ℕ)
      → count_where test (record s { names = finmap.insert s.names q n }) + weight q (file_at s q) ≡ count_where test s + one (test (q, n))
  put-count s q n =
      ap (λ es. count_by test es + weight q (file_at s q)) (entries-insert path_total s.names q n)
      ∙ ap (λ o. count_by test (put path_cmp q n (finmap.entries s.names)) + weight q o) (get-entries s.names q)
      ∙ putting q n (finmap.entries s.names) (entries_sorted s.names)

  pub drop-count : (s : State) (q : Path) → count_where test (without_path q s) + weight q (file_at s q) ≡ count_where test s
  drop-count s q =
      ap (λ es. count_by test es + weight q (file_at s q)) (maps.entries-remove path_total path_exact s.names q)
      ∙ ap (λ o. count_by test (where_key path_cmp (λ x. not (eq_by_cmp path_cmp q x)) (finmap.entries s.names)) + weight q o)
      (get-entries s.names q)
      ∙ dropping q (finmap.entries s.names) (entries_sorted s.names)

  -- ---- calls

  -- The count after a change, with what the change took away, is the count before it, with what it named.
  abbrev Recounts : Change → State → State → Type 0
  Recounts c s s' = count_where test s' + (one (is_some_and c.taken test) + one (is_some_and (turned_by s c.named) test))
      ≡ count_where test s + one (is_some_and c.named test)

  recount-same : (s s' : State) → count_where test s' ≡ count_where test s → Recounts no_change s s'
  recount-same s s' same = omega (arith, same)

  -- a path comes to name a file, which it does not name yet
  recount-adds : (s : State) (q : Path) (n : ℕ) → Recounts (record { named = Some (q, n); taken = None }) s (with_path q s (Some n))
  recount-adds s q n = let size = put-count s q n in omega (arith, size)

  recount-link : (s : State) (q : Path) (file : Option ℕ) → Recounts (naming_change s q None file) s (with_path q s file)
  recount-link s q None = recount-same s s refl
  recount-link s q (Some n) = by (is_file (file_at s q) n) refl
    where
      by : (b : Bool) → is_file (file_at s q) n ≡ b
          → Recounts (cond b no_change (record { named = Some (q, n); taken = None })) s (with_path q s (Some n))
      by true is =
          let here : weight q (file_at s q) ≡ one (test (q, n)) = ap (weight q) ((file-is (file_at s q) n).0 is) in
          let size = put-count s q n in
          recount-same s (with_path q s (Some n)) (omega (arith, size, here))
      by false not = recount-adds s q n

  module _ (s : State) (o q : Path) where
    recount-moved : (n : ℕ) → file_at s o ≡ Some n → file_at s q ≢ Some n
        → Recounts (record { named = Some (q, n); taken = Some (o, n) }) s (with_path q (without_path o s) (Some n))
    recount-moved n is other =
        let beside : file_at (without_path o s) q ≡ file_at s q =
        maps.beside_drop path_total path_exact s.names o q (λ same. other (ap (file_at s) same ∙ is)) in
        let same : weight q (file_at (without_path o s) q) ≡ weight q (file_at s q) = ap (weight q) beside in
        let gone : weight o (file_at s o) ≡ one (test (o, n)) = ap (weight o) is in
        let less = drop-count s o in
        let size = put-count (without_path o s) q n in
        omega (arith, same, gone, less, size)

    recount-rename : Recounts (naming_change s q (with_file o (file_at s o)) (file_at s o)) s (after_rename o q s)
    recount-rename = by (file_at s o) refl
      where
        by_test : (n m : ℕ) → file_at s o ≡ Some n → file_at s q ≡ Some m → (b : Bool) → (n == m) ≡ b
            → Recounts (cond b no_change (record { named = Some (q, n); taken = Some (o, n) })) s
            (cond b s (with_files_still_named (Some m) (with_path q (without_path o s) (Some n))))
        by_test n m is at true same = recount-same s s refl
        by_test n m is at false other = recount-moved n is (λ some. let t = (Decides-eqb n m).1 (cc) in cc)

        by_file : (n : ℕ) → file_at s o ≡ Some n → (to : Option ℕ) → file_at s q ≡ to
            → Recounts (cond (is_file to n) no_change (record { named = Some (q, n); taken = Some (o, n) })) s
            (cond (is_one_file (Some n) to) s (with_files_still_named to (with_path q (without_path o s) (Some n))))
        by_file n is None at = recount-moved n is (λ some. cc)
        by_file n is (Some m) at = by_test n m is at (n == m) refl

        by : (from : Option ℕ) → file_at s o ≡ from → Recounts (naming_change s q (with_file o from) from) s
            (cond (is_one_file from (file_at s q)) s (with_files_still_named (file_at s q) (with_path q (without_path o s) from)))
        by None is =
            let same : count_where test (without_path o s) ≡ count_where test s =
            ap (λ names. count_by test (finmap.entries names)) (maps.drop-absent path_total path_exact s.names o is) in
            recount-same s (without_path o s) same
        by (Some n) is = by_file n is (file_at s q) refl

  written : (s : State) (now : ℕ) (file : Option ℕ) → Recounts no_change s (after_append [] now s file)
  written s now None = recount-same s s refl
  written s now (Some n) = recount-same s (after_append [] now s (Some n)) refl

  -- how a call changes a count of paths
  pub recount : (s : State) (c : Call) (now : ℕ) → Recounts (change_of s c) s (after_call c now s)
  recount s (call.At deed.Create p reply.Ok) now = recount-link s p (Some (length s.files))
  recount s (call.At deed.Unlink p reply.Ok) now = let less = drop-count s p in omega (arith, less)
  recount s (call.At deed.Write p reply.Ok) now = written s now (file_at s p)
  recount s (call.At deed.Flush p reply.Ok) now = recount-same s s refl
  recount s (call.Between naming.Link old new reply.Ok) now = recount-link s new (file_at s old)
  recount s (call.Between naming.Rename old new reply.Ok) now = recount-rename s old new
  recount s c now = recount-same s s refl
