-- The count of a file's names, as paths come and go.
use Rattle.std.proofs.Common.{ℕ, zero, suc, ◌≡◌, ◌≢◌, ◌+◌, ◌-◌, ◌<◌, ◌≤◌, ◌++◌, ◌==◌, ◌||◌, List, [], ◌∷◌, Option, Some, None, Bool, true, false, cond, not, T, nat_le, refl, sym, ap, subst, ◌∙◌, arith, length, slice_get, slice_set, filter}
use Rattle.std.proofs.lemmas.Bool.Decides.{nat_tests}
use Rattle.std.specs.Option.{option_map, option_flatten}
use Rattle.std.specs.declared.cmp.Ordering.{Ordering}
use Rattle.std.specs.declared.cmp.Ordering.TheVariants.{Less, Equal, Greater}
use Rattle.std.specs.Ordering.{eq_by_cmp, is_eq}
use Rattle.std.specs.FinMap as finmap
use Rattle.std.specs.FinMap.{find, is_sorted, entries, entries_sorted, get-entries, entries-insert}
use Rattle.std.specs.FinMap.Entries.{put, where_key, below_all, by_order}
use Rattle.md_dirs.specs.Path.{path_cmp}
use Rattle.md_dirs.specs.State.{file_by}
use Rattle.md_dirs.specs.Calls.{has_path_to, files_still_named}
use Rattle.md_dirs.specs.Index.{PathMap}
use Rattle.md_dirs.specs.Files.{files_of, slot_at, names_held, paths_of, named_less, let_go}
use Rattle.md_dirs.specs.declared.paths.Path.{Path}
use Rattle.md_dirs.specs.declared.paths.File.{File}
use Rattle.md_dirs.specs.declared.files.Kept.{Kept}
use Rattle.md_dirs.proofs.PathOrder.{path_total, path_exact}
use Rattle.lists.proofs.Maps.{entries-remove}
use Rattle.md_dirs.proofs.Sound.{by_number, get-set_same, get-set_other}
use Rattle.lists.proofs.Booleans.{first, second}
use Rattle.lists.proofs.Members.{find-above, below-trans}
use Rattle.md_dirs.proofs.Sorted.{where-above}
use Rattle.std.proofs.lemmas.List.{length-map, map-set}

-- one, where a path names the file of a number
abbrev pub hits : ℕ → Option ℕ → ℕ
hits n None = 0
hits n (Some m) = cond (m == n) 1 0

counted : ℕ → List (Path × ℕ) → ℕ
counted n [] = 0
counted n (e ∷ es) = cond (e.1 == n) 1 0 + counted n es

counted-is : (n : ℕ) (es : List (Path × ℕ)) → length (filter (λ e. e.1 == n) es) ≡ counted n es
unfolding counted
counted-is n [] = refl
counted-is n (e ∷ es) = by (e.1 == n) ∙ ap (λ k. cond (e.1 == n) 1 0 + k) (counted-is n es)
  where
    by : (b : Bool) → length (cond b (e ∷ filter (λ x. x.1 == n) es) (filter (λ x. x.1 == n) es)) ≡ cond b 1 0 + length (filter (λ x. x.1 == n) es)
    by true = omega arith
    by false = omega arith

tied-above : (p : Path) (e : Path × ℕ) (es : List (Path × ℕ)) → path_cmp p e.0 ≡ Equal → T (below_all path_cmp e.0 es) → T (below_all path_cmp p es)
tied-above p e es is h = subst (λ (q : Path). T (below_all path_cmp q es)) (sym (path_exact p e.0 is)) h

-- a path that comes, in place of one or new
count-put : (n : ℕ) (p : Path) (v : ℕ) (es : List (Path × ℕ)) → T (is_sorted path_cmp es) →
    counted n (put path_cmp p v es) + hits n (find path_cmp p es) ≡ counted n es + hits n (Some v)
unfolding counted
count-put n p v [] h = omega arith
count-put n p v (e ∷ es) h = by (count-put n p v es (second _ _ h)) (path_cmp p e.0) refl
  where
    by : counted n (put path_cmp p v es) + hits n (find path_cmp p es) ≡ counted n es + hits n (Some v) → (r : Ordering) → path_cmp p e.0 ≡ r →
        counted n (by_order r ((p, v) ∷ e ∷ es) ((e.0, v) ∷ es) (e ∷ put path_cmp p v es)) + hits n (cond (is_eq r) (Some e.1) (find path_cmp p es)) ≡
        counted n (e ∷ es) + hits n (Some v)
    by rest Less is = let none = find-above path_cmp p es (below-trans path_total p e.0 es is (first _ _ h)) in ap (λ o. counted n ((p, v) ∷ e ∷ es) + hits n o) none ∙ omega arith
    by rest Equal is = omega arith
    by rest Greater is = omega (arith, rest)

-- a path that goes
count-drop : (n : ℕ) (p : Path) (es : List (Path × ℕ)) → T (is_sorted path_cmp es) →
    counted n (where_key path_cmp (λ q. not (eq_by_cmp path_cmp p q)) es) + hits n (find path_cmp p es) ≡ counted n es
unfolding counted
count-drop n p [] h = refl
count-drop n p (e ∷ es) h = by (count-drop n p es (second _ _ h)) (path_cmp p e.0) refl
  where
    by : counted n (where_key path_cmp (λ q. not (eq_by_cmp path_cmp p q)) es) + hits n (find path_cmp p es) ≡ counted n es → (r : Ordering) →
        path_cmp p e.0 ≡ r →
        counted n (cond (not (is_eq r)) (e ∷ where_key path_cmp (λ q. not (eq_by_cmp path_cmp p q)) es)
        (where_key path_cmp (λ q. not (eq_by_cmp path_cmp p q)) es)) + hits n (cond (is_eq r) (Some e.1) (find path_cmp p es)) ≡ counted n (e ∷ es)
    by rest Less is = omega (arith, rest)
    by rest Equal is = let all = ap (counted n) (where-above path_total path_exact p es (tied-above p e es is (first _ _ h))) in omega (arith, all)
    by rest Greater is = omega (arith, rest)

pub paths-insert : (n : ℕ) (m : PathMap) (p : Path) (v : ℕ) → paths_of (finmap.insert m p v) n + hits n (finmap.get m p) ≡ paths_of m n + hits n (Some v)
paths-insert n m p v =
    (λ i. (ap (λ es. length (filter (λ e. e.1 == n) es)) (entries-insert path_total m p v) ∙ counted-is n _) i + hits n (get-entries m p i))
    ∙ count-put n p v (entries m) (entries_sorted m) ∙ ap (λ k. k + hits n (Some v)) (sym (counted-is n (entries m)))

pub paths-remove : (n : ℕ) (m : PathMap) (p : Path) → paths_of (finmap.remove m p) n + hits n (finmap.get m p) ≡ paths_of m n
paths-remove n m p =
    (λ i. (ap (λ es. length (filter (λ e. e.1 == n) es)) (entries-remove path_total path_exact m p) ∙ counted-is n _) i + hits n (get-entries m p i))
    ∙ count-drop n p (entries m) (entries_sorted m) ∙ sym (counted-is n (entries m))

-- whether some path names a file, by how many do
named-count : (n : ℕ) (es : List (Path × ℕ)) (b : Bool) → has_path_to es n ≡ b → cond b (0 < counted n es) (counted n es ≡ 0)
unfolding counted
named-count n [] true is = cc
named-count n [] false is = refl
named-count n (e ∷ es) b is = by (named-count n es) (e.1 == n) refl is
  where
    by : ((x : Bool) → has_path_to es n ≡ x → cond x (0 < counted n es) (counted n es ≡ 0)) → (t : Bool) → (e.1 == n) ≡ t → (t || has_path_to es n) ≡ b →
        cond b (0 < cond t 1 0 + counted n es) (cond t 1 0 + counted n es ≡ 0)
    by rest true t h = subst (λ x. cond x (0 < 1 + counted n es) (1 + counted n es ≡ 0)) h (omega arith)
    by rest false t h = later b (rest b h)
      where
        later : (x : Bool) → cond x (0 < counted n es) (counted n es ≡ 0) → cond x (0 < 0 + counted n es) (0 + counted n es ≡ 0)
        later true some = omega arith
        later false none = omega arith

-- slots, and the files in them
pub length-files : (slots : List (Option Kept)) → length (files_of slots) ≡ length slots
length-files slots = length-map slots (option_map (λ (k : Kept). k.file))

pub file-slot : (slots : List (Option Kept)) (n : ℕ) → file_by (files_of slots) n ≡ option_map (λ (k : Kept). k.file) (slot_at slots n)
file-slot [] n = refl
file-slot (s ∷ ss) zero = refl
file-slot (s ∷ ss) (suc n) = file-slot ss n

set-same : {X : Type 0} (xs : List (Option X)) (i : ℕ) (x : X) → option_flatten (slice_get xs i) ≡ Some x → slice_set xs i (Some x) ≡ xs
set-same [] i x is = refl
set-same (y ∷ ys) zero x is = ap (λ z. z ∷ ys) (sym is)
set-same (y ∷ ys) (suc i) x is = ap (λ zs. y ∷ zs) (set-same ys i x is)

slot-within : (slots : List (Option Kept)) (n : ℕ) → 0 < names_held (slot_at slots n) → n < length slots
slot-within [] n h = absurd (omega arith)
slot-within (s ∷ ss) zero h = omega arith
slot-within (s ∷ ss) (suc n) h = let rest = slot-within ss n h in omega arith

pub slot-set_same : (slots : List (Option Kept)) (n : ℕ) (s : Option Kept) → n < length slots → slot_at (slice_set slots n s) n ≡ s
slot-set_same slots n s within = ap option_flatten (get-set_same slots n s within)

pub slot-set_other : (slots : List (Option Kept)) (n m : ℕ) (s : Option Kept) → m ≢ n → slot_at (slice_set slots n s) m ≡ slot_at slots m
slot-set_other slots n m s differ = ap option_flatten (get-set_other slots n m s differ)

pub slot-last : (slots : List (Option Kept)) (s : Option Kept) → slot_at (slots ++ s ∷ []) (length slots) ≡ s
slot-last [] s = refl
slot-last (x ∷ xs) s = slot-last xs s

pub slot-early : (slots : List (Option Kept)) (s : Option Kept) (n : ℕ) → n ≢ length slots → slot_at (slots ++ s ∷ []) n ≡ slot_at slots n
slot-early [] s zero differ = absurd (differ refl)
slot-early [] s (suc n) differ = refl
slot-early (x ∷ xs) s zero differ = refl
slot-early (x ∷ xs) s (suc n) differ = slot-early xs s n (λ is. differ (ap suc is))

pub held-none : (slots : List (Option Kept)) → names_held (slot_at slots (length slots)) ≡ 0
held-none [] = refl
held-none (s ∷ ss) = held-none ss

held-less : (o : Option Kept) → names_held (named_less o) ≡ names_held o - 1
held-less None = refl
held-less (Some k) = by (nat_le k.names 1) refl
  where
    by : (b : Bool) → nat_le k.names 1 ≡ b → names_held (cond b None (Some (record k { names = k.names - 1 }))) ≡ k.names - 1
    by true t = let small : k.names ≤ 1 = grind (arith, nat_tests) in omega arith
    by false t = refl

-- one path less for a file, and one name less in its count
pub let_go-counted : (names : PathMap) (slots : List (Option Kept)) (o : Option ℕ) →
    ((n : ℕ) → paths_of names n + hits n o ≡ names_held (slot_at slots n)) → (n : ℕ) → paths_of names n ≡ names_held (slot_at (let_go o slots) n)
let_go-counted names slots None is n = let h = is n in omega arith
let_go-counted names slots (Some m) is n = by_number n m
    (λ same.
    let h : paths_of names n + hits n (Some m) ≡ names_held (slot_at slots n) = is n in
    let one : hits n (Some m) ≡ 1 = (let t : (m == n) ≡ true = grind (arith, nat_tests) in ap (λ b. cond b 1 0) t) in
    let there : 0 < names_held (slot_at slots m) = subst (λ (k : ℕ). 0 < names_held (slot_at slots k)) same (omega arith) in
    let less : names_held (slot_at (slice_set slots m (named_less (slot_at slots m))) m) ≡ names_held (slot_at slots m) - 1 =
    ap names_held (slot-set_same slots m (named_less (slot_at slots m)) (slot-within slots m there)) ∙ held-less (slot_at slots m) in
    let moved : names_held (slot_at slots n) ≡ names_held (slot_at slots m) = ap (λ k. names_held (slot_at slots k)) same in
    let at : names_held (slot_at (slice_set slots m (named_less (slot_at slots m))) n) ≡ names_held
    (slot_at (slice_set slots m (named_less (slot_at slots m))) m) =
    ap (λ k. names_held (slot_at (slice_set slots m (named_less (slot_at slots m))) k)) same in
    omega arith)
    (λ differ.
    let h : paths_of names n + hits n (Some m) ≡ names_held (slot_at slots n) = is n in
    let none : hits n (Some m) ≡ 0 = (let t : (m == n) ≡ false = grind (arith, nat_tests) in ap (λ b. cond b 1 0) t) in
    let at : names_held (slot_at (slice_set slots m (named_less (slot_at slots m))) n) ≡ names_held (slot_at slots n) =
    ap names_held (slot-set_other slots m n (named_less (slot_at slots m)) differ) in
    omega arith)

-- and the file is given back where that was its last
pub let_go-files : (names : PathMap) (slots : List (Option Kept)) (o : Option ℕ) →
    ((n : ℕ) → paths_of names n + hits n o ≡ names_held (slot_at slots n)) → files_of (let_go o slots) ≡ files_still_named (entries names) o (files_of slots)
let_go-files names slots None is = refl
let_go-files names slots (Some n) is = by (slot_at slots n) refl (has_path_to (entries names) n) refl
  where
    one : hits n (Some n) ≡ 1
    one = let t : (n == n) ≡ true = grind (arith, nat_tests) in ap (λ b. cond b 1 0) t

    shown : Option Kept → Option File
    shown = option_map (λ (k : Kept). k.file)

    by : (s : Option Kept) → slot_at slots n ≡ s → (b : Bool) → has_path_to (entries names) n ≡ b →
        files_of (slice_set slots n (named_less (slot_at slots n))) ≡ cond b (files_of slots) (slice_set (files_of slots) n None)
    by None at b named = absurd (let h = is n in let h' : names_held (slot_at slots n) ≡ 0 = ap names_held at in let o = one in omega arith)
    by (Some k) at true named =
        let h = is n in let h' : names_held (slot_at slots n) ≡ k.names = ap names_held at in let o = one in
        let more : 0 < paths_of names n = subst (λ k. 0 < k) (sym (counted-is n (entries names))) (named-count n (entries names) true named) in
        let many : nat_le k.names 1 ≡ false = (let big : 1 < k.names = omega arith in grind (arith, nat_tests)) in
        let less : named_less (slot_at slots n) ≡ Some (record k { names = k.names - 1 }) =
        ap named_less at ∙ ap (λ b. cond b None (Some (record k { names = k.names - 1 }))) many in
        map-set (option_map (λ (k : Kept). k.file)) slots n (named_less (slot_at slots n))
        ∙ ap (λ s. slice_set (files_of slots) n (option_map (λ (k : Kept). k.file) s)) less
        ∙ set-same (files_of slots) n k.file (file-slot slots n ∙ ap (option_map (λ (k : Kept). k.file)) at)
    by (Some k) at false named =
        let h = is n in let h' : names_held (slot_at slots n) ≡ k.names = ap names_held at in let o = one in
        let no-more : paths_of names n ≡ 0 = counted-is n (entries names) ∙ named-count n (entries names) false named in
        let last : nat_le k.names 1 ≡ true = (let small : k.names ≤ 1 = omega arith in grind (arith, nat_tests)) in
        let less : named_less (slot_at slots n) ≡ None = ap named_less at ∙ ap (λ b. cond b None (Some (record k { names = k.names - 1 }))) last in
        map-set (option_map (λ (k : Kept). k.file)) slots n (named_less (slot_at slots n))
        ∙ ap (λ s. slice_set (files_of slots) n (option_map (λ (k : Kept). k.file) s)) less
