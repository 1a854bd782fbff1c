-- What refuses a call, and what a row says of its path.
use Rattle.std.proofs.Common.{ℕ, ◌≡◌, List, ◌∷◌, Option, Some, None, Bool, cond, sym, ap, ◌∙◌, is_some, get_or, drop, ◌+◌}
use Rattle.std.proofs.lemmas.List.{drop_more}
use Rattle.std.specs.declared.cmp.Ordering.{Ordering}
use Rattle.std.specs.FinMap.{find}
use Rattle.md_dirs.specs.Plain.{IsAt}
use Rattle.md_dirs.specs.State.{State, file_at, has_folder}
use Rattle.md_dirs.specs.Calls.{link, rename}
use Rattle.md_dirs.specs.declared.paths.Path.{Path}
use Rattle.md_dirs.specs.declared.calls.DirError.TheVariants.{Exists, NotFound}

-- the file of the row of a key
pub row-file : {K : Type 0} {R : K → K → Ordering} (rows : List (K × ℕ)) (p : K) (i : ℕ) (e : K × ℕ) → IsAt R rows p i → e ≡ get_or rows i e →
    find R p rows ≡ Some e.1
row-file {K = K} rows p i e at is =
    let here : drop i rows ≡ e ∷ drop (i + 1) rows = drop_more rows i e at.within ∙ ap (λ x. x ∷ drop (i + 1) rows) (sym is) in
    let same : (p, at.found.0) ∷ drop (i + 1) rows ≡ e ∷ drop (i + 1) rows = sym at.found.1 ∙ here in
    let one : (p, at.found.0) ≡ e = cc in
    at.found.2 ∙ ap (λ (x : K × ℕ). Some x.1) one

-- the key of the row of a key
pub row-path : {K : Type 0} {R : K → K → Ordering} (rows : List (K × ℕ)) (p : K) (i : ℕ) (e : K × ℕ) → IsAt R rows p i → e ≡ get_or rows i e → e.0 ≡ p
row-path {K = K} rows p i e at is =
    let here : drop i rows ≡ e ∷ drop (i + 1) rows = drop_more rows i e at.within ∙ ap (λ x. x ∷ drop (i + 1) rows) (sym is) in
    let same : (p, at.found.0) ∷ drop (i + 1) rows ≡ e ∷ drop (i + 1) rows = sym at.found.1 ∙ here in
    let one : e ≡ (p, at.found.0) = cc in
    ap (λ (x : K × ℕ). x.0) one

pub link-refusal : (o n : Path) (s : State) (x : Option ℕ) (b : Bool) (y : Option ℕ) → file_at s o ≡ x → has_folder s n ≡ b → file_at s n ≡ y →
    (link o n).refusal s ≡ cond (is_some x) (cond b (cond (is_some y) (Some Exists) None) (Some NotFound)) (Some NotFound)
link-refusal o n s x b y hx hb hy = λ i. cond (is_some (hx i)) (cond (hb i) (cond (is_some (hy i)) (Some Exists) None) (Some NotFound)) (Some NotFound)

pub rename-refusal : (o n : Path) (s : State) (x : Option ℕ) (b : Bool) → file_at s o ≡ x → has_folder s n ≡ b →
    (rename o n).refusal s ≡ cond (is_some x) (cond b None (Some NotFound)) (Some NotFound)
rename-refusal o n s x b hx hb = λ i. cond (is_some (hx i)) (cond (hb i) None (Some NotFound)) (Some NotFound)
