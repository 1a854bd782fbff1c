-- The lines of rows, one after another.
use Rattle.std.proofs.Common.{◌≡◌, ◌<◌, ◌++◌, ◌+◌, ◌∷◌, inl, inr, ℕ, zero, suc, List, [], All, length, take, drop, get_or, sym, subst, ◌∙◌, ap, append_assoc, arith}
use Rattle.std.proofs.lemmas.List.{flat_map_more, length-append, take_more, take-append-drop}
use Rattle.std.proofs.lemmas.List.Elements.{All-append}
use Rattle.std.proofs.lemmas.Bool.{cases_lt}
use Rattle.std.proofs.Math.ListN.{get_or-append, drop_of_length-le}
use Rattle.std.proofs.Math.Seq.{get_or-append_seam}
use Rattle.md_dirs.specs.Lent.{AreNext}
use Rattle.md_dirs.specs.State.{State}
use Rattle.md_dirs.specs.declared.paths.Place.{Place}
use Rattle.md_dirs.specs.declared.rows.Row.{Row}
use Rattle.md_trace.specs.declared.rows.Form.{Form}
use Rattle.md_trace.specs.declared.rows.Form.TheVariants as form
use Rattle.md_trace.specs.declared.text.Log.{Log}
use Rattle.md_trace.specs.Growing.{GrowsIf}
use Rattle.md_trace.specs.Rows.{AreFitFolders, IsFit, IsFitFolder, all_lines, directory_lines, folder_lines, row_lines, row_text}
use Rattle.md_trace.proofs.Grown.{also_if, if_same}

-- Logs whose folders have the same names have the same line of a row.
same_row : (l m : Log) → m.folders ≡ l.folders → (f : Form) (folder : ℕ) (place : Place) (row : Row)
    → row_text f m folder place row ≡ row_text f l folder place row
same_row l m same form.File folder place row = ap (λ folders. row_text form.File (record l { folders = folders }) folder place row) same
same_row l m same form.State folder place row = ap (λ folders. row_text form.State (record l { folders = folders }) folder place row) same

All-one : {X : Type 0} (P : X → Type 0) (x : X) → P x → All P (x ∷ [])
All-one P x is zero d low = is
All-one P x is (suc k) d low = absurd (omega (arith, low))

All-last : {X : Type 0} (P : X → Type 0) (xs : List X) (x : X) → All P (xs ++ x ∷ []) → All P xs × P x
All-last P xs x all =
    let long = length-append xs (x ∷ []) in (
      (λ k d low. subst P (get_or-append xs (x ∷ []) d k low) (all k d (omega (arith, low, long)))),
      subst P (get_or-append_seam xs x [] x) (all (length xs) x (omega (arith, long))),
    )

-- by the lines of some rows, and then by that of the next
pub also_row : {l m n : Log} (f : Form) (folder : ℕ) (place : Place) (rows : List Row) (i : ℕ) (d : Row) → i < length rows
    → GrowsIf (All (IsFit f) (take i rows)) (row_lines f l folder place (take i rows)) l m
    → GrowsIf (IsFit f (get_or rows i d)) (row_text f m folder place (get_or rows i d)) m n
    → GrowsIf (All (IsFit f) (take (i + 1) rows)) (row_lines f l folder place (take (i + 1) rows)) l n
also_row {l} {m} {n} f folder place rows i d low first second =
    let row = get_or rows i d in
    let same = subst (λ text. GrowsIf (IsFit f row) text m n) (same_row l m first.folders f folder place row) second in
    let more = flat_map_more (row_text f l folder place) [] (take i rows) row in
    let both = if_same
    (λ both. All-append (IsFit f) (take i rows) (row ∷ []) both.0 (All-one (IsFit f) row both.1))
    (All-last (IsFit f) (take i rows) row)
    (also_if first same) in
    let lined = subst (λ text. GrowsIf (All (IsFit f) (take i rows ++ row ∷ [])) text l n) more both in
    subst (λ xs. GrowsIf (All (IsFit f) xs) (row_lines f l folder place xs) l n) (sym (take_more rows i d low)) lined

-- Logs whose folders have the same names have the same lines of a directory, and of a folder.
same_directory : (l m : Log) → m.folders ≡ l.folders → (f : Form) (s : State) (folder : ℕ) (place : Place)
    → directory_lines f m s folder place ≡ directory_lines f l s folder place
same_directory l m same form.File s folder place =
    ap (λ folders. directory_lines form.File (record l { folders = folders }) s folder place) same
same_directory l m same form.State s folder place =
    ap (λ folders. directory_lines form.State (record l { folders = folders }) s folder place) same

same_folder : (l m : Log) → m.folders ≡ l.folders → (f : Form) (s : State) (folder : ℕ)
    → folder_lines f m s folder ≡ folder_lines f l s folder
same_folder l m same form.File s folder = ap (λ folders. folder_lines form.File (record l { folders = folders }) s folder) same
same_folder l m same form.State s folder = ap (λ folders. folder_lines form.State (record l { folders = folders }) s folder) same

-- by anything, and then by the lines of a directory
pub at_directory : {F G : Type 0} {bytes : List ℕ} {l m n : Log} → GrowsIf F bytes l m → (f : Form) (s : State) (folder : ℕ) (place : Place)
    → GrowsIf G (directory_lines f m s folder place) m n → GrowsIf G (directory_lines f l s folder place) m n
at_directory {F} {G} {bytes} {l} {m} {n} first f s folder place second =
    subst (λ text. GrowsIf G text m n) (same_directory l m first.folders f s folder place) second

below : {P : ℕ → Type 0} (i : ℕ) → ((k : ℕ) → k < i → P k) × P i → (k : ℕ) → k < suc i → P k
below {P} i all k low = elim (cases_lt k i) [
  | inl less ↦ all.0 k less
  | inr more ↦ let same : i ≡ k = omega (arith, low, more) in subst P same all.1
]

-- by the lines of the first folders, and then by those of the next
pub also_folder : {l m n : Log} (f : Form) (s : State) (i : ℕ) → GrowsIf (AreFitFolders f s i) (all_lines f l s i) l m
    → GrowsIf (IsFitFolder f s i) (folder_lines f m s i) m n → GrowsIf (AreFitFolders f s (i + 1)) (all_lines f l s (i + 1)) l n
also_folder {l} {m} {n} f s i first second =
    let same = subst (λ text. GrowsIf (IsFitFolder f s i) text m n) (same_folder l m first.folders f s i) second in
    let both : GrowsIf (AreFitFolders f s (suc i)) (all_lines f l s (suc i)) l n = if_same
    (below {P = IsFitFolder f s} i)
    (λ all. ((λ k low. all k (omega (arith, low))), all i (omega arith)))
    (also_if first same) in
    let next : suc i ≡ i + 1 = omega arith in
    subst (λ k. GrowsIf (AreFitFolders f s k) (all_lines f l s k) l n) next both

drop-more : {X : Type 0} (n m : ℕ) (xs : List X) → drop (n + m) xs ≡ drop m (drop n xs)
drop-more zero m xs = let same : zero + m ≡ m = omega arith in ap (λ k. drop k xs) same
drop-more (suc n) m [] = drop_of_length-le [] {i = suc n + m} (omega arith) ∙ sym (drop_of_length-le [] {i = m} (omega arith))
drop-more (suc n) m (x ∷ xs) = let same : suc n + m ≡ suc (n + m) = omega arith in ap (λ k. drop k (x ∷ xs)) same ∙ drop-more n m xs

-- some rows of a directory, and those that come next
pub next-rows : (all rows more : List Row) → rows ++ drop (length rows) all ≡ all → AreNext all (length rows) more
    → (rows ++ more) ++ drop (length (rows ++ more)) all ≡ all
next-rows all rows more so next =
    let n = length rows in
    let m = length more in
    let rest : drop (length (rows ++ more)) all ≡ drop m (drop n all) =
    ap (λ k. drop k all) (length-append rows more) ∙ drop-more n m all in
    let whole : more ++ drop m (drop n all) ≡ drop n all =
    ap (λ xs. xs ++ drop m (drop n all)) next.each ∙ take-append-drop m (drop n all) in
    ap (λ xs. rows ++ more ++ xs) rest ∙ append_assoc rows more (drop m (drop n all)) ∙ ap (λ xs. rows ++ xs) whole ∙ so
