-- A row of a listing shows the file at the path of its name.
use Rattle.std.proofs.Common.{ℕ, ◌≡◌, inl, inr, List, [], ◌∷◌, Some, Bool, true, false, cond, map, filter, refl, sym, ap, ◌∙◌}
use Rattle.md_core.proofs.Values.{State, file_at, file_by, Place, Row, path_of, rows_of, row_of, is_in, entries, is_old, old_rows, old_names}
use Rattle.md_dirs.proofs.PathOrder.{path_total, path_exact}
use Rattle.lists.proofs.Members.{Has, has-get}
use Rattle.md_core.proofs.Looking.LookUps.{name-row, row-stamp, path-in}
use Rattle.md_core.proofs.Answers.Files.Tmp.{stamp_at}

has-filter : {X : Type 0} (p : X → Bool) (xs : List X) (x : X) → Has (filter p xs) x → Has xs x × (p x ≡ true)
has-filter p [] x has = absurd has
has-filter p (y ∷ ys) x has = by (has-filter p ys x) (p y) refl has
  where
    by : (Has (filter p ys) x → Has ys x × (p x ≡ true)) → (b : Bool) → p y ≡ b → Has (cond b (y ∷ filter p ys) (filter p ys)) x →
        Has (y ∷ ys) x × (p x ≡ true)
    by rest true is h = elim h [ inl same ↦ (inl same, ap p same ∙ is) | inr later ↦ (let l = rest later in (inr l.0, l.1)) ]
    by rest false is h = let l = rest h in (inr l.0, l.1)

has-map : {X Y : Type 0} (f : X → Y) (xs : List X) (y : Y) → Has (map f xs) y → (x : X) × Has xs x × (y ≡ f x)
has-map f [] y has = absurd has
has-map f (x ∷ xs) y has = elim has [ inl same ↦ (x, inl refl, same) | inr later ↦ (let l = has-map f xs y later in (l.0, inr l.1, l.2)) ]

-- an old name is that of a row that is old
pub has-old : (own : ℕ) (rows : List Row) (name : List ℕ) → Has (old_names own rows) name →
    (row : Row) × Has rows row × (is_old own row ≡ true) × (row.name ≡ name)
has-old own rows name has =
    let named = has-map (λ (row : Row). row.name) (old_rows own rows) name has in
    let old = has-filter (is_old own) rows named.0 named.1 in
    (named.0, old.0, old.1, sym named.2)

-- the file of a row that is listed, and its stamp
pub listed-file : (s : State) (folder : ℕ) (place : Place) (row : Row) → Has (rows_of s folder place) row →
    (n : ℕ) × (file_at s (path_of folder place row.name) ≡ Some n) × (row.stamp ≡ stamp_at s n)
listed-file s folder place row has =
    let shown = has-map (row_of s.files) (filter (λ e. is_in folder place e.0) (entries s.names)) row has in
    let e = shown.0 in
    let inside = has-filter (λ e. is_in folder place e.0) (entries s.names) e shown.1 in
    let name : row.name ≡ e.0.name = ap (λ (x : Row). x.name) shown.2 ∙ name-row e.0.name (file_by s.files e.1) in
    let place-is : e.0 ≡ path_of folder place row.name = path-in folder place e.0 inside.1 ∙ ap (path_of folder place) (sym name) in (
      e.1,
      ap (file_at s) (sym place-is) ∙ has-get path_total path_exact s.names e inside.0,
      ap (λ (x : Row). x.stamp) shown.2
          ∙ row-stamp e.0.name (file_by s.files e.1),
    )
