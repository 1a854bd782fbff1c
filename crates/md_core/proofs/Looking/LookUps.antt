-- What a look-up of one message tells of directories and their mailbox, and the turn that made it.
use Rattle.std.proofs.Common.{ℕ, ◌≡◌, ◌≢◌, inl, inr, List, [], ◌∷◌, Option, Some, None, Bool, true, false, cond, not, ◌&&◌, length, map, filter, drop, nat_lt, nat_eq, refl, sym, ap, ◌∙◌}
use Rattle.std.proofs.lemmas.Bool.{eqb-true, eq-eqb, or_parts, and_from}
use Rattle.md_core.proofs.Values.{State, file_at, Path, Place, Tmp, New, Cur, Row, Info, path_of, place_index, rows_of, row_named, row_of, row_by, is_in, is_named, ends_unique, Entry, mailbox_of, entry_of, is_message, is_tmp, HasOnePath, entry_if, is_in_place, stamp_of, list_any, before_first, starts_with, entries, get, File, info_in, info_in_parts}
use Rattle.md_dirs.proofs.PathOrder.{path_total, path_exact}
use Rattle.md_name.specs.Names.{is_colon, unique_of, info_of, begins_with_dot, is_message_name, is_unique_name}
use Rattle.md_name.proofs.Digits.{and_first, and_second}
use Rattle.md_name.proofs.Flagged.{IsUniquePart, IsUniquePart-maildir}
use Rattle.lists.proofs.Members.{Has, get-has, has-get}
use Rattle.md_core.proofs.Mailbox.Shown.{mailbox-shows, shows-mailbox}
use Rattle.md_core.proofs.Mailbox.WholeName.{before}

-- ---- names

-- a name that has a unique name at its head, up to its end or a colon, has it as its unique part
named-unique : (u name : List ℕ) → list_any is_colon u ≡ false → is_named u name ≡ true → unique_of name ≡ u
unfolding unique_of
named-unique [] [] colonless is = refl
named-unique [] (c ∷ cs) colonless is = before c cs true is
named-unique (b ∷ u) [] colonless is = cc
named-unique (b ∷ u) (c ∷ cs) colonless is =
    let plain = or_parts (is_colon b) (list_any is_colon u) colonless in
    let head = starts_with nat_eq cs u in
    let end = ends_unique (drop (length u) cs) in
    let starts : (nat_eq b c && head) ≡ true = and_first (nat_eq b c && head) end is in
    let same : b ≡ c = eqb-true b c (and_first (nat_eq b c) head starts) in
    let rest : is_named u cs ≡ true = and_from head end (and_second (nat_eq b c) head starts) (and_second (nat_eq b c && head) end is) in
    before c cs false (ap is_colon (sym same) ∙ plain.0) ∙ (λ i. sym same i ∷ named-unique u cs plain.1 rest i)

-- and the other way round
pub unique-named : (u name : List ℕ) → unique_of name ≡ u → is_named u name ≡ true
unfolding unique_of
unique-named u name is = ap (λ v. is_named v name) (sym is) ∙ itself name
  where
    itself : (name : List ℕ) → is_named (before_first is_colon name) name ≡ true
    itself [] = refl
    itself (c ∷ cs) = by (is_colon c) refl (itself cs)
      where
        by : (b : Bool) → is_colon c ≡ b → is_named (before_first is_colon cs) cs ≡ true → is_named (before_first is_colon (c ∷ cs)) (c ∷ cs) ≡ true
        by true t later = ap (λ v. is_named v (c ∷ cs)) (before c cs true t) ∙ t
        by false t later =
            ap (λ v. is_named v (c ∷ cs)) (before c cs false t)
            ∙ (let u = before_first is_colon cs in
            let head = starts_with nat_eq cs u in
            let end = ends_unique (drop (length u) cs) in
            and_from (nat_eq c c && head) end (and_from (nat_eq c c) head (eq-eqb c c refl) (and_first head end later)) (and_second head end later))

-- what a unique name has, of which a message's name can be made
pub unique-part : (u : List ℕ) → is_unique_name u ≡ true → IsUniquePart u
unfolding is_unique_name
unique-part u is = IsUniquePart-maildir u (and_first _ _ (and_first _ _ is))

-- a name whose unique part is one is a message's
pub message-name : (u name : List ℕ) → IsUniquePart u → unique_of name ≡ u → is_message_name name ≡ true
unfolding is_message_name unique_of
message-name u name part is = and_from _ _ (by name (sym is)) (ap (λ v. nat_lt 0 (length v)) is ∙ part.some)
  where
    by : (name : List ℕ) → u ≡ unique_of name → not (begins_with_dot name) ≡ true
    by [] is = refl
    by (c ∷ cs) is = at (is_colon c) refl
      where
        at : (b : Bool) → is_colon c ≡ b → not (begins_with_dot (c ∷ cs)) ≡ true
        at true t = let none : u ≡ [] = is ∙ before c cs true t in let some = ap (λ v. nat_lt 0 (length v)) (sym none) ∙ part.some in cc
        at false t = ap not (ap begins_with_dot (sym (is ∙ before c cs false t)) ∙ part.dotless)

-- the info of a message's name
pub info-in : (name : List ℕ) → is_message_name name ≡ true → info_in name ≡ info_of name
info-in name message = ap (λ b. info_in_parts (cond {A = Option (List ℕ × Info)} b (Some (unique_of name, info_of name)) None)) message

-- ---- rows

pub name-row : (name : List ℕ) (o : Option File) → (row_by name o).name ≡ name
name-row name None = refl
name-row name (Some file) = refl

pub row-stamp : (name : List ℕ) (o : Option File) → (row_by name o).stamp ≡ stamp_of o
row-stamp name None = refl
row-stamp name (Some file) = refl

module _ (s : State) (folder : ℕ) (place : Place) (u : List ℕ) where
  abbrev rows : List (Path × ℕ) → List Row
  rows es = map (row_of s.files) (filter (λ e. is_in folder place e.0) es)

  -- a row is that of an entry in the directory
  abbrev Found : Row → List (Path × ℕ) → Type 0
  Found row es = (e : Path × ℕ) × Has es e × (is_in folder place e.0 ≡ true) × (row_of s.files e ≡ row) × (is_named u row.name ≡ true)

  found : (row : Row) (es : List (Path × ℕ)) → row_named u (rows es) ≡ Some row → Found row es
  found row [] is = cc
  found row (e ∷ es) is = by (λ is. let rest = found row es is in (rest.0, inr rest.1, rest.2, rest.3, rest.4)) (is_in folder place e.0) refl is
    where
      by : (row_named u (rows es) ≡ Some row → Found row (e ∷ es)) → (b : Bool) → is_in folder place e.0 ≡ b →
          row_named u (map (row_of s.files) (cond b (e ∷ filter (λ x. is_in folder place x.0) es) (filter (λ x. is_in folder place x.0) es))) ≡
          Some row → Found row (e ∷ es)
      by later false inside is = later is
      by later true inside is = at (is_named u (row_of s.files e).name) refl is
        where
          at : (b : Bool) → is_named u (row_of s.files e).name ≡ b → cond b (Some (row_of s.files e)) (row_named u (rows es)) ≡ Some row → Found row (e ∷ es)
          at true named is = let same : row_of s.files e ≡ row = cc in (e, inl refl, inside, same, ap (λ (r : Row). is_named u r.name) (sym same) ∙ named)
          at false named is = later is

  -- where none was found, no entry of the directory has the name
  not_found : (es : List (Path × ℕ)) → row_named u (rows es) ≡ None → (e : Path × ℕ) → Has es e → is_in folder place e.0 ≡ true → is_named u e.0.name ≡ false
  not_found [] is e has inside = absurd has
  not_found (x ∷ es) is e has inside = by (λ is later. not_found es is e later inside) (is_in folder place x.0) refl is
    where
      by : (row_named u (rows es) ≡ None → Has es e → is_named u e.0.name ≡ false) → (b : Bool) → is_in folder place x.0 ≡ b →
          row_named u (map (row_of s.files) (cond b (x ∷ filter (λ y. is_in folder place y.0) es) (filter (λ y. is_in folder place y.0) es))) ≡ None →
          is_named u e.0.name ≡ false
      by rest false outside is = elim has [
        | inl here ↦ let there = ap (λ (y : Path × ℕ). is_in folder place y.0) (sym here) ∙ inside in cc
        | inr later ↦ rest is later
      ]
      by rest true inside is = at (is_named u (row_of s.files x).name) refl is
        where
          at : (b : Bool) → is_named u (row_of s.files x).name ≡ b →
              cond {A = Option Row} b (Some (row_of s.files x)) (row_named u (rows es)) ≡ None → is_named u e.0.name ≡ false
          at true named is = cc
          at false named is = elim has [
            | inl here ↦ ap (λ (y : Path × ℕ). is_named u y.0.name) here ∙ ap (is_named u) (sym (name-row x.0.name _)) ∙ named
            | inr later ↦ rest is later
          ]

same-place : (a b : Place) → nat_eq (place_index a) (place_index b) ≡ true → a ≡ b
same-place Tmp Tmp is = refl
same-place New New is = refl
same-place Cur Cur is = refl
same-place Tmp Cur is = cc
same-place New Tmp is = cc
same-place New Cur is = cc
same-place Cur Tmp is = cc
same-place other New is = cc

-- a path in a directory is that of its name there
pub path-in : (folder : ℕ) (place : Place) (p : Path) → is_in folder place p ≡ true → p ≡ path_of folder place p.name
path-in folder place p is =
    let f : p.folder ≡ folder = eqb-true _ _ (and_first _ _ is) in
    let at : p.place ≡ place = same-place _ _ (and_second _ _ is) in
    λ i. record { folder = f i; place = at i; name = p.name }

pub in-path : (folder : ℕ) (place : Place) (name : List ℕ) → is_in folder place (path_of folder place name) ≡ true
in-path folder place name = and_from _ _ (eq-eqb folder folder refl) (eq-eqb (place_index place) (place_index place) refl)

-- ---- what was found

-- a row of a unique name: the path of its name in the directory, and the file there
pub record IsRow (s : State) (folder : ℕ) (place : Place) (u : List ℕ) (row : Row) : Type 0 where
  pub file : ℕ
  pub there : file_at s (path_of folder place row.name) ≡ Some file
  pub unique : unique_of row.name ≡ u
  pub named : is_message_name row.name ≡ true
  pub shows : row_of s.files (path_of folder place row.name, file) ≡ row

pub row-of_part : (s : State) (folder : ℕ) (place : Place) (u : List ℕ) (row : Row) → IsUniquePart u →
    row_named u (rows_of s folder place) ≡ Some row → IsRow s folder place u row
row-of_part s folder place u row part is =
    let f = found s folder place u row (entries s.names) is in
    let name : f.0.0.name ≡ row.name = sym (name-row f.0.0.name _) ∙ ap (λ (r : Row). r.name) f.3 in
    let path : f.0.0 ≡ path_of folder place row.name = path-in folder place f.0.0 f.2 ∙ ap (path_of folder place) name in
    let unique : unique_of row.name ≡ u = named-unique u row.name part.colonless f.4 in
    record {
      file = f.0.1;
      there = ap (file_at s) (sym path) ∙ has-get path_total path_exact s.names f.0 f.1;
      unique = unique;
      named = message-name u row.name part unique;
      shows = ap (λ (p : Path). row_of s.files (p, f.0.1)) (sym path) ∙ f.3;
    }

pub found-row : (s : State) (folder : ℕ) (place : Place) (u : List ℕ) (row : Row) → is_unique_name u ≡ true →
    row_named u (rows_of s folder place) ≡ Some row → IsRow s folder place u row
found-row s folder place u row is_unique = row-of_part s folder place u row (unique-part u is_unique)

-- a row in new or cur is of a message
pub row-message : (s : State) (folder : ℕ) (place : Place) (u : List ℕ) (row : Row) → is_tmp place ≡ false → IsRow s folder place u row →
    is_message (path_of folder place row.name) ≡ true
row-message s folder place u row no_tmp h = and_from _ _ (ap not no_tmp) h.named

-- and it is what the mailbox has
pub row-entry : (s : State) (folder : ℕ) (place : Place) (u : List ℕ) (row : Row) → is_tmp place ≡ false → HasOnePath s → (h : IsRow s folder place u row) →
    get (mailbox_of s) u ≡ Some (entry_of s (path_of folder place row.name) h.file)
row-entry s folder place u row no_tmp one h = shows-mailbox s u _ one (record {
  path = path_of folder place row.name;
  file = h.file;
  there = h.there;
  message = row-message s folder place u row no_tmp h;
  unique = h.unique;
  entry = refl;
})

-- ---- what was not found

-- no path of the directory has the unique part
pub no-row : (s : State) (folder : ℕ) (place : Place) (u : List ℕ) → row_named u (rows_of s folder place) ≡ None →
    (name : List ℕ) (n : ℕ) → file_at s (path_of folder place name) ≡ Some n → unique_of name ≢ u
no-row s folder place u none name n there is =
    let has = get-has path_total path_exact s.names (path_of folder place name) n there in
    let not_named = not_found s folder place u (entries s.names) none (path_of folder place name, n) has (in-path folder place name) in
    let named = unique-named u name is in
    cc

-- so the mailbox has nothing under it in that directory
pub no-entry : (s : State) (folder : ℕ) (place : Place) (u : List ℕ) → row_named u (rows_of s folder place) ≡ None →
    entry_if (is_in_place place folder) (get (mailbox_of s) u) ≡ None
no-entry s folder place u none = by (get (mailbox_of s) u) refl
  where
    by : (o : Option Entry) → get (mailbox_of s) u ≡ o → entry_if (is_in_place place folder) o ≡ None
    by None is = refl
    by (Some e) is = at (is_in_place place folder e) refl
      where
        at : (b : Bool) → is_in_place place folder e ≡ b → cond b (Some e) None ≡ None
        at false outside = refl
        at true inside =
            let h = mailbox-shows s u e is in
            let f : h.path.folder ≡ folder = ap (λ (x : Entry). x.folder) h.entry ∙ eqb-true _ _ (and_second _ _ inside) in
            let p : h.path.place ≡ place = ap (λ (x : Entry). x.place) h.entry ∙ same-place _ _ (and_first _ _ inside) in
            let path : h.path ≡ path_of folder place h.path.name = (λ i. record { folder = f i; place = p i; name = h.path.name }) in
            absurd (no-row s folder place u none h.path.name h.file (ap (file_at s) (sym path) ∙ h.there) h.unique)

-- ---- the turn
