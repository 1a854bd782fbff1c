-- Whether a part of a reading is answered as no directory answers it.
use Rattle.std.proofs.Common.{ℕ, ◌≡◌, ◌==◌, ◌&&◌, ◌||◌, cond, not, List, [], ◌∷◌, Option, Some, None, Bool, true, false, is_some, nat_lt, refl, sym, ap, ◌∙◌}
use Rattle.std.specs.Bool.{Decides}
use Rattle.std.specs.List.{list_any}
use Rattle.std.specs.Map.{keys_of, lookup}
use Rattle.std.specs.Str.{bytes_eq}
use Rattle.std.proofs.lemmas.Bool.Decides.{Decides-eqb, Decides-and, Decides-like}
use Rattle.std.proofs.lemmas.Slice.Eq.{bytes_eq-Decides}
use Rattle.md_dirs.specs.Index.{directory_number}
use Rattle.md_dirs.specs.Path.{path_of}
use Rattle.md_dirs.specs.State.{State, file_at}
use Rattle.md_dirs.specs.declared.paths.Path.{Path}
use Rattle.md_dirs.specs.declared.paths.Place.{Place}
use Rattle.md_log.specs.declared.line.Reply.{Reply}
use Rattle.md_log.specs.declared.line.Reply.TheVariants as reply
use Rattle.md_law.specs.Readings.{Looker}
use Rattle.md_monitor.specs.Files.{count_where}
use Rattle.md_monitor.specs.Readings.{ReadingKept, is_place, is_among, is_wrong_reading, shows_wrongly, is_lacked}
use Rattle.md_monitor.proofs.Parts.{place-is}
use Rattle.md_monitor.proofs.Seeing.{some-where}
use Rattle.md_kept.specs.declared.directory.Directory.{Directory}
use Rattle.md_kept.specs.declared.paths.Paths.{Paths}
use Rattle.md_watch.specs.declared.presences.Presences.{Presences}
use Rattle.md_watch.specs.declared.readings.Reading.{Reading}
use Rattle.md_kept.specs.Changes.{file_in}
use Rattle.md_kept.specs.Directories.{directory_in, file_by, names_by, names_in}
use Rattle.md_watch.specs.Readings.{IsReadingKept, begun_of, has_shown, has_then, is_wrong, lacks, name_spell, shows_other}
use Rattle.md_watch.specs.Spells.{always_by, ever_by}
use Rattle.md_kept.proofs.Keys.{same-tests}

itself-is : (b : Bool) → Decides b (b ≡ true)
itself-is b = (λ t. t, λ t. t)

-- ---- names of a directory

module _ (test : List ℕ → Bool) where
  abbrev HasOne : (List ℕ → Option ℕ) → Type 0
  HasOne file = (name : List ℕ) × (m : ℕ) × (file name ≡ Some m) × (test name ≡ true)

  -- a choice has a file where the other has one
  either : (b : Bool) (k : ℕ) (o : Option ℕ) (m : ℕ) → o ≡ Some m → (l : ℕ) × (cond b (Some k) o ≡ Some l)
  either true k o m is = (k, refl)
  either false k o m is = (m, is)

  -- some name of which the test holds
  in-entries : (es : List (List ℕ × ℕ)) → Decides (list_any test (keys_of es)) (HasOne (λ name. lookup (bytes_eq name) es))
  in-entries [] = (λ t. absurd (cc), λ (name, m, is, t). absurd (cc is))
  in-entries (e ∷ es) = (
    λ t. to (in-entries es).0 (test e.0) refl t,
    λ (name, m, is, t). from (in-entries es).1 name m t (bytes_eq name e.0) refl is,
  )
    where
      to : (list_any test (keys_of es) ≡ true → HasOne (λ name. lookup (bytes_eq name) es)) → (b : Bool) → test e.0 ≡ b
          → (b || list_any test (keys_of es)) ≡ true → HasOne (λ name. lookup (bytes_eq name) (e ∷ es))
      to rest true here t = (e.0, e.1, ap (λ b. cond b (Some e.1) (lookup (bytes_eq e.0) es)) ((bytes_eq-Decides e.0 e.0).1 refl), here)
      to rest false here t =
          let it = rest t in
          let some = either (bytes_eq it.0 e.0) e.1 (lookup (bytes_eq it.0) es) it.1 it.2 in
          (it.0, some.0, some.1, it.3)

      from : (HasOne (λ name. lookup (bytes_eq name) es) → list_any test (keys_of es) ≡ true) → (name : List ℕ) (m : ℕ) → test name ≡ true
          → (b : Bool) → bytes_eq name e.0 ≡ b → cond b (Some e.1) (lookup (bytes_eq name) es) ≡ Some m
          → (test e.0 || list_any test (keys_of es)) ≡ true
      from rest name m t true same is =
          ap (λ b. b || list_any test (keys_of es)) (sym (ap test ((bytes_eq-Decides name e.0).0 same)) ∙ t)
      from rest name m t false other is = by (test e.0) (rest (name, m, is, t))
        where
          by : (b : Bool) → list_any test (keys_of es) ≡ true → (b || list_any test (keys_of es)) ≡ true
          by true any = refl
          by false any = any

  in-directory : (o : Option Directory) → Decides (list_any test (names_by o)) (HasOne (file_by o))
  in-directory None = (λ t. absurd (cc), λ (name, m, is, t). absurd (cc is))
  in-directory (Some d) = in-entries d.files.entries

-- tests that agree at the names of a directory
same-names : (o : Option Directory) (test other : List ℕ → Bool)
    → ((name : List ℕ) (m : ℕ) → file_by o name ≡ Some m → test name ≡ other name)
    → list_any test (names_by o) ≡ list_any other (names_by o)
same-names o test other same = same-tests _ _ (in-directory test o) (Decides-like _
    (λ (name, m, is, t). (name, m, is, same name m is ∙ t))
    (λ (name, m, is, t). (name, m, is, sym (same name m is) ∙ t))
    (in-directory other o))

module _ (t : Paths) (s : State) (paths : (q : Path) → file_in t q ≡ file_at s q) where
  -- going through the names of a directory is going through its paths
  pub names-where : (folder : ℕ) (place : Place) (test : List ℕ → Bool)
      → list_any test (names_in t (directory_number folder place))
      ≡ nat_lt 0 (count_where (λ e. (e.0.folder == folder && is_place e.0.place place) && test e.0.name) s)
  names-where folder place test = same-tests _ _
      (Decides-like _
      (λ (name, m, is, holds). (path_of folder place name, m, sym (paths (path_of folder place name)) ∙ is, ((refl, refl), holds)))
      (λ (p, m, is, both). (
        p.name,
        m,
        (λ i. file_in t (path_of ((sym both.0.0) i) ((sym both.0.1) i) p.name)) ∙ paths p ∙ is,
        both.1,
      ))
      (in-directory test (directory_in t (directory_number folder place))))
      (some-where _ (λ p m. ((p.folder ≡ folder) × (p.place ≡ place)) × (test p.name ≡ true))
      (λ e. Decides-and _ _ (Decides-and _ _ (Decides-eqb e.0.folder folder) (place-is e.0.place place)) (itself-is (test e.0.name))) s)

  module _ (n : ℕ) (p : Presences) (d : Looker) (kept : ReadingKept) (o : Option Reading) (is : IsReadingKept n s p d kept o) where
    abbrev number : ℕ
    number = directory_number d.folder d.place

    abbrev dir : Option Directory
    dir = directory_in t number

    then-is : (name : List ℕ) → has_then dir p.names number (begun_of n o) name ≡ kept.was_there name
    then-is name = ap (λ f. ever_by (is_some f) (name_spell p d name) (begun_of n o)) (paths (path_of d.folder d.place name))
        ∙ sym (is.was_there name)

    other-is : (shown : List (List ℕ)) → shows_other dir p.names number (begun_of n o) shown ≡ shows_wrongly s d kept shown
    other-is shown = λ i. list_any (λ name. not (then-is name i)) shown

    swap : (a b c : Bool) → (not (a || b) && c) ≡ (c && not (a || b))
    swap true b true = refl
    swap true b false = refl
    swap false true true = refl
    swap false true false = refl
    swap false false true = refl
    swap false false false = refl

    lacks-is : (shown : List (List ℕ))
        → lacks dir p.names number (begun_of n o) (λ name. list_any (λ other. bytes_eq other name) shown || has_shown o name) n
        ≡ nat_lt 0 (count_where (λ e. is_lacked s d kept shown e.0) s)
    lacks-is shown = same-names dir _ (λ name. kept.was_always name && not (is_among shown name || kept.is_shown name))
        (λ name m there.
        swap (is_among shown name) (has_shown o name) (always_by true (name_spell p d name) (begun_of n o) n)
        ∙ (λ i. always name m there i && not (is_among shown name || sym (is.is_shown name) i)))
        ∙ names-where d.folder d.place (λ name. kept.was_always name && not (is_among shown name || kept.is_shown name))
      where
        always : (name : List ℕ) (m : ℕ) → file_by dir name ≡ Some m
            → always_by true (name_spell p d name) (begun_of n o) n ≡ kept.was_always name
        always name m there = ap (λ b. always_by b (name_spell p d name) (begun_of n o) n)
            (sym (ap is_some there) ∙ ap is_some (paths (path_of d.folder d.place name))) ∙ sym (is.was_always name)

    pub wrong-is : (r : Reply) (shown : List (List ℕ)) → is_wrong t p.names d n o r shown ≡ is_wrong_reading s d kept r shown
    wrong-is reply.Ok shown = λ i. other-is shown i || lacks-is shown i
    wrong-is reply.More shown = other-is shown
    wrong-is reply.Exists shown = refl
    wrong-is reply.NotFound shown = refl
    wrong-is reply.Fault shown = refl
