-- Each call keeps directories sound: what a path names is there, in a folder that is there, and what is there has a path.
use Rattle.std.proofs.Common.{ℕ, zero, suc, ◌≡◌, ◌≢◌, ◌<◌, ◌==◌, ◌||◌, ◌++◌, inl, inr, List, [], ◌∷◌, Option, Some, None, Bool, true, false, cond, nat_eq, refl, sym, ap, subst, ◌∙◌, arith, length, slice_get, slice_set, IsSome, is_some}
use Rattle.std.proofs.lemmas.Bool.Decides.{nat_tests}
use Rattle.std.proofs.lemmas.Option.{slice_get_within}
use Rattle.std.specs.Option.{option_flatten}
use Rattle.std.specs.FinMap as finmap
use Rattle.std.specs.FinMap.{get-empty, entries}
use Rattle.lists.proofs.Options.{value, is-there}
use Rattle.lists.proofs.Pushed.{last-is}
use Rattle.md_dirs.specs.Path.{path_cmp}
use Rattle.md_dirs.specs.State.{State, IsSound, bare, file_at, file_by}
use Rattle.md_dirs.specs.Calls.{with_new_file, after_create, empty_file, after_append, file_with_more, with_path, without_path, after_unlink, after_rename, with_files_still_named, has_path_to, is_one_file}
use Rattle.md_dirs.specs.declared.paths.Path.{Path}
use Rattle.md_dirs.specs.declared.paths.File.{File}
use Rattle.md_dirs.proofs.PathOrder.{path_total, path_exact}
use Rattle.lists.proofs.Maps as maps
use Rattle.lists.proofs.Members.{Has, get-has, has-get}

pub by_path : {C : Type 0} (a b : Path) → (a ≡ b → C) → (a ≢ b → C) → C
by_path = maps.by_key path_total path_exact

-- whether two numbers are one
pub by_number : {C : Type 0} (a b : ℕ) → (a ≡ b → C) → (a ≢ b → C) → C
by_number {C = C} a b same other =
    elim (nat_eq a b) as (λ t. nat_eq a b ≡ t → C) [
      | true ↦ λ t. let is : a ≡ b = grind (arith, nat_tests) in same is
      | false ↦ λ t. let not : a ≢ b = grind (arith, nat_tests) in other not
    ] refl

-- lists: an element that was set, added, or left
pub get-set_same : {X : Type 0} (xs : List X) (i : ℕ) (x : X) → i < length xs → slice_get (slice_set xs i x) i ≡ Some x
get-set_same [] i x within = absurd (omega arith)
get-set_same (y ∷ ys) zero x within = refl
get-set_same (y ∷ ys) (suc i) x within = get-set_same ys i x (omega arith)

pub get-set_other : {X : Type 0} (xs : List X) (i j : ℕ) (x : X) → j ≢ i → slice_get (slice_set xs i x) j ≡ slice_get xs j
get-set_other [] i j x not = refl
get-set_other (y ∷ ys) zero zero x not = absurd (not refl)
get-set_other (y ∷ ys) zero (suc j) x not = refl
get-set_other (y ∷ ys) (suc i) zero x not = refl
get-set_other (y ∷ ys) (suc i) (suc j) x not = get-set_other ys i j x (λ is. not (ap suc is))

get-push : {X : Type 0} (xs : List X) (x : X) (i : ℕ) → i < length xs → slice_get (xs ++ x ∷ []) i ≡ slice_get xs i
get-push [] x i within = absurd (omega arith)
get-push (y ∷ ys) x zero within = refl
get-push (y ∷ ys) x (suc i) within = get-push ys x i (omega arith)

get-early : {X : Type 0} (xs : List X) (x y : X) (i : ℕ) → slice_get (xs ++ x ∷ []) i ≡ Some y → i ≢ length xs → slice_get xs i ≡ Some y
get-early [] x y zero is not = absurd (not refl)
get-early [] x y (suc i) is not = cc
get-early (z ∷ zs) x y zero is not = is
get-early (z ∷ zs) x y (suc i) is not = get-early zs x y i is (λ same. not (ap suc same))

-- the file of a number
flat : (o : Option (Option File)) (file : File) → option_flatten o ≡ Some file → o ≡ Some (Some file)
flat None file is = cc
flat (Some o) file is = ap Some is

pub some_file : (o : Option File) → IsSome o → (file : File) × (o ≡ Some file)
some_file = value

pub file-within : (files : List (Option File)) (n : ℕ) → IsSome (file_by files n) → n < length files
file-within files n is =
    let some = value (file_by files n) is in
    slice_get_within files n (Some some.0) (flat (slice_get files n) some.0 some.1)

pub file_by-set_same : (files : List (Option File)) (n : ℕ) (o : Option File) → n < length files → file_by (slice_set files n o) n ≡ o
file_by-set_same files n o within = ap option_flatten (get-set_same files n o within)

pub file_by-set_other : (files : List (Option File)) (n m : ℕ) (o : Option File) → m ≢ n → file_by (slice_set files n o) m ≡ file_by files m
file_by-set_other files n m o not = ap option_flatten (get-set_other files n m o not)

pub file_by-push : (files : List (Option File)) (o : Option File) (n : ℕ) → n < length files → file_by (files ++ o ∷ []) n ≡ file_by files n
file_by-push files o n within = ap option_flatten (get-push files o n within)

pub file_by-last : (files : List (Option File)) (o : Option File) → file_by (files ++ o ∷ []) (length files) ≡ o
file_by-last files o = ap option_flatten (last-is files o)

-- whether a path names a file
named-among : (q : Path) (n : ℕ) (rows : List (Path × ℕ)) → Has rows (q, n) → has_path_to rows n ≡ true
named-among q n [] among = absurd among
named-among q n (e ∷ es) among = elim among [
  | inl is ↦
      let number : n ≡ e.1 = ap (λ (x : Path × ℕ). x.1) is in
      let same : (e.1 == n) ≡ true = grind (arith, nat_tests) in
      ap (λ b. b || has_path_to es n) same
  | inr later ↦ by (e.1 == n) (named-among q n es later)
]
  where
    by : (b : Bool) → has_path_to es n ≡ true → (b || has_path_to es n) ≡ true
    by true h = refl
    by false h = h

among-named : (n : ℕ) (rows : List (Path × ℕ)) → has_path_to rows n ≡ true → (q : Path) × Has rows (q, n)
among-named n [] is = cc
among-named n (e ∷ es) is = by (among-named n es) (e.1 == n) refl is
  where
    by : (has_path_to es n ≡ true → (q : Path) × Has es (q, n)) → (b : Bool) → (e.1 == n) ≡ b → (b || has_path_to es n) ≡ true →
        (q : Path) × Has (e ∷ es) (q, n)
    by rest true t h = let number : n ≡ e.1 = grind (arith, nat_tests) in (e.0, inl (λ i. (e.0, number i)))
    by rest false t h = let later = rest h in (later.0, inr later.1)

pub path-named : (s : State) (q : Path) (n : ℕ) → file_at s q ≡ Some n → has_path_to (entries s.names) n ≡ true
path-named s q n at = named-among q n (entries s.names) (get-has path_total path_exact s.names q n at)

pub named-path : (s : State) (n : ℕ) → has_path_to (entries s.names) n ≡ true → (q : Path) × (file_at s q ≡ Some n)
named-path s n is =
    let some = among-named n (entries s.names) is in
    (some.0, has-get path_total path_exact s.names (some.0, n) some.1)

-- what is named is not given back
pub swept-kept : (o : Option ℕ) (s : State) (q : Path) (m : ℕ) → file_at s q ≡ Some m → file_by (with_files_still_named o s).files m ≡ file_by s.files m
swept-kept None s q m at = refl
swept-kept (Some n) s q m at = by (has_path_to (entries s.names) n) refl
  where
    by : (b : Bool) → has_path_to (entries s.names) n ≡ b → file_by (cond b s.files (slice_set s.files n None)) m ≡ file_by s.files m
    by true is = refl
    by false is = file_by-set_other s.files n m None (λ same. let h = path-named s q m at in let g : has_path_to (entries s.names) m ≡ false =
        ap (has_path_to (entries s.names)) same ∙ is in cc)

set-none : (files : List (Option File)) (i j : ℕ) → j ≡ i → file_by (slice_set files i None) j ≡ None
set-none files i j same = ap (file_by (slice_set files i None)) same ∙ none files i
  where
    none : (fs : List (Option File)) (k : ℕ) → file_by (slice_set fs k None) k ≡ None
    none [] k = refl
    none (f ∷ fs) zero = refl
    none (f ∷ fs) (suc k) = none fs k

-- a file that is there was there before, and its number was not to be given back or has a path
pub swept-there : (o : Option ℕ) (s : State) (m : ℕ) → IsSome (file_by (with_files_still_named o s).files m) →
    IsSome (file_by s.files m) × ((o ≡ Some m) → (q : Path) × (file_at s q ≡ Some m))
swept-there None s m is = (is, λ h. cc)
swept-there (Some n) s m is = by (has_path_to (entries s.names) n) refl is
  where
    by : (b : Bool) → has_path_to (entries s.names) n ≡ b → IsSome (file_by (cond b s.files (slice_set s.files n None)) m) →
        IsSome (file_by s.files m) × ((Some n ≡ Some m) → (q : Path) × (file_at s q ≡ Some m))
    by true t h = (h, λ same. let number : n ≡ m = cc in named-path s m (ap (has_path_to (entries s.names)) (sym number) ∙ t))
    by false t h = by_number m n
        (λ same.
        let within = file-within (slice_set s.files n None) m h in
        let gone : file_by (slice_set s.files n None) m ≡ None = set-none s.files n m same in
        let no : is_some (file_by (slice_set s.files n None) m) ≡ false = ap is_some gone in cc)
        (λ not. (subst (λ (f : Option File). IsSome f) (file_by-set_other s.files n m None not) h, λ same. absurd (not (sym cc))))

-- where all is sound but for one number without a path, giving that back makes it sound
pub sound-swept : (o : Option ℕ) (s : State) → ((p : Path) (m : ℕ) → file_at s p ≡ Some m → IsSome (file_by s.files m)) →
    ((m : ℕ) → o ≢ Some m → IsSome (file_by s.files m) → (q : Path) × (file_at s q ≡ Some m))
    → ((p : Path) (m : ℕ) → file_at s p ≡ Some m → p.folder < s.folders) → IsSound (with_files_still_named o s)
sound-swept o s filed has_path housed = record {
  housed = housed;
  filed = λ p m at. subst (λ (f : Option File). IsSome f) (sym (swept-kept o s p m at)) (filed p m at);
  has_path = λ m is. let before = swept-there o s m is in by o m before.1 (λ not. has_path m not before.0);
}
  where
    by : (x : Option ℕ) (m : ℕ) → ((x ≡ Some m) → (q : Path) × (file_at s q ≡ Some m)) → ((x ≢ Some m) → (q : Path) × (file_at s q ≡ Some m)) →
        (q : Path) × (file_at s q ≡ Some m)
    by None m same other = other (λ h. cc)
    by (Some n) m same other = by_number n m (λ is. same (ap Some is)) (λ not. other (λ h. not cc))

pub sound-bare : (folders : ℕ) → IsSound (bare folders)
sound-bare folders = record {
  filed = λ p n is. let h : file_at (bare folders) p ≡ None = get-empty path_cmp p in cc;
  has_path = λ n is. cc;
  housed = λ p n is. let h : file_at (bare folders) p ≡ None = get-empty path_cmp p in cc;
}

module _ (s : State) (sound : IsSound s) where
  pub number-within : (p : Path) (n : ℕ) → file_at s p ≡ Some n → n < length s.files
  number-within p n at = file-within s.files n (sound.filed p n at)

  -- the number of a new file is new
  pub new_number : (q : Path) → file_at s q ≢ Some (length s.files)
  new_number q at = let h = number-within q (length s.files) at in absurd (omega arith)

  -- one more path, in a folder that is there
  housed-put : (p : Path) (k : ℕ) → p.folder < s.folders → (q : Path) (m : ℕ) → finmap.get (finmap.insert s.names p k) q ≡ Some m → q.folder < s.folders
  housed-put p k within q m at = by_path q p
      (λ is. subst (λ (x : Path). x.folder < s.folders) (sym is) within)
      (λ not. sound.housed q m (sym (maps.beside_put path_total path_exact s.names p q k not) ∙ at))

  pub sound-placed : (p : Path) (file : File) → p.folder < s.folders → file_at s p ≡ None → IsSound (with_new_file p file s)
  sound-placed p file within none = record {
    housed = housed-put p (length s.files) within;
    filed = λ q m at. by_path q p
        (λ is.
        let number : m ≡ length s.files = (let h = maps.at_put path_total path_exact s.names p q (length s.files) is in cc) in
        is-there _ file (ap (file_by (s.files ++ Some file ∷ [])) number ∙ file_by-last s.files (Some file)))
        (λ not.
        let before = sym (maps.beside_put path_total path_exact s.names p q (length s.files) not) ∙ at in
        subst (λ (f : Option File). IsSome f) (sym (file_by-push s.files (Some file) m (number-within q m before))) (sound.filed q m before));
    has_path = λ m is. by_number m (length s.files)
        (λ new. (p, maps.at_put path_total path_exact s.names p p (length s.files) refl ∙ ap Some (sym new)))
        (λ old.
        let some = value _ is in
        let early = get-early s.files (Some file) (Some some.0) m (flat _ some.0 some.1) old in
        let had = sound.has_path m (is-there _ some.0 (ap option_flatten early)) in (
          had.0,
          maps.beside_put path_total path_exact s.names p had.0 (length s.files) (λ same. let h : file_at s p ≡ Some m =
              ap (file_at s) (sym same) ∙ had.1 in cc) ∙ had.1,
        ));
  }

  pub sound-created : (p : Path) (now : ℕ) → p.folder < s.folders → file_at s p ≡ None → IsSound (after_create p now s)
  sound-created p now = sound-placed p (empty_file now)

  pub sound-appended : (more : List ℕ) (now : ℕ) (o : Option ℕ) → IsSound (after_append more now s o)
  sound-appended more now None = sound
  sound-appended more now (Some n) = by (file_by s.files n) refl
    where
      by : (o : Option File) → file_by s.files n ≡ o → IsSound (record s { files = slice_set s.files n (file_with_more more now o) })
      by None is = record {
        housed = sound.housed;
        filed = λ q m at. by_number m n
            (λ same. let h = sound.filed q m at in let none : is_some (file_by s.files m) ≡ false = ap (λ (i : ℕ). is_some (file_by s.files i)) same ∙
            ap is_some is in cc)
            (λ not. subst (λ (f : Option File). IsSome f) (sym (file_by-set_other s.files n m None not)) (sound.filed q m at));
        has_path = λ m there. by_number m n
            (λ same. let none : is_some (file_by (slice_set s.files n None) m) ≡ false = ap is_some (set-none s.files n m same) in cc)
            (λ not. sound.has_path m (subst (λ (f : Option File). IsSome f) (file_by-set_other s.files n m None not) there));
      }
      by (Some file) is = record {
        housed = sound.housed;
        filed = λ q m at. by_number m n
            (λ same. let h = ap (file_by (slice_set s.files n (Some longer))) same ∙
            file_by-set_same s.files n (Some longer) (file-within s.files n (is-there _ file is)) in is-there _ longer h)
            (λ not. subst (λ (f : Option File). IsSome f) (sym (file_by-set_other s.files n m (Some longer) not)) (sound.filed q m at));
        has_path = λ m there. by_number m n
            (λ same. sound.has_path m (is-there _ file (ap (file_by s.files) same ∙ is)))
            (λ not. sound.has_path m (subst (λ (f : Option File). IsSome f) (file_by-set_other s.files n m (Some longer) not) there));
      }
        where
          longer : File
          longer = record { bytes = file.bytes ++ more; stamp = now }

  pub sound-named : (p q : Path) (n : ℕ) → p.folder < s.folders → file_at s p ≡ None → file_at s q ≡ Some n → IsSound (with_path p s (Some n))
  sound-named p q n within none at = record {
    housed = housed-put p n within;
    filed = λ r m there. by_path r p
        (λ is. let number : n ≡ m = (let h = maps.at_put path_total path_exact s.names p r n is in cc) in sound.filed q m (at ∙ ap Some number))
        (λ not. sound.filed r m (sym (maps.beside_put path_total path_exact s.names p r n not) ∙ there));
    has_path = λ m is.
        let had = sound.has_path m is in (
          had.0,
          maps.beside_put path_total path_exact s.names p had.0 n (λ same. let h : file_at s p ≡ Some m = ap (file_at s) (sym same) ∙
              had.1 in cc) ∙ had.1,
        );
  }

  -- a path that is another's stays as one is taken away
  other-stays : (p q : Path) (m : ℕ) → file_at s p ≢ Some m → file_at s q ≡ Some m → file_at (without_path p s) q ≡ Some m
  other-stays p q m not at = maps.beside_drop path_total path_exact s.names p q (λ same. not (ap (file_at s) (sym same) ∙ at)) ∙ at

  pub before-unnamed : (p q : Path) (m : ℕ) → file_at (without_path p s) q ≡ Some m → file_at s q ≡ Some m
  before-unnamed p q m at = by_path q p
      (λ is. let h = maps.at_drop path_total path_exact s.names p q is in cc)
      (λ not. sym (maps.beside_drop path_total path_exact s.names p q not) ∙ at)

  pub sound-without : (p : Path) → IsSound (after_unlink p s)
  sound-without p = sound-swept (file_at s p) (without_path p s)
      (λ q m at. sound.filed q m (before-unnamed p q m at))
      (λ m not is. let had = sound.has_path m is in (had.0, other-stays p had.0 m not had.1))
      (λ q m at. sound.housed q m (before-unnamed p q m at))

  pub sound-moved : (o n : Path) (k : ℕ) → n.folder < s.folders → file_at s o ≡ Some k → IsSound (after_rename o n s)
  sound-moved o n k within at = by (is_one_file (file_at s o) (file_at s n))
    where
      shifted : State
      shifted = record s { names = finmap.insert (finmap.remove s.names o) n k }

      here : (q : Path) → q ≡ n → file_at shifted q ≡ Some k
      here q is = maps.at_put path_total path_exact (finmap.remove s.names o) n q k is

      beside : (q : Path) → q ≢ n → file_at shifted q ≡ file_at (without_path o s) q
      beside q not = maps.beside_put path_total path_exact (finmap.remove s.names o) n q k not

      swept-sound : IsSound (with_files_still_named (file_at s n) shifted)
      swept-sound = sound-swept (file_at s n) shifted
          (λ q m there. by_path q n
          (λ is. let number : k ≡ m = (let h = here q is in cc) in sound.filed o m (at ∙ ap Some number))
          (λ not. sound.filed q m (before-unnamed o q m (sym (beside q not) ∙ there))))
          (λ m not is. by_number k m
          (λ same. (n, here n refl ∙ ap Some same))
          (λ differ.
          let had = sound.has_path m is in (
            had.0,
            beside had.0 (λ same. not (ap (file_at s) (sym same) ∙ had.1)) ∙
                other-stays o had.0 m (λ h. differ (let e : Some k ≡ Some m = sym at ∙ h in cc)) had.1,
          )))
          (λ q m there. by_path q n
          (λ is. subst (λ (x : Path). x.folder < s.folders) (sym is) within)
          (λ not. sound.housed q m (before-unnamed o q m (sym (beside q not) ∙ there))))

      by : (b : Bool) → IsSound (cond b s (with_files_still_named (file_at s n) (with_path n (without_path o s) (file_at s o))))
      by true = sound
      by false = subst (λ (x : Option ℕ). IsSound (with_files_still_named (file_at s n) (with_path n (without_path o s) x))) (sym at) swept-sound
