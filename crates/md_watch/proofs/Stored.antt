-- What calls leave of the files of a state: each path names a file that is there, and only a write sets a stamp.
use Rattle.std.proofs.Common.{ℕ, zero, suc, ◌≡◌, ◌<◌, ◌++◌, Bool, true, false, cond, List, [], ◌∷◌, Option, Some, None, is_some, length, slice_set, IsSome, refl, sym, ap, subst, ◌∙◌}
use Rattle.std.specs.Ordering.{eq_by_cmp}
use Rattle.std.specs.FinMap.{get-insert, get-remove, entries}
use Rattle.md_dirs.specs.Path.{path_cmp}
use Rattle.md_dirs.specs.State.{State, file_at, file_by}
use Rattle.md_dirs.specs.Calls.{with_new_file, empty_file, after_append, file_with_more, with_path, without_path, after_unlink, with_files_still_named, has_path_to, is_one_file}
use Rattle.md_dirs.specs.declared.paths.Path.{Path}
use Rattle.md_dirs.specs.declared.paths.File.{File}
use Rattle.md_dirs.proofs.PathOrder.{path_total}
use Rattle.md_dirs.proofs.Sound.{by_number, file-within, file_by-set_same, file_by-set_other, file_by-push, file_by-last, swept-kept}
use Rattle.md_log.specs.declared.line.Deed.{Deed}
use Rattle.md_log.specs.declared.line.Deed.TheVariants as deed
use Rattle.md_log.specs.declared.line.Naming.{Naming}
use Rattle.md_log.specs.declared.line.Naming.TheVariants as naming
use Rattle.md_log.specs.declared.line.Call.{Call}
use Rattle.md_log.specs.declared.line.Call.TheVariants as call
use Rattle.md_watch.specs.Stored.{HasFiles}
use Rattle.md_law.specs.History.{ask_at, ask_between, after_call}
use Rattle.md_watch.proofs.Afters.{after-cases, path-files}

-- ---- each path names a file that is there

-- a choice that has a number has that of the path, or that of before
chosen : {A : Type 0} (b : Bool) (k : ℕ) (o : Option ℕ) (n : ℕ) → cond b (Some k) o ≡ Some n → (k ≡ n → A) → (o ≡ Some n → A) → A
chosen true k o n is this other = this (cc)
chosen false k o n is this other = other is

left-over : (b : Bool) (o : Option ℕ) (n : ℕ) → cond b None o ≡ Some n → o ≡ Some n
left-over true o n is = cc
left-over false o n is = is

here : (o : Option File) (file : File) → o ≡ Some file → IsSome o
here o file is = ap is_some is

pub has-named : (s : State) (p : Path) (k : ℕ) → HasFiles s → IsSome (file_by s.files k) → HasFiles (with_path p s (Some k))
has-named s p k has there q n is =
    chosen (eq_by_cmp path_cmp q p) k (file_at s q) n (sym (get-insert path_total s.names p k q) ∙ is)
    (λ same. subst (λ (m : ℕ). IsSome (file_by s.files m)) same there) (λ was. has q n was)

pub has-made : (s : State) (p : Path) (file : File) → HasFiles s → HasFiles (with_new_file p file s)
has-made s p file has q n is =
    chosen (eq_by_cmp path_cmp q p) (length s.files) (file_at s q) n (sym (get-insert path_total s.names p (length s.files) q) ∙ is)
    (λ same. subst (λ (m : ℕ). IsSome (file_by (s.files ++ Some file ∷ []) m)) same (here _ file (file_by-last s.files (Some file))))
    (λ was. let there = has q n was in
    subst (λ (o : Option File). IsSome o) (sym (file_by-push s.files (Some file) n (file-within s.files n there))) there)

has-less : (s : State) (p : Path) → HasFiles s → HasFiles (without_path p s)
has-less s p has q n is = has q n (left-over (eq_by_cmp path_cmp q p) (file_at s q) n (sym (get-remove path_total s.names p q) ∙ is))

has-swept : (o : Option ℕ) (s : State) → HasFiles s → HasFiles (with_files_still_named o s)
has-swept o s has q n is = subst (λ (f : Option File). IsSome f) (sym (swept-kept o s q n is)) (has q n is)

more-there : (now : ℕ) (o : Option File) → IsSome o → IsSome (file_with_more [] now o)
more-there now None is = cc
more-there now (Some file) is = refl

has-written : (s : State) (now : ℕ) (o : Option ℕ) → HasFiles s → HasFiles (after_append [] now s o)
has-written s now None has = has
has-written s now (Some m) has = λ q n is. by_number n m
    (λ same.
    let there = subst (λ (k : ℕ). IsSome (file_by s.files k)) same (has q n is) in
    let set = file_by-set_same s.files m (file_with_more [] now (file_by s.files m)) (file-within s.files m there) in
    subst (λ (k : ℕ). IsSome (file_by (slice_set s.files m (file_with_more [] now (file_by s.files m))) k)) (sym same)
    (subst (λ (f : Option File). IsSome f) (sym set) (more-there now (file_by s.files m) there)))
    (λ other. subst (λ (f : Option File). IsSome f) (sym (file_by-set_other s.files m n _ other)) (has q n is))

has-at : (d : Deed) (p : Path) (now : ℕ) (s : State) → HasFiles s → HasFiles ((ask_at d p now).after s)
has-at deed.Create p now s has = has-made s p (empty_file now) has
has-at deed.Write p now s has = has-written s now (file_at s p) has
has-at deed.Flush p now s has = has
has-at deed.Unlink p now s has = has-swept (file_at s p) (without_path p s) (has-less s p has)

has-link : (s : State) (new old : Path) (o : Option ℕ) → file_at s old ≡ o → HasFiles s → HasFiles (with_path new s o)
has-link s new old None is has = has
has-link s new old (Some k) is has = has-named s new k has (has old k is)

has-moved : (s : State) (new old : Path) (o : Option ℕ) → file_at s old ≡ o → HasFiles s → HasFiles (with_path new (without_path old s) o)
has-moved s new old None is has = has-less s old has
has-moved s new old (Some k) is has = has-named (without_path old s) new k (has-less s old has) (has old k is)

has-between : (n : Naming) (old new : Path) (s : State) → HasFiles s → HasFiles ((ask_between n old new).after s)
has-between naming.Link old new s has = has-link s new old (file_at s old) refl has
has-between naming.Rename old new s has =
    elim (is_one_file (file_at s old) (file_at s new)) as (λ b. HasFiles
    (cond b s (with_files_still_named (file_at s new) (with_path new (without_path old s) (file_at s old))))) [
      | true ↦ has
      | false ↦ has-swept (file_at s new) (with_path new (without_path old s) (file_at s old))
          (has-moved s new old (file_at s old) refl has)
    ]

pub has-call : (c : Call) (now : ℕ) (s : State) → HasFiles s → HasFiles (after_call c now s)
has-call (call.At d p r) now s has = after-cases r (ask_at d p now) s HasFiles has (has-at d p now s has)
has-call (call.Between n old new r) now s has = after-cases r (ask_between n old new) s HasFiles has (has-between n old new s has)
has-call (call.List folder place r shown) now s has = has
has-call (call.Answer answer folder unique) now s has = has

-- ---- which file has a number

set-none : (files : List (Option File)) (k : ℕ) → file_by (slice_set files k None) k ≡ None
set-none [] k = refl
set-none (f ∷ files) zero = refl
set-none (f ∷ files) (suc k) = set-none files k

-- a file that was not given back is as it was
swept-back : (o : Option ℕ) (s : State) (n : ℕ) (file : File) → file_by (with_files_still_named o s).files n ≡ Some file
    → file_by s.files n ≡ Some file
swept-back None s n file is = is
swept-back (Some m) s n file is = by (has_path_to (entries s.names) m) is
  where
    by : (b : Bool) → file_by (cond b s.files (slice_set s.files m None)) n ≡ Some file → file_by s.files n ≡ Some file
    by true is = is
    by false is = by_number n m
        (λ same. let gone : file_by (slice_set s.files m None) n ≡ None = ap (file_by (slice_set s.files m None)) same
        ∙ set-none s.files m in cc)
        (λ other. sym (file_by-set_other s.files m n None other) ∙ is)

pub unlinked-file : (p : Path) (s : State) (n : ℕ) (file : File) → file_by (after_unlink p s).files n ≡ Some file
    → file_by s.files n ≡ Some file
unlinked-file p s n file is = swept-back (file_at s p) (without_path p s) n file is

pub between-file : (m : Naming) (old new : Path) (s : State) (n : ℕ) (file : File)
    → file_by ((ask_between m old new).after s).files n ≡ Some file → file_by s.files n ≡ Some file
between-file naming.Link old new s n file is = ap (λ fs. file_by fs n) (sym (path-files new s (file_at s old))) ∙ is
between-file naming.Rename old new s n file is = by (is_one_file (file_at s old) (file_at s new)) is
  where
    by : (b : Bool) → file_by (cond b s (with_files_still_named (file_at s new)
        (with_path new (without_path old s) (file_at s old)))).files n ≡ Some file
        → file_by s.files n ≡ Some file
    by true is = is
    by false is = ap (λ fs. file_by fs n) (sym (path-files new (without_path old s) (file_at s old)))
        ∙ swept-back (file_at s new) (with_path new (without_path old s) (file_at s old)) n file is

-- a write sets the stamp of its file
pub written-stamp : (s : State) (now n : ℕ) (file : File) → n < length s.files
    → file_by (after_append [] now s (Some n)).files n ≡ Some file → file.stamp ≡ now
written-stamp s now n file low is = by (file_by s.files n)
    (sym (file_by-set_same s.files n (file_with_more [] now (file_by s.files n)) low) ∙ is)
  where
    by : (o : Option File) → file_with_more [] now o ≡ Some file → file.stamp ≡ now
    by None is = cc
    by (Some f) is = let same : record { bytes = f.bytes ++ []; stamp = now } ≡ file = cc in sym (ap (λ (g : File). g.stamp) same)

-- and leaves the others
pub written-other : (s : State) (now n : ℕ) (o : Option ℕ) → (o ≡ Some n → ⊥)
    → file_by (after_append [] now s o).files n ≡ file_by s.files n
written-other s now n None other = refl
written-other s now n (Some m) other = file_by-set_other s.files m n _ (λ same. other (ap Some (sym same)))

-- a file that is made has the stamp of its making
pub made-stamp : (p : Path) (s : State) (now : ℕ) (file : File)
    → file_by (with_new_file p (empty_file now) s).files (length s.files) ≡ Some file → file.stamp ≡ now
made-stamp p s now file is =
    let last = file_by-last s.files (Some (empty_file now)) in
    let same : empty_file now ≡ file = cc in sym (ap (λ (g : File). g.stamp) same)

pub made-other : (p : Path) (s : State) (now n : ℕ) → n < length s.files
    → file_by (with_new_file p (empty_file now) s).files n ≡ file_by s.files n
made-other p s now n low = file_by-push s.files (Some (empty_file now)) n low
