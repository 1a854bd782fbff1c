-- A step leaves in a story what its line leaves in the log, but for bytes.
use Rattle.std.proofs.Common.{ℕ, zero, suc, ◌≡◌, ◌++◌, List, [], ◌∷◌, Option, Some, None, true, false, cond, refl, sym, ap, ◌∙◌, length, map, slice_get, slice_set}
use Rattle.std.proofs.lemmas.List.{map-append, map-set, length-map}
use Rattle.std.proofs.lemmas.Option.{slice_get-map}
use Rattle.std.specs.FinMap as finmap
use Rattle.std.specs.Option.{option_flatten, option_map}
use Rattle.md_dirs.specs.State.{State, file_at, file_by}
use Rattle.md_dirs.specs.Calls.{empty_file, file_with_more, after_append, with_path, with_new_file, has_path_to, files_still_named, with_files_still_named, without_path, after_rename, after_unlink, is_one_file}
use Rattle.md_dirs.specs.declared.paths.File.{File}
use Rattle.md_dirs.specs.declared.paths.Path.{Path}
use Rattle.md_jobs.specs.Asked.{create, append, link, rename, unlink, list}
use Rattle.md_jobs.specs.declared.step.DirReply.{DirReply}
use Rattle.md_jobs.specs.declared.step.DirReply.TheVariants as reply
use Rattle.md_law.specs.History.{after_call}
use Rattle.md_beside.specs.Story.{Did, asked, wrote, flushed, file_written, after_write, after_did, bare_file, without_bytes, call_seen, reply_seen}

-- a file without its bytes
flat-bare : (o : Option (Option File)) → option_flatten (option_map bare_file o) ≡ bare_file (option_flatten o)
flat-bare None = refl
flat-bare (Some o) = refl

pub file-bare : (files : List (Option File)) (n : ℕ) → file_by (map bare_file files) n ≡ bare_file (file_by files n)
file-bare files n = ap option_flatten (slice_get-map bare_file files n) ∙ flat-bare (slice_get files n)

more-bare : (bytes : List ℕ) (now : ℕ) (o : Option File) → file_with_more [] now (bare_file o) ≡ bare_file (file_with_more bytes now o)
more-bare bytes now None = refl
more-bare bytes now (Some file) = refl

done-bare : (bytes : List ℕ) (now : ℕ) (o : Option File) → file_with_more [] now (bare_file o)
    ≡ bare_file (file_written bytes now reply.Ok o)
done-bare bytes now None = refl
done-bare bytes now (Some file) = refl

pub set-as_it_was : (files : List (Option File)) (n : ℕ) → slice_set files n (file_by files n) ≡ files
set-as_it_was [] n = refl
set-as_it_was (x ∷ xs) zero = refl
set-as_it_was (x ∷ xs) (suc n) = ap (λ (r : List (Option File)). x ∷ r) (set-as_it_was xs n)

-- a file of a number is set, and in the log what a write leaves
module _ (s : State) (now n : ℕ) where
  set-bare : (x : Option File) → file_with_more [] now (bare_file (file_by s.files n)) ≡ bare_file x →
      slice_set (map bare_file s.files) n (file_with_more [] now (file_by (map bare_file s.files) n))
      ≡ map bare_file (slice_set s.files n x)
  set-bare x is = ap (λ (y : Option File). slice_set (map bare_file s.files) n y) (ap (file_with_more [] now) (file-bare s.files n) ∙ is)
      ∙ sym (map-set bare_file s.files n x)

  kept-bare : (x : Option File) → bare_file x ≡ bare_file (file_by s.files n) →
      map bare_file (slice_set s.files n x) ≡ map bare_file s.files
  kept-bare x is = map-set bare_file s.files n x
      ∙ ap (λ (y : Option File). slice_set (map bare_file s.files) n y) (is ∙ sym (file-bare s.files n))
      ∙ set-as_it_was (map bare_file s.files) n

append-bare : (s : State) (bytes : List ℕ) (now : ℕ) (o : Option ℕ) →
    after_append [] now (without_bytes s) o ≡ without_bytes (after_append bytes now s o)
append-bare s bytes now None = refl
append-bare s bytes now (Some n) = ap (λ (files : List (Option File)). record s { files = files })
    (set-bare s now n (file_with_more bytes now (file_by s.files n)) (more-bare bytes now (file_by s.files n)))

write-bare : (s : State) (bytes : List ℕ) (now : ℕ) (o : Option ℕ) →
    after_append [] now (without_bytes s) o ≡ without_bytes (after_write bytes now reply.Ok s o)
write-bare s bytes now None = refl
write-bare s bytes now (Some n) = ap (λ (files : List (Option File)). record s { files = files })
    (set-bare s now n (file_written bytes now reply.Ok (file_by s.files n)) (done-bare bytes now (file_by s.files n)))

link-bare : (p : Path) (s : State) (o : Option ℕ) → with_path p (without_bytes s) o ≡ without_bytes (with_path p s o)
link-bare p s None = refl
link-bare p s (Some n) = refl

create-bare : (p : Path) (now : ℕ) (s : State) → with_new_file p (empty_file now) (without_bytes s)
    ≡ without_bytes (with_new_file p (empty_file now) s)
create-bare p now s =
    ap (λ (n : ℕ). record s { names = finmap.insert s.names p n; files = map bare_file s.files ++ Some (empty_file now) ∷ [] })
    (length-map s.files bare_file)
    ∙ ap (λ (files : List (Option File)). record s { names = finmap.insert s.names p (length s.files); files = files })
    (sym (map-append bare_file s.files (Some (empty_file now) ∷ [])))

still-bare : (names : List (Path × ℕ)) (o : Option ℕ) (files : List (Option File)) →
    files_still_named names o (map bare_file files) ≡ map bare_file (files_still_named names o files)
still-bare names None files = refl
still-bare names (Some n) files =
    elim (has_path_to names n) as (λ b. cond b (map bare_file files) (slice_set (map bare_file files) n None)
    ≡ map bare_file (cond b files (slice_set files n None))) [
      | true ↦ refl
      | false ↦ sym (map-set bare_file files n None)
    ]

named-bare : (o : Option ℕ) (s : State) → with_files_still_named o (without_bytes s) ≡ without_bytes (with_files_still_named o s)
named-bare o s = ap (λ (files : List (Option File)). record s { files = files }) (still-bare (finmap.entries s.names) o s.files)

unlink-bare : (p : Path) (s : State) → after_unlink p (without_bytes s) ≡ without_bytes (after_unlink p s)
unlink-bare p s = named-bare (file_at s p) (without_path p s)

rename-bare : (o n : Path) (s : State) → after_rename o n (without_bytes s) ≡ without_bytes (after_rename o n s)
rename-bare o n s =
    elim (is_one_file (file_at s o) (file_at s n)) as (λ b. cond b (without_bytes s)
    (with_files_still_named (file_at s n) (with_path n (without_path o (without_bytes s)) (file_at s o)))
    ≡ without_bytes (cond b s (with_files_still_named (file_at s n) (with_path n (without_path o s) (file_at s o))))) [
      | true ↦ refl
      | false ↦ ap (with_files_still_named (file_at s n)) (link-bare n (without_path o s) (file_at s o))
          ∙ named-bare (file_at s n) (with_path n (without_path o s) (file_at s o))
    ]

-- what is written in a write that failed is seen by no log
failed-bare : (bytes : List ℕ) (now : ℕ) (r : DirReply) (s : State) (o : Option ℕ) →
    ((x : Option File) → bare_file (file_written bytes now r x) ≡ bare_file x) →
    without_bytes (after_write bytes now r s o) ≡ without_bytes s
failed-bare bytes now r s None same = refl
failed-bare bytes now r s (Some n) same = ap (λ (files : List (Option File)). record s { files = files })
    (kept-bare s now n (file_written bytes now r (file_by s.files n)) (same (file_by s.files n)))

pub forgets : (d : Did) (now : ℕ) (r : DirReply) (s : State) →
    after_call (call_seen s d (reply_seen r)) now (without_bytes s) ≡ without_bytes (after_did d now r s)
forgets (asked (create p)) now reply.Ok s = create-bare p now s
forgets (asked (append p bytes)) now reply.Ok s = append-bare s bytes now (file_at s p)
forgets (asked (link old new)) now reply.Ok s = link-bare new s (file_at s old)
forgets (asked (rename old new)) now reply.Ok s = rename-bare old new s
forgets (asked (unlink p)) now reply.Ok s = unlink-bare p s
forgets (asked (list folder place)) now reply.Ok s = refl
forgets (asked (create p)) now reply.Exists s = refl
forgets (asked (append p bytes)) now reply.Exists s = refl
forgets (asked (link old new)) now reply.Exists s = refl
forgets (asked (rename old new)) now reply.Exists s = refl
forgets (asked (unlink p)) now reply.Exists s = refl
forgets (asked (list folder place)) now reply.Exists s = refl
forgets (asked (create p)) now reply.NotFound s = refl
forgets (asked (append p bytes)) now reply.NotFound s = refl
forgets (asked (link old new)) now reply.NotFound s = refl
forgets (asked (rename old new)) now reply.NotFound s = refl
forgets (asked (unlink p)) now reply.NotFound s = refl
forgets (asked (list folder place)) now reply.NotFound s = refl
forgets (asked (create p)) now reply.Fault s = refl
forgets (asked (append p bytes)) now reply.Fault s = refl
forgets (asked (link old new)) now reply.Fault s = refl
forgets (asked (rename old new)) now reply.Fault s = refl
forgets (asked (unlink p)) now reply.Fault s = refl
forgets (asked (list folder place)) now reply.Fault s = refl
forgets (wrote p bytes) now reply.Ok s = write-bare s bytes now (file_at s p)
forgets (wrote p bytes) now reply.Exists s = sym (failed-bare bytes now reply.Exists s (file_at s p) exists)
  where
    exists : (x : Option File) → bare_file (file_written bytes now reply.Exists x) ≡ bare_file x
    exists None = refl
    exists (Some file) = refl
forgets (wrote p bytes) now reply.NotFound s = sym (failed-bare bytes now reply.NotFound s (file_at s p) absent)
  where
    absent : (x : Option File) → bare_file (file_written bytes now reply.NotFound x) ≡ bare_file x
    absent None = refl
    absent (Some file) = refl
forgets (wrote p bytes) now reply.Fault s = sym (failed-bare bytes now reply.Fault s (file_at s p) failed)
  where
    failed : (x : Option File) → bare_file (file_written bytes now reply.Fault x) ≡ bare_file x
    failed None = refl
    failed (Some file) = refl
forgets (flushed p) now reply.Ok s = refl
forgets (flushed p) now reply.Exists s = refl
forgets (flushed p) now reply.NotFound s = refl
forgets (flushed p) now reply.Fault s = refl
