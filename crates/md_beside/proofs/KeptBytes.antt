-- A file that a step does not write to, and that a path names after it, stays as it was.
use Rattle.std.proofs.Common.{ℕ, ◌≡◌, ◌≢◌, ◌<◌, List, Option, Some, None, Bool, true, false, cond, refl, sym, ap, ◌∙◌, length, slice_set}
use Rattle.md_dirs.proofs.Sound.{by_number, file_by-set_other, file_by-push, swept-kept}
use Rattle.md_dirs.specs.State.{State, file_at, file_by}
use Rattle.md_dirs.specs.Calls.{after_append, with_path, without_path, with_files_still_named, is_one_file, empty_file, file_with_more}
use Rattle.md_dirs.specs.declared.paths.File.{File}
use Rattle.md_dirs.specs.declared.paths.Path.{Path}
use Rattle.md_core.specs.Mailbox.{bytes_of}
use Rattle.md_core.proofs.Induction.Good.{bytes_at}
use Rattle.md_jobs.specs.Asked.{create, append, link, rename, unlink, list}
use Rattle.md_jobs.specs.declared.step.DirReply.{DirReply}
use Rattle.md_jobs.specs.declared.step.DirReply.TheVariants as reply
use Rattle.md_log.specs.declared.line.Call.TheVariants as told
use Rattle.md_log.specs.declared.line.Deed.TheVariants as deed
use Rattle.md_log.specs.declared.line.Reply.{Reply}
use Rattle.md_log.specs.declared.line.Reply.TheVariants as said
use Rattle.md_beside.specs.Story.{Did, asked, wrote, flushed, file_written, after_write, after_did, call_seen, reply_seen}
use Rattle.md_beside.proofs.WithoutBytes.{set-as_it_was}

-- a write that was refused changes nothing
written-not : (bytes : List ℕ) (now : ℕ) (o : Option File) → file_written bytes now reply.NotFound o ≡ o
written-not bytes now None = refl
written-not bytes now (Some file) = refl

written-exists : (bytes : List ℕ) (now : ℕ) (o : Option File) → file_written bytes now reply.Exists o ≡ o
written-exists bytes now None = refl
written-exists bytes now (Some file) = refl

module _ (s : State) (n : ℕ) (within : n < length s.files) where
  -- the step is no write to the file
  abbrev pub IsNoWrite : Did → DirReply → Type 0
  IsNoWrite d r = (p : Path) (e : Reply) → call_seen s d (reply_seen r) ≡ told.At deed.Write p e → e ≢ said.NotFound →
      file_at s p ≡ Some n → ⊥

  at-other : (m : ℕ) (x : Option File) → n ≢ m → file_by (slice_set s.files m x) n ≡ file_by s.files n
  at-other m x differ = file_by-set_other s.files m n x differ

  append-kept : (p : Path) (bytes : List ℕ) (now : ℕ) → (file_at s p ≡ Some n → ⊥) → (o : Option ℕ) → file_at s p ≡ o →
      file_by (after_append bytes now s o).files n ≡ file_by s.files n
  append-kept p bytes now not None at = refl
  append-kept p bytes now not (Some m) at = by_number n m (λ same. absurd (not (at ∙ ap Some (sym same))))
      (λ differ. at-other m (file_with_more bytes now (file_by s.files m)) differ)

  write-kept : (p : Path) (bytes : List ℕ) (now : ℕ) (r : DirReply) → (file_at s p ≡ Some n → ⊥) → (o : Option ℕ) → file_at s p ≡ o →
      file_by (after_write bytes now r s o).files n ≡ file_by s.files n
  write-kept p bytes now r not None at = refl
  write-kept p bytes now r not (Some m) at = by_number n m (λ same. absurd (not (at ∙ ap Some (sym same))))
      (λ differ. at-other m (file_written bytes now r (file_by s.files m)) differ)

  refused-kept : (bytes : List ℕ) (now : ℕ) (r : DirReply) → ((x : Option File) → file_written bytes now r x ≡ x) → (o : Option ℕ) →
      file_by (after_write bytes now r s o).files n ≡ file_by s.files n
  refused-kept bytes now r same None = refl
  refused-kept bytes now r same (Some m) =
      ap (λ (x : Option File). file_by (slice_set s.files m x) n) (same (file_by s.files m))
      ∙ ap (λ (files : List (Option File)). file_by files n) (set-as_it_was s.files m)

  named-kept : (p : Path) (x : State) (o : Option ℕ) → file_by (with_path p x o).files n ≡ file_by x.files n
  named-kept p x None = refl
  named-kept p x (Some m) = refl

  rename-kept : (old new q : Path) (b : Bool) →
      let renamed = cond b s (with_files_still_named (file_at s new) (with_path new (without_path old s) (file_at s old))) in
      file_at renamed q ≡ Some n → file_by renamed.files n ≡ file_by s.files n
  rename-kept old new q true there = refl
  rename-kept old new q false there =
      swept-kept (file_at s new) (with_path new (without_path old s) (file_at s old)) q n there
      ∙ named-kept new (without_path old s) (file_at s old)

  pub kept-file : (d : Did) (now : ℕ) (r : DirReply) → IsNoWrite d r → (q : Path) → file_at (after_did d now r s) q ≡ Some n →
      file_by (after_did d now r s).files n ≡ file_by s.files n
  kept-file (asked (create p)) now reply.Ok not q there = file_by-push s.files (Some (empty_file now)) n within
  kept-file (asked (append p bytes)) now reply.Ok not q there = append-kept p bytes now (not p said.Ok refl (λ e. cc)) (file_at s p) refl
  kept-file (asked (link old new)) now reply.Ok not q there = named-kept new s (file_at s old)
  kept-file (asked (rename old new)) now reply.Ok not q there = rename-kept old new q (is_one_file (file_at s old) (file_at s new)) there
  kept-file (asked (unlink p)) now reply.Ok not q there = swept-kept (file_at s p) (without_path p s) q n there
  kept-file (asked (list folder place)) now reply.Ok not q there = refl
  kept-file (asked a) now reply.Exists not q there = refl
  kept-file (asked a) now reply.NotFound not q there = refl
  kept-file (asked a) now reply.Fault not q there = refl
  kept-file (wrote p bytes) now reply.Ok not q there = write-kept p bytes now reply.Ok (not p said.Ok refl (λ e. cc)) (file_at s p) refl
  kept-file (wrote p bytes) now reply.Fault not q there =
      write-kept p bytes now reply.Fault (not p said.Fault refl (λ e. cc)) (file_at s p) refl
  kept-file (wrote p bytes) now reply.NotFound not q there = refused-kept bytes now reply.NotFound (written-not bytes now) (file_at s p)
  kept-file (wrote p bytes) now reply.Exists not q there = refused-kept bytes now reply.Exists (written-exists bytes now) (file_at s p)
  kept-file (flushed p) now r not q there = refl

  pub kept-bytes : (d : Did) (now : ℕ) (r : DirReply) → IsNoWrite d r → (q : Path) → file_at (after_did d now r s) q ≡ Some n →
      bytes_at (after_did d now r s) n ≡ bytes_at s n
  kept-bytes d now r not q there = ap bytes_of (kept-file d now r not q there)
