-- What calls leave of the folders and the files of a state, and of its paths where they change none.
use Rattle.std.proofs.Common.{ℕ, ◌≡◌, ◌+◌, true, false, cond, List, [], Option, Some, None, refl, ap, ◌∙◌, length, slice_set}
use Rattle.std.proofs.lemmas.List.{length_push, length-set}
use Rattle.md_dirs.specs.State.{State, file_at}
use Rattle.md_dirs.specs.Calls.{Ask, is_one_file, with_path, without_path, with_files_still_named, files_still_named, has_path_to, after_append}
use Rattle.md_dirs.specs.declared.paths.Path.{Path}
use Rattle.md_dirs.specs.declared.paths.File.{File}
use Rattle.md_log.specs.declared.line.Call.{Call}
use Rattle.md_log.specs.declared.line.Call.TheVariants as call
use Rattle.md_log.specs.declared.line.Reply.{Reply}
use Rattle.md_log.specs.declared.line.Reply.TheVariants as reply
use Rattle.md_log.specs.declared.line.Deed.{Deed}
use Rattle.md_log.specs.declared.line.Deed.TheVariants as deed
use Rattle.md_log.specs.declared.line.Naming.{Naming}
use Rattle.md_log.specs.declared.line.Naming.TheVariants as naming
use Rattle.md_law.specs.History.{ask_at, ask_between, after_ask, after_call}

-- how many files there are after a call on one path: a create that was made makes one
abbrev pub files_after : Deed → Reply → ℕ → ℕ
files_after deed.Create reply.Ok files = files + 1
files_after d r files = files

-- a call leaves the state, or what it is defined to leave
pub after-cases : (r : Reply) (ask : Ask) (s : State) (P : State → Type 0) → P s → P (ask.after s) → P (after_ask r ask s)
after-cases reply.Ok ask s P a b = b
after-cases reply.More ask s P a b = a
after-cases reply.Exists ask s P a b = a
after-cases reply.NotFound ask s P a b = a
after-cases reply.Fault ask s P a b = a

append-folders : (s : State) (now : ℕ) (n : Option ℕ) → (after_append [] now s n).folders ≡ s.folders
append-folders s now None = refl
append-folders s now (Some n) = refl

append-files : (s : State) (now : ℕ) (n : Option ℕ) → length (after_append [] now s n).files ≡ length s.files
append-files s now None = refl
append-files s now (Some n) = length-set s.files n _

-- a write changes no path
pub append-paths : (s : State) (now : ℕ) (n : Option ℕ) (q : Path) → file_at (after_append [] now s n) q ≡ file_at s q
append-paths s now None q = refl
append-paths s now (Some n) q = refl

still-files : (names : List (Path × ℕ)) (n : Option ℕ) (files : List (Option File))
    → length (files_still_named names n files) ≡ length files
still-files names None files = refl
still-files names (Some n) files = elim (has_path_to names n) as (λ b. length (cond b files (slice_set files n None)) ≡ length files) [
  | true ↦ refl
  | false ↦ length-set files n None
]

pub path-folders : (p : Path) (s : State) (n : Option ℕ) → (with_path p s n).folders ≡ s.folders
path-folders p s None = refl
path-folders p s (Some n) = refl

pub path-files : (p : Path) (s : State) (n : Option ℕ) → (with_path p s n).files ≡ s.files
path-files p s None = refl
path-files p s (Some n) = refl

asked-folders : (d : Deed) (p : Path) (now : ℕ) (s : State) → ((ask_at d p now).after s).folders ≡ s.folders
asked-folders deed.Create p now s = refl
asked-folders deed.Write p now s = append-folders s now (file_at s p)
asked-folders deed.Flush p now s = refl
asked-folders deed.Unlink p now s = refl

pub at-folders : (d : Deed) (r : Reply) (p : Path) (now : ℕ) (s : State) → (after_ask r (ask_at d p now) s).folders ≡ s.folders
at-folders d r p now s = after-cases r (ask_at d p now) s (λ t. t.folders ≡ s.folders) refl (asked-folders d p now s)

pub at-files : (d : Deed) (r : Reply) (p : Path) (now : ℕ) (s : State)
    → length (after_ask r (ask_at d p now) s).files ≡ files_after d r (length s.files)
at-files deed.Create reply.Ok p now s = length_push s.files _
at-files deed.Create reply.More p now s = refl
at-files deed.Create reply.Exists p now s = refl
at-files deed.Create reply.NotFound p now s = refl
at-files deed.Create reply.Fault p now s = refl
at-files deed.Write r p now s =
    after-cases r (ask_at deed.Write p now) s (λ t. length t.files ≡ length s.files) refl (append-files s now (file_at s p))
at-files deed.Flush r p now s = after-cases r (ask_at deed.Flush p now) s (λ t. length t.files ≡ length s.files) refl refl
at-files deed.Unlink r p now s =
    after-cases r (ask_at deed.Unlink p now) s (λ t. length t.files ≡ length s.files) refl (still-files _ (file_at s p) s.files)

module _ (old new : Path) (s : State) where
  asked-between-folders : (n : Naming) → ((ask_between n old new).after s).folders ≡ s.folders
  asked-between-folders naming.Link = path-folders new s (file_at s old)
  asked-between-folders naming.Rename =
      elim (is_one_file (file_at s old) (file_at s new)) as (λ b.
      (cond b s (with_files_still_named (file_at s new) (with_path new (without_path old s) (file_at s old)))).folders ≡ s.folders) [
        | true ↦ refl
        | false ↦ path-folders new (without_path old s) (file_at s old)
      ]

  asked-between-files : (n : Naming) → length ((ask_between n old new).after s).files ≡ length s.files
  asked-between-files naming.Link = ap length (path-files new s (file_at s old))
  asked-between-files naming.Rename =
      elim (is_one_file (file_at s old) (file_at s new)) as (λ b. length
      (cond b s (with_files_still_named (file_at s new) (with_path new (without_path old s) (file_at s old)))).files ≡ length s.files) [
        | true ↦ refl
        | false ↦ still-files _ (file_at s new) _ ∙ ap length (path-files new (without_path old s) (file_at s old))
      ]

  pub between-folders : (n : Naming) (r : Reply) → (after_ask r (ask_between n old new) s).folders ≡ s.folders
  between-folders n r = after-cases r (ask_between n old new) s (λ t. t.folders ≡ s.folders) refl (asked-between-folders n)

  pub between-files : (n : Naming) (r : Reply) → length (after_ask r (ask_between n old new) s).files ≡ length s.files
  between-files n r = after-cases r (ask_between n old new) s (λ t. length t.files ≡ length s.files) refl (asked-between-files n)

-- no call makes a folder, or takes one away
pub call-folders : (c : Call) (now : ℕ) (s : State) → (after_call c now s).folders ≡ s.folders
call-folders (call.At d p r) now s = at-folders d r p now s
call-folders (call.Between n old new r) now s = between-folders old new s n r
call-folders (call.List folder place r shown) now s = refl
call-folders (call.Answer said folder unique) now s = refl
