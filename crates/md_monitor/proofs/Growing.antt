-- Files are numbered in the order of their making, and no number is given twice.
use Rattle.std.proofs.Common.{ℕ, ◌≡◌, ◌≤◌, ◌<◌, inl, inr, cond, List, [], ◌∷◌, Option, Some, None, Bool, true, false, refl, ap, ◌∙◌, length, slice_set, arith}
use Rattle.std.proofs.Math.ListN.{length-append, length-set}
use Rattle.md_dirs.specs.State.{State, file_at, file_by}
use Rattle.md_dirs.specs.Calls.{empty_file, after_append, after_unlink, after_rename, file_with_more, files_still_named, has_path_to, with_path, is_one_file, without_path, with_files_still_named}
use Rattle.md_dirs.specs.declared.paths.Path.{Path}
use Rattle.md_dirs.specs.declared.paths.File.{File}
use Rattle.md_log.specs.declared.line.Call.{Call}
use Rattle.md_log.specs.declared.line.Call.TheVariants as call
use Rattle.md_log.specs.declared.line.Deed.TheVariants as deed
use Rattle.md_log.specs.declared.line.Naming.TheVariants as naming
use Rattle.md_log.specs.declared.line.Reply.TheVariants as reply
use Rattle.md_law.specs.History.{History, opening, next, at, now, moment, after_call, Once}
use Rattle.md_law.specs.Files.{IsMaker}
use Rattle.md_monitor.specs.Files.{made_by}
use Rattle.md_monitor.proofs.Stepping.{makes}

-- what is taken from the files keeps their places
swept : (names : List (Path × ℕ)) (number : Option ℕ) (files : List (Option File))
    → length (files_still_named names number files) ≡ length files
swept names None files = refl
swept names (Some n) files = by (has_path_to names n)
  where
    by : (b : Bool) → length (cond b files (slice_set files n None)) ≡ length files
    by true = refl
    by false = length-set files n None

pathed : (p : Path) (s : State) (file : Option ℕ) → (with_path p s file).files ≡ s.files
pathed p s None = refl
pathed p s (Some n) = refl

longer : (s : State) (clock : ℕ) (file : Option ℕ) → length (after_append [] clock s file).files ≡ length s.files
longer s clock None = refl
longer s clock (Some n) = length-set s.files n (file_with_more [] clock (file_by s.files n))

renamed : (s : State) (o n : Path) (b : Bool)
    → length (cond b s (with_files_still_named (file_at s n) (with_path n (without_path o s) (file_at s o)))).files ≡ length s.files
renamed s o n true = refl
renamed s o n false = swept _ (file_at s n) _ ∙ ap length (pathed n (without_path o s) (file_at s o))

-- no call takes a number back
grows : (s : State) (c : Call) (clock : ℕ) → length s.files ≤ length (after_call c clock s).files
grows s (call.At deed.Create p reply.Ok) clock = (let more = length-append s.files (Some (empty_file clock) ∷ []) in omega (arith, more))
grows s (call.At deed.Unlink p reply.Ok) clock =
    let same : length (after_unlink p s).files ≡ length s.files = swept _ (file_at s p) s.files in
    omega (arith, same)
grows s (call.At deed.Write p reply.Ok) clock = let same = longer s clock (file_at s p) in omega (arith, same)
grows s (call.At deed.Flush p reply.Ok) clock = omega arith
grows s (call.Between naming.Link old new reply.Ok) clock = let same = ap length (pathed new s (file_at s old)) in omega (arith, same)
grows s (call.Between naming.Rename old new reply.Ok) clock =
    let same : length (after_rename old new s).files ≡ length s.files = renamed s old new (is_one_file (file_at s old) (file_at s new)) in
    omega (arith, same)
grows s c clock = omega arith

-- the number of a file that a call makes is given with it
gives : (s : State) (c : Call) (clock n : ℕ) → made_by s c ≡ Some n → n < length (after_call c clock s).files
gives s (call.At deed.Create p reply.Ok) clock n is =
    let number : length s.files ≡ n = cc is in
    let more = length-append s.files (Some (empty_file clock) ∷ []) in
    omega (arith, more, number)
gives s c clock n is = absurd (cc is)

-- a file that was made has a number
pub made-below : (h : History) (actor : List ℕ) (n : ℕ) → IsMaker h actor n → n < length (at h).files
unfolding Once moment
made-below (opening m) actor n made = absurd (let none = made.1.1 in cc)
made-below (next past x) actor n (inl step) = gives (at past) x.call (now (next past x)) n ((makes past x actor n).1 step).1
made-below (next past x) actor n (inr was) =
    let low = made-below past actor n was in
    let more = grows (at past) x.call (now (next past x)) in
    omega (arith, low, more)
