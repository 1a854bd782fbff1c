-- A file that was made is there, or was, and has one maker.
use Rattle.std.proofs.Common.{ℕ, ◌≡◌, ◌<◌, ◌≤◌, inl, inr, true, false, cond, List, [], Option, Some, None, refl, sym, ap, ◌∙◌, length, slice_set, arith}
use Rattle.std.proofs.lemmas.List.{length_push, length-set}
use Rattle.md_dirs.specs.State.{State, file_at}
use Rattle.md_dirs.specs.Calls.{Ask, empty_file, is_one_file, with_path, without_path, with_files_still_named, files_still_named, has_path_to, after_append}
use Rattle.md_dirs.specs.declared.paths.Path.{Path}
use Rattle.md_dirs.specs.declared.paths.File.{File}
use Rattle.md_log.specs.declared.line.Call.{Call}
use Rattle.md_log.specs.declared.line.Call.TheVariants as call
use Rattle.md_log.specs.declared.line.Deed.{Deed}
use Rattle.md_log.specs.declared.line.Deed.TheVariants as deed
use Rattle.md_log.specs.declared.line.Naming.{Naming}
use Rattle.md_log.specs.declared.line.Naming.TheVariants as naming
use Rattle.md_log.specs.declared.line.Reply.{Reply}
use Rattle.md_log.specs.declared.line.Reply.TheVariants as reply
use Rattle.md_log.specs.declared.line.Step.{Step}
use Rattle.md_law.specs.History.{History, opening, next, moment, at, now, ask_at, ask_between, after_ask, after_call, Once}
use Rattle.md_law.specs.Files.{Makes, IsMaker}

-- ---- no call makes files fewer

append-files : (s : State) (now : ℕ) (o : Option ℕ) → length (after_append [] now s o).files ≡ length s.files
append-files s now None = refl
append-files s now (Some n) = length-set s.files n _

still-files : (names : List (Path × ℕ)) (o : Option ℕ) (files : List (Option File)) →
    length (files_still_named names o files) ≡ length files
still-files names None files = refl
still-files names (Some n) files = elim (has_path_to names n) as (λ b. length (cond b files (slice_set files n None)) ≡ length files) [
  | true ↦ refl
  | false ↦ length-set files n None
]

path-files : (p : Path) (s : State) (o : Option ℕ) → length (with_path p s o).files ≡ length s.files
path-files p s None = refl
path-files p s (Some n) = refl

at-files : (d : Deed) (p : Path) (now : ℕ) (s : State) → length s.files ≤ length ((ask_at d p now).after s).files
at-files deed.Create p now s = rw (length_push s.files _) (omega arith)
at-files deed.Write p now s = rw (append-files s now (file_at s p)) (omega arith)
at-files deed.Flush p now s = omega arith
at-files deed.Unlink p now s = rw (still-files _ (file_at s p) s.files) (omega arith)

between-files : (n : Naming) (old new : Path) (s : State) → length ((ask_between n old new).after s).files ≡ length s.files
between-files naming.Link old new s = path-files new s (file_at s old)
between-files naming.Rename old new s =
    elim (is_one_file (file_at s old) (file_at s new)) as
    (λ b. length (cond b s (with_files_still_named (file_at s new) (with_path new (without_path old s) (file_at s old)))).files
    ≡ length s.files) [
      | true ↦ refl
      | false ↦ still-files _ (file_at s new) _ ∙ path-files new (without_path old s) (file_at s old)
    ]

ask-files : (r : Reply) (ask : Ask) (s : State) → length s.files ≤ length (ask.after s).files →
    length s.files ≤ length (after_ask r ask s).files
ask-files reply.Ok ask s more = more
ask-files reply.More ask s more = omega arith
ask-files reply.Exists ask s more = omega arith
ask-files reply.NotFound ask s more = omega arith
ask-files reply.Fault ask s more = omega arith

call-files : (c : Call) (now : ℕ) (s : State) → length s.files ≤ length (after_call c now s).files
call-files (call.At d p r) now s = ask-files r (ask_at d p now) s (at-files d p now s)
call-files (call.Between n old new r) now s = ask-files r (ask_between n old new) s (rw (between-files n old new s) (omega arith))
call-files (call.List folder place r shown) now s = omega arith
call-files (call.Answer said folder unique) now s = omega arith

pub files-rise : (h : History) (x : Step) → length (at h).files ≤ length (at (next h x)).files
unfolding moment
files-rise h x = call-files x.call (now (next h x)) (at h)

-- ---- makers

pub maker-still : (h : History) (x : Step) (actor : List ℕ) (n : ℕ) → IsMaker h actor n → IsMaker (next h x) actor n
unfolding Once
maker-still h x actor n made = inr made

pub maker-now : (h : History) (x : Step) (actor : List ℕ) (n : ℕ) → Makes (next h x) actor n → IsMaker (next h x) actor n
unfolding Once
maker-now h x actor n makes = inl makes

created : (h : History) (x : Step) (p : Path) → x.call ≡ call.At deed.Create p reply.Ok → length (at h).files < length (at (next h x)).files
unfolding moment
created h x p is =
    let more : length (after_call x.call (now (next h x)) (at h)).files
    ≡ length (after_call (call.At deed.Create p reply.Ok) (now (next h x)) (at h)).files =
    ap (λ (c : Call). length (after_call c (now (next h x)) (at h)).files) is in
    let one = length_push (at h).files (Some (empty_file (now (next h x)))) in
    omega (arith, more, one)

-- the step makes a file: the next that there is
makes-low : (h : History) (x : Step) (actor : List ℕ) (n : ℕ) → Makes (next h x) actor n → n < length (at (next h x)).files
makes-low h x actor n makes =
    let call : x.call ≡ call.At deed.Create makes.0 reply.Ok =
    (let e : Some makes.2.0 ≡ Some x = sym makes.2.1 in
    let same : makes.2.0 ≡ x = cc in ap (λ (y : Step). y.call) (sym same) ∙ makes.2.2) in
    let low = created h x makes.0 call in
    let number = makes.3 in
    omega (arith, low, number)

pub maker-low : (h : History) (actor : List ℕ) (n : ℕ) → IsMaker h actor n → n < length (at h).files
unfolding Once
maker-low (opening m) actor n makes = let none = makes.1.1 in cc
maker-low (next past x) actor n (inl makes) = makes-low past x actor n makes
maker-low (next past x) actor n (inr before) =
    let low = maker-low past actor n before in
    let grows = files-rise past x in
    omega (arith, low, grows)

pub one-maker : (h : History) (n : ℕ) (a b : List ℕ) → IsMaker h a n → IsMaker h b n → a ≡ b
unfolding Once
one-maker (opening m) n a b makes other = let none = makes.1.1 in cc
one-maker (next past x) n a b (inl makes) (inl other) =
    let e : Some makes.1.0 ≡ Some other.1.0 = sym makes.1.1 ∙ other.1.1 in
    let same : makes.1.0 ≡ other.1.0 = cc in
    sym makes.1.2 ∙ ap (λ (y : Step). y.actor) same ∙ other.1.2
one-maker (next past x) n a b (inl makes) (inr before) = let low = maker-low past b n before in let at = makes.3 in
    absurd (omega (arith, low, at))
one-maker (next past x) n a b (inr before) (inl other) = let low = maker-low past a n before in let at = other.3 in
    absurd (omega (arith, low, at))
one-maker (next past x) n a b (inr before) (inr earlier) = one-maker past n a b before earlier
