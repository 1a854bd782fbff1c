-- Lines of a log, and the logs that they make.
use Rattle.std.proofs.Common.{ℕ, suc, ◌≡◌, ◌+◌, true, nat_lt, Bool, false, not, is_some, List, [], ◌++◌, ◌∷◌, Option, Some, None, IsSome, Result, Ok, Err, IfOk, length, slice_get, refl, sym, ap, subst, ◌∙◌, arith}
use Rattle.std.proofs.lemmas.Result.{IfOk-at_ok}
use Rattle.std.proofs.lemmas.List.{length_push}
use Rattle.std.proofs.lemmas.Bool.{lt-ltb}
use Rattle.std.specs.Prelude.{if◌then◌else◌}
use Rattle.md_dirs.specs.State.{State, file_at}
use Rattle.md_dirs.specs.Calls.{empty_file, with_new_file, with_path}
use Rattle.md_dirs.specs.declared.paths.Path.{Path}
use Rattle.md_log.specs.Folders.{with_folder}
use Rattle.md_log.specs.Lines.{head_of, step_line, line_of, line_by}
use Rattle.md_log.specs.Words.{word_at}
use Rattle.md_log.specs.declared.error.LineFault.{LineFault}
use Rattle.md_log.specs.declared.error.LineFault.TheVariants.{SamePath, NoSuchPath}
use Rattle.md_log.specs.declared.line.Line.{Line}
use Rattle.md_log.specs.declared.line.Line.TheVariants as line
use Rattle.md_log.specs.declared.line.Step.{Step}
use Rattle.md_text.specs.Bind.{◌>>=◌, require}
use Rattle.md_text.specs.Words.{is_passed_over}
use Rattle.md_judge.specs.declared.session.Session.{Session}
use Rattle.md_judge.specs.Logs.{Log, Numbered, has_begun, with_line, with_text, with_folder_line, with_file_line, with_also_line}
use Rattle.md_judge.specs.Placed.{IsHead}

pub begun-after : (xs : List Numbered) (y : Numbered) → nat_lt 0 (length (xs ++ y ∷ [])) ≡ true
begun-after xs y = let long = length_push xs y in lt-ltb 0 (length (xs ++ y ∷ [])) (omega (arith, long))

-- ---- lines of the beginning

-- a log with a file, or with a further name of one
abbrev pub with-file : Log → Path → ℕ → Log
with-file l path stamp = record l { opening = with_new_file path (empty_file stamp) l.opening }

abbrev pub with-name : Log → Path → Option ℕ → Log
with-name l path file = record l { opening = with_path path l.opening file }

abbrev pub with-folders : Log → List (List ℕ) → Log
with-folders l folders = record l { folders = folders; opening = record l.opening { folders = length folders } }

pub file-is : (l l' : Log) (path : Path) (stamp : ℕ) → with_file_line l path stamp ≡ Ok l' → with-file l path stamp ≡ l'
unfolding with_file_line
file-is l l' path stamp is = by (is_some (file_at l.opening path)) is
  where
    by : (b : Bool) → (require (not b) SamePath >>= (λ _. Ok (with-file l path stamp))) ≡ Ok l' → with-file l path stamp ≡ l'
    by true is = absurd (cc)
    by false is = cc

pub also-is : (l l' : Log) (path old : Path) → with_also_line l path old ≡ Ok l' → with-name l path (file_at l.opening old) ≡ l'
unfolding with_also_line
also-is l l' path old is = by (is_some (file_at l.opening path)) (is_some (file_at l.opening old)) is
  where
    by : (a b : Bool) → (require (not a) SamePath >>= (λ _. require b NoSuchPath >>= (λ _. Ok (with-name l path (file_at l.opening old))))) ≡ Ok l'
        → with-name l path (file_at l.opening old) ≡ l'
    by true b is = absurd (cc)
    by false false is = absurd (cc)
    by false true is = cc

pub folder-is : (l l' : Log) (name : List ℕ) (fs : List (List ℕ)) → with_folder l.folders name ≡ Ok fs → with_folder_line l name ≡ Ok l'
    → with-folders l fs ≡ l'
unfolding with_folder_line
folder-is l l' name fs has is =
    let now : Ok (with-folders l fs) ≡ Ok l' =
    subst (λ (r : Result (List (List ℕ)) LineFault). (r >>= (λ folders. Ok (with-folders l folders))) ≡ Ok l') has is in
    cc now

-- a path is free, and a file is there; or a line is refused
pub file-done : (l : Log) (p : Path) (stamp : ℕ) → is_some (file_at l.opening p) ≡ false → with_file_line l p stamp ≡ Ok (with-file l p stamp)
unfolding with_file_line
file-done l p stamp free = ap (λ b. require (not b) SamePath >>= (λ u. Ok (with-file l p stamp))) free

pub same-path : (l : Log) (p : Path) (stamp : ℕ) → is_some (file_at l.opening p) ≡ true → with_file_line l p stamp ≡ Err SamePath
unfolding with_file_line
same-path l p stamp there = ap (λ b. require (not b) SamePath >>= (λ u. Ok (with-file l p stamp))) there

pub name-done : (l : Log) (p old : Path) → is_some (file_at l.opening p) ≡ false → is_some (file_at l.opening old) ≡ true
    → with_also_line l p old ≡ Ok (with-name l p (file_at l.opening old))
unfolding with_also_line
name-done l p old free some = λ i. require (not (free i)) SamePath >>= (λ u. require (some i) NoSuchPath
    >>= (λ v. Ok (with-name l p (file_at l.opening old))))

pub same-name : (l : Log) (p old : Path) → is_some (file_at l.opening p) ≡ true → with_also_line l p old ≡ Err SamePath
unfolding with_also_line
same-name l p old there = ap (λ b. require (not b) SamePath >>= (λ u. require (is_some (file_at l.opening old)) NoSuchPath
    >>= (λ v. Ok (with-name l p (file_at l.opening old))))) there

pub no-path : (l : Log) (p old : Path) → is_some (file_at l.opening p) ≡ false → is_some (file_at l.opening old) ≡ false
    → with_also_line l p old ≡ Err NoSuchPath
unfolding with_also_line
no-path l p old free none = λ i. require (not (free i)) SamePath >>= (λ u. require (none i) NoSuchPath
    >>= (λ v. Ok (with-name l p (file_at l.opening old))))

pub folder-done : (l : Log) (name : List ℕ) (fs : List (List ℕ)) → with_folder l.folders name ≡ Ok fs → with_folder_line l name ≡ Ok (with-folders l fs)
unfolding with_folder_line
folder-done l name fs has = ap (λ r. r >>= (λ folders. Ok (with-folders l folders))) has

pub folder-wrong : (l : Log) (name : List ℕ) (fault : LineFault) → with_folder l.folders name ≡ Err fault → with_folder_line l name ≡ Err fault
unfolding with_folder_line
folder-wrong l name fault has = ap (λ r. r >>= (λ folders. Ok (with-folders l folders))) has

-- ---- the text of a line

-- a line that is passed over adds nothing
pub text-over : (number : ℕ) (l l' : Log) (text : List ℕ) → is_passed_over text ≡ true → with_text l number text ≡ Ok l' → l ≡ l'
unfolding with_text
text-over number l l' text over is =
    let now : Ok l ≡ Ok l' =
    subst (λ b. (if b then Ok l else (line_of l.folders (has_begun l) text >>= (λ line. with_line l number line))) ≡ Ok l') over is in
    cc now

-- a session has the folders of a log, and knows whether its steps have begun
abbrev pub HasSame : Log → Session → Type 0
HasSame l s = (s.folders ≡ l.folders) × (s.has_begun ≡ has_begun l)

-- what another line says is added
pub text-line : (number : ℕ) (l l' : Log) (s : Session) (text : List ℕ) (line : Line) → HasSame l s → is_passed_over text ≡ false
    → line_of s.folders s.has_begun text ≡ Ok line → with_text l number text ≡ Ok l' → with_line l number line ≡ Ok l'
unfolding with_text
text-line number l l' s text line same over has is =
    let has' : line_of l.folders (has_begun l) text ≡ Ok line = sym (λ i. line_of (same.0 i) (same.1 i) text) ∙ has in
    subst (λ (r : Result Line LineFault). (r >>= (λ line. with_line l number line)) ≡ Ok l') has'
    (subst (λ b. (if b then Ok l else (line_of l.folders (has_begun l) text >>= (λ line. with_line l number line))) ≡ Ok l') over is)

abbrev IsStepLine : Line → Type 0
IsStepLine (line.Step x) = Unit {0}
IsStepLine v = ⊥

-- once steps have begun a line is a step
late : (folders : List (List ℕ)) (text : List ℕ) → IfOk (line_of folders true text) IsStepLine
unfolding line_of
late folders text = by (word_at (Some text))
  where
    by-step : (r : Result Step LineFault) → IfOk (r >>= (λ step. Ok (line.Step step))) IsStepLine
    by-step (Err fault) = tt
    by-step (Ok x) = tt

    by-head : (h : Option _) (first : List ℕ) (rest : Option (List ℕ)) → IfOk (line_by folders true h first rest) IsStepLine
    by-head (Some h) first rest = tt
    by-head None first rest = by-step (step_line folders first rest)

    by : (r : Result (List ℕ × Option (List ℕ)) LineFault) → IfOk (r >>= (λ first. line_by folders true (head_of first.0) first.0 first.1)) IsStepLine
    by (Err fault) = tt
    by (Ok first) = by-head (head_of first.0) first.0 first.1

no-steps : (xs : List Numbered) → nat_lt 0 (length xs) ≡ false → xs ≡ []
no-steps [] none = refl
no-steps (x ∷ xs) none = absurd (let some : nat_lt 0 (length (x ∷ xs)) ≡ true = lt-ltb 0 (length (x ∷ xs)) (omega arith) in cc (some, none))

step-alone : (v : Line) → ((x : Step) → v ≡ line.Step x → ⊥) → IsStepLine v → ⊥
step-alone (line.Folder name) other is = is
step-alone (line.Allow c) other is = is
step-alone (line.File path stamp) other is = is
step-alone (line.Also path old) other is = is
step-alone (line.Step x) other is = other x refl

-- a line that is no step comes before the first one
pub none-yet : (l : Log) (s : Session) (text : List ℕ) → HasSame l s → (v : Line) → ((x : Step) → v ≡ line.Step x → ⊥)
    → line_of s.folders s.has_begun text ≡ Ok v → l.steps ≡ []
none-yet l s text same v other is = by s.has_begun is same.1
  where
    by : (b : Bool) → line_of s.folders b text ≡ Ok v → b ≡ has_begun l → l.steps ≡ []
    by true is begun = absurd (step-alone v other (IfOk-at_ok IsStepLine is (late s.folders text)))
    by false is begun = no-steps l.steps (sym begun)

pub is-head : (v : Line) → ((x : Step) → v ≡ line.Step x → ⊥) → IsHead v
is-head (line.Folder name) other = tt
is-head (line.Allow c) other = tt
is-head (line.File path stamp) other = tt
is-head (line.Also path old) other = tt
is-head (line.Step x) other = absurd (other x refl)
