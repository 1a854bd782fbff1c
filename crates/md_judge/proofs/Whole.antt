-- What is read of a whole log, line by line.
use Rattle.std.proofs.Common.{ℕ, suc, ◌≡◌, ◌<◌, ◌≤◌, ◌+◌, length, List, [], ◌∷◌, ◌++◌, Some, Result, Ok, Err, IsOk, slice_get, refl, sym, ap, subst, ◌∙◌, true, false, not, is_some, Bool, arith}
use Rattle.std.proofs.lemmas.List.{length_push}
use Rattle.std.specs.Prelude.{if◌then◌else◌, codes}
use Rattle.std.specs.Str.{bytes_eq}
use Rattle.md_dirs.specs.State.{file_at}
use Rattle.md_dirs.specs.Calls.{empty_file, with_new_file, with_path}
use Rattle.md_dirs.specs.declared.paths.Path.{Path}
use Rattle.md_text.specs.Bind.{◌>>=◌, require}
use Rattle.md_log.specs.Lines.{line_of}
use Rattle.md_log.specs.Folders.{with_folder}
use Rattle.md_log.specs.declared.clause.Clause.{Clause}
use Rattle.md_log.specs.declared.error.LineFault.{LineFault}
use Rattle.md_log.specs.declared.error.LineFault.TheVariants.{NoLog, SamePath, NoSuchPath}
use Rattle.md_log.specs.declared.line.Line.{Line}
use Rattle.md_log.specs.declared.line.Line.TheVariants as line
use Rattle.md_judge.specs.declared.session.Session.{Session}
use Rattle.md_text.specs.Words.{is_passed_over}
use Rattle.md_judge.specs.Logs.{Log, Numbered, empty_log, has_begun, with_line, with_text, with_folder_line, with_file_line, with_also_line, with_lines, at_line, log_by}
use Rattle.md_judge.specs.Placed.{HasPlaced}
use Rattle.md_judge.specs.Taken.{HasTaken, with_given}
use Rattle.md_judge.proofs.Placed.{counted-placed}

-- ---- the lines of a log

-- the first of the lines is read, and then the others
pub lines-cut : (m l : Log) (n : ℕ) (text : List ℕ) (texts : List (List ℕ)) → with_lines m n (text ∷ texts) ≡ Ok l
    → (o : Log) × (with_text m n text ≡ Ok o) × (with_lines o (suc n) texts ≡ Ok l)
unfolding with_lines
lines-cut m l n text texts is = by (with_text m n text) refl is
  where
    by : (r : Result Log LineFault) → with_text m n text ≡ r → (at_line n r >>= (λ o. with_lines o (suc n) texts)) ≡ Ok l
        → (o : Log) × (with_text m n text ≡ Ok o) × (with_lines o (suc n) texts ≡ Ok l)
    by (Ok o) one is = (o, one, is)
    by (Err fault) one is = absurd (cc is)

-- no line is left
pub lines-end : (m l : Log) (n : ℕ) → with_lines m n [] ≡ Ok l → m ≡ l
unfolding with_lines
lines-end m l n is = let now : Ok m ≡ Ok l = is in cc now

-- ---- clauses that are not judged either

-- what is done to a log that was read, or its fault
abbrev pub on-log : {E : Type 0} → (Log → Log) → Result Log E → Result Log E
on-log f (Ok l) = Ok (f l)
on-log f (Err e) = Err e

given-folder : (given : List Clause) (l : Log) (name : List ℕ)
    → with_folder_line (with_given given l) name ≡ on-log (with_given given) (with_folder_line l name)
unfolding with_folder_line
given-folder given l name = by (with_folder l.folders name)
  where
    by : (r : Result (List (List ℕ)) LineFault)
        → (r >>= (λ folders.
        Ok (record l { folders = folders; allowed = l.allowed ++ given; opening = record l.opening { folders = length folders } })))
        ≡ on-log (with_given given)
        (r >>= (λ folders. Ok (record l { folders = folders; opening = record l.opening { folders = length folders } })))
    by (Ok fs) = refl
    by (Err fault) = refl

given-file : (given : List Clause) (l : Log) (path : Path) (stamp : ℕ)
    → with_file_line (with_given given l) path stamp ≡ on-log (with_given given) (with_file_line l path stamp)
unfolding with_file_line
given-file given l path stamp = by (require (not (is_some (file_at l.opening path))) SamePath)
  where
    by : (r : Result (Unit {0}) LineFault)
        → (r >>= (λ _. Ok (record l {
          allowed = l.allowed ++ given;
          opening = with_new_file path (empty_file stamp) l.opening;
        })))
        ≡ on-log (with_given given)
        (r >>= (λ _. Ok (record l { opening = with_new_file path (empty_file stamp) l.opening })))
    by (Ok x) = refl
    by (Err fault) = refl

given-also : (given : List Clause) (l : Log) (path old : Path)
    → with_also_line (with_given given l) path old ≡ on-log (with_given given) (with_also_line l path old)
unfolding with_also_line
given-also given l path old =
    by (require (not (is_some (file_at l.opening path))) SamePath) (require (is_some (file_at l.opening old)) NoSuchPath)
  where
    by : (r q : Result (Unit {0}) LineFault)
        → (r >>= (λ _. q >>= (λ _.
        Ok (record l { allowed = l.allowed ++ given; opening = with_path path l.opening (file_at l.opening old) }))))
        ≡ on-log (with_given given) (r >>= (λ _. q >>= (λ _. Ok (record l { opening = with_path path l.opening (file_at l.opening old) }))))
    by (Ok x) (Ok y) = refl
    by (Ok x) (Err fault) = refl
    by (Err fault) q = refl

given-line : (given : List Clause) (l : Log) (number : ℕ) (v : Line)
    → with_line (with_given given l) number v ≡ on-log (with_given given) (with_line l number v)
given-line given l number (line.Folder name) = given-folder given l name
given-line given l number (line.Allow c) = refl
given-line given l number (line.File path stamp) = given-file given l path stamp
given-line given l number (line.Also path old) = given-also given l path old
given-line given l number (line.Step step) = refl

-- a line is added to a log whatever clauses are not judged of it
pub given-text : (given : List Clause) (l : Log) (number : ℕ) (text : List ℕ)
    → with_text (with_given given l) number text ≡ on-log (with_given given) (with_text l number text)
unfolding with_text
given-text given l number text = by (is_passed_over text) (line_of l.folders (has_begun l) text)
  where
    by : (b : Bool) (r : Result Line LineFault)
        → (if b then Ok (with_given given l) else (r >>= (λ line. with_line (with_given given l) number line)))
        ≡ on-log (with_given given) (if b then Ok l else (r >>= (λ line. with_line l number line)))
    by true r = refl
    by false (Ok v) = given-line given l number v
    by false (Err fault) = refl

-- ---- lines that are taken in one by one

-- the last of the lines is read after the others
lines-more : (texts : List (List ℕ)) (m l : Log) (n : ℕ) (text : List ℕ) → with_lines m n (texts ++ text ∷ []) ≡ Ok l
    → (o : Log) × (with_lines m n texts ≡ Ok o) × (with_text o (n + length texts) text ≡ Ok l)
unfolding with_lines
lines-more [] m l n text is =
    let cut = lines-cut m l n text [] is in
    let same : n ≡ n + 0 = omega arith in
    (m, refl, subst (λ k. with_text m k text ≡ Ok l) same (cut.1 ∙ ap Ok (lines-end cut.0 l (suc n) cut.2)))
lines-more (one ∷ texts) m l n text is =
    let cut = lines-cut m l n one (texts ++ text ∷ []) is in
    let rest = lines-more texts cut.0 l (suc n) text cut.2 in
    let same : suc n + length texts ≡ n + suc (length texts) = omega arith in (
      rest.0,
      subst (λ (r : Result Log LineFault). (at_line n r >>= (λ o. with_lines o (suc n) texts)) ≡ Ok rest.0) (sym cut.1) rest.1,
      subst (λ k. with_text rest.0 k text ≡ Ok l) same rest.2,
    )

log-more : (head : List ℕ) (texts : List (List ℕ)) (l : Log) (text : List ℕ) → log_by (head ∷ (texts ++ text ∷ [])) ≡ Ok l
    → (o : Log) × (log_by (head ∷ texts) ≡ Ok o) × (with_text o (2 + length texts) text ≡ Ok l)
log-more head texts l text is = by (bytes_eq head (codes "maildir_log 1")) is
  where
    by : (b : Bool) → (if b then with_lines empty_log 2 (texts ++ text ∷ []) else Err (record { line = 1; fault = NoLog })) ≡ Ok l
        → (o : Log) × ((if b then with_lines empty_log 2 texts else Err (record { line = 1; fault = NoLog })) ≡ Ok o) × (with_text o (2 + length texts) text ≡ Ok l)
    by true is = lines-more texts empty_log l 2 text is
    by false is = absurd (cc is)

-- a log of one line is the empty one
log-one : (text : List ℕ) (l : Log) → log_by (text ∷ []) ≡ Ok l → empty_log ≡ l
log-one text l is = by (bytes_eq text (codes "maildir_log 1")) is
  where
    by : (b : Bool) → (if b then with_lines empty_log 2 [] else Err (record { line = 1; fault = NoLog })) ≡ Ok l → empty_log ≡ l
    by true is = lines-end empty_log l 2 is
    by false is = absurd (cc is)

none-of-some : (texts : List (List ℕ)) (text : List ℕ) → texts ++ text ∷ [] ≡ [] → ⊥
none-of-some [] text none = cc none
none-of-some (one ∷ texts) text none = cc none

-- a session that takes in one more line, the head or one after it, has taken in the lines with it
pub takes-line : (given : List Clause) (texts : List (List ℕ)) (text : List ℕ) (s t : Session) (number : ℕ) → HasTaken given texts s
    → number ≡ suc (length texts)
    → (number ≤ 1 → t ≡ s)
    → (1 < number → (l l' : Log) → HasPlaced number l s → with_text l number text ≡ Ok l' → HasPlaced (suc number) l' t)
    → IsOk (log_by (texts ++ text ∷ []))
    → HasTaken given (texts ++ text ∷ []) (record t { lines = number })
takes-line given [] text s t number taken is first placed log =
    let one : number ≡ 1 = is in
    let none : Log = with_given given empty_log in
    let start : HasPlaced 2 none t = subst (λ (v : Session). HasPlaced 2 none v) (sym (first (omega (arith, one)))) (taken.none refl) in
    record {
      lines = one;
      none = λ none. absurd (none-of-some [] text none);
      log = λ some. log;
      placed = λ l has.
          subst (λ (m : Log). HasPlaced 2 (with_given given m) (record t { lines = number })) (log-one text l has)
          (counted-placed 2 none t number start);
    }
takes-line given (head ∷ texts) text s t number taken is first placed log =
    let long : length (texts ++ text ∷ []) ≡ length texts + 1 = length_push texts text in
    let is' : number ≡ suc (suc (length texts)) = is in
    record {
      lines = let same : number ≡ suc (length (texts ++ text ∷ [])) = omega (arith, long, is') in same;
      none = λ none. absurd (none-of-some (head ∷ texts) text none);
      log = λ some. log;
      placed = λ l has.
          let more = log-more head texts l text has in
          let here : 2 + length texts ≡ number = omega (arith, is') in
          let next : with_text more.0 number text ≡ Ok l = subst (λ k. with_text more.0 k text ≡ Ok l) here more.2 in
          let next' : with_text (with_given given more.0) number text ≡ Ok (with_given given l) =
          given-text given more.0 number text ∙ ap (on-log (with_given given)) next in
          let before : HasPlaced (suc (suc (length texts))) (with_given given more.0) s = taken.placed more.0 more.1 in
          let now : HasPlaced (suc number) (with_given given l) t =
          placed (omega (arith, is')) (with_given given more.0) (with_given given l)
          (subst (λ k. HasPlaced k (with_given given more.0) s) (sym is') before) next' in
          let same : suc number ≡ suc (suc (length (texts ++ text ∷ []))) = omega (arith, long, is') in
          subst (λ k. HasPlaced k (with_given given l) (record t { lines = number })) same
          (counted-placed (suc number) (with_given given l) t number now);
    }
