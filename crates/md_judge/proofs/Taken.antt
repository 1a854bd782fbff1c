-- What is answered of a log's lines as they are taken in.
use Rattle.std.proofs.Common.{ℕ, suc, ◌≡◌, ◌≢◌, ◌<◌, ◌≤◌, ◌+◌, ◌↔◌, length, List, [], ◌∷◌, ◌++◌, Result, Ok, Err, IsOk, is_ok, IfErr, refl, sym, ap, subst, ◌∙◌, true, false, not, Bool, inl, inr, arith}
use Rattle.std.proofs.lemmas.Bool.{cases_lt}
use Rattle.std.proofs.lemmas.List.{append-nil, append_assoc, take-append-le, take_all, take_at}
use Rattle.std.specs.Prelude.{if◌then◌else◌, codes}
use Rattle.std.specs.Str.{bytes_eq}
use Rattle.md_head.specs.Header.{lines_of}
use Rattle.md_log.specs.declared.clause.Clause.{Clause}
use Rattle.md_text.specs.Bind.{◌>>=◌}
use Rattle.md_log.specs.Folders.{with_folder}
use Rattle.md_log.specs.Lines.{line_of}
use Rattle.md_log.specs.declared.line.Line.{Line}
use Rattle.md_log.specs.declared.line.Line.TheVariants as line
use Rattle.md_log.specs.declared.line.Step.{Step}
use Rattle.md_log.specs.declared.error.LineFault.{LineFault}
use Rattle.md_log.specs.declared.error.LineFault.TheVariants.{NoLog, NoMemory, NoOrder, TooManyOrders}
use Rattle.md_log.specs.declared.error.LogFault.{LogFault}
use Rattle.md_judge.specs.declared.session.Session.{Session}
use Rattle.md_text.specs.Words.{is_passed_over}
use Rattle.md_judge.specs.Logs.{Log, Numbered, empty_log, has_begun, with_line, with_folder_line, with_text, with_lines, at_line, log_by, log_of}
use Rattle.md_judge.specs.Verdict.{AreInOrder, IsAmong, IsFinding, HasNoTicks}
use Rattle.md_judge.specs.Orders.{AreFoundInOrder}
use Rattle.md_judge.specs.Placed.{IsUnplaced, HasPlaced}
use Rattle.md_judge.specs.Taken.{IsWithoutTicks, Answers, AnswersAny, HasTaken, HasEnded, with_given, beside_law, by_law}
use Rattle.md_judge.proofs.Lines.{HasSame}
use Rattle.md_judge.proofs.Plain.{found-plain}
use Rattle.md_judge.proofs.Whole.{on-log, given-text, lines-cut, lines-end}

-- where there is a value, it is this
pub ok-of : {A E : Type 0} (r : Result A E) → IsOk r → (x : A) × (r ≡ Ok x)
ok-of (Ok x) ok = (x, refl)
ok-of (Err e) ok = absurd (cc ok)

-- ---- lines without ticks

-- if no beginning of the lines has ticks, none of their beginning has
pub without-shorter : (texts more : List (List ℕ)) → IsWithoutTicks (texts ++ more) → IsWithoutTicks texts
without-shorter texts more none n l is = elim (cases_lt n (length texts)) [
  | inl low ↦ none n l (ap log_by (take-append-le n texts more (omega (arith, low))) ∙ is)
  | inr high ↦ none (length texts) l (ap log_by (take_at texts more (length texts) refl ∙ sym (take_all n texts high)) ∙ is)
]

-- and the log that they are has none
pub without-all : (texts : List (List ℕ)) (l : Log) → IsWithoutTicks texts → log_by texts ≡ Ok l → HasNoTicks l
without-all texts l none is = none (length texts) l (ap log_by (take_all (length texts) texts (omega arith)) ∙ is)

-- ---- one more line

then-end : (n : ℕ) (r : Result Log LogFault) → (r >>= (λ o. with_lines o n [])) ≡ r
unfolding with_lines
then-end n (Ok l) = refl
then-end n (Err e) = refl

lines-then : (texts : List (List ℕ)) (m l : Log) (n : ℕ) (text : List ℕ) → with_lines m n texts ≡ Ok l
    → with_lines m n (texts ++ text ∷ []) ≡ at_line (n + length texts) (with_text l (n + length texts) text)
unfolding with_lines
lines-then [] m l n text is =
    let here : n ≡ n + 0 = omega arith in
    then-end (suc n) (at_line n (with_text m n text)) ∙ ap (λ k. at_line k (with_text m k text)) here
    ∙ ap (λ (o : Log). at_line (n + 0) (with_text o (n + 0) text)) (lines-end m l n is)
lines-then (one ∷ texts) m l n text is =
    let cut = lines-cut m l n one texts is in
    let here : suc n + length texts ≡ n + suc (length texts) = omega arith in
    ap (λ (r : Result Log LineFault). at_line n r >>= (λ o. with_lines o (suc n) (texts ++ text ∷ []))) cut.1
    ∙ lines-then texts cut.0 l (suc n) text cut.2 ∙ ap (λ k. at_line k (with_text l k text)) here

-- after the lines of a log comes one that is added to it, or that is wrong
pub log-then : (head : List ℕ) (texts : List (List ℕ)) (l : Log) (text : List ℕ) → log_by (head ∷ texts) ≡ Ok l
    → log_by (head ∷ (texts ++ text ∷ [])) ≡ at_line (2 + length texts) (with_text l (2 + length texts) text)
log-then head texts l text is = by (bytes_eq head (codes "maildir_log 1")) is
  where
    by : (b : Bool) → (if b then with_lines empty_log 2 texts else Err (record { line = 1; fault = NoLog })) ≡ Ok l
        → (if b then with_lines empty_log 2 (texts ++ text ∷ []) else Err (record { line = 1; fault = NoLog }))
        ≡ at_line (2 + length texts) (with_text l (2 + length texts) text)
    by true is = lines-then texts empty_log l 2 text is
    by false is = absurd (cc is)

-- a refusal that says nothing of lines says it of any
unplaced-any : (e : LogFault) (log : Result Log LogFault) → IsUnplaced e.fault → e.fault ≢ NoMemory → e.fault ≢ NoOrder → e.fault ≢ TooManyOrders
    → log ≡ Err e
unplaced-any e log unplaced known found few = absurd (elim unplaced [
  | inl is ↦ known is
  | inr other ↦ elim other [ inl is ↦ found is | inr is ↦ few is ]
])

-- where the lines are a log, what refuses nothing else says so of them
pub any-by : {A : Type 0} (r : Result A LogFault) (log : Result Log LogFault) → IsOk log → IfErr r (λ e. IsUnplaced e.fault) → AnswersAny r log
any-by (Ok x) log ok unplaced = ok
any-by (Err e) log ok unplaced = unplaced-any e log unplaced

-- a session has ended the log that the lines are
pub ended-by : (given : List Clause) (texts : List (List ℕ)) (l : Log) (s : Session) → log_by texts ≡ Ok l
    → AreFoundInOrder (with_given given l) s.findings.items → AreInOrder s.findings.items → HasEnded given texts s
ended-by given texts l s is found ordered = record {
  found = λ m other.
      let said : Ok l ≡ Ok m = sym is ∙ other in
      let same : l ≡ m = cc said in
      subst (λ (k : Log). AreFoundInOrder (with_given given k) s.findings.items) same found;
  ordered = λ m other. ordered;
}

-- what is answered of a line is answered of it whatever clauses are not judged
answers-given : {A : Type 0} (r : Result A LogFault) (given : List Clause) (number : ℕ) (o : Result Log LineFault)
    → Answers r (at_line number (on-log (with_given given) o)) → Answers r (at_line number o)
answers-given (Ok x) given number (Ok l) answers = refl
answers-given (Ok x) given number (Err fault) answers = answers
answers-given (Err e) given number (Ok l) answers = λ known. absurd (cc (answers known))
answers-given (Err e) given number (Err fault) answers = answers

-- what is answered of one more line is answered of the lines with it
pub answers-line : {A : Type 0} (r : Result A LogFault) (given : List Clause) (texts : List (List ℕ)) (text : List ℕ) (s : Session)
    (number : ℕ) → HasTaken given texts s → number ≡ suc (length texts) → (number ≤ 1 → Answers r (log_by (text ∷ [])))
    → (1 < number → (l : Log) → HasPlaced number l s → HasNoTicks l → Answers r (at_line number (with_text l number text)))
    → IsWithoutTicks texts → Answers r (log_by (texts ++ text ∷ []))
answers-line r given [] text s number taken is first later none = let is' : number ≡ 1 = is in first (omega (arith, is'))
answers-line r given (head ∷ texts) text s number taken is first later none =
    let has = ok-of (log_by (head ∷ texts)) (taken.log (λ same. cc same)) in
    let is' : number ≡ suc (suc (length texts)) = is in
    let here : 2 + length texts ≡ number = omega (arith, is') in
    let plain = without-all (head ∷ texts) has.0 none has.1 in
    subst (λ (o : Result Log LogFault). Answers r o) (sym (log-then head texts has.0 text has.1))
    (subst (λ k. Answers r (at_line k (with_text has.0 k text))) (sym here)
    (answers-given r given number (with_text has.0 number text)
    (subst (λ (o : Result Log LineFault). Answers r (at_line number o)) (given-text given has.0 number text)
    (later (omega (arith, is')) (with_given given has.0)
    (subst (λ k. HasPlaced k (with_given given has.0) s) (sym is') (taken.placed has.0 has.1)) plain))))

-- the same of any lines
any-given : {A : Type 0} (r : Result A LogFault) (given : List Clause) (number : ℕ) (o : Result Log LineFault)
    → AnswersAny r (at_line number (on-log (with_given given) o)) → AnswersAny r (at_line number o)
any-given (Ok x) given number (Ok l) answers = refl
any-given (Ok x) given number (Err fault) answers = answers
any-given (Err e) given number (Ok l) answers = λ known found few. absurd (cc (answers known found few))
any-given (Err e) given number (Err fault) answers = answers

pub any-line : {A : Type 0} (r : Result A LogFault) (given : List Clause) (texts : List (List ℕ)) (text : List ℕ) (s : Session)
    (number : ℕ) → HasTaken given texts s → number ≡ suc (length texts) → (number ≤ 1 → AnswersAny r (log_by (text ∷ [])))
    → (1 < number → (l : Log) → HasPlaced number l s → AnswersAny r (at_line number (with_text l number text)))
    → AnswersAny r (log_by (texts ++ text ∷ []))
any-line r given [] text s number taken is first later = let is' : number ≡ 1 = is in first (omega (arith, is'))
any-line r given (head ∷ texts) text s number taken is first later =
    let has = ok-of (log_by (head ∷ texts)) (taken.log (λ same. cc same)) in
    let is' : number ≡ suc (suc (length texts)) = is in
    let here : 2 + length texts ≡ number = omega (arith, is') in
    subst (λ (o : Result Log LogFault). AnswersAny r o) (sym (log-then head texts has.0 text has.1))
    (subst (λ k. AnswersAny r (at_line k (with_text has.0 k text))) (sym here)
    (any-given r given number (with_text has.0 number text)
    (subst (λ (o : Result Log LineFault). AnswersAny r (at_line number o)) (given-text given has.0 number text)
    (later (omega (arith, is')) (with_given given has.0)
    (subst (λ k. HasPlaced k (with_given given has.0) s) (sym is') (taken.placed has.0 has.1))))))

-- ---- the text of a line

-- a log with what a line says, or what is said of the line
abbrev says : Log → ℕ → Result Line LineFault → Result Log LineFault
says l number r = r >>= (λ line. with_line l number line)

-- what a line says, by what a session has read
text-is : (number : ℕ) (l : Log) (s : Session) (text : List ℕ) → HasSame l s → is_passed_over text ≡ false
    → with_text l number text ≡ says l number (line_of s.folders s.has_begun text)
unfolding with_text
text-is number l s text same over =
    ap (λ (b : Bool). if b then Ok l else says l number (line_of l.folders (has_begun l) text)) over
    ∙ ap (λ (fs : List (List ℕ)). says l number (line_of fs (has_begun l) text)) (sym same.0)
    ∙ ap (λ (b : Bool). says l number (line_of s.folders b text)) (sym same.1)

-- and that is read as this
text-said : (number : ℕ) (l : Log) (s : Session) (text : List ℕ) (r : Result Line LineFault) → HasSame l s
    → is_passed_over text ≡ false → line_of s.folders s.has_begun text ≡ r → with_text l number text ≡ says l number r
text-said number l s text r read over has = text-is number l s text read over ∙ ap (says l number) has

ok-at : (number : ℕ) (r : Result Log LineFault) → IsOk r → IsOk (at_line number r)
ok-at number (Ok l) ok = refl
ok-at number (Err fault) ok = absurd (cc ok)

-- a line that is passed over is none that is wrong
pub over-answers : (number : ℕ) (l : Log) (text : List ℕ) → is_passed_over text ≡ true → IsOk (at_line number (with_text l number text))
unfolding with_text
over-answers number l text over =
    ap (λ (b : Bool). is_ok (at_line number (if b then Ok l else says l number (line_of l.folders (has_begun l) text)))) over

-- a step is none
pub step-answers : {A : Type 0} (r : Result A LogFault) (number : ℕ) (l : Log) (s : Session) (text : List ℕ) (x : Step) → HasSame l s
    → is_passed_over text ≡ false → line_of s.folders s.has_begun text ≡ Ok (line.Step x) → IfErr r (λ e. e.fault ≡ NoMemory)
    → Answers r (at_line number (with_text l number text))
step-answers (Ok y) number l s text x read over has memory =
    ap (λ (r : Result Log LineFault). is_ok (at_line number r)) (text-said number l s text (Ok (line.Step x)) read over has)
step-answers (Err e) number l s text x read over has memory = λ known. absurd (known memory)

pub step-any : {A : Type 0} (r : Result A LogFault) (number : ℕ) (l : Log) (s : Session) (text : List ℕ) (x : Step) → HasSame l s
    → is_passed_over text ≡ false → line_of s.folders s.has_begun text ≡ Ok (line.Step x) → IfErr r (λ e. IsUnplaced e.fault)
    → AnswersAny r (at_line number (with_text l number text))
step-any (Ok y) number l s text x same over has unplaced =
    ap (λ (r : Result Log LineFault). is_ok (at_line number r)) (text-said number l s text (Ok (line.Step x)) same over has)
step-any (Err e) number l s text x same over has unplaced = unplaced-any e (at_line number (with_text l number text)) unplaced

-- a line of the beginning is wrong where the log says so
pub head-answers : (number : ℕ) (l : Log) (s : Session) (text : List ℕ) (v : Line) → HasSame l s → is_passed_over text ≡ false
    → line_of s.folders s.has_begun text ≡ Ok v → IsOk (with_line l number v) → IsOk (at_line number (with_text l number text))
head-answers number l s text v read over has ok =
    ap (λ (r : Result Log LineFault). is_ok (at_line number r)) (text-said number l s text (Ok v) read over has)
    ∙ ok-at number (with_line l number v) ok

pub head-wrong : (number : ℕ) (l : Log) (s : Session) (text : List ℕ) (v : Line) (fault : LineFault) (e : LogFault)
    → HasSame l s → is_passed_over text ≡ false
    → line_of s.folders s.has_begun text ≡ Ok v → (fault ≢ NoMemory → with_line l number v ≡ Err fault)
    → e ≡ record { line = number; fault = fault } → e.fault ≢ NoMemory → at_line number (with_text l number text) ≡ Err e
head-wrong number l s text v fault e read over has wrong is known =
    ap (at_line number) (text-said number l s text (Ok v) read over has ∙ wrong (λ none. known (ap (λ (f : LogFault). f.fault) is ∙ none)))
    ∙ ap Err (sym is)

-- and so is a text that says nothing
pub text-wrong : (number : ℕ) (l : Log) (s : Session) (text : List ℕ) (fault : LineFault) (e : LogFault)
    → HasSame l s → is_passed_over text ≡ false → (fault ≢ NoMemory → line_of s.folders s.has_begun text ≡ Err fault)
    → e ≡ record { line = number; fault = fault } → e.fault ≢ NoMemory → at_line number (with_text l number text) ≡ Err e
text-wrong number l s text fault e read over wrong is known =
    ap (at_line number)
    (text-said number l s text (Err fault) read over (wrong (λ none. known (ap (λ (f : LogFault). f.fault) is ∙ none))))
    ∙ ap Err (sym is)

-- ---- a first line

-- the head alone is a log
pub head-is : (text : List ℕ) → not (bytes_eq text (codes "maildir_log 1")) ≡ false → IsOk (log_by (text ∷ []))
unfolding with_lines
head-is text same = by (bytes_eq text (codes "maildir_log 1")) same
  where
    by : (b : Bool) → not b ≡ false → IsOk (if b then with_lines empty_log 2 [] else Err (record { line = 1; fault = NoLog }))
    by true same = refl
    by false same = absurd (cc same)

-- ---- the first wrong line

lines-wrong : (texts more : List (List ℕ)) (m : Log) (n : ℕ) (e : LogFault) → with_lines m n texts ≡ Err e
    → with_lines m n (texts ++ more) ≡ Err e
unfolding with_lines
lines-wrong [] more m n e is = let is' : Ok m ≡ Err e = is in absurd (cc is')
lines-wrong (one ∷ texts) more m n e is = by (λ o. lines-wrong texts more o (suc n) e) (with_text m n one) is
  where
    by : ((o : Log) → with_lines o (suc n) texts ≡ Err e → with_lines o (suc n) (texts ++ more) ≡ Err e) → (r : Result Log LineFault)
        → (at_line n r >>= (λ o. with_lines o (suc n) texts)) ≡ Err e
        → (at_line n r >>= (λ o. with_lines o (suc n) (texts ++ more))) ≡ Err e
    by next (Ok o) is = next o is
    by next (Err fault) is = is

log-wrong : (head : List ℕ) (texts more : List (List ℕ)) (e : LogFault) → log_by (head ∷ texts) ≡ Err e
    → log_by (head ∷ (texts ++ more)) ≡ Err e
log-wrong head texts more e is = by (bytes_eq head (codes "maildir_log 1")) is
  where
    by : (b : Bool) → (if b then with_lines empty_log 2 texts else Err (record { line = 1; fault = NoLog })) ≡ Err e
        → (if b then with_lines empty_log 2 (texts ++ more) else Err (record { line = 1; fault = NoLog })) ≡ Err e
    by true is = lines-wrong texts more empty_log 2 e is
    by false is = is

-- what is wrong with lines stays wrong, whatever comes after them
wrong-stays : (texts : List (List ℕ)) (text : List ℕ) (more : List (List ℕ)) (e : LogFault) → log_by (texts ++ text ∷ []) ≡ Err e
    → log_by (texts ++ text ∷ more) ≡ Err e
wrong-stays [] text more e is = log-wrong text [] more e is
wrong-stays (head ∷ texts) text more e is =
    ap (λ (ts : List (List ℕ)). log_by (head ∷ ts)) (sym (append_assoc texts (text ∷ []) more))
    ∙ log-wrong head (texts ++ text ∷ []) more e is

-- ---- the lines of a text

-- A session that judges by the law alone has taken in the lines of a text up to these, which are left.
abbrev pub HasTakenTo : List ℕ → List (List ℕ) → Session → Type 0
HasTakenTo text left s = (texts : List (List ℕ)) × (lines_of text ≡ texts ++ left) × HasTaken beside_law texts s

-- and one more
pub takes-next : (text one : List ℕ) (left others : List (List ℕ)) (s t : Session) → left ≡ one ∷ others → HasTakenTo text left s
    → ((texts : List (List ℕ)) → HasTaken beside_law texts s → HasTaken beside_law (texts ++ one ∷ []) t) → HasTakenTo text others t
takes-next text one left others s t cut taken takes =
    (taken.0 ++ one ∷ [], taken.1 ∙ ap (λ ls. taken.0 ++ ls) cut ∙ sym (append_assoc taken.0 (one ∷ []) others), takes taken.0 taken.2)

-- a line that is wrong where those before it are taken in is the first wrong line of the text
pub text-stays : (text one : List ℕ) (left others : List (List ℕ)) (s : Session) (e : LogFault) → left ≡ one ∷ others
    → HasTakenTo text left s
    → ((texts : List (List ℕ)) → HasTaken beside_law texts s → IsWithoutTicks texts → e.fault ≢ NoMemory → log_by (texts ++ one ∷ []) ≡ Err e)
    → IsWithoutTicks (lines_of text) → e.fault ≢ NoMemory → log_of text ≡ Err e
unfolding log_of
text-stays text one left others s e cut taken answers none known =
    let all : lines_of text ≡ taken.0 ++ one ∷ others = taken.1 ∙ ap (λ ls. taken.0 ++ ls) cut in
    let before = without-shorter taken.0 (one ∷ others) (subst IsWithoutTicks all none) in
    ap log_by all ∙ wrong-stays taken.0 one others e (answers taken.0 taken.2 before known)

pub text-stays-any : (text one : List ℕ) (left others : List (List ℕ)) (s : Session) (e : LogFault) → left ≡ one ∷ others
    → HasTakenTo text left s
    → ((texts : List (List ℕ)) → HasTaken beside_law texts s → AnswersAny {A = Unit {0}} (Err e) (log_by (texts ++ one ∷ [])))
    → AnswersAny {A = Unit {0}} (Err e) (log_of text)
unfolding log_of
text-stays-any text one left others s e cut taken answers = λ known found few.
    let all : lines_of text ≡ taken.0 ++ one ∷ others = taken.1 ∙ ap (λ ls. taken.0 ++ ls) cut in
    ap log_by all ∙ wrong-stays taken.0 one others e (answers taken.0 taken.2 known found few)

-- all are taken in
pub taken-all : (text : List ℕ) (left : List (List ℕ)) (s : Session) → left ≡ [] → HasTakenTo text left s → HasTaken beside_law (lines_of text) s
taken-all text left s end taken =
    subst (λ (ls : List (List ℕ)). HasTaken beside_law ls s) (sym (taken.1 ∙ ap (λ ls. taken.0 ++ ls) end ∙ append-nil taken.0)) taken.2

-- a text is what its lines are
pub log-is : (text : List ℕ) → log_of text ≡ log_by (lines_of text)
unfolding log_of
log-is text = refl

-- what was found is in order
pub ordered-all : (text : List ℕ) (t : Session) → HasEnded beside_law (lines_of text) t → IsOk (log_of text)
    → AreInOrder t.findings.items
unfolding log_of
ordered-all text t ended ok = let has = ok-of (log_by (lines_of text)) ok in ended.ordered has.0 has.1

-- and it is what is found where steps take effect in an order in which they may
pub placed-all : (text : List ℕ) (t : Session) → HasEnded beside_law (lines_of text) t → (l : Log) → log_of text ≡ Ok l
    → AreFoundInOrder (by_law l) t.findings.items
unfolding log_of
placed-all text t ended l is = ended.found l is

-- and what was found are the findings
pub found-all : (text : List ℕ) (t : Session) → ((l : Log) → log_of text ≡ Ok l → HasNoTicks l → HasTaken beside_law (lines_of text) t)
    → (l : Log) → log_of text ≡ Ok l → HasNoTicks l → (n : ℕ) (c : Clause) → IsAmong t.findings.items n c ↔ IsFinding (by_law l) n c
unfolding log_of
found-all text t taken l is none n c = found-plain _ (by_law l) t ((taken l is none).placed l is) none n c
