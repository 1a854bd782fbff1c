-- Clauses on replies, listings and answers: a step of ours that reads no directory breaks none.
use Rattle.std.proofs.Common.{ℕ, ◌≡◌, ◌⊎◌, inl, inr, Bool, true, false, cond, List, Option, Some, None, refl, sym, ap, subst, ◌∙◌, ◌==◌}
use Rattle.std.specs.Str.{bytes_eq}
use Rattle.md_dirs.specs.State.{State}
use Rattle.md_dirs.specs.declared.paths.Place.{Place}
use Rattle.md_dirs.specs.declared.paths.Place.TheVariants.{Tmp}
use Rattle.md_dirs.specs.declared.calls.DirError.{DirError}
use Rattle.md_dirs.specs.declared.calls.DirError.TheVariants as error
use Rattle.md_jobs.specs.Asked.{Asked, create, append, link, rename, unlink, list, ask_of}
use Rattle.md_jobs.specs.Asked as jobs
use Rattle.md_jobs.specs.declared.step.DirReply.{DirReply}
use Rattle.md_jobs.specs.declared.step.DirReply.TheVariants as reply
use Rattle.md_log.specs.declared.line.Call.{Call as Told}
use Rattle.md_log.specs.declared.line.Call.TheVariants as told
use Rattle.md_log.specs.declared.line.Reply.{Reply}
use Rattle.md_log.specs.declared.line.Reply.TheVariants as answered
use Rattle.md_log.specs.declared.line.Said.{Said}
use Rattle.md_log.specs.declared.line.Step.{Step as Seen}
use Rattle.md_law.specs.Answers.{Claim, Tells}
use Rattle.md_law.specs.Clauses.{reply_by, IsWrongReply, IsWrongCall, NotADirectory, Unlisted}
use Rattle.md_law.specs.History.{History, opening, next, at, IsCall, IsUpTo, Once}
use Rattle.md_law.specs.Readings.{Read, read_of, with_call}
use Rattle.md_beside.specs.Story.{Story, Step, Did, asked, wrote, flushed, step_at, state, history, call_seen, reply_seen, step_seen, without_bytes}
use Rattle.md_beside.specs.Beside.{IsStory, reply_due}
use Rattle.md_beside.proofs.Histories.{next_at, at-history}

-- the last step's call is the one that it made
pub call-made : (t : Story) (k : ℕ) (x : Step) (c : Told) → IsCall (next_at t k x) c → call_seen (state t k) x.did (reply_seen x.reply) ≡ c
call-made t k x c is =
    let e : Some is.0 ≡ Some (step_seen t.actor (state t k) x) = sym is.1 in
    let same : step_seen t.actor (state t k) x ≡ is.0 = cc in
    ap (λ (y : Seen). y.call) same ∙ is.2

-- the call reads no directory
abbrev pub IsNoReading : Asked → Type 0
IsNoReading (list folder place) = ⊥
IsNoReading a = Unit {0}

-- ---- replies

due-seen : (o : Option DirError) → reply_seen (jobs.reply_by o) ≡ reply_by o
due-seen None = refl
due-seen (Some error.Exists) = refl
due-seen (Some error.NotFound) = refl
due-seen (Some error.Fault) = refl
due-seen (Some error.NoMemory) = refl

not-wrong : (o : Option DirError) (r : DirReply) → (r ≡ jobs.reply_by o) ⊎ (r ≡ reply.Fault) → IsWrongReply (reply_seen r) o → ⊥
not-wrong o r (inl due) wrong = wrong.1 (ap reply_seen due ∙ due-seen o)
not-wrong o r (inr fault) wrong = wrong.0 (ap reply_seen fault)

-- a history knows what a call is refused for
right-call : (h : History) (s : State) (actor : List ℕ) (a : Asked) (clock : ℕ) (r : DirReply) → IsNoReading a → at h ≡ without_bytes s →
    (r ≡ jobs.reply_by ((ask_of a clock).refusal s)) ⊎ (r ≡ reply.Fault) →
    (y : Seen) → IsWrongCall (next h y) actor (call_seen s (asked a) (reply_seen r)) → ⊥
right-call h s actor (create p) clock r plain same due y wrong = not-wrong ((ask_of (create p) clock).refusal s) r due
    (subst (λ (s' : State). IsWrongReply (reply_seen r) ((ask_of (create p) clock).refusal s')) same wrong)
right-call h s actor (append p bytes) clock r plain same due y wrong = not-wrong ((ask_of (append p bytes) clock).refusal s) r due
    (subst (λ (s' : State). IsWrongReply (reply_seen r) ((ask_of (append p bytes) clock).refusal s')) same wrong)
right-call h s actor (link old new) clock r plain same due y wrong = not-wrong ((ask_of (link old new) clock).refusal s) r due
    (subst (λ (s' : State). IsWrongReply (reply_seen r) ((ask_of (link old new) clock).refusal s')) same wrong)
right-call h s actor (rename old new) clock r plain same due y wrong = not-wrong ((ask_of (rename old new) clock).refusal s) r due
    (subst (λ (s' : State). IsWrongReply (reply_seen r) ((ask_of (rename old new) clock).refusal s')) same wrong)
right-call h s actor (unlink p) clock r plain same due y wrong = not-wrong ((ask_of (unlink p) clock).refusal s) r due
    (subst (λ (s' : State). IsWrongReply (reply_seen r) ((ask_of (unlink p) clock).refusal s')) same wrong)
right-call h s actor (list folder place) clock r plain same due y wrong = absurd plain

-- ---- listings

pub up_to-itself : (h : History) → IsUpTo h h
unfolding Once
up_to-itself (opening m) = refl
up_to-itself (next past x) = inl refl

no-list : (s : State) (a : Asked) (r : Reply) → IsNoReading a → (folder : ℕ) (place : Place) (q : Reply) (shown : List (List ℕ)) →
    call_seen s (asked a) r ≡ told.List folder place q shown → ⊥
no-list s (create p) r plain folder place q shown is = cc
no-list s (append p bytes) r plain folder place q shown is = cc
no-list s (link old new) r plain folder place q shown is = cc
no-list s (rename old new) r plain folder place q shown is = cc
no-list s (unlink p) r plain folder place q shown is = cc
no-list s (list f p) r plain folder place q shown is = absurd plain

either : {A : Type 0} (b : Bool) (x y : A) → x ≡ y → cond b x y ≡ y
either true x y same = same
either false x y same = refl

tmp-reading : (s : State) (folder f : ℕ) (r : DirReply) (read : Read) →
    with_call folder (call_seen s (asked (list f Tmp)) (reply_seen r)) read ≡ read
tmp-reading s folder f reply.Ok read = either (f == folder) read read refl
tmp-reading s folder f reply.Exists read = refl
tmp-reading s folder f reply.NotFound read = refl
tmp-reading s folder f reply.Fault read = refl

read-same : (h : History) (y : Seen) (actor : List ℕ) (folder : ℕ) → ((read : Read) → with_call folder y.call read ≡ read) →
    read_of (next h y) actor folder ≡ read_of h actor folder
unfolding read_of
read-same h y actor folder keeps =
    either (bytes_eq y.actor actor) (with_call folder y.call (read_of h actor folder)) (read_of h actor folder)
    (keeps (read_of h actor folder))

-- a reading of tmp completes no listing
pub lists-tmp : (t : Story) (k : ℕ) (x : Step) (f : ℕ) → x.did ≡ asked (list f Tmp) → Unlisted (next_at t k x) → ⊥
lists-tmp t k x f did (begun, actor, folder, unique, listing, there, shown) = listing.more
    (sym (read-same (history t k) (step_seen t.actor (state t k) x) actor folder (λ read.
    ap (λ (d : Did). with_call folder (call_seen (state t k) d (reply_seen x.reply)) read) did
    ∙ tmp-reading (state t k) folder f x.reply read)) ∙ listing.ends)

-- ---- answers

no-answer : (s : State) (d : Did) (r : Reply) (said : Said) (folder : ℕ) (unique : List ℕ) →
    call_seen s d r ≡ told.Answer said folder unique → ⊥
no-answer s (asked (create p)) r said folder unique is = cc
no-answer s (asked (append p bytes)) r said folder unique is = cc
no-answer s (asked (link old new)) r said folder unique is = cc
no-answer s (asked (rename old new)) r said folder unique is = cc
no-answer s (asked (unlink p)) r said folder unique is = cc
no-answer s (asked (list f place)) r said folder unique is = cc
no-answer s (wrote p bytes) r said folder unique is = cc
no-answer s (flushed p) r said folder unique is = cc

-- no step of a story is an answer
pub tells-nothing : (t : Story) (k : ℕ) (x : Step) (c : Claim) (said : Said) → Tells (next_at t k x) c said → ⊥
tells-nothing t k x c said tells = no-answer (state t k) x.did (reply_seen x.reply) said c.folder c.unique
    (call-made t k x (told.Answer said c.folder c.unique) tells.1)

-- ---- the clauses

module _ (t : Story) (story : IsStory t) (k : ℕ) (x : Step) (is : step_at t k ≡ Some x) (a : Asked) (did : x.did ≡ asked a)
    (plain : IsNoReading a) where
  due : (x.reply ≡ jobs.reply_by ((ask_of a x.at.clock).refusal (state t k))) ⊎ (x.reply ≡ reply.Fault)
  due = subst (λ (d : Did). (x.reply ≡ reply_due (state t k) d x.at.clock) ⊎ (x.reply ≡ reply.Fault)) did (story.replied k x is)

  made : call_seen (state t k) x.did (reply_seen x.reply) ≡ call_seen (state t k) (asked a) (reply_seen x.reply)
  made = ap (λ (d : Did). call_seen (state t k) d (reply_seen x.reply)) did

  pub is-directory : NotADirectory (next_at t k x) → ⊥
  is-directory (actor, c, by, call, wrong) = right-call (history t k) (state t k) actor a x.at.clock x.reply plain
      (at-history t story k) due
      (step_seen t.actor (state t k) x)
      (subst (IsWrongCall (next_at t k x) actor) (sym (call-made t k x c call) ∙ made) wrong)

  pub lists-nothing : Unlisted (next_at t k x) → ⊥
  lists-nothing (begun, actor, folder, unique, listing, there, shown) =
      let place = listing.reads.0 in
      let part = listing.reads.1 in
      no-list (state t k) a (reply_seen x.reply) plain folder place answered.Ok part.0
      (sym made ∙ call-made t k x (told.List folder place answered.Ok part.0) part.1.1)
