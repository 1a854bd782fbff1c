-- What is kept of claims goes on with a history, and what answers are found to break is what the monitor finds.
use Rattle.std.proofs.Common.{ℕ, ◌≡◌, ◌+◌, ◌&&◌, ◌||◌, List, None, Bool, true, false, not, refl, ap, subst, ◌∙◌, nat_lt}
use Rattle.std.specs.List.{list_any}
use Rattle.md_dirs.specs.State.{State}
use Rattle.md_name.specs.Letters.{IsOfLetters, Set}
use Rattle.md_log.specs.declared.line.Call.{Call}
use Rattle.md_log.specs.declared.line.Call.TheVariants as call
use Rattle.md_log.specs.declared.line.Said.{Said}
use Rattle.md_log.specs.declared.line.Said.TheVariants as said
use Rattle.md_log.specs.declared.line.Step.{Step}
use Rattle.md_law.specs.Answers.{Claim}
use Rattle.md_law.specs.History.{History, Moment, at, moment, next, now, opening}
use Rattle.md_monitor.specs.Changes.{change_of}
use Rattle.md_monitor.specs.Files.{is_some_and}
use Rattle.md_monitor.specs.Messages.{MessagesKept, is_there, paths_of}
use Rattle.md_monitor.specs.Answers.{ClaimKept, breaks_answered_falsely, breaks_gave_up, claims_kept, is_flagged, is_so, is_success, is_told_and}
use Rattle.md_watch.specs.declared.claims.Claims.{Claims}
use Rattle.md_watch.specs.declared.claims.finding.Past.{Past}
use Rattle.md_watch.specs.declared.flagged.Flagged.{Flagged}
use Rattle.md_kept.specs.declared.messages.Messages.{Messages}
use Rattle.md_watch.specs.declared.presences.Presences.{Presences}
use Rattle.md_kept.specs.Changes.{Turn}
use Rattle.md_watch.specs.Claims.{AreClaims, Steps, actor_in, did_by, is_false_in, is_given_up_in, is_so_in, is_there_in}
use Rattle.md_watch.specs.Flagged.{AreFlagged, spell_in}
use Rattle.md_kept.specs.Messages.{count_in_folder}
use Rattle.md_watch.specs.Presences.{ArePresences, in_folders}
use Rattle.md_watch.specs.Spells.{always_by, ever_by, spell_at}
use Rattle.md_watch.specs.Watches.{AreMessages}
use Rattle.md_watch.proofs.Claimed.{claims-next, claims-none}
use Rattle.md_watch.proofs.Flagging.{PassesFlags, flags-shown}
use Rattle.md_watch.proofs.Passing.{PassesAll}
use Rattle.md_watch.proofs.Turning.{turn}

-- ---- histories

-- at the beginning
pub claims-begin : (m : Moment) (n : ℕ) (presences : Presences) (flagged : Flagged) (w : Claims)
    → ((actor : List ℕ) → actor_in w actor ≡ None)
    → AreClaims n m.state presences flagged w (claims_kept (opening m))
unfolding claims_kept
claims-begin m n presences flagged w none = claims-none n m.state (spell_at presences.messages) (spell_in flagged) w none

-- a step of a history, by what is kept of messages, presences and flags
pub claims-step : (h : History) (x : Step) (n : ℕ) (t : Turn) → t ≡ turn (at h) (change_of (at h) x.call)
    → (told told' : MessagesKept) (m m' : Messages) → AreMessages (at h) told m → AreMessages (at (next h x)) told' m'
    → (presences presences' : Presences) → ArePresences n (at h) presences → PassesAll (at h) (at (next h x)) n presences presences'
    → (flagged flagged' : Flagged) → AreFlagged n (at h) flagged → PassesFlags (at h) (at (next h x)) n flagged flagged'
    → (old new : Claims) → Steps x t (in_folders m t) (in_folders m' t) (n + 1) old new
    → AreClaims n (at h) presences flagged old (claims_kept h)
    → AreClaims (n + 1) (at (next h x)) presences' flagged' new (claims_kept (next h x))
unfolding moment claims_kept
claims-step h x n t is told told' m m' before after presences presences' there passes flagged flagged' flags flags-pass old new steps are =
    claims-next n (at h) (now (next h x)) x (spell_at presences.messages) (spell_at presences'.messages)
    (spell_in flagged) (spell_in flagged') there.messages passes.messages flags.timely flags-pass m m' before.in_folder after.in_folder
    old new (claims_kept h) are
    (subst (λ (u : Turn). Steps x u (in_folders m u) (in_folders m' u) (n + 1) old new) is steps)

-- ---- answers

and-parts : (a b c : Bool) → ((a && b) && c) ≡ (a && (b && c))
and-parts true b c = refl
and-parts false b c = refl

module _ (n : ℕ) (s : State) (p : Past) (now-is : p.now ≡ n)
    (counts : (f : ℕ) (u : List ℕ) → count_in_folder p.messages.now f u ≡ paths_of s f u)
    (flags-are : AreFlagged n s p.flagged.now) (w : Claims) (kept : Claim → ClaimKept)
    (are : AreClaims n s p.presences.now p.flagged.now w kept) where
  there-so : (f : ℕ) (u : List ℕ) → is_there_in p f u ≡ is_there s f u
  there-so f u = ap (nat_lt 0) (counts f u)

  pub given-up : (x : Step) → is_told_and x.call x.actor (is_given_up_in p w) ≡ breaks_gave_up s kept x
  given-up x = by x.call
    where
      by : (k : Call) → is_told_and k x.actor (is_given_up_in p w)
          ≡ is_told_and k x.actor (λ said c. is_success said && (is_there s c.folder c.unique && (kept c).is_left))
      by (call.Answer said f u) =
          let c : Claim = record { actor = x.actor; folder = f; unique = u } in
          (λ i. (is_success said && there-so f u i) && (are c).left i) ∙ and-parts (is_success said) (is_there s f u) (kept c).is_left
      by k = refl

  -- what is said is so
  so : (c : Claim) (what : Said) → ((flags : Set) → what ≡ said.Flags flags → IsOfLetters flags)
      → is_so_in p (did_by (actor_in w c.actor) c.folder c.unique) c.folder c.unique what ≡ is_so s c (kept c) what
  so c said.Delivered letters = (are c).added
  so c (said.Flags flags) letters =
      let shown = flags-shown n s p.flagged.now flags-are c flags (letters flags refl) in
      (λ i. shown i || is_some_and (did_by (actor_in w c.actor) c.folder c.unique).begun
      (λ b. ever_by (shown i) (spell_in p.flagged.now c.folder c.unique flags) b))
      ∙ ap (λ b. is_flagged s c flags || b) ((are c).flagged flags (letters flags refl))
  so c (said.Moved to) letters =
      (λ i. list_any (λ t. always_by (there-so to c.unique i) (spell_at p.presences.now.messages to c.unique) t t)
      (did_by (actor_in w c.actor) c.folder c.unique).taken)
      ∙ (are c).moved to
  so c said.Expunged letters = (are c).expunged
  so c said.Done letters = refl
  so c said.Failed letters = ap not (are c).changed
  so c said.NotThere letters =
      (λ i. not (there-so c.folder c.unique i) || is_some_and (did_by (actor_in w c.actor) c.folder c.unique).begun
      (λ b. not (always_by (there-so c.folder c.unique i) (spell_at p.presences.now.messages c.folder c.unique) b (now-is i))))
      ∙ ap (λ b. not (is_there s c.folder c.unique) || b) (are c).absent

  pub answered-falsely : (x : Step)
      → ((flags : Set) (folder : ℕ) (unique : List ℕ) → x.call ≡ call.Answer (said.Flags flags) folder unique → IsOfLetters flags)
      → is_told_and x.call x.actor (is_false_in p w) ≡ breaks_answered_falsely s kept x
  answered-falsely x = by x.call
    where
      by : (k : Call)
          → ((flags : Set) (folder : ℕ) (unique : List ℕ) → k ≡ call.Answer (said.Flags flags) folder unique → IsOfLetters flags)
          → is_told_and k x.actor (is_false_in p w) ≡ is_told_and k x.actor (λ what c. not (is_so s c (kept c) what))
      by (call.Answer what f u) letters = ap not
          (so (record { actor = x.actor; folder = f; unique = u }) what
          (λ flags is. letters flags f u (ap (λ (q : Said). call.Answer q f u) is)))
      by k letters = refl
