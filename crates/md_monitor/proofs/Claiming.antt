-- What a monitor keeps of answers is what the history tells.
use Rattle.std.proofs.Common.{ℕ, ◌≡◌, ◌≢◌, ◌⊎◌, inl, inr, ◌&&◌, not, List, Some, Bool, true, false, refl, sym, ap, subst, ◌∙◌}
use Rattle.std.specs.Bool.{Decides}
use Rattle.std.proofs.lemmas.Bool.Decides.{Decides-eqb, Decides-and, Decides-or, Decides-not, Decides-like}
use Rattle.std.proofs.lemmas.Slice.Eq.{bytes_eq-Decides}
use Rattle.md_dirs.specs.State.{file_at}
use Rattle.md_dirs.specs.declared.paths.Path.{Path}
use Rattle.md_dirs.specs.declared.paths.Place.{Place}
use Rattle.md_dirs.specs.declared.paths.Place.TheVariants.{Tmp, New, Cur}
use Rattle.md_name.specs.Letters.{Set, is_same_set}
use Rattle.md_name.specs.Names.{info_of, flags_of}
use Rattle.md_log.specs.declared.line.Call.{Call}
use Rattle.md_log.specs.declared.line.Call.TheVariants as call
use Rattle.md_log.specs.declared.line.Deed.TheVariants as deed
use Rattle.md_log.specs.declared.line.Reply.{Reply}
use Rattle.md_log.specs.declared.line.Reply.TheVariants as reply
use Rattle.md_log.specs.declared.line.Said.{Said}
use Rattle.md_log.specs.declared.line.Step.{Step}
use Rattle.md_law.specs.History.{Moment, History, opening, next, at, now, moment, Since, IsBy, IsCall}
use Rattle.md_law.specs.Messages.{is_tmp, IsOf, IsMessageAt, IsThere, ShowsFlags}
use Rattle.md_law.specs.Readings.{ShowsNames}
use Rattle.md_law.specs.Answers.{Claim, TellsNothing, Own, IsAtWork, ActsBy, ActsOn, Looks, AddsMessage, TakesMessage, ChangesMessage}
use Rattle.md_law.specs.Clauses.{IsLeft}
use Rattle.md_name.proofs.SameSets.{same-sets, sets-same}
use Rattle.md_monitor.specs.Changes.{change_of}
use Rattle.md_monitor.specs.Files.{is_some_and}
use Rattle.md_monitor.specs.Messages.{is_there}
use Rattle.md_monitor.specs.Answers as found
use Rattle.md_monitor.specs.Answers.{ClaimKept, claims_kept, claim_first, claim_after, is_flagged, is_told_by, acts_by, looks_by, is_unlink}
use Rattle.md_monitor.proofs.Tests.{some-and, ok-is, cur-is}
use Rattle.md_monitor.proofs.Seeing.{some-where}
use Rattle.md_monitor.proofs.Stepping.{is-call, is-by, changes}
use Rattle.md_monitor.proofs.Once.{named-is}
use Rattle.md_monitor.proofs.Telling.{turned-is, left-is}
use Rattle.md_monitor.proofs.Remembering.{of-is}
use Rattle.md_monitor.proofs.Noticing.{is-there}
use Rattle.md_monitor.proofs.Parts.{more-is}

-- ---- what directories show of a message

set-is : (a b : Set) → Decides (is_same_set a b) (a ≡ b)
set-is a b = (same-sets a b, sets-same a b)

shows-is : (name : List ℕ) (flags : Set)
    → Decides (is_some_and (flags_of (info_of name)) (λ shown. is_same_set shown flags)) (ShowsFlags name flags)
shows-is name flags = Decides-like _ (λ (shown, is, same). is ∙ ap Some same) (λ is. (flags, is, refl))
    (some-and (flags_of (info_of name)) _ (λ shown. shown ≡ flags) (λ shown. set-is shown flags))

-- cur has the message with these flags, as the law says it
abbrev pub IsFlagged : Claim → Set → History → Type 0
IsFlagged c flags m = (p : Path) × (file : ℕ) × IsMessageAt (at m) c.folder c.unique p file × (p.place ≡ Cur) × ShowsFlags p.name flags

pub flagged-is : (c : Claim) (flags : Set) (m : History) → Decides (is_flagged (at m) c flags) (IsFlagged c flags m)
flagged-is c flags m = Decides-like _
    (λ (p, n, there, both). (p, n, (there, both.0), both.1.0, both.1.1))
    (λ (p, n, there, cur, shown). (p, n, there.0, (there.1, (cur, shown))))
    (some-where _ (λ p n. IsOf p c.folder c.unique × ((p.place ≡ Cur) × ShowsFlags p.name flags))
    (λ e. Decides-and _ _ (of-is c.folder c.unique e.0) (Decides-and _ _ (cur-is e.0.place) (shows-is e.0.name flags))) (at m))

-- ---- what a call does about a message

told-by : (k : Call) (c : Claim) → Decides (is_told_by k c) ((s : Said) × (k ≡ call.Answer s c.folder c.unique))
told-by (call.Answer said folder unique) c = Decides-like _
    (λ both. (said, λ i. call.Answer said (both.0 i) (both.1 i)))
    (λ (s, is). (cc is, cc is))
    (Decides-and _ _ (Decides-eqb folder c.folder) (bytes_eq-Decides unique c.unique))
told-by k c = (λ t. absurd (cc), λ (s, is). absurd (cc is))

acted-by : (k : Call) (c : Claim) (answer : Reply → Bool) (A : Reply → Type 0) → ((r : Reply) → Decides (answer r) (A r))
    → Decides (acts_by k c answer) ((r : Reply) × ActsBy k c r × A r)
acted-by (call.At deed.Unlink p r) c answer A each = Decides-like _ (λ both. (r, (both.0, refl), both.1))
    (λ (e, acts, holds). (acts.0, subst A (sym acts.1) holds)) (Decides-and _ _ (of-is c.folder c.unique p) (each r))
acted-by (call.Between n old new r) c answer A each = Decides-like _ (λ both. (r, (both.0, refl), both.1))
    (λ (e, acts, holds). (acts.0, subst A (sym acts.1) holds))
    (Decides-and _ _ (Decides-or _ _ (of-is c.folder c.unique old) (Decides-and _ _ (of-is c.folder c.unique new) (ok-is r))) (each r))
acted-by k c answer A each = (λ t. absurd (cc), λ (e, acts, holds). absurd acts)

-- the call is a part of a reading of new or cur of the folder, and the part shows names
abbrev LooksBy : Call → Claim → Type 0
LooksBy k c = (place : Place) × (r : Reply) × (shown : List (List ℕ)) × (k ≡ call.List c.folder place r shown)
    × (is_tmp place ≡ false) × ShowsNames r

looked-by : (k : Call) (c : Claim) → Decides (looks_by k c) (LooksBy k c)
looked-by (call.List folder place r shown) c = Decides-like _
    (λ (same, (outside, shows)). (place, r, shown, ap (λ (f : ℕ). call.List f place r shown) same, outside, shows))
    (λ (p, e, s, is, outside, shows).
    let here : place ≡ p = cc is in
    let answered : r ≡ e = cc is in
    (cc is, (ap is_tmp here ∙ outside, subst ShowsNames (sym answered) shows)))
    (Decides-and _ _ (Decides-eqb folder c.folder)
    (Decides-and _ _ (outside-is place) (Decides-or _ _ (ok-is r) (more-is r))))
  where
    outside-is : (p : Place) → Decides (not (is_tmp p)) (is_tmp p ≡ false)
    outside-is Tmp = (λ t. absurd (cc), λ no. absurd (cc no))
    outside-is New = (λ t. refl, λ no. refl)
    outside-is Cur = (λ t. refl, λ no. refl)
looked-by k c = (λ t. absurd (cc), λ (p, e, s, is, outside, shows). absurd (cc is))

unlinked-by : (k : Call) → Decides (is_unlink k) ((p : Path) × (r : Reply) × (k ≡ call.At deed.Unlink p r))
unlinked-by (call.At deed.Unlink p r) = (λ t. (p, r, refl), λ is. refl)
unlinked-by k = (λ t. absurd (cc), λ (p, r, is). absurd (cc is))

-- ---- a step

-- it was so at a moment while the actor was at work, and the actor did not change the message itself since then
abbrev pub Was : (History → Type 0) → Claim → History → Type 0
Was P c h = Since (λ m. P m × IsAtWork c m) (λ m. TellsNothing m c × (IsBy m c.actor × ChangesMessage m c → ⊥)) h

module _ (past : History) (x : Step) (c : Claim) where
  abbrev h : History
  h = next past x

  -- the actor's own step, and one that is no answer about the message
  own-is : Decides (found.is_own (at past) (now h) x c) (IsBy h c.actor)
  own-is = Decides-like _ (is-by past x c.actor).1 (is-by past x c.actor).0 (bytes_eq-Decides x.actor c.actor)

  nothing-is : Decides (not (found.is_answer (at past) (now h) x c)) (TellsNothing h c)
  nothing-is = Decides-like _ (λ none s tells. none (tells.0, (s, (is-call past x _).0 tells.1)))
      (λ none (by, told). none told.0 (by, (is-call past x _).1 told.1))
      (Decides-not _ (Decides-and _ _ own-is (told-by x.call c)))

  -- it acts on the message, and looks
  acts-is : (answer : Reply → Bool) (A : Reply → Type 0) → ((r : Reply) → Decides (answer r) (A r))
      → Decides (acts_by x.call c answer) ((r : Reply) × ActsOn h c r × A r)
  acts-is answer A each = Decides-like _
      (λ (r, acts, holds). (r, (x.call, (is-call past x x.call).1 refl, acts), holds))
      (λ (r, (k, is, acts), holds). (r, subst (λ w. ActsBy w c r) (sym ((is-call past x k).0 is)) acts, holds))
      (acted-by x.call c answer A each)

  looks-is : Decides (looks_by x.call c) (Looks h c)
  looks-is = Decides-like _
      (λ (place, r, shown, is, outside, shows). (place, r, shown, (is-call past x _).1 is, outside, shows))
      (λ (place, r, shown, is, outside, shows). (place, r, shown, (is-call past x _).0 is, outside, shows))
      (looked-by x.call c)

  refused-is : Decides (found.is_refused (at past) (now h) x c) (IsBy h c.actor × ((r : Reply) × ActsOn h c r × (r ≢ reply.Ok)))
  refused-is = Decides-and _ _ own-is (acts-is _ (λ r. r ≢ reply.Ok) (λ r. Decides-not _ (ok-is r)))

  untried-is : Decides (not (found.is_tried_again (at past) (now h) x c)) (IsBy h c.actor → ((r : Reply) × ActsOn h c r) ⊎ Looks h c → ⊥)
  untried-is = Decides-like _ (λ none by either. none (by, either)) (λ none (by, either). none by either)
      (Decides-not _ (Decides-and _ _ own-is (Decides-or _ _
      (Decides-like _ (λ (r, acts, holds). (r, acts)) (λ (r, acts). (r, acts, tt))
      (acts-is (λ r. true) (λ r. Unit {0}) (λ r. (λ t. tt, λ u. refl)))) looks-is)))

  -- ---- what was so at a step of the actor's own

  own-next : (is old : Bool) (P : History → Type 0) → Decides is (P h) → Decides old (Own P c past)
      → Decides (found.own_after (at past) (now h) x c is old) (Own P c h)
  unfolding Since
  own-next is old P step was = Decides-or _ _
      (Decides-like _ (λ (by, both). (by, both.0, both.1)) (λ (by, nothing, holds). (by, (nothing, holds)))
      (Decides-and _ _ own-is (Decides-and _ _ nothing-is step)))
      (Decides-and _ _ nothing-is was)

  adds-is : Decides (found.adds_message (at past) (now h) x c) (AddsMessage h c)
  unfolding moment
  adds-is = Decides-and _ _ (Decides-not _ (is-there past c.folder c.unique)) (is-there h c.folder c.unique)

  takes-is : Decides (found.takes_message (at past) (now h) x c) (TakesMessage h c)
  unfolding moment
  takes-is = Decides-and _ _ (is-there past c.folder c.unique) (Decides-not _ (is-there h c.folder c.unique))

  moves-is : (to : ℕ) → Decides (found.takes_message (at past) (now h) x c && is_there (found.after (at past) (now h) x c) to c.unique)
      (TakesMessage h c × IsThere (at h) to c.unique)
  unfolding moment
  moves-is to = Decides-and _ _ takes-is (is-there h to c.unique)

  expunges-is : Decides (found.takes_message (at past) (now h) x c && is_unlink x.call)
      (TakesMessage h c × ((p : Path) × (r : Reply) × IsCall h (call.At deed.Unlink p r)))
  expunges-is = Decides-and _ _ takes-is (Decides-like _
      (λ (p, r, is). (p, r, (is-call past x _).1 is)) (λ (p, r, is). (p, r, (is-call past x _).0 is)) (unlinked-by x.call))

  -- a path of the message came or went
  abbrev Turns : Type 0
  Turns = ((p : Path) × (n : ℕ) × ((file_at (at h) p ≡ Some n) × (file_at (at past) p ≢ Some n)) × IsOf p c.folder c.unique)
      ⊎ ((e : Path × ℕ) × ((change_of (at past) x.call).taken ≡ Some e) × IsOf e.0 c.folder c.unique)

  to-changes : Turns → ChangesMessage h c
  to-changes (inl (p, n, new, of)) = inr (p, n, (new.0, of), λ was. new.1 was.0)
  to-changes (inr (e, is, of)) =
      let gone = ((changes past x).taken e.0 e.1).0 is in
      inl (e.0, e.1, (gone.0, of), λ there. let none = gone.1 in let some = there.0 in cc)

  from-changes : ChangesMessage h c → Turns
  from-changes (inr (p, n, there, other)) = inl (p, n, (there.0, λ was. other (was, there.1)), there.1)
  from-changes (inl (p, n, there, other)) = elim ((left-is past x p n).1 (there.0, λ still. other (still, there.1))) [
    | inl taken ↦ inr ((p, n), taken, there.1)
    | inr turned ↦
        let t = (turned-is past x p n).0 turned in
        inl (p, t.0, (t.2, λ was. t.3 (let is = there.0 in cc)), there.1)
  ]

  changes-is : Decides (found.changes_message (at past) (now h) x c) (ChangesMessage h c)
  changes-is = Decides-like _ to-changes from-changes (Decides-or _ _
      (named-is past x _ (λ p n. IsOf p c.folder c.unique) (λ e. of-is c.folder c.unique e.0))
      (some-and (change_of (at past) x.call).taken _ (λ e. IsOf e.0 c.folder c.unique) (λ e. of-is c.folder c.unique e.0)))

  -- ---- what was so at a moment

  lately-next : (is work old : Bool) (P : History → Type 0) → Decides is (P h) → Decides work (IsAtWork c past)
      → Decides old (Was P c past) → Decides (found.lately_after (at past) (now h) x c is work old) (Was P c h)
  unfolding Since
  lately-next is work old P here working was = Decides-or _ _
      (Decides-like _ (λ (at_work, is). (is, at_work)) (λ (is, at_work). (at_work, is))
      (Decides-and _ _ (own-next true work (λ m. Unit {0}) (λ t. tt, λ u. refl) working) here))
      (Decides-and _ _ (Decides-and _ _ nothing-is (Decides-not _ (Decides-and _ _ own-is changes-is))) was)

-- ---- what is kept

-- What is kept for an answer about a message is what the history tells.
pub record IsClaimKept (h : History) (c : Claim) (k : ClaimKept) : Type 0 where
  pub is_left : Decides k.is_left (IsLeft c h)
  pub is_at_work : Decides k.is_at_work (IsAtWork c h)
  pub has_added : Decides k.has_added (Own (λ m. AddsMessage m c) c h)
  pub has_moved : (to : ℕ) → Decides (k.has_moved to) (Own (λ m. TakesMessage m c × IsThere (at m) to c.unique) c h)
  pub has_expunged : Decides k.has_expunged
      (Own (λ m. TakesMessage m c × ((p : Path) × (r : Reply) × IsCall m (call.At deed.Unlink p r))) c h)
  pub has_changed : Decides k.has_changed (Own (λ m. ChangesMessage m c) c h)
  pub was_absent : Decides k.was_absent (Was (λ m. IsThere (at m) c.folder c.unique → ⊥) c h)
  pub was_flagged : (flags : Set) → Decides (k.was_flagged flags) (Was (IsFlagged c flags) c h)

module _ (m : Moment) (c : Claim) where
  own-first : (P : History → Type 0) → Decides false (Own P c (opening m))
  unfolding Since
  own-first P = (λ t. absurd (cc), λ own. absurd (let none = own.0.1 in cc))

  was-first : (P : History → Type 0) → Decides false (Was P c (opening m))
  unfolding Since
  was-first P = (λ t. absurd (cc), λ was. absurd (let none = (own-first (λ k. Unit {0})).1 was.1 in cc))

  claim-first : IsClaimKept (opening m) c claim_first
  unfolding Since
  claim-first = record {
    is_left = (λ t. absurd (cc), λ left. absurd (let none = left.0.1 in cc));
    is_at_work = own-first (λ k. Unit {0});
    has_added = own-first (λ k. AddsMessage k c);
    has_moved = λ to. own-first (λ k. TakesMessage k c × IsThere (at k) to c.unique);
    has_expunged = own-first (λ k. TakesMessage k c × ((p : Path) × (r : Reply) × IsCall k (call.At deed.Unlink p r)));
    has_changed = own-first (λ k. ChangesMessage k c);
    was_absent = was-first (λ k. IsThere (at k) c.folder c.unique → ⊥);
    was_flagged = λ flags. was-first (IsFlagged c flags);
  }

claim-next : (past : History) (x : Step) (c : Claim) (k : ClaimKept) → IsClaimKept past c k
    → IsClaimKept (next past x) c (claim_after (at past) (now (next past x)) x c k)
unfolding Since moment
claim-next past x c k was = record {
  is_left = Decides-or _ _ (refused-is past x c)
      (Decides-and _ _ (Decides-and _ _ (nothing-is past x c) (untried-is past x c)) was.is_left);
  is_at_work = own-next past x c true k.is_at_work (λ m. Unit {0}) (λ t. tt, λ u. refl) was.is_at_work;
  has_added = own-next past x c _ _ (λ m. AddsMessage m c) (adds-is past x c) was.has_added;
  has_moved = λ to. own-next past x c _ _ (λ m. TakesMessage m c × IsThere (at m) to c.unique) (moves-is past x c to) (was.has_moved to);
  has_expunged = own-next past x c _ _ (λ m. TakesMessage m c × ((p : Path) × (r : Reply) × IsCall m (call.At deed.Unlink p r)))
      (expunges-is past x c) was.has_expunged;
  has_changed = own-next past x c _ _ (λ m. ChangesMessage m c) (changes-is past x c) was.has_changed;
  was_absent = lately-next past x c _ k.is_at_work k.was_absent (λ m. IsThere (at m) c.folder c.unique → ⊥)
      (Decides-not _ (is-there (next past x) c.folder c.unique)) was.is_at_work was.was_absent;
  was_flagged = λ flags. lately-next past x c _ k.is_at_work (k.was_flagged flags) (IsFlagged c flags)
      (flagged-is c flags (next past x)) was.is_at_work (was.was_flagged flags);
}

pub claim-kept : (h : History) (c : Claim) → IsClaimKept h c (claims_kept h c)
unfolding claims_kept
claim-kept (opening m) c = claim-first m c
claim-kept (next past x) c = claim-next past x c (claims_kept past c) (claim-kept past c)
