-- Which calls on messages are left as they were refused, and what is known of an answer.
use Rattle.std.proofs.Common.{ℕ, ◌≡◌, ◌+◌, ◌&&◌, ◌||◌, ◌==◌, cond, List, Option, Some, None, Bool, true, false, not, refl, ap, arith}
use Rattle.std.proofs.lemmas.Bool.{lt-ltb, le-ltb}
use Rattle.md_log.specs.declared.line.Call.{Call}
use Rattle.md_log.specs.declared.line.Call.TheVariants as call
use Rattle.md_log.specs.declared.line.Deed.TheVariants as deed
use Rattle.md_log.specs.declared.line.Reply.{Reply}
use Rattle.md_law.specs.Answers.{Claim}
use Rattle.md_law.specs.Messages.{is_tmp}
use Rattle.md_monitor.specs.Files.{is_ok}
use Rattle.md_monitor.specs.Messages.{is_of}
use Rattle.md_monitor.specs.Answers.{acts_by, is_told_by, looks_by}
use Rattle.md_monitor.specs.Readings.{is_more}
use Rattle.md_watch.specs.Claims.{Did, IsBefore, act, act_by, is_left_by, is_told, look_by, told_by}

-- ---- an answer

pub told-is : (k : Call) (c : Claim) → is_told (told_by k) c.folder c.unique ≡ is_told_by k c
told-is (call.At d p r) c = refl
told-is (call.Between n p q r) c = refl
told-is (call.List f place r shown) c = refl
told-is (call.Answer said f u) c = refl

-- it is no call on the message
pub told-acts : (k : Call) (c : Claim) (test : Reply → Bool) → is_told_by k c ≡ true → acts_by k c test ≡ false
told-acts (call.At d p r) c test told = absurd (cc told)
told-acts (call.Between n p q r) c test told = absurd (cc told)
told-acts (call.List f place r shown) c test told = refl
told-acts (call.Answer said f u) c test told = refl

-- ---- calls that are left

left-now : (look : Option ℕ) (now : ℕ) → IsBefore now look → is_left_by (Some now) look ≡ true
left-now None now before = refl
left-now (Some k) now before = ap not (le-ltb now k (omega (arith, before)))

looked-now : (refused : Option ℕ) (now : ℕ) → IsBefore now refused → is_left_by refused (Some now) ≡ false
looked-now None now before = refl
looked-now (Some t) now before = ap not (lt-ltb t now before)

-- a call on a path, which is one of the message or not
tried : (of : Bool) (r : Reply) (now : ℕ) (d : Did) (look : Option ℕ) → IsBefore now look
    → is_left_by (cond of (act r now d) d).refused look
    ≡ ((of && not (is_ok r)) || (not ((of && true) || false) && is_left_by d.refused look))
tried true r now d look before = by (is_ok r)
  where
    by : (b : Bool) → is_left_by (cond b None (Some now)) look ≡ (not b || false)
    by true = refl
    by false = left-now look now before
tried false r now d look before = refl

-- a part of a reading, which is a look or not
looked : (looks : Bool) (now : ℕ) (refused look : Option ℕ) → IsBefore now refused
    → is_left_by refused (cond looks (Some now) look) ≡ (false || (not (false || looks) && is_left_by refused look))
looked true now refused look before = looked-now refused now before
looked false now refused look before = refl

pub left-own : (k : Call) (c : Claim) (now : ℕ) (d : Did) (look : Option ℕ) → IsBefore now d.refused → IsBefore now look
    → is_left_by (act_by k now c.folder c.unique d).refused (look_by k now c.folder look)
    ≡ (acts_by k c (λ r. not (is_ok r)) || (not (acts_by k c (λ r. true) || looks_by k c) && is_left_by d.refused look))
left-own (call.At deed.Create p r) c now d look refused before = refl
left-own (call.At deed.Write p r) c now d look refused before = refl
left-own (call.At deed.Flush p r) c now d look refused before = refl
left-own (call.At deed.Unlink p r) c now d look refused before = tried (is_of c.folder c.unique p) r now d look before
left-own (call.Between n p q r) c now d look refused before =
    tried (is_of c.folder c.unique p || (is_of c.folder c.unique q && is_ok r)) r now d look before
left-own (call.List f place r shown) c now d look refused before =
    looked (f == c.folder && (not (is_tmp place) && (is_ok r || is_more r))) now d.refused look refused
left-own (call.Answer said f u) c now d look refused before = refl

-- ---- a call on a message changes only whether it is refused

only-refused : (of : Bool) (r : Reply) (now : ℕ) (d : Did)
    → cond of (act r now d) d ≡ record d { refused = (cond of (act r now d) d).refused }
only-refused true r now d = refl
only-refused false r now d = refl

pub act-only : (k : Call) (now folder : ℕ) (unique : List ℕ) (d : Did)
    → act_by k now folder unique d ≡ record d { refused = (act_by k now folder unique d).refused }
act-only (call.At deed.Create p r) now folder unique d = refl
act-only (call.At deed.Write p r) now folder unique d = refl
act-only (call.At deed.Flush p r) now folder unique d = refl
act-only (call.At deed.Unlink p r) now folder unique d = only-refused (is_of folder unique p) r now d
act-only (call.Between n p q r) now folder unique d =
    only-refused (is_of folder unique p || (is_of folder unique q && is_ok r)) r now d
act-only (call.List f place r shown) now folder unique d = refl
act-only (call.Answer said f u) now folder unique d = refl

-- ---- what is kept is of steps so far

pub before-next : (n : ℕ) (o : Option ℕ) → IsBefore n o → IsBefore (n + 1) o
before-next n None before = before
before-next n (Some t) before = omega (arith, before)

refused-by : (of : Bool) (r : Reply) (now : ℕ) (d : Did) → IsBefore now d.refused → IsBefore (now + 1) (cond of (act r now d) d).refused
refused-by true r now d before = by (is_ok r)
  where
    by : (b : Bool) → IsBefore (now + 1) (cond b None (Some now))
    by true = tt
    by false = omega arith
refused-by false r now d before = before-next now d.refused before

pub refused-next : (k : Call) (now folder : ℕ) (unique : List ℕ) (d : Did) → IsBefore now d.refused
    → IsBefore (now + 1) (act_by k now folder unique d).refused
refused-next (call.At deed.Create p r) now folder unique d before = before-next now d.refused before
refused-next (call.At deed.Write p r) now folder unique d before = before-next now d.refused before
refused-next (call.At deed.Flush p r) now folder unique d before = before-next now d.refused before
refused-next (call.At deed.Unlink p r) now folder unique d before = refused-by (is_of folder unique p) r now d before
refused-next (call.Between n p q r) now folder unique d before =
    refused-by (is_of folder unique p || (is_of folder unique q && is_ok r)) r now d before
refused-next (call.List f place r shown) now folder unique d before = before-next now d.refused before
refused-next (call.Answer said f u) now folder unique d before = before-next now d.refused before

look-by : (looks : Bool) (now : ℕ) (look : Option ℕ) → IsBefore now look → IsBefore (now + 1) (cond looks (Some now) look)
look-by true now look before = omega arith
look-by false now look before = before-next now look before

pub look-next : (k : Call) (now folder : ℕ) (look : Option ℕ) → IsBefore now look → IsBefore (now + 1) (look_by k now folder look)
look-next (call.List f place r shown) now folder look before =
    look-by (f == folder && (not (is_tmp place) && (is_ok r || is_more r))) now look before
look-next (call.At d p r) now folder look before = before-next now look before
look-next (call.Between n p q r) now folder look before = before-next now look before
look-next (call.Answer said f u) now folder look before = before-next now look before
