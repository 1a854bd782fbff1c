-- What a call does alone: it leaves the mailbox as it was, or puts one message into it, or takes one away; and with an answer that is no
-- success it leaves it as it was.
use Rattle.std.proofs.Common.{ℕ, ◌≡◌, ◌⊎◌, inl, inr, List, Option, Some, None, Bool, true, false, cond, refl}
use Rattle.std.specs.FinMap as finmap
use Rattle.std.specs.FinSet as set
use Rattle.md_core.proofs.Values.{New, Cur, Set, Call, Answer, Entry, Mailbox, Outcome, alone, entry_if, is_in_place, is_in_folder, info_with, flags_in, deliver_alone, seen_alone, seen_by, flag_alone, flag_by, move_alone, expunge_alone, expunge_by, copy_alone, copy_by, refuse, IsDeliveryOf, IsCopyTo, is_success, MakesMessage, is_same_set}
use Rattle.md_jobs.specs.declared.answer.Answer.TheVariants as answer
use Rattle.md_jobs.specs.declared.call.Call.TheVariants.{Deliver, Seen, Flag, Move, Expunge, Copy, Clean}

-- a message of the name had these bytes
abbrev pub Had : Mailbox → List ℕ → List ℕ → Type 0
Had m u bytes = (b : Entry) × (finmap.get m u ≡ Some b) × (b.bytes ≡ bytes)

-- the call gives a message of the name these bytes: it delivers them, or copies them
abbrev pub Gives : Call → Mailbox → List ℕ → List ℕ → Type 0
Gives call m u bytes = IsDeliveryOf u bytes call ⊎ ((unique : List ℕ) × IsCopyTo unique u call × Had m unique bytes)

-- what gives a message bytes makes its name
pub gives-makes : (asked : Call) (m : Mailbox) (u bytes : List ℕ) → Gives asked m u bytes → MakesMessage asked u
gives-makes asked m u bytes (inl delivers) = by asked delivers
  where
    by : (c : Call) → IsDeliveryOf u bytes c → MakesMessage c u
    by (Deliver folder v body chunk) h = h.0
    by c h = absurd h
gives-makes asked m u bytes (inr copies) = by asked copies.1
  where
    by : (c : Call) → IsCopyTo copies.0 u c → MakesMessage c u
    by (Copy folder v to fresh tries) h = h.1
    by c h = absurd h

-- an entry that passes a test is there
such-there : (test : Entry → Bool) (o : Option Entry) (e : Entry) → entry_if test o ≡ Some e → o ≡ Some e
such-there test None e is = cc
such-there test (Some x) e is = by (test x) is
  where
    by : (b : Bool) → cond b (Some x) None ≡ Some e → Some x ≡ Some e
    by true h = h
    by false h = cc

-- what an outcome is of a mailbox
pub data IsOutcome (call : Call) (m : Mailbox) : Outcome → Type 0 where
  keeps : (a : Answer) → IsOutcome call m (refuse a m)
  puts : (a : Answer) → is_success a ≡ true → (k : List ℕ) (e : Entry) → Gives call m k e.bytes ⊎ Had m k e.bytes →
      IsOutcome call m (record { answer = a; after = finmap.insert m k e })
  drops : (a : Answer) → is_success a ≡ true → (k : List ℕ) → IsOutcome call m (record { answer = a; after = finmap.remove m k })

module _ (call : Call) (m : Mailbox) (k : List ℕ) where
  -- the message that is looked for is there
  abbrev IsSought : Option Entry → Type 0
  IsSought o = (e : Entry) → o ≡ Some e → finmap.get m k ≡ Some e

  seen : (given : Set) (o : Option Entry) → IsSought o → IsOutcome call m (seen_alone m k given o)
  seen given None there = keeps answer.NotThere
  seen given (Some e) there = by (flags_in e)
    where
      by : (had : Option Set) → IsOutcome call m (seen_by m k given e had)
      by None = keeps answer.OtherInfo
      by (Some had) = puts (answer.Flags (set.union had given)) refl k _ (inr (e, there e refl, refl))

  flagged : (add remove : Set) (o : Option Entry) → IsSought o → IsOutcome call m (flag_alone m k add remove o)
  flagged add remove None there = keeps answer.NotThere
  flagged add remove (Some e) there = by (flags_in e)
    where
      same_or : (b : Bool) (flags : Set) → IsOutcome call m (cond {A = Outcome} b (refuse (answer.Flags flags) m)
          (record { answer = answer.Flags flags; after = finmap.insert m k (record e { info = info_with flags }) }))
      same_or true flags = keeps (answer.Flags flags)
      same_or false flags = puts (answer.Flags flags) refl k _ (inr (e, there e refl, refl))

      by : (had : Option Set) → IsOutcome call m (flag_by m k add remove e had)
      by None = keeps answer.OtherInfo
      by (Some had) = same_or (is_same_set had (set.difference (set.union had add) remove)) (set.difference (set.union had add) remove)

  moved : (to : ℕ) (o : Option Entry) → IsSought o → IsOutcome call m (move_alone m k to o)
  moved to None there = keeps answer.NotThere
  moved to (Some e) there = puts answer.Moved refl k _ (inr (e, there e refl, refl))

  expunged : (o : Option Entry) → IsOutcome call m (expunge_alone m k o)
  expunged None = keeps answer.NotThere
  expunged (Some e) = by (flags_in e)
    where
      if_trashed : (b : Bool) → IsOutcome call m
          (cond {A = Outcome} b (record { answer = answer.Expunged; after = finmap.remove m k }) (refuse answer.NotTrashed m))
      if_trashed true = drops answer.Expunged refl k
      if_trashed false = keeps answer.NotTrashed

      by : (had : Option Set) → IsOutcome call m (expunge_by m k had)
      by None = keeps answer.NotTrashed
      by (Some had) = if_trashed (set.contains had 84)

delivered : (m : Mailbox) (folder : ℕ) (k body : List ℕ) (chunk : ℕ) (o : Option Entry) →
    IsOutcome (Deliver folder k body chunk) m (deliver_alone m folder k body o)
delivered m folder k body chunk None = puts answer.Delivered refl k _ (inl (inl (refl, refl)))
delivered m folder k body chunk (Some e) = keeps answer.NameTaken

copied : (m : Mailbox) (folder to tries : ℕ) (k fresh : List ℕ) (o : Option Entry) → ((e : Entry) → o ≡ Some e → finmap.get m k ≡ Some e) →
    IsOutcome (Copy folder k to fresh tries) m (copy_alone m to fresh o)
copied m folder to tries k fresh None there = keeps answer.NotThere
copied m folder to tries k fresh (Some e) there = by (flags_in e) (finmap.get m fresh)
  where
    by : (had : Option Set) (o : Option Entry) → IsOutcome (Copy folder k to fresh tries) m (copy_by m to fresh e had o)
    by None o = keeps answer.OtherInfo
    by (Some had) (Some other) = keeps answer.NameTaken
    by (Some had) None = puts answer.Copied refl fresh _ (inl (inr (k, (refl, refl), (e, there e refl, refl))))

pub outcome : (call : Call) (m : Mailbox) → IsOutcome call m (alone call m)
outcome (Deliver folder u body chunk) m = delivered m folder u body chunk (finmap.get m u)
outcome (Seen folder u flags tries) m =
    seen (Seen folder u flags tries) m u flags (entry_if (is_in_place New folder) (finmap.get m u)) (such-there (is_in_place New folder) (finmap.get m u))
outcome (Flag folder u add remove tries) m =
    flagged (Flag folder u add remove tries) m u add remove (entry_if (is_in_place Cur folder) (finmap.get m u))
    (such-there (is_in_place Cur folder) (finmap.get m u))
outcome (Move folder u to tries) m =
    moved (Move folder u to tries) m u to (entry_if (is_in_folder folder) (finmap.get m u)) (such-there (is_in_folder folder) (finmap.get m u))
outcome (Expunge folder u tries) m = expunged (Expunge folder u tries) m u (entry_if (is_in_place Cur folder) (finmap.get m u))
outcome (Copy folder u to fresh tries) m =
    copied m folder to tries u fresh (entry_if (is_in_folder folder) (finmap.get m u)) (such-there (is_in_folder folder) (finmap.get m u))
outcome (Clean folder) m = keeps (answer.Cleaned 0)

-- a call that alone is answered with no success leaves the mailbox as it was
pub alone-refused : (c : Call) (m : Mailbox) → is_success (alone c m).answer ≡ false → (alone c m).after ≡ m
alone-refused c m = by (alone c m) (outcome c m)
  where
    by : (x : Outcome) → IsOutcome c m x → is_success x.answer ≡ false → x.after ≡ m
    by x (keeps a) h = refl
    by x (puts a success k e from) h = cc
    by x (drops a success k) h = cc
