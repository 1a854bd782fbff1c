-- What a monitor keeps of answers, what of it changes with a step, and which clauses an answer breaks by that.
use Rattle.std.specs.Prelude.{ℕ, List, Bool, true, false, not, ◌&&◌, ◌||◌, ◌==◌, nat_lt}
use Rattle.std.specs.Str.{bytes_eq}
use Rattle.md_law.specs.Values.{State, Call, Reply, Said, Step}
use Rattle.md_name.specs.Letters.{Set, is_same_set}
use Rattle.md_name.specs.Names.{info_of, flags_of}
use Rattle.md_log.specs.declared.line.Call.TheVariants as call
use Rattle.md_log.specs.declared.line.Deed.TheVariants as deed
use Rattle.md_log.specs.declared.line.Said.TheVariants as said
use Rattle.md_law.specs.History.{History, opening, next, at, now, after_call}
use Rattle.md_law.specs.Answers.{Claim}
use Rattle.md_law.specs.Messages.{is_tmp}
use Rattle.md_monitor.specs.Changes.{change_of}
use Rattle.md_monitor.specs.Files.{is_some_and, is_cur, is_ok, count_where}
use Rattle.md_monitor.specs.Messages.{is_of, is_there}
use Rattle.md_monitor.specs.Readings.{is_more}

-- What is kept of an actor and a message of a folder, since the actor's last answer about it.
pub record ClaimKept : Type 0 where
  -- the actor's last call on the message was refused, and it did not look again
  pub is_left : Bool
  -- the actor made a step
  pub is_at_work : Bool
  -- a step of its own added the message to its folder
  pub has_added : Bool
  -- one took the message from its folder, and this folder had it then
  pub has_moved : ℕ → Bool
  -- one was an unlink, and took the message from its folder
  pub has_expunged : Bool
  -- one changed the paths of the message
  pub has_changed : Bool
  -- the message was not there at a moment when the actor had made a step, and no step of its own changed it since then
  pub was_absent : Bool
  -- at such a moment cur had it with these flags
  pub was_flagged : Set → Bool

-- ---- what directories show of a message

-- cur has the message, by a name that shows these flags
abbrev pub is_flagged : State → Claim → Set → Bool
is_flagged s c flags = nat_lt 0 (count_where (λ e. is_of c.folder c.unique e.0
    && (is_cur e.0.place && is_some_and (flags_of (info_of e.0.name)) (λ shown. is_same_set shown flags))) s)

-- ---- what a call does about a message

-- it tells of the message
abbrev pub is_told_by : Call → Claim → Bool
is_told_by (call.Answer said folder unique) c = folder == c.folder && bytes_eq unique c.unique
is_told_by other c = false

-- it acts on the message by a name of it, and its answer is one of these: from a name of it, or to a name of it where it is done
abbrev pub acts_by : Call → Claim → (Reply → Bool) → Bool
acts_by (call.At deed.Unlink p r) c answer = is_of c.folder c.unique p && answer r
acts_by (call.Between n old new r) c answer =
    (is_of c.folder c.unique old || (is_of c.folder c.unique new && is_ok r)) && answer r
acts_by other c answer = false

-- it is a part of a reading of new or cur of the folder, and the part shows names
abbrev pub looks_by : Call → Claim → Bool
looks_by (call.List folder place r shown) c = folder == c.folder && (not (is_tmp place) && (is_ok r || is_more r))
looks_by other c = false

abbrev pub is_unlink : Call → Bool
is_unlink (call.At deed.Unlink p r) = true
is_unlink other = false

-- ---- what is kept

-- at the beginning nothing was done
abbrev pub claim_first : ClaimKept
claim_first = record {
  is_left = false;
  is_at_work = false;
  has_added = false;
  has_moved = λ to. false;
  has_expunged = false;
  has_changed = false;
  was_absent = false;
  was_flagged = λ flags. false;
}

-- a step, by the directories before it and the clock after it, and a message of which an actor tells
module _ (s : State) (now : ℕ) (x : Step) (c : Claim) where
  abbrev pub after : State
  after = after_call x.call now s

  -- the actor's own step
  abbrev pub is_own : Bool
  is_own = bytes_eq x.actor c.actor

  -- the actor's answer about the message
  abbrev pub is_answer : Bool
  is_answer = is_own && is_told_by x.call c

  -- the actor acts on the message, and is refused
  abbrev pub is_refused : Bool
  is_refused = is_own && acts_by x.call c (λ r. not (is_ok r))

  -- it acts on the message, or looks
  abbrev pub is_tried_again : Bool
  is_tried_again = is_own && (acts_by x.call c (λ r. true) || looks_by x.call c)

  -- it was so at a step of the actor's own since its last answer, if it is so of this step, or was
  abbrev pub own_after : Bool → Bool → Bool
  own_after is old = (is_own && (not is_answer && is)) || (not is_answer && old)

  abbrev pub adds_message : Bool
  adds_message = not (is_there s c.folder c.unique) && is_there after c.folder c.unique

  abbrev pub takes_message : Bool
  takes_message = is_there s c.folder c.unique && not (is_there after c.folder c.unique)

  abbrev pub changes_message : Bool
  changes_message = is_some_and (change_of s x.call).named (λ e. is_of c.folder c.unique e.0)
      || is_some_and (change_of s x.call).taken (λ e. is_of c.folder c.unique e.0)

  -- it was so at a moment when the actor had made a step, and no step of its own changed the message since then: by whether it is so after
  -- the step, whether the actor had made one before, and whether it was so
  abbrev pub lately_after : Bool → Bool → Bool → Bool
  lately_after is at_work old = (own_after true at_work && is) || ((not is_answer && not (is_own && changes_message)) && old)

  -- what is kept after the step, by what was kept before it
  abbrev pub claim_after : ClaimKept → ClaimKept
  claim_after kept = record {
    is_left = is_refused || ((not is_answer && not is_tried_again) && kept.is_left);
    is_at_work = own_after true kept.is_at_work;
    has_added = own_after adds_message kept.has_added;
    has_moved = λ to. own_after (takes_message && is_there after to c.unique) (kept.has_moved to);
    has_expunged = own_after (takes_message && is_unlink x.call) kept.has_expunged;
    has_changed = own_after changes_message kept.has_changed;
    was_absent = lately_after (not (is_there after c.folder c.unique)) kept.is_at_work kept.was_absent;
    was_flagged = λ flags. lately_after (is_flagged after c flags) kept.is_at_work (kept.was_flagged flags);
  }

unfoldable pub claims_kept : History → Claim → ClaimKept
claims_kept (opening m) c = claim_first
claims_kept (next past x) c = claim_after (at past) (now (next past x)) x c (claims_kept past c)

-- ---- what an answer breaks

-- it says that the call was done
abbrev pub is_success : Said → Bool
is_success said.Failed = false
is_success said.NotThere = false
is_success s = true

-- what it says is so
abbrev pub is_so : State → Claim → ClaimKept → Said → Bool
is_so s c kept said.Delivered = kept.has_added
is_so s c kept (said.Flags flags) = is_flagged s c flags || kept.was_flagged flags
is_so s c kept (said.Moved to) = kept.has_moved to
is_so s c kept said.Expunged = kept.has_expunged
is_so s c kept said.Done = true
is_so s c kept said.Failed = not kept.has_changed
is_so s c kept said.NotThere = not (is_there s c.folder c.unique) || kept.was_absent

-- a call is an answer of an actor's, of which the test holds, by what it says and the message of which it tells
abbrev pub is_told_and : Call → List ℕ → (Said → Claim → Bool) → Bool
is_told_and (call.Answer said folder unique) actor test = test said (record { actor = actor; folder = folder; unique = unique })
is_told_and c actor test = false

module _ (s : State) (kept : Claim → ClaimKept) (x : Step) where
  abbrev pub breaks_gave_up : Bool
  breaks_gave_up = is_told_and x.call x.actor (λ said c. is_success said && (is_there s c.folder c.unique && (kept c).is_left))

  abbrev pub breaks_answered_falsely : Bool
  breaks_answered_falsely = is_told_and x.call x.actor (λ said c. not (is_so s c (kept c) said))
