-- What is kept of what actors told of messages and did about them, and how a step changes it.
use Rattle.std.specs.Prelude.{ℕ, ◌≡◌, ◌+◌, ◌<◌, ◌==◌, ◌&&◌, ◌||◌, ◌++◌, ◌∷◌, [], List, Option, Some, None, Bool, true, false, not, nat_le, nat_lt, is_some, if◌then◌else◌}
use Rattle.std.specs.List.{list_all, list_any}
use Rattle.std.specs.Option.{option_or}
use Rattle.std.specs.Str.{bytes_eq}
use Rattle.md_law.specs.Values.{State, Path, Call, Reply, Said, Step}
use Rattle.md_name.specs.Letters.{Set, IsOfLetters}
use Rattle.md_log.specs.declared.line.Call.TheVariants as call
use Rattle.md_log.specs.declared.line.Deed.TheVariants as deed
use Rattle.md_log.specs.declared.line.Said.TheVariants as said
use Rattle.md_law.specs.Answers.{Claim}
use Rattle.md_law.specs.Messages.{is_tmp}
use Rattle.md_monitor.specs.Files.{is_some_and, is_ok}
use Rattle.md_monitor.specs.Messages.{is_of, is_there}
use Rattle.md_monitor.specs.Answers.{ClaimKept, is_flagged, is_success, is_unlink}
use Rattle.md_monitor.specs.Readings.{is_more}
use Rattle.md_watch.specs.declared.claims.Claims.{Claims}
use Rattle.md_watch.specs.declared.claims.actor.Actor.{Actor}
use Rattle.md_watch.specs.declared.claims.deeds.Deeds.{Deeds}
use Rattle.md_watch.specs.declared.claims.deeds.Done.{Done}
use Rattle.md_watch.specs.declared.claims.finding.Past.{Past}
use Rattle.md_watch.specs.declared.flagged.Flagged.{Flagged}
use Rattle.md_watch.specs.declared.presences.InFolders.{InFolders}
use Rattle.md_watch.specs.declared.presences.Presences.{Presences}
use Rattle.md_watch.specs.declared.spells.Spell.{Spell}
use Rattle.md_kept.specs.Changes.{Turn}
use Rattle.md_watch.specs.Flagged.{is_in, spell_in}
use Rattle.md_kept.specs.Messages.{count_in_folder}
use Rattle.md_watch.specs.Spells.{always_by, ever_by, spell_at}
use Rattle.md_kept.specs.Tables.{value_at, is_key}

-- ---- what is kept of an actor and a message

-- What the actor did about the message since its last answer about it: the moment of its last step that changed the message, or else of its
-- first step, that of its last call on the message where that was refused, and those of the steps that took the message from its folder.
-- The moment of a step is the one right after it.
pub record Did : Type 0 where
  pub begun : Option ℕ
  pub refused : Option ℕ
  pub has_added : Bool
  pub taken : List ℕ
  pub has_expunged : Bool
  pub has_changed : Bool

abbrev pub nothing : Option ℕ → Did
nothing begun = record { begun = begun; refused = None; has_added = false; taken = []; has_expunged = false; has_changed = false }

abbrev pub did_of : Deeds → Did
did_of d = record {
  begun = d.begun;
  refused = d.refused;
  has_added = d.has_added;
  taken = d.taken.items;
  has_expunged = d.has_expunged;
  has_changed = d.has_changed;
}

abbrev pub done_of : Done → Did
done_of d = record {
  begun = d.begun;
  refused = d.refused;
  has_added = d.has_added;
  taken = d.taken.now;
  has_expunged = d.has_expunged;
  has_changed = d.has_changed;
}

-- of a message of which nothing is kept, nothing was done since the actor's first step
abbrev pub did_or : ℕ → Option Deeds → Did
did_or first None = nothing (Some first)
did_or first (Some d) = did_of d

-- ---- an actor

abbrev pub did_in : Actor → ℕ → List ℕ → Did
did_in a folder unique = did_or a.first (value_at a.deeds folder unique)

-- the moment of its last look at the folder
abbrev pub look_in : Actor → ℕ → Option ℕ
look_in a folder = value_at a.looks folder []

-- the call was refused, and no look came after it
abbrev pub is_left_by : Option ℕ → Option ℕ → Bool
is_left_by refused look = is_some_and refused (λ t. not (is_some_and look (λ k. nat_lt t k)))

-- it is the message of an answer
abbrev pub is_told : Option (ℕ × List ℕ) → ℕ → List ℕ → Bool
is_told told folder unique = is_some_and told (λ k. is_key k (folder, unique))

-- the actor took no step yet
pub record IsNew (n : ℕ) (a : Actor) : Type 0 where
  pub first : a.first ≡ n
  pub told : a.told ≡ None
  pub looks : (folder : ℕ) → look_in a folder ≡ None
  pub deeds : (folder : ℕ) (unique : List ℕ) → did_in a folder unique ≡ nothing (Some n)

-- ---- how a step of its own changes it

-- a step is the first since the last answer
abbrev pub begin : ℕ → Did → Did
begin now d = record d { begun = Some now }

-- a call on the message answers so
abbrev pub act : Reply → ℕ → Did → Did
act r now d = record d { refused = if is_ok r then None else Some now }

-- a step changes the paths of the message, which was in its folder before the step or not, and is after it or not
abbrev pub change : Bool → Bool → Bool → ℕ → Did → Did
change was is is_unlink now d = record d {
  begun = Some now;
  has_added = (not was && is) || d.has_added;
  taken = if was && not is then d.taken ++ now ∷ [] else d.taken;
  has_expunged = ((was && not is) && is_unlink) || d.has_expunged;
  has_changed = true;
}

-- a call on a path, and any call
abbrev pub act_at : Path → Reply → ℕ → ℕ → List ℕ → Did → Did
act_at p r now folder unique d = if is_of folder unique p then act r now d else d

abbrev pub act_by : Call → ℕ → ℕ → List ℕ → Did → Did
act_by (call.At deed.Unlink p r) now folder unique d = act_at p r now folder unique d
act_by (call.Between n old new r) now folder unique d =
    if is_of folder unique old || (is_of folder unique new && is_ok r) then act r now d else d
act_by c now folder unique d = d

-- a path of the message comes to name a file, or is taken
abbrev pub change_by : Option (Path × ℕ) → Bool → Bool → Bool → ℕ → ℕ → List ℕ → Did → Did
change_by named was is is_unlink now folder unique d =
    if is_some_and named (λ e. is_of folder unique e.0) then change was is is_unlink now d else d

-- the message of which a call tells
abbrev pub told_by : Call → Option (ℕ × List ℕ)
told_by (call.Answer said folder unique) = Some (folder, unique)
told_by c = None

-- the last look at a folder, after a call
abbrev pub look_by : Call → ℕ → ℕ → Option ℕ → Option ℕ
look_by (call.List f place r shown) now folder look =
    if f == folder && (not (is_tmp place) && (is_ok r || is_more r)) then Some now else look
look_by c now folder look = look

-- what was done about a message, after a step: by whether the actor's last step was an answer about it
abbrev pub did_after : Call → Turn → InFolders → InFolders → ℕ → Bool → ℕ → List ℕ → Did → Did
did_after c t before after now was_told folder unique d =
    if is_told (told_by c) folder unique then nothing None
    else change_by t.named before.named after.named (is_unlink c) now folder unique
    (change_by t.taken before.taken after.taken (is_unlink c) now folder unique
    (act_by c now folder unique (if was_told then begin now d else d)))

-- Deeds are changed so, and nothing else.
pub record Does (f : ℕ → List ℕ → Did → Did) (old new : Actor) : Type 0 where
  pub first : new.first ≡ old.first
  pub told : new.told ≡ old.told
  pub looks : new.looks ≡ old.looks
  pub deeds : (folder : ℕ) (unique : List ℕ) → did_in new folder unique ≡ f folder unique (did_in old folder unique)

-- A step begins.
pub record Begins (now : ℕ) (old new : Actor) : Type 0 where
  pub first : new.first ≡ old.first
  pub told : new.told ≡ None
  pub looks : new.looks ≡ old.looks
  pub deeds : (folder : ℕ) (unique : List ℕ) → did_in new folder unique
      ≡ (if is_told old.told folder unique then begin now (did_in old folder unique) else did_in old folder unique)

-- It may be a look.
pub record Looks (c : Call) (now : ℕ) (old new : Actor) : Type 0 where
  pub first : new.first ≡ old.first
  pub told : new.told ≡ old.told
  pub looks : (folder : ℕ) → look_in new folder ≡ look_by c now folder (look_in old folder)
  pub deeds : new.deeds ≡ old.deeds

-- It may be an answer.
pub record Answers (c : Call) (old new : Actor) : Type 0 where
  pub first : new.first ≡ old.first
  pub told : new.told ≡ option_or (told_by c) old.told
  pub looks : new.looks ≡ old.looks
  pub deeds : (folder : ℕ) (unique : List ℕ)
      → did_in new folder unique ≡ (if is_told (told_by c) folder unique then nothing None else did_in old folder unique)

-- A whole step.
pub record Acts (c : Call) (t : Turn) (before after : InFolders) (now : ℕ) (old new : Actor) : Type 0 where
  pub told : new.told ≡ told_by c
  pub looks : (folder : ℕ) → look_in new folder ≡ look_by c now folder (look_in old folder)
  pub deeds : (folder : ℕ) (unique : List ℕ)
      → did_in new folder unique ≡ did_after c t before after now (is_told old.told folder unique) folder unique (did_in old folder unique)

-- ---- actors

abbrev pub actor_in : Claims → List ℕ → Option Actor
actor_in w actor = value_at w.actors 0 actor

-- of an actor that took no step nothing is so
abbrev pub did_by : Option Actor → ℕ → List ℕ → Did
did_by None folder unique = nothing None
did_by (Some a) folder unique = did_in a folder unique

abbrev pub look_of : Option Actor → ℕ → Option ℕ
look_of None folder = None
look_of (Some a) folder = look_in a folder

abbrev pub told_of : Option Actor → Option (ℕ × List ℕ)
told_of None = None
told_of (Some a) = a.told

abbrev pub is_left_of : Option Actor → ℕ → List ℕ → Bool
is_left_of o folder unique = is_left_by (did_by o folder unique).refused (look_of o folder)

-- A step of an actor: an actor that took none before begins with it.
abbrev pub did_before : Option Actor → ℕ → ℕ → List ℕ → Did
did_before None now folder unique = nothing (Some now)
did_before (Some a) now folder unique = did_in a folder unique

pub record ActsAs (c : Call) (t : Turn) (before after : InFolders) (now : ℕ) (old new : Option Actor) : Type 0 where
  pub there : is_some new ≡ true
  pub told : told_of new ≡ told_by c
  pub looks : (folder : ℕ) → look_of new folder ≡ look_by c now folder (look_of old folder)
  pub deeds : (folder : ℕ) (unique : List ℕ) → did_by new folder unique
      ≡ did_after c t before after now (is_told (told_of old) folder unique) folder unique (did_before old now folder unique)

-- One actor acts, and the others are as they were.
pub record Steps (x : Step) (t : Turn) (before after : InFolders) (now : ℕ) (old new : Claims) : Type 0 where
  pub own : ActsAs x.call t before after now (actor_in old x.actor) (actor_in new x.actor)
  pub others : (actor : List ℕ) → bytes_eq x.actor actor ≡ false → actor_in new actor ≡ actor_in old actor

-- ---- what an answer says, by what is known of messages

module _ (p : Past) where
  -- the message is in the folder, and was at each moment from one to another
  abbrev pub is_there_in : ℕ → List ℕ → Bool
  is_there_in folder unique = nat_lt 0 (count_in_folder p.messages.now folder unique)

  abbrev pub was_there_in : ℕ → List ℕ → ℕ → ℕ → Bool
  was_there_in folder unique first last = always_by (is_there_in folder unique) (spell_at p.presences.now.messages folder unique) first last

  -- it is not, or was not at a moment from one on
  abbrev pub is_gone_in : ℕ → List ℕ → Option ℕ → Bool
  is_gone_in folder unique begun =
      not (is_there_in folder unique) || is_some_and begun (λ b. not (was_there_in folder unique b p.now))

  -- it was at one of these moments
  abbrev pub was_there_then : ℕ → List ℕ → List ℕ → Bool
  was_there_then folder unique moments = list_any (λ t. was_there_in folder unique t t) moments

  -- cur of the folder has the message with the flags, or had at a moment from one on
  abbrev pub is_shown_in : ℕ → List ℕ → Set → Option ℕ → Bool
  is_shown_in folder unique flags begun =
      let is = is_in p.flagged.now folder unique flags in
      is || is_some_and begun (λ b. ever_by is (spell_in p.flagged.now folder unique flags) b)

  -- what is said of the message is so, by what was done about it
  abbrev pub is_so_in : Did → ℕ → List ℕ → Said → Bool
  is_so_in d folder unique said.Delivered = d.has_added
  is_so_in d folder unique (said.Flags flags) = is_shown_in folder unique flags d.begun
  is_so_in d folder unique (said.Moved to) = was_there_then to unique d.taken
  is_so_in d folder unique said.Expunged = d.has_expunged
  is_so_in d folder unique said.Done = true
  is_so_in d folder unique said.Failed = not d.has_changed
  is_so_in d folder unique said.NotThere = is_gone_in folder unique d.begun

  -- the answer says that a call was done on a message of which the actor gave up, or says what is not so
  abbrev pub is_given_up_in : Claims → Said → Claim → Bool
  is_given_up_in w said c = (is_success said && is_there_in c.folder c.unique) && is_left_of (actor_in w c.actor) c.folder c.unique

  abbrev pub is_false_in : Claims → Said → Claim → Bool
  is_false_in w said c = not (is_so_in (did_by (actor_in w c.actor) c.folder c.unique) c.folder c.unique said)

-- ---- what is kept is what the monitor keeps

-- there is none, or it comes before this moment
abbrev pub IsBefore : ℕ → Option ℕ → Type 0
IsBefore n None = Unit {0}
IsBefore n (Some t) = t < n

-- by spells of messages and of the flags that they showed in cur, by folders and unique names
abbrev pub MessageSpells : Type 0
MessageSpells = ℕ → List ℕ → Option Spell

abbrev pub FlagSpells : Type 0
FlagSpells = ℕ → List ℕ → Set → Option Spell

-- at a moment the message was in the folder
abbrev pub was_at : State → MessageSpells → ℕ → List ℕ → ℕ → Bool
was_at s there folder unique t = always_by (is_there s folder unique) (there folder unique) t t

-- at a moment from one to the moment of a number, which is now, it was not
abbrev pub was_gone : ℕ → State → MessageSpells → ℕ → List ℕ → Option ℕ → Bool
was_gone n s there folder unique begun = is_some_and begun (λ b. not (always_by (is_there s folder unique) (there folder unique) b n))

-- at one it showed the flags in cur
abbrev pub was_shown : State → FlagSpells → Claim → Set → Option ℕ → Bool
was_shown s shown c flags begun = is_some_and begun (λ b. ever_by (is_flagged s c flags) (shown c.folder c.unique flags) b)

-- After so many steps, what is kept of an actor is what the monitor keeps of it and a message.
pub record IsClaim (n : ℕ) (s : State) (there : MessageSpells) (shown : FlagSpells)
    (c : Claim) (o : Option Actor) (kept : ClaimKept) : Type 0 where
  pub left : is_left_of o c.folder c.unique ≡ kept.is_left
  pub at_work : is_some (did_by o c.folder c.unique).begun ≡ kept.is_at_work
  pub added : (did_by o c.folder c.unique).has_added ≡ kept.has_added
  pub moved : (to : ℕ) → list_any (was_at s there to c.unique) (did_by o c.folder c.unique).taken ≡ kept.has_moved to
  pub expunged : (did_by o c.folder c.unique).has_expunged ≡ kept.has_expunged
  pub changed : (did_by o c.folder c.unique).has_changed ≡ kept.has_changed
  pub absent : was_gone n s there c.folder c.unique (did_by o c.folder c.unique).begun ≡ kept.was_absent
  pub flagged : (flags : Set) → IsOfLetters flags → was_shown s shown c flags (did_by o c.folder c.unique).begun ≡ kept.was_flagged flags
  -- moments are no later than now
  pub begun : IsBefore (n + 1) (did_by o c.folder c.unique).begun
  pub refused : IsBefore (n + 1) (did_by o c.folder c.unique).refused
  pub look : IsBefore (n + 1) (look_of o c.folder)
  pub taken : list_all (λ t. nat_le t n) (did_by o c.folder c.unique).taken ≡ true
  -- an actor that made no step since its last answer about the message made none at all, or its last step was that
  pub told : is_told (told_of o) c.folder c.unique ≡ (is_some o && not (is_some (did_by o c.folder c.unique).begun))

abbrev pub AreClaimsBy : ℕ → State → MessageSpells → FlagSpells → Claims → (Claim → ClaimKept) → Type 0
AreClaimsBy n s there shown w kept = (c : Claim) → IsClaim n s there shown c (actor_in w c.actor) (kept c)

abbrev pub AreClaims : ℕ → State → Presences → Flagged → Claims → (Claim → ClaimKept) → Type 0
AreClaims n s presences flagged w kept = AreClaimsBy n s (spell_at presences.messages) (spell_in flagged) w kept
