-- Readings of directories, which may come in parts, and listings of folders, which are readings of new and cur.
use Rattle.std.specs.Prelude.{ℕ, ◌≡◌, ◌≢◌, ◌⊎◌, List, Some, Bool, true, false, slice_get, if◌then◌else◌, ◌==◌}
use Rattle.std.specs.Str.{bytes_eq}
use Rattle.md_law.specs.Values.{Place, Tmp, New, Cur, Call, Reply}
use Rattle.md_log.specs.declared.line.Call.TheVariants as call
use Rattle.md_log.specs.declared.line.Reply.TheVariants as reply
use Rattle.md_law.specs.History.{History, opening, next, before, IsCall, IsBy, Since, IsUpTo}

-- a directory, as an actor reads it
pub record Looker : Type 0 where
  pub actor : List ℕ
  pub folder : ℕ
  pub place : Place

-- the last step is a part of a reading of it, which answers so and shows these names
abbrev pub Reads : History → Looker → Reply → List (List ℕ) → Type 0
Reads h d r shown = IsBy h d.actor × IsCall h (call.List d.folder d.place r shown)

abbrev pub IsPart : History → Looker → Reply → Type 0
IsPart h d r = (shown : List (List ℕ)) × Reads h d r shown

-- a part that answers so shows names: it is the last one, or says that more follows
abbrev pub ShowsNames : Reply → Type 0
ShowsNames r = (r ≡ reply.Ok) ⊎ (r ≡ reply.More)

-- the last part so far says that more follows
abbrev pub IsReadOn : History → Looker → Type 0
IsReadOn h d = Since (λ m. IsPart m d reply.More) (λ m. (r : Reply) → IsPart m d r → ⊥) h

-- The last step is a part of a reading, which began with the last step of a history, that or an earlier one: none was read on before it,
-- and each part since but the last says that more follows.
pub record IsReading (first h : History) (d : Looker) : Type 0 where
  pub begins : (r : Reply) × IsPart first d r
  pub fresh : IsReadOn (before first) d → ⊥
  pub goes_on : IsUpTo first h
  pub more : (m : History) (r : Reply) → IsUpTo first m → IsUpTo m (before h) → IsPart m d r → r ≡ reply.More
  pub ends : (r : Reply) × IsPart h d r

-- a reading that its last part completes
abbrev pub IsWholeReading : History → History → Looker → Type 0
IsWholeReading first h d = IsReading first h d × IsPart h d reply.Ok

-- a moment of a reading
abbrev pub IsMomentOf : History → History → History → Type 0
IsMomentOf m first h = IsUpTo (before first) m × IsUpTo m (before h)

-- a part of a reading shows the name
abbrev pub Shows : History → History → Looker → List ℕ → Type 0
Shows first h d name = (m : History) × (r : Reply) × (shown : List (List ℕ)) × (k : ℕ)
    × IsUpTo first m × IsUpTo m h × Reads m d r shown × (slice_get shown k ≡ Some name)

-- ---- listings

-- which of new and cur a listing has read
pub record Read : Type 0 where
  pub new : Bool
  pub cur : Bool

abbrev pub nothing_read : Read
nothing_read = record { new = false; cur = false }

-- with both new and cur a listing is complete, and the next begins
abbrev pub with_place : Place → Read → Read
with_place Tmp r = r
with_place New r = if r.cur then nothing_read else record { new = true; cur = false }
with_place Cur r = if r.new then nothing_read else record { new = false; cur = true }

-- What an actor moves between its readings it knows of, so a call that is no reading breaks its listings off: the next reading begins one
-- anew. A reading that is open at such a call counts once it is whole, since a loop that moves what it reads shows it before.
abbrev pub with_call : ℕ → Call → Read → Read
with_call folder (call.List f place reply.Ok shown) r = if f == folder then with_place place r else r
with_call folder (call.List f place q shown) r = r
with_call folder c r = nothing_read

-- what the actor's listing of the folder has read
unfoldable pub read_of : History → List ℕ → ℕ → Read
read_of (opening m) actor folder = nothing_read
read_of (next past x) actor folder =
    if bytes_eq x.actor actor then with_call folder x.call (read_of past actor folder) else read_of past actor folder

-- The last step completes a listing of a folder by an actor: it ends a reading, and of that listing the actor had read nothing at the
-- moment of a history, and something at each moment since.
pub record IsListing (first h : History) (actor : List ℕ) (folder : ℕ) : Type 0 where
  pub begins : read_of first actor folder ≡ nothing_read
  pub goes_on : Since (λ m. m ≡ first) (λ m. read_of m actor folder ≢ nothing_read) (before h)
  pub more : read_of (before h) actor folder ≢ nothing_read
  pub reads : (place : Place) × IsPart h (record { actor = actor; folder = folder; place = place }) reply.Ok
  pub ends : read_of h actor folder ≡ nothing_read

-- a whole reading of new or cur is one of the listing's
abbrev pub IsOfListing : History → History → History → History → Looker → Type 0
IsOfListing begun h first last d = IsUpTo begun (before last) × IsUpTo last h × (d.place ≢ Tmp) × IsWholeReading first last d
