-- What is told of a path, by what is kept of it.
use Rattle.std.specs.Prelude.{ℕ, ◌-◌, List, Option, Some, None, length, slice_get}
use Rattle.std.specs.Option.{option_map}
use Rattle.md_watch.specs.declared.spells.Spell.{Spell}
use Rattle.md_watch.specs.declared.watch.look_ups.Presence.{Presence}
use Rattle.md_watch.specs.declared.watch.look_ups.Presence.TheVariants.{There, Gone}
use Rattle.md_watch.specs.Spells.{since_of, ended_of}

-- when the last of some times ended
abbrev pub last_of : List (ℕ × ℕ) → Option ℕ
last_of times = option_map (λ (t : ℕ × ℕ). t.1) (slice_get times (length times - 1))

-- a path that names this file or none, and of which this is kept
abbrev pub presence_by : Option ℕ → Option Spell → Presence
presence_by (Some file) o = There file (since_of o)
presence_by None o = Gone (last_of (ended_of o))

-- the file that it is said to name
abbrev pub file_of : Presence → Option ℕ
file_of (There file since) = Some file
file_of (Gone last) = None
