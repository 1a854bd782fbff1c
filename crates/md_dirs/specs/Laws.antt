-- What a call keeps.
use Rattle.std.specs.Prelude.{◌≡◌, None}
use Rattle.md_dirs.specs.State.{State, IsSound}
use Rattle.md_dirs.specs.Calls.{Ask}

-- A call that is not refused leaves sound directories sound: each path lies in a folder that is there and names a file that is there,
-- and each file that is there has a path.
abbrev pub KeepsSound : Ask → Type 0
KeepsSound ask = (s : State) → IsSound s → ask.refusal s ≡ None → IsSound (ask.after s)
