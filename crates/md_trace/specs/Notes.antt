-- What is noted of a call.
use Rattle.std.specs.Prelude.{◌≡◌, Option, Some, IfSome}
use Rattle.md_dirs.specs.declared.hooked.Called.{Called}
use Rattle.md_dirs.specs.declared.hooked.Called.TheVariants.{One, Link, Rename, Listing}
use Rattle.md_trace.specs.declared.noted.Noted.{Noted}
use Rattle.md_trace.specs.declared.noted.Noted.TheVariants as noted

-- its paths, or none where memory was refused. A listing is always noted
abbrev pub IsNoted : Called → Option Noted → Type 0
IsNoted (One path) note = IfSome note (λ n. n ≡ noted.One path.now)
IsNoted (Link old new) note = IfSome note (λ n. n ≡ noted.Two old.now new.now)
IsNoted (Rename old new) note = IfSome note (λ n. n ≡ noted.Two old.now new.now)
IsNoted (Listing folder place) note = note ≡ Some (noted.Directory folder place)
