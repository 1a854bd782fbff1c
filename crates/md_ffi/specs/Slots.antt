-- What a slot owns.
use mir.Syntax.{Ty}
use base.Fml.{Fml, ftrue}
use denote.RattleType.{RattleType}
use denote.RawPtr.{Ptr}
use Rattle.std.specs.Box.Ownership.{box_owns}
use Rattle.std.specs.declared.option.Option.{Option}
use Rattle.std.specs.declared.option.Option.TheVariants.{None, Some}

-- at nothing, nothing; else the box of the value
abbrev pub slot_owns : (Ty → Ptr → Fml) → (R : RattleType) → Ptr → Option R.Denot → Fml
slot_owns holds R p None = ftrue
slot_owns holds R p (Some x) = box_owns holds R p x
