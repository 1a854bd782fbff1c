-- A log has no memory: what it owns is a fact of its machine value.
use mathlib.Core.List.{List}
use mir.Val.{Val}
use denote.Pure.{Pure}
use Rattle.md_system.specs.contracts.log.Log.{the_row}

pub no-memory : (x : the_row.Denot) (vs : List Val) → Pure (the_row.own_val x vs)
no-memory x vs = ((λ none. (tt, tt)), tt)
