-- A snapshot has no memory: what it owns is a fact of its machine value.
use mathlib.Core.List.{List}
use mir.Val.{Val}
use denote.Pure.{Pure}
use denote.RattleType.{RattleType}
use Rattle.md_jobs.specs.contracts.snapshot.Snapshot.{the_row}

pub no-memory : (D : RattleType) (x : (the_row D).Denot) (vs : List Val) → Pure ((the_row D).own_val x vs)
no-memory D x vs = ((λ parts. (tt, ((λ none. (tt, tt)), tt))), tt)
