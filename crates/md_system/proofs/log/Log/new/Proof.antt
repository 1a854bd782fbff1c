-- No call is logged of nothing: its walk stores an empty struct, and names the empty list.
use mathlib.Core.Path.{refl}
use mathlib.Core.List.{[], ◌∷◌}
use mir.Val.{Val, vstruct, vnil}
use types.Kit.{‵, raw, ◌⊛◌, ◌$◌, ◌∵◌, !, qed, done, move, keep, split, join, suffices}
use types.Run.{enter, no_more, returns}
use types.ByLocal.{alloc_all, pass_all, free_all, look_at, sets}
use types.Part.{agg}
use denote.Shadow.{pure_i}
use denote.RattleType.{Valss, owns}
use denote.Signature.{types_at}
use denote.Steps.{nothing}
use denote.Triple.Entry.{alive}
use denote.Triple.Walked.{Stays, says, ends_at}
use Rattle.std.proofs.raw_atomic.Walks.{proved}
use Rattle.md_system.specs.declared.log.Log.{Log}
use Rattle.md_system.specs.contracts.log.Log.{the_row}
use Rattle.md_system.specs.contracts.log.Log.new as f
use Rattle.md_system.proofs.NoMemory.{no-memory}
use Rattle.md_system.proofs.log.Log.new.Statement.{statement}
use Rattle.md_system.proofs.log.Log.new.Code as code

abbrev stayed : Stays f.ended.signature.params f.ended.kept
stayed = tt

-- a log in the machine: an empty struct
abbrev made : Val
made = vstruct vnil

pub new_spec : {M : Type 1} → statement M
new_spec 𝓤 𝓛 𝓜 𝓡 wired =
    let S = f.signature in
    let c = f.clauses 𝓛 𝓜.mem 𝓡.returns in
    proved 𝓛 f.ended stayed c 𝓜 𝓡 tt
    (f.Key.name) code.function (code.unfolded 𝓤 𝓛.H 𝓜 𝓡 wired)
    (λ κs. tt) (λ κs. tt) (λ κs qs bounds a n are.
    let vss : Valss (types_at S.params κs) = tt in
    let r : Log = record { entries = [] } in
    qed 𝓛 ((raw (alive 𝓛 S κs qs) ⊛ ‵ (owns (types_at S.params κs) a vss)) ∷ raw ((c κs a).requires n) ∷ []) ∵
    split ! $ keep ! (0 ∷ []) $
    enter ! _ _ _ _ _ $ alloc_all ! (λ l. pass_all ! refl tt $
    sets ! (agg ! (no_more !)) refl (tt, tt) $
    returns ! (look_at ! 0 refl) $ free_all ! refl $
    suffices ! _ (ends_at 𝓛 f.ended stayed c ((κs, qs, bounds, a, vss), n) made r tt tt) $ says ! refl $
    pure_i ! (the_row.own_val r (made ∷ [])) (no-memory r (made ∷ [])) ((tt, (refl, tt)), tt) $
    nothing ! $ join ! $ move ! (1 ∷ []) $ done !))
