-- A log with one call more is made of nothing: its walk gives up the references, stores an empty struct, and names the list that they show.
use mathlib.Core.Path.{refl}
use mathlib.Core.List.{[], ◌∷◌}
use mir.Syntax.{named}
use mir.Val.{Val, vstruct, vnil}
use types.Kit.{‵, raw, ◌⊛◌, ◌$◌, ◌∵◌, !, qed, done, move, keep, split, join, suffices}
use types.Run.{enter, no_more, returns}
use types.ByLocal.{alloc_all, pass_all, free_all, look_at, sets}
use types.Part.{agg}
use denote.Exit.{yes}
use denote.Shadow.{pure_i}
use denote.RattleType.{Valss, owns}
use denote.Ref.{shr_vals, shr_Tells}
use denote.Signature.{types_at, named_lft, plain, shr_ref_to}
use denote.Steps.{nothing}
use denote.Triple.Entry.{alive}
use denote.Triple.Walked.{Stays, says, stay_dropped, Goes-dropped, ends_at}
use Rattle.std.proofs.Common.{◌++◌}
use Rattle.std.proofs.raw_atomic.Walks.{proved}
use Rattle.md_system.specs.declared.log.Log.{Log}
use Rattle.md_system.specs.contracts.entry.Entry as entry
use Rattle.md_system.specs.contracts.log.Log.{the_row}
use Rattle.md_system.specs.contracts.log.Log.with as f
use Rattle.md_system.proofs.NoMemory.{no-memory}
use Rattle.md_system.proofs.log.Log.with.Statement.{statement}
use Rattle.md_system.proofs.log.Log.with.Code as code

abbrev stayed : Stays f.ended.signature.params f.ended.kept
stayed = (stay_dropped _ yes, (stay_dropped _ yes, tt))

-- a log in the machine: an empty struct
abbrev made : Val
made = vstruct vnil

pub with_spec : {M : Type 1} → statement M
with_spec 𝓤 𝓛 𝓜 𝓡 wired =
    let S = f.signature in
    let c = f.clauses 𝓛 𝓜.mem 𝓡.returns in
    proved 𝓛 f.ended stayed c 𝓜 𝓡 (
      Goes-dropped 𝓛 3 (shr_ref_to (0 ∷ []) tt (plain (λ _. the_row))) yes (λ κs x w. refl),
      (Goes-dropped 𝓛 3 (shr_ref_to (1 ∷ []) tt (plain (λ κs. entry.the_row (named_lft 3 2 tt κs)))) yes (λ κs x w. refl), tt),
    )
    (f.Key.name) code.function (code.unfolded 𝓤 𝓛.H 𝓜 𝓡 wired)
    (λ κs. (shr_vals, (shr_vals, tt)))
    (λ κs. (shr_Tells (named 0) κs.0 the_row, (shr_Tells (named 1) κs.1.0 (entry.the_row (named_lft 3 2 tt κs)), tt))) (λ κs qs bounds a n are.
    let vss : Valss (types_at S.params κs) = (shr_vals a.0, (shr_vals a.1.0, tt)) in
    let r : Log = record { entries = a.0.now.entries ++ a.1.0.now ∷ [] } in
    qed 𝓛 ((raw (alive 𝓛 S κs qs) ⊛ ‵ (owns (types_at S.params κs) a vss)) ∷ raw ((c κs a).requires n) ∷ []) ∵
    split ! $ keep ! (0 ∷ []) $
    enter ! _ _ _ _ _ $ alloc_all ! (λ l. pass_all ! refl ((tt, tt), ((tt, tt), tt)) $
    sets ! (agg ! (no_more !)) refl (tt, tt) $
    returns ! (look_at ! 0 refl) $ free_all ! refl $
    suffices ! _ (ends_at 𝓛 f.ended stayed c ((κs, qs, bounds, a, vss), n) made r (tt, (tt, tt)) (tt, (tt, tt))) $ says ! refl $
    pure_i ! (the_row.own_val r (made ∷ [])) (no-memory r (made ∷ [])) ((tt, (refl, tt)), tt) $
    nothing ! $ nothing ! $ join ! $ nothing ! $ join ! $ move ! (2 ∷ []) $ done !))
