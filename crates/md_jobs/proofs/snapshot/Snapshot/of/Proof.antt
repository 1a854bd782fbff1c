-- A snapshot is made of nothing: its walk gives up the reference, stores two empty structs, and names the value that the reference shows.
use mathlib.Core.Path.{refl}
use mathlib.Core.List.{[], ◌∷◌}
use mir.Syntax.{a_type, named}
use mir.MapTy.{inst_fn}
use mir.Val.{Val, vstruct, vcons, vnil}
use types.Kit.{‵, raw, ◌⊛◌, ◌$◌, ◌∵◌, !, qed, done, move, keep, split, join, suffices}
use types.Run.{enter, no_more, and_then, returns}
use types.ByLocal.{alloc_all, pass_all, free_all, look_at, get, sets}
use types.Part.{agg}
use denote.Exit.{yes}
use denote.Shadow.{pure_i}
use denote.Param.{layouts}
use denote.RattleType.{RattleType, Valss, owns}
use denote.Ref.{shr_vals, shr_Tells}
use denote.Signature.{types_at, plain, shr_ref_to}
use denote.Steps.{nothing}
use denote.Triple.Entry.{alive}
use denote.Triple.Walked.{Stays, says, stay_dropped, Goes-dropped, ends_at}
use Rattle.std.proofs.raw_atomic.Walks.{proved}
use Rattle.md_jobs.specs.declared.snapshot.Snapshot.{Snapshot}
use Rattle.md_jobs.specs.contracts.snapshot.Snapshot.{the_row}
use Rattle.md_jobs.specs.contracts.snapshot.Snapshot.of as f
use Rattle.md_jobs.proofs.NoMemory.{no-memory}
use Rattle.md_jobs.proofs.snapshot.Snapshot.of.Statement.{statement}
use Rattle.md_jobs.proofs.snapshot.Snapshot.of.Code as code

abbrev stayed : (D : RattleType) → Stays (f.ended D).signature.params (f.ended D).kept
stayed D = (stay_dropped _ yes, tt)

-- a snapshot in the machine: a struct of the marker alone, which is an empty struct
abbrev made : Val
made = vstruct (vcons (vstruct vnil) vnil)

pub of_spec : {M : Type 1} → statement M
of_spec 𝓤 𝓛 𝓜 𝓡 wired D laws =
    let Ts = layouts (a_type ∷ []) (D, tt) in let S = f.signature D in
    let c = f.clauses D 𝓛 𝓜.mem 𝓡.returns in
    proved 𝓛 (f.ended D) (stayed D) c 𝓜 𝓡 (Goes-dropped 𝓛 2 (shr_ref_to (0 ∷ []) tt (plain (λ _. f.D-row D))) yes (λ κs x w. refl), tt)
    (f.Key.name Ts) (inst_fn Ts code.function) (code.unfolded 𝓤 𝓛.H 𝓜 𝓡 wired (D, tt))
    (λ κs. (shr_vals, tt)) (λ κs. (shr_Tells (named 0) κs.0 (f.D-row D), tt)) (λ κs qs bounds a n are.
    let vss : Valss (types_at S.params κs) = (shr_vals a.0, tt) in
    let r : Snapshot D.Denot = record { of = record {}; value = a.0.now } in
    qed 𝓛 ((raw (alive 𝓛 S κs qs) ⊛ ‵ (owns (types_at S.params κs) a vss)) ∷ raw ((c κs a).requires n) ∷ []) ∵
    split ! $ keep ! (0 ∷ []) $
    enter ! _ _ _ _ _ $ alloc_all ! (λ l. pass_all ! refl ((tt, tt), tt) $
    sets ! (agg ! (no_more !)) refl (tt, tt) $
    sets ! (agg ! (and_then ! (get ! refl) (no_more !))) refl (tt, (tt, tt)) $
    returns ! (look_at ! 0 refl) $ free_all ! refl $
    suffices ! _ (ends_at 𝓛 (f.ended D) (stayed D) c ((κs, qs, bounds, a, vss), n) made r (tt, tt) (tt, tt)) $ says ! refl $
    pure_i ! ((the_row (f.D-row D)).own_val r (made ∷ [])) (no-memory (f.D-row D) r (made ∷ []))
    ((((vstruct vnil ∷ []), tt), (refl, ((tt, (refl, tt)), tt))), tt) $
    nothing ! $ nothing ! $ join ! $ move ! (2 ∷ []) $ done !))
