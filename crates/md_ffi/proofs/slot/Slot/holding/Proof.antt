-- `holding` keeps what the box owned.
use Rattle.md_ffi.proofs.Steps.{◌≡◌, List, [], ◌∷◌, ◌++◌, refl, sym, subst, proved_at, leaves, ghosts, Some, Goes-blank, Val, vptr, ftrue, SProp, emp, ent, id⊢, WpFn, fact, fact_i, tables, alloc_all, pass_all, free_all, look_at, get, sets, get_in, ‵, raw, ◌⊛◌, ◌$◌, ◌∵◌, !, qed, by, move, keep, drop, split, fsplit, fjoin, use0, suffices, agg, sub, whole, no_more, and_then, returns, enter, stop, fld, of_opd, no, owns, RattleType, block_ptr, types_at, plain, nothing, alive, Stays, stay_dropped, walk_of, heap_laws}
use Rattle.md_ffi.specs.contracts.held.Held.{the_row as Held}
use Rattle.md_ffi.proofs.Values.{Heap, both, Loose, loose_good, loose_out, loose_in}
use Rattle.md_ffi.specs.contracts.slot.Slot.holding as its
use Rattle.md_ffi.proofs.slot.Slot.holding.Statement.{statement}
use Rattle.md_ffi.proofs.slot.Slot.holding.Code as code

pub holding_spec : {M : Type 1} → statement M
holding_spec 𝓤 𝓛 𝓜 𝓡 wired =
    let H = 𝓛.H in let 𝓣 = tables 𝓤 H 𝓜 𝓡 𝓡.env in let LZ = heap_laws in let En = its.ended in let c = its.clauses 𝓛 𝓜.mem 𝓡.returns in let fn = code.function in
    let Lr : RattleType = Loose Held Heap LZ ghosts in let hs : Stays En.signature.params En.kept = (stay_dropped (plain (λ _. Lr)) no, tt) in
    proved_at 𝓛 En hs c 𝓜 𝓡 (Goes-blank 𝓛 0 (plain (λ _. Lr)) no (λ κs x f. tt), tt) its.Key.name fn (code.unfolded 𝓤 H 𝓜 𝓡 wired) (λ z are.
    let v = z.0.3.0 in let a = v.alloc in let Post : Val → SProp 𝓤 = (walk_of 𝓛 En hs c).post z in let Run : List Val → SProp 𝓤 = λ ws. WpFn 𝓤 H 𝓣.C 𝓣.Λ fn ws Post in
    qed 𝓛 ((raw (alive 𝓛 En.signature z.0.0 z.0.1) ⊛ ‵ (owns (types_at En.signature.params z.0.0) z.0.3 z.0.4)) ∷ ‵ ftrue ∷ []) ∵ move ! (1 ∷ []) $ drop ! $ split ! $ move ! (1 ∷ []) $ fsplit ! $
    loose_out Held Heap LZ ghosts ! v z.0.4.0 (λ b o h e ws fits. let w : Val = both (vptr b o) h in let typed = loose_good Held Heap LZ ghosts b o h fits in
    suffices ! (Run (w ∷ [])) (subst (λ (us : List Val). ent 𝓤 (Run (w ∷ [])) (Run us)) (sym (λ i. ws i ++ [])) (id⊢ 𝓤 (Run (w ∷ [])))) $
    enter ! 𝓣.C 𝓣.Λ fn (w ∷ []) Post $ alloc_all ! (λ l. pass_all ! refl (typed, tt) $
    sets ! (of_opd ! (get_in ! (fld ! refl (stop !)) (sub ! 0 refl (whole !)))) refl (tt, tt) $ sets ! (of_opd ! (get_in ! (fld ! refl (stop !)) (sub ! 1 refl (whole !)))) refl fits $
    sets ! (of_opd ! (get ! refl)) refl (tt, tt) $ sets ! (agg ! (and_then ! (get ! refl) (and_then ! (get ! refl) (no_more !)))) refl typed $
    loose_in Held Heap LZ ghosts ! b o h a v.value $ use0 𝓛 (raw (fact 𝓤 (Some v.value ≡ Some v.value))) (fact_i 𝓤 (Some v.value ≡ Some v.value) (emp 𝓤) refl) $ nothing ! $ nothing ! $ fjoin ! $
    returns ! (look_at ! 0 refl) $ free_all ! refl $ keep ! (4 ∷ 0 ∷ 2 ∷ 1 ∷ []) $ by ! (leaves 𝓛 En hs c z w (record { at = block_ptr b o; alloc = a; held = Some v.value }) (tt, tt) (tt, tt)))))
