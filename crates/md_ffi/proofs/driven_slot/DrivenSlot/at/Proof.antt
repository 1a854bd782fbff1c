-- `at` makes a slot that owns nothing.
use Rattle.md_ffi.proofs.Steps.{◌≡◌, List, [], ◌∷◌, ◌++◌, refl, proved_at, leaves, None, handle_tells, Ptr-Good, Val, ftrue, SProp, emp, WpFn, fact, fact_i, tables, alloc_all, pass_all, free_all, look_at, get, sets, ‵, raw, ◌⊛◌, ◌$◌, ◌∵◌, !, qed, by, move, keep, drop, split, fsplit, fjoin, use0, prop, regoal, feq_i, fpack, agg, no_more, and_then, returns, enter, RawPtr, owns, Valss, ptr_val, types_at, plain, nothing, shape, to, within, alive, Goes-dropped, Stays, stay_dropped, walk_of}
use Rattle.md_ffi.specs.contracts.driven_slot.DrivenSlot as slot
use Rattle.md_ffi.proofs.Values.{Heap, heap_handle, both, both_tt}
use Rattle.md_ffi.specs.contracts.driven_slot.DrivenSlot.at as its
use Rattle.md_ffi.proofs.driven_slot.DrivenSlot.at.Statement.{statement}
use Rattle.md_ffi.proofs.driven_slot.DrivenSlot.at.Code as code

pub at_spec : {M : Type 1} → statement M
at_spec 𝓤 𝓛 𝓜 𝓡 wired =
    let H = 𝓛.H in let C = (tables 𝓤 H 𝓜 𝓡 𝓡.env).C in let Λ = (tables 𝓤 H 𝓜 𝓡 𝓡.env).Λ in let En = its.ended in let c = its.clauses 𝓛 𝓜.mem 𝓡.returns in let fn = code.function in
    let hs : Stays En.signature.params En.kept = (stay_dropped (plain (λ _. RawPtr)) En.kept.0, (stay_dropped (plain (λ _. Heap)) En.kept.1.0, tt)) in
    proved_at 𝓛 En hs c 𝓜 𝓡 (Goes-dropped 𝓛 0 (plain (λ _. RawPtr)) En.kept.0 (λ κs x f. refl), (Goes-dropped 𝓛 0 (plain (λ _. Heap)) En.kept.1.0 (λ κs x f. refl), tt)) its.Key.name fn (code.unfolded 𝓤 H 𝓜 𝓡 wired) (λ z are.
    let p = z.0.3.0 in let a = z.0.3.1.0 in let Post : Val → SProp 𝓤 = (walk_of 𝓛 En hs c).post z in let x : slot.the_row.Denot = record { at = p; alloc = a; held = None } in let Said : Type 0 = x.held ≡ None in
    qed 𝓛 ((raw (alive 𝓛 En.signature z.0.0 z.0.1) ⊛ ‵ (owns (types_at En.signature.params z.0.0) z.0.3 z.0.4)) ∷ ‵ ftrue ∷ []) ∵ move ! (1 ∷ []) $ drop ! $ split ! $ move ! (1 ∷ []) $ fsplit ! $ drop ! $ fsplit ! $
    handle_tells heap_handle ! a z.0.4.1.0 (λ h ea fits. let w : Val = both (ptr_val p) h in
    regoal ! (λ (us : List Val). prop (WpFn 𝓤 H C Λ fn us Post)) (λ i. are.0 i ++ (ea i ++ [])) refl $
    enter ! C Λ fn (ptr_val p ∷ h ∷ []) Post $ alloc_all ! (λ l. pass_all ! refl (Ptr-Good p, (fits, tt)) $
    sets ! (agg ! (and_then ! (get ! refl) (and_then ! (get ! refl) (no_more !)))) refl (both_tt _ _ (Ptr-Good p).0 fits.0, ((Ptr-Good p).1, (fits.1, tt))) $
    nothing ! $ nothing ! $ move ! (2 ∷ 0 ∷ []) $ fjoin ! $ feq_i ! (List Val) (ptr_val p ∷ []) (ptr_val p ∷ []) refl $ fjoin ! $ feq_i ! (List Val) (w ∷ []) (w ∷ []) refl $ fjoin ! $
    fpack ! (Valss (RawPtr ∷ Heap ∷ [])) (within (shape slot.the_type) (to slot.the_type x) (w ∷ [])) (ptr_val p ∷ [], (h ∷ [], tt)) $ fjoin ! $
    use0 𝓛 (raw (fact 𝓤 Said)) (fact_i 𝓤 Said (emp 𝓤) refl) $ nothing ! $ nothing ! $ fjoin ! $ nothing ! $ fjoin ! $
    returns ! (look_at ! 0 refl) $ free_all ! refl $ keep ! (4 ∷ 0 ∷ 2 ∷ 1 ∷ []) $ by ! (leaves 𝓛 En hs c z w x (tt, (tt, tt)) (tt, (tt, tt))))))
