-- `into_loose` hands over what the slot owns.
use Rattle.md_ffi.proofs.Steps.{◌≡◌, List, [], ◌∷◌, ◌++◌, refl, sym, subst, proved_at, leaves, IsTrue, is_some, ghosts, Option, Some, Goes-blank, Val, vptr, SProp, emp, ent, id⊢, WpFn, fact, fact_i, tables, alloc_all, pass_all, free_all, look_at, get, sets, get_in, ‵, raw, ◌⊛◌, ◌$◌, ◌∵◌, !, qed, by, move, keep, split, fsplit, fjoin, use0, suffices, agg, sub, whole, no_more, and_then, returns, enter, stop, fld, of_opd, yes, owns, block_ptr, types_at, plain, nothing, heard, alive, Stays, stay_dropped, walk_of, heap_laws}
use Rattle.md_driven.specs.contracts.driven.Driven.{the_row as Driven}
use Rattle.md_ffi.specs.contracts.driven_slot.DrivenSlot.{the_row as DrivenSlot}
use Rattle.md_ffi.proofs.Values.{Heap, both, loose_good, loose_in, held_out}
use Rattle.md_ffi.specs.contracts.driven_slot.DrivenSlot.into_loose as its
use Rattle.md_ffi.proofs.driven_slot.DrivenSlot.into_loose.Statement.{statement}
use Rattle.md_ffi.proofs.driven_slot.DrivenSlot.into_loose.Code as code

pub into_loose_spec : {M : Type 1} → statement M
into_loose_spec 𝓤 𝓛 𝓜 𝓡 wired =
    let H = 𝓛.H in let 𝓣 = tables 𝓤 H 𝓜 𝓡 𝓡.env in let LZ = heap_laws in let En = its.ended in let c = its.clauses 𝓛 𝓜.mem 𝓡.returns in let fn = code.function in
    let hs : Stays En.signature.params En.kept = (stay_dropped (plain (λ _. DrivenSlot)) yes, tt) in
    proved_at 𝓛 En hs c 𝓜 𝓡 (Goes-blank 𝓛 0 (plain (λ _. DrivenSlot)) yes (λ κs x f. tt), tt) its.Key.name fn (code.unfolded 𝓤 H 𝓜 𝓡 wired) (λ z are.
    let v = z.0.3.0 in let a = v.alloc in let Post : Val → SProp 𝓤 = (walk_of 𝓛 En hs c).post z in let Run : List Val → SProp 𝓤 = λ ws. WpFn 𝓤 H 𝓣.C 𝓣.Λ fn ws Post in
    qed 𝓛 ((raw (alive 𝓛 En.signature z.0.0 z.0.1) ⊛ ‵ (owns (types_at En.signature.params z.0.0) z.0.3 z.0.4)) ∷ raw (fact 𝓤 (IsTrue (is_some v.held))) ∷ []) ∵ move ! (1 ∷ []) $ heard ! (IsTrue (is_some v.held)) (λ some. split ! $ move ! (1 ∷ []) $ fsplit ! $
    held_out Driven Heap LZ ghosts ! v.at a v.held some z.0.4.0 (λ (y : Option Driven.Denot). DrivenSlot.own_val (record { at = v.at; alloc = a; held = y }) z.0.4.0) (λ x. refl) (λ x held b o h e ws fits. let w : Val = both (vptr b o) h in let typed = loose_good Driven Heap LZ ghosts b o h fits in
    suffices ! (Run (w ∷ [])) (subst (λ (us : List Val). ent 𝓤 (Run (w ∷ [])) (Run us)) (sym (λ i. ws i ++ [])) (id⊢ 𝓤 (Run (w ∷ [])))) $
    enter ! 𝓣.C 𝓣.Λ fn (w ∷ []) Post $ alloc_all ! (λ l. pass_all ! refl (typed, tt) $
    sets ! (of_opd ! (get_in ! (fld ! refl (stop !)) (sub ! 0 refl (whole !)))) refl (tt, tt) $ sets ! (of_opd ! (get_in ! (fld ! refl (stop !)) (sub ! 1 refl (whole !)))) refl fits $
    sets ! (of_opd ! (get ! refl)) refl (tt, tt) $ sets ! (agg ! (and_then ! (get ! refl) (and_then ! (get ! refl) (no_more !)))) refl typed $
    loose_in Driven Heap LZ ghosts ! b o h a x $ use0 𝓛 (raw (fact 𝓤 (v.held ≡ Some x))) (fact_i 𝓤 (v.held ≡ Some x) (emp 𝓤) held) $ nothing ! $ nothing ! $ fjoin ! $
    returns ! (look_at ! 0 refl) $ free_all ! refl $ keep ! (4 ∷ 0 ∷ 2 ∷ 1 ∷ []) $ by ! (leaves 𝓛 En hs c z w (record { at = block_ptr b o; alloc = a; value = x }) (tt, tt) (tt, tt))))))
