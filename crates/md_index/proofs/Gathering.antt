-- Entries that are put together in the messages' order.
use Rattle.std.proofs.Common.{◌≡◌, ℕ, ◌+◌, List, [], ◌∷◌, ◌++◌, take, map, get_or, sym, ap, subst, All, Some, arith, ◌∙◌}
use Rattle.std.specs.Prelude.{Option}
use Rattle.std.specs.Option.{option_to_list}
use Rattle.std.proofs.lemmas.List.{take_more, map-append}
use Rattle.std.proofs.lemmas.Option.{slice_get_within, get_or_from_slice_get}
use Rattle.md_index.specs.declared.item.Message.{Message}
use Rattle.md_index.specs.declared.item.Indexed.{Indexed}
use Rattle.md_index.specs.Index.{IsBrought, indexed_of}

-- the entry of the next message goes on the list of those before it
pub entries-next : (messages : List Message) (done more : List Indexed) (n : ℕ) (made : Indexed)
    → done ≡ map indexed_of (take n messages) → IsBrought messages (n, made) → more ≡ done ++ made ∷ [] → more ≡ map indexed_of (take (n + 1) messages)
entries-next messages done more n made is brought grown =
    let message = brought.0 in
    let here : get_or messages n message ≡ message = get_or_from_slice_get messages n message message brought.1 in
    let last = ap (λ x. map indexed_of (take n messages) ++ x ∷ []) (brought.2 ∙ ap indexed_of (sym here)) in
    let whole = ap (map indexed_of) (take_more messages n message (slice_get_within messages n message brought.1)) ∙
    map-append indexed_of (take n messages) (get_or messages n message ∷ []) in
    grown ∙ (ap (λ xs. xs ++ made ∷ []) is ∙ (last ∙ sym whole))

-- what holds of all values holds of the first, which comes out
pub first-holds : {A : Type 0} (P : A → Type 0) (all rest : List A) (x : A) (r : Option A) → r ≡ Some x → all ≡ option_to_list r ++ rest → All P all → P x
first-holds P all rest x r is split holds =
    let whole : all ≡ x ∷ rest = split ∙ ap (λ r. option_to_list r ++ rest) is in
    subst (All P) whole holds 0 x (omega arith)

-- the value that is seen at the front is the one that comes out
pub first-seen : {A : Type 0} (all rest : List A) (seen x : A) (r : Option A) → r ≡ Some x → all ≡ option_to_list r ++ rest →
    seen ≡ get_or all 0 seen → x ≡ seen
first-seen all rest seen x r is split at =
    let whole : all ≡ x ∷ rest = split ∙ ap (λ r. option_to_list r ++ rest) is in
    sym (at ∙ ap (λ l. get_or l 0 seen) whole)
