-- A call alone on a mailbox makes no bytes: each message after it has those that it had, or those that the call delivers.
use Rattle.std.proofs.Common.{ℕ, ◌≡◌, ◌⊎◌, inr, List, Option, Some, None, refl, sym, ap, subst, ◌∙◌}
use Rattle.std.specs.FinMap as finmap
use Rattle.std.proofs.lemmas.Cmp.{nat_list_cmp_total}
use Rattle.std.proofs.lemmas.Map.Lookups.{exact_bytes}
use Rattle.lists.proofs.Maps.{by_key, at_put, beside_put, at_drop, beside_drop}
use Rattle.md_core.proofs.Values.{Call, Effect, Entry, Mailbox, Outcome, alone, AsAlone}
use Rattle.md_core.proofs.Machines.Errand.Table.Alone.{Had, Gives, IsOutcome, keeps, puts, drops, outcome}

-- each message after has its bytes from before, or from the call
abbrev pub IsWholeAfter : Call → Mailbox → Mailbox → Type 0
IsWholeAfter call m m' = (u : List ℕ) (e : Entry) → finmap.get m' u ≡ Some e → Gives call m u e.bytes ⊎ Had m u e.bytes

whole-same : (call : Call) (m : Mailbox) → IsWholeAfter call m m
whole-same call m u e at = inr (e, at, refl)

whole-put : (call : Call) (m : Mailbox) (k : List ℕ) (x : Entry) → Gives call m k x.bytes ⊎ Had m k x.bytes → IsWholeAfter call m (finmap.insert m k x)
whole-put call m k x from u e at = by_key nat_list_cmp_total exact_bytes u k
    (λ same.
    let is : x ≡ e = (let h = at_put nat_list_cmp_total exact_bytes m k u x same in cc) in
    subst (λ (v : List ℕ). Gives call m v e.bytes ⊎ Had m v e.bytes) (sym same) (subst (λ (y : Entry). Gives call m k y.bytes ⊎ Had m k y.bytes) is from))
    (λ other. inr (e, sym (beside_put nat_list_cmp_total exact_bytes m k u x other) ∙ at, refl))

whole-drop : (call : Call) (m : Mailbox) (k : List ℕ) → IsWholeAfter call m (finmap.remove m k)
whole-drop call m k u e at = by_key nat_list_cmp_total exact_bytes u k
    (λ same. let h = at_drop nat_list_cmp_total exact_bytes m k u same in cc)
    (λ other. inr (e, sym (beside_drop nat_list_cmp_total exact_bytes m k u other) ∙ at, refl))

pub whole-alone : (call : Call) (m : Mailbox) → IsWholeAfter call m (alone call m).after
whole-alone call m = by (alone call m) (outcome call m)
  where
    by : (x : Outcome) → IsOutcome call m x → IsWholeAfter call m x.after
    by x (keeps a) = whole-same call m
    by x (puts a success k e from) = whole-put call m k e from
    by x (drops a success k) = whole-drop call m k

-- an effect leaves the mailbox as the call does alone
pub as_alone-after : (asked : Call) (effect : Option Effect) (m m' : Mailbox) → AsAlone asked effect m m' → IsWholeAfter asked m m'
as_alone-after asked None m m' same = λ u e at. inr (e, ap (λ (x : Mailbox). finmap.get x u) (sym same) ∙ at, refl)
as_alone-after asked (Some x) m m' is = subst (IsWholeAfter asked m) (ap (λ (o : Outcome). o.after) is) (whole-alone asked m)
