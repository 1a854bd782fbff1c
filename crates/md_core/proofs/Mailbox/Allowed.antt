-- What an allowed effect does to the names, by its change alone.
use Rattle.std.proofs.Common.{ℕ, ◌≡◌, ◌≢◌, ◌⊎◌, inl, inr, List, refl, sym, ap, subst, ◌∙◌}
use Rattle.std.proofs.lemmas.Cmp.{nat_list_cmp_total}
use Rattle.std.proofs.lemmas.Map.Lookups.{exact_bytes}
use Rattle.std.specs.FinMap as finmap
use Rattle.lists.proofs.Maps.{beside_put, beside_drop}
use Rattle.md_name.proofs.Flagged.{unique_of-flagged, colonless-unique_of}
use Rattle.md_core.proofs.Values.{Place, Answer, Change, unique_of, Tmp, New, Cur, Listed, Names, IsThere, IsAllowed, AddsName}
use Rattle.md_jobs.specs.declared.answer.Answer.TheVariants as answer
use Rattle.md_jobs.specs.declared.effect.Change.TheVariants.{Add, Rename, Remove, Same}

-- A name that is added is fresh, and one that is given another keeps its unique part, and its place unless it goes to cur.
abbrev pub FitsNames : Names → (List ℕ → Type 0) → Change → Type 0
FitsNames m P (Add folder place name size) = (place ≢ Tmp) × P (unique_of name)
FitsNames m P (Rename folder place name to_folder to_place to_name) =
    (unique_of to_name ≡ unique_of name) × IsThere m folder place name × ((to_place ≡ Cur) ⊎ (to_place ≡ place))
FitsNames m P c = Unit {0}

new-not-tmp : (p : Place) → p ≡ New → p ≢ Tmp
new-not-tmp p is tmp = let e : New ≡ Tmp = sym is ∙ tmp in cc

pub allowed-fits : (folders : ℕ) (m : Names) (P : List ℕ → Type 0) (a : Answer) (c : Change) → IsAllowed folders m P a c → FitsNames m P c
allowed-fits folders m P a (Remove folder place name) h = tt
allowed-fits folders m P a Same h = tt
allowed-fits folders m P answer.Delivered (Add folder place name size) h = (new-not-tmp place h.1, subst P (sym h.3) h.5)
allowed-fits folders m P answer.Copied (Add folder place name size) h = (h.1, h.4)
allowed-fits folders m P (answer.Flags s) (Rename folder place name to_folder to_place to_name) h =
    (ap unique_of h.3 ∙ unique_of-flagged (unique_of name) s (colonless-unique_of name), h.4, inl h.2)
allowed-fits folders m P answer.Moved (Rename folder place name to_folder to_place to_name) h = (ap unique_of h.4, h.5, inr h.3)
allowed-fits folders m P a c h = absurd h

-- an effect is allowed where the name that it adds is fresh
pub allowed-fresh : (folders : ℕ) (m : Names) (P Q : List ℕ → Type 0) (a : Answer) (c : Change) → ((u : List ℕ) → AddsName c u → P u → Q u) →
    IsAllowed folders m P a c → IsAllowed folders m Q a c
allowed-fresh folders m P Q answer.Delivered (Add folder place name size) more h = (h.0, h.1, h.2, h.3, h.4, more name h.3 h.5)
allowed-fresh folders m P Q answer.Copied (Add folder place name size) more h = (h.0, h.1, h.2, h.3, more (unique_of name) refl h.4)
allowed-fresh folders m P Q a c more h = h

-- a name that is given another of its unique name leaves each other as it is
pub renamed-beside : (m : Names) (old new u : List ℕ) (x : Listed) → new ≡ old → u ≢ old →
    finmap.get (finmap.insert (finmap.remove m old) new x) u ≡ finmap.get m u
renamed-beside m old new u x is other =
    beside_put nat_list_cmp_total exact_bytes (finmap.remove m old) new u x (λ same. other (same ∙ is))
    ∙ beside_drop nat_list_cmp_total exact_bytes m old u other
