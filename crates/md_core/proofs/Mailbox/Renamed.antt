-- What the names of a mailbox show of a message that gets another path of its unique name.
use Rattle.std.proofs.Common.{ℕ, ◌≡◌, List, Option, Some, sym, ap, ◌∙◌, length}
use Rattle.std.specs.FinMap as finmap
use Rattle.std.proofs.lemmas.Cmp.{nat_list_cmp_total}
use Rattle.std.proofs.lemmas.Map.Lookups.{exact_bytes}
use Rattle.md_core.proofs.Values.{State, Path, unique_of, Mailbox, entry_of, Listed, Names, as_listed, names_of, size_in, IsThere, option_map, option_map_or, get}
use Rattle.lists.proofs.Maps as maps
use Rattle.md_core.proofs.Mailbox.Changes.{by_name}
use Rattle.md_core.proofs.Mailbox.Naming.{get-names, same_names}
use Rattle.md_core.proofs.Mailbox.WholeName.{whole-name}

-- what is put at a name may be put after what was there is dropped
pub put-again : (m : Names) (u : List ℕ) (x : Listed) → finmap.insert m u x ≡ finmap.insert (finmap.remove m u) u x
put-again m u x = same_names _ _ (λ v. by_name v u
    (λ is. maps.at_put nat_list_cmp_total exact_bytes m u v x is ∙ sym (maps.at_put nat_list_cmp_total exact_bytes (finmap.remove m u) u v x is))
    (λ not. maps.beside_put nat_list_cmp_total exact_bytes m u v x not
    ∙ sym (maps.beside_put nat_list_cmp_total exact_bytes (finmap.remove m u) u v x not ∙ maps.beside_drop nat_list_cmp_total exact_bytes m u v not)))

-- what is listed of a message is of its path and its bytes
pub listed-entry : (s : State) (p : Path) (n : ℕ) →
    as_listed (unique_of p.name) (entry_of s p n) ≡ record { folder = p.folder; place = p.place; name = p.name; size = length (entry_of s p n).bytes }
listed-entry s p n = λ i. record { folder = p.folder; place = p.place; name = whole-name p.name i; size = length (entry_of s p n).bytes }

-- a message that the mailbox has is listed
module _ (m : Mailbox) (s : State) (p : Path) (n : ℕ) (at : get m (unique_of p.name) ≡ Some (entry_of s p n)) where
  is_listed : get (names_of m) (unique_of p.name) ≡ Some (record { folder = p.folder; place = p.place; name = p.name; size = length (entry_of s p n).bytes })
  is_listed = get-names m (unique_of p.name) ∙ ap (option_map (as_listed (unique_of p.name))) at ∙ ap Some (listed-entry s p n)

  pub listed-there : IsThere (names_of m) p.folder p.place p.name
  listed-there = record { size = length (entry_of s p n).bytes; at = is_listed }

  pub size-there : size_in (names_of m) (unique_of p.name) ≡ length (entry_of s p n).bytes
  size-there = ap (λ (o : Option Listed). option_map_or (λ (x : Listed). x.size) o 0) is_listed
