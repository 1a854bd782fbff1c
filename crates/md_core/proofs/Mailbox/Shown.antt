-- What a mailbox has is what directories show.
use Rattle.std.proofs.Common.{ℕ, ◌≡◌, List, Option, Some, None, Bool, true, false, cond, refl, sym, ap, ◌∙◌}
use Rattle.std.proofs.lemmas.Cmp.{nat_list_cmp_total}
use Rattle.std.proofs.lemmas.Map.Lookups.{exact_bytes}
use Rattle.md_core.proofs.Values.{State, file_at, Path, unique_of, Entry, Mailbox, mailbox_of, name_cmp, is_message, entry_of, message_of, HasOnePath, filter_map, find, get, get-from_entries, entries, same_map}
use Rattle.md_dirs.proofs.PathOrder.{path_total, path_exact}
use Rattle.lists.proofs.Members.{get-has, has-get}
use Rattle.md_core.proofs.Lists.Found.{found, finds}

-- the directories have a message of this name and this entry
pub record Shows (s : State) (u : List ℕ) (e : Entry) : Type 0 where
  pub path : Path
  pub file : ℕ
  pub there : file_at s path ≡ Some file
  pub message : is_message path ≡ true
  pub unique : unique_of path.name ≡ u
  pub entry : entry_of s path file ≡ e

-- the message of a row is shown
message-shows : (s : State) (u : List ℕ) (e : Entry) (p : Path) (n : ℕ) → file_at s p ≡ Some n → message_of s (p, n) ≡ Some (u, e) → Shows s u e
message-shows s u e p n there is = at (is_message p) refl is
  where
    at : (b : Bool) → is_message p ≡ b → cond {A = Option (List ℕ × Entry)} b (Some (unique_of p.name, entry_of s p n)) None ≡ Some (u, e) → Shows s u e
    at false m is = cc
    at true m is =
        let pair : ◌≡◌ {A = List ℕ × Entry} (unique_of p.name, entry_of s p n) (u, e) = cc in
        record { path = p; file = n; there = there; message = m; unique = ap (λ (x : List ℕ × Entry). x.0) pair; entry = ap (λ (x : List ℕ × Entry). x.1) pair }

shows-message : (s : State) (u : List ℕ) (e : Entry) (h : Shows s u e) → message_of s (h.path, h.file) ≡ Some (u, e)
shows-message s u e h =
    ap (λ b. cond {A = Option (List ℕ × Entry)} b (Some (unique_of h.path.name, entry_of s h.path h.file)) None) h.message
    ∙ (λ i. Some (h.unique i, h.entry i))

mailbox-find : (s : State) (u : List ℕ) → get (mailbox_of s) u ≡ find name_cmp u (filter_map (message_of s) (entries s.names))
mailbox-find s u = get-from_entries nat_list_cmp_total (filter_map (message_of s) (entries s.names)) u

-- what the mailbox has, the directories show
pub mailbox-shows : (s : State) (u : List ℕ) (e : Entry) → get (mailbox_of s) u ≡ Some e → Shows s u e
mailbox-shows s u e is =
    let row = found nat_list_cmp_total exact_bytes (message_of s) u e (entries s.names) (sym (mailbox-find s u) ∙ is) in
    message-shows s u e row.0.0 row.0.1 (has-get path_total path_exact s.names row.0 row.1) row.2

-- a name shows one entry
shown-once : (s : State) (u : List ℕ) (e f : Entry) → HasOnePath s → Shows s u e → Shows s u f → e ≡ f
shown-once s u e f one g h =
    let path : g.path ≡ h.path = one g.path h.path g.file h.file g.there h.there g.message h.message (g.unique ∙ sym h.unique) in
    let both : Some g.file ≡ Some h.file = sym g.there ∙ ap (file_at s) path ∙ h.there in
    let file : g.file ≡ h.file = cc in
    sym g.entry ∙ (λ i. entry_of s (path i) (file i)) ∙ h.entry

-- what the directories show, the mailbox has
pub shows-mailbox : (s : State) (u : List ℕ) (e : Entry) → HasOnePath s → Shows s u e → get (mailbox_of s) u ≡ Some e
shows-mailbox s u e one h =
    let has = get-has path_total path_exact s.names h.path h.file h.there in
    let some = finds nat_list_cmp_total exact_bytes (message_of s) u e (h.path, h.file) (entries s.names) has (shows-message s u e h) in
    let is : get (mailbox_of s) u ≡ Some some.0 = mailbox-find s u ∙ some.1 in
    is ∙ ap Some (shown-once s u some.0 e one (mailbox-shows s u some.0 is) h)

-- two mailboxes are one if they have the same
pub same_mailbox : (a b : Mailbox) →
    ((u : List ℕ) (e : Entry) → get a u ≡ Some e → get b u ≡ Some e) → ((u : List ℕ) (e : Entry) → get b u ≡ Some e → get a u ≡ Some e) → a ≡ b
same_mailbox a b there back = same_map nat_list_cmp_total exact_bytes a b (λ u. by u (get a u) (get b u) refl refl)
  where
    by : (u : List ℕ) (x y : Option Entry) → get a u ≡ x → get b u ≡ y → get a u ≡ get b u
    by u None None p q = p ∙ sym q
    by u None (Some e) p q = let h = back u e q in cc
    by u (Some e) y p q = p ∙ sym (there u e p)
