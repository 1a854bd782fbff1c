-- What is listed of a mailbox is what the paths of its directories show.
use Rattle.std.proofs.Common.{ℕ, ◌≡◌, List, Option, Some, None, refl, sym, ap, ◌∙◌}
use Rattle.md_core.proofs.Values.{State, Entry, mailbox_of, entry_of, HasOnePath, Listed, as_listed, names_of, option_map, get, HasPath}
use Rattle.md_core.proofs.Mailbox.Naming.{get-names}
use Rattle.md_core.proofs.Mailbox.Renamed.{listed-entry}
use Rattle.md_core.proofs.Mailbox.Shown.{mailbox-shows, shows-mailbox}

pub names-shown : (s : State) (u : List ℕ) (x : Listed) → get (names_of (mailbox_of s)) u ≡ Some x → HasPath s u x
names-shown s u x is = by (get (mailbox_of s) u) refl
  where
    by : (o : Option Entry) → get (mailbox_of s) u ≡ o → HasPath s u x
    by None none = let never : None ≡ Some x = sym (get-names (mailbox_of s) u ∙ ap (option_map (as_listed u)) none) ∙ is in cc
    by (Some m) some =
        let here : Some (as_listed u m) ≡ Some x = sym (get-names (mailbox_of s) u ∙ ap (option_map (as_listed u)) some) ∙ is in
        let same : as_listed u m ≡ x = cc in
        let h = mailbox-shows s u m some in
        record {
          path = h.path;
          file = h.file;
          there = h.there;
          message = h.message;
          unique = h.unique;
          shown = sym (listed-entry s h.path h.file) ∙ (λ i. as_listed (h.unique i) (h.entry i)) ∙ same;
        }

pub names-listed : (s : State) → HasOnePath s → (u : List ℕ) (x : Listed) → HasPath s u x → get (names_of (mailbox_of s)) u ≡ Some x
names-listed s one u x h =
    let message : Entry = entry_of s h.path h.file in
    get-names (mailbox_of s) u
    ∙ ap (option_map (as_listed u)) (shows-mailbox s u message one
    (record { path = h.path; file = h.file; there = h.there; message = h.message; unique = h.unique; entry = refl }))
    ∙ ap Some (ap (λ v. as_listed v message) (sym h.unique) ∙ listed-entry s h.path h.file ∙ h.shown)
