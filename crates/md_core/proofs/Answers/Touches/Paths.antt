-- A path of a message that is there is one that is listed, and the other way round.
use Rattle.std.proofs.Common.{ℕ, ◌≡◌, List, Some, refl, sym, ap, ◌∙◌}
use Rattle.md_core.proofs.Values.{State, file_at, Path, unique_of, mailbox_of, entry_of, HasOnePath, names_of, IsThere}
use Rattle.md_core.proofs.Mailbox.Renamed.{listed-there}
use Rattle.md_core.proofs.Mailbox.Paths.{names-shown}
use Rattle.md_core.proofs.Mailbox.Shown.{shows-mailbox}
use Rattle.md_core.proofs.Answers.Turns.OneMessage.{IsPathOf}

abbrev pub IsListed : State → Path → Type 0
IsListed s p = IsThere (names_of (mailbox_of s)) p.folder p.place p.name

pub path-listed : (s : State) (u : List ℕ) (p : Path) → HasOnePath s → IsPathOf s u p → IsListed s p
path-listed s u p one h = listed-there (mailbox_of s) s p h.file
    (shows-mailbox s (unique_of p.name) (entry_of s p h.file) one
    (record { path = p; file = h.file; there = h.there; message = h.message; unique = refl; entry = refl }))

pub listed-path : (s : State) (p : Path) → IsListed s p → (n : ℕ) × (file_at s p ≡ Some n)
listed-path s p h =
    let at = names-shown s (unique_of p.name) _ h.at in
    let path : at.path ≡ p = (λ i. record { folder = (at.shown i).folder; place = (at.shown i).place; name = (at.shown i).name }) in
    (at.file, ap (file_at s) (sym path) ∙ at.there)
