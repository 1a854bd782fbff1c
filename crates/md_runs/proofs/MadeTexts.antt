-- The index of a folder, of which workers made the summaries.
use Rattle.std.proofs.Common.{◌≡◌, ℕ, List, map}
use Rattle.std.specs.List.{flat_map}
use Rattle.std.proofs.lemmas.List.Folds.{flat_map-map}
use Rattle.md_core.specs.Mailbox.{Mailbox}
use Rattle.md_listing.specs.declared.entry.Entry.{Entry}
use Rattle.md_script.specs.Indexing.{message_text}
use Rattle.md_runs.specs.Indexes.{indexed_in, made_text}

-- what was made of a listing prints what its messages do
pub made_texts : (m : Mailbox) (name : List ℕ) (entries : List Entry) → flat_map (made_text name) (map (indexed_in m) entries) ≡ flat_map (message_text m name) entries
made_texts m name entries = flat_map-map (made_text name) (indexed_in m) entries
