-- The entry of a row, by whether its name is a message's.
use Rattle.std.proofs.Common.{◌≡◌, ℕ, None, Some, List, true, false, cond, sym, ap}
use Rattle.std.specs.Option.{option_map}
use Rattle.md_dirs.specs.declared.paths.Place.{Place}
use Rattle.md_dirs.specs.declared.rows.Row.{Row}
use Rattle.md_name.specs.declared.info.Info.{Info}
use Rattle.md_name.specs.Names.{unique_of, info_of, is_message_name}
use Rattle.md_listing.specs.declared.entry.Entry.{Entry}
use Rattle.md_listing.specs.Rows.{entry_of_row}

abbrev entry_with : Place → Row → List ℕ × Info → Entry
entry_with place row parts = record { unique = parts.0; place = place; name = row.name; size = row.size }

pub entry_by : (place : Place) (row : Row) → is_message_name row.name ≡ true → Some (entry_with place row (unique_of row.name, info_of row.name)) ≡ entry_of_row place row
entry_by place row is = ap (λ b. option_map (entry_with place row) (cond b (Some (unique_of row.name, info_of row.name)) None)) (sym is)

pub no_entry : (place : Place) (row : Row) → is_message_name row.name ≡ false → None ≡ entry_of_row place row
no_entry place row is = ap (λ b. option_map (entry_with place row) (cond b (Some (unique_of row.name, info_of row.name)) None)) (sym is)
