-- Which paths are messages.
use Rattle.std.specs.Prelude.{Bool, true, false, ◌&&◌, not}
use Rattle.md_dirs.specs.declared.paths.Path.{Path}
use Rattle.md_dirs.specs.declared.paths.Place.{Place}
use Rattle.md_dirs.specs.declared.paths.Place.TheVariants.{Tmp, New, Cur}
use Rattle.md_name.specs.Names.{is_message_name}

-- whether a directory is tmp
abbrev pub is_tmp : Place → Bool
is_tmp Tmp = true
is_tmp New = false
is_tmp Cur = false

-- maildir(5): a message has a name in new or cur that begins with no dot; own: and has a unique part
abbrev pub is_message : Path → Bool
is_message p = not (is_tmp p.place) && is_message_name p.name
