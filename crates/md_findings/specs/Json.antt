-- Words of a log in an object of JSON.
use Rattle.std.specs.Prelude.{ℕ, List, if◌then◌else◌}
use Rattle.base64.specs.Engines.{standard}
use Rattle.base64.specs.GeneralPurpose.{encode_of}
use Rattle.md_command.specs.Escapes.{is_text}

-- as they are, or in base64 where they are not UTF-8
abbrev pub value_of : List ℕ → List ℕ
value_of words = if is_text words then words else encode_of standard words
