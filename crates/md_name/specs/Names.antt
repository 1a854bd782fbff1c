-- The names of a maildir's files, read by their first colon.
use Rattle.std.specs.Prelude.{ℕ, Bool, not, ◌&&◌, ◌||◌, ◌==◌, nat_eq, nat_lt, nat_le}
use Rattle.std.specs.Prelude.{List, ◌++◌, length, drop, Option, None, Some, if◌then◌else◌, codes}
use Rattle.std.specs.List.{list_any, list_all, before_first, after_first, starts_with}
use Rattle.std.specs.FinSet as set
use Rattle.md_name.specs.declared.info.Info.{Info}
use Rattle.md_name.specs.declared.info.Info.TheVariants.{Bare, Two, Opaque}
use Rattle.md_name.specs.Letters.{is_letter, Set, spelling}

-- the byte of a colon
abbrev pub is_colon : ℕ → Bool
is_colon b = b == 58

-- the byte of a slash
abbrev pub is_slash : ℕ → Bool
is_slash b = b == 47

-- NUL, LF or CR: what ends a text of C or a line
abbrev pub is_terminator : ℕ → Bool
is_terminator b = b == 0 || b == 10 || b == 13

-- what no unique name holds
abbrev pub is_barred : ℕ → Bool
is_barred b = is_terminator b || is_slash b || is_colon b

-- whether a name begins with a dot
abbrev pub begins_with_dot : List ℕ → Bool
begins_with_dot name = starts_with nat_eq name (codes ".")

-- the unique part of a name: all before its first colon
unfoldable pub unique_of : List ℕ → List ℕ
unique_of name = before_first is_colon name

-- what a name says after its first colon, if it has one
unfoldable pub info_text : List ℕ → Option (List ℕ)
info_text name = if list_any is_colon name then Some (after_first is_colon name) else None

-- `2,` and then letters alone, in any order and perhaps repeated, are a set of flags; all else is other info
unfoldable pub info_by : Option (List ℕ) → Info
info_by None = Bare
info_by (Some text) =
    if starts_with nat_eq text (codes "2,") && list_all is_letter (drop 2 text)
    then Two (set.from_list (drop 2 text)) else Opaque

-- the info of a name, which is bare without a colon
abbrev pub info_of : List ℕ → Info
info_of name = info_by (info_text name)

-- the flags that an info stands for: bare info is no flags, and other info has no set
abbrev pub flags_of : Info → Option Set
flags_of Bare = Some set.empty
flags_of (Two s) = Some s
flags_of Opaque = None

-- maildir(5): a name that begins with a dot is skipped; own: so is one whose unique part is empty
unfoldable pub is_message_name : List ℕ → Bool
is_message_name name = not (begins_with_dot name) && nat_lt 0 (length (unique_of name))

-- the unique part and the info of a message's name
abbrev pub split_of : List ℕ → Option (List ℕ × Info)
split_of name = if is_message_name name then Some (unique_of name, info_of name) else None

-- the name of the message of that unique name with these flags
unfoldable pub flagged : List ℕ → Set → List ℕ
flagged unique flags = unique ++ codes ":2," ++ spelling flags

-- maildir(5): a unique name isn't empty, doesn't begin with a dot, and holds no colon and no slash
unfoldable pub is_maildir_unique : List ℕ → Bool
is_maildir_unique u =
    nat_lt 0 (length u) && not (begins_with_dot u) && not (list_any is_colon u) && not (list_any is_slash u)

-- own: what a message may be delivered under is such a name of at most 200 bytes, none of them NUL, LF or CR
unfoldable pub is_unique_name : List ℕ → Bool
is_unique_name u = is_maildir_unique u && nat_le (length u) 200 && not (list_any is_terminator u)
