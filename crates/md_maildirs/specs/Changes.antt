-- The changes of flags that words say.
use Rattle.std.specs.Prelude.{ℕ, Bool, ◌==◌, ◌+◌, List, [], ◌∷◌, length, take, drop, position}
use Rattle.std.specs.Prelude.{Option, None, Some, option_map, option_and_then, if◌then◌else◌}
use Rattle.std.specs.List.{list_all}
use Rattle.std.specs.FinSet as set
use Rattle.md_name.specs.Letters.{Set, is_letter}
use Rattle.md_maildirs.specs.declared.change.Change.{Change}

-- the flags that letters name, one letter at least
abbrev pub letters_of : List ℕ → Option Set
letters_of word = if length word == 0 then None else (if list_all is_letter word then Some (set.from_list word) else None)

-- the byte of a minus sign
abbrev pub is_minus : ℕ → Bool
is_minus b = b == 45

-- a change by the flags that are added and those that are removed, if both are named
abbrev pub changed : Option Set → Option Set → Option Change
changed add remove = option_and_then (λ a. option_map (λ r. record { add = a; remove = r }) remove) add

-- what stands behind a plus sign, with or without a minus sign at a place of it
abbrev pub added_at : List ℕ → Option ℕ → Option Change
added_at word None = changed (letters_of word) (Some set.empty)
added_at word (Some at) = changed (letters_of (take at word)) (letters_of (drop (at + 1) word))

-- what stands behind a plus sign: letters, or letters, a minus sign and letters
abbrev pub added : List ℕ → Option Change
added word = added_at word (position is_minus word)

-- a plus sign and what is added, or a minus sign and what is removed
abbrev pub signed : ℕ → List ℕ → Option Change
signed sign word =
    if sign == 43 then added word
    else (if sign == 45 then changed (Some set.empty) (letters_of word) else None)

-- the change that a word says
abbrev pub change_of : List ℕ → Option Change
change_of [] = None
change_of (sign ∷ word) = signed sign word
