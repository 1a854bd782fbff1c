-- The names of a store, as listings show them, and what a change makes of them.
use Rattle.std.specs.Prelude.{ℕ, ◌≡◌, ◌<◌, ◌==◌, ◌&&◌, List, Some, Bool, true, false, not, is_some, nat_eq, nat_lt, refl, if◌then◌else◌}
use Rattle.std.specs.Option.{option_map_or}
use Rattle.std.specs.Cmp.Lexicographic.{pointwise}
use Rattle.std.specs.FinMap as finmap
use Rattle.std.specs.Coded.{Coded, code_by, coded×, coded_ℕ, coded_list}
use Rattle.md_dirs.specs.Path.{place_index}
use Rattle.md_dirs.specs.State.{State, place_by}
use Rattle.md_dirs.specs.declared.paths.Place.{Place}
use Rattle.md_dirs.specs.declared.paths.Place.TheVariants.{Tmp, New, Cur}
use Rattle.md_name.specs.Names.{unique_of, is_message_name}
use Rattle.md_core.specs.Mailbox.{mailbox_of}
use Rattle.md_used.specs.Paths.{is_tmp}
use Rattle.md_core.specs.History.{Listed, Names, names_of, names_after_change}
use Rattle.md_jobs.specs.declared.effect.Change.{Change}
use Rattle.md_jobs.specs.declared.effect.Change.TheVariants.{Add, Rename, Remove, Same}

-- how many folders there are, and what can be seen of each message, by its unique name
pub record Named : Type 0 where
  pub folders : ℕ
  pub names : Names

-- What follows writes names as tuples of numbers and lists, as a type that contracts see as names asks for it.
abbrev pub listed_code : Coded Listed
listed_code =
    code_by (ℕ × (Place × (List ℕ × ℕ)))
    (coded× coded_ℕ (coded× (code_by ℕ coded_ℕ place_index place_by back) (coded× (coded_list coded_ℕ) coded_ℕ)))
    (λ x. (x.folder, (x.place, (x.name, x.size)))) (λ t. record { folder = t.0; place = t.1.0; name = t.1.1.0; size = t.1.1.1 }) (λ _. refl)
  where
    back : (p : Place) → place_by (place_index p) ≡ p
    back Tmp = refl
    back New = refl
    back Cur = refl

-- names as a tuple
abbrev pub named_code : Coded Named
named_code =
    code_by (ℕ × Names) (coded× coded_ℕ (finmap.code (coded_list coded_ℕ) listed_code))
    (λ n. (n.folders, n.names)) (λ t. record { folders = t.0; names = t.1 }) (λ _. refl)

-- the names that directories show
abbrev pub named_of : State → Named
named_of s = record { folders = s.folders; names = names_of (mailbox_of s) }

-- a message lies in new or cur of a folder that is there, and has a message's name, with its unique name
pub record IsMessage (folders : ℕ) (u : List ℕ) (message : Listed) : Type 0 where
  pub folder : message.folder < folders
  pub place : is_tmp message.place ≡ false
  pub name : is_message_name message.name ≡ true
  pub unique : unique_of message.name ≡ u

-- names of which each is a message's
abbrev pub AreMessages : Named → Type 0
AreMessages n = (u : List ℕ) (message : Listed) → finmap.get n.names u ≡ Some message → IsMessage n.folders u message

-- new or cur of a folder that is there
abbrev pub is_listed : Named → ℕ → Place → Bool
is_listed n folder place = nat_lt folder n.folders && not (is_tmp place)

-- whether a message has this name in this directory
abbrev pub has_name : ℕ → Place → List ℕ → Listed → Bool
has_name folder place name message =
    message.folder == folder && place_index message.place == place_index place && pointwise nat_eq message.name name

-- whether a message with this name is there, in this directory
abbrev pub is_there : Named → ℕ → Place → List ℕ → Bool
is_there n folder place name = option_map_or (has_name folder place name) (finmap.get n.names (unique_of name)) false

-- a name that a message may get: no other message has its unique name
abbrev pub is_free : Names → List ℕ → Bool
is_free names name = is_message_name name && not (is_some (finmap.get names (unique_of name)))

-- Whether a change fits the names: its directories are new or cur of folders that are there, the old name is there, and the new name is
-- a message's whose unique name no other message has.
abbrev pub fits : Named → Change → Bool
fits n (Add folder place name size) = is_listed n folder place && is_free n.names name
fits n (Rename folder place name to_folder to_place to_name) =
    is_listed n folder place && is_listed n to_folder to_place && is_there n folder place name
    && is_free (finmap.remove n.names (unique_of name)) to_name
fits n (Remove folder place name) = is_listed n folder place && is_there n folder place name
fits n Same = true

-- the names after a change, or the same names where it doesn't fit
abbrev pub after_change : Named → Change → Named
after_change n change = if fits n change then record n { names = names_after_change n.names change } else n
