-- How far a look at all names of directories has come.
use Rattle.std.specs.Prelude.{ℕ, ◌≡◌, ◌==◌, nat_lt, Bool, ◌&&◌, ◌||◌, List, [], filter, None}
use Rattle.std.specs.List.{list_any}
use Rattle.std.specs.FinMap as finmap
use Rattle.md_dirs.specs.Path.{place_index}
use Rattle.md_dirs.specs.State.{State}
use Rattle.md_dirs.specs.declared.paths.Path.{Path}
use Rattle.md_used.specs.declared.seen.Seen.{Seen}
use Rattle.md_used.specs.Loading.{first_fault}
use Rattle.md_used.specs.Seen.{is_message_of, is_tmp_of}
use Rattle.md_core.specs.Runs.{clock_by}
use Rattle.md_used.specs.Used.{is_among}

-- What was seen of some entries, none of which has a fault: the unique names of messages, the names in tmp, and the greatest stamp.
pub record IsLookOf (s : State) (es : List (Path × ℕ)) (seen : Seen) : Type 0 where
  pub messages : (u : List ℕ) → is_among u seen.messages ≡ list_any (λ e. is_message_of u e.0) es
  pub tmp : (u : List ℕ) → is_among u seen.tmp ≡ list_any (λ e. is_tmp_of u e.0) es
  pub clock : seen.clock ≡ clock_by s es
  pub faultless : first_fault [] es ≡ None

-- whether a path comes before a directory: the places of a folder are numbered from 0
abbrev pub is_before : ℕ → ℕ → Path → Bool
is_before folder place p = nat_lt p.folder folder || (p.folder == folder && nat_lt (place_index p.place) place)

-- the entries before a directory
abbrev pub entries_before : State → ℕ → ℕ → List (Path × ℕ)
entries_before s folder place = filter (λ e. is_before folder place e.0) (finmap.entries s.names)
