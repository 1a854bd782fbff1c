-- What each seat at the table of what is published knows, and the rule that keeps it true.
use Rattle.std.specs.Prelude.{◌≡◌, ◌⊎◌, ℕ, true, false, List, [], ◌∷◌, ◌++◌}
use Rattle.std.specs.FinMap as finmap
use mathlib.Core.Option.{some}
use mathlib.Core.List.{IsPrefix}
use lib.ListN.{get_elem?}
use Rattle.logbook.specs.Pages.{Book}
use Rattle.md_jobs.specs.declared.effect.Effect.{Effect}
use Rattle.md_view.specs.Named.{Named, AreMessages, after_change}
use Rattle.md_store.specs.Listing.{named_after, IsLegalFrom}
use Rattle.md_store.specs.Pages.{Page, Note}
use Rattle.md_store.specs.declared.rule.Knowledge.{Knowledge}

-- the book of no store
abbrev pub no_book : Book
no_book = record { number = 0; log_name = 0; cells_name = 0 }

-- the names of no store
abbrev pub no_names : Named
no_names = record { folders = 0; names = finmap.empty }

-- a seat that knows nothing
abbrev pub newcomer : Knowledge
newcomer = record { opened = false; opening = no_names; held = record { book = no_book; log = [] } }

-- a seat that knows the opening names and this page
abbrev pub knower : Named → Page → Knowledge
knower opening p = record { opened = true; opening = opening; held = p.front }

-- what a seat knows is so: a beginning of the published history; and, if it was told of its store, the opening names and the book
abbrev pub IsTrueOf : Named → Page → Knowledge → Type 0
IsTrueOf opening p v = (v.opened ≡ true → (v.opening ≡ opening) × (v.held.book ≡ p.front.book)) × IsPrefix v.held.log p.front.log

-- the published history is legal, and leads from the opening names to the published ones; both are names of messages
pub record Leads (opening : Named) (p : Page) : Type 0 where
  pub legal : IsLegalFrom opening p.front.log
  pub names : named_after opening p.front.log ≡ p.names
  pub opening_messages : AreMessages opening
  pub messages : AreMessages p.names

-- The rule: there are opening names from which the published history leads, and what each seat knows is so.
abbrev pub Kept : Page → List Knowledge → Type 0
Kept p views = (opening : Named) × Leads opening p × ((j : ℕ) (v : Knowledge) → get_elem? views j ≡ some v → IsTrueOf opening p v)

-- what a seat with the view v learns where the page y is published or entered: w, which is all of the page. It begins with what v held
abbrev pub Learns : Knowledge → Page → Page → Knowledge → Type 0
Learns v x y w = (opening : Named) × (w ≡ knower opening y) × IsTrueOf opening y v × Leads opening y

-- the page after a note
abbrev pub page_after : Page → Note → Page
page_after p n = record { front = n.front; names = after_change p.names n.effect.change }

-- the note adds one effect to the page, and the history stays legal
abbrev pub CanFollow : Named → Page → Note → Type 0
CanFollow opening p n = (n.front.book ≡ p.front.book) × (n.front.log ≡ p.front.log ++ n.effect ∷ []) × IsLegalFrom opening n.front.log

-- one note waits, and after it the published history is this one
abbrev pub WaitsFor : List Effect → Named → Page → List Note → Type 0
WaitsFor effects opening p pending = (n : Note) × (pending ≡ n ∷ []) × CanFollow opening p n × (n.front.log ≡ effects)

-- nothing waits, or the writer knows the opening names and one note waits that can follow
abbrev pub MayPublish : Knowledge → Page → List Note → Type 0
MayPublish v p pending = (pending ≡ []) ⊎ ((n : Note) × (pending ≡ n ∷ []) × (v.opened ≡ true) × CanFollow v.opening p n)

-- the writer, which had the view v, knows the page, and the opening names that it knew
abbrev pub Publishes : Knowledge → Page → Knowledge → Type 0
Publishes v y w = (opening : Named) × (w ≡ knower opening y) × (v.opened ≡ true → v.opening ≡ opening) × Leads opening y

-- the seat knows which store it is of
abbrev pub IsOf : Named → Book → Knowledge → Type 0
IsOf opening book v = (v.opened ≡ true) × (v.opening ≡ opening) × (v.held.book ≡ book)
