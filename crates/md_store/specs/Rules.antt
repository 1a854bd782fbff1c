-- The book of a store's run: its entries, the rule that it keeps, and what each exchange at its head tells.
use Rattle.std.specs.Prelude.{ℕ, ◌≡◌, ◌≢◌, ◌<◌, true, List, [], ◌∷◌, ◌++◌, length}
use Rattle.logbook.specs.Pages.{Cell, Step, View, Book, Named, Nib, cell, may_write, may_make}
use Rattle.md_core.specs.Runs.{Run}
use Rattle.md_store.specs.Ongoing.{GoesOn, no_run}
use Rattle.md_store.specs.declared.book.Entered.{Entered}

-- the head of a book
abbrev pub head_of : Book → Named
head_of book = record { tracked = true; key = 0; book = book }

-- the run of the last entry, or this one where there is none
abbrev pub last_run : Run → List Entered → Run
last_run run [] = run
last_run run (e ∷ es) = last_run e.world es

-- the run that entries have come to
abbrev pub run_in : List Entered → Run
run_in entries = last_run no_run entries

-- each run goes on from the one before it; the first from this one
abbrev pub AreInOrder : Run → List Entered → Type 0
AreInOrder run [] = Unit {0}
AreInOrder run (e ∷ es) = GoesOn run e.world × AreInOrder e.world es

-- an entry that is never made
abbrev pub no_entry : Entered
no_entry = record { world = no_run; by = 0; next = 0 }

-- the pen of the first entry that is made behind the opening: its cell is the first after the head
abbrev pub first_pen : ℕ
first_pen = 1

-- what a book opens with: the run so far, as an entry of the head's own cell
abbrev pub opening_entries : Run → List Entered
opening_entries run = record { world = run; by = 0; next = first_pen } ∷ []

-- the pen that makes the next entry, where that after no entry is this one
abbrev pub next_from : ℕ → List Entered → ℕ
next_from pen [] = pen
next_from pen (e ∷ es) = next_from e.next es

-- each entry was made by the pen that the one before it names; the first by this one
abbrev pub Follows : ℕ → List Entered → Type 0
Follows pen [] = Unit {0}
Follows pen (e ∷ es) = (e.by ≡ pen) × Follows e.next es

-- the pens that made the entries are used up: the book holds their cells
abbrev pub AreUsed : List Cell → List Entered → Type 0
AreUsed cells [] = Unit {0}
AreUsed cells (e ∷ es) = ((e.by < length cells) × ((cell cells e.by).1 ≡ true)) × AreUsed cells es

-- this pen made none of the entries
abbrev pub MadeNone : ℕ → List Entered → Type 0
MadeNone pen [] = Unit {0}
MadeNone pen (e ∷ es) = (e.by ≢ pen) × MadeNone pen es

-- The first cell is the head. While it holds 0, no pen was made yet. The entries' runs go on one from another.
pub record IsChained (cells : List Cell) (entries : List Entered) : Type 0 where
  pub head : ℕ
  pub others : List Cell
  pub cells_are : cells ≡ (head, true) ∷ others
  pub none_yet : head ≡ 0 → length cells ≡ first_pen
  pub follows : Follows 0 entries
  pub used : AreUsed cells entries
  pub start : Run
  pub order : AreInOrder start entries

-- the pen may make an entry
abbrev pub MayEnter : Nib → Type 0
MayEnter n = n.right ≡ may_write

-- a step made a pen: the first one, where the head held 0
abbrev pub MakesPen : Step Entered → View Entered ℕ → ℕ → View Entered ℕ → Type 0
MakesPen step before found after = (after.1.0.right ≡ may_make) × (found ≡ 0 → after.1.0.key ≡ first_pen)

-- a step made the entry that was asked for, behind all that was seen; that was all, since the pen that it had made none of it
abbrev pub AddsEntry : Step Entered → View Entered ℕ → ℕ → View Entered ℕ → Type 0
AddsEntry step before found after = (after.0 ≡ before.0 ++ step.ask ∷ []) × Follows 0 before.0 × MadeNone before.1.0.key before.0
