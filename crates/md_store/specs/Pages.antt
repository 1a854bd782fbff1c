-- What is published, and what is to be published next.
use Rattle.std.specs.Prelude.{List, []}
use Rattle.logbook.specs.Pages.{Book}
use Rattle.md_jobs.specs.declared.effect.Effect.{Effect}
use Rattle.md_core.specs.Runs.{Run}
use Rattle.md_view.specs.Named.{Named}

-- a beginning of the history of a book
pub record Log : Type 0 where
  pub book : Book
  pub log : List Effect

-- a beginning of the run of a book
pub record Course : Type 0 where
  pub book : Book
  pub run : Run

-- what a pass holds: the effects that it has seen or was told of, and the run of its store as far as it was told of that
pub record Held : Type 0 where
  pub history : List Effect
  pub run : Run

-- what a pass of a store that is opened holds
abbrev pub new_to : Run → Held
new_to begun = record { history = []; run = begun }

-- the names that are published, and the history that led to them
pub record Page : Type 0 where
  pub front : Log
  pub names : Named

-- an effect that is to be published, and the history that ends with it
pub record Note : Type 0 where
  pub effect : Effect
  pub front : Log
