-- What `index` writes of a script, and where it is refused.
use Rattle.std.specs.Prelude.{◌≡◌, ◌⊎◌, ℕ, List, Result, Ok, Err}
use Rattle.md_head.specs.Summaries.{summary_of}
use Rattle.md_core.specs.Mailbox.{Mailbox}
use Rattle.md_listing.specs.declared.entry.Entry.{Entry}
use Rattle.md_index.specs.declared.item.Indexed.{Indexed}
use Rattle.md_script.specs.declared.error.PlayError.{PlayError}
use Rattle.md_script.specs.Play.{Stops}
use Rattle.md_script.specs.Reading.{IsReadWhole}
use Rattle.md_script.specs.Sinks.{Sink, Took, Untouched}
use Rattle.md_script.specs.Sources.{Source}
use Rattle.md_script.specs.Indexing.{bytes_in, index_of_script, indexed_text}

-- a message of a listing, with the one summary of its bytes
abbrev pub indexed_in : Mailbox → Entry → Indexed
indexed_in m e = record { unique = e.unique; summary = summary_of (bytes_in m e.unique) }

-- the lines of a message of a folder of this name
abbrev pub made_text : List ℕ → Indexed → List ℕ
made_text name made = indexed_text name made.unique made.summary

-- A whole script was read, and a text written that is so of it.
pub record Wrote (is_so : List ℕ → List ℕ → Type 0) (old new : Source) (before after : Sink) : Type 0 where
  pub script : List ℕ
  pub text : List ℕ
  pub whole : IsReadWhole old new script
  pub is : is_so script text
  pub written : Took before after text

-- A whole script was read that is so, and nothing was written.
pub record Withheld (is_so : List ℕ → Type 0) (old new : Source) (before after : Sink) : Type 0 where
  pub script : List ℕ
  pub whole : IsReadWhole old new script
  pub is : is_so script
  pub unwritten : Untouched before after

-- A whole script that is so is refused, and nothing was written; or no line is to blame. Lines are numbered from 1, so that the line 0 is
-- none.
abbrev pub Refuses : (List ℕ → Type 0) → Source → Source → Sink → Sink → PlayError → Type 0
Refuses is_so old new before after e = Withheld is_so old new before after ⊎ ((e.line ≡ 0) × Stops old new before after e.kind)

-- the answer of `index`
abbrev pub Indexes : Source → Source → Sink → Sink → Result (Unit {0}) PlayError → Type 0
Indexes old new before after (Ok done) = Wrote (λ script text. index_of_script script ≡ Ok text) old new before after
Indexes old new before after (Err e) = Refuses (λ script. index_of_script script ≡ Err e) old new before after e
