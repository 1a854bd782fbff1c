-- A line whose words are looked at one by one.
use Rattle.std.specs.Prelude.{ℕ, List, [], ◌∷◌, Option, None, Some}
use Rattle.md_text.specs.Words.{Rest, cut_at}
use Rattle.md_findings.specs.declared.blame.wanted.Wanted.{Wanted}
use Rattle.md_findings.specs.declared.blame.wanted.Wanted.TheVariants as wanted

-- the folder that a word names, as it spells it
abbrev pub folder_in : Wanted → List ℕ → Option (List ℕ)
folder_in wanted.Folder word = Some word
folder_in wanted.Path word = Some (cut_at 47 word).0
folder_in _ word = None

-- what the next word should be: none where the line should end, or ends where it may
abbrev pub next_wanted : Rest → List Wanted → Option Wanted
next_wanted rest [] = None
next_wanted None (wanted.Shown ∷ later) = None
next_wanted rest (w ∷ later) = Some w
