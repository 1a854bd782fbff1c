-- What the words of `judge` ask for.
use Rattle.std.specs.Prelude.{ℕ, Bool, false, not, ◌≡◌, ◌⊎◌, ◌&&◌, ◌==◌, nat_le, List, [], ◌∷◌, map, slice_get, Option, None, Some, option_map, if◌then◌else◌, codes}
use Rattle.std.specs.Borrow.{Bor}
use Rattle.std.specs.List.{find, list_any}
use Rattle.std.specs.Option.{unwrap_or}
use Rattle.std.specs.Str.{bytes_eq}
use Rattle.clap.specs.declared.parser.matches.Found.{Found}
use Rattle.clap.specs.Words.{matched_of, one_text}
use Rattle.clap.specs.Matches.{raw_values}
use Rattle.md_log.specs.declared.clause.Clause.{Clause}
use Rattle.md_log.specs.declared.clause.Clause.TheVariants as clause
use Rattle.md_log.specs.Texts.{clause_index, clause_named}
use Rattle.md_command.specs.declared.mistake.Mistake.{Mistake}
use Rattle.md_command.specs.declared.mistake.Mistake.TheVariants as mistake
use Rattle.md_command.specs.declared.trouble.Trouble.TheVariants.{BadClause}
use Rattle.md_judge.specs.declared.grade.Grade.{Grade}
use Rattle.md_judge.specs.declared.grade.Grade.TheVariants as grade
use Rattle.md_judge.specs.Grades.{grade_text, rank}
use Rattle.md_findings.specs.declared.words.Form.{Form}
use Rattle.md_findings.specs.declared.words.Form.TheVariants as form
use Rattle.md_findings.specs.declared.words.Rules.{Rules}
use Rattle.md_findings.specs.declared.words.Rules.TheVariants as rules

-- ---- what is judged

-- the first where a log is judged by the law, and the second where it is by what is owed
abbrev pub by_rules : {X : Type 0} → X → X → Rules → X
by_rules law owed (rules.Law s) = law
by_rules law owed (rules.Owed o) = owed

-- a clause is among these
abbrev pub is_among : Clause → List Clause → Bool
is_among c clauses = list_any (λ one. clause_index one == clause_index c) clauses

-- an actor has one of these names
abbrev pub is_one_of : List ℕ → List (Bor (List ℕ)) → Bool
is_one_of actor names = list_any (λ name. bytes_eq name.now actor) names

-- a finding of a clause and of a grade, in a step of an actor, is to be shown: it costs as much as was asked, or the clause was asked for,
-- and the actor is none of ours
abbrev pub asks_for : Rules → Clause → Grade → List ℕ → Bool
asks_for (rules.Law s) c g actor = nat_le (rank g) (rank s.least)
asks_for (rules.Owed o) c g actor =
    is_among c o.clauses.now && not (is_one_of actor o.ours.items)

-- ---- what words name

-- the path of a log: `-` is standard input
abbrev pub path_in : Option (List ℕ) → Option (List ℕ)
path_in None = None
path_in (Some word) = if bytes_eq word (codes "-") then None else Some word

-- a clause of the law that need not be judged: each but one
abbrev pub unless_always : Option Clause → Option Clause
unless_always None = None
unless_always (Some clause.NotADirectory) = None
unless_always (Some c) = Some c

-- by its name
abbrev pub allowed_named : List ℕ → Option Clause
allowed_named name = unless_always (clause_named name)

-- Each name is that of its clause, in their order.
abbrev pub AreNamed : List (List ℕ) → List Clause → Type 0
AreNamed names clauses = map allowed_named names ≡ map (λ c. Some c) clauses

-- a word is refused: it is among these names, and is that of no clause; or memory was refused
abbrev pub IsUnnamed : List (Bor (List ℕ)) → Mistake → Type 0
IsUnnamed names (mistake.Wrong word trouble) =
    (trouble ≡ BadClause) × ((allowed_named word.now ≡ None) × ((k : ℕ) × (slice_get names k ≡ Some word)))
IsUnnamed names mistake.Unexpected = ⊥
IsUnnamed names mistake.NoMemory = Unit {0}

-- the grade of a name
unfoldable pub grade_named : List ℕ → Option Grade
grade_named name = find (λ g. bytes_eq (grade_text g) name) (grade.Lost ∷ grade.Misled ∷ grade.Owed ∷ grade.Custom ∷ [])

-- the least grade of the findings that are shown: that of a name, or the last
abbrev pub least_named : Option (List ℕ) → Option Grade
least_named None = Some grade.Custom
least_named (Some name) = grade_named name

-- the words of an id, of all its uses
abbrev pub words_of : Found → List ℕ → List (List ℕ)
words_of f id = unwrap_or (option_map raw_values (matched_of f id)) []

-- ---- how findings are printed

-- what was read of a flag: nothing, or whether it was given
abbrev pub IsFlag : Option (List ℕ) → Type 0
IsFlag text = (text ≡ None) ⊎ ((text ≡ Some (codes "true")) ⊎ (text ≡ Some (codes "false")))

-- it was given
abbrev pub is_given : Option (List ℕ) → Bool
is_given None = false
is_given (Some text) = bytes_eq text (codes "true")

-- the form that the first of the flags asks for that was given
abbrev pub form_in : Found → Form
form_in f =
    if is_given (one_text f (codes "lines")) then form.Lines
    else (if is_given (one_text f (codes "json")) then form.Json
    else (if is_given (one_text f (codes "summary")) then form.Summary else form.People))

-- each of them is a flag
pub record HasForms (f : Found) : Type 0 where
  pub lines : IsFlag (one_text f (codes "lines"))
  pub json : IsFlag (one_text f (codes "json"))
  pub summary : IsFlag (one_text f (codes "summary"))
