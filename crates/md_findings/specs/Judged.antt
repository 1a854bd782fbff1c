-- Logs of stories in which our jobs are beside other programs, and what it means that a judge finds nothing in one.
use Rattle.std.specs.Prelude.{ℕ, suc, ◌≡◌, List, Some, Contains, slice_get}
use Rattle.md_jobs.specs.declared.call.Call.{Call}
use Rattle.md_core.specs.Trace.{call_at}
use Rattle.md_log.specs.declared.clause.Clause.{Clause}
use Rattle.md_log.specs.declared.line.Step.{Step as Line}
use Rattle.md_law.specs.History.{now}
use Rattle.md_beside.specs.Story.{Story, Step, another, step_at, state, step_seen, without_bytes}
use Rattle.md_beside.specs.Beside.{IsStory, IsAtWork, AreOurs}
use Rattle.md_beside.specs.Jobs.{AreNear}
use Rattle.md_beside.specs.Relied.{relied, KeepsAll}
use Rattle.md_judge.specs.declared.log.Finding.{Finding}
use Rattle.md_judge.specs.Logs.{Log, Numbered}
use Rattle.md_judge.specs.Orders.{AreFoundInOrder}
use Rattle.md_judge.specs.Verdict.{history, IsAllowed, IsAmong}

-- Line k of a log tells step k of a story: its actor and its call with the reply, and the log's clock comes to that of the step.
pub record Tells (l : Log) (t : Story) (k : ℕ) (x : Step) : Type 0 where
  pub line : Numbered
  pub at : slice_get l.steps k ≡ Some line
  pub actor : line.step.actor ≡ (step_seen t.actor (state t k) x).actor
  pub call : line.step.call ≡ (step_seen t.actor (state t k) x).call
  pub clock : now (history l (suc k)) ≡ x.at.clock

-- The log is of the story: it begins with the same directories, though it says nothing of bytes, and tells each step in turn.
pub record IsLogOf (l : Log) (t : Story) : Type 0 where
  pub opening : l.opening ≡ without_bytes t.image
  pub steps : (k : ℕ) (x : Step) → step_at t k ≡ Some x → Tells l t k x

-- The clause is judged, and nothing is found against it at the line of a step of another program, where the steps of the log took effect in
-- this order.
abbrev pub IsClear : Log → List ℕ → List Finding → Story → Clause → Type 0
IsClear l order findings t b = (IsAllowed l b → ⊥)
    × ((k i number : ℕ) (x : Step) (line : Line) (actor : List ℕ) → step_at t k ≡ Some x → x.who ≡ another actor
    → slice_get order k ≡ Some i → slice_get l.steps i ≡ Some (record { number = number; step = line }) → IsAmong findings number b → ⊥)

-- In a story whose names are ours and whose clocks are near, each job keeps all that it promises, if a judge of its log finds nothing, in
-- the steps of other programs, against the clauses that the calls of our jobs rely on. Where calls overlap, the story is that of the order
-- in which the judge has found them to take effect.
abbrev pub ClearLogsSuffice : Type 0
ClearLogsSuffice = (t : Story) (l : Log) (findings : List Finding) (found : AreFoundInOrder l findings)
    → IsStory t → AreOurs t → AreNear t → IsLogOf found.log t
    → ((job : ℕ) (c : Call) (b : Clause) → call_at t.calls job ≡ Some c → IsAtWork t job → Contains (relied c) b
    → IsClear l found.order findings t b)
    → (job : ℕ) (c : Call) → call_at t.calls job ≡ Some c → IsAtWork t job → KeepsAll t job c
