-- What holds of every run, by its machine. The interleaving theorem says it of the trace of the run, without a machine.
use Rattle.std.specs.Prelude.{ℕ, ◌≡◌, ◌≢◌, ◌+◌, ◌≤◌, ◌<◌, ◌∷◌, ◌⊎◌, ◌==◌, List, [], Some, Bool, true, false, length, slice_get, is_some, count_by}
use Rattle.std.specs.FinMap as finmap
use Rattle.md_core.proofs.Values.{IsSound, file_at, Call, Answer, Effect, Task, Path, Entry, mailbox_of, is_tmp, is_message, HasOnePath, names_of, names_after, IsLegal, Step, call_at, Run, machine_at, dirs_of, done_at, jobs_of, effects_of, box_in, dirs_at_first, Stage, Linked, Simulates, effects_by, is_success, NoneOverwritten, IsDeliveryOf, IsCopyTo, most_over}
use Rattle.md_core.specs.Machine.{Standing, working, answered, job_at, steps_left}
use Rattle.md_core.specs.Tasks.Task as task

-- event k was done, and simulates its call
pub record Happened (r : Run) (k : ℕ) : Type 0 where
  pub what : Step
  pub at : done_at r k ≡ Some what
  pub call : Call
  pub of : call_at r.calls what.job ≡ Some call
  pub simulates : Simulates call what (machine_at r k) (machine_at r (k + 1))

-- an event before moment k was the effect of a copy to the name, whose message had these bytes then
pub record IsCopied (r : Run) (k : ℕ) (u bytes : List ℕ) : Type 0 where
  pub event : ℕ
  pub before : event < k
  pub what : Step
  pub at : done_at r event ≡ Some what
  pub is_effect : is_some what.effect ≡ true
  pub call : Call
  pub of : call_at r.calls what.job ≡ Some call
  pub unique : List ℕ
  pub copies : IsCopyTo unique u call
  pub source : Entry
  pub had : finmap.get (box_in (machine_at r event)) unique ≡ Some source
  pub same : source.bytes ≡ bytes

-- The bytes are whole at moment k: the body of the delivery of the name, or what the message had at the beginning, or what the message
-- had that was copied to the name.
abbrev pub IsWhole : Run → ℕ → List ℕ → List ℕ → Type 0
IsWhole r k u bytes =
    ((i : ℕ) × (call : Call) × (slice_get r.calls i ≡ Some call) × IsDeliveryOf u bytes call)
    ⊎ (((e : Entry) × (finmap.get (mailbox_of r.image) u ≡ Some e) × (e.bytes ≡ bytes)) ⊎ IsCopied r k u bytes)

-- what is safe at moment k
pub record IsSafe (r : Run) (k : ℕ) : Type 0 where
  pub sound : IsSound (machine_at r k).dirs
  pub one_path : HasOnePath (machine_at r k).dirs
  pub whole : (u : List ℕ) (e : Entry) → finmap.get (box_in (machine_at r k)) u ≡ Some e → IsWhole r k u e.bytes
  -- names in new and cur that are no messages stay as they were
  pub others : (p : Path) → is_tmp p.place ≡ false → is_message p ≡ false → file_at (machine_at r k).dirs p ≡ file_at r.image p

abbrev pub is_linked : Stage → Bool
is_linked Linked = true
is_linked stage = false

-- a delivery past its link
abbrev pub is_past_link : Task → Bool
is_past_link (task.Deliver d) = is_linked d.stage
is_past_link other = false

-- how many steps a job has taken
abbrev pub steps_of : Run → ℕ → ℕ
steps_of r job = count_by (λ e. e.event.job == job) r.events

abbrev pub most_steps : Run → ℕ → Call → ℕ
most_steps r job call = most_over (dirs_at_first r job) call

-- What is promised of each job and its call, by how the job stands.
pub record JobLaw (r : Run) (number : ℕ) (call : Call) (job : Standing) : Type 0 where
  pub once : length (effects_by r number) ≤ 1
  pub success : (a : Answer) → job ≡ answered a → is_success a ≡ true → (e : Effect) × (effects_by r number ≡ e ∷ []) × (e.answer ≡ a)
  pub failure : (a : Answer) → job ≡ answered a → is_success a ≡ false → effects_by r number ≡ []
  pub unanswered : (t : Task) → job ≡ working t → effects_by r number ≢ [] → is_past_link t ≡ true
  -- the steps that it has taken, and those that it may still take, are together no more than its call takes
  pub bounded : steps_of r number + steps_left (dirs_of r) (Some job) ≤ most_steps r number call
  -- given that many steps it has its answer, whatever the replies were
  pub ends : most_steps r number call ≤ steps_of r number → (a : Answer) × (job ≡ answered a)

-- What holds of every run, by the machine at each of its moments.
pub record RunLaw (r : Run) : Type 0 where
  pub happened : (k : ℕ) → k < length r.events → Happened r k
  pub none_overwritten : (k : ℕ) → NoneOverwritten (machine_at r k).dirs (machine_at r (k + 1)).dirs
  pub safe : (k : ℕ) → IsSafe r k
  pub legal : IsLegal r.image.folders (names_of (mailbox_of r.image)) (effects_of r)
  -- the history gives the names of the mailbox at every moment
  pub names : (k : ℕ) → names_after (names_of (mailbox_of r.image)) (machine_at r k).effects ≡ names_of (box_in (machine_at r k))
  pub jobs : (number : ℕ) (call : Call) (job : Standing) → call_at r.calls number ≡ Some call → job_at (jobs_of r) number ≡ Some job
      → JobLaw r number call job
