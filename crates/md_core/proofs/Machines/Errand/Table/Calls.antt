-- The kinds of calls: a delivery, the call of an errand of some purpose, and a clean.
use Rattle.std.proofs.Common.{ℕ, ◌≡◌, ◌≢◌, List, [], true, refl, sym, ap, subst}
use Rattle.md_core.proofs.Values.{Call, Deliver, Errand, Clean, Task, is_unique_name, Standing, working, answered, new_job, new_cleaning, new_delivery, new_errand, Purpose}
use Rattle.md_jobs.specs.declared.call.Call.TheVariants as call
use Rattle.md_jobs.specs.Tasks.Errand as errand
use Rattle.md_jobs.specs.Tasks.Errand.{Stage}
use Rattle.md_jobs.specs.declared.purpose.Purpose.TheVariants.{Seen, Flag, Move, Copy, Expunge}
use Rattle.md_jobs.specs.Tasks.Cleaning.{Cleaning, Look}

-- the call of an errand
abbrev pub call_by : ℕ → List ℕ → Purpose → ℕ → Call
call_by folder unique (Seen given) tries = call.Seen folder unique given tries
call_by folder unique (Flag add remove) tries = call.Flag folder unique add remove tries
call_by folder unique (Move to) tries = call.Move folder unique to tries
call_by folder unique (Copy to fresh) tries = call.Copy folder unique to fresh tries
call_by folder unique Expunge tries = call.Expunge folder unique tries

-- an errand at a stage
abbrev pub on : ℕ → List ℕ → Purpose → Stage → errand.Errand
on folder u p stage = record { folder = folder; unique = u; purpose = p; stage = stage }

-- the folder that the message is in then
abbrev pub folder_to : ℕ → Purpose → ℕ
folder_to folder (Move to) = to
folder_to folder (Copy to fresh) = to
folder_to folder other = folder

-- what the call of a purpose was accepted with: a move goes to another folder, and the fresh name of a copy is one
abbrev pub IsFor : ℕ → Purpose → Type 0
IsFor folder (Move to) = folder ≢ to
IsFor folder (Copy to fresh) = is_unique_name fresh ≡ true
IsFor folder other = Unit {0}

-- the unique name of the message that a call looks for
abbrev pub sought : Call → List ℕ
sought (call.Deliver folder u body chunk) = u
sought (call.Seen folder u given tries) = u
sought (call.Flag folder u add remove tries) = u
sought (call.Move folder u to tries) = u
sought (call.Copy folder u to fresh tries) = u
sought (call.Expunge folder u tries) = u
sought (call.Clean folder) = []

pub sought-by : (p : Purpose) (folder : ℕ) (u : List ℕ) (tries : ℕ) → sought (call_by folder u p tries) ≡ u
sought-by (Seen given) folder u tries = refl
sought-by other folder u tries = refl

-- the tries that a call has
abbrev pub tries_in : Call → ℕ
tries_in (call.Deliver folder u body chunk) = 0
tries_in (call.Seen folder u given tries) = tries
tries_in (call.Flag folder u add remove tries) = tries
tries_in (call.Move folder u to tries) = tries
tries_in (call.Copy folder u to fresh tries) = tries
tries_in (call.Expunge folder u tries) = tries
tries_in (call.Clean folder) = 0

-- Each call begins as a delivery, as an errand or as a clean: what is so of these is so of each call.
pub each-new : (P : Call → Standing → Type 0) →
    ((folder : ℕ) (u body : List ℕ) (chunk : ℕ) → P (call.Deliver folder u body chunk) (working (Deliver (new_delivery folder u body chunk)))) →
    ((folder : ℕ) (u : List ℕ) (p : Purpose) (tries : ℕ) → P (call_by folder u p tries) (working (Errand (new_errand folder u p tries)))) →
    ((folder : ℕ) → P (call.Clean folder) (working (Clean (new_cleaning folder)))) → (c : Call) → P c (new_job c)
each-new P delivers errand cleans (call.Deliver folder u body chunk) = delivers folder u body chunk
each-new P delivers errand cleans (call.Seen folder u given tries) = errand folder u (Seen given) tries
each-new P delivers errand cleans (call.Flag folder u add remove tries) = errand folder u (Flag add remove) tries
each-new P delivers errand cleans (call.Move folder u to tries) = errand folder u (Move to) tries
each-new P delivers errand cleans (call.Copy folder u to fresh tries) = errand folder u (Copy to fresh) tries
each-new P delivers errand cleans (call.Expunge folder u tries) = errand folder u Expunge tries
each-new P delivers errand cleans (call.Clean folder) = cleans folder

-- what a job's task has, where it works
abbrev pub IfWorking : (Task → Type 0) → Standing → Type 0
IfWorking P (working task) = P task
IfWorking P (answered a) = Unit {0}

-- what each new job's task has, the task of a new job has
pub new-task : (P : Task → Type 0) (c : Call) (task : Task) → IfWorking P (new_job c) → new_job c ≡ working task → P task
new-task P c task new is = subst (IfWorking P) is new

-- a new clean has not looked
pub new-looks : (x : Cleaning) (c : Call) → new_job c ≡ working (Clean x) → x.stage ≡ Look
new-looks x (call.Clean folder) is = let same : new_cleaning folder ≡ x = cc in ap (λ (y : Cleaning). y.stage) (sym same)
new-looks x c is = cc
