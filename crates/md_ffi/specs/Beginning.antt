-- How a driven job begins: the call that is asked, and what is checked of it.
use Rattle.std.specs.Prelude.{ℕ, ◌≡◌, ◌⊎◌, ◌==◌, List, Option, Some, None, Result, Ok, Err, not, if◌then◌else◌}
use Rattle.md_name.specs.Names.{is_unique_name}
use Rattle.md_jobs.specs.declared.call.Call.{Call}
use Rattle.md_jobs.specs.declared.call.Call.TheVariants.{Deliver, Seen, Flag, Move, Expunge, Copy, Clean}
use Rattle.md_jobs.specs.declared.error.CoreError.{CoreError}
use Rattle.md_jobs.specs.declared.error.CoreError.TheVariants.{BadUnique, BadTries, BadChunk, SameFolder}
use Rattle.md_core.specs.Submitting.{bad_tries}
use Rattle.md_script.specs.Kinds.{core_kind}
use Rattle.md_text.specs.Bind.{◌>>=◌}
use Rattle.md_ffi.specs.Asking.{call_at, unless}
use Rattle.md_driven.specs.Driving.{Driving, driving_of}
use Rattle.md_driven.specs.Numbers.{refusal_number}
use Rattle.md_ffi.specs.declared.asked.Asked.{Asked}
use Rattle.md_driven.specs.declared.refusal.Refusal.{Refusal}

-- why a call is refused that looks for one message: its unique name, or its tries
abbrev pub look_up_refusal : List ℕ → ℕ → Option CoreError
look_up_refusal unique tries =
    if not (is_unique_name unique) then Some BadUnique else if bad_tries tries then Some BadTries else None

-- why a delivery is refused: its unique name, or its pieces
abbrev pub delivery_refusal : List ℕ → ℕ → Option CoreError
delivery_refusal unique chunk = if not (is_unique_name unique) then Some BadUnique else if chunk == 0 then Some BadChunk else None

-- Why a call is refused whose directory calls its caller makes: as a world refuses it, but for its folders, the length of its body, how
-- many jobs are there and which names are used, of which the caller alone knows.
abbrev pub alone_refusal : Call → Option CoreError
alone_refusal (Deliver folder unique body chunk) = delivery_refusal unique chunk
alone_refusal (Seen folder unique flags tries) = look_up_refusal unique tries
alone_refusal (Flag folder unique add remove tries) = look_up_refusal unique tries
alone_refusal (Move folder unique to tries) = if to == folder then Some SameFolder else look_up_refusal unique tries
alone_refusal (Expunge folder unique tries) = look_up_refusal unique tries
alone_refusal (Copy folder unique to fresh tries) =
    if not (is_unique_name fresh) then Some BadUnique else look_up_refusal unique tries
alone_refusal (Clean folder) = None

-- the job of the call that is asked, or why there is none
unfoldable pub begun : Asked → List ℕ → List ℕ → List ℕ → Result Driving Refusal
begun asked unique first second =
    call_at asked unique first second >>= (λ call. unless core_kind (alone_refusal call) (driving_of call))

-- a job began and is held, or was refused and nothing is
abbrev pub BeginsOr : Result Driving Refusal → Option Driving → ℕ → Type 0
BeginsOr (Ok driving) held status = (held ≡ Some driving) × (status ≡ 0)
BeginsOr (Err refusal) held status = (held ≡ None) × (status ≡ refusal_number refusal)

-- the same, or memory ran out
abbrev pub Begins : Result Driving Refusal → Option Driving → ℕ → Type 0
Begins said held status = BeginsOr said held status ⊎ ((held ≡ None) × (status ≡ 4))
