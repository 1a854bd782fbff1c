-- What a caller in C asks: the call that numbers and bytes spell.
use Rattle.std.specs.Prelude.{ℕ, ◌==◌, List, Option, Some, None, Result, Ok, Err, if◌then◌else◌}
use Rattle.std.specs.List.{list_all}
use Rattle.std.specs.FinSet as set
use Rattle.std.specs.Ordering.{nat_cmp}
use Rattle.md_name.specs.Letters.{is_letter}
use Rattle.md_name.specs.declared.error.NameError.TheVariants.{BadFlag}
use Rattle.md_jobs.specs.declared.call.Call.{Call}
use Rattle.md_jobs.specs.declared.call.Call.TheVariants as call
use Rattle.md_script.specs.declared.error.PlayKind.{PlayKind}
use Rattle.md_script.specs.declared.error.PlayKind.TheVariants.{Name}
use Rattle.md_text.specs.Bind.{◌>>=◌}
use Rattle.md_ffi.specs.declared.asked.Asked.{Asked}
use Rattle.md_ffi.specs.declared.asked.Own.{Own}
use Rattle.md_driven.specs.declared.refusal.Refusal.{Refusal}
use Rattle.md_driven.specs.declared.refusal.Refusal.TheVariants.{BadKind, Kind}

-- the moment by a job's own clock, where one is given
abbrev pub own_at : Own → Option ℕ
own_at own = if own.is_given == 0 then None else Some own.at

-- refused as this kind of error is, or done
abbrev pub unless : {E X : Type 0} → (E → PlayKind) → Option E → X → Result X Refusal
unless kind None x = Ok x
unless kind (Some error) x = Err (Kind (kind error))

-- the flags that letters name
abbrev pub flags_at : List ℕ → Result (set.FinSet nat_cmp) Refusal
flags_at letters = if list_all is_letter letters then Ok (set.from_list letters) else Err (Kind (Name BadFlag))

-- the call of a kind, 1 to 7, with a unique name and two more pieces of bytes
unfoldable pub call_at : Asked → List ℕ → List ℕ → List ℕ → Result Call Refusal
call_at a unique first second =
    if a.kind == 1 then Ok (call.Deliver a.folder unique first a.number)
    else if a.kind == 2 then flags_at first >>= (λ flags. Ok (call.Seen a.folder unique flags a.number))
    else if a.kind == 3 then flags_at first >>= (λ add.
    flags_at second >>= (λ remove. Ok (call.Flag a.folder unique add remove a.number)))
    else if a.kind == 4 then Ok (call.Move a.folder unique a.to a.number)
    else if a.kind == 5 then Ok (call.Expunge a.folder unique a.number)
    else if a.kind == 6 then Ok (call.Copy a.folder unique a.to first a.number)
    else if a.kind == 7 then Ok (call.Clean a.folder)
    else Err BadKind
