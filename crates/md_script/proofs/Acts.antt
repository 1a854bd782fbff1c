-- What commands on a store come to, from what the store answers.
use Rattle.std.proofs.Common.{ℕ, ◌≡◌, ◌+◌, ◌++◌, List, [], ◌∷◌, Option, Some, None, Bool, true, false, cond, is_some, Result, Ok, Err, refl, sym, ap, subst, ◌∙◌, length, arith}
use Rattle.std.specs.Prelude.{count_by}
use Rattle.std.specs.Option.{option_map}
use Rattle.std.specs.Result.{IsErrAnd}
use Rattle.std.proofs.lemmas.List.Sums.{sum_by-append}
use Rattle.md_jobs.specs.declared.error.CoreError.{CoreError}
use Rattle.md_jobs.specs.declared.error.CoreError.TheVariants as core
use Rattle.md_jobs.specs.declared.call.Call.{Call}
use Rattle.md_jobs.specs.declared.step.Event.{Event}
use Rattle.md_jobs.specs.declared.step.StepOut.{StepOut}
use Rattle.md_core.specs.Machine.{Occurrence, step_of, step_out}
use Rattle.md_core.specs.Runs.{Run, machine_of, failures_of, and_call, and_event, IsRefusal}
use Rattle.md_core.specs.Stepping.{ShowsStep}
use Rattle.md_core.specs.Submitting.{submit_refusal}
use Rattle.md_script.specs.declared.error.PlayKind.{PlayKind}
use Rattle.md_script.specs.declared.error.PlayKind.TheVariants.{Core}
use Rattle.md_script.specs.declared.verb.Mode.TheVariants.{Playing, SettingUp}
use Rattle.md_dirs.specs.declared.image.ImageFile.{ImageFile}
use Rattle.md_script.specs.Setups.{Setting, setting_line, set_up}
use Rattle.md_text.specs.Bind.{◌>>=◌}
use Rattle.md_script.specs.Commands.{Command, command_at}
use Rattle.md_script.specs.Words.{Gives}
use Rattle.md_script.specs.Step.{Steps}
use Rattle.md_script.specs.Kinds.{core_kind}
use Rattle.md_script.specs.Sessions.{unless_refused, submit_in, step_in, without_fault, event_refusal, step_text, Session, ScriptStore, obey, session_line}
use Rattle.md_script.specs.Observing.{IsTaken}
use Rattle.md_script.specs.Texts.{job_text, shown_text, out_text}

-- a refusal by the store is the line's, and want of memory is none
pub store_refuses : {S : Type 0} (o : Option CoreError) (done : S × List ℕ) (s : S) (text : List ℕ) (e : CoreError) → IsRefusal o e →
    Steps (unless_refused o done) s text text (Err (core_kind e))
store_refuses None done s text e is = λ some. absurd (some (ap core_kind is))
store_refuses {S = S} (Some refusal) done s text e is =
    subst (λ (x : CoreError). Steps {S = S} (Err (Core refusal)) s text text (Err (core_kind x))) (sym is) (by refusal)
  where
    by : (x : CoreError) → Steps {S = S} (Err (Core x)) s text text (Err (core_kind x))
    by core.NoMemory = λ some. absurd (some refl)
    by other = λ some. (refl, refl)

pub refuses : {S : Type 0} (o : Option CoreError) (done : S × List ℕ) (s : S) (text : List ℕ) (e : CoreError) (result : Result (Unit {0}) PlayKind) →
    IsRefusal o e → IsErrAnd result (λ kind. kind ≡ core_kind e) → Steps (unless_refused o done) s text text result
refuses o done s text e (Ok x) is from = absurd from
refuses o done s text e (Err kind) is from =
    subst (λ (x : PlayKind). Steps (unless_refused o done) s text text (Err x)) (sym from) (store_refuses o done s text e is)

-- what is not refused is done
pub is_done : {S : Type 0} (o : Option CoreError) (done : S × List ℕ) → o ≡ None → unless_refused o done ≡ Ok done
is_done o done is = ap (λ x. unless_refused x done) is

pub was_done : {S : Type 0} (o : Option CoreError) (done after : S × List ℕ) → unless_refused o done ≡ Ok after → (o ≡ None) × (done ≡ after)
was_done None done after is = (refl, cc)
was_done (Some e) done after is = cc

pub submitted-ok : (r r' : Run) (c : Call) (job : ℕ) → submit_refusal r c ≡ None → r' ≡ and_call r c → job ≡ length r.calls + 1 →
    submit_in r c ≡ Ok (r', job_text job)
unfolding submit_in
submitted-ok r r' c job accepted run number = is_done (submit_refusal r c) _ accepted ∙
    (let e : ◌≡◌ {A = Run × List ℕ} (and_call r c, job_text (length r.calls + 1)) (r', job_text job) = λ i.
    (sym run i, job_text (sym number i)) in ap Ok e)

-- directories that never fail leave no mark on the last event
pub unmarked : (earlier : ℕ) (es : List Occurrence) (e : Occurrence) → 0 ≡ earlier + count_by (λ (x : Occurrence). x.faulted) (es ++ e ∷ []) → e.faulted ≡ false
unmarked earlier es e none = by e.faulted (let split = sum_by-append (λ (x : Occurrence). cond {A = ℕ} x.faulted 1 0) es (e ∷ []) in omega (arith, split))
  where
    by : (b : Bool) → cond {A = ℕ} b 1 0 ≡ 0 → b ≡ false
    by true h = absurd (omega arith)
    by false h = refl

-- so a step is that of its event, and no fault
pub taken : (r r' : Run) (event : Event) (faulted : Bool) (out : StepOut) → event_refusal r event ≡ None →
    r' ≡ and_event r (record { event = event; faulted = faulted })
    → ShowsStep r r' (record { event = event; faulted = faulted }) out → 0 ≡ failures_of r' → IsTaken r r' event out
taken r r' event faulted out goes_on run shows none =
    let e : Occurrence = record { event = event; faulted = faulted } in
    let unmarked_is : faulted ≡ false = unmarked r.failures r.events e (none ∙ ap failures_of run) in
    let same : e ≡ without_fault event = λ i. record { event = event; faulted = unmarked_is i } in
    record {
      goes_on = goes_on;
      after_is = run ∙ ap (and_event r) same;
      shown = ap (λ (e : Occurrence). option_map step_out (step_of (machine_of r) e)) (sym same) ∙ ap (option_map step_out) shows.at ∙ ap Some (sym shows.shown);
    }

pub stepped-ok : (r r' : Run) (event : Event) (out : StepOut) → IsTaken r r' event out → step_in r event ≡ Ok (r', out_text event.job out)
unfolding step_in
stepped-ok r r' event out step =
    let text : step_text r event ≡ out_text event.job out = ap (shown_text event.job) step.shown in
    let after : and_event r (without_fault event) ≡ r' = sym step.after_is in
    is_done (event_refusal r event) _ step.goes_on ∙
    (let e : ◌≡◌ {A = Run × List ℕ} (and_event r (without_fault event), step_text r event) (r', out_text event.job out) = λ i.
    (after i, text i) in ap Ok e)

pub stepped-refused : (r : Run) (event : Event) (s : Run) (text : List ℕ) (e : CoreError) (kind : PlayKind) → IsRefusal (event_refusal r event) e →
    kind ≡ core_kind e → Steps (step_in r event) s text text (Err kind)
unfolding step_in
stepped-refused r event s text e kind is from = refuses (event_refusal r event) (and_event r (without_fault event), step_text r event) s text e (Err kind) is from

-- what a `?` passes on
pub passes : {S : Type 0} (step : Result (S × List ℕ) PlayKind) (s : S) (text text' : List ℕ) (kind : PlayKind)
    (result : Result (Unit {0}) PlayKind) → IsErrAnd result (λ other. other ≡ kind) → Steps step s text text' (Err kind) →
    Steps step s text text' result
passes step s text text' kind (Ok x) from is = absurd from
passes step s text text' kind (Err other) from is = subst (λ (x : PlayKind). Steps step s text text' (Err x)) (sym from) is

-- of two things, each done unless the store refuses it, the second is refused as the first
pub refused_too : {S T : Type 0} (o : Option CoreError) (done : S × List ℕ) (other : T × List ℕ) (s : S) (t : T) (text text' : List ℕ)
    (kind : PlayKind) → Steps (unless_refused o done) s text text' (Err kind) → Steps (unless_refused o other) t text text' (Err kind)
refused_too None done other s t text text' kind is = λ some. absurd (let no = (is some).0 in cc)
refused_too (Some refusal) done other s t text text' kind is =
    λ some. (let same : Core refusal ≡ kind = (let given = (is some).0 in cc) in ap Err same, (is some).1)

-- a line whose command was read
pub obeyed : {S : Type 0} (step : Result (S × List ℕ) PlayKind) (read : Result Command PlayKind) (act : Command → Result (S × List ℕ) PlayKind)
    (command : Command) (s' : S) (text text' : List ℕ) (result : Result (Unit {0}) PlayKind)
    → step ≡ read >>= act → read ≡ Ok command → Steps (act command) s' text text' result → Steps step s' text text' result
obeyed {S = S} step read act command s' text text' result by is done =
    let same : step ≡ act command = by ∙ ap (λ (x : Result Command PlayKind). x >>= act) is in
    subst (λ (x : Result (S × List ℕ) PlayKind). Steps x s' text text' result) (sym same) done

-- a line that spells no command
pub unread : {S X : Type 0} (view : X → Command) (step : Result (S × List ℕ) PlayKind) (read : Result Command PlayKind) (act : Command →
    Result (S × List ℕ) PlayKind) (s' : S) (text : List ℕ) (kind : PlayKind)
    → step ≡ read >>= act → Gives view (Err kind) read → Steps step s' text text (Err kind)
unread view step read act s' text kind by is = λ some. (by ∙ ap (λ (x : Result Command PlayKind). x >>= act) (is some), refl)

-- what a session reads its lines with
abbrev pub Reads : Session → List (List ℕ) → Bool → Type 0
Reads s folders is_open = (s.folders ≡ folders) × (is_some s.store ≡ is_open)

pub reads_by : (s : Session) (folders : List (List ℕ)) (files : List ImageFile) (store : Option ScriptStore) (is_open : Bool) →
    (let view : Session = record { folders = folders; files = files; store = store } in view) ≡ s → is_open ≡ is_some store → Reads s folders is_open
reads_by s folders files store is_open view_is open_is =
    (ap (λ (t : Session). t.folders) (sym view_is), ap (λ (t : Session). is_some t.store) (sym view_is) ∙ sym open_is)

pub line-is : (s : Session) (folders : List (List ℕ)) (is_open : Bool) (line : List ℕ) → Reads s folders is_open →
    session_line s line ≡ command_at folders (Playing is_open) line >>= obey s
unfolding session_line
line-is s folders is_open line reads = λ i. command_at (reads.0 i) (Playing (reads.1 i)) line >>= obey s

-- what a setting reads its lines with
abbrev pub Sets : Setting → List (List ℕ) → Bool → Type 0
Sets s folders with_jobs = (s.folders ≡ folders) × (s.with_jobs ≡ with_jobs)

pub setting-is : (s : Setting) (folders : List (List ℕ)) (with_jobs : Bool) (line : List ℕ) → Sets s folders with_jobs →
    setting_line s line ≡ command_at folders (SettingUp with_jobs) line >>= set_up s
unfolding setting_line
setting-is s folders with_jobs line reads = λ i. command_at (reads.0 i) (SettingUp (reads.1 i)) line >>= set_up s

pub sets_by : (s : Setting) (folders : List (List ℕ)) (with_jobs : Bool) (files : List ImageFile) (calls : List Call)
    → (let view : Setting = record { with_jobs = with_jobs; folders = folders; files = files; calls = calls } in view) ≡ s → Sets s folders with_jobs
sets_by s folders with_jobs files calls is = (ap (λ (t : Setting). t.folders) (sym is), ap (λ (t : Setting). t.with_jobs) (sym is))
