-- The store of a session has a run of the theorem, whatever lines led to it.
use Rattle.std.proofs.Common.{◌≡◌, ℕ, zero, suc, ◌+◌, List, [], ◌∷◌, Option, Some, None, Bool, true, false, Result, Ok, Err, is_some, is_none, length, refl, ap, subst, ◌∙◌, arith}
use Rattle.std.specs.Prelude.{ok_or}
use Rattle.md_dirs.specs.State.{State, IsSound}
use Rattle.md_dirs.specs.Calls.{fresh}
use Rattle.md_dirs.specs.Image.{image_state, image_refusal}
use Rattle.md_dirs.specs.declared.image.ImageFile.{ImageFile}
use Rattle.md_jobs.specs.declared.error.CoreError.{CoreError}
use Rattle.md_jobs.specs.declared.call.Call.{Call}
use Rattle.md_jobs.specs.declared.step.Event.{Event}
use Rattle.md_used.specs.Loading.{load_refusal}
use Rattle.md_core.specs.Runs.{Run, new_run, first_clock, and_event}
use Rattle.md_core.specs.Stepping.{IsRun}
use Rattle.md_core.specs.Submitting.{submit_refusal}
use Rattle.md_core.proofs.Runs.Extended.{is_run-begun, is_run-and_event, is_run-and_call}
use Rattle.md_script.specs.declared.error.PlayKind.{PlayKind}
use Rattle.md_script.specs.declared.error.PlayKind.TheVariants.{NoFirst}
use Rattle.md_text.specs.Bind.{◌>>=◌, require}
use Rattle.md_script.specs.Commands.{Command, make_folder, make_file, submit, step, finish, list, first, second, read, make_name, summarize, command_at}
use Rattle.md_script.specs.declared.verb.Mode.TheVariants.{Playing}
use Rattle.md_script.specs.Sessions.{Session, ScriptStore, unless_refused, image_of, run_over, new_store, store_of, without_fault, event_refusal}
use Rattle.md_script.specs.Sessions.{steps_of, submit_in, step_in, finish_in, list_in, read_in, on_run, first_of, read_first, read_second, act, made_name, in_store, printing, obey, session_line, new_session, transcript}
use Rattle.md_head.specs.Summaries.{summary_of}
use Rattle.md_script.specs.Texts.{summary_text}
use Rattle.md_text.specs.Words.{is_passed_over}
use Rattle.md_script.specs.Step.{line_step}
use Rattle.md_script.specs.Transcript.{go_on, run_from}
use Rattle.md_head.specs.Header.{lines_of}
use Rattle.md_script.proofs.Acts.{was_done}

-- what was read in sequence was read each for itself
bind-ok : {X Y : Type 0} (x : Result X PlayKind) (f : X → Result Y PlayKind) (y : Y) → x >>= f ≡ Ok y → (a : X) × (x ≡ Ok a) × (f a ≡ Ok y)
bind-ok (Ok a) f y is = (a, refl, is)
bind-ok (Err kind) f y is = cc

ok-is : {X : Type 0} (x y : X) → ◌≡◌ {A = Result X PlayKind} (Ok x) (Ok y) → x ≡ y
ok-is x y is = cc

-- ---- the run of a store

-- an answer of a store leaves it a run
abbrev LeavesRun : Run → Result (Run × List ℕ) PlayKind → Type 0
LeavesRun r answer = (after : Run × List ℕ) → answer ≡ Ok after → IsRun r → IsRun after.0

submitted : (r : Run) (call : Call) → LeavesRun r (submit_in r call)
unfolding submit_in
submitted r call after is run =
    let done = was_done (submit_refusal r call) _ after is in
    subst (λ (x : Run × List ℕ). IsRun x.0) done.1 (is_run-and_call r call run done.0)

stepped : (r : Run) (event : Event) → LeavesRun r (step_in r event)
unfolding step_in
stepped r event after is run =
    let done = was_done (event_refusal r event) _ after is in
    subst (λ (x : Run × List ℕ). IsRun x.0) done.1 (is_run-and_event r (without_fault event) run done.0)

steps-kept : (n : ℕ) (r : Run) (event : Event) → IsRun r → IsRun (steps_of n r event).0
unfolding steps_of
steps-kept zero r event run = run
steps-kept (suc more) r event run = by (λ s later. steps-kept more s event later) (event_refusal r event) refl
  where
    by : ((s : Run) → IsRun s → IsRun (steps_of more s event).0) → (o : Option CoreError) → event_refusal r event ≡ o →
        IsRun (steps_of (suc more) r event).0
    by kept None is =
        let goes_on : is_some (event_refusal r event) ≡ false = ap is_some is in
        rw goes_on (kept (and_event r (without_fault event)) (is_run-and_event r (without_fault event) run is))
    by kept (Some e) is = let ends : is_some (event_refusal r event) ≡ true = ap is_some is in rw ends run

finished : (r : Run) (event : Event) → LeavesRun r (finish_in r event)
unfolding finish_in
finished r event after is run =
    let done = was_done (event_refusal r event) _ after is in
    subst (λ (x : Run × List ℕ). IsRun x.0) done.1 (steps-kept _ r event run)

listed : (r : Run) (folder : ℕ) → LeavesRun r (list_in r folder)
unfolding list_in
listed r folder after is run = let same : r ≡ after.0 = cc in subst IsRun same run

looked : (r : Run) (unique : List ℕ) → LeavesRun r (read_in r unique)
unfolding read_in
looked r unique after is run = let same : r ≡ after.0 = cc in subst IsRun same run

-- ---- a store

-- an answer of a store leaves its run a run
abbrev LeavesStore : ScriptStore → Result (ScriptStore × List ℕ) PlayKind → Type 0
LeavesStore t answer = (after : ScriptStore × List ℕ) → answer ≡ Ok after → IsRun t.run → IsRun after.0.run

by-run : (t : ScriptStore) (answer : Result (Run × List ℕ) PlayKind) → LeavesRun t.run answer → LeavesStore t (on_run t answer)
by-run t answer leaves after is run =
    let done = bind-ok answer _ after is in
    let run_is : done.0.0 ≡ after.0.run = ap (λ (x : ScriptStore × List ℕ). x.0.run) (ok-is _ _ done.2) in
    subst IsRun run_is (leaves done.0 done.1 run)

first-read : (t : ScriptStore) (folder : ℕ) → LeavesStore t (read_first t folder)
unfolding read_first
first-read t folder after is run = subst IsRun (ap (λ (x : ScriptStore × List ℕ). x.0.run) (ok-is _ _ is)) run

second-read : (t : ScriptStore) (folder : ℕ) → LeavesStore t (read_second t folder)
unfolding read_second
second-read t folder after is run =
    let done = bind-ok (ok_or (first_of folder t.firsts) NoFirst) _ after is in
    subst IsRun (ap (λ (x : ScriptStore × List ℕ). x.0.run) (ok-is _ _ done.2)) run

acted : (t : ScriptStore) (c : Command) → LeavesStore t (act t c)
acted t (submit call) = by-run t (submit_in t.run call) (submitted t.run call)
acted t (step event) = by-run t (step_in t.run event) (stepped t.run event)
acted t (finish event) = by-run t (finish_in t.run event) (finished t.run event)
acted t (list folder) = by-run t (list_in t.run folder) (listed t.run folder)
acted t (first folder) = first-read t folder
acted t (second folder) = second-read t folder
acted t (read unique) = by-run t (read_in t.run unique) (looked t.run unique)
acted t other = λ after is run. subst IsRun (ap (λ (x : ScriptStore × List ℕ). x.0.run) (ok-is _ _ is)) run

required : (b : Bool) (kind : PlayKind) (done : Unit {0}) → require b kind ≡ Ok done → b ≡ true
required true kind done is = refl
required false kind done is = cc

none-by : {X : Type 0} (o : Option X) → is_none o ≡ true → o ≡ None
none-by None is = refl
none-by (Some x) is = cc

image-is : (folders : ℕ) (files : List ImageFile) (s : State) → image_of folders files ≡ Ok s →
    (image_refusal folders files ≡ None) × (image_state folders files ≡ s)
unfolding image_of
image-is folders files s is =
    let done = bind-ok _ _ s is in
    (none-by (image_refusal folders files) (required _ _ _ done.1), let given = done.2 in cc)

was_loaded : (o : Option CoreError) (r r' : Run) → unless_refused o r ≡ Ok r' → (o ≡ None) × (r ≡ r')
was_loaded None r r' is = (refl, cc)
was_loaded (Some e) r r' is = cc

-- the law of images: names and files belong together
abbrev ImagesAreSound : Type 0
ImagesAreSound = (folders : ℕ) (files : List ImageFile) → image_refusal folders files ≡ None → IsSound (image_state folders files)

module _ (sound : ImagesAreSound) where
  opened : (folders : ℕ) (files : List ImageFile) (r : Run) → run_over folders files ≡ Ok r → IsRun r
  unfolding run_over
  opened folders files r is =
      let image = bind-ok (image_of folders files) _ r is in
      let taken = image-is folders files image.0 image.1 in
      let loaded = was_loaded (load_refusal image.0) (new_run (fresh image.0)) r image.2 in
      subst IsRun loaded.1
      (is_run-begun image.0 (first_clock image.0) 0 0 (subst IsSound taken.1 (sound folders files taken.0)) loaded.0 (omega arith))

  -- ---- a session

  -- the store of a session, where it is open, has a run of the theorem
  abbrev HoldsRun : Session → Type 0
  HoldsRun s = (t : ScriptStore) → s.store ≡ Some t → IsRun t.run

  holds-same : (s t : Session) → s.store ≡ t.store → HoldsRun s → HoldsRun t
  holds-same s t same holds u is = holds u (same ∙ is)

  store-run : (s : Session) (t : ScriptStore) → HoldsRun s → store_of s ≡ Ok t → IsRun t.run
  store-run s t holds is = by s.store refl
    where
      by : (o : Option ScriptStore) → s.store ≡ o → IsRun t.run
      by None none =
          let opens : run_over (length s.folders) s.files >>= (λ r. Ok (new_store r)) ≡ Ok t = rw none at is in
          let run = bind-ok _ _ t opens in
          let run_is : run.0 ≡ t.run = (let given = run.2 in cc) in
          subst IsRun run_is (opened (length s.folders) s.files run.0 run.1)
      by (Some u) some =
          let there : Ok u ≡ Ok t = rw some at is in
          holds t (some ∙ (let same : u ≡ t = cc in ap Some same))

  in-store-kept : (s : Session) (act : ScriptStore → Result (ScriptStore × List ℕ) PlayKind) (after : Session × List ℕ) → HoldsRun s →
      ((t : ScriptStore) → LeavesStore t (act t)) → in_store s act ≡ Ok after → HoldsRun after.0
  in-store-kept s act after holds leaves is =
      let store = bind-ok (store_of s) _ after is in
      let done = bind-ok (act store.0) _ after store.2 in
      let run = leaves store.0 done.0 done.1 (store-run s store.0 holds store.1) in
      let store_is : Some done.0.0 ≡ after.0.store = ap (λ (x : Session × List ℕ). x.0.store) (ok-is _ _ done.2) in
      λ t is_t. (let same : done.0.0 ≡ t = (let all = store_is ∙ is_t in cc) in subst (λ (u : ScriptStore). IsRun u.run) same run)

  printing-kept : (s : Session) (answer : Result (List ℕ) PlayKind) (after : Session × List ℕ) → HoldsRun s →
      printing s answer ≡ Ok after → HoldsRun after.0
  printing-kept s answer after holds is =
      let text = bind-ok answer _ after is in
      holds-same s after.0 (ap (λ (x : Session × List ℕ). x.0.store) (ok-is _ _ text.2)) holds

  obeyed-kept : (s : Session) (c : Command) (after : Session × List ℕ) → HoldsRun s → obey s c ≡ Ok after → HoldsRun after.0
  obeyed-kept s (make_folder name) after holds is = holds-same s after.0 (ap (λ (x : Session × List ℕ). x.0.store) (ok-is _ _ is)) holds
  obeyed-kept s (make_file file) after holds is = holds-same s after.0 (ap (λ (x : Session × List ℕ). x.0.store) (ok-is _ _ is)) holds
  obeyed-kept s (make_name sec micro pid count host) after holds is = printing-kept s (made_name sec micro pid count host) after holds is
  obeyed-kept s (summarize message) after holds is = printing-kept s (Ok (summary_text (summary_of message))) after holds is
  obeyed-kept s other after holds is = in-store-kept s (λ t. act t other) after holds (λ t. acted t other) is

  line-kept : (s : Session) (line : List ℕ) (after : Session × List ℕ) → HoldsRun s → line_step session_line s line ≡ Ok after → HoldsRun after.0
  unfolding line_step session_line
  line-kept s line after holds is = by (is_passed_over line) refl
    where
      by : (b : Bool) → is_passed_over line ≡ b → HoldsRun after.0
      by true passed =
          let same : ◌≡◌ {A = Result (Session × List ℕ) PlayKind} (Ok (s, [])) (Ok after) = rw passed at is in
          holds-same s after.0 (let one : ◌≡◌ {A = Session × List ℕ} (s, []) after = cc in ap (λ (x : Session × List ℕ). x.0.store) one) holds
      by false runs =
          let read : command_at s.folders (Playing (is_some s.store)) line >>= obey s ≡ Ok after = rw runs at is in
          let command = bind-ok (command_at s.folders (Playing (is_some s.store)) line) (obey s) after read in
          obeyed-kept s command.0 after holds command.2

  lines-kept : (lines : List (List ℕ)) (line : ℕ) (s : Session) → HoldsRun s → HoldsRun (run_from session_line line s lines).session
  unfolding run_from
  lines-kept [] line s holds = holds
  lines-kept (this ∷ others) line s holds = by (λ t kept. lines-kept others (line + 1) t kept) (line_step session_line s this) refl
    where
      by : ((t : Session) → HoldsRun t → HoldsRun (run_from session_line (line + 1) t others).session) → (done : Result (Session × List ℕ) PlayKind) → line_step session_line s this ≡ done →
          HoldsRun (go_on line s (λ t. run_from session_line (line + 1) t others) done).session
      by kept (Ok (t, text)) is = kept t (line-kept s this (t, text) holds is)
      by kept (Err kind) is = holds

  pub script-run : (script : List ℕ) (t : ScriptStore) → (transcript script).session.store ≡ Some t → IsRun t.run
  script-run script = lines-kept (lines_of script) 1 new_session (λ t is. cc)
