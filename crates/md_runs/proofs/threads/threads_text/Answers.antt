use Rattle.std.proofs.Common.{ℕ, List, ◌++◌, ◌∙◌, ap, length}
use Rattle.std.proofs.lemmas.Result.{err_from_is_err_and}
use Rattle.md_core.specs.Mailbox.{mailbox_of}
use Rattle.md_core.specs.Runs.{dirs_of, jobs_of}
use Rattle.md_text.specs.Folders.{names_of}
use Rattle.md_runs.specs.Threading.{answers_text, folders_text}
use Rattle.md_runs.proofs.Stops.{unreported}
use Rattle.md_runs.proofs.threads.threads_text.Goals as goal

pub returns : goal.returns
returns g c = λ script sets_up.
    let made = c.in_ok-made.ensures.made script sets_up in
    let run = c.in_ok-shared.shared.world in
    let folders : List (List ℕ) → List ℕ = λ names. folders_text (mailbox_of (dirs_of run)) 0 names in
    record {
      begun = c.in_ok-made.made.world;
      is = made.run;
      run = run;
      interleaves = c.in_ok-text.ensures.run c.in_ok-made.made.world c.in_ok-made.ensures.fresh c.in_ok-shared.ensures.since c.jobs-jobs.ensures;
      text_is = c.in_ok-text.ensures.text ∙ ap (λ text. answers_text (jobs_of run) (length run.calls) ++ text)
          (c.deref-2.ensures.value ∙ c.in_ok-shared.ensures.folders ∙ ap (λ names. folders (names_of names)) c.deref.ensures.value
          ∙ ap folders made.names);
    }

pub returns-in_err-shared : goal.returns-in_err-shared
returns-in_err-shared g c = λ script sets_up.
    let made = c.in_ok-made.ensures.made script sets_up in
    let fault = err_from_is_err_and c.from_residual-in_err-shared.result c.from_residual-in_err-shared.ensures.1 in
    rw (fault.1, fault.2) (unreported script _ c.in_err-shared.ensures.stop (c.in_ok-made.made.world, made.run))

pub returns-in_err-text : goal.returns-in_err-text
returns-in_err-text g c = λ script sets_up.
    let made = c.in_ok-made.ensures.made script sets_up in
    let fault = err_from_is_err_and c.from_residual-in_err-text.result c.from_residual-in_err-text.ensures.1 in
    rw (fault.1, fault.2) (unreported script _ c.in_err-text.ensures.stop (c.in_ok-made.made.world, made.run))
