use Rattle.std.proofs.Common.{◌≡◌, ◌∙◌, sym, length, true, rules}
use Rattle.std.specs.List.{list_all}
use Rattle.md_core.specs.Runs.{log_of}
use Rattle.md_runs.specs.Threading.{is_at_zero}
use Rattle.md_runs.proofs.Reporting.{interleaved}
use Rattle.md_runs.proofs.threads.report.ended.Goals as goal

pub returns-clause-run : goal.returns-clause-run
returns-clause-run c =
    let r = c.args.world.now in
    let many : length r.calls ≡ c.args.jobs = search rules in
    let at_zero : list_all is_at_zero (log_of r) ≡ true = search rules in
    λ begun fresh since begins. interleaved begun r fresh since (many ∙ begins) at_zero c.interleaves.ensures.run (sym c.dirs-dirs.ensures.failures)
    c.in_ok-push_answers.ensures.answered
