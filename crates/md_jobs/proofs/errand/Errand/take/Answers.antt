use Rattle.std.proofs.Common.{ℕ, ◌≡◌, Option, refl, sym, ap, ◌∙◌}
use Rattle.md_dirs.specs.Rows.{row_named}
use Rattle.md_dirs.specs.declared.paths.Place.{Place}
use Rattle.md_dirs.specs.declared.rows.Row.{Row}
use Rattle.md_jobs.specs.Turn.{Turn}
use Rattle.md_jobs.specs.Machines.Errand.{after_look, look_turn, stage_turn, errand_turn}
use Rattle.md_jobs.specs.Tasks.Errand.{Errand}
use Rattle.md_jobs.specs.Tasks.Views.Errands.{errand_view}
use Rattle.md_jobs.specs.Tasks.Views.Stages.{errand_stage}
use Rattle.md_jobs.specs.declared.step.DirReply.{DirReply}
use Rattle.md_jobs.specs.declared.step.DirReply.TheVariants as reply
use Rattle.md_jobs.proofs.errand.Errand.take.Goals as goal

-- a look that was not done goes on without a row
by-row : (job : ℕ) (e : Errand) (place : Place) (tries : ℕ) (r : DirReply) (row found : Option Row) → (r ≡ reply.Ok → row ≡ found) →
    after_look job e place tries r found ≡ after_look job e place tries r row
by-row job e place tries reply.Ok row found is = ap (after_look job e place tries reply.Ok) (sym (is refl))
by-row job e place tries reply.Exists row found is = refl
by-row job e place tries reply.NotFound row found is = refl
by-row job e place tries reply.Fault row found is = refl

pub returns-in-Look-stage-clause-follows : goal.returns-in-Look-stage-clause-follows
returns-in-Look-stage-clause-follows c rows found =
    let job = c.args.job in
    let e = errand_view c.args.self.now in
    let place = c.args.self.now.path.place in
    let tries = c.in-Look-stage.tries in
    let turn : errand_turn job e ≡ look_turn job e place tries =
    ap (λ s. stage_turn job e (errand_stage c.args.self.now.path s)) c.in-Look-stage.is in
    record {
      left = errand_view c.looked.new.self;
      after = ap (λ (t : Turn Errand). t.follows c.args.reply rows) turn
          ∙ by-row job e place tries c.args.reply c.args.row (row_named c.args.self.now.unique rows) found ∙ c.looked.ensures.follows;
      goes_on = λ none. refl;
    }
