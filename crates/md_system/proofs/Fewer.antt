-- Each call leaves a job fewer to make.
use Rattle.std.proofs.Common.{ℕ, ◌≡◌, ◌<◌, ◌≤◌, ◌+◌, ◌-◌, List, [], ◌∷◌, Option, None, length, sym, subst, ◌∙◌, arith}
use Rattle.md_dirs.specs.declared.rows.Row.{Row}
use Rattle.md_jobs.specs.Machines.Clean.{after_next, cleaning_turn, old_names}
use Rattle.md_jobs.specs.Machines.Clean as cleaned_by
use Rattle.md_jobs.specs.Machines.Deliver.{delivery_turn}
use Rattle.md_jobs.specs.Machines.Deliver as delivered_by
use Rattle.md_jobs.specs.Machines.Errand.{errand_turn, steps_left}
use Rattle.md_jobs.specs.Machines.Purposes.{searches}
use Rattle.md_jobs.specs.Tasks.Cleaning.{Cleaning, Stage, Look, Remove}
use Rattle.md_jobs.specs.Tasks.Delivery.{Delivery}
use Rattle.md_jobs.specs.Tasks.Errand.{Errand}
use Rattle.md_jobs.specs.declared.answer.Answer.{Answer}
use Rattle.md_jobs.specs.declared.step.DirReply.{DirReply}
use Rattle.md_jobs.specs.declared.step.DirReply.TheVariants as reply
use Rattle.md_jobs.specs.declared.step.Moment.{Moment}
use Rattle.md_jobs.proofs.Replies.{errand-nearer, delivery-nearer}
use Rattle.md_system.specs.Exchanges.{Exchange}
use Rattle.md_system.specs.Steps.{Steps}

-- how many calls an errand makes at most
abbrev pub errand_left : Errand → ℕ
errand_left e = steps_left (searches e.purpose) e.stage

pub errand-falls : (job : ℕ) (e e' : Errand) (old new : List Exchange) (answer : Option Answer) →
    Steps (λ (x : Errand) (at : Moment). errand_turn job x) e old new answer e' → answer ≡ None → errand_left e' < errand_left e
errand-falls job e e' old new answer step none =
    let heard = step.call.heard in
    let on = errand-nearer job e heard.reply heard.rows (step.answered ∙ none) in
    let is : ((errand_turn job e).follows heard.reply heard.rows).task ≡ e' = step.goes_on none in
    let less : steps_left (searches ((errand_turn job e).follows heard.reply heard.rows).task.purpose)
    ((errand_turn job e).follows heard.reply heard.rows).task.stage < errand_left e =
    subst (λ p. steps_left (searches p) ((errand_turn job e).follows heard.reply heard.rows).task.stage < errand_left e) (sym on.0) on.1 in
    subst (λ (x : Errand). errand_left x < errand_left e) is less

-- how many calls a delivery makes at most
abbrev pub delivery_left : Delivery → ℕ
delivery_left d = delivered_by.steps_left d d.stage

pub delivery-falls : (job : ℕ) (d d' : Delivery) (old new : List Exchange) (answer : Option Answer) → 0 < d.chunk →
    Steps (delivery_turn job) d old new answer d' → answer ≡ None → (0 < d'.chunk) × (delivery_left d' < delivery_left d)
delivery-falls job d d' old new answer chunked step none =
    let heard = step.call.heard in
    let on = delivery-nearer job d heard.at heard.reply heard.rows chunked (step.answered ∙ none) in
    let P : Delivery → Type 0 = λ x. (0 < x.chunk) × (delivery_left x < delivery_left d) in
    subst P (step.goes_on none) (subst (λ (n : ℕ). 0 < n) (sym on.0) chunked, on.1.1)

-- how many names a clean has left
abbrev pub names_left : Stage → ℕ
names_left Look = 0
names_left (Remove name rest files) = 1 + length rest

next-left : (c : Cleaning) (names : List (List ℕ)) (files : ℕ) → (after_next c names files).answer ≡ None →
    (0 < names_left (after_next c names files).task.stage) × (names_left (after_next c names files).task.stage ≤ length names)
next-left c [] files none = cc
next-left c (name ∷ rest) files none = (omega arith, omega arith)

clean-left : (own : ℕ) (c : Cleaning) (rows : List Row) (stage : Stage) (r : DirReply) →
    (let after = (cleaned_by.stage_turn c own stage).follows r rows in
    after.answer ≡ None → (0 < names_left after.task.stage) × (0 < names_left stage → names_left after.task.stage < names_left stage))
clean-left own c rows Look reply.Ok none = ((next-left c (old_names own rows) (length (old_names own rows)) none).0, λ some. omega (arith, some))
clean-left own c rows (Remove name rest files) reply.Ok none =
    let on = next-left c rest files none in let less = on.1 in (on.0, λ some. omega (arith, less))
clean-left own c rows (Remove name rest files) reply.NotFound none =
    let on = next-left c rest (files - 1) none in let less = on.1 in (on.0, λ some. omega (arith, less))
clean-left own c rows Look r none = cc
clean-left own c rows (Remove name rest files) r none = cc

pub clean-falls : (c c' : Cleaning) (old new : List Exchange) (answer : Option Answer) →
    Steps (λ (x : Cleaning) (at : Moment). cleaning_turn x at.own) c old new answer c' → answer ≡ None →
    (0 < names_left c'.stage) × (0 < names_left c.stage → names_left c'.stage < names_left c.stage)
clean-falls c c' old new answer step none =
    let heard = step.call.heard in
    subst (λ (x : Cleaning). (0 < names_left x.stage) × (0 < names_left c.stage → names_left x.stage < names_left c.stage)) (step.goes_on none)
    (clean-left heard.at.own c heard.rows c.stage heard.reply (step.answered ∙ none))
