use Rattle.std.proofs.Common.{◌≡◌, true, false, ◌∙◌, ap, sym, List, [], append-nil, refl, subst, rules}
use mathlib.Core.List.{IsPrefix}
use Rattle.md_jobs.specs.declared.effect.Effect.{Effect}
use Rattle.md_core.specs.Machine.{occurrence}
use Rattle.md_jobs.specs.Asked.{is_fault}
use Rattle.md_core.specs.Runs.{Run, effects_of}
use Rattle.md_core.specs.Stepping.{IsRun}
use Rattle.md_core.proofs.Worlds.Steps.{succeeds-shown}
use Rattle.md_store.specs.Locks.{Both}
use Rattle.md_store.proofs.Moves.{no_effect, one_effect}
use Rattle.md_store.proofs.Ongoing.{goes_itself}
use Rattle.md_store.proofs.Told.{stands}
use Rattle.md_store.proofs.locked.Locked.step.Goals as goal

pub returns-then-not-out-clause-told : goal.returns-then-not-out-clause-told
returns-then-not-out-clause-told g c =
    let before : c.make_ready.new.self.published ≡ effects_of c.make_ready.new.self.run = search rules in
    let off : c.in_ok-out.out.effect ≡ false = search rules in
    let out = c.in_ok-out.out in
    let a = c.in_ok-out.ensures in
    let what = occurrence c.args.job c.args.now c.args.own (is_fault out.reply) in
    let none = no_effect c.make_ready.new.self.run c.advance.new.self.run what out a.shows off in
    let run = subst (λ (r : Run). IsRun r) (ap (λ (v : Both). v.run) c.self.view_is ∙ sym c.in_default.ensures.run) c.interleaves.ensures.run in
    let success = succeeds-shown c.make_ready.new.self.run c.advance.new.self.run run what out a.event a.refused a.shows in
    stands c.advance.new.self.run c.args.job out.answer c.tell.new.pass.history success (c.tell.ensures.told ∙ (a.published ∙ (before ∙ sym none)))

pub returns-clause-told : goal.returns-clause-told
returns-clause-told g c =
    let on : c.in_ok-out.out.effect ≡ true = search rules in
    let out = c.in_ok-out.out in
    let a = c.in_ok-out.ensures in
    let what = occurrence c.args.job c.args.now c.args.own (is_fault out.reply) in
    let e = one_effect c.make_ready.new.self.run c.advance.new.self.run what out a.shows on in
    let run = subst (λ (r : Run). IsRun r) (ap (λ (v : Both). v.run) c.self.view_is ∙ sym c.in_default.ensures.run) c.interleaves.ensures.run in
    let success = succeeds-shown c.make_ready.new.self.run c.advance.new.self.run run what out a.event a.refused a.shows in
    let before : c.make_ready.new.self.published ≡ effects_of c.make_ready.new.self.run = search rules in
    let all : c.publish_left.new.self.published ≡ effects_of c.advance.new.self.run = search rules in
    let covered : IsPrefix c.args.pass.now.history c.make_ready.new.self.published = subst (λ (l : List Effect). IsPrefix c.args.pass.now.history l) a.published a.covers in (
      (effects_of c.make_ready.new.self.run, e.0, c.tell-2.ensures.told ∙ (all ∙ e.1), e.2, subst (λ (l : List Effect). IsPrefix c.args.pass.now.history l) before covered),
      stands c.advance.new.self.run c.args.job out.answer c.tell-2.new.pass.history success (c.tell-2.ensures.told ∙ all),
    )

pub returns-then-is_err-clause-held : goal.returns-then-is_err-clause-held
returns-then-is_err-clause-held g c = ([], append-nil c.args.pass.now.history ∙ sym c.advance.ensures.history)

pub returns-in-Err-clause-own : goal.returns-in-Err-clause-own
returns-in-Err-clause-own g c = goes_itself _ _ refl
