use Rattle.std.proofs.Common.{refl, sym, ap, subst, ◌∙◌}
use Rattle.std.specs.Prelude.{is_some}
use Rattle.md_kept.specs.Changes.{Turn, adding}
use Rattle.md_watch.specs.Watches.{Follows}
use Rattle.md_watch.specs.declared.watch.Watch.{Watch}
use Rattle.md_watch.proofs.Beginning.{put-file, there-at}
use Rattle.md_kept.proofs.Keys.{none-of}
use Rattle.md_watch.proofs.watch.Watch.put_file.Goals as goal

pub returns-clause-begins : goal.returns-clause-begins
returns-clause-begins c = λ m holds.
    let w = c.args.self.now in
    let mid : Watch = record w { files = c.make.new.self; marks = c.begin.new.self } in
    let turn = c.added.ensures ∙ ap (adding c.args.path.now) c.count-file.ensures in
    put-file m c.args.path.now c.args.stamp w mid c.follow.new.self c.put.new.self holds
    (sym c.file_at.ensures ∙ none-of c.file_at.result (sym c.is_some.ensures ∙ c.if-is_some.false))
    refl refl refl c.in_ok-make.ensures refl refl refl (subst (λ (t : Turn). Follows t mid c.follow.new.self) turn c.in_ok-follow.ensures)
    c.in_ok-put.ensures

pub returns-then-is_some-clause-refused : goal.returns-then-is_some-clause-refused
returns-then-is_some-clause-refused c = λ m holds known. (
  refl,
  ap is_some (there-at m c.args.path.now c.args.self.now holds ∙ sym c.file_at.ensures) ∙ sym c.is_some.ensures ∙ c.if-is_some.true,
)
