use Rattle.std.proofs.Common.{inl, inr, refl, sym, ap, subst, ◌∙◌}
use Rattle.std.specs.Prelude.{is_some}
use Rattle.md_kept.specs.Changes.{Turn, turn_of}
use Rattle.md_watch.specs.Watches.{Follows}
use Rattle.md_watch.proofs.Beginning.{put-name, there-at}
use Rattle.md_kept.proofs.Keys.{none-of, none-but}
use Rattle.md_watch.proofs.watch.Watch.put_name.Goals as goal

pub returns-clause-begins : goal.returns-clause-begins
returns-clause-begins c = λ m holds.
    let w = c.args.self.now in
    let follows = c.in_ok-follow.ensures in
    let goes : Follows (turn_of c.added.result) w c.follow.new.self = record {
      clock = follows.clock;
      folders = follows.folders;
      paths = follows.paths;
      files = follows.files;
      messages = follows.messages;
      drafts = follows.drafts;
      memory = follows.memory;
    } in
    put-name m c.args.path.now c.args.old.now c.in-Some.file w c.follow.new.self c.put.new.self holds
    (sym c.file_at.ensures ∙ none-of c.file_at.result (sym c.is_some.ensures ∙ c.if-is_some.false))
    (sym c.in-Some.ensures) (subst (λ (t : Turn). Follows t w c.follow.new.self) c.added.ensures goes) c.in_ok-put.ensures

pub returns-then-is_some-clause-refused : goal.returns-then-is_some-clause-refused
returns-then-is_some-clause-refused c = λ m holds known. inl (
  refl,
  ap is_some (there-at m c.args.path.now c.args.self.now holds ∙ sym c.file_at.ensures) ∙ sym c.is_some.ensures ∙ c.if-is_some.true,
)

pub returns-in_default-clause-refused : goal.returns-in_default-clause-refused
returns-in_default-clause-refused c = λ m holds known. inr (
  refl,
  there-at m c.args.path.now c.args.self.now holds ∙ sym c.file_at.ensures
      ∙ none-of c.file_at.result (sym c.is_some.ensures ∙ c.if-is_some.false),
  there-at m c.args.old.now c.args.self.now holds ∙ sym c.file_at-2.ensures ∙ none-but _ (λ n is. c.in_default.not-Some n is),
)
