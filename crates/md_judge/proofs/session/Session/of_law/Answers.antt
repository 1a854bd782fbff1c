use Rattle.std.proofs.Common.{[]}
use Rattle.md_judge.specs.Taken.{beside_law}
use Rattle.md_judge.proofs.session.Session.of_law.Goals as goal

pub returns : goal.returns
unfolding beside_law
returns c = record {
  taken = c.allow-6.ensures.taken (λ e. cc e) _ (c.allow-5.ensures.taken (λ e. cc e) _ (c.allow-4.ensures.taken (λ e. cc e) _
      (c.allow-3.ensures.taken (λ e. cc e) _ (c.allow-2.ensures.taken (λ e. cc e) _
      (c.allow.ensures.taken (λ e. cc e) [] c.new-session.ensures.taken)))));
}
