use Rattle.std.proofs.Common.{List, ◌↔◌, sym, subst}
use Rattle.md_judge.specs.declared.log.Finding.{Finding}
use Rattle.md_judge.specs.Orders.{AreFoundInOrder}
use Rattle.md_judge.specs.Verdict.{AreInOrder, IsAmong, IsFinding}
use Rattle.md_judge.specs.Taken.{with_given}
use Rattle.md_judge.proofs.Plain.{found-plain}
use Rattle.md_judge.proofs.session.Session.findings.Goals as goal

pub returns : goal.returns
returns c = record {
  found = λ given texts l taken is ticks n o.
      subst (λ (fs : List Finding). IsAmong fs n o ↔ IsFinding (with_given given l) n o) (sym c.as_slice.ensures.value)
      (found-plain _ (with_given given l) c.args.self.now (taken.placed l is) ticks n o);
  ordered = λ given texts l taken is ticks.
      let judged = (taken.placed l is).waiting.judged in
      subst (λ (fs : List Finding). AreInOrder fs) (sym c.as_slice.ensures.value) (judged.ordered (judged.plain ticks));
  ended = λ given texts l ended is.
      subst (λ (fs : List Finding). AreFoundInOrder (with_given given l) fs) (sym c.as_slice.ensures.value) (ended.found l is);
  ended_ordered = λ given texts l ended is.
      subst (λ (fs : List Finding). AreInOrder fs) (sym c.as_slice.ensures.value) (ended.ordered l is);
}
