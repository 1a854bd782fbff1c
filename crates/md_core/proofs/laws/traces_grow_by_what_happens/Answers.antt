use Rattle.std.proofs.Common.{◌++◌, Option, ap, ◌∙◌}
use Rattle.md_core.proofs.Values.{Step, beginning, deeds_from, option_to_list}
use Rattle.md_core.proofs.Traces.Same.{deeds-more}
use Rattle.md_core.proofs.laws.traces_grow_by_what_happens.Goals as goal

pub returns : goal.returns
returns c = λ r e x at.
    let m = beginning r.image r.clock r.calls in
    deeds-more m r.events e ∙ ap (λ (o : Option Step). deeds_from m r.events ++ option_to_list o) at
