use Rattle.std.proofs.Common.{◌||◌, ◌∙◌, ap, sym}
use Rattle.md_used.specs.Used.{is_among}
use Rattle.md_used.proofs.Among.{among-next, among-put}
use Rattle.md_used.proofs.used.NameSet.append.Goals as goal

pub loop-key-preserved : goal.loop-key-preserved
loop-key-preserved c = λ u.
    let old = c.loop-key.self-inside.names.keys in
    let new = c.insert.new.self.keys in
    among-next old new c.next.new.self c.in-Some.key (is_among u c.args.self.now || is_among u c.args.more) u
    (among-put old new c.in-Some.key c.in_ok-insert.field-0 u c.in_ok-insert.ensures.added c.in_ok-insert.ensures.keys)
    (ap (λ names. is_among u old || is_among u names) (sym c.in-Some.ensures.steps) ∙ c.loop-key.invariant u)
