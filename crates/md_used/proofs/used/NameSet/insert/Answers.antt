use Rattle.std.proofs.Common.{◌∙◌, ◌||◌, not, ap}
use Rattle.std.specs.Str.{bytes_eq}
use Rattle.md_used.specs.Used.{is_among}
use Rattle.md_used.proofs.Among.{among, among-put}
use Rattle.md_used.proofs.used.NameSet.insert.Goals as goal

pub returns-clause-new : goal.returns-clause-new
returns-clause-new c = c.in_ok-insert.ensures.added
    ∙ ap not (among c.self.inside.names.keys c.in_ok-key.key ∙ (λ i. is_among (c.in_ok-key.ensures.ok i) (c.self.view_is i)))

pub returns-clause-ok : goal.returns-clause-ok
returns-clause-ok c = λ u.
    among-put c.self.inside.names.keys c.insert.new.self.keys c.in_ok-key.key c.in_ok-insert.field-0 u c.in_ok-insert.ensures.added
    c.in_ok-insert.ensures.keys
    ∙ (λ i. bytes_eq (c.in_ok-key.ensures.ok i) u || is_among u (c.self.view_is i))
