use Rattle.std.proofs.Common.{Some, refl, sym, subst, ◌∙◌}
use Rattle.md_kept.specs.Files.{lent_as}
use Rattle.md_kept.specs.Messages.{Goes}
use Rattle.md_kept.specs.declared.messages.Messages.{Messages}
use Rattle.md_kept.proofs.Coming.{went, put-back}
use Rattle.md_kept.proofs.Keys.{then}
use Rattle.md_kept.proofs.messages.Messages.go.Goals as goal

pub returns : goal.returns
returns c =
    let old = c.args.self.now in
    let new : Messages = record { alloc = old.alloc; all = c.put_back.new.self } in
    let u = c.in-Some-message_of.unique.now in
    let before = c.in-Some-value.message in
    let now = c.go.new.self in
    then c.put_back.result
    (λ put. subst (λ o. Goes (lent_as o) old new) (sym c.in-Some.is)
    (went c.in-Some.path.now c.in-Some.file u old new (Some now) c.in-Some-message_of.ensures
    (put-back u old new c.take-at.new.self now c.take-at.ensures.puts put) before now refl (sym c.take-at.ensures.taken ∙ c.in-Some-value.is) c.in_ok-go.ensures))
    c.put_back.ensures
