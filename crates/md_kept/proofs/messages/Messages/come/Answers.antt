use Rattle.std.proofs.Common.{Some, unwrap_or, refl, sym, ap, subst, ◌∙◌}
use Rattle.md_kept.specs.Files.{lent_as}
use Rattle.md_kept.specs.Messages.{Comes, kept_of}
use Rattle.md_kept.specs.declared.messages.Messages.{Messages}
use Rattle.md_kept.proofs.Coming.{came, put-back, stands}
use Rattle.md_kept.proofs.Keys.{then}
use Rattle.md_kept.proofs.messages.Messages.come.Goals as goal

pub returns : goal.returns
returns c =
    let old = c.args.self.now in
    let new : Messages = record { alloc = old.alloc; all = c.put_back.new.self } in
    let u = c.in-Some-message_of.unique.now in
    let before = c.unwrap_or-message.result in
    let now = c.come.new.self in
    then c.put_back.result
    (λ put. subst (λ o. Comes (lent_as o) old new) (sym c.in-Some.is)
    (came c.in-Some.path.now c.in-Some.file u old new (Some now) c.in-Some-message_of.ensures
    (put-back u old new c.take-at.new.self now c.take-at.ensures.puts put) before now refl
    (stands (kept_of old u) before c.new.result
    (c.unwrap_or-message.ensures ∙ ap (λ o. unwrap_or o c.new.result) c.take-at.ensures.taken) c.new.ensures.none c.new.ensures.folders c.new.ensures.files)
    c.in_ok-come.ensures))
    c.put_back.ensures
