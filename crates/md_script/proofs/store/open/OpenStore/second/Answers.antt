use Rattle.std.proofs.Common.{◌==◌, sym, refl}
use Rattle.md_listing.specs.Law.{HasBegun}
use Rattle.md_script.proofs.Kept.{found, begun-others, not-kept, second-read}
use Rattle.md_script.proofs.store.open.OpenStore.second.Goals as goal

pub returns-in_default : goal.returns-in_default
returns-in_default g c =
    λ some. (
      not-kept c.args.self.now c.args.folder c.self.inside.world c.self.inside.kept.items c.self.view_is
          (sym (rw c.deref.ensures.value at c.in_default.ensures)),
      refl,
    )

pub finish_lent-requires : goal.finish_lent-requires
finish_lent-requires g c =
    (found (HasBegun c.self.inside.world) (λ l. l.folder == c.args.folder) c.self.inside.kept.items c.in-Some.begun.now c.self.invariant
    (sym (rw c.deref.ensures.value at c.in-Some.ensures))).0

pub invariant_of-self : goal.invariant_of-self
invariant_of-self g c = begun-others c.self.inside.world c.args.folder c.self.inside.kept.items _ c.self.invariant c.use_up.ensures

pub returns : goal.returns
returns g c = (
  _,
  second-read c.args.self.now c.args.folder c.self.inside.world c.self.inside.kept.items c.self.view_is _ c.in-Some.begun.now _
      (sym (rw c.deref.ensures.value at c.in-Some.ensures)) c.self.invariant
      c.use_up.ensures c.in-Ok.ensures.entries,
  c.in_ok-push_listing.ensures,
)
