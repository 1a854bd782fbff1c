use Rattle.std.proofs.Common.{refl}
use Rattle.md_script.proofs.Kept.{begun-others, begun-one_more, first-read}
use Rattle.md_script.proofs.store.open.OpenStore.first.Goals as goal

pub invariant_of-self : goal.invariant_of-self
invariant_of-self g c = begun-others c.self.inside.world c.in-Ok.listing.folder c.self.inside.kept.items _ c.self.invariant c.in_err-keep.ensures.err

pub invariant_of-self-2 : goal.invariant_of-self-2
invariant_of-self-2 g c =
    begun-one_more c.self.inside.world c.in-Ok.listing.folder c.self.inside.kept.items _ c.self.invariant c.in-Ok.listing
    c.in-Ok.ensures.begun
    c.in_ok-keep.ensures.ok

pub returns : goal.returns
returns g c = (
  _,
  first-read c.args.self.now c.args.folder c.self.inside.world c.self.inside.kept.items c.self.view_is _ c.in-Ok.listing c.in-Ok.ensures.folder
      c.in-Ok.ensures.moment c.in_ok-keep.ensures.ok,
  refl,
)
