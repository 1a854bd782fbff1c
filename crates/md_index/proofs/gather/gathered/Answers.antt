use Rattle.std.proofs.Common.{◌≡◌, ◌∙◌, ◌<◌, All, arith, length, subst, sym}
use Rattle.std.proofs.lemmas.Option.{slice_get-get_or}
use Rattle.md_index.specs.Index.{IsBrought}
use Rattle.md_index.proofs.Gathering.{entries-next}
use Rattle.md_index.proofs.gather.gathered.Goals.{in-Some, in-None+in_ok-made-in-None}
use Rattle.md_index.proofs.gather.gathered.Goals as goal

pub loop-item-preserved : goal.loop-item-preserved
loop-item-preserved g c =
    let all = c.loop-item.all.items in
    let is = c.loop-item.invariant in
    let whose = subst (All (λ whose. whose ≡ c.args.messages.now)) (sym is.0) c.requires in
    elim c.match-taken.branch [
      | in-Some w ↦
          let next = entries-next c.args.messages.now all w.push_reserved.new.self.items c.loop-item.item w.in-Some.made is.1
          (w.in-Some.ensures.entry c.args.messages.now whose) w.push_reserved.ensures.items in
          rw w.all-is (c.taken.ensures.same ∙ is.0, next, omega arith, omega arith)
      | in-None+in_ok-made-in-None w ↦
          let within : c.loop-item.item < length c.args.messages.now = omega (arith, c.loop-item-test.true) in
          let brought : IsBrought c.args.messages.now (c.loop-item.item, w.in_ok-made-in-None.made) =
          (_, slice_get-get_or c.args.messages.now c.loop-item.item _ within, w.in_ok-made-in-None.ensures) in
          let next = entries-next c.args.messages.now all w.push_reserved-in-None.new.self.items c.loop-item.item w.in_ok-made-in-None.made is.1
          brought w.push_reserved-in-None.ensures.items in
          rw w.all-is (c.taken.ensures.same ∙ is.0, next, omega arith, omega arith)
    ]
