use Rattle.std.proofs.Common.{◌≡◌, sym, ◌∙◌, ap}
use Rattle.md_store.proofs.Entering.{makes}
use Rattle.md_store.proofs.book.new_pen.Goals as goal

pub compare_exchange-found-requires : goal.compare_exchange-found-requires
compare_exchange-found-requires c =
    let h = c.requires in
    let b : c.args.seen.now.book ≡ c.args.head.now.book = sym (ap (λ w. w.book) h) in
    let offer = c.plain-offer.ensures in
    let pen = c.no_pen-pen.ensures in
    (ap (λ w. w.tracked) h, b, pen.0 ∙ b, offer.0, rw (ap (λ w. w.key) h, pen.1, offer.3) (makes c.args.seen.now.log))
