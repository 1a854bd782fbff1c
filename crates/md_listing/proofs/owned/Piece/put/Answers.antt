use Rattle.std.proofs.Common.{◌≡◌, ◌∙◌, length, sym, ap, arith}
use Rattle.md_name.specs.Names.{unique_of}
use Rattle.md_listing.proofs.Owning.{whole-name, own-name, own-within}
use Rattle.md_listing.proofs.owned.Piece.put.Goals as goal

pub returns-then-is_own-clause-within : goal.returns-then-is_own-clause-within
returns-then-is_own-clause-within c =
    let from : c.len-start.result ≡ length c.args.text.now.items = omega (arith, c.len-start.ensures, c.args.text.now.ok.0) in
    let to : c.len-middle.result ≡ length c.extend_from_slice.new.self.items = omega (arith, c.len-middle.ensures, c.extend_from_slice.new.self.ok.0) in
    let own : c.unique.result.now ≡ unique_of c.name.result.now = c.unique.ensures ∙ c.is_own.ensures c.if-is_own.true ∙ ap unique_of (sym c.name.ensures) in
    own-within c.args.text.now.items c.name.result.now c.unique.result.now c.extend_from_slice.new.self.items c.len-start.result c.len-middle.result
    c.in_ok-extend_from_slice.ensures.items from to own c.size.result c.place.result

pub returns-then-is_own-clause-entry : goal.returns-then-is_own-clause-entry
returns-then-is_own-clause-entry c =
    let from : c.len-start.result ≡ length c.args.text.now.items = omega (arith, c.len-start.ensures, c.args.text.now.ok.0) in
    let to : c.len-middle.result ≡ length c.extend_from_slice.new.self.items = omega (arith, c.len-middle.ensures, c.extend_from_slice.new.self.ok.0) in
    let own : c.unique.result.now ≡ unique_of c.name.result.now = c.unique.ensures ∙ c.is_own.ensures c.if-is_own.true ∙ ap unique_of (sym c.name.ensures) in
    let name = whole-name c.args.text.now.items c.name.result.now c.unique.result.now c.extend_from_slice.new.self.items c.len-start.result
    c.len-middle.result c.in_ok-extend_from_slice.ensures.items from to own ∙ c.name.ensures in
    let unique = own-name c.args.text.now.items c.name.result.now c.unique.result.now c.extend_from_slice.new.self.items c.len-start.result
    c.len-middle.result c.in_ok-extend_from_slice.ensures.items from to own ∙ c.unique.ensures in
    λ i. record { unique = unique i; place = c.place.ensures i; name = name i; size = c.size.ensures i }
