use Rattle.std.proofs.Common.{sym, ◌∙◌, vec_len, arith}
use Rattle.std.proofs.lemmas.Bool.{eqb-true}
use Rattle.md_listing.proofs.Keyed.{ordered}
use Rattle.md_listing.proofs.Merged.{join-none-new, join-none-cur}
use Rattle.md_listing.proofs.merging.Listing.into_vec.Goals as goal

pub returns-then-is_empty : goal.returns-then-is_empty
returns-then-is_empty c =
    let l = c.self.inside in
    join-none-new l.new.items l.cur.items
    (omega (arith, eqb-true (vec_len l.new) 0 (sym c.is_empty.ensures ∙ c.if-is_empty.true), l.new.ok.0)) (ordered _ c.self.invariant.1)
    ∙ c.self.view_is

pub returns-then-is_empty-2 : goal.returns-then-is_empty-2
returns-then-is_empty-2 c =
    let l = c.self.inside in
    join-none-cur l.new.items l.cur.items
    (omega (arith, eqb-true (vec_len l.cur) 0 (sym c.is_empty-2.ensures ∙ c.if-is_empty-2.true), l.cur.ok.0)) (ordered _ c.self.invariant.0)
    ∙ c.self.view_is
