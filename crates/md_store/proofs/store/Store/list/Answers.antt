use Rattle.std.proofs.Common.{List, sym, subst}
use mathlib.Core.List.{IsPrefix}
use Rattle.md_jobs.specs.declared.effect.Effect.{Effect}
use Rattle.md_store.specs.Listing.{IsLegalFrom}
use Rattle.md_store.proofs.Good.{lists}
use Rattle.md_store.proofs.store.Store.list.Goals as goal

pub returns-clause-entries : goal.returns-clause-entries
returns-clause-entries g c =
    let first = c.in_ok-first.ensures.entries in
    lists (λ v. v.items) g.J.Naming.opening c.args.pass.now.history c.in_ok-first.first c.args.folder c.second.new.pass.history c.second.result first.0
    (subst (λ (l : List Effect). IsPrefix c.args.pass.now.history l) (sym first.1) c.in_ok-first.ensures.held)
    (subst (λ (l : List Effect). IsLegalFrom g.J.Naming.opening l) (sym first.1) c.in_ok-first.ensures.legal)
    c.second.ensures.legal c.second.ensures.told c.second.ensures.entries
