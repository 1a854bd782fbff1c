use Rattle.std.proofs.Common.{ℕ, ◌≡◌, List, subst, IfOk}
use mathlib.Core.List.{IsPrefix}
use Rattle.md_jobs.specs.declared.effect.Effect.{Effect}
use Rattle.md_dirs.specs.declared.paths.Place.TheVariants.{Cur}
use Rattle.md_listing.specs.declared.entry.Entry.{Entry}
use Rattle.md_listing.specs.Readings.{join_of}
use Rattle.md_store.specs.Listing.{read_at}
use Rattle.md_store.proofs.Good.{finishes, begins-first}
use Rattle.md_store.proofs.store.Store.second.Goals as goal

pub returns-clause-entries : goal.returns-clause-entries
returns-clause-entries g c =
    finishes c.legal_histories_keep_messages_out_of_new.ensures (λ v. v.items) g.J.Naming.opening c.args.first.now
    c.read.new.self.history c.read.result c.read.ensures.legal c.read.ensures.messages c.is_read.ensures.entries
    (begins-first c.read.result c.args.first.now.history c.longer-held.result.log c.read.new.self.history
    (subst (λ (l : List Effect). IsPrefix l c.longer-held.result.log) c.front-2.ensures.0 c.longer-held.ensures.that) c.read.ensures.held)
    (subst (λ (x : List Entry × ℕ). IfOk c.read.result (λ v. v.items ≡ join_of x.0 (read_at x.1 Cur g.J.Naming.opening c.read.new.self.history)))
    (λ i. (c.entries.ensures.entries i, c.folder.ensures i)) c.read.ensures.entries)
