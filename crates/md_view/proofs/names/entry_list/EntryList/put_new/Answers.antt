use Rattle.std.proofs.Common.{◌≡◌, Option, Some, None, true, is_some, sym, ◌∙◌, ap}
use Rattle.std.specs.Option.{unwrap_or}
use Rattle.md_listing.specs.declared.entry.Entry.{Entry}
use Rattle.md_view.specs.Held.{entry_with}
use Rattle.md_view.proofs.Held.Placing.{differs-not}
use Rattle.md_view.proofs.names.entry_list.EntryList.put_new.Goals as goal

pub returns-then-is_some-clause-ok : goal.returns-then-is_some-clause-ok
returns-then-is_some-clause-ok g c =
    let es = g.Self.EntryList.shown c.args.self.now in
    let u = c.args.entry.unique in
    differs-not u (Some (unwrap_or (entry_with u es) c.args.entry)) es c.requires
    (there (entry_with u es) (ap is_some (ap (λ v. entry_with v es) (sym c.unique.ensures) ∙ sym c.find.ensures) ∙ sym c.is_some.ensures ∙ c.if-is_some.true))
  where
    there : (o : Option Entry) → is_some o ≡ true → Some (unwrap_or o c.args.entry) ≡ o
    there None some = cc
    there (Some e) some = λ i. Some e
