use Rattle.std.proofs.Common.{refl, sym, ◌∙◌}
use Rattle.std.proofs.lemmas.Option.{slice_get-get_or}
use Rattle.md_findings.proofs.words.clauses_named.Goals as goal

pub returns-in-None-clause-err : goal.returns-in-None-clause-err
returns-in-None-clause-err c =
    let names = c.args.names.now in
    let at = c.loop-name.name-index in
    (refl, (sym c.clause_named.ensures ∙ c.in-None.is, (at, slice_get-get_or names at _ c.loop-name-test.true)))
