use Rattle.std.proofs.Common.{◌≡◌, ◌+◌, ◌++◌, length, sym, ap, ◌∙◌, arith}
use Rattle.std.proofs.lemmas.List.{length-append}
use Rattle.std.specs.FinMap as finmap
use Rattle.md_dirs.proofs.Alike.{distinct-all}
use Rattle.md_dirs.proofs.Least.{length-listed}
use Rattle.md_dirs.proofs.index.names.Names.count.Goals as goal

pub returns : goal.returns
returns c =
    let rows = c.self.inside.table.keys in
    let others = c.self.inside.others.entries in
    let differ = distinct-all rows others c.len.ensures.unique c.len-2.ensures.unique c.self.invariant.apart in
    let all = length-listed (rows ++ others) differ in
    let parts : length (rows ++ others) ≡ c.len.result + c.len-2.result = length-append rows others ∙ omega (arith, c.len.ensures.len, c.len-2.ensures.len) in
    sym (ap (λ m. length (finmap.entries m)) (sym c.self.view_is) ∙ all ∙ parts)
