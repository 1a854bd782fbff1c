use Rattle.std.proofs.Common.{◌≡◌, None, IfSome, ap, subst, cond, ◌∙◌}
use Rattle.std.specs.Str.{bytes_eq}
use Rattle.indexmap.specs.IndexMap.{Updates}
use Rattle.md_kept.specs.Directories.{file_of}
use Rattle.md_kept.proofs.Directories.{found-name}
use Rattle.md_kept.proofs.directory.Directory.take.Goals as goal

pub returns-in-Some : goal.returns-in-Some
returns-in-Some c = λ q.
    let old = c.args.self.now.files in
    let found = c.in-Some.field-0-1.now in
    let gone = subst (λ o. IfSome o (λ p. Updates bytes_eq old c.swap_remove_index-gone.new.self p.0 None))
    (c.swap_remove_index-gone.ensures.entry ∙ c.in-Some.ensures.entry) c.swap_remove_index-gone.ensures.updates in
    let key : found ≡ c.args.name.now = found-name c.lent-key.result old.entries found c.in-Some.ensures.key ∙ c.lent-key.ensures in
    gone.0 q ∙ ap (λ k. cond (bytes_eq k q) None (file_of c.args.self.now q)) key
