use Rattle.std.proofs.Common.{◌≡◌, ◌+◌, ◌++◌, ◌≤◌, ◌∙◌, length, take, sym, ap, subst}
use Rattle.md_dirs.specs.Rows.{rows_of, old_names}
use Rattle.md_dirs.proofs.OldNames.{next-within, next-old}
use Rattle.md_dirs.proofs.calls.Dirs.list_old.Goals as goal

pub loop-from-preserved : goal.loop-from-preserved
loop-from-preserved g c =
    let now = c.args.now in
    let seconds = c.args.seconds in
    let all = rows_of (g.Self.Dirs.device c.arrange.new.self).state c.args.folder c.args.place in
    let rows = c.in_ok-rows.rows.items in
    let from = c.loop-from.from in
    let before = c.loop-from.invariant in
    let long : length rows ≡ c.len-from.result = sym (c.len-from.ensures ∙ c.in_ok-rows.rows.ok.0) in
    record {
      within = subst (λ n. from + n ≤ length all) long (next-within now seconds all rows from c.in_ok-rows.ensures before.within);
      old = c.in_ok-push_old.ensures ∙ ap (λ rs. c.loop-from.names.items ++ old_names now seconds rs) c.deref.ensures.value
          ∙ ap (λ ns. ns ++ old_names now seconds rows) before.old
          ∙ next-old now seconds all rows from c.in_ok-rows.ensures
          ∙ ap (λ n. old_names now seconds (take (from + n) all)) long;
    }
