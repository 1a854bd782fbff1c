use Rattle.std.proofs.Common.{◌≡◌, sym, ap, ◌∙◌, Some, Ok, true, false}
use Rattle.std.specs.Prelude.{is_some}
use Rattle.std.specs.Option.{option_copied}
use Rattle.std.proofs.lemmas.Result.{err_from_is_err_and}
use Rattle.md_log.specs.Names.{names_at}
use Rattle.md_log.proofs.Shown.{is_wrong, is_no_name, goes_on, ends, shorter}
use Rattle.md_log.proofs.names.names_in.Goals as goal

pub returns-in_err-word : goal.returns-in_err-word
returns-in_err-word c =
    let p = err_from_is_err_and c.from_residual.result c.from_residual.ensures.1 in
    let some : is_some (option_copied c.loop-left.left) ≡ true = search (Rattle.std.proofs.Common.rules) in
    rw (p.1, p.2) (λ other. is_wrong (names_at (option_copied c.args.rest)) c.loop-left.names.items (option_copied c.loop-left.left)
    c.loop-left.invariant _ some c.in_err-word.ensures.value)

pub returns-in_err-name : goal.returns-in_err-name
returns-in_err-name c =
    let p = err_from_is_err_and c.from_residual-in_err-name.result c.from_residual-in_err-name.ensures.1 in
    rw (p.1, p.2) (λ other. is_no_name (names_at (option_copied c.args.rest)) c.loop-left.names.items (option_copied c.loop-left.left)
    c.loop-left.invariant c.in_ok-word.word.now (option_copied c.in_ok-word.others) c.in_ok-word.ensures.value _ (c.in_err-name.ensures other))

pub loop-left-smaller : goal.loop-left-smaller
loop-left-smaller c = shorter (option_copied c.loop-left.left) c.in_ok-word.word.now (option_copied c.in_ok-word.others) c.in_ok-word.ensures.value

pub loop-left-preserved : goal.loop-left-preserved
loop-left-preserved c =
    goes_on (names_at (option_copied c.args.rest)) c.loop-left.names.items (option_copied c.loop-left.left) c.loop-left.invariant
    c.in_ok-word.word.now (option_copied c.in_ok-word.others) c.in_ok-word.ensures.value _ _ c.in_ok-name.ensures c.in_ok-push.ensures.items

pub returns : goal.returns
returns c =
    let none : is_some (option_copied c.loop-left.left) ≡ false = search (Rattle.std.proofs.Common.rules) in
    ends (names_at (option_copied c.args.rest)) c.loop-left.names.items (option_copied c.loop-left.left) c.loop-left.invariant none
