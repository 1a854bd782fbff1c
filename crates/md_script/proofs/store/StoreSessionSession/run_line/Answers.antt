use Rattle.std.proofs.Common.{subst}
use Rattle.md_script.specs.declared.verb.Mode.TheVariants.{Playing}
use Rattle.md_script.specs.Commands.{command_at}
use Rattle.md_script.specs.Held.{command_of}
use Rattle.md_script.specs.Sessions.{Session, session_line, obey}
use Rattle.md_script.specs.Step.{Steps}
use Rattle.md_script.proofs.Acts.{passes, reads_by, line-is, obeyed, unread}
use Rattle.md_script.proofs.Opening.{held}
use Rattle.md_script.proofs.store.StoreSessionSession.run_line.Goals as goal

pub returns-in_err-command : goal.returns-in_err-command
returns-in_err-command g c =
    let reads = reads_by c.args.self.now c.self.inside.folders _ c.self.inside.store c.is_some.result c.self.view_is c.is_some.ensures in
    let now = held c.self.inside.folders c.self.inside.files.items c.self.inside.store in
    passes (session_line c.args.self.now c.args.line.now) now c.args.out.now.items c.args.out.now.items c.in_err-command.field-0.0 _
    c.from_residual.ensures.1
    (unread command_of (session_line c.args.self.now c.args.line.now) (command_at c.self.inside.folders (Playing c.is_some.result) c.args.line.now)
    (obey c.args.self.now) now c.args.out.now.items c.in_err-command.field-0.0
    (line-is c.args.self.now c.self.inside.folders c.is_some.result c.args.line.now reads) c.in_err-command.ensures)

pub returns : goal.returns
returns g c =
    let reads = reads_by c.args.self.now c.self.inside.folders _ c.self.inside.store c.is_some.result c.self.view_is c.is_some.ensures in
    obeyed (session_line c.args.self.now c.args.line.now) (command_at c.self.inside.folders (Playing c.is_some.result) c.args.line.now)
    (obey c.args.self.now) (command_of c.in_ok-command.command) c.obey.new.self c.args.out.now.items c.obey.new.out.items c.obey.result
    (line-is c.args.self.now c.self.inside.folders c.is_some.result c.args.line.now reads) c.in_ok-command.ensures
    (subst (λ (s : Session). Steps (obey s (command_of c.in_ok-command.command)) c.obey.new.self c.args.out.now.items c.obey.new.out.items c.obey.result)
    c.self.view_is c.obey.ensures)
