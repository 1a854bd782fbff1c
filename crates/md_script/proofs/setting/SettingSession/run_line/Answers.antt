use Rattle.md_script.specs.declared.verb.Mode.TheVariants.{SettingUp}
use Rattle.md_script.specs.Commands.{command_at}
use Rattle.md_script.specs.Held.{command_of}
use Rattle.md_script.specs.Setups.{setting_line, set_up}
use Rattle.md_script.proofs.Acts.{passes, sets_by, setting-is, obeyed, unread}
use Rattle.md_script.proofs.setting.SettingSession.run_line.Goals as goal

pub returns-in_err-command : goal.returns-in_err-command
returns-in_err-command c =
    let reads = sets_by c.args.self.now c.self.inside.folders c.self.inside.with_jobs c.self.inside.files.items c.self.inside.calls.items c.self.view_is in
    passes (setting_line c.args.self.now c.args.line.now) c.args.self.now c.args.out.now.items c.args.out.now.items c.in_err-command.field-0.0 _
    c.from_residual.ensures.1
    (unread command_of (setting_line c.args.self.now c.args.line.now) (command_at c.self.inside.folders (SettingUp c.self.inside.with_jobs) c.args.line.now)
    (set_up c.args.self.now) c.args.self.now c.args.out.now.items c.in_err-command.field-0.0
    (setting-is c.args.self.now c.self.inside.folders c.self.inside.with_jobs c.args.line.now reads) c.in_err-command.ensures)

pub returns : goal.returns
returns c =
    let reads = sets_by c.args.self.now c.self.inside.folders c.self.inside.with_jobs c.self.inside.files.items c.self.inside.calls.items c.self.view_is in
    obeyed (setting_line c.args.self.now c.args.line.now) (command_at c.self.inside.folders (SettingUp c.self.inside.with_jobs) c.args.line.now)
    (set_up c.args.self.now) (command_of c.in_ok-command.command) c.obey.new.self c.args.out.now.items c.obey.new.out.items c.obey.result
    (setting-is c.args.self.now c.self.inside.folders c.self.inside.with_jobs c.args.line.now reads) c.in_ok-command.ensures c.obey.ensures
