use Rattle.std.proofs.Common.{◌≡◌, refl, sym, subst}
use Rattle.md_script.specs.declared.command.Command.{Command as Held}
use Rattle.md_script.specs.declared.command.Command.TheVariants as held
use Rattle.md_script.specs.Held.{command_of}
use Rattle.md_script.specs.Sessions.{Session, act, obey, in_store}
use Rattle.md_script.specs.Step.{Steps}
use Rattle.md_script.proofs.store.StoreSession.obey.Goals as goal

-- a command that is not the session's own is the store's
for-store : (s : Session) (c : Held) → ((name : _) → c ≡ held.Folder name → ⊥) → ((file : _) → c ≡ held.File file → ⊥)
    → ((parts : _) → c ≡ held.Unique parts → ⊥) → ((message : _) → c ≡ held.Summary message → ⊥)
    → obey s (command_of c) ≡ in_store s (λ t. act t (command_of c))
for-store s (held.Folder name) folder file unique summary = absurd (folder name refl)
for-store s (held.File f) folder file unique summary = absurd (file f refl)
for-store s (held.Unique parts) folder file unique summary = absurd (unique parts refl)
for-store s (held.Summary message) folder file unique summary = absurd (summary message refl)
for-store s other folder file unique summary = refl

pub returns-in_default : goal.returns-in_default
returns-in_default g c =
    subst (λ step. Steps step c.act.new.self c.args.out.now.items c.act.new.out.items c.act.result)
    (sym (for-store c.args.self.now c.args.command c.in_default.not-Folder c.in_default.not-File c.in_default.not-Unique c.in_default.not-Summary))
    c.act.ensures
