use Rattle.md_script.proofs.Made.{name-refused, name-made}
use Rattle.md_script.proofs.store.StoreSession.unique.Goals as goal

pub returns-in_err-name : goal.returns-in_err-name
returns-in_err-name g c =
    name-refused c.args.self.now c.args.parts.sec c.args.parts.micro c.args.parts.pid c.args.parts.count c.args.parts.host.now c.args.out.now.items _ _
    c.in_err-name.ensures.made c.from_residual.ensures.1

pub returns : goal.returns
returns g c =
    name-made c.args.self.now c.args.parts.sec c.args.parts.micro c.args.parts.pid c.args.parts.count c.args.parts.host.now c.args.out.now.items _ _
    c.in_ok-name.ensures.made.0 c.in_ok-name.ensures.made.1 (rw c.deref.ensures.value at c.in_ok-push_unique.ensures)
