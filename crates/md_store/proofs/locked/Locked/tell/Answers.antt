use Rattle.std.proofs.Common.{◌≡◌, rules}
use Rattle.md_store.proofs.Told.{exactly}
use Rattle.md_store.proofs.locked.Locked.tell.Goals as goal

pub returns-clause-told : goal.returns-clause-told
returns-clause-told g c =
    let is : c.front.result.now.log ≡ c.args.self.now.published = search rules in
    rw (← is) (exactly c.args.pass.now.history c.front.result.now.log c.learn.new.self.history (rw is c.requires.covers) c.learn.ensures.told c.learn.ensures.one)
