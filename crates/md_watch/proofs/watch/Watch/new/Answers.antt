use Rattle.std.proofs.Common.{refl}
use Rattle.md_watch.specs.declared.watch.Watch.{Watch}
use Rattle.md_watch.proofs.Beginning.{nothing-held}
use Rattle.md_watch.proofs.watch.Watch.new.Goals as goal

pub returns : goal.returns
returns c =
    let w : Watch = record {
      alloc = c.args.alloc;
      clock = 0;
      folders = 0;
      paths = c.new.result;
      files = c.new-2.result;
      messages = c.new-3.result;
      drafts = c.new-4.result;
      memory = c.new-5.result;
      marks = c.new-6.result;
    } in
    nothing-held w refl refl c.new.ensures c.new-2.ensures c.new-3.ensures c.new-4.ensures c.new-5.ensures
