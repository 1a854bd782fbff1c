use Rattle.std.proofs.Common.{List, [], ap, sym, ◌∙◌, inl, arith, append-nil}
use Rattle.md_jobs.specs.declared.effect.Effect.{Effect}
use Rattle.md_core.specs.Runs.{effects_of}
use Rattle.md_store.proofs.Ongoing.{since_itself, goes_itself}
use Rattle.md_store.proofs.locked.Locked.new.Goals as goal

pub invariant_of-result : goal.invariant_of-result
invariant_of-result g c =
    let r = c.requires in
    let log : List Effect = c.args.writer.desk.shown.value.front.log in
    record {
      since = since_itself _ _ r.begun;
      image = r.world.0;
      book_is = r.shown.0;
      seat_is = r.seat.0;
      lag = ([], r.world.1 ∙ sym (append-nil log ∙ r.shown.1), omega arith);
      journal_book = r.named.0;
      goes = goes_itself _ _ (sym r.named.1);
      entered = ap effects_of (sym r.named.1);
      waits = inl r.seat.1;
    }
