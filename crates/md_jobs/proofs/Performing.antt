-- A directory call that obeys, and that is the one of a turn, takes the turn.
use Rattle.std.proofs.Common.{◌≡◌, Option, Some, Result, Ok, Err, refl, sym, ap, subst, ◌∙◌, is_some}
use Rattle.md_dirs.specs.Calls.{Ask, Device, Obeys}
use Rattle.md_dirs.specs.declared.calls.DirError.{DirError}
use Rattle.md_dirs.specs.declared.calls.DirError.TheVariants.{Exists, NotFound, Fault, NoMemory}
use Rattle.md_jobs.specs.Turn.{Turn, After, Replies, Takes, rows_for, reply_from}
use Rattle.md_jobs.specs.Asked.{ask_of, shown_call, reply_by}
use Rattle.md_jobs.specs.declared.effect.Effect.{Effect}
use Rattle.md_jobs.specs.declared.step.Moment.{Moment}
use Rattle.md_jobs.specs.declared.step.StepOut.{StepOut}
use Rattle.md_jobs.specs.declared.step.DirReply.{DirReply}
use Rattle.md_jobs.specs.declared.step.DirReply.TheVariants as reply

-- a call that obeys was made, with its reply
pub replies : {X : Type 0} (ask : Ask) (old : Device) (answer : Result X DirError) (new : Device) (r : DirReply) →
    Obeys ask old answer new → reply_from answer ≡ Some r → Replies ask old r new
replies {X} ask old answer new r obeys replied = by answer obeys replied
  where
    renamed : (q : DirReply) → q ≡ r → Replies ask old q new → Replies ask old r new
    renamed q same = subst (λ (x : DirReply). Replies ask old x new) same

    by : (a : Result X DirError) → Obeys ask old a new → reply_from a ≡ Some r → Replies ask old r new
    by (Ok x) o h = renamed reply.Ok (cc)
        (record { replied = ap reply_by (sym o.accepted); state = o.done; failed = o.not_failed (λ e. cc); called = o.counted })
    by (Err Exists) o h = renamed reply.Exists (cc)
        (record { replied = ap reply_by (sym (o.exists refl)); state = o.unchanged; failed = o.not_failed (λ e. cc); called = o.counted })
    by (Err NotFound) o h = renamed reply.NotFound (cc)
        (record { replied = ap reply_by (sym (o.not_found refl)); state = o.unchanged; failed = o.not_failed (λ e. cc); called = o.counted })
    by (Err Fault) o h = renamed reply.Fault (cc) (record { replied = refl; state = o.unchanged; failed = o.failed refl; called = o.counted })
    by (Err NoMemory) o h = cc

-- A turn whose call was made, and that shows its reply, was taken.
pub takes : {T : Type 0} (turn : Turn T) (at : Moment) (old : Device) (r : DirReply) (new : Device) (out : StepOut) (effect : Option Effect) (task : T)
    → Replies (ask_of turn.asked at.clock) old r new
    → (out.call ≡ shown_call turn.asked) → out.reply ≡ r
    → (let after : After T = record { task = task; answer = out.answer; effect = effect } in turn.follows r (rows_for turn.asked old.state) ≡ after)
    → out.effect ≡ is_some effect
    → Takes turn at old out effect task new
takes turn at old r new out effect task made call shown after is_effect =
    record {
      call = call;
      made = subst (λ (q : DirReply). Replies (ask_of turn.asked at.clock) old q new) (sym shown) made;
      after = ap (λ q. turn.follows q (rows_for turn.asked old.state)) shown ∙ after;
      is_effect = is_effect;
    }
