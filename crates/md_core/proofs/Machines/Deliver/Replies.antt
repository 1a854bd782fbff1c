-- What a reply of the directories says of them.
use Rattle.std.proofs.Common.{ℕ, ◌≡◌, Option, Some, None, Bool, true, false, cond, refl, is_some}
use Rattle.md_core.proofs.Values.{DirError, Exists, NotFound, Fault, NoMemory, reply_by}
use Rattle.md_jobs.specs.declared.step.DirReply.TheVariants as reply

-- a call that is done was refused by nothing
pub accepted : (refusal : Option DirError) (faulted : Bool) → cond faulted reply.Fault (reply_by refusal) ≡ reply.Ok → refusal ≡ None
accepted refusal true is = cc
accepted None false is = refl
accepted (Some Exists) false is = cc
accepted (Some NotFound) false is = cc
accepted (Some Fault) false is = cc
accepted (Some NoMemory) false is = cc

-- where a call is not refused for want of a file, the file is there
pub there : (o : Option ℕ) (rest : Option DirError) (e : DirError) → cond (is_some o) rest (Some e) ≡ None → (n : ℕ) × (o ≡ Some n)
there None rest e is = cc
there (Some n) rest e is = (n, refl)
