-- What a turn does, whatever the task.
use Rattle.md_core.specs.Tasks.Task.{Deliver, Errand, Clean}
use Rattle.md_core.proofs.Induction.Good.{EachTurn}
use Rattle.md_core.proofs.Machines.Deliver.Turns.{delivery-does}
use Rattle.md_core.proofs.Machines.Errand.Turns.{errand-does}
use Rattle.md_core.proofs.Machines.Clean.Turns.{cleaning-does}

pub each-turn : EachTurn
each-turn s number asked (Deliver d) at faulted sound one fits known = delivery-does s number asked at faulted sound one d fits
each-turn s number asked (Errand e) at faulted sound one fits known = errand-does s number asked at faulted sound one e fits known
each-turn s number asked (Clean c) at faulted sound one fits known = cleaning-does s number asked at faulted sound one c fits
