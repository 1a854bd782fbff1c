-- What the definitions see of the calls that jobs ask for, and what jobs make ready before a call.
use Rattle.std.specs.Prelude.{ℕ, ◌≡◌, ◌<◌, length}
use Rattle.md_dirs.specs.Path.{path_of as path}
use Rattle.md_jobs.specs.Asked.{Asked, create, append, link, rename, unlink, list}
use Rattle.md_jobs.specs.Turn.{Turn}
use Rattle.md_jobs.specs.Machines.Deliver.{create_turn, append_turn, link_turn, unlink_turn}
use Rattle.md_jobs.specs.Machines.Purposes.{answer_by, deed_by, info_in}
use Rattle.md_jobs.specs.Tasks.Delivery.{Delivery}
use Rattle.md_jobs.specs.Tasks.Delivery as delivery
use Rattle.md_jobs.specs.Tasks.Errand.{Errand}
use Rattle.md_jobs.specs.Tasks.Errand as errand
use Rattle.md_jobs.specs.Tasks.Views.Errands.{deed_view}
use Rattle.md_jobs.specs.declared.deliver.DeliveryReady.{DeliveryReady}
use Rattle.md_jobs.specs.declared.deliver.DeliveryReady.TheVariants as delivers
use Rattle.md_jobs.specs.declared.errand.ErrandReady.{ErrandReady}
use Rattle.md_jobs.specs.declared.errand.ErrandReady.TheVariants as runs
use Rattle.md_jobs.specs.declared.request.Request.{Request}
use Rattle.md_jobs.specs.declared.request.Request.TheVariants as request

-- a call that a job asks for, as the definitions see it
abbrev pub request_view : Request → Asked
request_view (request.Create p) = create p
request_view (request.Append p bytes) = append p bytes.now
request_view (request.Link old new) = link old new
request_view (request.Rename old new) = rename old new
request_view (request.Unlink p) = unlink p
request_view (request.List folder place) = list folder place

-- an errand at this stage has made ready what its turn asks for
abbrev pub IsErrandReady : Errand → errand.Stage → ErrandReady → Type 0
IsErrandReady e (errand.Look place tries) runs.Look = Unit {0}
IsErrandReady e (errand.Act place row tries) (runs.Act deed answer) =
    (deed_view (path e.folder place row.name) deed ≡ deed_by e.purpose e.folder e.unique place row.name (info_in row.name))
    × (answer ≡ answer_by e.purpose (info_in row.name))
IsErrandReady e stage ready = ⊥

-- the turn that a delivery has made ready
abbrev pub ready_turn : ℕ → Delivery → DeliveryReady → Turn Delivery
ready_turn job d (delivers.Create own) = create_turn d own
ready_turn job d (delivers.Append start written) = append_turn d start written
ready_turn job d (delivers.Link name) = link_turn job d
ready_turn job d (delivers.Unlink answer) = unlink_turn d answer

-- a delivery may take the turn that is ready, at its stage
abbrev pub IsDeliveryReady : Delivery → DeliveryReady → Type 0
IsDeliveryReady d (delivers.Create own) = d.stage ≡ delivery.Start
IsDeliveryReady d (delivers.Append start written) = (d.stage ≡ delivery.Writing start written) × (written < length d.body)
IsDeliveryReady d (delivers.Link name) = name ≡ d.tmp.name
IsDeliveryReady d (delivers.Unlink answer) = Unit {0}
