-- What a job that has no answer does, and how far it has come.
use Rattle.md_jobs.specs.Tasks.Errand as errands
use Rattle.md_jobs.specs.Tasks.Delivery as deliveries
use Rattle.md_jobs.specs.Tasks.Cleaning as cleans

pub data Task : Type 0 where
  Deliver : (delivery : deliveries.Delivery) → Task
  Errand : (errand : errands.Errand) → Task
  Clean : (cleaning : cleans.Cleaning) → Task
