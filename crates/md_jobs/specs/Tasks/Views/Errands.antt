-- What the definitions see of the code's errands, and of what they do.
use Rattle.md_dirs.specs.declared.paths.Path.{Path}
use Rattle.md_jobs.specs.Tasks.Deed as deed
use Rattle.md_jobs.specs.Tasks.Errand as errand
use Rattle.md_jobs.specs.Tasks.Views.Stages.{errand_stage}
use Rattle.md_jobs.specs.declared.errand.Errand.{Errand}
use Rattle.md_jobs.specs.declared.purpose.Deed.{Deed}
use Rattle.md_jobs.specs.declared.purpose.Deed.TheVariants as deed_of

-- a deed on the file of a path, as the definitions see it
abbrev pub deed_view : Path → Deed → deed.Deed
deed_view old (deed_of.Rename new) = deed.Rename old new
deed_view old (deed_of.Link new) = deed.Link old new
deed_view old deed_of.Unlink = deed.Unlink old

-- an errand, as the definitions see it
abbrev pub errand_view : Errand → errand.Errand
errand_view e = record { folder = e.path.folder; unique = e.unique; purpose = e.purpose; stage = errand_stage e.path e.stage }
