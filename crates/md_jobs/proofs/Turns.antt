-- The laws of the machines, by their stages and replies.
use Rattle.std.proofs.Common.{ℕ, ◌≡◌, ◌≤◌, ◌-◌, List, true, refl, arith}
use Rattle.std.specs.List.{All}
use Rattle.std.proofs.lemmas.Bool.Decides.{nat_tests}
use Rattle.std.proofs.lemmas.List.Elements.{All-weaker, filter_passes}
use Rattle.md_dirs.specs.declared.rows.Row.{Row}
use Rattle.md_jobs.specs.declared.step.DirReply.{DirReply}
use Rattle.md_jobs.specs.declared.step.Moment.{Moment}
use Rattle.md_jobs.specs.Laws.{IsLast, IsOn}
use Rattle.md_jobs.specs.Machines.Clean.{is_old, old_rows}
use Rattle.md_jobs.specs.Machines.Deliver.{delivery_turn}
use Rattle.md_jobs.specs.Machines.Errand.{errand_turn}
use Rattle.md_jobs.specs.Tasks.Delivery.{Delivery}
use Rattle.md_jobs.specs.Tasks.Errand.{Errand}
use Rattle.md_jobs.proofs.Cases.{by-errand, by-delivery}

-- an errand ends by its effect
pub effect-last : (job : ℕ) (e : Errand) (r : DirReply) (rows : List Row) → IsLast e.purpose ((errand_turn job e).follows r rows)
effect-last job e r rows = by-errand job e rows (λ stage r after. IsLast e.purpose after)
    (λ stage r x. tt) (λ place to tries is. tt) (λ stage x info is. (refl, (info, is))) (λ place tries row is decided. tt)
    (λ place row tries more. tt) e.stage r

-- a delivery keeps to its path
pub delivery-on : (job : ℕ) (d : Delivery) (at : Moment) → IsOn d.tmp (delivery_turn job d at).asked
delivery-on job d at = by-delivery job d at (λ stage turn. IsOn d.tmp turn.asked)
    refl (λ start k more. refl) (λ start k all. (refl, refl)) (λ start k. refl) refl (λ x. refl) d.stage

-- what is old was not used for 36 hours
pub old-unused : (own : ℕ) (rows : List Row) → All (λ row. 129600 ≤ own - row.stamp) (old_rows own rows)
old-unused own rows =
    All-weaker (λ (row : Row). is_old own row ≡ true) (λ row. 129600 ≤ own - row.stamp) (λ row is. grind (arith, nat_tests)) (old_rows own rows)
    (filter_passes (is_old own) rows)
