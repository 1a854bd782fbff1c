use Rattle.std.proofs.Common.{ℕ, ◌≡◌, Some, None, sym, ap, subst, ◌∙◌}
use Rattle.md_watch.specs.declared.listings.Listing.{Listing}
use Rattle.md_watch.specs.declared.listings.Listings.{Listings}
use Rattle.md_kept.specs.declared.table.Table.{Table}
use Rattle.md_watch.specs.Listings.{Joins, joining, place_of}
use Rattle.md_kept.specs.Tables.{value_at, count_at}
use Rattle.md_kept.proofs.Keys.{then}
use Rattle.md_watch.proofs.Joining.{completes, is-over, joins-as, joins-out, same-side, unbroken-is}
use Rattle.md_watch.proofs.listings.Listings.join.Goals as goal
use Rattle.md_watch.proofs.listings.Listings.join.Goals.{in-None+in_ok-listing-in-None, in-Some+else-listing-of_cur+in_ok-listing-in-Some}

pub returns : goal.returns
returns c =
    let old = c.args.self.now in
    let mid = c.take.new.self in
    let new : Listings = record { alloc = mid.alloc; all = c.put.new.self; breaks = mid.breaks } in
    let place = place_of c.args.of_cur in
    let breaks = count_at old.breaks 0 c.args.actor.now in
    let goes_on = completes c.args.actor.now c.args.folder place c.args.reading c.args.now old new c.take.ensures.breaks mid.all
    c.take.ensures.puts c.match-take.listing in
    elim c.match-take.branch [
      | in-None+in_ok-listing-in-None w ↦ then c.put.result
          (λ puts. goes_on (subst (λ (l : Listing). l.breaks ≡ breaks) (sym w.listing-is)
          (w.in_ok-listing-in-None.ensures.breaks ∙ ap (λ (t : Table ℕ). count_at t 0 c.args.actor.now) c.take.ensures.breaks))
          puts (subst (λ o. joining place c.args.reading c.args.now o (Some c.match-take.listing)) w.in-None.ensures.taken
          (subst (λ l. joining place c.args.reading c.args.now None (Some l)) (sym w.listing-is)
          (joins-as c.args.of_cur c.args.reading c.args.now None (Some w.in_ok-listing-in-None.listing)
          w.in_ok-listing-in-None.ensures.joins))))
          c.put.ensures
      | in-Some+else-listing-of_cur+in_ok-listing-in-Some w ↦ then c.put.result
          (λ puts. goes_on (subst (λ (l : Listing). l.breaks ≡ breaks) (sym w.listing-is)
          (w.in_ok-listing-in-Some.ensures.breaks ∙ unbroken-is breaks (value_at old.all c.args.folder c.args.actor.now)
          w.in-Some.listing (sym w.in-Some.ensures.taken)))
          puts (subst (λ o. joining place c.args.reading c.args.now o (Some c.match-take.listing)) w.in-Some.ensures.taken
          (subst (λ l. joining place c.args.reading c.args.now (Some w.in-Some.listing) (Some l)) (sym w.listing-is)
          (joins-as c.args.of_cur c.args.reading c.args.now (Some w.in-Some.listing) (Some w.in_ok-listing-in-Some.listing)
          (subst (λ b. Joins (place_of b) c.args.reading c.args.now (Some w.in-Some.listing) (Some w.in_ok-listing-in-Some.listing))
          (same-side w.in-Some.listing.of_cur c.args.of_cur w.if-listing-of_cur.false) w.in_ok-listing-in-Some.ensures.joins)))))
          c.put.ensures
    ]

pub returns-then-listing-of_cur : goal.returns-then-listing-of_cur
returns-then-listing-of_cur c =
    is-over c.args.actor.now c.args.folder (place_of c.args.of_cur) c.args.reading c.args.now c.args.self.now c.take.new.self
    c.take.ensures.breaks c.take.ensures.puts
    (subst (λ o. joining (place_of c.args.of_cur) c.args.reading c.args.now o None) c.in-Some.ensures.taken
    (joins-as c.args.of_cur c.args.reading c.args.now (Some c.in-Some.listing) None
    (joins-out c.args.of_cur c.args.reading c.args.now c.in-Some.listing c.if-listing-of_cur.true)))
