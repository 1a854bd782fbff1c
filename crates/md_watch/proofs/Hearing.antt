-- What a step is found to break that reads or tells is what the monitor finds.
use Rattle.std.proofs.Common.{ℕ, ◌≡◌, List, Option, Some, None, Bool, false, refl, sym, ap, subst, ◌∙◌}
use Rattle.md_dirs.specs.State.{State, file_at}
use Rattle.md_dirs.specs.declared.paths.Path.{Path}
use Rattle.md_log.specs.declared.line.Call.{Call}
use Rattle.md_log.specs.declared.line.Call.TheVariants as call
use Rattle.md_log.specs.declared.line.Step.{Step}
use Rattle.md_law.specs.History.{History, at}
use Rattle.md_law.specs.Readings.{Looker}
use Rattle.md_monitor.specs.Messages.{messages_kept, paths_of}
use Rattle.md_monitor.specs.Answers.{claims_kept, breaks_gave_up, breaks_answered_falsely}
use Rattle.md_monitor.specs.Readings.{ReadingKept, readings_kept, is_wrong_reading}
use Rattle.md_monitor.specs.Listings.{listings_kept, breaks_unlisted}
use Rattle.md_monitor.specs.Judged.{kept_of}
use Rattle.md_watch.specs.declared.claims.finding.Past.{Past}
use Rattle.md_watch.specs.declared.memory.Heard.{Heard}
use Rattle.md_watch.specs.declared.memory.Memory.{Memory}
use Rattle.md_kept.specs.declared.messages.Messages.{Messages}
use Rattle.md_kept.specs.declared.paths.Paths.{Paths}
use Rattle.md_watch.specs.declared.readings.Reading.{Reading}
use Rattle.md_kept.specs.Changes.{file_in}
use Rattle.md_watch.specs.Claims.{AreClaims}
use Rattle.md_watch.specs.Flagged.{AreFlagged}
use Rattle.md_watch.specs.Listings.{is_unlisted, listing_in}
use Rattle.md_watch.specs.Memory.{steps_of, Remembers, joining, Reads, Hears}
use Rattle.md_kept.specs.Messages.{count_in_folder}
use Rattle.md_watch.specs.Readings.{TakesIn, TakesPart, reading_in, is_wrong}
use Rattle.md_watch.specs.Watches.{AreMessages}
use Rattle.md_watch.proofs.Answering.{given-up, answered-falsely}
use Rattle.md_watch.proofs.Lacking.{unlisted, unlisted-none}
use Rattle.md_watch.proofs.Listing.{looker}
use Rattle.md_watch.proofs.Whole.{IsWhole, is_completing, is-whole, no-whole, whole-is, present-is}
use Rattle.md_watch.proofs.Wrong.{wrong-is}

-- a part of a reading is found to be answered wrongly where it is, and nothing else is found so
abbrev pub IsMisread : State → (Looker → ReadingKept) → List ℕ → Call → Bool → Type 0
IsMisread s readings actor (call.List folder place r shown) misread =
    let d : Looker = record { actor = actor; folder = folder; place = place } in misread ≡ is_wrong_reading s d (readings d) r shown
IsMisread s readings actor c misread = misread ≡ false

-- What is found of a step, by a history.
pub record IsHeard (h : History) (x : Step) (heard : Heard) : Type 0 where
  pub misread : IsMisread (at h) (readings_kept h) x.actor x.call heard.read.misread
  pub unlisted : heard.read.unlisted ≡ breaks_unlisted (at h) (readings_kept h) (listings_kept h) x
  pub gave_up : heard.told.gave_up ≡ breaks_gave_up (at h) (claims_kept h) x
  pub falsely : heard.told.falsely ≡ breaks_answered_falsely (at h) (claims_kept h) x

module _ (h : History) (x : Step) (paths : Paths) (same : (q : Path) → file_in paths q ≡ file_at (at h) q) (m : Messages)
    (messages : AreMessages (at h) (messages_kept h) m) (old mid : Memory) (heard : Heard) (hears : Hears x paths m old mid heard)
    (was : Remembers (steps_of h) (at h) (kept_of h) old) where
  abbrev n : ℕ
  n = steps_of h

  -- ---- answers

  abbrev past : Past
  past = hears.tells.past

  past-counts : (f : ℕ) (u : List ℕ) → count_in_folder past.messages.now f u ≡ paths_of (at h) f u
  past-counts f u = ap (λ (k : Messages). count_in_folder k f u) hears.tells.is_past.messages ∙ messages.in_folder f u

  past-flags : AreFlagged n (at h) past.flagged.now
  past-flags = subst (λ w. AreFlagged n (at h) w) (sym hears.tells.is_past.flagged) was.flagged

  past-claims : AreClaims n (at h) past.presences.now past.flagged.now old.claims (claims_kept h)
  past-claims = subst (λ w. AreClaims n (at h) w past.flagged.now old.claims (claims_kept h)) (sym hears.tells.is_past.presences)
      (subst (λ w. AreClaims n (at h) old.presences w old.claims (claims_kept h)) (sym hears.tells.is_past.flagged) was.claims)

  gave-up-is : heard.told.gave_up ≡ breaks_gave_up (at h) (claims_kept h) x
  gave-up-is = hears.tells.gave_up
      ∙ given-up n (at h) past (hears.tells.is_past.now ∙ was.steps) past-counts past-flags old.claims (claims_kept h) past-claims x

  falsely-is : heard.told.falsely ≡ breaks_answered_falsely (at h) (claims_kept h) x
  falsely-is = hears.tells.falsely
      ∙ answered-falsely n (at h) past (hears.tells.is_past.now ∙ was.steps) past-counts past-flags old.claims (claims_kept h) past-claims
      x hears.tells.letters

  -- ---- readings

  misread-is : (c : Call) → Reads x.actor c paths old mid heard.read → IsMisread (at h) (readings_kept h) x.actor c heard.read.misread
  misread-is (call.List folder place r shown) reads =
      let d = looker x folder place in
      reads.misread ∙ ap (λ k. is_wrong paths old.presences.names d k (reading_in old.readings d) r shown) was.steps
      ∙ wrong-is paths (at h) same n old.presences d (readings_kept h d) (reading_in old.readings d) (was.readings d) r shown
  misread-is (call.At d p r) reads = reads.misread
  misread-is (call.Between d p q r) reads = reads.misread
  misread-is (call.Answer said folder unique) reads = reads.misread

  none-unlisted : (lacks : Bool) → lacks ≡ false → is_completing x.call ≡ false
      → lacks ≡ breaks_unlisted (at h) (readings_kept h) (listings_kept h) x
  none-unlisted lacks is none = is ∙ sym (unlisted-none (at h) (readings_kept h) (listings_kept h) x none)

  unlisted-is : (c : Call) → x.call ≡ c → Reads x.actor c paths old mid heard.read
      → heard.read.unlisted ≡ breaks_unlisted (at h) (readings_kept h) (listings_kept h) x
  unlisted-is (call.List folder place r shown) call-is reads = by reads.whole reads.readings reads.listings
    where
      d : Looker
      d = looker x folder place

      by : (whole : Option Reading) → TakesPart old.steps d r shown old.readings mid.readings whole
          → joining d whole paths old mid.listings heard.read.unlisted
          → heard.read.unlisted ≡ breaks_unlisted (at h) (readings_kept h) (listings_kept h) x
      by None takes none = none-unlisted heard.read.unlisted none.1 (ap is_completing call-is
          ∙ no-whole old.steps d shown (reading_in old.readings d) (reading_in mid.readings d) folder place r takes.here)
      by (Some whole) takes joins =
          let ok = is-whole old.steps d shown (reading_in old.readings d) (reading_in mid.readings d) r whole takes.here in
          let there = joins.there in
          let whole-here : IsWhole n (at h) old.presences d (readings_kept h d) shown whole =
          whole-is n (at h) old.presences d (readings_kept h d) (reading_in old.readings d) shown whole (was.readings d)
          (subst (λ k. TakesIn k d shown (reading_in old.readings d) whole) was.steps ok.1) in
          joins.unlisted ∙ ap (λ k. is_unlisted (listing_in old.listings there.folder x.actor) place whole k there) was.steps
          ∙ sym (unlisted n (at h) old.presences x (readings_kept h) (listings_kept h) old.listings there place shown whole was.listings
          (present-is (at h) paths same old.presences there joins.is_there.presences joins.is_there.new joins.is_there.cur)
          (call-is ∙ (λ i. call.List ((sym joins.folder) i) place (ok.0 i) shown))
          (subst (λ f. IsWhole n (at h) old.presences (looker x f place) (readings_kept h (looker x f place)) shown whole)
          (sym joins.folder)
          whole-here))
  unlisted-is c call-is reads = none-unlisted heard.read.unlisted reads.unlisted (ap is_completing call-is)

  pub heard-is : IsHeard h x heard
  heard-is = record {
    misread = misread-is x.call hears.reads;
    unlisted = unlisted-is x.call refl hears.reads;
    gave_up = gave-up-is;
    falsely = falsely-is;
  }
