-- What is remembered goes on with a history.
use Rattle.std.proofs.Common.{ℕ, ◌≡◌, ◌+◌, List, Option, Some, None, Bool, true, false, refl, sym, ap, subst, ◌∙◌}
use Rattle.md_dirs.specs.State.{State, bare}
use Rattle.md_dirs.specs.declared.paths.Path.{Path}
use Rattle.md_dirs.specs.declared.paths.Place.{Place}
use Rattle.md_log.specs.declared.line.Call.{Call}
use Rattle.md_log.specs.declared.line.Call.TheVariants as call
use Rattle.md_log.specs.declared.line.Reply.{Reply}
use Rattle.md_log.specs.declared.line.Step.{Step}
use Rattle.md_law.specs.History.{History, opening, next, at, now, moment, after_call}
use Rattle.md_law.specs.Readings.{Looker}
use Rattle.md_monitor.specs.Changes.{change_of}
use Rattle.md_monitor.specs.Files.{count_where}
use Rattle.md_monitor.specs.Messages.{messages_kept}
use Rattle.md_monitor.specs.Readings.{readings_kept}
use Rattle.md_monitor.specs.Listings.{listings_kept}
use Rattle.md_monitor.specs.Judged.{kept_of}
use Rattle.md_watch.specs.declared.claims.Claims.{Claims}
use Rattle.md_watch.specs.declared.listings.Listings.{Listings}
use Rattle.md_watch.specs.declared.memory.Heard.{Heard}
use Rattle.md_watch.specs.declared.memory.Memory.{Memory}
use Rattle.md_watch.specs.declared.memory.Read.{Read}
use Rattle.md_kept.specs.declared.messages.Messages.{Messages}
use Rattle.md_kept.specs.declared.paths.Paths.{Paths}
use Rattle.md_watch.specs.declared.presences.InFolders.{InFolders}
use Rattle.md_watch.specs.declared.presences.Presences.{Presences}
use Rattle.md_watch.specs.declared.readings.Reading.{Reading}
use Rattle.md_watch.specs.declared.readings.Readings.{Readings}
use Rattle.md_kept.specs.Changes.{Turn}
use Rattle.md_watch.specs.Claims as claims
use Rattle.md_watch.specs.Claims.{AreClaims, actor_in}
use Rattle.md_watch.specs.Flagged as flagged
use Rattle.md_watch.specs.Flagged.{AreFlagged, count_by, spell_by}
use Rattle.md_watch.specs.Listings.{AreListings, Completes}
use Rattle.md_watch.specs.Memory.{steps_of, Begins, Remembers, Recalls, Puts, Stays, joining, Reads, Hears, Follows}
use Rattle.md_watch.specs.Presences as presences
use Rattle.md_watch.specs.Presences.{ArePresences, in_folders}
use Rattle.md_watch.specs.Readings.{AreReadings, TakesIn, TakesPart, reading_in}
use Rattle.md_kept.specs.Tables.{value_at}
use Rattle.md_watch.specs.Watches.{AreMessages}
use Rattle.md_watch.proofs.Answering.{claims-begin, claims-step}
use Rattle.md_watch.proofs.Counting.{one}
use Rattle.md_watch.proofs.Flagging.{PassesFlags, flags-none, flags-put, flags-pass, flags-next, step-recounts, step-leaves}
use Rattle.md_watch.proofs.Listing.{looker, listings-begin, listings-stay, listings-break, listings-complete}
use Rattle.md_watch.proofs.Passing.{PassesAll, presences-none, presences-next, step-passes}
use Rattle.md_watch.proofs.Reading.{readings-opening, readings-past, readings-next}
use Rattle.md_watch.proofs.Turning.{turn}
use Rattle.md_watch.proofs.Whole.{is_completing, is_list, is-whole, no-whole, whole-is}

-- ---- the beginning

pub begins-none : (w : Memory) → w.steps ≡ 0 → presences.KeepsNone w.presences
    → ((word folder : ℕ) (unique : List ℕ) → count_by w.flagged word folder unique ≡ 0)
    → ((word folder : ℕ) (unique : List ℕ) → spell_by w.flagged word folder unique ≡ None)
    → ((d : Looker) → reading_in w.readings d ≡ None)
    → ((folder : ℕ) (actor : List ℕ) → value_at w.listings.all folder actor ≡ None)
    → ((actor : List ℕ) → actor_in w.claims actor ≡ None) → Begins (bare 0) w
begins-none w steps none counts spells readings listings claims = record {
  steps = steps;
  presences = none;
  flagged = flags-none w.flagged counts spells;
  readings = readings;
  listings = listings;
  claims = claims;
}

pub begins-put : (s s' : State) (p : Path) (k : ℕ) (old new : Memory)
    → ((test : Path × ℕ → Bool) → count_where test s' + (0 + 0) ≡ count_where test s + one (test (p, k)))
    → Begins s old → Puts p old new → Begins s' new
begins-put s s' p k old new recounts begins puts = record {
  steps = puts.steps ∙ begins.steps;
  presences = subst (λ w. presences.KeepsNone w) (sym puts.presences) begins.presences;
  flagged = flags-put s s' p k old.flagged new.flagged recounts begins.flagged puts.flagged;
  readings = λ d. ap (λ (w : Readings). reading_in w d) puts.readings ∙ begins.readings d;
  listings = λ folder actor. ap (λ (w : Listings). value_at w.all folder actor) puts.listings ∙ begins.listings folder actor;
  claims = λ actor. ap (λ (w : Claims). actor_in w actor) puts.claims ∙ begins.claims actor;
}

pub begins-folder : (s : State) (w : Memory) → Begins s w → Begins (record s { folders = s.folders + 1 }) w
begins-folder s w begins = record {
  steps = begins.steps;
  presences = begins.presences;
  flagged = record { counts = begins.flagged.counts; timely = begins.flagged.timely; begun = begins.flagged.begun };
  readings = begins.readings;
  listings = begins.listings;
  claims = begins.claims;
}

-- ---- histories

pub remembers : (h : History) (w : Memory) → Recalls h w → Remembers (steps_of h) (at h) (kept_of h) w
unfolding moment
remembers (opening m) w begins =
    let there = presences-none 0 m.state w.presences begins.presences in
    record {
      steps = begins.steps;
      presences = there;
      flagged = begins.flagged;
      readings = readings-opening m w.presences w.readings there begins.readings;
      listings = listings-begin m w.presences w.listings begins.listings;
      claims = claims-begin m 0 w.presences w.flagged w.claims begins.claims;
    }
remembers (next past x) w recalls = recalls

-- what a call leaves as it was
stays : (actor : List ℕ) (c : Call) (paths : Paths) (old new : Memory) (read : Read) → Reads actor c paths old new read → Stays old new
stays actor (call.List folder place r shown) paths old new read reads = reads.stays
stays actor c paths old new read reads = reads.stays

-- while no path changes, presences stay
same-presences : (s : State) (folder : ℕ) (place : Place) (r : Reply) (shown : List (List ℕ)) (before after : InFolders) (n : ℕ)
    (old new : Presences) → presences.Follows (turn s (change_of s (call.List folder place r shown))) before after n old new → new ≡ old
same-presences s folder place r shown before after n old new follows =
    let names = follows.names.2 ∙ follows.names.1 in
    let messages = follows.messages.2 ∙ follows.messages.1 in
    λ i. record { names = names i; messages = messages i }

-- A step of a history.
module _ (h : History) (x : Step) (paths : Paths) (m m' : Messages) (before : AreMessages (at h) (messages_kept h) m)
    (after : AreMessages (at (next h x)) (messages_kept (next h x)) m') (old mid new : Memory) (heard : Heard)
    (hears : Hears x paths m old mid heard) (t : Turn) (is : t ≡ turn (at h) (change_of (at h) x.call))
    (follows : Follows x t (in_folders m t) (in_folders m' t) mid new) (was : Remembers (steps_of h) (at h) (kept_of h) old) where
  abbrev n : ℕ
  n = steps_of h

  unchanged : Stays old mid
  unchanged = stays x.actor x.call paths old mid heard.read hears.reads

  steps-are : mid.steps ≡ n
  steps-are = unchanged.steps ∙ was.steps

  presences-follow : presences.Follows t (in_folders m t) (in_folders m' t) n old.presences new.presences
  presences-follow = subst (λ k. presences.Follows t (in_folders m t) (in_folders m' t) k old.presences new.presences) steps-are
      (subst (λ w. presences.Follows t (in_folders m t) (in_folders m' t) mid.steps w new.presences) unchanged.presences follows.presences)

  passes : PassesAll (at h) (at (next h x)) n old.presences new.presences
  passes = step-passes h x n t is (messages_kept h) (messages_kept (next h x)) m m' old.presences new.presences before after
      presences-follow

  flags-follow : flagged.Follows (turn (at h) (change_of (at h) x.call)) n old.flagged new.flagged
  flags-follow = subst (λ u. flagged.Follows u n old.flagged new.flagged) is
      (subst (λ k. flagged.Follows t k old.flagged new.flagged) steps-are
      (subst (λ w. flagged.Follows t mid.steps w new.flagged) unchanged.flagged follows.flagged))

  claims-follow : claims.Steps x t (in_folders m t) (in_folders m' t) (n + 1) old.claims new.claims
  claims-follow = subst (λ k. claims.Steps x t (in_folders m t) (in_folders m' t) (k + 1) old.claims new.claims) steps-are
      (subst (λ w. claims.Steps x t (in_folders m t) (in_folders m' t) (mid.steps + 1) w new.claims) unchanged.claims follows.claims)

  flags-are : (PassesFlags (at h) (at (next h x)) n old.flagged new.flagged) × (AreFlagged (n + 1) (at (next h x)) new.flagged)
  unfolding moment
  flags-are =
      let s = at h in
      let t' = turn s (change_of s x.call) in
      let clock = now (next h x) in (
        flags-pass t' n s (after_call x.call clock s) (step-recounts s x.call clock) (step-leaves s x.call clock) old.flagged new.flagged
            was.flagged flags-follow,
        flags-next t' n s (after_call x.call clock s) (step-recounts s x.call clock) (step-leaves s x.call clock) old.flagged new.flagged
            was.flagged flags-follow,
      )

  -- a part of a reading changes no path
  while-reading : (folder : ℕ) (place : Place) (r : Reply) (shown : List (List ℕ)) → x.call ≡ call.List folder place r shown
      → new.presences ≡ old.presences
  while-reading folder place r shown call-is = same-presences (at h) folder place r shown (in_folders m t) (in_folders m' t) n
      old.presences new.presences
      (subst (λ c. presences.Follows (turn (at h) (change_of (at h) c)) (in_folders m t) (in_folders m' t) n old.presences new.presences)
      call-is
      (subst (λ u. presences.Follows u (in_folders m t) (in_folders m' t) n old.presences new.presences) is presences-follow))

  readings-go : (c : Call) → x.call ≡ c → Reads x.actor c paths old mid heard.read
      → AreReadings (n + 1) (at (next h x)) new.presences (readings_kept (next h x)) mid.readings
  readings-go (call.List folder place r shown) call-is reads =
      subst (λ p. AreReadings (n + 1) (at (next h x)) p (readings_kept (next h x)) mid.readings)
      (sym (while-reading folder place r shown call-is))
      (readings-next n h x old.presences was.presences old.readings was.readings folder place r shown call-is mid.readings reads.whole
      (subst (λ k. TakesPart k (looker x folder place) r shown old.readings mid.readings reads.whole) was.steps reads.readings))
  readings-go c call-is reads =
      subst (λ w. AreReadings (n + 1) (at (next h x)) new.presences (readings_kept (next h x)) w) (sym reads.readings)
      (readings-past n h x old.presences was.presences old.readings was.readings new.presences passes (ap is_list call-is))

  abbrev listings-after : Listings → Type 0
  listings-after w = AreListings (n + 1) (at (next h x)) new.presences (listings_kept (next h x)) w

  -- no reading is whole with a part of one
  listings-still : is_list x.call ≡ true → is_completing x.call ≡ false → listings-after old.listings
  unfolding listings_kept
  listings-still list none = listings-stay n (at h) (at (next h x)) old.presences new.presences was.presences passes x (readings_kept h)
      (listings_kept h) old.listings list none was.listings

  listings-go : (c : Call) → x.call ≡ c → Reads x.actor c paths old mid heard.read → listings-after mid.listings
  unfolding listings_kept
  listings-go (call.List folder place r shown) call-is reads = by reads.whole reads.readings reads.listings
    where
      d : Looker
      d = looker x folder place

      by : (whole : Option Reading) → TakesPart old.steps d r shown old.readings mid.readings whole
          → joining d whole paths old mid.listings heard.read.unlisted → listings-after mid.listings
      by None takes same = subst listings-after (sym same.0) (listings-still (ap is_list call-is) (ap is_completing call-is
          ∙ no-whole old.steps d shown (reading_in old.readings d) (reading_in mid.readings d) folder place r takes.here))
      by (Some whole) takes joins =
          let ok = is-whole old.steps d shown (reading_in old.readings d) (reading_in mid.readings d) r whole takes.here in
          listings-complete n (at h) (at (next h x)) old.presences new.presences was.presences passes x (readings_kept h) (listings_kept h)
          old.listings mid.listings folder place shown whole (call-is ∙ ap (λ to. call.List folder place to shown) ok.0)
          (whole-is n (at h) old.presences d (readings_kept h d) (reading_in old.readings d) shown whole (was.readings d)
          (subst (λ k. TakesIn k d shown (reading_in old.readings d) whole) was.steps ok.1))
          (subst (λ k. Completes x.actor folder place whole k old.listings mid.listings) was.steps joins.completes)
          was.listings
  listings-go c call-is reads = listings-break n (at h) (at (next h x)) old.presences new.presences was.presences passes x
      (readings_kept h) (listings_kept h) old.listings mid.listings (ap is_list call-is) reads.listings was.listings

  pub goes-on : Recalls (next h x) new
  goes-on = record {
    steps = follows.steps ∙ ap (λ k. k + 1) steps-are;
    presences = presences-next n (at h) (at (next h x)) old.presences new.presences was.presences passes;
    flagged = flags-are.1;
    readings = subst (λ w. AreReadings (n + 1) (at (next h x)) new.presences (readings_kept (next h x)) w) (sym follows.readings)
        (readings-go x.call refl hears.reads);
    listings = subst listings-after (sym follows.listings) (listings-go x.call refl hears.reads);
    claims = claims-step h x n t is (messages_kept h) (messages_kept (next h x)) m m' before after old.presences new.presences
        was.presences passes old.flagged new.flagged was.flagged flags-are.0 old.claims new.claims claims-follow was.claims;
  }
