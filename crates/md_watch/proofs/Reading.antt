-- What is kept of readings goes on with the steps.
use Rattle.std.proofs.Common.{ℕ, ◌≡◌, ◌+◌, ◌≤◌, ◌==◌, ◌&&◌, ◌||◌, cond, not, List, Option, Some, None, Bool, true, false, is_some, refl, sym, ap, subst, ◌∙◌, arith}
use Rattle.std.proofs.Math.Bool.{or-false}
use Rattle.std.specs.Bool.{Decides}
use Rattle.std.specs.List.{list_any}
use Rattle.std.specs.Str.{bytes_eq}
use Rattle.std.proofs.lemmas.Bool.{false_from_ne_true}
use Rattle.std.proofs.lemmas.Bool.Decides.{Decides-eqb, Decides-and, Decides-like, Decides-at}
use Rattle.std.proofs.lemmas.Slice.Eq.{bytes_eq-Decides}
use Rattle.md_dirs.specs.Index.{directory_number}
use Rattle.md_dirs.specs.Path.{path_of}
use Rattle.md_dirs.specs.State.{State}
use Rattle.md_dirs.specs.declared.paths.Path.{Path}
use Rattle.md_dirs.specs.declared.paths.Place.{Place}
use Rattle.md_log.specs.declared.line.Call.{Call}
use Rattle.md_log.specs.declared.line.Call.TheVariants as call
use Rattle.md_log.specs.declared.line.Reply.{Reply}
use Rattle.md_log.specs.declared.line.Reply.TheVariants as reply
use Rattle.md_log.specs.declared.line.Step.{Step}
use Rattle.md_law.specs.History.{Moment, History, opening, next, at, now, moment, after_call}
use Rattle.md_law.specs.Readings.{Looker}
use Rattle.md_monitor.specs.Messages.{is_there}
use Rattle.md_monitor.specs.Readings as found
use Rattle.md_monitor.specs.Readings.{ReadingKept, readings_kept, reading_first, reading_after, has_name, is_name_of, is_place, reads_by, is_more}
use Rattle.md_monitor.proofs.Parts.{place-is}
use Rattle.md_watch.specs.declared.presences.Presences.{Presences}
use Rattle.md_watch.specs.declared.readings.Reading.{Reading}
use Rattle.md_watch.specs.declared.readings.Readings.{Readings}
use Rattle.md_watch.specs.declared.spells.Spell.{Spell}
use Rattle.md_watch.specs.Presences.{ArePresences}
use Rattle.md_watch.specs.Readings.{IsReadingKept, AreReadings, TakesIn, TakesPart, IsTakenIn, Leaves, begun_of, has_shown, has_shown_message, reading_in, name_spell, message_spell}
use Rattle.md_watch.specs.Spells.{IsTimely, Passes, always_by, ever_by}
use Rattle.md_kept.specs.Tables.{is_key}
use Rattle.md_kept.proofs.Keys.{path-is, spot-is}
use Rattle.md_watch.proofs.Parts.{and-true, itself}
use Rattle.md_watch.proofs.Passing.{PassesAll, passes-still}
use Rattle.md_watch.proofs.Spelling.{timely-next, always-here, always-next, ever-here, ever-next}
use Rattle.md_watch.proofs.Whole.{is_list}

-- The table holds the readings of a history of n steps.
abbrev pub HoldsReadings : ℕ → History → Presences → Readings → Type 0
HoldsReadings n h p w = AreReadings n (at h) p (readings_kept h) w

-- ---- a thing, over a reading that a step leaves open or not

module _ (n : ℕ) (was is : Bool) (o o' : Option Spell) (timely : IsTimely n was o) (passes : Passes was is n o o') (begun : ℕ)
    (low : begun ≤ n) where
  ever-after : (on : Bool) (first : ℕ) → first ≡ cond on begun (n + 1) → (is || (on && ever_by was o begun)) ≡ ever_by is o' first
  ever-after true first since = sym (ap (ever_by is o') since ∙ ever-next n was is o o' timely passes begun low)
  ever-after false first since =
      or-false is ∙ sym (ap (ever_by is o') since ∙ ever-here (n + 1) is o' (timely-next n was is o o' timely passes))

  always-after : (on : Bool) (first : ℕ) → first ≡ cond on begun (n + 1)
      → (is && (not on || always_by was o begun n)) ≡ always_by is o' first (n + 1)
  always-after true first since =
      sym (ap (λ k. always_by is o' k (n + 1)) since ∙ always-next n was is o o' timely passes begun low)
  always-after false first since = and-true is
      ∙ sym (ap (λ k. always_by is o' k (n + 1)) since ∙ always-here (n + 1) is o' (timely-next n was is o o' timely passes))

low-after : (n begun : ℕ) → begun ≤ n → (on : Bool) (first : ℕ) → first ≡ cond on begun (n + 1) → first ≤ n + 1
low-after n begun low true first since = omega (arith, low, since)
low-after n begun low false first since = omega (arith, since)

-- ---- a reading

-- a part shows the name, or the message of a unique name
abbrev shows_name : List ℕ → Reply → List (List ℕ) → Bool
shows_name name r shown = list_any (λ other. bytes_eq other name) shown

abbrev shows_message : Looker → List ℕ → Reply → List (List ℕ) → Bool
shows_message d unique r shown = list_any (is_name_of d unique) shown

-- a part of an open reading shows it, or one before it did
abbrev shown_by : Bool → Bool → Bool → Bool
shown_by on is_shown was_shown = on && (is_shown || was_shown)

module _ (n : ℕ) (s : State) (clock : ℕ) (x : Step) (p p' : Presences) (are : ArePresences n s p) where
  abbrev after : State
  after = after_call x.call clock s

  module _ (passes : PassesAll s after n p p') (d : Looker) (kept : ReadingKept) where
    abbrev on : Bool
    on = found.is_open_after s clock x d kept.is_open

    abbrev is_part : (Reply → List (List ℕ) → Bool) → Bool
    is_part test = found.is_part s clock x d test

    -- what is kept after the step is so of what tables hold
    abbrev GoesTo : Option Reading → Type 0
    GoesTo o = IsReadingKept (n + 1) after p' d (reading_after s clock x d kept) o

    -- by whether a reading is open after the step, since when, and what it shows
    step-kept : (o o' : Option Reading) → IsReadingKept n s p d kept o → on ≡ is_some o'
        → begun_of (n + 1) o' ≡ cond on (begun_of n o) (n + 1)
        → ((name : List ℕ) → shown_by on (is_part (shows_name name)) (kept.is_shown name) ≡ has_shown o' name)
        → ((unique : List ℕ) → shown_by on (is_part (shows_message d unique)) (kept.message_is_shown unique) ≡ has_shown_message o' unique)
        → GoesTo o'
    step-kept o o' is opened since names uniques = record {
      is_open = opened;
      begun = low-after n (begun_of n o) is.begun on (begun_of (n + 1) o') since;
      was_there = λ name. ap (λ b. has_name after d name || (on && b)) (is.was_there name)
          ∙ ever-after n (has_name s d name) (has_name after d name) (name_spell p d name) (name_spell p' d name)
          (timely name) (goes name) (begun_of n o) is.begun on (begun_of (n + 1) o') since;
      was_always = λ name. ap (λ b. has_name after d name && (not on || b)) (is.was_always name)
          ∙ always-after n (has_name s d name) (has_name after d name) (name_spell p d name) (name_spell p' d name)
          (timely name) (goes name) (begun_of n o) is.begun on (begun_of (n + 1) o') since;
      is_shown = names;
      message_was_always = λ unique. ap (λ b. is_there after d.folder unique && (not on || b)) (is.message_was_always unique)
          ∙ always-after n (is_there s d.folder unique) (is_there after d.folder unique)
          (message_spell p d unique) (message_spell p' d unique) (are.messages d.folder unique) (passes.messages d.folder unique)
          (begun_of n o) is.begun on (begun_of (n + 1) o') since;
      message_is_shown = uniques;
    }
      where
        timely : (name : List ℕ) → IsTimely n (has_name s d name) (name_spell p d name)
        timely name = are.names (path_of d.folder d.place name)

        goes : (name : List ℕ) → Passes (has_name s d name) (has_name after d name) n (name_spell p d name) (name_spell p' d name)
        goes name = passes.names (path_of d.folder d.place name)

    -- ---- a step that is no part of it

    begun-stays : (o : Option Reading) (b : Bool) → b ≡ is_some o → begun_of (n + 1) o ≡ cond b (begun_of n o) (n + 1)
    begun-stays None b is = sym (ap (λ c. cond c n (n + 1)) is)
    begun-stays (Some r) b is = sym (ap (λ c. cond c r.begun (n + 1)) is)

    shown-stays : (o : Option Reading) (name : List ℕ) → (is_some o && has_shown o name) ≡ has_shown o name
    shown-stays None name = refl
    shown-stays (Some r) name = refl

    message-stays : (o : Option Reading) (unique : List ℕ) → (is_some o && has_shown_message o unique) ≡ has_shown_message o unique
    message-stays None unique = refl
    message-stays (Some r) unique = refl

    pub stays : (o : Option Reading) → IsReadingKept n s p d kept o
        → ((test : Reply → List (List ℕ) → Bool) → is_part test ≡ false) → GoesTo o
    stays o is none = step-kept o o is opened (begun-stays o on opened)
        (λ name. (λ i. shown_by (opened i) (none (shows_name name) i) (is.is_shown name i)) ∙ shown-stays o name)
        (λ unique. (λ i. shown_by (opened i) (none (shows_message d unique) i) (is.message_is_shown unique i)) ∙ message-stays o unique)
      where
        opened : on ≡ is_some o
        opened = (λ i. none (λ r shown. is_more r) i || (not (none (λ r shown. true) i) && kept.is_open)) ∙ is.is_open

    -- ---- a step that is a part of it

    module _ (shown : List (List ℕ)) (o : Option Reading) (is : IsReadingKept n s p d kept o) where
      -- it answers so
      abbrev IsPartAs : Reply → Type 0
      IsPartAs r = (test : Reply → List (List ℕ) → Bool) → is_part test ≡ test r shown

      opened-by : (r : Reply) → IsPartAs r → on ≡ (is_more r || false)
      opened-by r part = λ i. part (λ q names. is_more q) i || (not (part (λ q names. true) i) && kept.is_open)

      goes-on : (r : Reading) → IsPartAs reply.More → TakesIn n d shown o r → GoesTo (Some r)
      goes-on r part takes = step-kept o (Some r) is opened (takes.begun ∙ sym (ap (λ b. cond b (begun_of n o) (n + 1)) opened))
          (λ name. (λ i. shown_by (opened i) (part (shows_name name) i) (is.is_shown name i)) ∙ sym (takes.names name))
          (λ unique. (λ i. shown_by (opened i) (part (shows_message d unique) i) (is.message_is_shown unique i))
          ∙ sym (takes.uniques unique))
        where
          opened : on ≡ true
          opened = opened-by reply.More part

      ends : (r : Reply) → (is_more r || false) ≡ false → IsPartAs r → GoesTo None
      ends r other part = step-kept o None is off (sym (ap (λ b. cond b (begun_of n o) (n + 1)) off))
          (λ name. ap (λ b. shown_by b (is_part (shows_name name)) (kept.is_shown name)) off)
          (λ unique. ap (λ b. shown_by b (is_part (shows_message d unique)) (kept.message_is_shown unique)) off)
        where
          off : on ≡ false
          off = opened-by r part ∙ other

      ended : (r : Reply) (left : Option Reading) → (is_more r || false) ≡ false → IsPartAs r → left ≡ None → GoesTo left
      ended r left other part none = subst (λ v. GoesTo v) (sym none) (ends r other part)

      taken : (left : Option Reading) → IsPartAs reply.More → IsTakenIn n d shown o left → GoesTo left
      taken None part takes = absurd takes
      taken (Some r) part takes = goes-on r part takes

      pub parts : (r : Reply) (left whole : Option Reading) → IsPartAs r → Leaves n d shown o r left whole → GoesTo left
      parts reply.More left whole part leaves = taken left part leaves.0
      parts reply.Ok left whole part leaves = ended reply.Ok left refl part leaves.0
      parts reply.Exists left whole part leaves = ended reply.Exists left refl part leaves.0
      parts reply.NotFound left whole part leaves = ended reply.NotFound left refl part leaves.0
      parts reply.Fault left whole part leaves = ended reply.Fault left refl part leaves.0

-- ---- which readings a call is a part of

abbrev spot : Looker → ℕ × List ℕ
spot d = (directory_number d.folder d.place, d.actor)

abbrev as_path : Looker → Path
as_path d = path_of d.folder d.place d.actor

abbrev as_looker : Path → Looker
as_looker p = record { actor = p.name; folder = p.folder; place = p.place }

looker-is : (d e : Looker) → Decides (is_key (spot d) (spot e)) (d ≡ e)
looker-is d e = Decides-at _ _ (spot-is (as_path d) (as_path e))
    (Decides-like _ (λ same. ap as_looker (sym same)) (λ same. ap as_path (sym same)) (path-is (as_path e) (as_path d)))

-- a call that is no part of a reading is none of this one
no-list : (c : Call) → is_list c ≡ false → (d : Looker) (test : Reply → List (List ℕ) → Bool) → reads_by c d test ≡ false
no-list (call.List folder place r shown) is d test = absurd (cc is)
no-list c is d test = refl

and-false : (b : Bool) → (b && false) ≡ false
and-false true = refl
and-false false = refl

module _ (s : State) (clock : ℕ) (x : Step) where
  no-part : is_list x.call ≡ false → (d : Looker) (test : Reply → List (List ℕ) → Bool) → found.is_part s clock x d test ≡ false
  no-part is d test = ap (λ b. bytes_eq x.actor d.actor && b) (no-list x.call is d test) ∙ and-false (bytes_eq x.actor d.actor)

  module _ (folder : ℕ) (place : Place) (r : Reply) (shown : List (List ℕ)) (is : x.call ≡ call.List folder place r shown) where
    abbrev pub reader : Looker
    reader = record { actor = x.actor; folder = folder; place = place }

    part-as : (e : Looker) (test : Reply → List (List ℕ) → Bool)
        → found.is_part s clock x e test ≡ (bytes_eq x.actor e.actor && ((folder == e.folder && is_place place e.place) && test r shown))
    part-as e test = ap (λ c. bytes_eq x.actor e.actor && reads_by c e test) is

    pub part-here : (test : Reply → List (List ℕ) → Bool) → found.is_part s clock x reader test ≡ test r shown
    part-here test = part-as reader test
        ∙ (λ i. (bytes_eq-Decides x.actor x.actor).1 refl i && ((itself folder i && (place-is place place).1 refl i) && test r shown))

    part-elsewhere : (e : Looker) → is_key (spot reader) (spot e) ≡ false → (test : Reply → List (List ℕ) → Bool)
        → found.is_part s clock x e test ≡ false
    part-elsewhere e other test = false_from_ne_true _ (λ t.
        let both = is-part.0 (sym (part-as e test) ∙ t) in
        let same : reader ≡ e = λ i. record { actor = both.0 i; folder = both.1.0.0 i; place = both.1.0.1 i } in
        let no = (looker-is reader e).1 same in
        cc)
      where
        is-part : Decides (bytes_eq x.actor e.actor && ((folder == e.folder && is_place place e.place) && test r shown))
            ((x.actor ≡ e.actor) × (((folder ≡ e.folder) × (place ≡ e.place)) × (test r shown ≡ true)))
        is-part = Decides-and _ _ (bytes_eq-Decides x.actor e.actor)
            (Decides-and _ _ (Decides-and _ _ (Decides-eqb folder e.folder) (place-is place e.place)) (λ t. t, λ t. t))

-- ---- all readings

-- at the beginning none is open
pub readings-first : (s : State) (p : Presences) (w : Readings) → ArePresences 0 s p → ((d : Looker) → reading_in w d ≡ None)
    → AreReadings 0 s p (reading_first s) w
readings-first s p w are none d = subst (λ o. IsReadingKept 0 s p d (reading_first s d) o) (sym (none d)) (record {
  is_open = refl;
  begun = omega arith;
  was_there = λ name. sym (ever-here 0 (has_name s d name) (name_spell p d name) (are.names (path_of d.folder d.place name)));
  was_always = λ name. sym (always-here 0 (has_name s d name) (name_spell p d name) (are.names (path_of d.folder d.place name)));
  is_shown = λ name. refl;
  message_was_always = λ unique. sym (always-here 0 (is_there s d.folder unique) (message_spell p d unique) (are.messages d.folder unique));
  message_is_shown = λ unique. refl;
})

module _ (n : ℕ) (s : State) (clock : ℕ) (x : Step) (p p' : Presences) (are : ArePresences n s p) (kept : Looker → ReadingKept)
    (w : Readings) (holds : AreReadings n s p kept w) where
  -- a step that is no part of a reading leaves the table as it is
  pub readings-still : PassesAll s (after_call x.call clock s) n p p' → is_list x.call ≡ false
      → AreReadings (n + 1) (after_call x.call clock s) p' (λ d. reading_after s clock x d (kept d)) w
  readings-still passes none d = stays n s clock x p p' are passes d (kept d) (reading_in w d) (holds d) (no-part s clock x none d)

  -- a step that is one
  module _ (folder : ℕ) (place : Place) (r : Reply) (shown : List (List ℕ)) (is : x.call ≡ call.List folder place r shown)
      (w' : Readings) (whole : Option Reading)
      (takes : TakesPart n (record { actor = x.actor; folder = folder; place = place }) r shown w w' whole) where
    abbrev d : Looker
    d = record { actor = x.actor; folder = folder; place = place }

    abbrev Goes : Looker → Option Reading → Type 0
    Goes e o = IsReadingKept (n + 1) (after_call x.call clock s) p e (reading_after s clock x e (kept e)) o

    still : PassesAll s (after_call x.call clock s) n p p
    still = subst (λ t. PassesAll s t n p p) (sym (ap (λ c. after_call c clock s) is)) (passes-still s n p)

    goes : (e : Looker) (b : Bool) → is_key (spot d) (spot e) ≡ b → Goes e (reading_in w' e)
    goes e true same = subst (λ f. Goes f (reading_in w' f)) ((looker-is d e).0 same)
        (parts n s clock x p p are still d (kept d) shown (reading_in w d) (holds d) r (reading_in w' d) whole
        (part-here s clock x folder place r shown is) takes.here)
    goes e false other = subst (λ o. Goes e o) (sym (takes.others (directory_number e.folder e.place) e.actor other))
        (stays n s clock x p p are still e (kept e) (reading_in w e) (holds e) (part-elsewhere s clock x folder place r shown is e other))

    pub readings-read : AreReadings (n + 1) (after_call x.call clock s) p (λ e. reading_after s clock x e (kept e)) w'
    readings-read e = goes e (is_key (spot d) (spot e)) refl

-- ---- readings of a history

pub readings-opening : (m : Moment) (p : Presences) (w : Readings) → ArePresences 0 (at (opening m)) p
    → ((d : Looker) → reading_in w d ≡ None) → HoldsReadings 0 (opening m) p w
unfolding moment readings_kept
readings-opening m p w are none = readings-first m.state p w are none

module _ (n : ℕ) (h : History) (x : Step) (p : Presences) (are : ArePresences n (at h) p) (w : Readings)
    (holds : HoldsReadings n h p w) where
  -- a step that is no part of a reading
  pub readings-past : (p' : Presences) → PassesAll (at h) (at (next h x)) n p p' → is_list x.call ≡ false
      → HoldsReadings (n + 1) (next h x) p' w
  unfolding moment readings_kept
  readings-past p' passes none = readings-still n (at h) (now (next h x)) x p p' are (readings_kept h) w holds passes none

  -- a step that is one changes nothing of the directories
  pub readings-next : (folder : ℕ) (place : Place) (r : Reply) (shown : List (List ℕ)) → x.call ≡ call.List folder place r shown
      → (w' : Readings) (whole : Option Reading)
      → TakesPart n (record { actor = x.actor; folder = folder; place = place }) r shown w w' whole → HoldsReadings (n + 1) (next h x) p w'
  unfolding moment readings_kept
  readings-next folder place r shown is w' whole takes =
      readings-read n (at h) (now (next h x)) x p p are (readings_kept h) w holds folder place r shown is w' whole takes
