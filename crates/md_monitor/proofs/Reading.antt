-- What a monitor keeps of readings is what the history tells, and what it finds at a reading is what the law has.
use Rattle.std.proofs.Common.{ℕ, ◌≡◌, ◌≢◌, ◌⊎◌, inl, inr, not, ◌&&◌, ◌||◌, true, List, Option, Some, None, is_some, slice_get, nat_lt, Bool, false, refl, subst}
use Rattle.std.specs.Bool.{Decides}
use Rattle.std.specs.List.{list_any}
use Rattle.std.specs.Str.{bytes_eq}
use Rattle.std.proofs.lemmas.Bool.Decides.{Decides-eqb, Decides-and, Decides-or, Decides-not, Decides-like, Decides-at}
use Rattle.std.proofs.lemmas.Slice.Eq.{bytes_eq-Decides}
use Rattle.md_dirs.specs.Path.{path_of}
use Rattle.md_dirs.specs.State.{State, file_at}
use Rattle.md_dirs.specs.declared.paths.Path.{Path}
use Rattle.md_log.specs.declared.line.Reply.{Reply}
use Rattle.md_log.specs.declared.line.Reply.TheVariants as reply
use Rattle.md_log.specs.declared.line.Step.{Step}
use Rattle.md_law.specs.History.{Moment, History, opening, next, at, now, moment, Since}
use Rattle.md_law.specs.Messages.{IsOf, IsThere}
use Rattle.md_law.specs.Readings.{Looker, Reads, IsReadOn, IsReading, Shows}
use Rattle.md_law.specs.Clauses.{ShowsWrongly, Lacks, IsWrongReading}
use Rattle.md_monitor.specs.Files.{count_where}
use Rattle.md_monitor.specs.Messages.{is_there}
use Rattle.md_monitor.specs.Readings as found
use Rattle.md_monitor.specs.Readings.{ReadingKept, readings_kept, reading_first, reading_after, has_name, is_name_of}
use Rattle.md_monitor.proofs.Tests.{free-is}
use Rattle.md_monitor.proofs.Seeing.{some-where}
use Rattle.md_monitor.proofs.Remembering.{of-is}
use Rattle.md_monitor.proofs.Noticing.{is-there}
use Rattle.md_monitor.proofs.Moments.{upto-itself}
use Rattle.md_monitor.proofs.Parts.{During, ShowsOne, HasShown, one-part, any-is, place-is, part-of, part-is, more-part, has-first, before-past, moment-since, since-moment, shown-to, shown-from}

-- ---- what is kept

-- the directory had the name, or not
abbrev HasName : Looker → List ℕ → History → Type 0
HasName d name m = file_at (at m) (path_of d.folder d.place name) ≢ None

abbrev HasNot : Looker → List ℕ → History → Type 0
HasNot d name m = file_at (at m) (path_of d.folder d.place name) ≡ None

filled-is : {A : Type 0} (o : Option A) → Decides (is_some o) (o ≢ None)
filled-is None = (λ t. absurd (cc), λ other. absurd (other refl))
filled-is (Some a) = (λ t none. cc, λ other. refl)

has-is : (d : Looker) (name : List ℕ) (m : History) → Decides (has_name (at m) d name) (HasName d name m)
has-is d name m = filled-is (file_at (at m) (path_of d.folder d.place name))

has-not : (d : Looker) (name : List ℕ) (m : History) → Decides (not (has_name (at m) d name)) (HasNot d name m)
has-not d name m = free-is (file_at (at m) (path_of d.folder d.place name))

-- the message was not in the folder
abbrev pub IsWithout : Looker → List ℕ → History → Type 0
IsWithout d unique m = IsThere (at m) d.folder unique → ⊥

without-is : (d : Looker) (unique : List ℕ) (m : History) → Decides (not (is_there (at m) d.folder unique)) (IsWithout d unique m)
without-is d unique m = Decides-not _ (is-there m d.folder unique)

-- in the directory the name is one of the message
abbrev pub IsNameOf : Looker → List ℕ → List ℕ → Type 0
IsNameOf d unique name = IsOf (path_of d.folder d.place name) d.folder unique

pub name-of : (d : Looker) (unique name : List ℕ) → Decides (is_name_of d unique name) (IsNameOf d unique name)
name-of d unique name = of-is d.folder unique (path_of d.folder d.place name)

not-always : (is reads old : Bool) → not (is && (not reads || old)) ≡ (not is || (reads && not old))
not-always true true old = refl
not-always true false old = refl
not-always false reads old = refl

-- what does not hold otherwise
pub not-otherwise : {P : Type 0} (b : Bool) → Decides (not b) P → Decides b (P → ⊥)
not-otherwise true is = (λ t holds. let no = is.1 holds in cc, λ none. refl)
not-otherwise false is = (λ t. absurd (cc), λ none. absurd (none (is.0 refl)))

-- What is kept of a reading is what the history tells.
pub record IsReadingKept (h : History) (d : Looker) (k : ReadingKept) : Type 0 where
  pub is_open : Decides k.is_open (IsReadOn h d)
  pub was_there : (name : List ℕ) → Decides (k.was_there name) (During d (HasName d name) h)
  pub was_always : (name : List ℕ) → Decides (not (k.was_always name)) (During d (HasNot d name) h)
  pub is_shown : (name : List ℕ) → Decides (k.is_shown name) (HasShown d (λ other. other ≡ name) h)
  pub message_was_always : (unique : List ℕ) → Decides (not (k.message_was_always unique)) (During d (IsWithout d unique) h)
  pub message_is_shown : (unique : List ℕ) → Decides (k.message_is_shown unique) (HasShown d (IsNameOf d unique) h)

module _ (m : Moment) (d : Looker) where
  during-first : (is : State → Bool) (P : History → Type 0) → ((k : History) → Decides (is (at k)) (P k))
      → Decides (is m.state) (During d P (opening m))
  unfolding Since moment
  during-first is P each = each (opening m)

  shown-first : (N : List ℕ → Type 0) → Decides false (HasShown d N (opening m))
  unfolding Since
  shown-first N = (λ t. absurd (cc), λ shown. absurd (let none = shown.0.1.0.1 in cc))

  reading-first : IsReadingKept (opening m) d (reading_first m.state d)
  unfolding Since
  reading-first = record {
    is_open = (λ t. absurd (cc), λ on. absurd (let none = on.1.0.1 in cc));
    was_there = λ name. during-first (λ s. has_name s d name) (HasName d name) (has-is d name);
    was_always = λ name. during-first (λ s. not (has_name s d name)) (HasNot d name) (has-not d name);
    is_shown = λ name. shown-first (λ other. other ≡ name);
    message_was_always = λ unique. during-first (λ s. not (is_there s d.folder unique)) (IsWithout d unique) (without-is d unique);
    message_is_shown = λ unique. shown-first (IsNameOf d unique);
  }

module _ (past : History) (x : Step) (d : Looker) where
  abbrev h : History
  h = next past x

  open-next : (was : Bool) → Decides was (IsReadOn past d) → Decides (found.is_open_after (at past) (now h) x d was) (IsReadOn h d)
  unfolding Since
  open-next was is = Decides-or _ _ (more-part past x d) (Decides-and _ _
      (Decides-like _ (λ none r part. none (r, part)) (λ none (r, part). none r part) (Decides-not _ (part-is past x d))) is)

  module _ (was : Bool) (opened : Decides was (IsReadOn past d)) where
    during-next : (is : State → Bool) (P : History → Type 0) → ((k : History) → Decides (is (at k)) (P k)) → (old : Bool)
        → Decides old (During d P past) → Decides (found.during_after (at past) (now h) x d is was old) (During d P h)
    unfolding Since moment
    during-next is P each old before = Decides-or _ _ (each h) (Decides-and _ _ (open-next was opened) before)

    -- it was so always, if it was not otherwise
    always-next : (is : State → Bool) (P : History → Type 0) → ((k : History) → Decides (not (is (at k))) (P k)) → (old : Bool)
        → Decides (not old) (During d P past) → Decides (not (found.always_after (at past) (now h) x d is was old)) (During d P h)
    unfolding moment
    always-next is P each old before = Decides-at _ _ (not-always (is (at h)) (found.is_open_after (at past) (now h) x d was) old)
        (during-next (λ s. not (is s)) P each (not old) before)

    shown-next : (test : List ℕ → Bool) (N : List ℕ → Type 0) → ((name : List ℕ) → Decides (test name) (N name)) → (old : Bool)
        → Decides old (HasShown d N past) → Decides (found.shown_after (at past) (now h) x d test was old) (HasShown d N h)
    unfolding Since
    shown-next test N each old before = Decides-like _
        (λ (on, either). elim either [ inl one ↦ inl (on, one) | inr rest ↦ inr (on, rest) ])
        (λ either. elim either [ inl both ↦ (both.0, inl both.1) | inr both ↦ (both.0, inr both.1) ])
        (Decides-and _ _ (open-next was opened) (Decides-or _ _
        (part-of past x d (λ r shown. list_any test shown) (λ r shown. (k : ℕ) × (name : List ℕ) × (slice_get shown k ≡ Some name) × N name)
        (λ r shown. any-is test N each shown)) before))

  reading-next : (k : ReadingKept) → IsReadingKept past d k → IsReadingKept h d (reading_after (at past) (now h) x d k)
  reading-next k was = record {
    is_open = open-next k.is_open was.is_open;
    was_there = λ name. during-next k.is_open was.is_open (λ s. has_name s d name) (HasName d name) (has-is d name)
        (k.was_there name) (was.was_there name);
    was_always = λ name. always-next k.is_open was.is_open (λ s. has_name s d name) (HasNot d name) (has-not d name)
        (k.was_always name) (was.was_always name);
    is_shown = λ name. shown-next k.is_open was.is_open (λ other. bytes_eq other name) (λ other. other ≡ name)
        (λ other. bytes_eq-Decides other name) (k.is_shown name) (was.is_shown name);
    message_was_always = λ unique. always-next k.is_open was.is_open (λ s. is_there s d.folder unique) (IsWithout d unique)
        (without-is d unique) (k.message_was_always unique) (was.message_was_always unique);
    message_is_shown = λ unique. shown-next k.is_open was.is_open (is_name_of d unique) (IsNameOf d unique) (name-of d unique)
        (k.message_is_shown unique) (was.message_is_shown unique);
  }

pub reading-kept : (h : History) (d : Looker) → IsReadingKept h d (readings_kept h d)
unfolding readings_kept
reading-kept (opening m) d = reading-first m d
reading-kept (next past x) d = reading-next past x d (readings_kept past d) (reading-kept past d)

-- a part is one of a reading
pub first-of : (past : History) (x : Step) (d : Looker) (r : Reply) (shown : List (List ℕ)) → Reads (next past x) d r shown
    → (first : History) × IsReading first (next past x) d
first-of past x d r shown reads =
    has-first d (λ m. (readings_kept m d).is_open) (λ m. (reading-kept m d).is_open) past x r (shown, reads)

-- ---- what is found

module _ (past : History) (x : Step) (d : Looker) (r : Reply) (shown : List (List ℕ)) (reads : Reads (next past x) d r shown) where
  abbrev last : History
  last = next past x

  abbrev kept : ReadingKept
  kept = readings_kept past d

  -- it shows a name that was there at no moment
  wrongly-is : Decides (found.shows_wrongly (at past) d kept shown) (ShowsWrongly last d shown)
  wrongly-is = Decides-like _ to from (any-is _ (λ name. During d (HasName d name) past → ⊥)
      (λ name. Decides-not _ ((reading-kept past d).was_there name)) shown)
    where
      to : (k : ℕ) × (name : List ℕ) × (slice_get shown k ≡ Some name) × (During d (HasName d name) past → ⊥) → ShowsWrongly last d shown
      to (k, name, is, never) =
          let it = first-of past x d r shown reads in (
            it.0,
            name,
            k,
            it.1,
            is,
            λ m here. by m (λ there. never (moment-since d it.0 past x it.1 (HasName d name) m here there))
                (file_at (at m) (path_of d.folder d.place name)) refl,
          )
        where
          by : (m : History) → (HasName d name m → ⊥) → (o : Option ℕ) → file_at (at m) (path_of d.folder d.place name) ≡ o
              → HasNot d name m
          by m not None none = none
          by m not (Some n) some = absurd (not (λ none. cc))

      from : ShowsWrongly last d shown → (k : ℕ) × (name : List ℕ) × (slice_get shown k ≡ Some name) × (During d (HasName d name) past → ⊥)
      from (first, name, k, reading, is, each) = (
        k,
        name,
        is,
        λ since.
            let it = since-moment d first past x reading (HasName d name) since in it.2 (each it.0 it.1),
      )

  -- a path of the directory that was there at each moment, and that no part shows
  abbrev IsLacked : Path → Type 0
  IsLacked p = ((p.folder ≡ d.folder) × (p.place ≡ d.place)) × ((During d (HasNot d p.name) past → ⊥)
      × (ShowsOne d (λ other. other ≡ p.name) last ⊎ HasShown d (λ other. other ≡ p.name) past → ⊥))

  -- the part shows a name of which the test holds
  pub shows-is : (test : List ℕ → Bool) (N : List ℕ → Type 0) → ((name : List ℕ) → Decides (test name) (N name))
      → Decides (list_any test shown) (ShowsOne d N last)
  shows-is test N each = Decides-like _ (λ one. (r, shown, reads, one))
      (λ (q, names, others, one).
      subst (λ w. (k : ℕ) × (name : List ℕ) × (slice_get w k ≡ Some name) × N name) (one-part d last q r names shown others reads).1 one)
      (any-is test N each shown)

  lacked-is : (e : Path × ℕ) → Decides (found.is_lacked (at past) d kept shown e.0) (IsLacked e.0)
  lacked-is e = Decides-and _ _ (Decides-and _ _ (Decides-eqb e.0.folder d.folder) (place-is e.0.place d.place))
      (Decides-and _ _ (not-otherwise _ ((reading-kept past d).was_always e.0.name))
      (Decides-not _ (Decides-or _ _ (shows-is (λ other. bytes_eq other e.0.name) (λ other. other ≡ e.0.name)
      (λ other. bytes_eq-Decides other e.0.name)) ((reading-kept past d).is_shown e.0.name))))

  -- some path is lacking
  lacks-is : Decides (nat_lt 0 (count_where (λ e. found.is_lacked (at past) d kept shown e.0) (at past))) (Lacks last d)
  lacks-is = Decides-like _ to from (some-where (λ e. found.is_lacked (at past) d kept shown e.0) (λ p n. IsLacked p) lacked-is (at past))
    where
      to : (p : Path) × (n : ℕ) × (file_at (at past) p ≡ Some n) × IsLacked p → Lacks last d
      to (p, n, there, lacked) =
          let it = first-of past x d r shown reads in (
            it.0,
            p.name,
            it.1,
            λ shows. lacked.1.1 (shown-to d it.0 past x it.1 (λ other. other ≡ p.name) (p.name, shows, refl)),
            λ m here none. lacked.1.0 (moment-since d it.0 past x it.1 (HasNot d p.name) m here none),
          )

      from : Lacks last d → (p : Path) × (n : ℕ) × (file_at (at past) p ≡ Some n) × IsLacked p
      from (first, name, reading, hidden, each) =
          by (each past (before-past d first past x reading, upto-itself past)) (file_at (at past) (path_of d.folder d.place name)) refl
        where
          by : HasName d name past → (o : Option ℕ) → file_at (at past) (path_of d.folder d.place name) ≡ o
              → (p : Path) × (n : ℕ) × (file_at (at past) p ≡ Some n) × IsLacked p
          by there None none = absurd (there none)
          by there (Some n) some = (
            path_of d.folder d.place name,
            n,
            some,
            (
              (refl, refl),
              (
                λ since. let it = since-moment d first past x reading (HasNot d name) since in each it.0 it.1 it.2,
                λ either.
                    let it = shown-from d first past x reading (λ other. other ≡ name) either in
                    hidden (subst (λ w. Shows first last d w) it.2 it.1),
              ),
            ),
          )

  wrong-with : (q : Reply) → Decides (found.is_wrong_reading (at past) d kept q shown) (IsWrongReading last d q shown)
  wrong-with reply.Ok = Decides-or _ _ wrongly-is lacks-is
  wrong-with reply.More = wrongly-is
  wrong-with reply.NotFound = (λ t. tt, λ u. refl)
  wrong-with q = (λ t. absurd (cc), λ wrong. absurd wrong)

  pub wrong_reading : Decides (found.is_wrong_reading (at past) d kept r shown) (IsWrongReading last d r shown)
  wrong_reading = wrong-with r
