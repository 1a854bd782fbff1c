-- What is kept of actors and messages goes on with a step as what the monitor keeps.
use Rattle.std.proofs.Common.{ℕ, ◌≡◌, ◌+◌, ◌&&◌, ◌||◌, cond, List, Option, Some, None, Bool, true, false, not, nat_lt, is_some, refl, sym, ap, subst, ◌∙◌, arith}
use Rattle.std.specs.Prelude.{unwrap_or, nat_le}
use Rattle.std.specs.List.{list_all, list_any}
use Rattle.std.specs.Str.{bytes_eq}
use Rattle.std.proofs.lemmas.Slice.Eq.{bytes_eq-Decides}
use Rattle.md_dirs.specs.State.{State}
use Rattle.md_dirs.specs.declared.paths.Path.{Path}
use Rattle.md_name.specs.Letters.{Set, IsOfLetters}
use Rattle.md_log.specs.declared.line.Step.{Step}
use Rattle.md_law.specs.Answers.{Claim}
use Rattle.md_law.specs.History.{after_call}
use Rattle.md_monitor.specs.Changes.{change_of}
use Rattle.md_monitor.specs.Files.{is_ok}
use Rattle.md_monitor.specs.Messages.{is_of, is_there, paths_of}
use Rattle.md_monitor.specs.Answers.{ClaimKept, acts_by, claim_after, claim_first, is_flagged, is_told_by, is_unlink, looks_by}
use Rattle.md_monitor.proofs.Recounting.{recount}
use Rattle.md_watch.specs.declared.claims.Claims.{Claims}
use Rattle.md_watch.specs.declared.claims.actor.Actor.{Actor}
use Rattle.md_kept.specs.declared.messages.Messages.{Messages}
use Rattle.md_watch.specs.declared.presences.InFolders.{InFolders}
use Rattle.md_kept.specs.Changes.{Turn}
use Rattle.md_watch.specs.Claims.{ActsAs, AreClaimsBy, Did, FlagSpells, IsBefore, IsClaim, MessageSpells, Steps, act_by, actor_in, begin, change, change_by, did_before, did_by, is_left_by, is_told, look_by, look_of, nothing, told_by, told_of, was_at, was_gone, was_shown}
use Rattle.md_kept.specs.Messages.{count_in_folder}
use Rattle.md_watch.specs.Presences.{in_folders, is_in_folder}
use Rattle.md_watch.specs.Spells.{IsTimely, Passes}
use Rattle.md_watch.proofs.Counting.{one}
use Rattle.md_watch.proofs.Did.{begun-so, later, twice, twice-added, twice-all, twice-begun, twice-changed, twice-expunged, twice-refused, twice-taken}
use Rattle.md_watch.proofs.Left.{act-only, before-next, left-own, look-next, refused-next, told-acts, told-is}
use Rattle.md_watch.proofs.Passing.{has, in-folder, turned-not}
use Rattle.md_watch.proofs.Since.{gone-other, gone-own, now-here, shown-other, shown-own, stays-any}
use Rattle.md_watch.proofs.Turning.{turn}

-- ---- what the monitor keeps after a step, by whether the step is the actor's own, and tells of the message

abbrev owned : Bool → Bool → Bool → Bool → Bool
owned own told is old = (own && (not (own && told) && is)) || (not (own && told) && old)

abbrev lately : Bool → Bool → Bool → Bool → Bool → Bool → Bool
lately own told changes is work old = (owned own told true work && is) || ((not (own && told) && not (own && changes)) && old)

abbrev left-by : Bool → Bool → Bool → Bool → Bool → Bool
left-by own told refused again old = (own && refused) || ((not (own && told) && not (own && again)) && old)

-- ---- a step between two moments

module _ (n : ℕ) (s : State) (clock : ℕ) (x : Step) (there there' : MessageSpells) (shown shown' : FlagSpells)
    (timely : (f : ℕ) (u : List ℕ) → IsTimely n (is_there s f u) (there f u))
    (passes : (f : ℕ) (u : List ℕ) → Passes (is_there s f u) (is_there (after_call x.call clock s) f u) n (there f u) (there' f u))
    (flags-timely : (c : Claim) (flags : Set) → IsOfLetters flags → IsTimely n (is_flagged s c flags) (shown c.folder c.unique flags))
    (flags-pass : (c : Claim) (flags : Set) → IsOfLetters flags
    → Passes (is_flagged s c flags) (is_flagged (after_call x.call clock s) c flags) n
    (shown c.folder c.unique flags) (shown' c.folder c.unique flags)) where
  abbrev after : State
  after = after_call x.call clock s

  abbrev t : Turn
  t = turn s (change_of s x.call)

  -- ---- a step of another

  other : (c : Claim) (o : Option Actor) (kept : ClaimKept) → bytes_eq x.actor c.actor ≡ false → IsClaim n s there shown c o kept
      → IsClaim (n + 1) after there' shown' c o (claim_after s clock x c kept)
  other c o kept not-own is =
      let d = did_by o c.folder c.unique in
      let changes : Bool = has c.folder c.unique t.named || has c.folder c.unique t.taken in
      record {
        left = is.left ∙ sym (λ i. left-by (not-own i) (is_told_by x.call c) (acts_by x.call c (λ r. not (is_ok r)))
            (acts_by x.call c (λ r. true) || looks_by x.call c) kept.is_left);
        at_work = is.at_work ∙ sym (λ i. owned (not-own i) (is_told_by x.call c) true kept.is_at_work);
        added = is.added ∙ sym (λ i. owned (not-own i) (is_told_by x.call c)
            (not (is_there s c.folder c.unique) && is_there after c.folder c.unique) kept.has_added);
        moved = λ to. stays-any n (is_there s to c.unique) (is_there after to c.unique) (there to c.unique) (there' to c.unique)
            (timely to c.unique) (passes to c.unique) d.taken is.taken ∙ is.moved to
            ∙ sym (λ i. owned (not-own i) (is_told_by x.call c)
            ((is_there s c.folder c.unique && not (is_there after c.folder c.unique)) && is_there after to c.unique) (kept.has_moved to));
        expunged = is.expunged ∙ sym (λ i. owned (not-own i) (is_told_by x.call c)
            ((is_there s c.folder c.unique && not (is_there after c.folder c.unique)) && is_unlink x.call) kept.has_expunged);
        changed = is.changed ∙ sym (λ i. owned (not-own i) (is_told_by x.call c) changes kept.has_changed);
        absent = gone-other n (is_there s c.folder c.unique) (is_there after c.folder c.unique) (there c.folder c.unique)
            (there' c.folder c.unique) (timely c.folder c.unique) (passes c.folder c.unique) d.begun is.begun
            ∙ (λ i. (is.at_work i && not (is_there after c.folder c.unique)) || is.absent i)
            ∙ sym (λ i. lately (not-own i) (is_told_by x.call c) changes (not (is_there after c.folder c.unique)) kept.is_at_work
            kept.was_absent);
        flagged = λ flags letters. shown-other n (is_flagged s c flags) (is_flagged after c flags) (shown c.folder c.unique flags)
            (shown' c.folder c.unique flags) (flags-timely c flags letters) (flags-pass c flags letters) d.begun is.begun
            ∙ (λ i. (is.at_work i && is_flagged after c flags) || is.flagged flags letters i)
            ∙ sym (λ i. lately (not-own i) (is_told_by x.call c) changes (is_flagged after c flags) kept.is_at_work
            (kept.was_flagged flags));
        begun = before-next (n + 1) d.begun is.begun;
        refused = before-next (n + 1) d.refused is.refused;
        look = before-next (n + 1) (look_of o c.folder) is.look;
        taken = later n d.taken is.taken;
        told = is.told;
      }

  -- ---- a step of the actor's own

  module _ (before left : InFolders) (c : Claim) (o o' : Option Actor) (kept : ClaimKept) (is : IsClaim n s there shown c o kept)
      (own : bytes_eq x.actor c.actor ≡ true) (acts : ActsAs x.call t before left (n + 1) o o') where
    abbrev was-in : Bool
    was-in = is_there s c.folder c.unique

    abbrev is-in : Bool
    is-in = is_there after c.folder c.unique

    abbrev unlinks : Bool
    unlinks = is_unlink x.call

    abbrev d : Did
    d = did_by o c.folder c.unique

    abbrev d' : Did
    d' = did_by o' c.folder c.unique

    -- what was done about the message before paths change
    abbrev acted : Did
    acted = act_by x.call (n + 1) c.folder c.unique (begin (unwrap_or d.begun (n + 1)) d)

    abbrev of-named : Bool
    of-named = has c.folder c.unique t.named

    abbrev of-taken : Bool
    of-taken = has c.folder c.unique t.taken

    -- an answer about the message
    module _ (told : is_told_by x.call c ≡ true) where
      told-so : is_told (told_by x.call) c.folder c.unique ≡ true
      told-so = told-is x.call c ∙ told

      cleared : d' ≡ nothing None
      cleared = acts.deeds c.folder c.unique ∙ ap (λ b. cond b (nothing None)
          (change_by t.named before.named left.named unlinks (n + 1) c.folder c.unique
          (change_by t.taken before.taken left.taken unlinks (n + 1) c.folder c.unique
          (act_by x.call (n + 1) c.folder c.unique (cond (is_told (told_of o) c.folder c.unique)
          (begin (n + 1) (did_before o (n + 1) c.folder c.unique)) (did_before o (n + 1) c.folder c.unique)))))) told-so

      answered : IsClaim (n + 1) after there' shown' c o' (claim_after s clock x c kept)
      answered = record {
        left = ap (λ (e : Did). is_left_by e.refused (look_of o' c.folder)) cleared
            ∙ sym (ap (λ b. b || false) (told-acts x.call c (λ r. not (is_ok r)) told))
            ∙ sym (λ i. left-by (own i) (told i) (acts_by x.call c (λ r. not (is_ok r)))
            (acts_by x.call c (λ r. true) || looks_by x.call c) kept.is_left);
        at_work = ap (λ (e : Did). is_some e.begun) cleared ∙ sym (λ i. owned (own i) (told i) true kept.is_at_work);
        added = ap (λ (e : Did). e.has_added) cleared ∙ sym (λ i. owned (own i) (told i)
            (not was-in && is-in) kept.has_added);
        moved = λ to. ap (λ (e : Did). list_any (was_at after there' to c.unique) e.taken) cleared
            ∙ sym (λ i. owned (own i) (told i)
            ((was-in && not is-in) && is_there after to c.unique) (kept.has_moved to));
        expunged = ap (λ (e : Did). e.has_expunged) cleared ∙ sym (λ i. owned (own i) (told i)
            ((was-in && not is-in) && unlinks) kept.has_expunged);
        changed = ap (λ (e : Did). e.has_changed) cleared ∙ sym (λ i. owned (own i) (told i) (of-named || of-taken) kept.has_changed);
        absent = ap (λ (e : Did). was_gone (n + 1) after there' c.folder c.unique e.begun) cleared
            ∙ sym (λ i. lately (own i) (told i) (of-named || of-taken) (not is-in) kept.is_at_work kept.was_absent);
        flagged = λ flags letters. ap (λ (e : Did). was_shown after shown' c flags e.begun) cleared
            ∙ sym (λ i. lately (own i) (told i) (of-named || of-taken) (is_flagged after c flags) kept.is_at_work
            (kept.was_flagged flags));
        begun = subst (λ (e : Did). IsBefore (n + 1 + 1) e.begun) (sym cleared) tt;
        refused = subst (λ (e : Did). IsBefore (n + 1 + 1) e.refused) (sym cleared) tt;
        look = subst (λ k. IsBefore (n + 1 + 1) k) (sym (acts.looks c.folder))
            (look-next x.call (n + 1) c.folder (look_of o c.folder) is.look);
        taken = ap (λ (e : Did). list_all (λ k. nat_le k (n + 1)) e.taken) cleared;
        told = ap (λ k. is_told k c.folder c.unique) acts.told ∙ told-so
            ∙ sym (λ i. acts.there i && not (is_some ((cleared i).begun)));
      }

    -- another step
    module _ (untold : is_told_by x.call c ≡ false)
        (named-so : of-named ≡ true → (before.named ≡ was-in) × (left.named ≡ is-in))
        (taken-so : of-taken ≡ true → (before.taken ≡ was-in) × (left.taken ≡ is-in))
        (same : (of-named || of-taken) ≡ false → is-in ≡ was-in) where
      abbrev done : Did
      done = twice was-in is-in unlinks (n + 1) acted of-named of-taken

      so : (b : Bool) (w i was is : Bool) → (b ≡ true → (w ≡ was) × (i ≡ is)) → (e : Did)
          → cond b (change w i unlinks (n + 1) e) e ≡ cond b (change was is unlinks (n + 1) e) e
      so true w i was is both e = let e-so = both refl in (λ j. change (e-so.0 j) (e-so.1 j) unlinks (n + 1) e)
      so false w i was is both e = refl

      did-so : d' ≡ done
      did-so = acts.deeds c.folder c.unique
          ∙ ap (λ b. cond b (nothing None)
          (change_by t.named before.named left.named unlinks (n + 1) c.folder c.unique
          (change_by t.taken before.taken left.taken unlinks (n + 1) c.folder c.unique
          (act_by x.call (n + 1) c.folder c.unique (cond (is_told (told_of o) c.folder c.unique)
          (begin (n + 1) (did_before o (n + 1) c.folder c.unique)) (did_before o (n + 1) c.folder c.unique)))))) (told-is x.call c ∙ untold)
          ∙ ap (λ e. change_by t.named before.named left.named unlinks (n + 1) c.folder c.unique
          (change_by t.taken before.taken left.taken unlinks (n + 1) c.folder c.unique (act_by x.call (n + 1) c.folder c.unique e)))
          (begun-so o (n + 1) c.folder c.unique is.told)
          ∙ ap (λ e. change_by t.named before.named left.named unlinks (n + 1) c.folder c.unique e)
          (so of-taken before.taken left.taken _ _ taken-so acted)
          ∙ so of-named before.named left.named _ _ named-so _

      acted-so : acted ≡ record (begin (unwrap_or d.begun (n + 1)) d) { refused = acted.refused }
      acted-so = act-only x.call (n + 1) c.folder c.unique (begin (unwrap_or d.begun (n + 1)) d)

      began : d'.begun ≡ Some (cond (of-named || of-taken) (n + 1) (unwrap_or d.begun (n + 1)))
      began = ap (λ (e : Did). e.begun) did-so ∙ twice-begun was-in is-in unlinks (n + 1) acted (unwrap_or d.begun (n + 1))
          (ap (λ (e : Did). e.begun) acted-so) of-named of-taken

      began-by : (changes : Bool) (b : Option ℕ) → IsBefore (n + 1) b
          → IsBefore (n + 1 + 1) (Some (cond changes (n + 1) (unwrap_or b (n + 1))))
      began-by true b before = omega arith
      began-by false None before = omega arith
      began-by false (Some k) before = omega (arith, before)

      left-so : is_left_by d'.refused (look_of o' c.folder)
          ≡ (acts_by x.call c (λ r. not (is_ok r)) || (not (acts_by x.call c (λ r. true) || looks_by x.call c) && kept.is_left))
      left-so = (λ i. is_left_by ((did-so i).refused) (acts.looks c.folder i))
          ∙ ap (λ r. is_left_by r (look_by x.call (n + 1) c.folder (look_of o c.folder)))
          (twice-refused was-in is-in unlinks (n + 1) acted of-named of-taken)
          ∙ left-own x.call c (n + 1) (begin (unwrap_or d.begun (n + 1)) d) (look_of o c.folder) is.refused is.look
          ∙ ap (λ b. acts_by x.call c (λ r. not (is_ok r)) || (not (acts_by x.call c (λ r. true) || looks_by x.call c) && b)) is.left

      moved-so : (to : ℕ) → list_any (was_at after there' to c.unique) d'.taken
          ≡ (((was-in && not is-in) && is_there after to c.unique) || kept.has_moved to)
      moved-so to = ap (λ (e : Did). list_any (was_at after there' to c.unique) e.taken) did-so
          ∙ twice-taken was-in is-in unlinks (n + 1) acted of-named of-taken same (was_at after there' to c.unique)
          ∙ (λ i. ((was-in && not is-in)
          && now-here n (is_there s to c.unique) (is_there after to c.unique) (there to c.unique) (there' to c.unique)
          (timely to c.unique) (passes to c.unique) i) || list_any (was_at after there' to c.unique) ((acted-so i).taken))
          ∙ ap (λ b. ((was-in && not is-in) && is_there after to c.unique) || b)
          (stays-any n (is_there s to c.unique) (is_there after to c.unique) (there to c.unique) (there' to c.unique)
          (timely to c.unique) (passes to c.unique) d.taken is.taken ∙ is.moved to)

      own-act : IsClaim (n + 1) after there' shown' c o' (claim_after s clock x c kept)
      own-act = record {
        left = left-so ∙ sym (λ i. left-by (own i) (untold i) (acts_by x.call c (λ r. not (is_ok r)))
            (acts_by x.call c (λ r. true) || looks_by x.call c) kept.is_left);
        at_work = ap is_some began ∙ sym (λ i. owned (own i) (untold i) true kept.is_at_work);
        added = ap (λ (e : Did). e.has_added) did-so ∙ twice-added was-in is-in unlinks (n + 1) acted of-named of-taken same
            ∙ ap (λ (e : Did). (not was-in && is-in) || e.has_added) acted-so
            ∙ ap (λ b. (not was-in && is-in) || b) is.added
            ∙ sym (λ i. owned (own i) (untold i)
            (not was-in && is-in) kept.has_added);
        moved = λ to. moved-so to ∙ sym (λ i. owned (own i) (untold i)
            ((was-in && not is-in) && is_there after to c.unique) (kept.has_moved to));
        expunged = ap (λ (e : Did). e.has_expunged) did-so ∙ twice-expunged was-in is-in unlinks (n + 1) acted of-named of-taken same
            ∙ ap (λ (e : Did). ((was-in && not is-in) && unlinks)
            || e.has_expunged) acted-so
            ∙ ap (λ b. ((was-in && not is-in) && unlinks) || b) is.expunged
            ∙ sym (λ i. owned (own i) (untold i)
            ((was-in && not is-in) && unlinks) kept.has_expunged);
        changed = ap (λ (e : Did). e.has_changed) did-so ∙ twice-changed was-in is-in unlinks (n + 1) acted of-named of-taken
            ∙ ap (λ (e : Did). (of-named || of-taken) || e.has_changed) acted-so ∙ ap (λ b. (of-named || of-taken) || b) is.changed
            ∙ sym (λ i. owned (own i) (untold i) (of-named || of-taken) kept.has_changed);
        absent = ap (was_gone (n + 1) after there' c.folder c.unique) began
            ∙ gone-own n was-in is-in (there c.folder c.unique)
            (there' c.folder c.unique) (timely c.folder c.unique) (passes c.folder c.unique) (of-named || of-taken) d.begun is.begun
            ∙ (λ i. not is-in || (not (of-named || of-taken) && is.absent i))
            ∙ sym (λ i. lately (own i) (untold i) (of-named || of-taken) (not is-in) kept.is_at_work kept.was_absent);
        flagged = λ flags letters. ap (was_shown after shown' c flags) began
            ∙ shown-own n (is_flagged s c flags) (is_flagged after c flags) (shown c.folder c.unique flags)
            (shown' c.folder c.unique flags) (flags-timely c flags letters) (flags-pass c flags letters) (of-named || of-taken) d.begun is.begun
            ∙ (λ i. is_flagged after c flags || (not (of-named || of-taken) && is.flagged flags letters i))
            ∙ sym (λ i. lately (own i) (untold i) (of-named || of-taken) (is_flagged after c flags) kept.is_at_work
            (kept.was_flagged flags));
        begun = subst (λ k. IsBefore (n + 1 + 1) k) (sym began) (began-by (of-named || of-taken) d.begun is.begun);
        refused = subst (λ k. IsBefore (n + 1 + 1) k)
            (sym (ap (λ (e : Did). e.refused) did-so ∙ twice-refused was-in is-in unlinks (n + 1) acted of-named of-taken))
            (refused-next x.call (n + 1) c.folder c.unique (begin (unwrap_or d.begun (n + 1)) d) is.refused);
        look = subst (λ k. IsBefore (n + 1 + 1) k) (sym (acts.looks c.folder))
            (look-next x.call (n + 1) c.folder (look_of o c.folder) is.look);
        taken = ap (λ (e : Did). list_all (λ k. nat_le k (n + 1)) e.taken) did-so
            ∙ twice-all was-in is-in unlinks (n + 1) acted of-named of-taken
            (ap (λ (e : Did). list_all (λ k. nat_le k (n + 1)) e.taken) acted-so ∙ later n d.taken is.taken);
        told = ap (λ k. is_told k c.folder c.unique) acts.told ∙ told-is x.call c ∙ untold
            ∙ sym (λ i. acts.there i && not (is_some (began i)));
      }

  -- ---- any step

  module _ (m m' : Messages) (was : (f : ℕ) (u : List ℕ) → count_in_folder m f u ≡ paths_of s f u)
      (left : (f : ℕ) (u : List ℕ) → count_in_folder m' f u ≡ paths_of after f u) where
    -- the message of a path is there, or not
    path-so : (k : Messages) (state : State) → ((f : ℕ) (u : List ℕ) → count_in_folder k f u ≡ paths_of state f u) → (f : ℕ) (u : List ℕ)
        → (e : Option (Path × ℕ)) → has f u e ≡ true → is_in_folder k e ≡ is_there state f u
    path-so k state counts f u e of = in-folder f u k e of ∙ ap (nat_lt 0) (counts f u)

    unvisited : (f : ℕ) (u : List ℕ) → (has f u t.named || has f u t.taken) ≡ false → is_there after f u ≡ is_there s f u
    unvisited f u none = by (has f u t.named) refl none
      where
        by : (b : Bool) → has f u t.named ≡ b → (b || has f u t.taken) ≡ false → is_there after f u ≡ is_there s f u
        by true named none = absurd (cc)
        by false unnamed untaken =
            let counts = recount (λ e. is_of f u e.0) s x.call clock in
            let unturned = ap one (turned-not f u s t.named unnamed) in
            let none = ap one unnamed in
            let gone = ap one untaken in
            let same : paths_of after f u ≡ paths_of s f u = omega (arith, counts, unturned, none, gone) in
            ap (nat_lt 0) same

    own-step : (c : Claim) (o o' : Option Actor) (kept : ClaimKept) → bytes_eq x.actor c.actor ≡ true → IsClaim n s there shown c o kept
        → ActsAs x.call t (in_folders m t) (in_folders m' t) (n + 1) o o'
        → IsClaim (n + 1) after there' shown' c o' (claim_after s clock x c kept)
    own-step c o o' kept own is acts = by (is_told_by x.call c) refl
      where
        by : (b : Bool) → is_told_by x.call c ≡ b → IsClaim (n + 1) after there' shown' c o' (claim_after s clock x c kept)
        by true told = answered (in_folders m t) (in_folders m' t) c o o' kept is own acts told
        by false untold = own-act (in_folders m t) (in_folders m' t) c o o' kept is own acts untold
            (λ of. (path-so m s was c.folder c.unique t.named of, path-so m' after left c.folder c.unique t.named of))
            (λ of. (path-so m s was c.folder c.unique t.taken of, path-so m' after left c.folder c.unique t.taken of))
            (unvisited c.folder c.unique)

    pub claims-next : (old new : Claims) (kept : Claim → ClaimKept) → AreClaimsBy n s there shown old kept
        → Steps x t (in_folders m t) (in_folders m' t) (n + 1) old new
        → AreClaimsBy (n + 1) after there' shown' new (λ c. claim_after s clock x c (kept c))
    claims-next old new kept are steps c = by (bytes_eq x.actor c.actor) refl
      where
        by : (b : Bool) → bytes_eq x.actor c.actor ≡ b
            → IsClaim (n + 1) after there' shown' c (actor_in new c.actor) (claim_after s clock x c (kept c))
        by true own = own-step c (actor_in old c.actor) (actor_in new c.actor) (kept c) own (are c)
            (subst (λ (a : List ℕ). ActsAs x.call t (in_folders m t) (in_folders m' t) (n + 1) (actor_in old a) (actor_in new a))
            ((bytes_eq-Decides x.actor c.actor).0 own) steps.own)
        by false not-own = subst (λ o. IsClaim (n + 1) after there' shown' c o (claim_after s clock x c (kept c)))
            (sym (steps.others c.actor not-own)) (other c (actor_in old c.actor) (kept c) not-own (are c))

-- ---- the beginning

-- nothing was done
pub claims-none : (n : ℕ) (s : State) (there : MessageSpells) (shown : FlagSpells) (w : Claims)
    → ((actor : List ℕ) → actor_in w actor ≡ None)
    → AreClaimsBy n s there shown w (λ c. claim_first)
claims-none n s there shown w none c = subst (λ o. IsClaim n s there shown c o claim_first) (sym (none c.actor)) (record {
  left = refl;
  at_work = refl;
  added = refl;
  moved = λ to. refl;
  expunged = refl;
  changed = refl;
  absent = refl;
  flagged = λ flags letters. refl;
  begun = tt;
  refused = tt;
  look = tt;
  taken = refl;
  told = refl;
})
