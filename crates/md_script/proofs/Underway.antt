-- A script that is run while it is read: what one read more leaves.
use Rattle.std.proofs.Common.{◌≡◌, ℕ, ◌+◌, ◌-◌, ◌<◌, ◌≤◌, List, [], ◌++◌, Result, length, get_or, take, drop, refl, sym, ap, subst, ◌∙◌, arith, append_assoc, append-nil, length-append}
use Rattle.std.proofs.lemmas.List.{get_or-take, get_or-drop, length-take-le}
use Rattle.std.specs.Io.KnownBytes.{Consumes}
use Rattle.md_head.specs.Header.{IsWholeLines, lines_of}
use Rattle.md_script.specs.declared.error.PlayKind.{PlayKind}
use Rattle.md_script.specs.declared.incoming.Incoming.{Incoming}
use Rattle.md_script.specs.declared.run.Progress.{Progress}
use Rattle.md_script.specs.Sources.{Source, Gave, Paused}
use Rattle.md_script.specs.Reading.{GivesTooMuch, most_bytes}
use Rattle.md_script.specs.Transcript.{transcript_of}
use Rattle.md_script.specs.Progress.{outcome, usable_of}
use Rattle.md_script.specs.Incoming.{line_so_far, TakesIn, Underway, RanWhole}
use Rattle.md_script.proofs.Chunks.{Consumes-append, Consumes-kept, front_parts}
use Rattle.md_script.proofs.Runs.{tells, tells_next}

-- what ends with the line feed at a place
pub whole_block : (room : List ℕ) (f n at : ℕ) → at < n → f + n ≤ length room → get_or (take n (drop f room)) at 0 ≡ 10 → IsWholeLines (take (f + at + 1) room)
whole_block room f n at high there is some =
    let long = length-take-le (f + at + 1) room (omega arith) in
    let last : length (take (f + at + 1) room) - 1 ≡ f + at = omega arith in
    ap (λ k. get_or (take (f + at + 1) room) k 0) last ∙ get_or-take (f + at + 1) room (f + at) 0 (omega arith)
    ∙ sym (get_or-drop f room at 0) ∙ sym (get_or-take n (drop f room) at 0 high) ∙ is

-- the front that was run, and the rest, moved to the front
pub moved_parts : (room new : List ℕ) (end filled : ℕ) → end ≤ filled → take (filled - end) new ≡ take (filled - end) (drop end room)
    → take filled room ≡ take end room ++ take (filled - end) new
moved_parts room new end filled within moved =
    let sum : filled ≡ end + (filled - end) = omega arith in
    ap (λ k. take k room) sum ∙ front_parts room end (filled - end) ∙ ap (λ xs. take end room ++ xs) (sym moved)

module _ {S : Type 0} (step : S → List ℕ → Result (S × List ℕ) PlayKind) (s : S) (old before now : Source) (i : Incoming) (t : S)
    (so_far : Underway step s old before i t) (there : i.filled ≤ length i.room.items) (new : List ℕ) (kept : take i.filled new ≡ line_so_far i) where
  all_parts : (n : ℕ) → (so_far.front ++ line_so_far i) ++ take n (drop i.filled new) ≡ so_far.front ++ take (i.filled + n) new
  all_parts n =
      append_assoc so_far.front (line_so_far i) (take n (drop i.filled new)) ∙ ap (λ xs. so_far.front ++ (xs ++ take n (drop i.filled new))) (sym kept)
      ∙ ap (λ xs. so_far.front ++ xs) (sym (front_parts new i.filled n))

  module _ (n : ℕ) (gave : Gave before now (drop i.filled new) n) (fits : i.filled + n ≤ length new) where
    given_more : Consumes old.remaining now.remaining (so_far.front ++ take (i.filled + n) new)
    given_more = subst (Consumes old.remaining now.remaining) (all_parts n) (Consumes-append old.remaining before.remaining now.remaining _ _ so_far.given gave.bytes)

    counted_more : length (so_far.front ++ take (i.filled + n) new) ≡ i.given + n
    counted_more =
        let a = length-append so_far.front (line_so_far i) in
        let b = length-append so_far.front (take (i.filled + n) new) in
        let c = length-take-le i.filled i.room.items there in
        let d = length-take-le (i.filled + n) new fits in
        let e = so_far.counted in
        omega arith

    pub too_much : 0 < n → most_bytes < i.given + n → GivesTooMuch old now
    too_much some beyond = record {
      bytes = so_far.front ++ take (i.filled + n) new;
      given = given_more;
      beyond = omega (arith, counted_more);
      endless = gave.goes_on some ∙ so_far.endless;
      sound = gave.failed ∙ so_far.sound;
    }

    pub taken_more : 0 < n → (after : Incoming) (u : S) → TakesIn step i.progress t (take (i.filled + n) new) after u → after.given ≡ i.given + n → Underway step s old now after u
    taken_more some after u taken is =
        let parts : so_far.front ++ take (i.filled + n) new ≡ (so_far.front ++ taken.front) ++ line_so_far after =
        ap (λ xs. so_far.front ++ xs) taken.parts ∙ sym (append_assoc so_far.front taken.front (line_so_far after)) in
        record {
          front = so_far.front ++ taken.front;
          given = subst (Consumes old.remaining now.remaining) parts given_more;
          counted = sym (ap length parts) ∙ counted_more ∙ sym is;
          sound = gave.failed ∙ so_far.sound;
          endless = gave.goes_on some ∙ so_far.endless;
          same = λ more. taken.same more ∙ so_far.same (taken.front ++ more)
              ∙ ap (λ script. usable_of step s script) (sym (append_assoc so_far.front taken.front more));
        }

  pub ran_whole : Gave before now (drop i.filled new) 0 → i.given ≤ most_bytes → i.filled ≤ length new → (p : Progress) (u : S)
      → outcome step p u [] ≡ outcome step i.progress t (lines_of (take i.filled new) ++ []) → RanWhole step s old now p u
  ran_whole gave within fits p u is =
      let zero : i.filled + 0 ≡ i.filled = omega arith in
      let all : outcome step p u [] ≡ usable_of step s (so_far.front ++ take i.filled new) =
      is ∙ ap (λ ls. outcome step i.progress t ls) (append-nil (lines_of (take i.filled new))) ∙ so_far.same (take i.filled new) in
      record {
        script = so_far.front ++ take i.filled new;
        whole = record {
          given = subst (λ k. Consumes old.remaining now.remaining (so_far.front ++ take k new)) zero (given_more 0 gave (omega arith));
          ended = gave.ended refl;
          found = gave.found refl ∙ ap (λ k. k + 1) so_far.endless;
          within = let long = counted_more 0 gave (omega arith) in
              let same = ap (λ k. length (so_far.front ++ take k new)) zero in omega arith;
          sound = gave.failed ∙ so_far.sound;
        };
        tells = tells step p u _ (transcript_of step s (so_far.front ++ take i.filled new)) all;
        lines = λ none. omega (arith, tells_next step p u _ (transcript_of step s (so_far.front ++ take i.filled new)) all none);
      }

  pub paused_more : Paused before now → (after : Incoming) → line_so_far after ≡ take i.filled new → after.given ≡ i.given → after.progress ≡ i.progress
      → Underway step s old now after t
  paused_more paused after line given progress =
      let same : line_so_far after ≡ line_so_far i = line ∙ kept in
      record {
        front = so_far.front;
        given = subst (λ xs. Consumes old.remaining now.remaining (so_far.front ++ xs)) (sym same) (Consumes-kept old.remaining before.remaining now.remaining _ so_far.given paused.bytes);
        counted = ap (λ xs. length (so_far.front ++ xs)) same ∙ so_far.counted ∙ sym given;
        sound = paused.failed ∙ so_far.sound;
        endless = paused.goes_on ∙ so_far.endless;
        same = λ more. ap (λ p. outcome step p t (lines_of more)) progress ∙ so_far.same more;
      }
