use Rattle.std.proofs.Common.{◌≡◌, ◌∙◌, sym, ap, get_or, Some, arith}
use Rattle.std.proofs.lemmas.Option.{slice_get_within, get_or_from_slice_get}
use Rattle.md_text.proofs.Digits.{ends_at_space, ends_with_text, none_read, short_read, whole}
use Rattle.md_text.proofs.numbers.ended_number.Goals as goal
use Rattle.md_text.proofs.numbers.ended_number.Goals.{in_default-via-in-None+else-end-gt0, in_default-via-in-Some-eq32+else-end-gt0-2, in_default-via-in-Some+in_default}

pub returns-in-None-clause-some : goal.returns-in-None-clause-some
returns-in-None-clause-some c =
    let text = c.args.text.now in
    let end = c.args.end in
    let all = whole text end c.requires.within.0 (sym c.requires.next ∙ c.in-None.is) in
    let cut = ends_with_text text end all c.requires.digits in
    short_read text end c.args.value _ cut c.requires.within.0 c.if-end-gt0.true (omega (arith, c.requires.within.1)) c.requires.value
    c.requires.digits

pub returns-in-Some-eq32-clause-some : goal.returns-in-Some-eq32-clause-some
returns-in-Some-eq32-clause-some c =
    let text = c.args.text.now in
    let end = c.args.end in
    let next = sym c.requires.next ∙ c.in-Some-eq32.is ∙ ap Some (sym c.in-Some-eq32.field-0-is ∙ c.in-Some-eq32.field-0-test) in
    let space : get_or text end 0 ≡ 32 = get_or_from_slice_get text end 32 0 next in
    let cut = ends_at_space text end (slice_get_within text end 32 next) space c.requires.digits in
    short_read text end c.args.value _ cut c.requires.within.0 c.if-end-gt0-2.true (omega (arith, c.requires.within.1)) c.requires.value
    c.requires.digits

pub returns-in_default-clause-none : goal.returns-in_default-clause-none
returns-in_default-clause-none c =
    let text = c.args.text.now in
    let end = c.args.end in
    let read = none_read text end 10 c.requires.within.0 c.requires.digits c.requires.stops in
    elim c.in_default.branch [
      | in_default-via-in-None+else-end-gt0 w ↦ let zero : end ≡ 0 = omega (arith, w.if-end-gt0.false) in read (λ none. zero) (λ space. zero)
      | in_default-via-in-Some-eq32+else-end-gt0-2 w ↦
          let zero : end ≡ 0 = omega (arith, w.if-end-gt0-2.false) in read (λ none. zero) (λ space. zero)
      | in_default-via-in-Some+in_default w ↦
          read (λ none. absurd (w.in_default.not-None (c.requires.next ∙ none)))
          (λ space. let same = sym w.in_default.is ∙ c.requires.next ∙ space in
          let byte : w.in_default.field-0 ≡ 32 = cc in absurd (w.in_default.field-0-test.1 (w.in_default.field-0-is ∙ byte)))
    ]
