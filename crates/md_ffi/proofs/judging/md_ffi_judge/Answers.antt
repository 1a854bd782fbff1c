use Rattle.std.proofs.Common.{rules, ◌≡◌, ◌≢◌, inl, Ok, Err, refl, sym, ap, subst, ◌∙◌, List, ℕ}
use Rattle.md_log.specs.declared.error.LineFault.TheVariants.{NoMemory}
use Rattle.md_ffi.specs.Judging.{findings_bytes}
use Rattle.md_driven.specs.Laying.{Lays}
use Rattle.md_ffi.proofs.judging.md_ffi_judge.Goals as goal

pub returns-in-Ok-packed : goal.returns-in-Ok-packed
returns-in-Ok-packed c =
    let answered = c.in-Ok.ensures in
    let found = c.in-Ok.findings.items in
    let bytes = c.deref-in-Ok-packed.result.now in
    let out = c.args.out.now in
    let whole = c.lay.new.whole in
    let is : bytes ≡ findings_bytes found = c.deref-in-Ok-packed.ensures.value ∙ c.in-Ok-packed.ensures ∙ ap findings_bytes c.deref.ensures.value in
    let laid : Lays bytes out c.lay.new.out whole c.status.result =
    subst (λ (n : ℕ). Lays bytes out c.lay.new.out whole n) (sym c.status.ensures) c.lay.ensures in
    inl (
      Ok found,
      record { is_log = answered.answers_any; ordered = answered.ordered; exact = answered.found; placed = answered.placed },
      (subst (λ (bytes : List ℕ). Lays bytes out c.lay.new.out whole c.status.result) is laid, refl),
    )

pub returns : goal.returns
returns c =
    let answered = c.in-Err.ensures in
    let other : c.in-Err.refused.fault ≢ NoMemory = search rules in
    inl (
      Err c.in-Err.refused,
      record { memory = other; first = answered.answers_any other; apart = λ none. answered.answers none other },
      (c.number-in-Err.ensures, refl, refl, refl),
    )
