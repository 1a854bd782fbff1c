use Rattle.std.proofs.Common.{◌≡◌, ◌<◌, Bool, List, Result, Ok, Err, OnErr, take, drop, filter, length, ◌++◌, ◌∷◌, [], ◌∙◌, ℕ, refl, sym, ap, arith}
use Rattle.std.proofs.lemmas.Bool.Decides.{nat_tests}
use Rattle.std.proofs.lemmas.List.{append-nil, take_at, take-append-drop}
use Rattle.std.proofs.lemmas.List.Elements.{filter-append}
use Rattle.std.specs.FinSet as set
use Rattle.md_name.specs.Letters.{letters, spelling}
use Rattle.md_name.proofs.Bits.{next-within, next-spelled, spelled-whole, letter_of}
use Rattle.md_name.proofs.flags.Flags.write_onto.Goals as goal

-- what isn't 0 is more
some-left : {n : ℕ} → (n ≡ 0 → ⊥) → 0 < n
some-left {n} other = grind (arith, nat_tests)

-- what passes of a list's first elements are the first of those that pass
first-pass : {A : Type 0} (p : A → Bool) (n : ℕ) (xs : List A) → filter p (take n xs) ≡ take (length (filter p (take n xs))) (filter p xs)
first-pass p n xs =
    sym (take_at (filter p (take n xs)) (filter p (drop n xs)) (length (filter p (take n xs))) refl)
    ∙ ap (take (length (filter p (take n xs)))) (sym (filter-append p (take n xs) (drop n xs)) ∙ ap (filter p) (take-append-drop n xs))

on-err : {X E : Type 0} {P : Type 0} (r : Result X E) → P → OnErr r P
on-err (Ok x) p = tt
on-err (Err e) p = p

pub loop-self-init : goal.loop-self-init
loop-self-init c = (omega arith, sym (append-nil c.args.text.now.items))

pub overflow_shr-left : goal.overflow_shr-left
overflow_shr-left c = omega (arith, c.loop-self.invariant.0)

pub returns-then-left-eq0-clause-ok : goal.returns-then-left-eq0-clause-ok
unfolding letters spelling
returns-then-left-eq0-clause-ok c =
    let before = c.args.text.now.items in
    c.loop-self.invariant.1
    ∙ ap (λ cs. before ++ cs) (sym (spelled-whole c.args.self c.self.inside.word c.loop-self.place c.self.view_is c.if-left-eq0.true c.loop-self.invariant.0))

pub overflow_add-next : goal.overflow_add-next
overflow_add-next c = let within = next-within c.args.self c.self.inside.word c.loop-self.place c.self.view_is c.self.invariant (some-left c.if-left-eq0.false) in omega (arith, within)

pub bounds-next : goal.bounds-next
bounds-next c = let within = next-within c.args.self c.self.inside.word c.loop-self.place c.self.view_is c.self.invariant (some-left c.if-left-eq0.false) in omega (arith, within)

pub returns-in_err-push-clause-err : goal.returns-in_err-push-clause-err
unfolding spelling
returns-in_err-push-clause-err c =
    let p : ℕ → Bool = λ l. set.contains c.args.self l in
    let written = filter p (take c.loop-self.place letters) in
    on-err c.from_residual.result
    (length written, c.in_err-push.ensures.items ∙ c.loop-self.invariant.1 ∙ ap (λ ls. c.args.text.now.items ++ ls) (first-pass p c.loop-self.place letters))

pub overflow_add-place : goal.overflow_add-place
overflow_add-place c = let within = next-within c.args.self c.self.inside.word c.loop-self.place c.self.view_is c.self.invariant (some-left c.if-left-eq0.false) in omega (arith, within)

pub loop-self-smaller : goal.loop-self-smaller
loop-self-smaller c = let within = next-within c.args.self c.self.inside.word c.loop-self.place c.self.view_is c.self.invariant (some-left c.if-left-eq0.false) in omega (arith, within)

pub loop-self-preserved : goal.loop-self-preserved
unfolding letters
loop-self-preserved c =
    let some = some-left c.if-left-eq0.false in
    let within = next-within c.args.self c.self.inside.word c.loop-self.place c.self.view_is c.self.invariant some in (
      omega (arith, within),
      c.in_ok-push.ensures.items ∙ ap (λ l. c.loop-self.text.items ++ l ∷ []) (letter_of _ 0 within)
          ∙ next-spelled c.args.self c.self.inside.word c.loop-self.place c.self.view_is c.self.invariant some c.args.text.now.items c.loop-self.text.items c.loop-self.invariant.1,
    )
