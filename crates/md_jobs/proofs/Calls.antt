-- The calls that a job makes over replies.
use Rattle.std.proofs.Common.{ℕ, suc, ◌≡◌, ◌<◌, ◌≤◌, ◌+◌, List, [], ◌∷◌, Option, Some, None, cond, is_some, length, refl, arith}
use Rattle.md_dirs.specs.declared.rows.Row.{Row}
use Rattle.md_jobs.specs.Made.{Heard, made, effects}
use Rattle.md_jobs.specs.Turn.{Turn, After}
use Rattle.md_jobs.specs.declared.answer.Answer.{Answer}
use Rattle.md_jobs.specs.declared.effect.Effect.{Effect}
use Rattle.md_jobs.specs.declared.step.DirReply.{DirReply}
use Rattle.md_jobs.specs.declared.step.Moment.{Moment}

module _ {T : Type 0} (turn : T → Moment → Turn T) where
  abbrev next : T → Moment → DirReply → List Row → After T
  next t at r rows = (turn t at).follows r rows

  -- where each call leaves fewer, there are few
  module _ (Fits : T → Type 0) (left : T → ℕ) (some : (t : T) → Fits t → 0 < left t)
      (falls : (t : T) (at : Moment) (r : DirReply) (rows : List Row) → Fits t → (next t at r rows).answer ≡ None →
      Fits (next t at r rows).task × (left (next t at r rows).task < left t)) where
    pub few : (t : T) (heard : List Heard) → Fits t → length (made turn t heard) ≤ left t
    unfolding made
    few t [] fits = omega arith
    few t (h ∷ hs) fits = by (next t h.at h.reply h.rows) (falls t h.at h.reply h.rows fits) (λ t' fits'. few t' hs fits')
      where
        by : (after : After T) → (after.answer ≡ None → Fits after.task × (left after.task < left t)) →
            ((t' : T) → Fits t' → length (made turn t' hs) ≤ left t') → suc (length (cond (is_some after.answer) [] (made turn after.task hs))) ≤ left t
        by after fewer rest = of after.answer refl
          where
            of : (o : Option Answer) → after.answer ≡ o → suc (length (cond (is_some o) [] (made turn after.task hs))) ≤ left t
            of (Some a) is = let more = some t fits in omega (arith, more)
            of None is = let on = fewer is in let less = on.1 in let few = rest after.task on.0 in omega (arith, less, few)

  -- where each effect leaves fewer to have, there are few
  module _ (left : T → ℕ)
      (spends : (t : T) (at : Moment) (r : DirReply) (rows : List Row) →
      length (effects (record { asked = (turn t at).asked; reply = r; answer = (next t at r rows).answer; effect = (next t at r rows).effect } ∷ []))
      + cond (is_some (next t at r rows).answer) 0 (left (next t at r rows).task) ≤ left t) where
    pub few-effects : (t : T) (heard : List Heard) → length (effects (made turn t heard)) ≤ left t
    unfolding made
    few-effects t [] = omega arith
    few-effects t (h ∷ hs) = by (next t h.at h.reply h.rows) (spends t h.at h.reply h.rows) (λ t'. few-effects t' hs)
      where
        by : (after : After T) →
            length (effects (record { asked = (turn t h.at).asked; reply = h.reply; answer = after.answer; effect = after.effect } ∷ []))
            + cond (is_some after.answer) 0 (left after.task) ≤ left t →
            ((t' : T) → length (effects (made turn t' hs)) ≤ left t') →
            length (effects (record { asked = (turn t h.at).asked; reply = h.reply; answer = after.answer; effect = after.effect }
            ∷ cond (is_some after.answer) [] (made turn after.task hs))) ≤ left t
        by after spent rest = of after.answer after.effect spent (rest after.task)
          where
            of : (o : Option Answer) (x : Option Effect) →
                length (effects (record { asked = (turn t h.at).asked; reply = h.reply; answer = o; effect = x } ∷ [])) + cond (is_some o) 0 (left after.task)
                ≤ left t → length (effects (made turn after.task hs)) ≤ left after.task →
                length (effects (record { asked = (turn t h.at).asked; reply = h.reply; answer = o; effect = x }
                ∷ cond (is_some o) [] (made turn after.task hs))) ≤ left t
            of (Some a) (Some e) spent few = omega (arith, spent)
            of (Some a) None spent few = omega (arith, spent)
            of None (Some e) spent few = omega (arith, spent, few)
            of None None spent few = omega (arith, spent, few)
