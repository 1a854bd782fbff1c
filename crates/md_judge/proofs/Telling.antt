-- The history that a log tells, as the log gets one more step.
use Rattle.std.proofs.Common.{ℕ, suc, ◌≡◌, ◌≤◌, ◌+◌, List, [], ◌++◌, ◌∷◌, length, fold, refl, sym, ap, ◌∙◌, arith}
use Rattle.std.proofs.lemmas.List.{length_push, take-append-le, take_all}
use Rattle.md_law.specs.History.{History, next}
use Rattle.md_judge.specs.Logs.{Log, Numbered}
use Rattle.md_judge.specs.Verdict.{beginning, history}

fold-push : {A B : Type 0} (f : A → B → A) (a : A) (xs : List B) (y : B) → fold f a (xs ++ y ∷ []) ≡ f (fold f a xs) y
fold-push f a [] y = refl
fold-push f a (x ∷ xs) y = fold-push f (f a x) xs y

abbrev going : History → Numbered → History
going h x = next h x.step

-- a log with one more step
abbrev pub pushed : Log → Numbered → Log
pushed l z = record l { steps = l.steps ++ z ∷ [] }

module _ (l : Log) (z : Numbered) where
  pub history-same : (i : ℕ) → i ≤ length l.steps → history (pushed l z) i ≡ history l i
  history-same i low = ap (fold going (beginning l)) (take-append-le i l.steps (z ∷ []) low)

  pub history-next : history (pushed l z) (suc (length l.steps)) ≡ next (history l (length l.steps)) z.step
  history-next =
      let long = length_push l.steps z in
      ap (fold going (beginning l)) (take_all (suc (length l.steps)) (l.steps ++ z ∷ []) (omega (arith, long)))
      ∙ fold-push going (beginning l) l.steps z
      ∙ ap (λ xs. next (fold going (beginning l) xs) z.step) (sym (take_all (length l.steps) l.steps (omega arith)))
