-- A text that only grows: what was there stays in front.
use Rattle.std.proofs.Common.{◌≡◌, ℕ, Bool, true, false, cond, List, [], ◌++◌, sym, ap, ◌∙◌, append_assoc, append-nil}
use mathlib.Core.List.{IsPrefix}

pub grown : (old new more : List ℕ) → new ≡ old ++ more → IsPrefix old new
grown old new more is = (more, sym is)

-- where more was appended, or nothing
pub grown_if : (old new more : List ℕ) (done : Bool) → new ≡ cond done (old ++ more) old → IsPrefix old new
grown_if old new more true is = (more, sym is)
grown_if old new more false is = ([], append-nil old ∙ sym is)

pub grown_same : (old new : List ℕ) → new ≡ old → IsPrefix old new
grown_same old new is = ([], append-nil old ∙ sym is)

pub grown_on : (old now new : List ℕ) → IsPrefix old now → IsPrefix now new → IsPrefix old new
grown_on old now new first second = (first.0 ++ second.0, sym (append_assoc old first.0 second.0) ∙ ap (λ xs. xs ++ second.0) first.1 ∙ second.1)
