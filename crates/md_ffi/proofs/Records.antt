-- Calls of records, one more after those that were made.
use Rattle.std.proofs.Common.{ℕ, ◌≡◌, ◌≢◌, ◌≤◌, ◌-◌, ◌==◌, List, [], ◌∷◌, ◌++◌, Some, None, Ok, true, false, length, take, drop, refl, sym, ap, subst, ◌∙◌, true≢false}
use Rattle.std.proofs.lemmas.Bool.{eqb-true}
use Rattle.std.proofs.lemmas.List.{nil_from_length}
use Rattle.md_jobs.specs.declared.answer.Answer.{Answer}
use Rattle.md_core.specs.Runs.{Run}
use Rattle.md_ffi.specs.Calling.{Comes}
use Rattle.md_ffi.specs.Records.{record_in, Answered, CallsAll, Halts, Record}
use Rattle.md_driven.specs.Shown.{answer_shown}
use Rattle.md_driven.specs.declared.shown.AnswerShown.{AnswerShown}

pub answered-more : (now : ℕ) (so_far : List AnswerShown) (bytes left : List ℕ) (old mid new : Run) → Answered now so_far bytes old left mid
    → (r : Record) → record_in left ≡ Ok r → (a : Answer) (shown : AnswerShown) → shown ≡ answer_shown (Some a)
    → Comes r.asked r.unique r.first r.second now None mid new (Ok a) → Answered now (so_far ++ shown ∷ []) bytes old r.rest new
answered-more now [] bytes left old mid new before r is a shown shows comes = (
  r,
  subst (λ (b : List ℕ). record_in b ≡ Ok r) before.0 is,
  a,
  shows,
  new,
  subst (λ (w : Run). Comes r.asked r.unique r.first r.second now None w new (Ok a)) before.1 comes,
  (refl, refl),
)
answered-more now (x ∷ xs) bytes left old mid new before r is a shown shows comes = (
  before.0,
  before.1,
  before.2,
  before.3,
  before.4,
  before.5,
  answered-more now xs before.0.rest left before.4 mid new before.6 r is a shown shows comes,
)

-- so many calls were made, and this is why no more are
pub halted : (left : List ℕ) (between : Run) {now done status : ℕ} {bytes : List ℕ} {old new : Run} {before after : List AnswerShown}
    → done ≤ length before → Answered now (take done after) bytes old left between → drop done after ≡ drop done before
    → Halts now left (length before - done) between new status → CallsAll now bytes old new before after done status
halted left between within answered kept halts =
    record { left = left; between = between; within = within; answered = answered; kept = kept; halts = halts }

pub not-empty : (xs : List ℕ) → (length xs == 0) ≡ false → xs ≢ []
not-empty xs is e = true≢false (sym (ap (λ (ys : List ℕ). length ys == 0) e) ∙ is)

pub empty : (xs : List ℕ) → (length xs == 0) ≡ true → xs ≡ []
empty xs is = nil_from_length xs (eqb-true (length xs) 0 is)
