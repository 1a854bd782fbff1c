-- The bytes that are written so far, with the next piece.
use Rattle.std.proofs.Common.{ℕ, zero, suc, ◌≡◌, ◌+◌, ◌-◌, ◌<◌, ◌≤◌, ◌++◌, List, [], ◌∷◌, length, take, drop, refl, sym, ap, subst, ◌∙◌, arith}
use Rattle.md_core.proofs.Values.{piece_len, piece, Delivery}
use Rattle.md_jobs.specs.Pieces.{pieces_of}
use Rattle.md_jobs.proofs.Pieces.{pieces-less}

take-none : (m : ℕ) → take {A = ℕ} m [] ≡ []
take-none zero = refl
take-none (suc m) = refl

take-add : (k m : ℕ) (xs : List ℕ) → take k xs ++ take m (drop k xs) ≡ take (k + m) xs
take-add zero m xs = let e : m ≡ 0 + m = omega arith in ap (λ n. take n xs) e
take-add (suc k) m [] = take-none m ∙ sym (take-none (suc k + m))
take-add (suc k) m (x ∷ xs) =
    let e : suc (k + m) ≡ suc k + m = omega arith in
    ap (λ ys. x ∷ ys) (take-add k m xs) ∙ ap (λ n. take n (x ∷ xs)) e

module _ (d : Delivery) (k : ℕ) where
  pub piece-more : take k d.body ++ piece d k ≡ take (k + piece_len d k) d.body
  piece-more = take-add k (piece_len d k) d.body

  pub piece-within : k ≤ length d.body → k + piece_len d k ≤ length d.body
  piece-within within = omega arith

  pub piece-less : 0 < d.chunk → k < length d.body → pieces_of (length d.body - (k + piece_len d k)) d.chunk < pieces_of (length d.body - k) d.chunk
  piece-less chunked more =
      let left : length d.body - k - piece_len d k ≡ length d.body - (k + piece_len d k) = omega arith in
      let some : 0 < length d.body - k = omega arith in
      subst (λ (n : ℕ). pieces_of n d.chunk < pieces_of (length d.body - k) d.chunk) left (pieces-less (length d.body - k) d.chunk some chunked)
