-- Where the keys of two names differ, they go as the names do.
use Rattle.std.proofs.Common.{ℕ, zero, suc, ◌≡◌, ◌+◌, ◌-◌, ◌*◌, ◌^◌, ◌<◌, ◌≤◌, List, [], ◌∷◌, refl, sym, ap, ◌∙◌, arith, drop, take, get_or, Fits, w8}
use Rattle.std.proofs.Math.Facts.{Fits-lt-pow}
use Rattle.std.proofs.Math.Nat.{pow-suc, mul-le-mul_right, pow-le-pow_right}
use Rattle.std.proofs.lemmas.Cmp.{ranked, nat_list_cmp_total}
use Rattle.std.proofs.lemmas.List.{get_or_default}
use Rattle.std.proofs.lemmas.List.Elements.{All-head, All-tail}
use Rattle.std.specs.declared.cmp.Ordering.{Ordering}
use Rattle.std.specs.declared.cmp.Ordering.TheVariants.{Less, Equal, Greater}
use Rattle.std.specs.Ordering.{nat_cmp, ordering_then, ordering_reverse}
use Rattle.std.specs.Cmp.Lexicographic.{slice_cmp}
use Rattle.std.specs.Int.{w128, byte_worth, sum_through, from_be_bytes}
use Rattle.md_dirs.specs.Keys.{key_from, AreBytes, IsKeyOf}

pub are-bytes : (s : List ℕ) → ((k : ℕ) → Fits w8 (get_or s k 0)) → AreBytes s
are-bytes s fits = λ k d h.
    let small : get_or s k 0 < 2 ^ 8 = Fits-lt-pow (fits k) in
    let e = get_or_default s k d 0 h in
    omega (arith, small, e)

pub some_power : (n : ℕ) → 0 < 256 ^ n
some_power zero = omega arith
some_power (suc n) = let h = some_power n in omega (arith, h, pow-suc 256 n)

-- a byte and what is behind it
digit : (b k p : ℕ) → b < 2 ^ 8 → k < p → b * p + k < p * 256
digit b k p small below = let le : b ≤ 255 = omega arith in let h : b * p ≤ 255 * p = mul-le-mul_right p le in omega arith

pub key_from-below : (n : ℕ) (s : List ℕ) → AreBytes s → key_from n s < 256 ^ n
unfolding key_from
key_from-below zero s h = omega arith
key_from-below (suc n) [] h = some_power (suc n)
key_from-below (suc n) (b ∷ s) h =
    rw (pow-suc 256 n) (digit b (key_from n s) (256 ^ n) (All-head (λ x. x < 2 ^ 8) b s h) (key_from-below n s (All-tail (λ x. x < 2 ^ 8) b s h)))

pub keys_less : (n : ℕ) (s t : List ℕ) → AreBytes s → AreBytes t → key_from n s < key_from n t → slice_cmp nat_cmp s t ≡ Less
unfolding key_from
keys_less zero s t hs ht h = absurd (omega arith)
keys_less (suc n) [] [] hs ht h = absurd (omega arith)
keys_less (suc n) [] (y ∷ t) hs ht h = refl
keys_less (suc n) (x ∷ s) [] hs ht h = absurd (omega arith)
keys_less (suc n) (x ∷ s) (y ∷ t) hs ht h =
    elim (nat_cmp x y) as (λ r. r ≡ nat_cmp x y → ordering_then r (slice_cmp nat_cmp s t) ≡ Less) [
      | Less ↦ λ is. refl
      | Equal ↦ λ is.
          let same : x ≡ y = ranked x y Equal is in
          let e : x * 256 ^ n ≡ y * 256 ^ n = ap (λ d. d * 256 ^ n) same in
          keys_less n s t (All-tail (λ b. b < 2 ^ 8) x s hs) (All-tail (λ b. b < 2 ^ 8) y t ht) (omega (arith, h, e))
      | Greater ↦ λ is.
          let above : y < x = ranked x y Greater is in
          let small = key_from-below n t (All-tail (λ b. b < 2 ^ 8) y t ht) in
          let le : y + 1 ≤ x = omega arith in
          let m : (y + 1) * 256 ^ n ≤ x * 256 ^ n = mul-le-mul_right (256 ^ n) le in
          absurd (omega (arith, h, small, m))
    ] refl

-- keys in place of names
pub by_keys : (j k : ℕ) (s t : List ℕ) → IsKeyOf j s → IsKeyOf k t → (r : Ordering) → r ≡ nat_cmp j k → (Equal ≡ nat_cmp j k → slice_cmp nat_cmp s t ≡ r)
    → slice_cmp nat_cmp s t ≡ r
by_keys j k s t hj hk Less is tie =
    let below : j < k = ranked j k Less is in keys_less 16 s t hj.bytes hk.bytes (omega (arith, hj.key, hk.key, below))
by_keys j k s t hj hk Equal is tie = tie is
by_keys j k s t hj hk Greater is tie =
    let above : k < j = ranked j k Greater is in
    nat_list_cmp_total.antisymm s t ∙ ap ordering_reverse (keys_less 16 t s hk.bytes hj.bytes (omega (arith, hj.key, hk.key, above)))

key_from-none : (n : ℕ) → key_from n [] ≡ 0
unfolding key_from
key_from-none zero = refl
key_from-none (suc n) = refl

-- the next byte of a name, or a zero behind it
key_from-next : (n : ℕ) (s : List ℕ) (at : ℕ) → key_from (suc n) (drop at s) ≡ get_or s at 0 * 256 ^ n + key_from n (drop (suc at) s)
unfolding key_from
key_from-next n [] zero = let e = key_from-none n in omega (arith, e)
key_from-next n [] (suc at) = let e = key_from-none n in omega (arith, e)
key_from-next n (b ∷ s) zero = refl
key_from-next n (b ∷ s) (suc at) = key_from-next n s at

key_from-taken : (n : ℕ) (s : List ℕ) → key_from n (take n s) ≡ key_from n s
unfolding key_from
key_from-taken zero s = refl
key_from-taken (suc n) [] = refl
key_from-taken (suc n) (b ∷ s) = ap (λ k. b * 256 ^ n + k) (key_from-taken n s)

pub rest-step : (key byte m n at next k : ℕ) (s : List ℕ) → m ≡ suc n → next ≡ suc at → byte ≡ get_or s at 0 →
    key * 256 ^ m + key_from m (drop at s) ≡ k → (key * 256 + byte) * 256 ^ n + key_from n (drop next s) ≡ k
rest-step key byte m n at next k s hm hn hb h =
    let one = ap (λ j. key * 256 ^ j + key_from j (drop at s)) (sym hm) ∙ h in
    let more = key_from-next n s at in
    let power = pow-suc 256 n in
    let same : byte * 256 ^ n ≡ get_or s at 0 * 256 ^ n = ap (λ b. b * 256 ^ n) hb in
    let wide : key * 256 ^ suc n ≡ key * (256 ^ n * 256) = ap (λ p. key * p) power in
    rw hn (omega (arith, one, more, same, wide))

pub rest-done : (key at k : ℕ) (s : List ℕ) → at ≡ 16 → key * 256 ^ (16 - at) + key_from (16 - at) (drop at s) ≡ k → key ≡ k
unfolding key_from
rest-done key at k s end h =
    let e = ap (λ i. key * 256 ^ (16 - i) + key_from (16 - i) (drop i s)) (sym end) ∙ h in omega (arith, e)

pub key-grows : (key byte at next : ℕ) → next ≡ suc at → byte < 2 ^ 8 → key < 256 ^ at → key * 256 + byte < 256 ^ next
key-grows key byte at next hn hb h =
    let le : key + 1 ≤ 256 ^ at = omega arith in
    let power = pow-suc 256 at in
    rw hn (omega (arith, le, power, hb))

pub key-fits : (key byte at : ℕ) → at < 16 → byte < 2 ^ 8 → key < 256 ^ at → key * 256 + byte < 2 ^ 128
key-fits key byte at within hb h =
    let up : 256 ^ suc at ≤ 256 ^ 16 = pow-le-pow_right {n = 256} (omega arith) {i = suc at} {j = 16} (omega arith) in
    let below = key-grows key byte at (suc at) refl hb h in
    omega (arith, up, below)

worth : (i b : ℕ) → byte_worth i b ≡ b * 256 ^ i
worth zero b = omega arith
worth (suc i) b = refl

-- the worth of the bytes up to one of the first 16, and the key of what is behind it
summed : (at : ℕ) → at < 16 → (s : List ℕ) →
    sum_through (λ i. byte_worth (15 - i) (get_or s i 0)) at + key_from (15 - at) (drop (suc at) s) ≡ key_from 16 s
summed zero h s = sym (key_from-next 15 s 0)
summed (suc at) h s =
    let n = 15 - suc at in
    let e : 15 - at ≡ suc n = omega arith in
    let next = key_from-next n s (suc at) in
    let w = worth n (get_or s (suc at) 0) in
    let sum = sum_through (λ i. byte_worth (15 - i) (get_or s i 0)) at in
    let before : sum + key_from (suc n) (drop (suc at) s) ≡ key_from 16 s = ap (λ m. sum + key_from m (drop (suc at) s)) (sym e) ∙ summed at (omega arith) s in
    omega (arith, next, w, before)

-- 16 bytes as one number are the key of the name that they begin
pub key-of-first : (s : List ℕ) → from_be_bytes w128 (take 16 s) ≡ key_from 16 s
unfolding key_from
key-of-first s =
    let all = summed 15 (omega arith) (take 16 s) in
    let same = key_from-taken 16 s in
    omega (arith, all, same)
