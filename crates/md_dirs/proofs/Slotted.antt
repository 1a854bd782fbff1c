-- Files in blocks, and the list that they are.
use Rattle.std.proofs.Common.{ℕ, zero, suc, ◌≡◌, ◌+◌, ◌-◌, ◌*◌, ◌/◌, ◌%◌, ◌<◌, ◌≤◌, ◌++◌, List, [], ◌∷◌, Option, Some, None, IsSome, is_some, refl, sym, ap, ◌∙◌, arith, length, get_or, slice_get, slice_set, append_assoc, append-nil}
use Rattle.std.proofs.Common.{length-append}
use Rattle.std.proofs.lemmas.List.{set-append_left, set-append_right}
use Rattle.std.proofs.lemmas.Grind.{flat_map-append}
use Rattle.std.proofs.Math.Nat.{mod-lt, div-add-mod}
use Rattle.std.specs.Option.{option_flatten}
use Rattle.md_dirs.specs.Places.{padded, places, there}
use Rattle.md_dirs.specs.Slots.{in_blocks}
use Rattle.md_dirs.specs.Files.{slot_at, with_names}
use Rattle.md_dirs.specs.declared.files.Kept.{Kept}
use Rattle.md_dirs.specs.declared.slots.Block.{Block}

-- what a list has at a place
abbrev at : {X : Type 0} → List (Option X) → ℕ → Option X
at xs n = option_flatten (slice_get xs n)

module _ {X : Type 0} where
  length-padded : (n : ℕ) (xs : List (Option X)) → length (padded n xs) ≡ n
  length-padded zero xs = refl
  length-padded (suc n) [] = ap suc (length-padded n [])
  length-padded (suc n) (x ∷ xs) = ap suc (length-padded n xs)

  at-padded : (n : ℕ) (xs : List (Option X)) (i : ℕ) → i < n → at (padded n xs) i ≡ at xs i
  at-padded zero xs i h = absurd (omega arith)
  at-padded (suc n) [] zero h = refl
  at-padded (suc n) [] (suc i) h = at-padded n [] i (omega arith)
  at-padded (suc n) (x ∷ xs) zero h = refl
  at-padded (suc n) (x ∷ xs) (suc i) h = at-padded n xs i (omega arith)

  -- a list as long as its places
  padded-whole : (n : ℕ) (xs : List (Option X)) → length xs ≡ n → padded n xs ≡ xs
  padded-whole zero [] h = refl
  padded-whole zero (x ∷ xs) h = absurd (omega arith)
  padded-whole (suc n) [] h = absurd (omega arith)
  padded-whole (suc n) (x ∷ xs) h = ap (λ ys. x ∷ ys) (padded-whole n xs (omega arith))

  -- a change of a place, of one without a file only to one without
  set-padded : (n : ℕ) (xs : List (Option X)) (i : ℕ) (f : Option X → Option X) → f None ≡ None →
      padded n (slice_set xs i (f (at xs i))) ≡ slice_set (padded n xs) i (f (at xs i))
  set-padded zero xs i f none = refl
  set-padded (suc n) [] zero f none = ap (λ x. x ∷ padded n []) (sym none)
  set-padded (suc n) [] (suc i) f none = ap (λ ys. None ∷ ys) (set-padded n [] i f none)
  set-padded (suc n) (x ∷ xs) zero f none = refl
  set-padded (suc n) (x ∷ xs) (suc i) f none = ap (λ ys. x ∷ ys) (set-padded n xs i f none)

  at-left : (xs ys : List (Option X)) (i : ℕ) → i < length xs → at (xs ++ ys) i ≡ at xs i
  at-left [] ys i h = absurd (omega arith)
  at-left (x ∷ xs) ys zero h = refl
  at-left (x ∷ xs) ys (suc i) h = at-left xs ys i (omega arith)

  at-right : (xs ys : List (Option X)) (i : ℕ) → at (xs ++ ys) (length xs + i) ≡ at ys i
  at-right [] ys i = ap (at ys) (let e : 0 + i ≡ i = omega arith in e)
  at-right (x ∷ xs) ys i =
      ap (at (x ∷ (xs ++ ys))) (let e : length (x ∷ xs) + i ≡ suc (length xs + i) = omega arith in e) ∙ at-right xs ys i

-- a block whose files are all gone
gone-padded : (n : ℕ) (xs : List (Option Kept)) → there xs ≡ 0 → padded n [] ≡ padded n xs
gone-padded zero xs h = refl
gone-padded (suc n) [] h = refl
gone-padded (suc n) (None ∷ xs) h = ap (λ ys. None ∷ ys) (gone-padded n xs h)
gone-padded (suc n) (Some x ∷ xs) h = absurd (omega (arith, h))

pub places-gone : (xs : List (Option Kept)) → there xs ≡ 0 → places [] ≡ places xs
unfolding places
places-gone xs h = gone-padded 64 xs h

-- one more file is there
pub there-more : (xs : List (Option Kept)) (x : Kept) → there (xs ++ Some x ∷ []) ≡ there xs + 1
there-more [] x = refl
there-more (None ∷ xs) x = there-more xs x
there-more (Some y ∷ xs) x = let rest = there-more xs x in omega (arith, rest)

-- as many files are there where a place has one still, or none still
pub there-still : (xs : List (Option Kept)) (i : ℕ) (x : Option Kept) → is_some x ≡ is_some (slot_at xs i) → there (slice_set xs i x) ≡ there xs
there-still [] i x h = refl
there-still (None ∷ xs) zero None h = refl
there-still (None ∷ xs) zero (Some x) h = cc
there-still (Some y ∷ xs) zero None h = cc
there-still (Some y ∷ xs) zero (Some x) h = refl
there-still (None ∷ xs) (suc i) x h = there-still xs i x h
there-still (Some y ∷ xs) (suc i) x h = ap suc (there-still xs i x h)

-- one file less is there
pub there-less : (xs : List (Option Kept)) (i : ℕ) → IsSome (slot_at xs i) → there (slice_set xs i None) + 1 ≡ there xs
there-less [] i h = cc
there-less (None ∷ xs) zero h = cc
there-less (Some y ∷ xs) zero h = omega arith
there-less (None ∷ xs) (suc i) h = there-less xs i h
there-less (Some y ∷ xs) (suc i) h = let rest = there-less xs i h in omega (arith, rest)

-- no more are there than places
pub there-most : (xs : List (Option Kept)) → there xs ≤ length xs
there-most [] = omega arith
there-most (None ∷ xs) = let rest = there-most xs in omega (arith, rest)
there-most (Some x ∷ xs) = let rest = there-most xs in omega (arith, rest)

-- the file at a place within
pub slot-here : (xs : List (Option Kept)) (i : ℕ) (x : Option Kept) → i < length xs → x ≡ get_or xs i x → slot_at xs i ≡ x
slot-here [] i x within is = absurd (omega (arith, within))
slot-here (y ∷ xs) zero x within is = sym is
slot-here (y ∷ xs) (suc i) x within is = slot-here xs i x (omega (arith, within)) is

pub names-still : (names : ℕ) (o : Option Kept) → is_some (with_names names o) ≡ is_some o
names-still names None = refl
names-still names (Some k) = refl

pub places-whole : (xs : List (Option Kept)) → length xs ≡ 64 → places xs ≡ xs
unfolding places
places-whole xs h = padded-whole 64 xs h

length-places : (xs : List (Option Kept)) → length (places xs) ≡ 64
unfolding places
length-places xs = length-padded 64 xs

at-places : (xs : List (Option Kept)) (i : ℕ) → i < 64 → at (places xs) i ≡ at xs i
unfolding places
at-places xs i h = at-padded 64 xs i h

set-places : (xs : List (Option Kept)) (i : ℕ) (f : Option Kept → Option Kept) → f None ≡ None →
    places (slice_set xs i (f (at xs i))) ≡ slice_set (places xs) i (f (at xs i))
unfolding places
set-places xs i f none = set-padded 64 xs i f none

pub length-blocks : (bs : List Block) → length (in_blocks bs) ≡ 64 * length bs
length-blocks [] = refl
length-blocks (b ∷ bs) =
    let rest = length-blocks bs in
    let sum = length-append (places b.slots.items) (in_blocks bs) in
    let one = length-places b.slots.items in
    omega (arith, rest, sum, one)

-- one block more behind all
pub blocks-more : (bs : List Block) (b : Block) → length b.slots.items ≡ 64 → in_blocks (bs ++ b ∷ []) ≡ in_blocks bs ++ b.slots.items
blocks-more bs b h =
    flat_map-append (λ (v : Block). places v.slots.items) bs (b ∷ []) ∙
    ap (λ xs. in_blocks bs ++ xs) (append-nil (places b.slots.items) ∙ places-whole b.slots.items h)

-- the file at a place of a block
at-block : (bs : List Block) (t : List (Option Kept)) (q r : ℕ) (b : Block) → q < length bs → b ≡ get_or bs q b → r < 64 →
    at (in_blocks bs ++ t) (64 * q + r) ≡ at b.slots.items r
at-block [] t q r b within is low = absurd (omega arith)
at-block (c ∷ bs) t zero r b within is low =
    ap (at (in_blocks (c ∷ bs) ++ t)) (let e : 64 * 0 + r ≡ r = omega arith in e) ∙
    ap (λ xs. at xs r) (append_assoc (places c.slots.items) (in_blocks bs) t) ∙
    at-left (places c.slots.items) (in_blocks bs ++ t) r (let long = length-places c.slots.items in omega (arith, long, low)) ∙
    at-places c.slots.items r low ∙ ap (λ (v : Block). at v.slots.items r) (sym is)
at-block (c ∷ bs) t (suc q) r b within is low =
    ap (λ xs. at xs (64 * suc q + r)) (append_assoc (places c.slots.items) (in_blocks bs) t) ∙
    ap (at (places c.slots.items ++ (in_blocks bs ++ t)))
    (let long = length-places c.slots.items in let e : 64 * suc q + r ≡ length (places c.slots.items) + (64 * q + r) = omega (arith, long) in e) ∙
    at-right (places c.slots.items) (in_blocks bs ++ t) (64 * q + r) ∙
    at-block bs t q r b (omega arith) is low

-- a block in the place of one with the same places
pub kept-block : (bs : List Block) (q : ℕ) (b b' : Block) → b ≡ get_or bs q b → b'.slots.items ≡ b.slots.items →
    in_blocks (slice_set bs q b') ≡ in_blocks bs
kept-block [] q b b' is same = refl
kept-block (c ∷ bs) zero b b' is same =
    ap (λ xs. places xs ++ in_blocks bs) (same ∙ ap (λ (v : Block). v.slots.items) is)
kept-block (c ∷ bs) (suc q) b b' is same = ap (λ xs. places c.slots.items ++ xs) (kept-block bs q b b' is same)

-- a change of a place of a block
set-block : (bs : List Block) (t : List (Option Kept)) (q r : ℕ) (b b' : Block) (x : Option Kept) → q < length bs →
    b ≡ get_or bs q b → r < 64 → places b'.slots.items ≡ slice_set (places b.slots.items) r x →
    in_blocks (slice_set bs q b') ++ t ≡ slice_set (in_blocks bs ++ t) (64 * q + r) x
set-block [] t q r b b' x within is low new = absurd (omega arith)
set-block (c ∷ bs) t zero r b b' x within is low new =
    append_assoc (places b'.slots.items) (in_blocks bs) t ∙
    ap (λ xs. xs ++ (in_blocks bs ++ t)) (new ∙ ap (λ (v : Block). slice_set (places v.slots.items) r x) is) ∙
    sym (set-append_left (places c.slots.items) (in_blocks bs ++ t) r x (let long = length-places c.slots.items in omega (arith, long, low))) ∙
    ap (λ xs. slice_set xs r x) (sym (append_assoc (places c.slots.items) (in_blocks bs) t)) ∙
    ap (λ n. slice_set (in_blocks (c ∷ bs) ++ t) n x) (let e : r ≡ 64 * 0 + r = omega arith in e)
set-block (c ∷ bs) t (suc q) r b b' x within is low new =
    append_assoc (places c.slots.items) (in_blocks (slice_set bs q b')) t ∙
    ap (λ xs. places c.slots.items ++ xs) (set-block bs t q r b b' x (omega arith) is low new) ∙
    ap (λ n. places c.slots.items ++ slice_set (in_blocks bs ++ t) n x) (let e : 64 * q + r ≡ 64 * suc q + r - 64 = omega arith in e) ∙
    sym (set-append_right (places c.slots.items) (in_blocks bs ++ t) 64 (64 * suc q + r) x (length-places c.slots.items) (omega arith)) ∙
    ap (λ xs. slice_set xs (64 * suc q + r) x) (sym (append_assoc (places c.slots.items) (in_blocks bs) t))

module _ (bs : List Block) (t : List (Option Kept)) (n : ℕ) where
  abbrev all : List (Option Kept)
  all = in_blocks bs ++ t

  low : n % 64 < 64
  low = mod-lt n (omega arith)

  split : 64 * (n / 64) + n % 64 ≡ n
  split = div-add-mod n 64

  -- the file of a number, in a block
  pub slot-block : (b : Block) → n / 64 < length bs → b ≡ get_or bs (n / 64) b → slot_at b.slots.items (n % 64) ≡ slot_at all n
  slot-block b within is = sym (at-block bs t (n / 64) (n % 64) b within is low) ∙ ap (slot_at all) split

  -- a change of a file in a block
  pub changed-block : (f : Option Kept → Option Kept) → f None ≡ None → (b b' : Block) → n / 64 < length bs → b ≡ get_or bs (n / 64) b →
      places b'.slots.items ≡ places (slice_set b.slots.items (n % 64) (f (slot_at b.slots.items (n % 64)))) →
      in_blocks (slice_set bs (n / 64) b') ++ t ≡ slice_set all n (f (slot_at all n))
  changed-block f none b b' within is new =
      set-block bs t (n / 64) (n % 64) b b' (f (slot_at b.slots.items (n % 64))) within is low (new ∙ set-places b.slots.items (n % 64) f none) ∙
      ap (λ k. slice_set all k (f (slot_at b.slots.items (n % 64)))) split ∙
      ap (λ x. slice_set all n (f x)) (slot-block b within is)

  module _ (inside : n < length all) (short : length t < 64) (past : length bs ≤ n / 64) where
    before : n ≡ length (in_blocks bs) + n % 64
    before =
        let blocks = length-blocks bs in
        let sum = length-append (in_blocks bs) t in
        let s = split in
        let l = low in
        omega (arith, blocks, sum, s, l)

    -- the file of a number, behind the blocks
    pub slot-tail : slot_at t (n % 64) ≡ slot_at all n
    slot-tail = sym (at-right (in_blocks bs) t (n % 64)) ∙ ap (slot_at all) (sym before)

    -- a change of a file behind the blocks
    pub changed-tail : (f : Option Kept → Option Kept) (t' : List (Option Kept)) → t' ≡ slice_set t (n % 64) (f (slot_at t (n % 64))) →
        in_blocks bs ++ t' ≡ slice_set all n (f (slot_at all n))
    changed-tail f t' new =
        ap (λ xs. in_blocks bs ++ xs) new ∙
        ap (λ k. in_blocks bs ++ slice_set t k (f (slot_at t (n % 64))))
        (let b = before in let e : n % 64 ≡ n - length (in_blocks bs) = omega (arith, b) in e) ∙
        sym (set-append_right (in_blocks bs) t (length (in_blocks bs)) n (f (slot_at t (n % 64))) refl (let b = before in omega (arith, b))) ∙
        ap (λ x. slice_set all n (f x)) slot-tail
