-- What an actor did about a message, after a step of its own.
use Rattle.std.proofs.Common.{ℕ, ◌≡◌, ◌+◌, ◌≤◌, ◌++◌, ◌∷◌, [], ◌&&◌, ◌||◌, cond, List, Option, Some, None, Bool, true, false, not, nat_le, is_some, refl, sym, ap, ◌∙◌, arith}
use Rattle.std.specs.Prelude.{unwrap_or}
use Rattle.std.specs.List.{list_all, list_any}
use Rattle.std.proofs.lemmas.List.Folds.{list_any-append, list_all-append}
use Rattle.std.proofs.lemmas.Bool.{le-leb, leb-true}
use Rattle.md_watch.specs.declared.claims.actor.Actor.{Actor}
use Rattle.md_watch.specs.Claims.{Did, begin, change, did_before, did_by, is_told, told_of}

-- ---- a step begins

-- the step is the first since the last answer about the message, or the actor's first at all, or neither
pub begun-so : (o : Option Actor) (now folder : ℕ) (unique : List ℕ)
    → is_told (told_of o) folder unique ≡ (is_some o && not (is_some (did_by o folder unique).begun))
    → cond (is_told (told_of o) folder unique) (begin now (did_before o now folder unique)) (did_before o now folder unique)
    ≡ begin (unwrap_or (did_by o folder unique).begun now) (did_by o folder unique)
begun-so None now folder unique told = refl
begun-so (Some a) now folder unique told =
    ap (λ b. cond b (begin now (did_by (Some a) folder unique)) (did_by (Some a) folder unique)) told ∙ by (did_by (Some a) folder unique)
  where
    at : (d : Did) (begun : Option ℕ) → d.begun ≡ begun
        → cond (not (is_some begun)) (begin now d) d ≡ begin (unwrap_or begun now) d
    at d None is = refl
    at d (Some b) is = (λ i. record d { begun = is i })

    by : (d : Did) → cond (not (is_some d.begun)) (begin now d) d ≡ begin (unwrap_or d.begun now) d
    by d = at d d.begun refl

-- ---- paths of the message change

-- what is so where paths of it change is so at all, since the message is there as it was where none does
only-added : (a was is : Bool) → (a ≡ false → is ≡ was) → (a && (not was && is)) ≡ (not was && is)
only-added true was is same = refl
only-added false true is same = refl
only-added false false is same = sym (same refl)

only-taken : (a was is : Bool) → (a ≡ false → is ≡ was) → (a && (was && not is)) ≡ (was && not is)
only-taken true was is same = refl
only-taken false true is same = sym (ap not (same refl))
only-taken false false is same = refl

once : (a b : Bool) → (a || (a || b)) ≡ (a || b)
once true b = refl
once false b = refl

-- moments are no later than the next
pub later : (now : ℕ) (ts : List ℕ) → list_all (λ t. nat_le t now) ts ≡ true → list_all (λ t. nat_le t (now + 1)) ts ≡ true
later now [] all = refl
later now (t ∷ ts) all = by (later now ts) (nat_le t now) refl all
  where
    by : (list_all (λ k. nat_le k now) ts ≡ true → list_all (λ k. nat_le k (now + 1)) ts ≡ true) → (b : Bool) → nat_le t now ≡ b
        → (b && list_all (λ k. nat_le k now) ts) ≡ true → (nat_le t (now + 1) && list_all (λ k. nat_le k (now + 1)) ts) ≡ true
    by rest true now-is all =
        let low : t ≤ now + 1 = let le = leb-true t now now-is in omega arith in
        (λ i. le-leb t (now + 1) low i && rest all i)
    by rest false late none = absurd (cc)

-- of the path that comes to name a file, and of the one that is taken, by whether they are the message's
module _ (was is unlinks : Bool) (now : ℕ) (d : Did) where
  abbrev changed : Did → Did
  changed e = change was is unlinks now e

  abbrev pub twice : Bool → Bool → Did
  twice named taken = cond named (changed (cond taken (changed d) d)) (cond taken (changed d) d)

  pub twice-begun : (first : ℕ) → d.begun ≡ Some first → (named taken : Bool)
      → (twice named taken).begun ≡ Some (cond (named || taken) now first)
  twice-begun first is true true = refl
  twice-begun first is true false = refl
  twice-begun first is false true = refl
  twice-begun first is false false = is

  pub twice-refused : (named taken : Bool) → (twice named taken).refused ≡ d.refused
  twice-refused true true = refl
  twice-refused true false = refl
  twice-refused false true = refl
  twice-refused false false = refl

  pub twice-changed : (named taken : Bool) → (twice named taken).has_changed ≡ ((named || taken) || d.has_changed)
  twice-changed true true = refl
  twice-changed true false = refl
  twice-changed false true = refl
  twice-changed false false = refl

  added-by : (named taken : Bool) → (twice named taken).has_added ≡ (((named || taken) && (not was && is)) || d.has_added)
  added-by true true = once (not was && is) d.has_added
  added-by true false = refl
  added-by false true = refl
  added-by false false = refl

  expunged-by : (named taken : Bool) → (twice named taken).has_expunged
      ≡ ((((named || taken) && (was && not is)) && unlinks) || d.has_expunged)
  expunged-by true true = once ((was && not is) && unlinks) d.has_expunged
  expunged-by true false = refl
  expunged-by false true = refl
  expunged-by false false = refl

  module _ (test : ℕ → Bool) where
    or-last : (a b : Bool) → (a || (b || false)) ≡ (b || a)
    or-last true true = refl
    or-last true false = refl
    or-last false true = refl
    or-last false false = refl

    any-one : (b : Bool) (ts : List ℕ) → list_any test (cond b (ts ++ now ∷ []) ts) ≡ ((b && test now) || list_any test ts)
    any-one true ts = list_any-append test ts (now ∷ []) ∙ or-last (list_any test ts) (test now)
    any-one false ts = refl

    taken-by : (named taken : Bool) → list_any test (twice named taken).taken
        ≡ ((((named || taken) && (was && not is)) && test now) || list_any test d.taken)
    taken-by true true = any-one (was && not is) (changed d).taken
        ∙ ap (λ b. ((was && not is) && test now) || b) (any-one (was && not is) d.taken)
        ∙ once ((was && not is) && test now) (list_any test d.taken)
    taken-by true false = any-one (was && not is) d.taken
    taken-by false true = any-one (was && not is) d.taken
    taken-by false false = refl

  module _ (named taken : Bool) (same : (named || taken) ≡ false → is ≡ was) where
    pub twice-added : (twice named taken).has_added ≡ ((not was && is) || d.has_added)
    twice-added = added-by named taken ∙ ap (λ b. b || d.has_added) (only-added (named || taken) was is same)

    pub twice-expunged : (twice named taken).has_expunged ≡ (((was && not is) && unlinks) || d.has_expunged)
    twice-expunged = expunged-by named taken ∙ ap (λ b. (b && unlinks) || d.has_expunged) (only-taken (named || taken) was is same)

    pub twice-taken : (test : ℕ → Bool) → list_any test (twice named taken).taken
        ≡ (((was && not is) && test now) || list_any test d.taken)
    twice-taken test = taken-by test named taken
        ∙ ap (λ b. (b && test now) || list_any test d.taken) (only-taken (named || taken) was is same)

  both-true : (a b : Bool) → a ≡ true → b ≡ true → (a && (b && true)) ≡ true
  both-true true true one two = refl
  both-true true false one two = cc
  both-true false b one two = cc

  all-one : (b : Bool) (ts : List ℕ) → list_all (λ t. nat_le t now) ts ≡ true
      → list_all (λ t. nat_le t now) (cond b (ts ++ now ∷ []) ts) ≡ true
  all-one true ts all = list_all-append (λ t. nat_le t now) ts (now ∷ [])
      ∙ both-true _ _ all (le-leb now now (omega arith))
  all-one false ts all = all

  pub twice-all : (named taken : Bool) → list_all (λ t. nat_le t now) d.taken ≡ true
      → list_all (λ t. nat_le t now) (twice named taken).taken ≡ true
  twice-all true true all = all-one (was && not is) (changed d).taken (all-one (was && not is) d.taken all)
  twice-all true false all = all-one (was && not is) d.taken all
  twice-all false true all = all-one (was && not is) d.taken all
  twice-all false false all = all
