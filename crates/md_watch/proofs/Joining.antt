-- How a reading goes into the table of listings.
use Rattle.std.proofs.Common.{ℕ, ◌≡◌, ◌+◌, ◌≤◌, ◌==◌, cond, not, List, Option, Some, None, Bool, true, false, refl, sym, ap, subst, ◌∙◌, arith}
use Rattle.std.specs.Bool.{beq}
use Rattle.std.proofs.lemmas.Bool.{true≢false}
use Rattle.std.proofs.lemmas.Bool.Decides.{Decides-eqb}
use Rattle.md_dirs.specs.declared.paths.Place.{Place}
use Rattle.md_law.specs.Readings.{nothing_read, with_place}
use Rattle.md_watch.specs.declared.listings.Listing.{Listing}
use Rattle.md_watch.specs.declared.listings.Listings.{Listings}
use Rattle.md_watch.specs.declared.readings.Reading.{Reading}
use Rattle.md_watch.specs.Listings.{place_of, unbroken, listing_in, HasBegunBy, Joins, joining, Completes}
use Rattle.md_kept.specs.declared.table.Table.{Table}
use Rattle.md_kept.specs.Tables.{value_at, count_at, is_key, Puts}
use Rattle.md_kept.proofs.Keys.{key-is}

same-key : (folder : ℕ) (actor : List ℕ) → is_key (folder, actor) (folder, actor) ≡ true
same-key folder actor = (key-is (folder, actor) (folder, actor)).1 (refl, refl)

-- both are of cur, or neither
pub same-side : (a b : Bool) → not (beq a b) ≡ false → a ≡ b
same-side true true is = refl
same-side true false is = absurd (true≢false is)
same-side false true is = absurd (true≢false is)
same-side false false is = refl

-- new and cur are not tmp
pub joins-as : (of_cur : Bool) (r : Reading) (now : ℕ) (old new : Option Listing) → Joins (place_of of_cur) r now old new
    → joining (place_of of_cur) r now old new
joins-as true r now old new joins = joins
joins-as false r now old new joins = joins

-- a listing is broken off where its actor has made a break since it began
pub unbroken-now : (breaks : ℕ) (l : Listing) → l.breaks ≡ breaks → unbroken breaks (Some l) ≡ Some l
unbroken-now breaks l is = ap (λ b. cond b (Some l) None) ((Decides-eqb l.breaks breaks).1 is)

pub unbroken-is : (breaks : ℕ) (o : Option Listing) (l : Listing) → unbroken breaks o ≡ Some l → l.breaks ≡ breaks
unbroken-is breaks None l is = absurd (cc)
unbroken-is breaks (Some k) l is = by (k.breaks == breaks) refl is
  where
    by : (b : Bool) → (k.breaks == breaks) ≡ b → cond b (Some k) None ≡ Some l → l.breaks ≡ breaks
    by true same is = let own : k ≡ l = cc in subst (λ (m : Listing). m.breaks ≡ breaks) own ((Decides-eqb k.breaks breaks).0 same)
    by false same is = absurd (cc)

pub unbroken-past : (breaks : ℕ) (o : Option Listing) → HasBegunBy breaks o → unbroken (breaks + 1) o ≡ None
unbroken-past breaks None begun = refl
unbroken-past breaks (Some l) begun = by (l.breaks == breaks + 1) refl
  where
    by : (b : Bool) → (l.breaks == breaks + 1) ≡ b → cond b (Some l) None ≡ None
    by true same = let later : l.breaks ≡ breaks + 1 = (Decides-eqb l.breaks (breaks + 1)).0 same in absurd (omega arith)
    by false same = refl

-- a listing with no listing of another place is complete with a reading of that place
pub joins-out : (of_cur : Bool) (r : Reading) (now : ℕ) (l : Listing) → not (beq l.of_cur of_cur) ≡ true
    → Joins (place_of of_cur) r now (Some l) None
joins-out of_cur r now l other = record {
  read = by l.of_cur of_cur other;
  spans = refl;
  shows = λ unique. refl;
}
  where
    by : (of_cur to : Bool) → not (beq of_cur to) ≡ true
        → nothing_read ≡ with_place (place_of to) (record { new = not of_cur; cur = of_cur })
    by true true is = absurd (true≢false (sym is))
    by true false is = refl
    by false true is = refl
    by false false is = absurd (true≢false (sym is))

module _ (actor : List ℕ) (folder : ℕ) (place : Place) (r : Reading) (now : ℕ) (old new : Listings)
    (same : new.breaks ≡ old.breaks) where
  abbrev breaks : ℕ
  breaks = count_at old.breaks 0 actor

  -- a listing that was taken out is put back as it goes on
  pub completes : (mid : Table Listing) → Puts folder actor None old.all mid → (l : Listing) → l.breaks ≡ breaks
      → Puts folder actor (Some l) mid new.all → joining place r now (listing_in old folder actor) (Some l)
      → Completes actor folder place r now old new
  completes mid taken l began puts joins = record {
    here = subst (joining place r now (listing_in old folder actor))
        (sym ((λ i. unbroken (count_at (same i) 0 actor) (put i)) ∙ unbroken-now breaks l began)) joins;
    begun = λ was. subst (HasBegunBy breaks) (sym put) (let by : l.breaks ≤ breaks = omega (arith, began) in by);
    breaks = same;
    others = λ m q apart. puts m q ∙ ap (λ b. cond b (Some l) (value_at mid m q)) apart
        ∙ taken m q ∙ ap (λ b. cond b None (value_at old.all m q)) apart;
  }
    where
      put : value_at new.all folder actor ≡ Some l
      put = puts folder actor ∙ ap (λ b. cond b (Some l) (value_at mid folder actor)) (same-key folder actor)

  -- it was complete
  pub is-over : Puts folder actor None old.all new.all → joining place r now (listing_in old folder actor) None
      → Completes actor folder place r now old new
  is-over taken joins = record {
    here = subst (joining place r now (listing_in old folder actor)) (sym (ap (unbroken (count_at new.breaks 0 actor)) none)) joins;
    begun = λ was. subst (HasBegunBy breaks) (sym none) tt;
    breaks = same;
    others = λ m q apart. taken m q ∙ ap (λ b. cond b None (value_at old.all m q)) apart;
  }
    where
      none : value_at new.all folder actor ≡ None
      none = taken folder actor ∙ ap (λ b. cond b None (value_at old.all folder actor)) (same-key folder actor)
