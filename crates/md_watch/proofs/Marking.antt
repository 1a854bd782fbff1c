-- What is kept of flags is changed by a path that comes or goes.
use Rattle.std.proofs.Common.{ℕ, ◌≡◌, ◌+◌, ◌==◌, ◌&&◌, cond, not, nat_eq, nat_lt, List, [], ◌∷◌, ◌++◌, Option, Some, None, Bool, true, false, refl, sym, ap, ◌∙◌, arith}
use Rattle.std.specs.Option.{option_map}
use Rattle.std.specs.Str.{bytes_eq}
use Rattle.std.proofs.lemmas.Bool.Decides.{Decides-eqb}
use Rattle.std.proofs.lemmas.Option.{some_pair_parts}
use Rattle.indexmap.specs.IndexMap.{Updates}
use Rattle.md_dirs.specs.declared.paths.Path.{Path}
use Rattle.md_dirs.specs.declared.paths.Place.{Place}
use Rattle.md_dirs.specs.declared.paths.Place.TheVariants.{Tmp, New, Cur}
use Rattle.md_name.specs.Letters.{Set}
use Rattle.md_name.specs.Names.{unique_of, info_of, flags_of, is_message_name}
use Rattle.md_name.specs.Words.{word_of}
use Rattle.md_law.specs.Messages.{is_tmp}
use Rattle.md_monitor.specs.Files.{is_some_and, is_cur}
use Rattle.md_watch.specs.declared.flagged.Showing.{Showing}
use Rattle.md_watch.specs.declared.flagged.Shown.{Shown}
use Rattle.md_watch.specs.declared.flagged.Flagged.{Flagged}
use Rattle.md_watch.specs.declared.spells.Spell.{Spell}
use Rattle.md_kept.specs.declared.table.Table.{Table}
use Rattle.md_watch.specs.Flagged.{shows, times, mark_of, names_of, spell_in_it, showing_of, count_of, spell_of, set_at, count_by, spell_by, IsOf, count_after, count_after_at, Adds, Changes, Lends, Turns, Puts as PutsPath}
use Rattle.md_watch.specs.Spells.{since_of, ended_of, Passes, IsSame}
use Rattle.md_kept.specs.Tables.{value_at, is_key, Puts}
use Rattle.md_kept.proofs.Keys.{key-is}
use Rattle.md_watch.proofs.Spelling.{passes-none}

-- ---- spells

pub passes-alike : (n : ℕ) (a a' b b' : Bool) (o o' r r' : Option Spell) → a' ≡ a → b' ≡ b → o' ≡ o → r' ≡ r
    → Passes a b n o r → Passes a' b' n o' r'
passes-alike n a a' b b' o o' r r' was is old new passes = record {
  since = ap since_of new ∙ passes.since ∙ (λ i. cond (not ((sym was) i) && (sym is) i) (n + 1) (since_of ((sym old) i)));
  ended = ap ended_of new ∙ passes.ended
      ∙ (λ i. cond ((sym was) i && not ((sym is) i)) (ended_of ((sym old) i) ++ (since_of ((sym old) i), n) ∷ []) (ended_of ((sym old) i)));
}

-- spells that say the same go on alike
pub passes-same : (n : ℕ) (a b : Bool) (o o' r : Option Spell) → IsSame o o' → Passes a b n o' r → Passes a b n o r
passes-same n a b o o' r same passes = record {
  since = passes.since ∙ (λ i. cond (not a && b) (n + 1) (same.since i));
  ended = passes.ended ∙ (λ i. cond (a && not b) (same.ended i ++ (same.since i, n) ∷ []) (same.ended i));
}

-- ---- one count of one set of flags is changed

-- what is kept of one key is taken out and put back
module _ (folder : ℕ) (unique : List ℕ) (old new : Shown) (mid : Table Showing) (before after : Showing)
    (is : IsOf (showing_of (Some old) folder unique) before)
    (taken : Puts folder unique None old.all mid) (put : Puts folder unique (Some after) mid new.all) where
  abbrev was : ℕ → List ℕ → Option Showing
  was m q = showing_of (Some old) m q

  now-at : (m : ℕ) (q : List ℕ) (b : Bool) → is_key (folder, unique) (m, q) ≡ b → showing_of (Some new) m q ≡ cond b (Some after) (was m q)
  now-at m q b key = by b (taken m q ∙ ap (λ c. cond c None (was m q)) key) (put m q ∙ ap (λ c. cond c (Some after) (value_at mid m q)) key)
    where
      by : (b : Bool) → value_at mid m q ≡ cond b None (was m q) → value_at new.all m q ≡ cond b (Some after) (value_at mid m q)
          → value_at new.all m q ≡ cond b (Some after) (was m q)
      by true out in-again = in-again
      by false out in-again = in-again ∙ out

  here : (m : ℕ) (q : List ℕ) → is_key (folder, unique) (m, q) ≡ true → was folder unique ≡ was m q
  here m q key = let parts = (key-is (folder, unique) (m, q)).0 key in (λ i. was (parts.0 i) (parts.1 i))

  counted : (g : ℕ → ℕ) → after.names ≡ g before.names → (m : ℕ) (q : List ℕ)
      → count_of (Some new) m q ≡ cond (is_key (folder, unique) (m, q)) (g (count_of (Some old) m q)) (count_of (Some old) m q)
  counted g goes m q = by (is_key (folder, unique) (m, q)) refl
    where
      by : (b : Bool) → is_key (folder, unique) (m, q) ≡ b
          → count_of (Some new) m q ≡ cond (is_key (folder, unique) (m, q)) (g (count_of (Some old) m q)) (count_of (Some old) m q)
      by true key = ap names_of (now-at m q true key) ∙ goes ∙ ap g (sym is.names ∙ ap names_of (here m q key))
          ∙ sym (ap (λ c. cond c (g (count_of (Some old) m q)) (count_of (Some old) m q)) key)
      by false key = ap names_of (now-at m q false key) ∙ sym (ap (λ c. cond c (g (count_of (Some old) m q)) (count_of (Some old) m q)) key)

  -- the count of the key goes so, and its spell with it
  pub changed-at : (n : ℕ) (g : ℕ → ℕ) → after.names ≡ g before.names
      → Passes (nat_lt 0 before.names) (nat_lt 0 after.names) n (Some before.spell) (Some after.spell)
      → Changes (λ m q count. cond (is_key (folder, unique) (m, q)) (g count) count) n (Some old) (Some new)
  changed-at n g goes passes = record {
    counts = counted g goes;
    spells = λ m q. by m q (is_key (folder, unique) (m, q)) refl;
  }
    where
      by : (m : ℕ) (q : List ℕ) (b : Bool) → is_key (folder, unique) (m, q) ≡ b → Passes (nat_lt 0 (count_of (Some old) m q))
          (nat_lt 0 (count_of (Some new) m q)) n (spell_of (Some old) m q) (spell_of (Some new) m q)
      by m q true key =
          passes-alike n _ _ _ _ _ _ _ _ (ap (nat_lt 0) (ap names_of (sym (here m q key)) ∙ is.names))
          (ap (λ o. nat_lt 0 (names_of o)) (now-at m q true key)) (ap spell_in_it (sym (here m q key))) (ap spell_in_it (now-at m q true key))
          (passes-same n (nat_lt 0 before.names) (nat_lt 0 after.names) (spell_in_it (was folder unique)) (Some before.spell) (Some after.spell)
          (record { since = sym is.since; ended = sym is.ended }) passes)
      by m q false key =
          let there = nat_lt 0 (count_of (Some old) m q) in
          passes-alike n there there there _ _ _ _ _ refl (ap (λ o. nat_lt 0 (names_of o)) (now-at m q false key)) refl
          (ap spell_in_it (now-at m q false key)) (passes-none there n (spell_of (Some old) m q))

  -- at the beginning one more is counted
  pub added-at : after.names ≡ before.names + 1 → after.spell ≡ before.spell → Adds folder unique (Some old) (Some new)
  added-at more same = record {
    counts = counted (λ k. k + 1) more;
    spells = λ m q. by m q (is_key (folder, unique) (m, q)) refl;
  }
    where
      by : (m : ℕ) (q : List ℕ) (b : Bool) → is_key (folder, unique) (m, q) ≡ b → IsSame (spell_of (Some old) m q) (spell_of (Some new) m q)
      by m q true key =
          let at = ap spell_in_it (now-at m q true key) ∙ ap Some same in
          let there = ap spell_in_it (here m q key) in
          record {
            since = ap since_of at ∙ sym is.since ∙ ap since_of there;
            ended = ap ended_of at ∙ sym is.ended ∙ ap ended_of there;
          }
      by m q false key =
          let at = ap spell_in_it (now-at m q false key) in record { since = ap since_of at; ended = ap ended_of at }

-- ---- what a path shows

swapped : (a b c : Bool) → ((a && b) && c) ≡ (c && (a && b))
swapped true true true = refl
swapped true true false = refl
swapped true false true = refl
swapped true false false = refl
swapped false b true = refl
swapped false b false = refl

abbrev marking : Path → Set → List ℕ × ℕ
marking p flags = (unique_of p.name, word_of flags)

-- a path with a mark shows it, at one word and one key
pub shows-mark : (p : Path) (u : List ℕ) (w : ℕ) → mark_of p ≡ Some (u, w) → (word m : ℕ) (q : List ℕ)
    → shows word m q p ≡ (nat_eq w word && is_key (p.folder, u) (m, q))
shows-mark p u w is word m q = by p.place (is_message_name p.name) (flags_of (info_of p.name)) is
  where
    by : (place : Place) (b : Bool) (o : Option Set)
        → cond (is_cur place && b) (option_map (marking p) o) None ≡ Some (u, w)
        → ((((not (is_tmp place) && b) && p.folder == m) && bytes_eq (unique_of p.name) q)
        && (is_cur place && is_some_and o (λ flags. word_of flags == word))) ≡ (nat_eq w word && is_key (p.folder, u) (m, q))
    by Cur true (Some flags) is =
        let parts = some_pair_parts (unique_of p.name) u (word_of flags) w is in
        swapped (p.folder == m) (bytes_eq (unique_of p.name) q) (word_of flags == word)
        ∙ (λ i. nat_eq (parts.1 i) word && (p.folder == m && bytes_eq (parts.0 i) q))
    by Cur true None is = absurd (cc is)
    by Cur false o is = absurd (cc is)
    by New b o is = absurd (cc is)
    by Tmp b o is = absurd (cc is)

-- ---- one set of flags is changed, and put back

module _ (w n : ℕ) (old mid new : Flagged) (lent put : Shown)
    (lends : Lends w lent old mid) (updates : Updates nat_eq mid.sets new.sets w (Some put)) where
  -- it is there after, and the others are as they were
  abbrev here-at : (word : ℕ) → nat_eq w word ≡ true → set_at new word ≡ Some put
  here-at word same = updates.0 word ∙ ap (λ b. cond b (Some put) (set_at mid word)) same

  abbrev beside : (word : ℕ) → nat_eq w word ≡ false → set_at new word ≡ set_at old word
  beside word other = updates.0 word ∙ ap (λ b. cond b (Some put) (set_at mid word)) other ∙ lends.others word other

  pub put-back : (f : ℕ → ℕ → List ℕ → ℕ → ℕ) (g : ℕ → List ℕ → ℕ → ℕ) → Changes g n (Some lent) (Some put)
      → ((word m : ℕ) (q : List ℕ) (count : ℕ) → nat_eq w word ≡ true → f word m q count ≡ g m q count)
      → ((word m : ℕ) (q : List ℕ) (count : ℕ) → nat_eq w word ≡ false → f word m q count ≡ count)
      → (word : ℕ) → Changes (f word) n (set_at old word) (set_at new word)
  put-back f g changes same-there same-beside word = by (nat_eq w word) refl
    where
      by : (b : Bool) → nat_eq w word ≡ b → Changes (f word) n (set_at old word) (set_at new word)
      by true same =
          let at = here-at word same in
          let is : w ≡ word = (Decides-eqb w word).0 same in
          let showing : (m : ℕ) (q : List ℕ) → showing_of (set_at old word) m q ≡ showing_of (Some lent) m q =
          λ m q. ap (λ v. showing_of (set_at old v) m q) (sym is) ∙ sym (lends.showing m q) in
          let counts : (m : ℕ) (q : List ℕ) → count_by old word m q ≡ count_of (Some lent) m q = λ m q. ap names_of (showing m q) in
          let spells : (m : ℕ) (q : List ℕ) → spell_by old word m q ≡ spell_of (Some lent) m q = λ m q. ap spell_in_it (showing m q) in
          record {
            counts = λ m q. ap (λ o. count_of o m q) at ∙ changes.counts m q ∙ ap (g m q) (sym (counts m q))
                ∙ sym (same-there word m q (count_by old word m q) same);
            spells = λ m q. passes-alike n _ _ _ _ _ _ _ _ (ap (nat_lt 0) (counts m q)) (ap (λ o. nat_lt 0 (count_of o m q)) at)
                (spells m q) (ap (λ o. spell_of o m q) at) (changes.spells m q);
          }
      by false other =
          let at = beside word other in
          record {
            counts = λ m q. ap (λ o. count_of o m q) at ∙ sym (same-beside word m q (count_by old word m q) other);
            spells = λ m q. passes-alike n _ _ _ _ _ _ _ _ refl (ap (λ o. nat_lt 0 (count_of o m q)) at) refl (ap (λ o. spell_of o m q) at)
                (passes-none (nat_lt 0 (count_by old word m q)) n (spell_by old word m q));
          }

once : (comes b : Bool) (count : ℕ) → count_after comes count (cond b 1 0) ≡ cond b (count_after comes count 1) count
once true true count = refl
once true false count = omega arith
once false true count = refl
once false false count = omega arith

-- by a path that shows the mark
module _ (p : Path) (k : ℕ) (u : List ℕ) (w : ℕ) (mark : mark_of p ≡ Some (u, w)) where
  -- how many it shows, at the word and at others
  at-word : (word m : ℕ) (q : List ℕ) → nat_eq w word ≡ true → times word m q (Some (p, k)) ≡ cond (is_key (p.folder, u) (m, q)) 1 0
  at-word word m q same = ap (λ b. cond b 1 0) (shows-mark p u w mark word m q ∙ ap (λ b. b && is_key (p.folder, u) (m, q)) same)

  at-none : (word m : ℕ) (q : List ℕ) → nat_eq w word ≡ false → times word m q (Some (p, k)) ≡ 0
  at-none word m q other = ap (λ b. cond b 1 0) (shows-mark p u w mark word m q ∙ ap (λ b. b && is_key (p.folder, u) (m, q)) other)

  module _ (n : ℕ) (old mid new : Flagged) (lent put : Shown)
      (lends : Lends w lent old mid) (updates : Updates nat_eq mid.sets new.sets w (Some put)) where
    pub turns : (comes : Bool) → Changes (count_after_at comes p.folder u) n (Some lent) (Some put) → Turns (Some (p, k)) comes n old new
    turns comes changes = put-back w n old mid new lent put lends updates
        (λ word m q count. count_after comes count (times word m q (Some (p, k)))) (count_after_at comes p.folder u) changes
        (λ word m q count same. ap (count_after comes count) (at-word word m q same) ∙ once comes (is_key (p.folder, u) (m, q)) count)
        (λ word m q count other. ap (count_after comes count) (at-none word m q other) ∙ once comes false count)

-- ---- at the beginning

module _ (p : Path) (u : List ℕ) (w : ℕ) (mark : mark_of p ≡ Some (u, w)) (old mid new : Flagged) (lent put : Shown)
    (lends : Lends w lent old mid) (updates : Updates nat_eq mid.sets new.sets w (Some put)) where
  pub was-put : Adds p.folder u (Some lent) (Some put) → PutsPath p old new
  was-put adds = record {
    counts = λ word m q. counts word m q (nat_eq w word) refl;
    spells = λ word m q. spells word m q (nat_eq w word) refl;
  }
    where
      lent-is : (word m : ℕ) (q : List ℕ) → nat_eq w word ≡ true → showing_of (Some lent) m q ≡ showing_of (set_at old word) m q
      lent-is word m q is = lends.showing m q ∙ ap (λ v. showing_of (set_at old v) m q) ((Decides-eqb w word).0 is)

      counts : (word m : ℕ) (q : List ℕ) (b : Bool) → nat_eq w word ≡ b
          → count_by new word m q ≡ count_by old word m q + cond (shows word m q p) 1 0
      counts word m q true is =
          ap (λ o. count_of o m q) (here-at w 0 old mid new lent put lends updates word is) ∙ adds.counts m q
          ∙ ap (λ (k : ℕ). cond (is_key (p.folder, u) (m, q)) (k + 1) k) (ap names_of (lent-is word m q is))
          ∙ sym (ap (λ k. count_by old word m q + k) (at-word p 0 u w mark word m q is)
          ∙ once true (is_key (p.folder, u) (m, q)) (count_by old word m q))
      counts word m q false is =
          ap (λ o. count_of o m q) (beside w 0 old mid new lent put lends updates word is)
          ∙ sym (ap (λ k. count_by old word m q + k) (at-none p 0 u w mark word m q is) ∙ once true false (count_by old word m q))

      spells : (word m : ℕ) (q : List ℕ) (b : Bool) → nat_eq w word ≡ b → IsSame (spell_by old word m q) (spell_by new word m q)
      spells word m q true is =
          let at = ap (λ o. spell_of o m q) (here-at w 0 old mid new lent put lends updates word is) in
          let was = ap spell_in_it (lent-is word m q is) in
          let same = adds.spells m q in
          record {
            since = ap since_of at ∙ same.since ∙ ap since_of was;
            ended = ap ended_of at ∙ same.ended ∙ ap ended_of was;
          }
      spells word m q false is =
          let at = ap (λ o. spell_of o m q) (beside w 0 old mid new lent put lends updates word is) in
          record { since = ap since_of at; ended = ap ended_of at }
