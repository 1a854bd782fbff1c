-- Entries that own their names together: what stands in a text stays when it goes on behind.
use Rattle.std.proofs.Common.{ℕ, ◌≡◌, ◌+◌, ◌-◌, ◌≤◌, ◌++◌, ◌∙◌, List, [], ◌∷◌, All, arith, map, length, length-take-le, take, drop, refl, sym, ap, slice_range}
use Rattle.std.proofs.lemmas.List.{take-append-le, drop-append-le, length-drop, length-append}
use Rattle.std.proofs.Math.Seq.{drop-append_seam, take-length}
use Rattle.std.proofs.lemmas.List.Elements.{All-head, All-tail, All-weaker}
use Rattle.std.specs.List.{position_or_len}
use Rattle.md_name.specs.Names.{is_colon, unique_of}
use Rattle.md_name.proofs.Firsts.{place_within}
use Rattle.md_dirs.specs.declared.paths.Place.{Place}
use Rattle.md_listing.specs.declared.owned.Piece.{Piece}
use Rattle.md_listing.specs.Rows.{entry_of, IsWithin}

module _ (xs ys : List ℕ) where
  kept-range : (a b : ℕ) → a ≤ b → b ≤ length xs → slice_range (xs ++ ys) a b ≡ slice_range xs a b
  kept-range a b ordered within =
      let some = length-drop a xs in
      ap (take (b - a)) (drop-append-le a xs ys (omega (arith, ordered, within)))
      ∙ take-append-le (b - a) (drop a xs) ys (omega (arith, some, ordered, within))

  kept-within : (p : Piece) → IsWithin xs p → IsWithin (xs ++ ys) p
  kept-within p in_text =
      let more = length-append xs ys in
      record {
        name = in_text.name;
        middle = omega (arith, more, in_text.middle);
        unique = in_text.unique;
        end = omega (arith, more, in_text.end);
        own = λ own. kept-range p.unique p.end in_text.unique in_text.end ∙ in_text.own own
            ∙ ap unique_of (sym (kept-range p.start p.middle in_text.name in_text.middle));
      }

  kept-entry : (p : Piece) → IsWithin xs p → entry_of (xs ++ ys) p ≡ entry_of xs p
  kept-entry p in_text = λ i. record {
    unique = kept-range p.unique p.end in_text.unique in_text.end i;
    place = p.place;
    name = kept-range p.start p.middle in_text.name in_text.middle i;
    size = p.size;
  }

  pub kept-all : (ps : List Piece) → All (IsWithin xs) ps → All (IsWithin (xs ++ ys)) ps
  kept-all ps all = All-weaker (IsWithin xs) (IsWithin (xs ++ ys)) kept-within ps all

  pub kept-entries : (ps : List Piece) → All (IsWithin xs) ps → map (entry_of (xs ++ ys)) ps ≡ map (entry_of xs) ps
  kept-entries [] all = refl
  kept-entries (p ∷ ps) all = λ i. kept-entry p (All-head (IsWithin xs) p ps all) i ∷ kept-entries ps (All-tail (IsWithin xs) p ps all) i

-- a name begins with its unique name
pub own_front : (name unique : List ℕ) → unique ≡ unique_of name → (length unique ≤ length name) × (take (length unique) name ≡ unique)
unfolding unique_of
own_front name unique is =
    let at = position_or_len is_colon name in
    let most = place_within is_colon name in
    let long : length unique ≡ at = ap length is ∙ length-take-le at name most in
    (omega (arith, long, most), ap (λ n. take n name) long ∙ sym is)

-- where a name goes on a text, and its unique name with it
module _ (old name unique text : List ℕ) (start middle : ℕ) (is : text ≡ old ++ name) (from : start ≡ length old) (to : middle ≡ length text)
    (own : unique ≡ unique_of name) where
  long : length text ≡ length old + length name
  long = ap length is ∙ length-append old name

  pub whole-name : slice_range text start middle ≡ name
  whole-name =
      let some : middle - start ≡ length name = omega (arith, to, from, long) in
      (λ i. take (some i) (drop (from i) (is i))) ∙ ap (take (length name)) (drop-append_seam old name) ∙ take-length name

  pub own-name : slice_range text start (start + length unique) ≡ unique
  own-name =
      let some : start + length unique - start ≡ length unique = omega arith in
      (λ i. take (some i) (drop (from i) (is i))) ∙ ap (take (length unique)) (drop-append_seam old name) ∙ (own_front name unique own).1

  pub own-within : (size : ℕ) (place : Place)
      → IsWithin text (record { start = start; middle = middle; unique = start; end = start + length unique; size = size; place = place })
  own-within size place =
      let short = (own_front name unique own).0 in
      record {
        name = omega (arith, to, from, long);
        middle = omega (arith, to);
        unique = omega arith;
        end = omega (arith, short, from, long);
        own = λ _. own-name ∙ own ∙ ap unique_of (sym whole-name);
      }
