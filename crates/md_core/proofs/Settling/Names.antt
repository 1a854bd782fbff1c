-- The names that jobs make have no fault: a unique name has at most 200 bytes, and with `:2,` and 52 letters a name has at most 255.
use Rattle.std.proofs.Common.{ℕ, ◌≡◌, ◌<◌, ◌≤◌, ◌++◌, List, [], ◌∷◌, true, false, not, ◌&&◌, ◌||◌, ◌==◌, nat_lt, nat_le, length, codes, refl, ap, ◌∙◌, arith, length-append}
use Rattle.md_core.proofs.Values.{list_any, Path, is_bad_name}
use Rattle.std.proofs.lemmas.Bool.{and_parts, or_parts, not-true}
use Rattle.std.proofs.lemmas.Bool.Decides.{nat_tests}
use Rattle.md_name.specs.Letters.{Set, spelling}
use Rattle.md_name.specs.Names.{is_colon, is_slash, is_terminator, begins_with_dot, unique_of, is_maildir_unique, is_unique_name, flagged}
use Rattle.md_name.proofs.Flagged.{unique_of-flagged, length-flagged-le, slash-flagged, terminator-flagged}
use Rattle.md_core.proofs.Settling.Loadable.{IsGoodPath}
use Rattle.md_core.proofs.Worlds.UniqueNames.{no_colon-unique}

-- what a unique name is, by its bytes
record IsPlain (u : List ℕ) : Type 0 where
  some : 0 < length u
  short : length u ≤ 200
  colonless : list_any is_colon u ≡ false
  slashless : list_any is_slash u ≡ false
  unended : list_any is_terminator u ≡ false

plain : (u : List ℕ) → is_unique_name u ≡ true → IsPlain u
unfolding is_unique_name is_maildir_unique
plain u is =
    let a = and_parts (is_maildir_unique u && nat_le (length u) 200) (not (list_any is_terminator u)) is in
    let b = and_parts (is_maildir_unique u) (nat_le (length u) 200) a.0 in
    let c = and_parts (nat_lt 0 (length u) && not (begins_with_dot u) && not (list_any is_colon u)) (not (list_any is_slash u)) b.0 in
    let d = and_parts (nat_lt 0 (length u) && not (begins_with_dot u)) (not (list_any is_colon u)) c.0 in
    let e = and_parts (nat_lt 0 (length u)) (not (begins_with_dot u)) d.0 in
    record {
      some = by-lt e.0;
      short = by-le b.1;
      colonless = not-true (list_any is_colon u) d.1;
      slashless = not-true (list_any is_slash u) c.1;
      unended = not-true (list_any is_terminator u) a.1;
    }
  where
    by-lt : nat_lt 0 (length u) ≡ true → 0 < length u
    by-lt h = grind (arith, nat_tests)

    by-le : nat_le (length u) 200 ≡ true → length u ≤ 200
    by-le h = grind (arith, nat_tests)

neither : (name : List ℕ) → list_any is_slash name ≡ false → list_any is_terminator name ≡ false →
    list_any (λ b. is_slash b || is_terminator b) name ≡ false
neither [] slash ends = refl
neither (c ∷ cs) slash ends =
    let a = or_parts (is_slash c) (list_any is_slash cs) slash in
    let b = or_parts (is_terminator c) (list_any is_terminator cs) ends in
    let rest = neither cs a.1 b.1 in
    λ i. (a.0 i || b.0 i) || rest i

not-bad : (name : List ℕ) → 0 < length name → length name ≤ 255 → list_any is_slash name ≡ false → list_any is_terminator name ≡ false →
    is_bad_name name ≡ false
not-bad name some short slash ends =
    let empty : (length name == 0) ≡ false = grind (arith, nat_tests) in
    let long : nat_lt 255 (length name) ≡ false = grind (arith, nat_tests) in
    let clean = neither name slash ends in
    λ i. (empty i || long i) || clean i

-- a path with a unique name
pub unique-good : (p : Path) → is_unique_name p.name ≡ true → IsGoodPath p
unique-good p valid =
    let h = plain p.name valid in
    let same : length (unique_of p.name) ≡ length p.name = ap length (no_colon-unique p.name h.colonless) in
    record {
      name = not-bad p.name h.some (omega (arith, h.short)) h.slashless h.unended;
      short = λ message. omega (arith, same, h.short);
    }

length-flagged : (u : List ℕ) (flags : Set) → length u ≤ length (flagged u flags)
unfolding flagged
length-flagged u flags =
    let whole = length-append (u ++ codes ":2,") (spelling flags) in
    let front = length-append u (codes ":2,") in
    omega (arith, whole, front)

-- a path with a unique name and flags
pub flagged-good : (p : Path) (u : List ℕ) (flags : Set) → is_unique_name u ≡ true → p.name ≡ flagged u flags → IsGoodPath p
flagged-good p u flags valid is =
    let h = plain u valid in
    let long = ap length is in
    let least = length-flagged u flags in
    let most = length-flagged-le u flags in
    let same : length (unique_of p.name) ≡ length u = ap (λ name. length (unique_of name)) is ∙ ap length (unique_of-flagged u flags h.colonless) in
    record {
      name = not-bad p.name (omega (arith, long, least, h.some)) (omega (arith, long, most, h.short))
          (ap (list_any is_slash) is ∙ slash-flagged u flags ∙ h.slashless)
          (ap (list_any is_terminator) is ∙ terminator-flagged u flags ∙ h.unended);
      short = λ message. omega (arith, same, h.short);
    }
