-- A host, escaped.
use Rattle.std.proofs.Common.{◌≡◌, ℕ, ◌+◌, ◌<◌, ◌≤◌, cond, ◌||◌, List, [], ◌∷◌, ◌++◌, length, take, get_or, refl, sym, ap, ◌∙◌, arith, length-append}
use Rattle.std.proofs.lemmas.Bool.Decides.{nat_tests}
use Rattle.std.proofs.lemmas.List.{take_more, append-nil, append_assoc}
use Rattle.std.proofs.lemmas.List.Concat.{flat_map-append}
use Rattle.md_name.specs.Names.{is_colon, is_slash}
use Rattle.md_name.specs.Made.{escape, escaped}

pub escaped_more : (host : List ℕ) (i : ℕ) → i < length host → escaped (take (i + 1) host) ≡ escaped (take i host) ++ escape (get_or host i 0)
unfolding escaped
escaped_more host i h =
    ap escaped (take_more host i 0 h) ∙ flat_map-append escape (take i host) (get_or host i 0 ∷ [])
    ∙ ap (λ t. escaped (take i host) ++ t) (append-nil (escape (get_or host i 0)))

pub length-escape : (b : ℕ) → length (escape b) ≡ cond (is_slash b || is_colon b) 4 1
length-escape b = grind (arith, nat_tests)

pub length-escape-le : (b : ℕ) → 1 ≤ length (escape b)
length-escape-le b = let e = length-escape b in grind (arith, nat_tests)

pub length-escaped-ge : (host : List ℕ) → length host ≤ length (escaped host)
unfolding escaped
length-escaped-ge [] = omega arith
length-escaped-ge (b ∷ host) = omega (arith, length-append (escape b) (escaped host), length-escape-le b, length-escaped-ge host)

pub length-escaped_more : (host : List ℕ) (i : ℕ) → i < length host
    → length (escaped (take (i + 1) host)) ≡ length (escaped (take i host)) + cond (is_slash (get_or host i 0) || is_colon (get_or host i 0)) 4 1
length-escaped_more host i h =
    ap length (escaped_more host i h) ∙ length-append (escaped (take i host)) (escape (get_or host i 0))
    ∙ ap (λ n. length (escaped (take i host)) + n) (length-escape (get_or host i 0))

pub escaped-nil : escaped [] ≡ []
unfolding escaped
escaped-nil = refl

-- what was written, with one byte more
pub escaped_push : (front host : List ℕ) (i : ℕ) → i < length host
    → (front ++ escaped (take i host)) ++ escape (get_or host i 0) ≡ front ++ escaped (take (i + 1) host)
escaped_push front host i h =
    append_assoc front (escaped (take i host)) (escape (get_or host i 0)) ∙ ap (λ t. front ++ t) (sym (escaped_more host i h))

pub ruleset lengths = (length-escaped_more, escaped-nil, length-escaped-ge)

pub nothing_yet : (front : List ℕ) → front ≡ front ++ escaped []
unfolding escaped
nothing_yet front = sym (append-nil front)

pub ruleset pushes = (escaped_push, nothing_yet)
