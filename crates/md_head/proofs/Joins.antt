-- Bytes that are joined from the first that is no white space on.
use Rattle.std.proofs.Common.{◌≡◌, ℕ, ◌<◌, false, List, [], ◌∷◌, ◌++◌, length, sym, ap, ◌∙◌, arith, append_assoc, append-nil, ⊎_elim}
use Rattle.std.proofs.lemmas.Bool.{cases_Bool}
use Rattle.std.proofs.lemmas.Bool.Decides.{nat_tests}
use Rattle.std.specs.Prelude.{nat_eq}
use Rattle.md_head.specs.Header.{is_blank}
use Rattle.md_head.specs.Computed.{trimmed_front}
use Rattle.md_head.proofs.Trims.{front_blank, front_stop, front_nil}

-- what was joined so far, and what is still to come
abbrev pub onto_joined : List ℕ → List ℕ → List ℕ
onto_joined [] more = trimmed_front more
onto_joined (b ∷ bytes) more = (b ∷ bytes) ++ more

front_append : (line more : List ℕ) → trimmed_front (line ++ more) ≡ onto_joined (trimmed_front line) more
front_append [] more = sym (ap (λ t. onto_joined t more) front_nil)
front_append (b ∷ line) more = ⊎_elim
    (λ yes. front_blank b (line ++ more) yes ∙ front_append line more ∙ sym (ap (λ t. onto_joined t more) (front_blank b line yes)))
    (λ no. front_stop b (line ++ more) no ∙ sym (ap (λ t. onto_joined t more) (front_stop b line no)))
    (cases_Bool (is_blank b))

-- a first line more
pub join_first : (bytes line more : List ℕ) → length bytes ≡ 0 → onto_joined (bytes ++ trimmed_front line) more ≡ onto_joined bytes (line ++ more)
join_first [] line more h = sym (front_append line more)
join_first (b ∷ bytes) line more h = absurd (omega arith)

-- and a later one
pub join_more : (bytes line more : List ℕ) → 0 < length bytes → onto_joined (bytes ++ line) more ≡ onto_joined bytes (line ++ more)
join_more [] line more h = absurd (omega arith)
join_more (b ∷ bytes) line more h = append_assoc (b ∷ bytes) line more

pub join_none : (bytes : List ℕ) → onto_joined bytes [] ≡ bytes
join_none [] = front_nil
join_none (b ∷ bytes) = append-nil (b ∷ bytes)

pub some_if : (n : ℕ) → false ≡ nat_eq n 0 → 0 < n
some_if n h = grind (arith, nat_tests)
