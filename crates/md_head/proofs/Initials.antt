-- A field whose name begins with another letter is of another name.
use Rattle.std.proofs.Common.{◌≡◌, ◌≢◌, ℕ, ◌<◌, false, List, [], ◌∷◌, get_or, take, Option, Some, None, refl, sym, ap, ◌∙◌, arith, cond, get_or-take}
use Rattle.std.specs.Prelude.{◌&&◌, nat_eq, codes}
use Rattle.std.proofs.lemmas.Bool.Decides.{nat_tests}
use Rattle.std.specs.Char.{to_ascii_lowercase}
use Rattle.std.specs.Str.{str_eq_ignore_ascii_case, str_to_ascii_lowercase, bytes_eq}
use Rattle.md_head.specs.Header.{IsFieldLine}
use Rattle.md_head.specs.Scan.{is_initial}
use Rattle.md_head.specs.Computed.{field_of}
use Rattle.md_head.specs.Bodies.{unfolded}
use Rattle.md_head.proofs.FieldLines.{line_from}
use Rattle.md_head.proofs.GroupValues.{value_in}

unequal : (a b : ℕ) → a ≢ b → nat_eq a b ≡ false
unequal a b h = grind (arith, nat_tests)

differs_named : (text : List ℕ) (first : ℕ) (others : List ℕ) → to_ascii_lowercase (get_or text 0 0) ≢ to_ascii_lowercase first
    → value_in (first ∷ others) (field_of text) ≡ None
differs_named text first others differs = go (field_of text) refl
  where
    named : (found body : List ℕ) → IsFieldLine text found body → str_eq_ignore_ascii_case found (first ∷ others) ≡ false
    named [] body line = absurd (omega (arith, line.some_name))
    named (b ∷ found) body line =
        let here : get_or text 0 0 ≡ b = ap (λ t. get_or t 0 0) line.parts in
        ap (λ t. t && bytes_eq (str_to_ascii_lowercase found) (str_to_ascii_lowercase others))
        (unequal (to_ascii_lowercase b) (to_ascii_lowercase first) (λ e. differs (ap to_ascii_lowercase here ∙ e)))

    go : (f : Option (List ℕ × List ℕ)) → field_of text ≡ f → value_in (first ∷ others) f ≡ None
    go None is = refl
    go (Some (found, body)) is = ap (λ t. cond t (Some (unfolded body)) None) (named found body (line_from text found body is))

-- the front of a text, which begins with another letter
module _ (text : List ℕ) (n : ℕ) (some : 0 < n) (other : is_initial (get_or text 0 0) ≡ false) where
  abbrev Unnamed : List ℕ → Type 0
  Unnamed name = value_in name (field_of (take n text)) ≡ None

  unnamed : (first : ℕ) (others : List ℕ)
      → ((b : ℕ) → is_initial b ≡ false → to_ascii_lowercase b ≢ to_ascii_lowercase first) → Unnamed (first ∷ others)
  unnamed first others differs =
      differs_named (take n text) first others
      (λ e. differs (get_or text 0 0) other (ap to_ascii_lowercase (sym (get_or-take n text 0 0 some)) ∙ e))

  pub no_subject : value_in (codes "subject") (field_of (take n text)) ≡ None
  no_subject = unnamed 115 (codes "ubject") (λ b h e. grind (arith, nat_tests))

  pub no_from : value_in (codes "from") (field_of (take n text)) ≡ None
  no_from = unnamed 102 (codes "rom") (λ b h e. grind (arith, nat_tests))

  pub no_message_id : value_in (codes "message-id") (field_of (take n text)) ≡ None
  no_message_id = unnamed 109 (codes "essage-id") (λ b h e. grind (arith, nat_tests))

  pub no_date : value_in (codes "date") (field_of (take n text)) ≡ None
  no_date = unnamed 100 (codes "ate") (λ b h e. grind (arith, nat_tests))
