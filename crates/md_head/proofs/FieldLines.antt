-- A field line, as the function reads it.
use Rattle.std.proofs.Common.{◌≡◌, ℕ, ◌+◌, ◌<◌, Bool, true, false, List, [], ◌∷◌, ◌++◌, length, get_or, take, drop, Option, Some, None, refl, sym, ap, ◌∙◌, arith, subst, cond, take-append-drop, get_or-take}
use Rattle.std.specs.Prelude.{◌&&◌, nat_eq, nat_lt}
use Rattle.std.proofs.lemmas.Bool.Decides.{nat_tests}
use Rattle.std.proofs.lemmas.Bool.{eqb-true, ltb-true}
use Rattle.std.proofs.lemmas.List.Sums.{prefix_len_passes}
use Rattle.std.proofs.lemmas.List.Folds.{length-prefix_len}
use Rattle.std.specs.List.{AllPass, prefix_len}
use Rattle.md_head.specs.Header.{is_blank, is_name_byte, is_continuation, IsFieldLine}
use Rattle.md_head.specs.Computed.{field_of}
use Rattle.md_head.proofs.Alls.{pass_head, prefix_stops, take_front, drop_front, none_no_some}

-- the field of a name of n bytes, and what stands behind it and the white space
abbrev from_parts : List ℕ → ℕ → List ℕ → Option (List ℕ × List ℕ)
from_parts name n body = cond (nat_lt 0 n && nat_eq (get_or body 0 0) 58) (Some (name, drop 1 body)) None

abbrev behind : List ℕ → List ℕ
behind rest = drop (prefix_len is_blank rest) rest

field_is : (line : List ℕ) → field_of line ≡ (let n = prefix_len is_name_byte line in from_parts (take n line) n (behind (drop n line)))
unfolding field_of
field_is line = refl

no_name_byte : (b : ℕ) → is_blank b ≡ true → is_name_byte b ≡ false
no_name_byte b e = grind (arith, nat_tests)

no_name : (spacing body : List ℕ) → AllPass is_blank spacing → prefix_len is_name_byte (spacing ++ 58 ∷ body) ≡ 0
no_name [] body h = refl
no_name (b ∷ spacing) body h = ap (λ t. cond t (1 + prefix_len is_name_byte (spacing ++ 58 ∷ body)) 0) (no_name_byte b (pass_head is_blank b spacing h))

from_name : (name body : List ℕ) → 0 < length name → from_parts name (length name) (58 ∷ body) ≡ Some (name, body)
from_name name body h = let yes : nat_lt 0 (length name) ≡ true = grind (arith, nat_tests) in ap (λ t. cond (t && true) (Some (name, body)) None) yes

pub field_from : (line name body : List ℕ) → IsFieldLine line name body → field_of line ≡ Some (name, body)
field_from line name body f =
    let rest = f.spacing ++ 58 ∷ body in
    let n : prefix_len is_name_byte line ≡ length name =
    ap (prefix_len is_name_byte) f.parts ∙ prefix_stops is_name_byte name rest f.name_bytes (no_name f.spacing body f.spacing_blank) in
    let whole : behind rest ≡ 58 ∷ body =
    ap (λ m. drop m rest) (prefix_stops is_blank f.spacing (58 ∷ body) f.spacing_blank refl) ∙ drop_front f.spacing (58 ∷ body) in
    field_is line
    ∙ ap (λ k. from_parts (take k line) k (behind (drop k line))) n
    ∙ ap (λ l. from_parts (take (length name) l) (length name) (behind (drop (length name) l))) f.parts
    ∙ ap (λ t. from_parts t (length name) (behind (drop (length name) (name ++ rest)))) (take_front name rest)
    ∙ ap (λ t. from_parts name (length name) (behind t)) (drop_front name rest)
    ∙ ap (from_parts name (length name)) whole
    ∙ from_name name body f.some_name

some_is : {x y : List ℕ × List ℕ} → Some x ≡ Some y → x ≡ y
some_is e = cc

-- both tests passed
record BothPass (name : List ℕ) (n : ℕ) (body : List ℕ) (name' body' : List ℕ) : Type 0 where
  some : 0 < n
  colon : get_or body 0 0 ≡ 58
  same_name : name ≡ name'
  same_body : drop 1 body ≡ body'

both_pass : (name : List ℕ) (n : ℕ) (body name' body' : List ℕ) → from_parts name n body ≡ Some (name', body') → BothPass name n body name' body'
both_pass name n body name' body' e = go (nat_lt 0 n) (nat_eq (get_or body 0 0) 58) refl refl e
  where
    go : (s t : Bool) → nat_lt 0 n ≡ s → nat_eq (get_or body 0 0) 58 ≡ t
        → cond {A = Option (List ℕ × List ℕ)} (s && t) (Some (name, drop 1 body)) None ≡ Some (name', body')
        → BothPass name n body name' body'
    go true true some colon is =
        record {
          some = ltb-true 0 n some;
          colon = eqb-true (get_or body 0 0) 58 colon;
          same_name = ap (λ (p : List ℕ × List ℕ). p.0) (some_is is);
          same_body = ap (λ (p : List ℕ × List ℕ). p.1) (some_is is);
        }
    go true false some colon is = absurd (none_no_some None refl is)
    go false t some colon is = absurd (none_no_some None refl is)

begins_colon : (body : List ℕ) → get_or body 0 0 ≡ 58 → body ≡ 58 ∷ drop 1 body
begins_colon [] e = absurd (omega arith)
begins_colon (b ∷ body) e = ap (λ c. c ∷ body) e

prefix_passes : (p : ℕ → Bool) (xs : List ℕ) → AllPass p (take (prefix_len p xs) xs)
prefix_passes p xs = λ k d l.
    let short : k < prefix_len p xs = omega (arith, length-prefix_len p xs) in
    ap p (get_or-take (prefix_len p xs) xs k d short) ∙ prefix_len_passes p xs k d short

pub line_from : (line name body : List ℕ) → field_of line ≡ Some (name, body) → IsFieldLine line name body
line_from line name body e =
    let n = prefix_len is_name_byte line in
    let rest = drop n line in
    let m = prefix_len is_blank rest in
    let b = both_pass (take n line) n (behind rest) name body (sym (field_is line) ∙ e) in
    record {
      spacing = take m rest;
      parts = sym (take-append-drop n line)
          ∙ ap (λ t. take n line ++ t) (sym (take-append-drop m rest) ∙
          ap (λ t. take m rest ++ t) (begins_colon (behind rest) b.colon ∙ ap (λ t. 58 ∷ t) b.same_body))
          ∙ ap (λ t. t ++ (take m rest ++ 58 ∷ body)) b.same_name;
      some_name = subst (λ t. 0 < length t) b.same_name (omega (arith, length-prefix_len is_name_byte line, b.some));
      name_bytes = subst (AllPass is_name_byte) b.same_name (prefix_passes is_name_byte line);
      spacing_blank = prefix_passes is_blank rest;
    }

-- a continuation is no field line
pub no_field : (line : List ℕ) → is_continuation line ≡ true → field_of line ≡ None
no_field [] h = field_is []
no_field (b ∷ line) h =
    let none : prefix_len is_name_byte (b ∷ line) ≡ 0 = ap (λ t. cond t (1 + prefix_len is_name_byte line) 0) (no_name_byte b h) in
    field_is (b ∷ line) ∙ ap (λ n. from_parts (take n (b ∷ line)) n (behind (drop n (b ∷ line)))) none
