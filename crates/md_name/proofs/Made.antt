-- Made unique names: they are short, may be delivered under, and tell their parts.
use Rattle.std.proofs.Common.{◌≡◌, ℕ, ◌^◌, ◌<◌, ◌≤◌, Bool, true, false, not, cond, ◌||◌, ◌&&◌, Option, None, Some, List, [], ◌∷◌, ◌++◌, length, get_or, drop, refl, sym, ap, ◌∙◌, arith, append_assoc, length-append}
use Rattle.std.specs.Prelude.{◌==◌, nat_lt, nat_le, codes}
use Rattle.std.specs.Char.{is_ascii_digit}
use Rattle.std.specs.List.{list_any}
use Rattle.std.specs.Fmt.{decimal}
use Rattle.std.proofs.lemmas.Bool.{not-true, eqb-true, or_parts, or_from}
use Rattle.std.proofs.lemmas.Bool.Decides.{nat_tests}
use Rattle.std.proofs.lemmas.Fmt.{decimal_injective, decimal_nonempty, length-decimal-le}
use Rattle.std.proofs.lemmas.List.Folds.{list_any-append}
use Rattle.md_name.specs.Names.{is_colon, is_slash, is_terminator, begins_with_dot, is_maildir_unique, is_unique_name}
use Rattle.md_name.specs.Made.{escape, escaped, is_host, made_unique, is_backslash}
use Rattle.md_name.proofs.Digits.{and_first, and_second, digits-decimal, none_of_digits, no_dot_first, same_number}

-- the text with its pieces grouped from the right
grouped : (sec micro pid count : ℕ) (host : List ℕ) → made_unique sec micro pid count host
    ≡ decimal sec ++ 46 ∷ 77 ∷ (decimal micro ++ 80 ∷ (decimal pid ++ 81 ∷ (decimal count ++ 46 ∷ escaped host)))
unfolding made_unique
grouped sec micro pid count host = simp append_assoc

-- ---- at most 171 bytes

pub length-made_unique-le : (sec micro pid count : ℕ) (host : List ℕ) → sec < 2 ^ 64 → micro < 1000000 → pid < 2 ^ 64 → count < 2 ^ 64
    → is_host host ≡ true → length (made_unique sec micro pid count host) ≤ 171
unfolding is_host
length-made_unique-le sec micro pid count host s m p c h =
    let sec_len : length (decimal sec) ≤ 20 = length-decimal-le 20 sec (omega arith) (omega arith) s in
    let micro_len : length (decimal micro) ≤ 6 = length-decimal-le 6 micro (omega arith) (omega arith) (omega arith) in
    let pid_len : length (decimal pid) ≤ 20 = length-decimal-le 20 pid (omega arith) (omega arith) p in
    let count_len : length (decimal count) ≤ 20 = length-decimal-le 20 count (omega arith) (omega arith) c in
    let within : nat_le (length (escaped host)) 100 ≡ true =
    and_second (nat_lt 0 (length host)) (nat_le (length (escaped host)) 100)
    (and_first (nat_lt 0 (length host) && nat_le (length (escaped host)) 100) (not (list_any is_terminator host)) h) in
    let host_len : length (escaped host) ≤ 100 = grind (arith, nat_tests) in
    rw grouped (simp length-append (omega arith))

-- ---- what may be delivered under

any_made : (p : ℕ → Bool) → ((c : ℕ) → is_ascii_digit c ≡ true → p c ≡ false) → (p 46 || (p 77 || (p 80 || p 81))) ≡ false
    → (sec micro pid count : ℕ) (host : List ℕ) → sec < 2 ^ 64 → micro < 2 ^ 64 → pid < 2 ^ 64 → count < 2 ^ 64
    → list_any p (escaped host) ≡ false → list_any p (made_unique sec micro pid count host) ≡ false
any_made p none marks sec micro pid count host s m q c h =
    let dot = or_parts _ _ marks in
    let m_mark = or_parts _ _ dot.1 in
    let p_mark = or_parts _ _ m_mark.1 in
    let number : (n : ℕ) → n < 2 ^ 64 → list_any p (decimal n) ≡ false = λ n l. none_of_digits p none (decimal n) (digits-decimal n l) in
    let after_count : list_any p (46 ∷ escaped host) ≡ false = or_from _ _ dot.0 h in
    let after_pid : list_any p (81 ∷ (decimal count ++ 46 ∷ escaped host)) ≡ false =
    or_from _ _ p_mark.1 (list_any-append p _ _ ∙ or_from _ _ (number count c) after_count) in
    let after_micro : list_any p (80 ∷ (decimal pid ++ 81 ∷ (decimal count ++ 46 ∷ escaped host))) ≡ false =
    or_from _ _ p_mark.0 (list_any-append p _ _ ∙ or_from _ _ (number pid q) after_pid) in
    let after_sec : list_any p (46 ∷ 77 ∷ (decimal micro ++ 80 ∷ (decimal pid ++ 81 ∷ (decimal count ++ 46 ∷ escaped host)))) ≡ false =
    or_from _ _ dot.0 (or_from _ _ m_mark.0 (list_any-append p _ _ ∙ or_from _ _ (number micro m) after_micro)) in
    ap (list_any p) (grouped sec micro pid count host) ∙ list_any-append p _ _ ∙ or_from _ _ (number sec s) after_sec

no_colon_escaped : (b : ℕ) → list_any is_colon (escape b) ≡ false
no_colon_escaped b = grind (arith, nat_tests)

no_slash_escaped : (b : ℕ) → list_any is_slash (escape b) ≡ false
no_slash_escaped b = grind (arith, nat_tests)

terminator_escaped : (b : ℕ) → list_any is_terminator (escape b) ≡ is_terminator b
terminator_escaped b = grind (arith, nat_tests)

none_escaped : (p : ℕ → Bool) → ((b : ℕ) → list_any p (escape b) ≡ false) → (host : List ℕ) → list_any p (escaped host) ≡ false
unfolding escaped
none_escaped p none [] = refl
none_escaped p none (b ∷ host) = list_any-append p (escape b) (escaped host) ∙ or_from _ _ (none b) (none_escaped p none host)

terminators : (host : List ℕ) → list_any is_terminator (escaped host) ≡ list_any is_terminator host
unfolding escaped
terminators [] = refl
terminators (b ∷ host) =
    list_any-append is_terminator (escape b) (escaped host) ∙ (λ i. terminator_escaped b i || terminators host i)

all_hold : (a b c d e f : Bool) → a ≡ true → b ≡ false → c ≡ false → d ≡ false → e ≡ true → f ≡ false
    → (((((a && not b) && not c) && not d) && e) && not f) ≡ true
all_hold a b c d e f ha hb hc hd he hf = grind (arith, nat_tests)

pub is_unique_name-made_unique : (sec micro pid count : ℕ) (host : List ℕ) → sec < 2 ^ 64 → micro < 1000000 → pid < 2 ^ 64 → count < 2 ^ 64
    → is_host host ≡ true → is_unique_name (made_unique sec micro pid count host) ≡ true
unfolding is_unique_name is_maildir_unique is_host
is_unique_name-made_unique sec micro pid count host s m p c h =
    let name = made_unique sec micro pid count host in
    let wide : micro < 2 ^ 64 = omega arith in
    let short : length name ≤ 171 = length-made_unique-le sec micro pid count host s m p c h in
    let first : 0 < length (decimal sec) = decimal_nonempty sec s in
    let some : 0 < length name = rw grouped (omega (arith, length-append {A = ℕ})) in
    let clean : list_any is_terminator host ≡ false = not-true (list_any is_terminator host)
    (and_second (nat_lt 0 (length host) && nat_le (length (escaped host)) 100) (not (list_any is_terminator host)) h) in
    all_hold (nat_lt 0 (length name)) (begins_with_dot name) (list_any is_colon name) (list_any is_slash name) (nat_le (length name) 200)
    (list_any is_terminator name)
    (grind (arith, nat_tests))
    (ap begins_with_dot (grouped sec micro pid count host) ∙ no_dot_first (decimal sec) _ (digits-decimal sec s) first)
    (any_made is_colon (λ d is. grind (arith, nat_tests)) refl sec micro pid count host s wide p c (none_escaped is_colon no_colon_escaped host))
    (any_made is_slash (λ d is. grind (arith, nat_tests)) refl sec micro pid count host s wide p c (none_escaped is_slash no_slash_escaped host))
    (grind (arith, nat_tests))
    (any_made is_terminator (λ d is. grind (arith, nat_tests)) refl sec micro pid count host s wide p c (terminators host ∙ clean))

-- ---- two made names

pub record SameParts (sec micro pid count : ℕ) (host : List ℕ) (sec' micro' pid' count' : ℕ) (host' : List ℕ) : Type 0 where
  pub sec_is : sec ≡ sec'
  pub micro_is : micro ≡ micro'
  pub pid_is : pid ≡ pid'
  pub count_is : count ≡ count'
  pub host_is : escaped host ≡ escaped host'

pub made_unique_tells : (sec micro pid count : ℕ) (host : List ℕ) (sec' micro' pid' count' : ℕ) (host' : List ℕ)
    → sec < 2 ^ 64 → micro < 2 ^ 64 → pid < 2 ^ 64 → count < 2 ^ 64 → sec' < 2 ^ 64 → micro' < 2 ^ 64 → pid' < 2 ^ 64 → count' < 2 ^ 64
    → made_unique sec micro pid count host ≡ made_unique sec' micro' pid' count' host' → SameParts sec micro pid count host sec' micro' pid' count' host'
made_unique_tells sec micro pid count host sec' micro' pid' count' host' s m p c s' m' p' c' same =
    let texts = sym (grouped sec micro pid count host) ∙ same ∙ grouped sec' micro' pid' count' host' in
    let at_sec = same_number 46 refl (decimal sec) (decimal sec') _ _ (digits-decimal sec s) (digits-decimal sec' s') texts in
    let after_m : decimal micro ++ 80 ∷ (decimal pid ++ 81 ∷ (decimal count ++ 46 ∷ escaped host))
    ≡ decimal micro' ++ 80 ∷ (decimal pid' ++ 81 ∷ (decimal count' ++ 46 ∷ escaped host')) = cc (at_sec.1) in
    let at_micro = same_number 80 refl (decimal micro) (decimal micro') _ _ (digits-decimal micro m) (digits-decimal micro' m') after_m in
    let at_pid = same_number 81 refl (decimal pid) (decimal pid') _ _ (digits-decimal pid p) (digits-decimal pid' p') at_micro.1 in
    let at_count = same_number 46 refl (decimal count) (decimal count') _ _ (digits-decimal count c) (digits-decimal count' c') at_pid.1 in
    record {
      sec_is = decimal_injective sec sec' s s' at_sec.0;
      micro_is = decimal_injective micro micro' m m' at_micro.0;
      pid_is = decimal_injective pid pid' p p' at_pid.0;
      count_is = decimal_injective count count' c c' at_count.0;
      host_is = at_count.1;
    }

-- ---- two escaped hosts

-- the first byte of a text that was escaped, and the text behind it
first_of : List ℕ → Option (ℕ × List ℕ)
first_of [] = None
first_of (b ∷ text) = cond (is_backslash b) (Some (cond (get_or text 1 0 == 53) 47 58, drop 3 text)) (Some (b, text))

first_by : (slash colon : Bool) (b : ℕ) (text : List ℕ) → (slash ≡ true → b ≡ 47) → (colon ≡ true → b ≡ 58) → is_backslash b ≡ false
    → first_of (cond slash (92 ∷ codes "057") (cond colon (92 ∷ codes "072") (b ∷ [])) ++ text) ≡ Some (b, text)
unfolding first_of
first_by true colon b text is other plain = ap (λ c. Some (c, text)) (sym (is refl))
first_by false true b text is other plain = ap (λ c. Some (c, text)) (sym (other refl))
first_by false false b text is other plain = ap (λ t. cond t (Some (cond (get_or text 1 0 == 53) 47 58, drop 3 text)) (Some (b, text))) plain

first_of-escape : (b : ℕ) (text : List ℕ) → is_backslash b ≡ false → first_of (escape b ++ text) ≡ Some (b, text)
first_of-escape b text = first_by (is_slash b) (is_colon b) b text (eqb-true b 47) (eqb-true b 58)

pub escaped_tells : (a b : List ℕ) → list_any is_backslash a ≡ false → list_any is_backslash b ≡ false → escaped a ≡ escaped b → a ≡ b
unfolding escaped first_of
escaped_tells [] [] ha hb same = refl
escaped_tells [] (y ∷ b) ha hb same =
    let none = ap first_of same ∙ first_of-escape y (escaped b) (or_parts _ _ hb).0 in cc
escaped_tells (x ∷ a) [] ha hb same =
    let none = sym (first_of-escape x (escaped a) (or_parts _ _ ha).0) ∙ ap first_of same in cc
escaped_tells (x ∷ a) (y ∷ b) ha hb same =
    let of_a = or_parts (is_backslash x) (list_any is_backslash a) ha in
    let of_b = or_parts (is_backslash y) (list_any is_backslash b) hb in
    let first = sym (first_of-escape x (escaped a) of_a.0) ∙ ap first_of same ∙ first_of-escape y (escaped b) of_b.0 in
    let pair : (x, escaped a) ≡ (y, escaped b) = cc in
    let head : x ≡ y = ap (λ (p : ℕ × List ℕ). p.0) pair in
    let rest : a ≡ b = escaped_tells a b of_a.1 of_b.1 (ap (λ (p : ℕ × List ℕ). p.1) pair) in
    cc
