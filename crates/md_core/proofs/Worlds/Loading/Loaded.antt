-- What holds of directories that a world may begin with.
use Rattle.std.proofs.Common.{ℕ, suc, ◌≡◌, ◌≤◌, ◌+◌, inl, inr, List, [], ◌∷◌, Option, Some, None, Bool, true, false, cond, not, ◌&&◌, ◌||◌, nat_lt, max, fold, length, take, refl, sym, ap, ◌∙◌, arith}
use Rattle.std.proofs.lemmas.Bool.{and_parts}
use Rattle.std.proofs.lemmas.Bool.Decides.{nat_tests}
use Rattle.std.proofs.lemmas.Slice.Eq.{bytes_eq-Decides}
use Rattle.md_core.proofs.Values.{State, file_at, file_by, CoreError, Path, is_message, is_tmp, HasOnePath, stamp_of, first_clock, name_used, option_or, list_any, position_or_len, bytes_eq, entries, is_bad_name, is_long_unique, is_same_message, fault_of, first_fault, load_refusal, uses}
use Rattle.md_dirs.proofs.PathOrder.{path_total, path_exact}
use Rattle.md_name.specs.Names.{is_colon, begins_with_dot, unique_of, is_message_name, is_maildir_unique, is_unique_name}
use Rattle.md_jobs.specs.declared.error.CoreError.TheVariants as core
use Rattle.md_core.proofs.Induction.Good.{IsUnused}
use Rattle.lists.proofs.Members.{Has, get-has}
use Rattle.md_used.proofs.Among.{bytes_eq-sym}

-- ---- no entry has a fault

pub both_none : {X : Type 0} (a b : Option X) → option_or a b ≡ None → (a ≡ None) × (b ≡ None)
both_none None b is = (refl, is)
both_none (Some x) b is = cc

-- a path has none of the three faults, after earlier paths
pub record IsFaultless (earlier : List Path) (p : Path) : Type 0 where
  pub name : is_bad_name p.name ≡ false
  pub short : is_long_unique p ≡ false
  pub single : list_any (is_same_message p) earlier ≡ false

three : (a b c : Bool) →
    cond {A = Option CoreError} a (Some core.BadName) (cond b (Some core.LongUnique) (cond c (Some core.DuplicateUnique) None)) ≡ None →
    (a ≡ false) × (b ≡ false) × (c ≡ false)
three true b c is = cc
three false true c is = cc
three false false true is = cc
three false false false is = (refl, refl, refl)

pub no-fault : (earlier : List Path) (p : Path) → fault_of earlier p ≡ None → IsFaultless earlier p
no-fault earlier p is = let each = three _ _ _ is in record { name = each.0; short = each.1; single = each.2 }

pub later_none : (a b : Bool) → (a || b) ≡ false → b ≡ false
later_none true b is = cc
later_none false b is = is

pub first_none : (a b : Bool) → (a || b) ≡ false → a ≡ false
first_none true b is = cc
first_none false b is = refl

each-faultless : (earlier : List Path) (es : List (Path × ℕ)) → first_fault earlier es ≡ None → (x : Path × ℕ) → Has es x → IsFaultless earlier x.0
each-faultless earlier [] none x has = absurd has
each-faultless earlier (e ∷ es) none x has =
    let parts = both_none _ _ none in
    elim has [
      | inl is ↦ let own = no-fault earlier e.0 parts.0 in record {
        name = ap (λ (y : Path × ℕ). is_bad_name y.0.name) is ∙ own.name;
        short = ap (λ (y : Path × ℕ). is_long_unique y.0) is ∙ own.short;
        single = ap (λ (y : Path × ℕ). list_any (is_same_message y.0) earlier) is ∙ own.single;
      }
      | inr later ↦ let own = each-faultless (e.0 ∷ earlier) es parts.1 x later in record {
        name = own.name;
        short = own.short;
        single = later_none (is_same_message x.0 e.0) _ own.single;
      }
    ]

and_turned : (a b : Bool) → (a && b) ≡ (b && a)
and_turned true true = refl
and_turned true false = refl
and_turned false true = refl
and_turned false false = refl

pub same-turned : (p q : Path) → is_same_message p q ≡ is_same_message q p
same-turned p q = (λ i. and_turned (is_message p) (is_message q) i && bytes_eq-sym (unique_of p.name) (unique_of q.name) i)

-- two entries that are messages of one name are one
one-entry : (earlier : List Path) (es : List (Path × ℕ)) → first_fault earlier es ≡ None → (x y : Path × ℕ) → Has es x → Has es y →
    is_same_message x.0 y.0 ≡ true → x ≡ y
one-entry earlier [] none x y hx hy same = absurd hx
one-entry earlier (e ∷ es) none x y hx hy same =
    let rest : first_fault (e.0 ∷ earlier) es ≡ None = (both_none (fault_of earlier e.0) _ none).1 in
    elim hx [
      | inl xe ↦ elim hy [
        | inl ye ↦ xe ∙ sym ye
        | inr later ↦
            let no : is_same_message y.0 e.0 ≡ false =
            first_none _ (list_any (is_same_message y.0) earlier) (each-faultless (e.0 ∷ earlier) es rest y later).single in
            let yes : is_same_message y.0 e.0 ≡ true = ap (λ (z : Path × ℕ). is_same_message y.0 z.0) (sym xe) ∙ same-turned y.0 x.0 ∙ same in
            cc
      ]
      | inr later ↦ elim hy [
        | inl ye ↦
            let no : is_same_message x.0 e.0 ≡ false =
            first_none _ (list_any (is_same_message x.0) earlier) (each-faultless (e.0 ∷ earlier) es rest x later).single in
            let yes : is_same_message x.0 e.0 ≡ true = ap (λ (z : Path × ℕ). is_same_message x.0 z.0) (sym ye) ∙ same in
            cc
        | inr later' ↦ one-entry (e.0 ∷ earlier) es rest x y later later' same
      ]
    ]

same-message : (p q : Path) → is_message p ≡ true → is_message q ≡ true → unique_of p.name ≡ unique_of q.name → is_same_message p q ≡ true
same-message p q mp mq u =
    (λ i. (mp i && mq i) && bytes_eq (unique_of p.name) (unique_of q.name)) ∙ (bytes_eq-Decides (unique_of p.name) (unique_of q.name)).1 u

module _ (s : State) (accepted : load_refusal s ≡ None) where
  entry : (p : Path) (n : ℕ) → file_at s p ≡ Some n → Has (entries s.names) (p, n)
  entry p n there = get-has path_total path_exact s.names p n there

  faultless : (p : Path) (n : ℕ) → file_at s p ≡ Some n → IsFaultless [] p
  faultless p n there = each-faultless [] (entries s.names) accepted (p, n) (entry p n there)

  -- each unique name has one path in new and cur
  pub loaded-one_path : HasOnePath s
  loaded-one_path p q m n there there' mp mq u =
      ap (λ (x : Path × ℕ). x.0) (one-entry [] (entries s.names) accepted (p, m) (q, n) (entry p m there) (entry q n there') (same-message p q mp mq u))

  pub loaded-name : (p : Path) (n : ℕ) → file_at s p ≡ Some n → is_bad_name p.name ≡ false
  loaded-name p n there = (faultless p n there).name

  -- the unique part of a message has at most 200 bytes
  pub loaded-short : (p : Path) (n : ℕ) → file_at s p ≡ Some n → is_message p ≡ true → length (unique_of p.name) ≤ 200
  loaded-short p n there message =
      let is : nat_lt 200 (length (unique_of p.name)) ≡ false = ap (λ b. b && nat_lt 200 (length (unique_of p.name))) (sym message) ∙
      (faultless p n there).short in
      grind (arith, nat_tests)

-- ---- names that are used

-- a name begins with a dot where its unique part does, if it has one
dot : (name : List ℕ) → nat_lt 0 (length (unique_of name)) ≡ true → begins_with_dot name ≡ begins_with_dot (unique_of name)
unfolding unique_of
dot [] some = refl
dot (c ∷ cs) some = by (is_colon c) refl some
  where
    by : (b : Bool) → is_colon c ≡ b → nat_lt 0 (length (take (cond (not b) (1 + position_or_len is_colon cs) 0) (c ∷ cs))) ≡ true
        → begins_with_dot (c ∷ cs) ≡ begins_with_dot (take (cond (not b) (1 + position_or_len is_colon cs) 0) (c ∷ cs))
    by true is some = cc
    by false is some =
        let k = position_or_len is_colon cs in
        let e : 1 + k ≡ suc k = omega arith in
        ap (λ n. begins_with_dot (take n (c ∷ cs))) (sym e)

-- a name whose unique part may be delivered under is a message's
unique-message : (name : List ℕ) → is_unique_name (unique_of name) ≡ true → is_message_name name ≡ true
unfolding is_message_name is_unique_name is_maildir_unique
unique-message name is =
    let maildir = (and_parts _ _ (and_parts _ _ is).0).0 in
    let some = (and_parts _ _ (and_parts _ _ (and_parts _ _ maildir).0).0) in
    (λ i. not (dot name some.0 i) && nat_lt 0 (length (unique_of name))) ∙ (λ i. some.1 i && some.0 i)

pub none-has : (q : Path × ℕ → Bool) (es : List (Path × ℕ)) (x : Path × ℕ) → list_any q es ≡ false → Has es x → q x ≡ false
none-has q [] x none has = absurd has
none-has q (e ∷ es) x none has = elim has [
  | inl is ↦ ap q is ∙ first_none (q e) (list_any q es) none
  | inr later ↦ none-has q es x (later_none (q e) (list_any q es) none) later
]

-- a path whose name is one that may be delivered under uses it
key-used : (u : List ℕ) (p : Path) → is_unique_name u ≡ true → name_used p ≡ u → uses u p ≡ true
key-used u p unique = by (is_tmp p.place)
  where
    by : (b : Bool) → cond b p.name (unique_of p.name) ≡ u →
        cond b (bytes_eq p.name u) ((not b && is_message_name p.name) && bytes_eq (unique_of p.name) u) ≡ true
    by true is = (bytes_eq-Decides p.name u).1 is
    by false is = (λ i. unique-message p.name (ap is_unique_name is ∙ unique) i && (bytes_eq-Decides (unique_of p.name) u).1 is i)

-- what no entry uses, no path uses
pub unused-path : (s : State) (u : List ℕ) → is_unique_name u ≡ true → list_any (λ e. uses u e.0) (entries s.names) ≡ false → IsUnused s u
unused-path s u unique none p key = by (file_at s p) refl
  where
    by : (o : Option ℕ) → file_at s p ≡ o → o ≡ None
    by None there = refl
    by (Some n) there =
        let no = none-has (λ e. uses u e.0) (entries s.names) (p, n) none (get-has path_total path_exact s.names p n there) in
        let yes = key-used u p unique key in
        cc

-- ---- stamps

from_on : (s : State) (clock : ℕ) (es : List (Path × ℕ)) → clock ≤ fold (λ c e. max c (stamp_of (file_by s.files e.1))) clock es
from_on s clock [] = omega arith
from_on s clock (e ∷ es) = omega (arith, from_on s (max clock (stamp_of (file_by s.files e.1))) es)

each_stamp : (s : State) (clock : ℕ) (es : List (Path × ℕ)) (x : Path × ℕ) → Has es x →
    stamp_of (file_by s.files x.1) ≤ fold (λ c e. max c (stamp_of (file_by s.files e.1))) clock es
each_stamp s clock [] x has = absurd has
each_stamp s clock (e ∷ es) x has = elim has [
  | inl is ↦
      let same = ap (λ (y : Path × ℕ). stamp_of (file_by s.files y.1)) is in
      omega (arith, same, from_on s (max clock (stamp_of (file_by s.files e.1))) es)
  | inr later ↦ each_stamp s (max clock (stamp_of (file_by s.files e.1))) es x later
]

-- no file that has a path has a later stamp than the first clock
pub first-clock : (s : State) (p : Path) (n : ℕ) → file_at s p ≡ Some n → stamp_of (file_by s.files n) ≤ first_clock s
first-clock s p n there = each_stamp s 0 (entries s.names) (p, n) (get-has path_total path_exact s.names p n there)
