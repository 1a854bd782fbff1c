-- The first fault of entries in turn, and what was found of entries so far.
use Rattle.std.proofs.Common.{ℕ, ◌≡◌, List, [], ◌∷◌, ◌++◌, Option, Some, None, Bool, true, false, cond, ◌&&◌, ◌||◌, max, refl, sym, ap, ◌∙◌}
use Rattle.std.proofs.lemmas.List.Folds.{list_any-append}
use Rattle.std.proofs.lemmas.List.Sums.{fold-append}
use Rattle.md_core.proofs.Values.{State, file_by, CoreError, Path, unique_of, is_message, stamp_of, is_among, option_or, list_any, bytes_eq, Seen, is_same_message, is_bad_name, is_long_unique, fault_of, first_fault, IsLookOf, fault_after, is_message_of, is_tmp_of}
use Rattle.md_jobs.specs.declared.error.CoreError.TheVariants as core
use Rattle.md_used.proofs.Among.{bytes_eq-sym}

-- ---- faults in turn

-- the paths before, the last first
abbrev pub behind : List Path → List (Path × ℕ) → List Path
behind earlier [] = earlier
behind earlier (e ∷ es) = behind (e.0 ∷ earlier) es

or_assoc : {X : Type 0} (a b c : Option X) → option_or a (option_or b c) ≡ option_or (option_or a b) c
or_assoc None b c = refl
or_assoc (Some x) b c = refl

pub fault-append : (earlier : List Path) (xs ys : List (Path × ℕ)) →
    first_fault earlier (xs ++ ys) ≡ option_or (first_fault earlier xs) (first_fault (behind earlier xs) ys)
fault-append earlier [] ys = refl
fault-append earlier (x ∷ xs) ys =
    ap (option_or (fault_of earlier x.0)) (fault-append (x.0 ∷ earlier) xs ys)
    ∙ or_assoc (fault_of earlier x.0) (first_fault (x.0 ∷ earlier) xs) (first_fault (behind (x.0 ∷ earlier) xs) ys)

or_moved : (a b c : Bool) → (a || (b || c)) ≡ ((b || a) || c)
or_moved true true c = refl
or_moved true false c = refl
or_moved false true c = refl
or_moved false false c = refl

pub any-behind : (q : Path → Bool) (earlier : List Path) (es : List (Path × ℕ)) →
    list_any q (behind earlier es) ≡ (list_any (λ e. q e.0) es || list_any q earlier)
any-behind q earlier [] = refl
any-behind q earlier (e ∷ es) = any-behind q (e.0 ∷ earlier) es ∙ or_moved (list_any (λ x. q x.0) es) (q e.0) (list_any q earlier)

pub or_none : (a : Bool) → (a || false) ≡ a
or_none true = refl
or_none false = refl

-- whether a message of the same name was met
pub same-any : (p : Path) (es : List (Path × ℕ)) →
    list_any (λ e. is_same_message p e.0) es ≡ (is_message p && list_any (λ e. is_message_of (unique_of p.name) e.0) es)
same-any p es = by (is_message p) es
  where
    by : (b : Bool) (es : List (Path × ℕ)) →
        list_any (λ e. b && is_message e.0 && bytes_eq (unique_of p.name) (unique_of e.0.name)) es ≡
        (b && list_any (λ e. is_message_of (unique_of p.name) e.0) es)
    by true [] = refl
    by true (e ∷ es) = (λ i. (is_message e.0 && bytes_eq-sym (unique_of p.name) (unique_of e.0.name) i) || by true es i)
    by false [] = refl
    by false (e ∷ es) = by false es

module _ (s : State) (es : List (Path × ℕ)) (seen : Seen) (look : IsLookOf s es seen) where
  -- what was found tells the fault of the next path
  pub fault-same : (p : Path) → fault_of (behind [] es) p ≡ fault_after seen.messages p
  fault-same p =
      let met : list_any (is_same_message p) (behind [] es) ≡ (is_message p && is_among (unique_of p.name) seen.messages) =
      any-behind (is_same_message p) [] es ∙ or_none _ ∙ same-any p es ∙ ap (λ b. is_message p && b) (sym (look.messages (unique_of p.name))) in
      ap (λ b. cond (is_bad_name p.name) (Some core.BadName) (cond (is_long_unique p) (Some core.LongUnique) (cond b (Some core.DuplicateUnique) None))) met

  or_swap : (a b : Bool) → (a || b) ≡ (b || (a || false))
  or_swap true true = refl
  or_swap true false = refl
  or_swap false true = refl
  or_swap false false = refl

  one_any : (q : Path × ℕ → Bool) (e : Path × ℕ) (names names' : List (List ℕ)) (u : List ℕ) →
      is_among u names ≡ list_any q es → is_among u names' ≡ (q e || is_among u names) → is_among u names' ≡ list_any q (es ++ e ∷ [])
  one_any q e names names' u is more = more ∙ ap (λ b. q e || b) is ∙ or_swap (q e) (list_any q es) ∙ sym (list_any-append q es (e ∷ []))

  -- one more entry, which has no fault
  pub look-more : (e : Path × ℕ) (seen' : Seen) → fault_after seen.messages e.0 ≡ None
      → ((u : List ℕ) → is_among u seen'.messages ≡ (is_message_of u e.0 || is_among u seen.messages)) →
      ((u : List ℕ) → is_among u seen'.tmp ≡ (is_tmp_of u e.0 || is_among u seen.tmp))
      → seen'.clock ≡ max seen.clock (stamp_of (file_by s.files e.1)) → IsLookOf s (es ++ e ∷ []) seen'
  look-more e seen' fault messages tmp stamp = record {
    messages = λ u. one_any (λ x. is_message_of u x.0) e seen.messages seen'.messages u (look.messages u) (messages u);
    tmp = λ u. one_any (λ x. is_tmp_of u x.0) e seen.tmp seen'.tmp u (look.tmp u) (tmp u);
    clock = stamp ∙ ap (λ c. max c (stamp_of (file_by s.files e.1))) look.clock ∙
        sym (fold-append (λ c (x : Path × ℕ). max c (stamp_of (file_by s.files x.1))) 0 es (e ∷ []));
    faultless = fault-append [] es (e ∷ [])
        ∙ (λ i. option_or (look.faultless i) (option_or ((fault-same e.0 ∙ fault) i) None));
  }

  -- the next entry has the first fault of all
  pub first-fault : (e : Path × ℕ) (rest : List (Path × ℕ)) (error : CoreError) → fault_after seen.messages e.0 ≡ Some error →
      first_fault [] (es ++ e ∷ rest) ≡ Some error
  first-fault e rest error fault =
      fault-append [] es (e ∷ rest)
      ∙ (λ i. option_or (look.faultless i) (option_or ((fault-same e.0 ∙ fault) i) (first_fault (e.0 ∷ behind [] es) rest)))
