-- What is left of bytes without the white space at both ends.
use Rattle.std.proofs.Common.{◌≡◌, ℕ, suc, ◌-◌, true, false, List, [], ◌∷◌, ◌++◌, length, take, get_or, refl, sym, ap, ◌∙◌, arith, append-nil, subst, ⊎_elim, cond}
use Rattle.std.proofs.lemmas.Bool.{cases_Bool}
use Rattle.std.specs.List.{AllPass}
use Rattle.md_head.specs.Header.{is_blank}
use Rattle.md_head.specs.Values.{IsTrimmed}
use Rattle.md_head.specs.Computed.{trimmed_front, trimmed_end, onto_trimmed, trimmed}
use Rattle.md_head.proofs.Alls.{pass_head, pass_tail, pass_nil, pass_cons, take_front}

pub front_blank : (b : ℕ) (bytes : List ℕ) → is_blank b ≡ true → trimmed_front (b ∷ bytes) ≡ trimmed_front bytes
unfolding trimmed_front
front_blank b bytes e = ap (λ t. cond t (trimmed_front bytes) (b ∷ bytes)) e

pub front_stop : (b : ℕ) (bytes : List ℕ) → is_blank b ≡ false → trimmed_front (b ∷ bytes) ≡ b ∷ bytes
unfolding trimmed_front
front_stop b bytes e = ap (λ t. cond t (trimmed_front bytes) (b ∷ bytes)) e

pub front_nil : trimmed_front [] ≡ []
unfolding trimmed_front
front_nil = refl

pub end_nil : trimmed_end [] ≡ []
unfolding trimmed_end
end_nil = refl

pub end_cons : (b : ℕ) (bytes : List ℕ) → trimmed_end (b ∷ bytes) ≡ onto_trimmed b (trimmed_end bytes)
unfolding trimmed_end
end_cons b bytes = refl

-- the blanks in front of what is left
pub record FrontSplit (bytes : List ℕ) : Type 0 where
  pub before : List ℕ
  pub before_blank : AllPass is_blank before
  pub parts : bytes ≡ before ++ trimmed_front bytes
  pub begins : is_blank (get_or (trimmed_front bytes) 0 0) ≡ false

pub front_split : (bytes : List ℕ) → FrontSplit bytes
front_split [] = record {
  before = [];
  before_blank = pass_nil is_blank;
  parts = sym front_nil;
  begins = ap (λ bs. is_blank (get_or bs 0 0)) front_nil;
}
front_split (b ∷ bytes) = ⊎_elim
    (λ yes.
    let rest = front_split bytes in
    let e = front_blank b bytes yes in
    record {
      before = b ∷ rest.before;
      before_blank = pass_cons is_blank b rest.before yes rest.before_blank;
      parts = ap (λ t. b ∷ t) rest.parts ∙ sym (ap (λ t. (b ∷ rest.before) ++ t) e);
      begins = ap (λ t. is_blank (get_or t 0 0)) e ∙ rest.begins;
    })
    (λ no.
    let e = front_stop b bytes no in
    record {
      before = [];
      before_blank = pass_nil is_blank;
      parts = sym e;
      begins = ap (λ t. is_blank (get_or t 0 0)) e ∙ no;
    })
    (cases_Bool (is_blank b))

-- the blanks behind what is left
pub record EndSplit (bytes left : List ℕ) : Type 0 where
  pub behind : List ℕ
  pub behind_blank : AllPass is_blank behind
  pub parts : bytes ≡ left ++ behind
  pub ends : is_blank (get_or left (length left - 1) 0) ≡ false

end_step : (b : ℕ) (bytes left : List ℕ) → EndSplit bytes left → EndSplit (b ∷ bytes) (onto_trimmed b left)
end_step b bytes [] s = ⊎_elim
    (λ yes. subst (EndSplit (b ∷ bytes)) (sym (ap (λ t. cond t [] (b ∷ [])) yes))
    (record {
      behind = b ∷ s.behind;
      behind_blank = pass_cons is_blank b s.behind yes s.behind_blank;
      parts = ap (λ t. b ∷ t) s.parts;
      ends = refl;
    }))
    (λ no. subst (EndSplit (b ∷ bytes)) (sym (ap (λ t. cond t [] (b ∷ [])) no))
    (record {
      behind = s.behind;
      behind_blank = s.behind_blank;
      parts = ap (λ t. b ∷ t) s.parts;
      ends = no;
    }))
    (cases_Bool (is_blank b))
end_step b bytes (c ∷ left) s =
    let here : length (b ∷ c ∷ left) - 1 ≡ suc (length left) = omega arith in
    let there : length (c ∷ left) - 1 ≡ length left = omega arith in
    record {
      behind = s.behind;
      behind_blank = s.behind_blank;
      parts = ap (λ t. b ∷ t) s.parts;
      ends = ap (λ n. is_blank (get_or (b ∷ c ∷ left) n 0)) here ∙ sym (ap (λ n. is_blank (get_or (c ∷ left) n 0)) there) ∙ s.ends;
    }

pub end_split : (bytes : List ℕ) → EndSplit bytes (trimmed_end bytes)
unfolding trimmed_end
end_split [] = record { behind = []; behind_blank = pass_nil is_blank; parts = refl; ends = refl }
end_split (b ∷ bytes) = end_step b bytes (trimmed_end bytes) (end_split bytes)

-- what is left is a front
pub end_taken : (bytes : List ℕ) → take (length (trimmed_end bytes)) bytes ≡ trimmed_end bytes
end_taken bytes =
    let s = end_split bytes in
    ap (take (length (trimmed_end bytes))) s.parts ∙ take_front (trimmed_end bytes) s.behind

-- trimming at the end keeps a first byte that isn't blank
keeps_first : (bytes : List ℕ) → is_blank (get_or bytes 0 0) ≡ false → is_blank (get_or (trimmed_end bytes) 0 0) ≡ false
unfolding trimmed_end
keeps_first [] e = refl
keeps_first (b ∷ bytes) e = onto b (trimmed_end bytes) e
  where
    onto : (b : ℕ) (left : List ℕ) → is_blank b ≡ false → is_blank (get_or (onto_trimmed b left) 0 0) ≡ false
    onto b [] e = ap (λ t. is_blank (get_or (cond t [] (b ∷ [])) 0 0)) e ∙ e
    onto b (c ∷ left) e = e

pub trimmed_is : (bytes : List ℕ) → IsTrimmed bytes (trimmed bytes)
trimmed_is bytes =
    let f = front_split bytes in
    let e = end_split (trimmed_front bytes) in
    record {
      before = f.before;
      behind = e.behind;
      parts = f.parts ∙ ap (λ t. f.before ++ t) e.parts;
      before_blank = f.before_blank;
      behind_blank = e.behind_blank;
      begins = keeps_first (trimmed_front bytes) f.begins;
      ends = e.ends;
    }

-- and there is no other
front_blanks : (before bytes : List ℕ) → AllPass is_blank before → trimmed_front (before ++ bytes) ≡ trimmed_front bytes
front_blanks [] bytes h = refl
front_blanks (b ∷ before) bytes h = front_blank b (before ++ bytes) (pass_head is_blank b before h) ∙ front_blanks before bytes (pass_tail is_blank b before h)

end_blanks : (behind : List ℕ) → AllPass is_blank behind → trimmed_end behind ≡ []
end_blanks [] h = end_nil
end_blanks (b ∷ behind) h =
    end_cons b behind ∙ ap (onto_trimmed b) (end_blanks behind (pass_tail is_blank b behind h)) ∙ ap (λ t. cond t [] (b ∷ [])) (pass_head is_blank b behind h)

end_append : (bytes behind : List ℕ) → AllPass is_blank behind → trimmed_end (bytes ++ behind) ≡ trimmed_end bytes
end_append [] behind h = end_blanks behind h ∙ sym end_nil
end_append (b ∷ bytes) behind h = end_cons b (bytes ++ behind) ∙ ap (onto_trimmed b) (end_append bytes behind h) ∙ sym (end_cons b bytes)

end_whole : (value : List ℕ) → is_blank (get_or value (length value - 1) 0) ≡ false → trimmed_end value ≡ value
end_whole [] e = end_nil
end_whole (b ∷ []) e = end_cons b [] ∙ ap (onto_trimmed b) end_nil ∙ ap (λ t. cond t [] (b ∷ [])) e
end_whole (b ∷ c ∷ value) e =
    let here : length (b ∷ c ∷ value) - 1 ≡ suc (length value) = omega arith in
    let there : length (c ∷ value) - 1 ≡ length value = omega arith in
    let last = ap (λ n. is_blank (get_or (c ∷ value) n 0)) there ∙ sym (ap (λ n. is_blank (get_or (b ∷ c ∷ value) n 0)) here) ∙ e in
    end_cons b (c ∷ value) ∙ ap (onto_trimmed b) (end_whole (c ∷ value) last)

whole : (value behind : List ℕ) → AllPass is_blank behind → is_blank (get_or value 0 0) ≡ false → is_blank (get_or value (length value - 1) 0) ≡ false
    → trimmed (value ++ behind) ≡ value
whole [] behind h begins ends =
    ap trimmed_end (ap trimmed_front (sym (append-nil behind)) ∙ front_blanks behind [] h ∙ front_nil) ∙ end_nil
whole (b ∷ value) behind h begins ends = ap trimmed_end (front_stop b (value ++ behind) begins) ∙ end_append (b ∷ value) behind h ∙ end_whole (b ∷ value) ends

pub trimmed_only : (bytes value : List ℕ) → IsTrimmed bytes value → trimmed bytes ≡ value
trimmed_only bytes value t =
    ap trimmed t.parts ∙ ap trimmed_end (front_blanks t.before (value ++ t.behind) t.before_blank) ∙ whole value t.behind t.behind_blank t.begins t.ends
