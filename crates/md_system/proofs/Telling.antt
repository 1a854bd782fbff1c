-- What is told of a flaw more.
use Rattle.std.proofs.Common.{ℕ, ◌≡◌, ◌<◌, ◌≤◌, ◌+◌, ◌++◌, ◌⊎◌, ◌↔◌, true, List, [], ◌∷◌, length, get_or, take, Any, Contains}
use Rattle.std.proofs.Common.{refl, sym, ap, subst, ◌∙◌, inl, inr, arith}
use Rattle.std.proofs.lemmas.List.{take_all, take_more}
use Rattle.std.proofs.lemmas.List.Elements.{Contains-append_left, Contains-push, Contains-push_cases}
use Rattle.md_dirs.specs.Rows.{is_old}
use Rattle.md_dirs.specs.declared.paths.Place.TheVariants.{Tmp}
use Rattle.md_system.specs.Checks.{Breaks, IsFlawOf, IsUnused}
use Rattle.md_system.specs.Gathering.{Tells}
use Rattle.md_system.specs.declared.flaw.Flaw.{Flaw}
use Rattle.md_system.specs.declared.flaw.FlawKind.{FlawKind}
use Rattle.md_system.specs.declared.flaw.FlawKind.TheVariants as flaw
use Rattle.md_system.specs.declared.seen.InTmp.{InTmp}
use Rattle.md_system.specs.declared.seen.Seen.{Seen}

-- what is told in two steps
pub tells-both : (P Q R : Flaw → Type 0) (old mid new : List Flaw) → Tells P old mid → Tells Q mid new →
    ((f : Flaw) → (P f ⊎ Q f) ↔ R f) → Tells R old new
tells-both P Q R old mid new first then each f = (has, some)
  where
    has : Contains new f → Contains old f ⊎ R f
    has in-new = elim ((then f).0 in-new) [
      | inl in-mid ↦ elim ((first f).0 in-mid) [ inl in-old ↦ inl in-old | inr p ↦ inr ((each f).0 (inl p)) ]
      | inr q ↦ inr ((each f).0 (inr q))
    ]

    some : Contains old f ⊎ R f → Contains new f
    some (inl in-old) = (then f).1 (inl ((first f).1 (inl in-old)))
    some (inr r) = elim ((each f).1 r) [ inl p ↦ (then f).1 (inl ((first f).1 (inr p))) | inr q ↦ (then f).1 (inr q) ]

-- the same of other words
pub tells-as : (P R : Flaw → Type 0) (old new : List Flaw) → Tells P old new → ((f : Flaw) → P f ↔ R f) → Tells R old new
tells-as P R old new tells each f = (
  λ has. elim ((tells f).0 has) [ inl in-old ↦ inl in-old | inr p ↦ inr ((each f).0 p) ],
  λ some. elim some [ inl in-old ↦ (tells f).1 (inl in-old) | inr r ↦ (tells f).1 (inr ((each f).1 r)) ],
)

pub tells-pushed : (old new : List Flaw) (x : Flaw) → new ≡ old ++ x ∷ [] → Tells (λ f. x ≡ f) old new
tells-pushed old new x is f = (
  λ has. Contains-push_cases old x f (subst (λ (fs : List Flaw). Contains fs f) is has),
  λ some. subst (λ (fs : List Flaw). Contains fs f) (sym is)
      (elim some [ inl in-old ↦ Contains-append_left old (x ∷ []) f in-old | inr same ↦ subst (Contains (old ++ x ∷ [])) same (Contains-push old x) ]),
)

module _ {X : Type 0} where
  any-pushed : (P : X → Type 0) (xs : List X) (x : X) → (Any P xs ⊎ P x) ↔ Any P (xs ++ x ∷ [])
  any-pushed P xs x = (there, back)
    where
      there : Any P xs ⊎ P x → Any P (xs ++ x ∷ [])
      there (inl some) =
          let at = Contains-append_left xs (x ∷ []) some.1 (some.0, some.2, some.3) in (at.0, some.1, at.1, at.2, some.4)
      there (inr p) = let at = Contains-push xs x in (at.0, x, at.1, at.2, p)

      back : Any P (xs ++ x ∷ []) → Any P xs ⊎ P x
      back some = elim (Contains-push_cases xs x some.1 (some.0, some.2, some.3)) [
        | inl at ↦ inl (at.0, some.1, at.1, at.2, some.4)
        | inr same ↦ inr (subst P (sym same) some.4)
      ]

  taken : (xs : List X) (i : ℕ) (d x : X) → i < length xs → x ≡ get_or xs i d → take i xs ++ x ∷ [] ≡ take (i + 1) xs
  taken xs i d x within is = ap (λ (y : X). take i xs ++ y ∷ []) is ∙ sym (take_more xs i d within)

  -- one element more
  pub any-more : (P : X → Type 0) (xs : List X) (i : ℕ) (x : X) → i < length xs → x ≡ get_or xs i x →
      (Any P (take i xs) ⊎ P x) ↔ Any P (take (i + 1) xs)
  any-more P xs i x within is = subst (λ (ys : List X). (Any P (take i xs) ⊎ P x) ↔ Any P ys) (taken xs i x x within is) (any-pushed P (take i xs) x)

  -- one of which it does not hold
  pub any-none : (P : X → Type 0) (xs : List X) (i : ℕ) (x : X) → i < length xs → x ≡ get_or xs i x → (P x → ⊥) →
      Any P (take i xs) ↔ Any P (take (i + 1) xs)
  any-none P xs i x within is none =
      let more = any-more P xs i x within is in
      (λ some. more.0 (inl some), λ some. elim (more.1 some) [ inl before ↦ before | inr p ↦ absurd (none p) ])

  pub contains-more : (xs : List X) (i : ℕ) (d x y : X) → i < length xs → x ≡ get_or xs i d →
      (Contains (take i xs) y ⊎ (x ≡ y)) ↔ Contains (take (i + 1) xs) y
  contains-more xs i d x y within is = subst (λ (ys : List X). (Contains (take i xs) y ⊎ (x ≡ y)) ↔ Contains ys y) (taken xs i d x within is) (
    λ some. elim some [ inl before ↦ Contains-append_left (take i xs) (x ∷ []) y before | inr same ↦ subst (Contains (take i xs ++ x ∷ [])) same (Contains-push (take i xs) x) ],
    Contains-push_cases (take i xs) x y,
  )

-- a flaw of another name
abbrev pub renamed : Flaw → List ℕ → Flaw
renamed f name = record { folder = f.folder; place = f.place; name = name; kind = f.kind }

-- ---- what is told of a file of tmp

abbrev pub unused : InTmp → Flaw
unused file = record { folder = file.folder; place = Tmp; name = file.row.name; kind = flaw.Unused }

pub unused-is : (now : ℕ) (file : InTmp) → is_old now 129600 file.row ≡ true → (f : Flaw) → (unused file ≡ f) ↔ IsUnused now file f
unused-is now file old f = (
  λ same. record {
    folder = sym (ap (λ (g : Flaw). g.folder) same);
    place = sym (ap (λ (g : Flaw). g.place) same);
    name = sym (ap (λ (g : Flaw). g.name) same);
    kind = sym (ap (λ (g : Flaw). g.kind) same);
    old = old;
  },
  λ is. sym (λ i. record { folder = is.folder i; place = is.place i; name = is.name i; kind = is.kind i }),
)

pub unused-more : (now : ℕ) (tmp : List InTmp) (i : ℕ) (file : InTmp) → i < length tmp → file ≡ get_or tmp i file → is_old now 129600 file.row ≡ true →
    (f : Flaw) → (Any (λ one. IsUnused now one f) (take i tmp) ⊎ (unused file ≡ f)) ↔ Any (λ one. IsUnused now one f) (take (i + 1) tmp)
unused-more now tmp i file within is old f =
    let more = any-more (λ (one : InTmp). IsUnused now one f) tmp i file within is in
    let same = unused-is now file old f in (
      λ some. elim some [ inl before ↦ more.0 (inl before) | inr told ↦ more.0 (inr (same.0 told)) ],
      λ some. elim (more.1 some) [ inl before ↦ inl before | inr one ↦ inr (same.1 one) ],
    )

-- ---- what is told of a name

abbrev pub told : Seen → FlawKind → Flaw
told one kind = record { folder = one.folder; place = one.place; name = one.name; kind = kind }

module _ (all : List Seen) (one : Seen) (kinds : List FlawKind) (i : ℕ) (d kind : FlawKind) (within : i < length kinds) (is : kind ≡ get_or kinds i d) where
  abbrev Told : ℕ → Flaw → Type 0
  Told n f = IsFlawOf all one f × Contains (take n kinds) f.kind

  pub told-more : Breaks all one kind → (f : Flaw) → (Told i f ⊎ (told one kind ≡ f)) ↔ Told (i + 1) f
  told-more breaks f = (there, back)
    where
      there : Told i f ⊎ (told one kind ≡ f) → Told (i + 1) f
      there (inl before) = (before.0, (contains-more kinds i d kind f.kind within is).0 (inl before.1))
      there (inr same) = (
        subst (IsFlawOf all one) same (record { folder = refl; place = refl; name = refl; breaks = breaks }),
        (contains-more kinds i d kind f.kind within is).0 (inr (ap (λ (g : Flaw). g.kind) same)),
      )

      back : Told (i + 1) f → Told i f ⊎ (told one kind ≡ f)
      back some = elim ((contains-more kinds i d kind f.kind within is).1 some.1) [
        | inl before ↦ inl (some.0, before)
        | inr same ↦ inr (λ j. record { folder = sym some.0.folder j; place = sym some.0.place j; name = sym some.0.name j; kind = same j })
      ]

  pub told-none : (Breaks all one kind → ⊥) → (f : Flaw) → Told i f ↔ Told (i + 1) f
  told-none none f = (
    λ before. (before.0, (contains-more kinds i d kind f.kind within is).0 (inl before.1)),
    λ some. elim ((contains-more kinds i d kind f.kind within is).1 some.1) [
      | inl before ↦ (some.0, before)
      | inr same ↦ absurd (none (subst (Breaks all one) (sym same) some.0.breaks))
    ],
  )

-- the kinds that a name of new or cur can have
abbrev pub seen_kinds : List FlawKind
seen_kinds =
    flaw.TwiceInFolder ∷ flaw.InOtherFolders ∷ flaw.NotAFile ∷ flaw.DotName ∷ flaw.InfoInNew ∷ flaw.NoInfo ∷ flaw.FlagsOutOfOrder ∷ flaw.NotText ∷
    flaw.LongName ∷ []

kind-seen : (all : List Seen) (one : Seen) (kind : FlawKind) → Breaks all one kind → Contains seen_kinds kind
kind-seen all one flaw.TwiceInFolder is = (0, omega arith, refl)
kind-seen all one flaw.InOtherFolders is = (1, omega arith, refl)
kind-seen all one flaw.NotAFile is = (2, omega arith, refl)
kind-seen all one flaw.DotName is = (3, omega arith, refl)
kind-seen all one flaw.InfoInNew is = (4, omega arith, refl)
kind-seen all one flaw.NoInfo is = (5, omega arith, refl)
kind-seen all one flaw.FlagsOutOfOrder is = (6, omega arith, refl)
kind-seen all one flaw.NotText is = (7, omega arith, refl)
kind-seen all one flaw.LongName is = (8, omega arith, refl)
kind-seen all one flaw.Unused is = absurd is

-- after the last kind
pub told-all : (all : List Seen) (one : Seen) (n : ℕ) → 9 ≤ n → (f : Flaw) → (IsFlawOf all one f × Contains (take n seen_kinds) f.kind) ↔ IsFlawOf all one f
told-all all one n far f = (
  λ some. some.0,
  λ is. (is, subst (λ (kinds : List FlawKind). Contains kinds f.kind) (sym (take_all n seen_kinds far)) (kind-seen all one f.kind is.breaks)),
)
