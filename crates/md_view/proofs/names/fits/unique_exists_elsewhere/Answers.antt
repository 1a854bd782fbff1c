use Rattle.std.proofs.Common.{ℕ, ◌≡◌, List, [], Option, Some, None, IsSome, inl, inr, true, false, length, slice_get, refl, sym, ap, subst, ◌∙◌, arith}
use Rattle.std.specs.Option.{option_map_or}
use Rattle.std.proofs.lemmas.Bool.{cases_lt}
use Rattle.std.proofs.lemmas.Option.{slice_get_read, slice_get_past}
use Rattle.md_dirs.specs.declared.paths.Place.{Place}
use Rattle.md_listing.specs.declared.entry.Entry.{Entry}
use Rattle.md_view.specs.Held.{FolderLists, list_of, listed_in, entry_with}
use Rattle.md_view.proofs.names.fits.unique_exists_elsewhere.Goals as goal

listed-at : (fs : List FolderLists) (k : ℕ) (f : FolderLists) → slice_get fs k ≡ Some f → (p : Place) → listed_in fs k p ≡ list_of p f
listed-at fs k f at p = ap (λ (o : Option FolderLists). option_map_or (list_of p) o []) at

listed-past : (fs : List FolderLists) (k : ℕ) → slice_get fs k ≡ None → (p : Place) (u : List ℕ) → IsSome (entry_with u (listed_in fs k p)) → ⊥
listed-past fs k past p u some = none (slice_get fs k) past some
  where
    none : (o : Option FolderLists) → o ≡ None → IsSome (entry_with u (option_map_or (list_of p) o [])) → ⊥
    none None is some = cc
    none (Some f) is some = cc

pub returns-then-has_elsewhere : goal.returns-then-has_elsewhere
returns-then-has_elsewhere g c =
    let fs = c.args.folders.now in
    let f = c.index-folders-at.result in
    let at = slice_get_read fs _ c.loop-at.at f refl c.loop-at-test.true c.index-folders-at.is in (
      λ _.
          let h = c.has_elsewhere.ensures.0 c.if-has_elsewhere.true in (
            c.loop-at.at,
            h.0,
            (c.own_place.ensures h.0).0 h.1,
            subst (λ (es : List Entry). IsSome (entry_with c.args.unique.now es)) (sym (listed-at fs c.loop-at.at f at h.0)) h.2,
          ),
      λ _. refl,
    )

pub loop-at-preserved : goal.loop-at-preserved
loop-at-preserved g c k p low apart some =
    let fs = c.args.folders.now in
    let f = c.index-folders-at.result in
    let at = slice_get_read fs _ c.loop-at.at f refl c.loop-at-test.true c.index-folders-at.is in
    elim (cases_lt k c.loop-at.at) [
      | inl before ↦ c.loop-at.invariant k p before apart some
      | inr behind ↦
          let same : k ≡ c.loop-at.at = omega (arith, low, behind) in
          let is = c.has_elsewhere.ensures.1 (
            p,
            (c.own_place.ensures p).1 (λ in_folder in_place. apart (same ∙ in_folder) in_place),
            subst (λ (es : List Entry). IsSome (entry_with c.args.unique.now es)) (ap (λ j. listed_in fs j p) same ∙ listed-at fs c.loop-at.at f at p) some,
          ) in
          let never : true ≡ false = sym is ∙ c.if-has_elsewhere.false in
          cc
    ]

pub returns : goal.returns
returns g c = (
  λ never. cc,
  λ taken.
      let fs = c.args.folders.now in
      let k = taken.0 in
      absurd (elim (cases_lt k (length fs)) [
        | inl low ↦
            let end = c.loop-at.auto.at-end in
            let past = c.loop-at-test.false in
            c.loop-at.invariant k taken.1 (omega (arith, low, end, past)) taken.2 taken.3
        | inr high ↦ listed-past fs k (slice_get_past fs k high) taken.1 c.args.unique.now taken.3
      ]),
)
