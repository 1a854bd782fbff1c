-- Listings that have begun, as the kept readings of a store.
use Rattle.std.proofs.Common.{◌≡◌, ◌==◌, ℕ, List, [], ◌∷◌, ◌++◌, Option, Some, None, Result, Ok, Err, Bool, true, false, cond, not, map, filter, length, refl, sym, ap, subst, ◌∙◌}
use Rattle.std.specs.Option.{option_map, ok_or}
use Rattle.std.specs.List.{find, All}
use Rattle.std.proofs.lemmas.Bool.{eqb-true}
use Rattle.std.proofs.lemmas.List.{map-append}
use Rattle.std.proofs.lemmas.List.Elements.{All-head, All-tail, All-nil, All-cons, All-append, All-filter}
use Rattle.md_core.specs.Runs.{Run}
use Rattle.md_listing.specs.declared.entry.Entry.{Entry}
use Rattle.md_listing.specs.declared.listing.BegunListing.{BegunListing}
use Rattle.md_listing.specs.Law.{names_at, listing_of, HasBegun}
use Rattle.md_script.specs.declared.error.PlayKind.{PlayKind}
use Rattle.md_script.specs.declared.error.PlayKind.TheVariants.{NoFirst}
use Rattle.md_text.specs.Bind.{◌>>=◌}
use Rattle.md_script.specs.Held.{first_by}
use Rattle.md_script.specs.Sessions.{ScriptStore, First, first_of, others, read_first, read_second}
use Rattle.md_script.specs.Texts.{entries_text}

module _ {A B : Type 0} (f : A → B) (p : B → Bool) where
  map-filter : (xs : List A) → map f (filter (λ x. p (f x)) xs) ≡ filter p (map f xs)
  map-filter [] = refl
  map-filter (x ∷ xs) =
      elim (p (f x)) as (λ b. map f (cond b (x ∷ filter (λ x. p (f x)) xs) (filter (λ x. p (f x)) xs)) ≡ cond b (f x ∷ filter p (map f xs))
      (filter p (map f xs))) [
        | true ↦ ap (λ ys. f x ∷ ys) (map-filter xs)
        | false ↦ map-filter xs
      ]

  find-map : (xs : List A) → option_map f (find (λ x. p (f x)) xs) ≡ find p (map f xs)
  find-map [] = refl
  find-map (x ∷ xs) =
      elim (p (f x)) as (λ b. option_map f (cond b (Some x) (find (λ x. p (f x)) xs)) ≡ cond b (Some (f x)) (find p (map f xs))) [
        | true ↦ refl
        | false ↦ find-map xs
      ]

-- what is found has what all have, and passes the test
pub found : {A : Type 0} (P : A → Type 0) (p : A → Bool) (xs : List A) (y : A) → All P xs → find p xs ≡ Some y → P y × (p y ≡ true)
found P p [] y all is = cc
found P p (x ∷ xs) y all is =
    elim (p x) as (λ b. p x ≡ b → cond b (Some x) (find p xs) ≡ Some y → P y × (p y ≡ true)) [
      | true ↦ λ passes is. let same : x ≡ y = cc in (subst P same (All-head P x xs all), ap p (sym same) ∙ passes)
      | false ↦ λ passes is. found P p xs y (All-tail P x xs all) is
    ] refl is

module _ (folder : ℕ) (kept : List BegunListing) where
  pub others-kept : map first_by (filter (λ l. not (l.folder == folder)) kept) ≡ others folder (map first_by kept)
  others-kept = map-filter first_by (λ f. not (f.folder == folder)) kept

  pub first-kept : option_map first_by (find (λ l. l.folder == folder) kept) ≡ first_of folder (map first_by kept)
  first-kept = find-map first_by (λ f. f.folder == folder) kept

-- a kept list without a folder's, and one that has this in its place
module _ (r : Run) (folder : ℕ) (kept new : List BegunListing) (all : All (HasBegun r) kept) where
  pub begun-others : new ≡ filter (λ l. not (l.folder == folder)) kept → All (HasBegun r) new
  begun-others is = subst (All (HasBegun r)) (sym is) (All-filter (λ l. not (l.folder == folder)) (HasBegun r) kept all)

  pub begun-one_more : (l : BegunListing) → HasBegun r l → new ≡ filter (λ l. not (l.folder == folder)) kept ++ l ∷ [] → All (HasBegun r) new
  begun-one_more l begun is =
      subst (All (HasBegun r)) (sym is)
      (All-append (HasBegun r) (filter (λ l. not (l.folder == folder)) kept) (l ∷ []) (All-filter (λ l. not (l.folder == folder)) (HasBegun r) kept all)
      (All-cons (HasBegun r) l [] begun (All-nil (HasBegun r))))

abbrev held : Run → List BegunListing → ScriptStore
held r kept = record { run = r; firsts = map first_by kept }

abbrev second_by : ScriptStore → ℕ → Option First → Result (ScriptStore × List ℕ) PlayKind
second_by t folder kept =
    ok_or kept NoFirst >>=
    (λ kept. Ok (
      record t { firsts = others folder t.firsts },
      entries_text
          (listing_of (names_at t.run) folder kept.moment (length t.run.events)),
    ))

module _ (t : ScriptStore) (folder : ℕ) (r : Run) (kept : List BegunListing) (view_is : held r kept ≡ t) where
  pub first-read : (new : List BegunListing) (l : BegunListing) → l.folder ≡ folder → l.begun ≡ length r.events →
      new ≡ filter (λ x. not (x.folder == l.folder)) kept ++ l ∷ []
      → read_first t folder ≡ Ok (held r new, [])
  unfolding read_first
  first-read new l of at is =
      let firsts : map first_by new ≡ others l.folder (map first_by kept) ++ first_by l ∷ [] =
      ap (map first_by) is ∙ map-append first_by (filter (λ x. not (x.folder == l.folder)) kept) (l ∷ [])
      ∙ ap (λ (fs : List First). fs ++ first_by l ∷ []) (others-kept l.folder kept) in
      let now : others l.folder (map first_by kept) ++ first_by l ∷ [] ≡ (let f : First =
      record { folder = folder; moment = length r.events } in others folder (map first_by kept) ++ f ∷ []) =
      λ i. (let f : First = record { folder = of i; moment = at i } in others (of i) (map first_by kept) ++ f ∷ []) in
      subst (λ (u : ScriptStore). read_first u folder ≡ Ok (held r new, [])) view_is
      (λ i. (let u : ScriptStore = record { run = r; firsts = sym (firsts ∙ now) i } in Ok (u, [])))

  pub not-kept : find (λ l. l.folder == folder) kept ≡ None → read_second t folder ≡ Err NoFirst
  unfolding read_second
  not-kept none =
      subst (λ (u : ScriptStore). read_second u folder ≡ Err NoFirst) view_is
      (ap (second_by (held r kept) folder) (sym (first-kept folder kept) ∙ ap (option_map first_by) none))

  pub second-read : (new : List BegunListing) (l : BegunListing) (entries : List Entry) → find (λ l. l.folder == folder) kept ≡ Some l → All (HasBegun r) kept →
      new ≡ filter (λ l. not (l.folder == folder)) kept
      → entries ≡ listing_of (names_at r) l.folder l.begun (length r.events) → read_second t folder ≡ Ok (held r new, entries_text entries)
  unfolding read_second
  second-read new l entries is all others_are listed =
      let of : l.folder ≡ folder = eqb-true l.folder folder (found (HasBegun r) (λ l. l.folder == folder) kept l all is).1 in
      let shown : entries ≡ listing_of (names_at r) folder l.begun (length r.events) =
      listed ∙ ap (λ f. listing_of (names_at r) f l.begun (length r.events)) of in
      let firsts : map first_by new ≡ others folder (map first_by kept) = ap (map first_by) others_are ∙ others-kept folder kept in
      subst (λ (u : ScriptStore). read_second u folder ≡ Ok (held r new, entries_text entries)) view_is
      (ap (second_by (held r kept) folder) (sym (first-kept folder kept) ∙ ap (option_map first_by) is)
      ∙ (λ i. (let u : ScriptStore = record { run = r; firsts = sym firsts i } in Ok (u, entries_text (sym shown i)))))
