-- What tables count and note follows what the directories show.
use Rattle.std.proofs.Common.{ℕ, ◌≡◌, ◌+◌, ◌-◌, ◌==◌, ◌&&◌, ◌||◌, cond, not, List, [], ◌∷◌, Option, Some, None, Bool, true, false, is_some, refl, ◌∙◌, arith}
use Rattle.std.specs.Prelude.{unwrap_or}
use Rattle.std.specs.List.{count_by}
use Rattle.std.specs.Option.{option_map}
use Rattle.std.specs.Str.{bytes_eq}
use Rattle.std.specs.FinMap as finmap
use Rattle.std.proofs.lemmas.List.Sums.{sum_by-cons}
use Rattle.md_dirs.specs.State.{State}
use Rattle.md_dirs.specs.declared.paths.Path.{Path}
use Rattle.md_name.specs.Names.{unique_of}
use Rattle.md_law.specs.Messages.{is_message}
use Rattle.md_monitor.specs.Files.{is_some_and, count_where}
use Rattle.md_monitor.specs.Messages.{is_of_any, paths_of, paths_beside}
use Rattle.md_kept.specs.Changes.{Turn}
use Rattle.md_kept.specs.Messages.{come, gone, turning}

abbrev pub one : Bool → ℕ
one b = cond b 1 0

-- how many of a path there are of which a test holds
abbrev pub ones : (Path × ℕ → Bool) → Option (Path × ℕ) → ℕ
ones test o = one (is_some_and o test)

module _ (test : Path × ℕ → Bool) where
  come-count : (named : Option (Path × ℕ)) (o : Option ℕ) → unwrap_or (come test named o) 0 ≡ unwrap_or o 0 + ones test named
  come-count None o = omega arith
  come-count (Some e) o = elim (test e) as (λ b. unwrap_or (cond b (Some (unwrap_or o 0 + 1)) o) 0 ≡ unwrap_or o 0 + one b) [
    | true ↦ refl
    | false ↦ omega arith
  ]

  less : (o : Option ℕ) → unwrap_or (option_map (λ n. n - 1) o) 0 ≡ unwrap_or o 0 - 1
  less None = refl
  less (Some n) = refl

  gone-count : (went : Option (Path × ℕ)) (o : Option ℕ) → unwrap_or (gone test went o) 0 ≡ unwrap_or o 0 - ones test went
  gone-count None o = omega arith
  gone-count (Some e) o = elim (test e) as (λ b. unwrap_or (cond b (option_map (λ n. n - 1) o) o) 0 ≡ unwrap_or o 0 - one b) [
    | true ↦ less o
    | false ↦ omega arith
  ]

  pub turning-count : (t : Turn) (o : Option ℕ) (before after : ℕ) → unwrap_or o 0 ≡ before
      → after + (ones test t.taken + ones test t.turned) ≡ before + ones test t.named → unwrap_or (turning test t o) 0 ≡ after
  turning-count t o before after was recounts =
      let a = come-count t.named o in
      let b = gone-count t.taken (come test t.named o) in
      let c = gone-count t.turned (gone test t.taken (come test t.named o)) in
      omega (arith, was, recounts, a, b, c)

  come-some : (named : Option (Path × ℕ)) (o : Option ℕ) → is_some (come test named o) ≡ (is_some_and named test || is_some o)
  come-some None o = refl
  come-some (Some e) o = elim (test e) as (λ b. is_some (cond b (Some (unwrap_or o 0 + 1)) o) ≡ (b || is_some o)) [
    | true ↦ refl
    | false ↦ refl
  ]

  kept : (o : Option ℕ) → is_some (option_map (λ n. n - 1) o) ≡ is_some o
  kept None = refl
  kept (Some n) = refl

  gone-some : (went : Option (Path × ℕ)) (o : Option ℕ) → is_some (gone test went o) ≡ is_some o
  gone-some None o = refl
  gone-some (Some e) o = elim (test e) as (λ b. is_some (cond b (option_map (λ n. n - 1) o) o) ≡ is_some o) [
    | true ↦ kept o
    | false ↦ refl
  ]

  pub turning-some : (t : Turn) (o : Option ℕ) → is_some (turning test t o) ≡ (is_some_and t.named test || is_some o)
  turning-some t o = gone-some t.turned (gone test t.taken (come test t.named o)) ∙ gone-some t.taken (come test t.named o)
      ∙ come-some t.named o

-- ---- the paths of a message, in its folder and in others

module _ (here beside all : Path × ℕ → Bool) (parted : (e : Path × ℕ) → one (here e) + one (beside e) ≡ one (all e)) where
  counts : (es : List (Path × ℕ)) → count_by here es + count_by beside es ≡ count_by all es
  counts [] = refl
  counts (e ∷ es) =
      let a = sum_by-cons (λ x. one (here x)) e es in
      let b = sum_by-cons (λ x. one (beside x)) e es in
      let c = sum_by-cons (λ x. one (all x)) e es in
      let at = parted e in
      let rest = counts es in
      omega (arith, a, b, c, at, rest)

part : (message folder name : Bool) → one ((message && folder) && name) + one ((message && name) && not folder) ≡ one (message && name)
part true true true = refl
part true true false = refl
part true false true = refl
part true false false = refl
part false folder name = refl

pub in-and-beside : (s : State) (folder : ℕ) (unique : List ℕ)
    → paths_of s folder unique + paths_beside s folder unique ≡ count_where (λ e. is_of_any unique e.0) s
in-and-beside s folder unique = counts _ _ _ (λ e. part (is_message e.0) (e.0.folder == folder) (bytes_eq (unique_of e.0.name) unique))
    (finmap.entries s.names)
