-- What a monitor keeps of messages and of paths of tmp is what the history tells of them.
use Rattle.std.proofs.Common.{ℕ, ◌≡◌, ◌≢◌, ◌↔◌, ◌⊎◌, inl, inr, cond, ◌==◌, ◌&&◌, ◌||◌, not, List, Option, Some, None, Bool, true, false, refl, sym, ap, subst, ◌∙◌}
use Rattle.std.specs.Bool.{Decides}
use Rattle.std.specs.Option.{option_or}
use Rattle.std.specs.Ordering.{eq_by_cmp, is_eq}
use Rattle.std.specs.Cmp.{Equal-is}
use Rattle.std.proofs.lemmas.Cmp.{tied_itself}
use Rattle.std.proofs.lemmas.Option.{some_pair_parts}
use Rattle.md_dirs.specs.Path.{path_cmp}
use Rattle.md_dirs.proofs.PathOrder.{path_total, path_exact}
use Rattle.std.proofs.lemmas.Bool.{or_cases, or_left, or_right}
use Rattle.std.proofs.lemmas.Bool.Decides.{Decides-eqb, Decides-and, Decides-not, Decides-like}
use Rattle.std.proofs.lemmas.Slice.Eq.{bytes_eq-Decides}
use Rattle.md_dirs.specs.State.{file_at}
use Rattle.md_dirs.specs.declared.paths.Path.{Path}
use Rattle.md_name.specs.Names.{unique_of}
use Rattle.md_log.specs.declared.line.Step.{Step}
use Rattle.md_law.specs.History.{Moment, History, opening, next, at, moment, Once}
use Rattle.md_law.specs.Messages.{is_message, is_tmp, IsOf, IsMessageAt, IsThere}
use Rattle.md_law.specs.Law.{WasOf}
use Rattle.md_monitor.specs.Changes.{change_of, is_file}
use Rattle.md_monitor.specs.Files.{is_some_and}
use Rattle.md_monitor.specs.Messages.{PathKept, no_path, MessagesKept, is_of, is_of_any, messages_kept, messages_first, messages_after, path_after, path_named, named_other}
use Rattle.md_monitor.proofs.Tests.{some-and, file-is}
use Rattle.md_monitor.proofs.Stepping.{names}
use Rattle.md_monitor.proofs.Seeing.{some-where}
use Rattle.md_monitor.proofs.Once.{IsNamed, now-once, once-like, once-is}

-- the path is one of the message of a unique name, in any folder
abbrev pub IsOfAny : List ℕ → Path → Type 0
IsOfAny unique p = (is_message p ≡ true) × (unique_of p.name ≡ unique)

pub of-is : (folder : ℕ) (unique : List ℕ) (p : Path) → Decides (is_of folder unique p) (IsOf p folder unique)
of-is folder unique p = Decides-like _ (λ both. (both.0.0, both.0.1, both.1)) (λ (message, here, name). ((message, here), name))
    (Decides-and _ _ (Decides-and (is_message p) _ (λ t. t, λ t. t) (Decides-eqb p.folder folder))
    (bytes_eq-Decides (unique_of p.name) unique))

pub of_any-is : (unique : List ℕ) (p : Path) → Decides (is_of_any unique p) (IsOfAny unique p)
of_any-is unique p = Decides-and (is_message p) _ (λ t. t, λ t. t) (bytes_eq-Decides (unique_of p.name) unique)

-- the message of a unique name is in some folder
abbrev pub IsAnywhere : List ℕ → History → Type 0
IsAnywhere unique m = (p : Path) × (file : ℕ) × (file_at (at m) p ≡ Some file) × IsOfAny unique p

-- What is kept of messages is what the history tells of them.
pub record AreKept (h : History) (kept : MessagesKept) : Type 0 where
  pub was_there : (folder : ℕ) (unique : List ℕ) → Decides (kept.was_there folder unique) (Once (λ m. IsThere (at m) folder unique) h)
  pub was_file : (folder : ℕ) (unique : List ℕ) (n : ℕ)
      → Decides (kept.was_file folder unique n) (Once (λ m. (q : Path) × IsMessageAt (at m) folder unique q n) h)
  pub was_any : (unique : List ℕ) → Decides (kept.was_any unique) (Once (IsAnywhere unique) h)
  pub was_any_file : (unique : List ℕ) (n : ℕ) → Decides (kept.was_any_file unique n) (WasOf h unique n)
  pub paths : (p : Path) (n : ℕ) → is_tmp p.place ≡ true
      → Decides (named_other (kept.paths p) n) ((other : ℕ) × (other ≢ n) × Once (λ m. file_at (at m) p ≡ Some other) h)

-- ---- the shapes in which the law says it

module _ (m : History) where
  pub there-is : (folder : ℕ) (unique : List ℕ) → IsNamed (λ p n. IsOf p folder unique) m ↔ IsThere (at m) folder unique
  there-is folder unique = (λ (p, n, there, is). (p, n, (there, is)), λ (p, n, both). (p, n, both.0, both.1))

  file-there : (folder : ℕ) (unique : List ℕ) (n : ℕ)
      → IsNamed (λ p k. (k ≡ n) × IsOf p folder unique) m ↔ ((q : Path) × IsMessageAt (at m) folder unique q n)
  file-there folder unique n = (λ (p, k, there, (file, is)). (p, (there ∙ ap Some file, is)), λ (p, both). (p, n, both.0, (refl, both.1)))

  any-there : (unique : List ℕ) (n : ℕ)
      → IsNamed (λ p k. (k ≡ n) × IsOfAny unique p) m ↔ ((p : Path) × IsMessageAt (at m) p.folder unique p n)
  any-there unique n = (
    λ (p, k, there, (file, is)). (p, (there ∙ ap Some file, (is.0, refl, is.1))),
    λ (p, both). (p, n, both.0, (refl, (both.1.0, both.1.2))),
  )

-- ---- paths

-- the path names the file, or did
abbrev Named : Path → ℕ → History → Type 0
Named p n = Once (λ m. file_at (at m) p ≡ Some n)

-- What is kept of a path is what the history tells of it.
record IsPathKept (h : History) (p : Path) (k : PathKept) : Type 0 where
  some : (n : ℕ) → k.first ≡ Some n → Named p n h
  other : (n : ℕ) → Decides (named_other k n) ((other : ℕ) × (other ≢ n) × Named p other h)

first-other : (o : Option ℕ) (n : ℕ) → Decides (is_some_and o (λ m. not (m == n))) ((m : ℕ) × (o ≡ Some m) × (m ≢ n))
first-other o n = some-and o _ (λ m. m ≢ n) (λ m. Decides-not _ (Decides-eqb m n))

path-first : (m : Moment) (p : Path) → IsPathKept (opening m) p (record { first = file_at m.state p; has_other = false })
unfolding Once moment
path-first m p = record {
  some = λ n is. is;
  other = λ n. Decides-like _ (λ (o, is, not). (o, not, is)) (λ (o, not, is). (o, is, not)) (first-other (file_at m.state p) n);
}

module _ (past : History) (x : Step) (p : Path) where
  abbrev named : Option (Path × ℕ)
  named = (change_of (at past) x.call).named

  named-next : (n : ℕ) → Named p n (next past x) ↔ ((named ≡ Some (p, n)) ⊎ Named p n past)
  unfolding Once
  named-next n = (
    λ h. elim h [ inl now ↦ by now (is_file (file_at (at past) p) n) refl | inr was ↦ inr was ],
    λ h. elim h [ inl is ↦ inl ((names past x p n).0 is).0 | inr was ↦ inr was ],
  )
    where
      by : file_at (at (next past x)) p ≡ Some n → (b : Bool) → is_file (file_at (at past) p) n ≡ b → (named ≡ Some (p, n)) ⊎ Named p n past
      by now true is = inr (now-once (λ m. file_at (at m) p ≡ Some n) past ((file-is (file_at (at past) p) n).0 is))
      by now false not = inl ((names past x p n).1 (now, λ some. let is = (file-is (file_at (at past) p) n).1 some in cc))

  -- nothing comes to the path
  path-same : (k : PathKept) → ((n : ℕ) → named ≡ Some (p, n) → ⊥) → IsPathKept past p k → IsPathKept (next past x) p k
  path-same k none was = record {
    some = λ n is. (named-next n).1 (inr (was.some n is));
    other = λ n. Decides-like _
        (λ (o, not, once). (o, not, (named-next o).1 (inr once)))
        (λ (o, not, once). (o, not, elim ((named-next o).0 once) [ inl is ↦ absurd (none o is) | inr old ↦ old ]))
        (was.other n);
  }

  -- a file comes to it
  module _ (file : ℕ) (is : named ≡ Some (p, file)) (k : PathKept) (was : IsPathKept past p k) where
    now-named : Named p file (next past x)
    now-named = (named-next file).1 (inl is)

    first-named : (n : ℕ) → option_or k.first (Some file) ≡ Some n → Named p n (next past x)
    first-named n = by k.first refl
      where
        by : (o : Option ℕ) → k.first ≡ o → option_or o (Some file) ≡ Some n → Named p n (next past x)
        by None none some = subst (λ m. Named p m (next past x)) (let same : file ≡ n = cc some in same) now-named
        by (Some m) first some = (named-next n).1 (inr (was.some n (first ∙ some)))

    to-other : (n : ℕ) → named_other (path_named k file) n ≡ true → (other : ℕ) × (other ≢ n) × Named p other (next past x)
    to-other n t = elim (or_cases (named_other k file) _ t) [
      | inl had ↦
          let o = (was.other file).0 had in
          by o.0 o.1 ((named-next o.0).1 (inr o.2)) (o.0 == n) refl
      | inr not ↦ let o = (first-other (option_or k.first (Some file)) n).0 not in (o.0, o.2, first-named o.0 o.1)
    ]
      where
        by : (o : ℕ) → o ≢ file → Named p o (next past x) → (b : Bool) → (o == n) ≡ b
            → (other : ℕ) × (other ≢ n) × Named p other (next past x)
        by o not once true same = (file, λ e. not ((Decides-eqb o n).0 same ∙ sym e), now-named)
        by o not once false other = (o, λ e. let same = (Decides-eqb o n).1 e in cc, once)

    from-other : (n o : ℕ) → o ≢ n → Named p o (next past x) → named_other (path_named k file) n ≡ true
    from-other n o not once = elim ((named-next o).0 once) [
      | inl now ↦ by (λ e. not (let same : file ≡ o = (some_pair_parts p p file o (sym is ∙ now)).1 in sym same ∙ e)) k.first refl
      | inr old ↦ elim (or_cases k.has_other _ ((was.other n).1 (o, not, old))) [
        | inl had ↦ or_left _ _ (or_left k.has_other _ had)
        | inr first ↦
            let m = (first-other k.first n).0 first in
            or_right _ _ ((first-other (option_or k.first (Some file)) n).1 (m.0, ap (λ w. option_or w (Some file)) m.1, m.2))
      ]
    ]
      where
        by : file ≢ n → (w : Option ℕ) → k.first ≡ w → named_other (path_named k file) n ≡ true
        by other None none = or_right _ _
            ((first-other (option_or k.first (Some file)) n).1 (file, ap (λ w. option_or w (Some file)) none, other))
        by other (Some m) first = by_number (m == n) refl
          where
            by_number : (b : Bool) → (m == n) ≡ b → named_other (path_named k file) n ≡ true
            by_number true same =
                let one = (Decides-eqb m n).0 same in
                or_left _ _ ((was.other file).1 (m, λ e. other (sym e ∙ one), was.some m first))
            by_number false differ = or_right _ _ ((first-other (option_or k.first (Some file)) n).1
                (m, ap (λ w. option_or w (Some file)) first, λ e. let same = (Decides-eqb m n).1 e in cc))

    path-named : IsPathKept (next past x) p (path_named k file)
    path-named = record { some = first-named; other = λ n. (to-other n, λ (o, not, once). from-other n o not once) }

  path-next : (k : PathKept) → IsPathKept past p k → IsPathKept (next past x) p (path_after named p k)
  path-next k was = by named refl
    where
      by_path : (q : Path) (n : ℕ) → named ≡ Some (q, n) → (b : Bool) → eq_by_cmp path_cmp q p ≡ b
          → IsPathKept (next past x) p (cond b (path_named k n) k)
      by_path q n is true same = path-named n (is ∙ ap (λ (w : Path). Some (w, n)) (path_exact q p ((Equal-is _).0 same))) k was
      by_path q n is false other = path-same k (λ m is'.
          let one = (some_pair_parts q p n m (sym is ∙ is')).0 in
          let tie : eq_by_cmp path_cmp q p ≡ true =
          ap (λ (w : Path). eq_by_cmp path_cmp q w) (sym one) ∙ ap is_eq (tied_itself path_total q) in cc) was

      by : (o : Option (Path × ℕ)) → named ≡ o → IsPathKept (next past x) p (path_after o p k)
      by None none = path-same k (λ n some. cc) was
      by (Some (q, n)) is = by_path q n is (eq_by_cmp path_cmp q p) refl

-- where it is one of tmp
path-kept : (h : History) (p : Path) → is_tmp p.place ≡ true → IsPathKept h p ((messages_kept h).paths p)
unfolding messages_kept
path-kept (opening m) p tmp =
    subst (λ b. IsPathKept (opening m) p (cond b (record { first = file_at m.state p; has_other = false }) no_path)) (sym tmp)
    (path-first m p)
path-kept (next past x) p tmp =
    subst (λ b. IsPathKept (next past x) p (cond b (path_after (named past x p) p ((messages_kept past).paths p)) no_path)) (sym tmp)
    (path-next past x p ((messages_kept past).paths p) (path-kept past p tmp))

-- ---- what is kept

-- it is so at the beginning, or once was
first-once : (P : Path → ℕ → Type 0) (Q : History → Type 0) (same : (m : History) → IsNamed P m ↔ Q m) (m : Moment) (b : Bool)
    → Decides b ((p : Path) × (n : ℕ) × (file_at m.state p ≡ Some n) × P p n) → Decides b (Once Q (opening m))
unfolding Once moment
first-once P Q same m b is = Decides-like b (same (opening m)).0 (same (opening m)).1 is

next-once : (P : Path → ℕ → Type 0) (Q : History → Type 0) (same : (m : History) → IsNamed P m ↔ Q m) (past : History) (x : Step)
    (test : Path × ℕ → Bool) → ((e : Path × ℕ) → Decides (test e) (P e.0 e.1)) → (old : Bool) → Decides old (Once Q past)
    → Decides (is_some_and (change_of (at past) x.call).named test || old) (Once Q (next past x))
next-once P Q same past x test each old was = once-like (IsNamed P) Q same _ (next past x)
    (once-is past x test P each old (once-like Q (IsNamed P) (λ m. ((same m).1, (same m).0)) old past was))

-- a test of the path and of the number of its file
file-and : (n : ℕ) (test : Path → Bool) (P : Path → Type 0) → ((p : Path) → Decides (test p) (P p)) → (e : Path × ℕ)
    → Decides (e.1 == n && test e.0) ((e.1 ≡ n) × P e.0)
file-and n test P each e = Decides-and (e.1 == n) (test e.0) (Decides-eqb e.1 n) (each e.0)

messages-first : (m : Moment) → AreKept (opening m) (messages_first m.state)
unfolding messages_kept
messages-first m = record {
  was_there = λ f u. first-once _ _ (λ t. there-is t f u) m _ (some-where _ (λ p n. IsOf p f u) (λ e. of-is f u e.0) m.state);
  was_file = λ f u n. first-once _ _ (λ t. file-there t f u n) m _
      (some-where _ (λ p k. (k ≡ n) × IsOf p f u) (file-and n _ _ (of-is f u)) m.state);
  was_any = λ u. first-once _ _ (λ t. (λ h. h, λ h. h)) m _ (some-where _ (λ p n. IsOfAny u p) (λ e. of_any-is u e.0) m.state);
  was_any_file = λ u n. first-once _ _ (λ t. any-there t u n) m _
      (some-where _ (λ p k. (k ≡ n) × IsOfAny u p) (file-and n _ _ (of_any-is u)) m.state);
  paths = λ p n tmp. (path-kept (opening m) p tmp).other n;
}

messages-next : (past : History) (x : Step) → AreKept past (messages_kept past)
    → AreKept (next past x) (messages_after (at past) x (messages_kept past))
unfolding messages_kept
messages-next past x was = record {
  was_there = λ f u. next-once (λ p n. IsOf p f u) _ (λ t. there-is t f u) past x _ (λ e. of-is f u e.0) _ (was.was_there f u);
  was_file = λ f u n. next-once (λ p k. (k ≡ n) × IsOf p f u) _ (λ t. file-there t f u n) past x _
      (file-and n _ _ (of-is f u)) _ (was.was_file f u n);
  was_any = λ u. next-once (λ p n. IsOfAny u p) _ (λ t. (λ h. h, λ h. h)) past x _ (λ e. of_any-is u e.0) _ (was.was_any u);
  was_any_file = λ u n. next-once (λ p k. (k ≡ n) × IsOfAny u p) _ (λ t. any-there t u n) past x _
      (file-and n _ _ (of_any-is u)) _ (was.was_any_file u n);
  paths = λ p n tmp. (path-kept (next past x) p tmp).other n;
}

pub messages-kept : (h : History) → AreKept h (messages_kept h)
unfolding messages_kept
messages-kept (opening m) = messages-first m
messages-kept (next past x) = messages-next past x (messages-kept past)
