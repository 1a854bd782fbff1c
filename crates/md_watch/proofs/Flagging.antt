-- What is kept of flags is so after a step as it was before, and goes with it.
use Rattle.std.proofs.Common.{ℕ, ◌≡◌, ◌+◌, ◌-◌, ◌≤◌, ◌&&◌, cond, not, nat_lt, slice_get, List, [], ◌∷◌, ◌++◌, Option, Some, None, Bool, true, false, refl, sym, ap, subst, ◌∙◌, arith}
use Rattle.std.specs.List.{count_by}
use Rattle.std.proofs.lemmas.Bool.{lt-ltb, ltb-true, le-ltb, ltb-false}
use Rattle.lists.proofs.Maps as maps
use Rattle.md_dirs.specs.Path.{path_cmp}
use Rattle.md_dirs.specs.State.{State, bare, file_at}
use Rattle.md_dirs.specs.declared.paths.Path.{Path}
use Rattle.md_name.specs.Letters.{Set, IsOfLetters, is_same_set}
use Rattle.md_name.specs.Names.{info_of, flags_of}
use Rattle.md_name.specs.Words.{word_of}
use Rattle.md_log.specs.declared.line.Call.{Call}
use Rattle.md_law.specs.History.{after_call}
use Rattle.md_law.specs.Answers.{Claim}
use Rattle.md_monitor.specs.Changes.{change_of, turned_by}
use Rattle.md_monitor.specs.Files.{is_some_and, is_cur, count_where}
use Rattle.md_monitor.specs.Messages.{is_of}
use Rattle.md_monitor.specs.Answers.{is_flagged}
use Rattle.md_monitor.proofs.Changing.{led, with_file-is}
use Rattle.md_monitor.proofs.Recounting.{recount}
use Rattle.md_monitor.proofs.Seeing.{some-where}
use Rattle.md_watch.specs.declared.flagged.Flagged.{Flagged}
use Rattle.md_watch.specs.declared.spells.Spell.{Spell}
use Rattle.md_kept.specs.Changes.{Turn}
use Rattle.md_watch.specs.Flagged.{times, count_by as count_kept, spell_by, count_in, is_in, spell_in, Follows, Puts, flagged_times, AreFlagged}
use Rattle.md_watch.specs.Spells.{since_of, ended_of, Passes, IsSame, IsTimely}
use Rattle.md_watch.proofs.Counting.{one}
use Rattle.md_watch.proofs.Letters.{word-shown}
use Rattle.md_watch.proofs.Marking.{passes-alike}
use Rattle.md_watch.proofs.Spelling.{timely-next, timely-none}
use Rattle.md_watch.proofs.Turning.{turn}

-- The step of a number leads from these directories to those, and what is kept of flags goes with them.
abbrev pub PassesFlags : State → State → ℕ → Flagged → Flagged → Type 0
PassesFlags s s' n old new = (c : Claim) (flags : Set) → IsOfLetters flags → Passes (is_flagged s c flags) (is_flagged s' c flags) n
    (spell_in old c.folder c.unique flags) (spell_in new c.folder c.unique flags)

-- ---- three changes of a spell are one

module _ (n : ℕ) where
  -- the first changes nothing
  join-first : (x y z : Bool) (a b c : Option Spell) → x ≡ y → Passes x y n a b → Passes y z n b c → Passes x z n a c
  join-first true true z a b c same first second = record {
    since = second.since ∙ first.since;
    ended = second.ended ∙ (λ i. cond (true && not z) (first.ended i ++ (first.since i, n) ∷ []) (first.ended i));
  }
  join-first false false z a b c same first second = record {
    since = second.since ∙ (λ i. cond (not false && z) (n + 1) (first.since i));
    ended = second.ended ∙ first.ended;
  }
  join-first true false z a b c same first second = cc
  join-first false true z a b c same first second = cc

  -- the second changes nothing
  join-second : (x y z : Bool) (a b c : Option Spell) → y ≡ z → Passes x y n a b → Passes y z n b c → Passes x z n a c
  join-second x true true a b c same first second = record { since = second.since ∙ first.since; ended = second.ended ∙ first.ended }
  join-second x false false a b c same first second = record { since = second.since ∙ first.since; ended = second.ended ∙ first.ended }
  join-second x true false a b c same first second = cc
  join-second x false true a b c same first second = cc

  -- what was there may go at the second or the third, and what was not may come at the first, and stays then
  joined : (x y z u : Bool) (a b c d : Option Spell)
      → (x ≡ true → y ≡ true) → (z ≡ false → u ≡ false) → (x ≡ false → y ≡ z) → (x ≡ false → z ≡ u)
      → Passes x y n a b → Passes y z n b c → Passes z u n c d → Passes x u n a d
  joined true y z u a b c d there gone _ _ first second third = join-first true y u a b d (sym (there refl)) first (by z gone second third)
    where
      by : (z : Bool) → (z ≡ false → u ≡ false) → Passes y z n b c → Passes z u n c d → Passes y u n b d
      by true gone second third = join-first y true u b c d (there refl) second third
      by false gone second third = join-second y false u b c d (sym (gone refl)) second third
  joined false y z u a b c d _ _ stays stays-on first second third =
      join-second false y u a b d (stays refl ∙ stays-on refl) first (join-second y z u b c d (stays-on refl) second third)

-- ---- how the paths of directories change

abbrev pub Recounts : Turn → State → State → Type 0
Recounts t s s' = (test : Path × ℕ → Bool) → count_where test s' + (one (is_some_and t.taken test) + one (is_some_and t.turned test))
    ≡ count_where test s + one (is_some_and t.named test)

pub step-recounts : (s : State) (c : Call) (now : ℕ) → Recounts (turn s (change_of s c)) s (after_call c now s)
step-recounts s c now test = recount test s c now

-- paths that go were there
pub record Leaves (t : Turn) (s : State) : Type 0 where
  pub taken : (p : Path) (n : ℕ) → t.taken ≡ Some (p, n) → file_at s p ≡ Some n
  pub turned : (p : Path) (n : ℕ) → t.turned ≡ Some (p, n) → file_at s p ≡ Some n

pub step-leaves : (s : State) (c : Call) (now : ℕ) → Leaves (turn s (change_of s c)) s
step-leaves s c now = record {
  taken = λ p n is. (((led s c now).taken p n).0 is).0;
  turned = by (change_of s c).named;
}
  where
    by : (o : Option (Path × ℕ)) (p : Path) (n : ℕ) → turned_by s o ≡ Some (p, n) → file_at s p ≡ Some n
    by None p n is = absurd (cc is)
    by (Some e) p n is = let both = (with_file-is e.0 (file_at s e.0) p n).0 is in ap (file_at s) (sym both.0) ∙ both.1

-- where none counts, none goes
none-goes : (s : State) (test : Path × ℕ → Bool) (o : Option (Path × ℕ)) → ((p : Path) (n : ℕ) → o ≡ Some (p, n) → file_at s p ≡ Some n)
    → nat_lt 0 (count_where test s) ≡ false → one (is_some_and o test) ≡ 0
none-goes s test None there none = refl
none-goes s test (Some e) there none = by (test e) refl
  where
    by : (b : Bool) → test e ≡ b → one b ≡ 0
    by true holds =
        let some = (some-where test (λ p n. test (p, n) ≡ true) (λ x. (λ t. t, λ t. t)) s).1 (e.0, e.1, there e.0 e.1 refl, holds) in
        absurd (cc (some, none))
    by false fails = refl

-- ---- a claim and a set of letters

abbrev test_of : Claim → Set → Path × ℕ → Bool
test_of c flags e = is_of c.folder c.unique e.0
    && (is_cur e.0.place && is_some_and (flags_of (info_of e.0.name)) (λ shown. is_same_set shown flags))

times-are : (c : Claim) (flags : Set) → IsOfLetters flags → (o : Option (Path × ℕ))
    → times (word_of flags) c.folder c.unique o ≡ one (is_some_and o (test_of c flags))
times-are c flags letters None = refl
times-are c flags letters (Some e) =
    ap (λ b. one (is_of c.folder c.unique e.0 && (is_cur e.0.place && b))) (word-shown e.0.name flags letters)

module _ (t : Turn) (n : ℕ) (s s' : State) (recounts : Recounts t s s') (leaves : Leaves t s) (old new : Flagged) (are : AreFlagged n s old)
    (follows : Follows t n old new) (c : Claim) (flags : Set) (letters : IsOfLetters flags) where
  abbrev kept : Flagged → ℕ
  kept w = count_in w c.folder c.unique flags

  abbrev ones : Option (Path × ℕ) → ℕ
  ones o = one (is_some_and o (test_of c flags))

  comes : kept follows.come ≡ kept old + ones t.named
  comes = (follows.comes (word_of flags)).counts c.folder c.unique ∙ ap (λ k. kept old + k) (times-are c flags letters t.named)

  goes : kept follows.gone ≡ kept follows.come - ones t.taken
  goes = (follows.goes (word_of flags)).counts c.folder c.unique ∙ ap (λ k. kept follows.come - k) (times-are c flags letters t.taken)

  turns : kept new ≡ kept follows.gone - ones t.turned
  turns = (follows.turns (word_of flags)).counts c.folder c.unique ∙ ap (λ k. kept follows.gone - k) (times-are c flags letters t.turned)

  counted : kept new ≡ flagged_times s' c flags
  counted =
      let was = are.counts c flags letters in
      let now = recounts (test_of c flags) in
      omega (arith, comes, goes, turns, was, now)

  -- where none was shown, none goes
  none-shown : nat_lt 0 (kept old) ≡ false → nat_lt 0 (count_where (test_of c flags) s) ≡ false
  none-shown none = ap (nat_lt 0) (sym (are.counts c flags letters)) ∙ none

  passes : Passes (nat_lt 0 (kept old)) (nat_lt 0 (kept new)) n
      (spell_in old c.folder c.unique flags) (spell_in new c.folder c.unique flags)
  passes = joined n (nat_lt 0 (kept old)) (nat_lt 0 (kept follows.come)) (nat_lt 0 (kept follows.gone)) (nat_lt 0 (kept new)) _ _ _ _
      (λ some. let more = ltb-true 0 (kept old) some in lt-ltb 0 (kept follows.come) (omega (arith, comes, more)))
      (λ none. let no = ltb-false 0 (kept follows.gone) none in le-ltb 0 (kept new) (omega (arith, turns, no)))
      (λ none.
      let nothing = none-goes s (test_of c flags) t.taken leaves.taken (none-shown none) in
      let same : kept follows.come ≡ kept follows.gone = omega (arith, goes, nothing) in
      ap (nat_lt 0) same)
      (λ none.
      let nothing = none-goes s (test_of c flags) t.turned leaves.turned (none-shown none) in
      let same : kept follows.gone ≡ kept new = omega (arith, turns, nothing) in
      ap (nat_lt 0) same)
      ((follows.comes (word_of flags)).spells c.folder c.unique)
      ((follows.goes (word_of flags)).spells c.folder c.unique)
      ((follows.turns (word_of flags)).spells c.folder c.unique)

  passed : Passes (is_flagged s c flags) (is_flagged s' c flags) n
      (spell_in old c.folder c.unique flags) (spell_in new c.folder c.unique flags)
  passed = passes-alike n _ _ _ _ _ _ _ _ (ap (nat_lt 0) (sym (are.counts c flags letters))) (ap (nat_lt 0) (sym counted)) refl refl passes

-- ---- a step

module _ (t : Turn) (n : ℕ) (s s' : State) (recounts : Recounts t s s') (leaves : Leaves t s) (old new : Flagged) (are : AreFlagged n s old)
    (follows : Follows t n old new) where
  pub flags-pass : PassesFlags s s' n old new
  flags-pass c flags letters = passed t n s s' recounts leaves old new are follows c flags letters

  pub flags-next : AreFlagged (n + 1) s' new
  flags-next = record {
    counts = λ c flags letters. counted t n s s' recounts leaves old new are follows c flags letters;
    timely = λ c flags letters. timely-next n (is_flagged s c flags) (is_flagged s' c flags) _ _
        (are.timely c flags letters) (flags-pass c flags letters);
    begun = λ none. absurd (omega (arith, none));
  }

-- ---- what is told of it

module _ (n : ℕ) (s : State) (w : Flagged) (are : AreFlagged n s w) (c : Claim) (flags : Set) (letters : IsOfLetters flags) where
  pub flags-shown : is_in w c.folder c.unique flags ≡ is_flagged s c flags
  flags-shown = ap (nat_lt 0) (are.counts c flags letters)

-- ---- the beginning

-- a spell of which nothing was noted is of any moment
timely-of : (n : ℕ) (is : Bool) (o : Option Spell) → IsSame None o → IsTimely n is o
timely-of n is o none =
    let timely = timely-none n is in
    let ended : (k : ℕ) (t : ℕ × ℕ) → slice_get (ended_of o) k ≡ Some t → ⊥ = λ k t at. cc (sym (ap (λ es. slice_get es k) none.ended) ∙ at) in
    record {
      begun = λ there. subst (λ k. k ≤ n) (sym none.since) (timely.begun there);
      apart = λ there k t at. absurd (ended k t at);
      gone = λ gone k t at. absurd (ended k t at);
      later = λ j k t u before at next. absurd (ended j t at);
    }

pub flags-none : (w : Flagged) → ((word folder : ℕ) (unique : List ℕ) → count_kept w word folder unique ≡ 0)
    → ((word folder : ℕ) (unique : List ℕ) → spell_by w word folder unique ≡ None) → AreFlagged 0 (bare 0) w
flags-none w counts spells = record {
  counts = λ c flags letters. counts (word_of flags) c.folder c.unique
      ∙ sym (ap (count_by (test_of c flags)) (maps.entries-empty path_cmp));
  timely = λ c flags letters. timely-of 0 _ _ (none (word_of flags) c.folder c.unique);
  begun = λ zero. none;
}
  where
    none : (word folder : ℕ) (unique : List ℕ) → IsSame None (spell_by w word folder unique)
    none word folder unique =
        let is = spells word folder unique in record { since = ap since_of is; ended = ap ended_of is }

-- a path comes to name a file, which named none
pub flags-put : (s s' : State) (p : Path) (k : ℕ) (old new : Flagged)
    → ((test : Path × ℕ → Bool) → count_where test s' + (0 + 0) ≡ count_where test s + one (test (p, k)))
    → AreFlagged 0 s old → Puts p old new → AreFlagged 0 s' new
flags-put s s' p k old new recounts are puts = record {
  counts = λ c flags letters.
      let kept = puts.counts (word_of flags) c.folder c.unique in
      let more = times-are c flags letters (Some (p, k)) in
      let was = are.counts c flags letters in
      let now = recounts (test_of c flags) in
      omega (arith, kept, more, was, now);
  timely = λ c flags letters. timely-of 0 _ _ (none (word_of flags) c.folder c.unique);
  begun = λ zero. none;
}
  where
    none : (word folder : ℕ) (unique : List ℕ) → IsSame None (spell_by new word folder unique)
    none word folder unique =
        let was = are.begun refl word folder unique in
        let same = puts.spells word folder unique in
        record { since = same.since ∙ was.since; ended = same.ended ∙ was.ended }
