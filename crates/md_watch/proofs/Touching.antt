-- What is kept of files follows what a call does to them otherwise than by their paths.
use Rattle.std.proofs.Common.{ℕ, zero, suc, ◌≡◌, ◌≢◌, ◌<◌, ◌+◌, ◌==◌, ◌&&◌, ◌||◌, not, cond, List, [], ◌∷◌, Option, Some, None, IsSome, Bool, true, false, slice_get, length, refl, sym, ap, subst, ◌∙◌, arith}
use Rattle.std.specs.Option.{option_map}
use Rattle.std.proofs.lemmas.Bool.{false_from_ne_true}
use Rattle.std.proofs.lemmas.Bool.Decides.{Decides-eqb}
use Rattle.std.proofs.lemmas.Option.{slice_get_within}
use Rattle.md_dirs.specs.Calls.{with_new_file, empty_file, after_append, after_unlink}
use Rattle.md_dirs.specs.State.{State, file_at, file_by}
use Rattle.md_dirs.specs.declared.paths.File.{File}
use Rattle.md_dirs.specs.declared.paths.Path.{Path}
use Rattle.md_dirs.proofs.Sound.{by_number, file-within}
use Rattle.md_log.specs.declared.line.Call.{Call}
use Rattle.md_log.specs.declared.line.Call.TheVariants as call
use Rattle.md_log.specs.declared.line.Deed.TheVariants as deed
use Rattle.md_log.specs.declared.line.Reply.{Reply}
use Rattle.md_log.specs.declared.line.Reply.TheVariants as reply
use Rattle.md_law.specs.History.{ask_between, after_call}
use Rattle.md_monitor.specs.Changes.{is_file}
use Rattle.md_monitor.specs.Files.{is_some_and, is_ok, is_fault, is_write, made_by, written_by, flushed_by}
use Rattle.md_watch.specs.Stored.{HasFiles}
use Rattle.md_watch.proofs.Afters.{at-files, between-files}
use Rattle.md_watch.proofs.Stored.{unlinked-file, between-file, written-stamp, written-other, made-stamp, made-other}
use Rattle.md_kept.specs.declared.files.FileKept.{FileKept}
use Rattle.md_kept.specs.Files.{Adds, changing, made_by as made, written, cut, flushed, maker_of, maker_in, is_unflushed_in, is_cut_in, stamp_of, stamp_in}
use Rattle.md_watch.specs.Watches.{touching}
use Rattle.md_watch.proofs.Filing.{same-number}

-- past the last there is none
pub past-last : {A : Type 0} (xs : List A) (n : ℕ) → length xs ≡ n → slice_get xs n ≡ None
past-last xs n is = by (slice_get xs n) refl
  where
    by : (o : Option _) → slice_get xs n ≡ o → slice_get xs n ≡ None
    by None none = none
    by (Some x) some = let low = slice_get_within xs n x some in absurd (omega (arith, low, is))

pub within-some : {A : Type 0} (xs : List A) (n : ℕ) → n < length xs → IsSome (slice_get xs n)
within-some [] n low = absurd (omega (arith, low))
within-some (x ∷ xs) zero low = refl
within-some (x ∷ xs) (suc n) low = within-some xs n (omega (arith, low))

not-same : (n m : ℕ) → n ≢ m → (n == m) ≡ false
not-same n m other = false_from_ne_true (n == m) (λ t. other ((Decides-eqb n m).0 t))

stamp-there : (now : ℕ) (o : Option FileKept) → IsSome o → stamp_of (option_map (written now) o) ≡ now
stamp-there now None there = absurd (cc there)
stamp-there now (Some f) there = refl

-- ---- a file that is made

module _ (now : ℕ) (maker : Option (List ℕ)) (old new : List FileKept) (does : Adds (made maker now) old new) where
  pub added : {A : Type 0} (part : Option FileKept → A) → part (Some (made maker now)) ≡ part None → (n : ℕ)
      → part (slice_get new n) ≡ part (slice_get old n)
  added part makes n = ap part (does.kept n) ∙ by (n == length old) refl
    where
      by : (b : Bool) → (n == length old) ≡ b → part (cond b (Some (made maker now)) (slice_get old n)) ≡ part (slice_get old n)
      by true is = makes ∙ ap part (sym (past-last old n (sym ((Decides-eqb n (length old)).0 is))))
      by false is = refl

  pub made-stamps : (s : State) → length old ≡ length s.files → (p : Path)
      → ((n : ℕ) (f : File) → file_by s.files n ≡ Some f → stamp_in old n ≡ f.stamp)
      → (n : ℕ) (f : File) → file_by (with_new_file p (empty_file now) s).files n ≡ Some f → stamp_in new n ≡ f.stamp
  made-stamps s count p stamps n f is = ap stamp_of (does.kept n) ∙ by_number n (length s.files)
      (λ last. ap (λ b. stamp_of (cond b (Some (made maker now)) (slice_get old n))) ((Decides-eqb n (length old)).1 (last ∙ sym count))
      ∙ sym (made-stamp p s now f (ap (file_by (with_new_file p (empty_file now) s).files) (sym last) ∙ is)))
      (λ other. by other (n == length old) refl)
    where
      some : IsSome (file_by (with_new_file p (empty_file now) s).files n)
      some = subst (λ (o : Option File). IsSome o) (sym is) refl

      low : (n ≡ length s.files → ⊥) → n < length s.files
      low other =
          let within = file-within (with_new_file p (empty_file now) s).files n some in
          let long = at-files deed.Create reply.Ok p now s in
          omega (arith, within, long, other)

      by : (n ≡ length s.files → ⊥) → (b : Bool) → (n == length old) ≡ b
          → stamp_of (cond b (Some (made maker now)) (slice_get old n)) ≡ f.stamp
      by other true here = absurd (other ((Decides-eqb n (length old)).0 here ∙ count))
      by other false beside = stamps n f (sym (made-other p s now n (low other)) ∙ is)

-- ---- one file that is changed

module _ (g : FileKept → FileKept) (old new : List FileKept) where
  module _ {A : Type 0} (part : Option FileKept → A) (keeps : (f : FileKept) → part (Some (g f)) ≡ part (Some f)) where
    same-part : (b : Bool) (o : Option FileKept) → part (cond b (option_map g o) o) ≡ part o
    same-part true None = refl
    same-part true (Some f) = keeps f
    same-part false o = refl

    pub changed-same : (file : Option ℕ) → changing g file old new → (n : ℕ) → part (slice_get new n) ≡ part (slice_get old n)
    changed-same None same n = ap (λ (xs : List FileKept). part (slice_get xs n)) same
    changed-same (Some m) does n = ap part (does.kept n) ∙ same-part (n == m) (slice_get old n)

  changed-count : (file : Option ℕ) → changing g file old new → length new ≡ length old
  changed-count None same = ap length same
  changed-count (Some m) does = does.many

  -- a test of a file, after one is changed, by whether it is that
  module _ (test : FileKept → Bool) (after : Bool → Bool → Bool) (changes : (t : Bool) (o : Option FileKept) → (t ≡ true → IsSome o)
      → is_some_and (cond t (option_map g o) o) test ≡ after t (is_some_and o test)) where
    tested : (m : ℕ) → m < length old → changing g (Some m) old new → (n : ℕ)
        → is_some_and (slice_get new n) test ≡ after (m == n) (is_some_and (slice_get old n) test)
    tested m low does n = ap (λ o. is_some_and o test) (does.kept n)
        ∙ changes (n == m) (slice_get old n) (λ is. let here = (Decides-eqb n m).0 is in within-some old n (omega (arith, low, here)))
        ∙ ap (λ t. after t (is_some_and (slice_get old n) test)) (same-number n m)

module _ (now : ℕ) (actor : List ℕ) (old new : List FileKept) where
  -- ---- what no call changes so

  module _ {A : Type 0} (part : Option FileKept → A) (makes : part (Some (made (Some actor) now)) ≡ part None)
      (writes : (f : FileKept) → part (Some (written now f)) ≡ part (Some f)) (cuts : (f : FileKept) → part (Some (cut f)) ≡ part (Some f))
      (flushes : (f : FileKept) → part (Some (flushed f)) ≡ part (Some f)) where
    pub touched : (f : Path → Option ℕ) (c : Call) → touching f now actor c old new → (n : ℕ)
        → part (slice_get new n) ≡ part (slice_get old n)
    touched f (call.At deed.Create p reply.Ok) does n = added now (Some actor) old new does part makes n
    touched f (call.At deed.Write p reply.Ok) does n = changed-same (written now) old new part writes (f p) does n
    touched f (call.At deed.Write p reply.Fault) does n = changed-same cut old new part cuts (f p) does n
    touched f (call.At deed.Flush p reply.Ok) does n = changed-same flushed old new part flushes (f p) does n
    touched f c same n = ap (λ (xs : List FileKept). part (slice_get xs n)) same

  module _ (s : State) (count : length old ≡ length s.files) where
    -- ---- makers

    pub touched-maker : (c : Call) → touching (file_at s) now actor c old new → (n : ℕ)
        → maker_in new n ≡ cond (is_file (made_by s c) n) (Some actor) (maker_in old n)
    touched-maker (call.At deed.Create p reply.Ok) does n =
        ap maker_of (does.kept n) ∙ by (n == length old) ∙ ap (λ k. cond (n == k) (Some actor) (maker_in old n)) count
      where
        by : (b : Bool) → maker_of (cond b (Some (made (Some actor) now)) (slice_get old n)) ≡ cond b (Some actor) (maker_in old n)
        by true = refl
        by false = refl
    touched-maker (call.At deed.Write p reply.Ok) does n = changed-same (written now) old new maker_of (λ f. refl) (file_at s p) does n
    touched-maker (call.At deed.Write p reply.Fault) does n = changed-same cut old new maker_of (λ f. refl) (file_at s p) does n
    touched-maker (call.At deed.Flush p reply.Ok) does n = changed-same flushed old new maker_of (λ f. refl) (file_at s p) does n
    touched-maker c same n = ap (λ (xs : List FileKept). maker_in xs n) same

    -- ---- how many there are

    pub touched-count : (c : Call) → touching (file_at s) now actor c old new → length new ≡ length (after_call c now s).files
    touched-count (call.At deed.Create p reply.Ok) does = does.many ∙ ap (λ n. n + 1) count ∙ sym (at-files deed.Create reply.Ok p now s)
    touched-count (call.At deed.Write p reply.Ok) does =
        changed-count (written now) old new (file_at s p) does ∙ count ∙ sym (at-files deed.Write reply.Ok p now s)
    touched-count (call.At deed.Write p reply.Fault) does = changed-count cut old new (file_at s p) does ∙ count
    touched-count (call.At deed.Flush p reply.Ok) does = changed-count flushed old new (file_at s p) does ∙ count
    touched-count (call.At d p r) same = ap length same ∙ count ∙ sym (at-files d r p now s)
    touched-count (call.Between n o q r) same = ap length same ∙ count ∙ sym (between-files o q s n r)
    touched-count (call.List folder place r shown) same = ap length same ∙ count
    touched-count (call.Answer said folder unique) same = ap length same ∙ count

    -- ---- writes and flushes

    module _ (filed : HasFiles s) where
      within : (p : Path) (m : ℕ) → file_at s p ≡ Some m → m < length old
      within p m at = let low = file-within s.files m (filed p m at) in omega (arith, low, count)

      -- a test of a file, after a change of that of a path
      module _ (g : FileKept → FileKept) (test : FileKept → Bool) (after : Bool → Bool → Bool) (still : (b : Bool) → b ≡ after false b)
          (changes : (t : Bool) (o : Option FileKept) → (t ≡ true → IsSome o)
          → is_some_and (cond t (option_map g o) o) test ≡ after t (is_some_and o test)) where
        tested-at : (p : Path) (n : ℕ) → changing g (file_at s p) old new
            → is_some_and (slice_get new n) test ≡ after (is_some_and (file_at s p) (λ m. m == n)) (is_some_and (slice_get old n) test)
        tested-at p n does = by (file_at s p) refl does
          where
            by : (o : Option ℕ) → file_at s p ≡ o → changing g o old new
                → is_some_and (slice_get new n) test ≡ after (is_some_and o (λ m. m == n)) (is_some_and (slice_get old n) test)
            by None none same = ap (λ (xs : List FileKept). is_some_and (slice_get xs n) test) same ∙ still _
            by (Some m) at does = tested g old new test after changes m (within p m at) does n

      -- it is a write to the file that answers so
      wrote-is : (r : Reply) (answer : Reply → Bool) (o : Option ℕ) (n : ℕ)
          → is_write (option_map (λ m. (m, r)) o) answer n ≡ (is_some_and o (λ m. m == n) && answer r)
      wrote-is r answer None n = refl
      wrote-is r answer (Some m) n = refl

      flushed-is : (o : Option ℕ) (n : ℕ) → is_file o n ≡ is_some_and o (λ m. m == n)
      flushed-is None n = refl
      flushed-is (Some m) n = same-number n m

      -- it is none that answers so
      not-write : (r : Reply) (answer : Reply → Bool) → answer r ≡ false → (o : Option ℕ) (n : ℕ)
          → is_write (option_map (λ m. (m, r)) o) answer n ≡ false
      not-write r answer is None n = refl
      not-write r answer is (Some m) n = ap (λ b. (m == n) && b) is ∙ none (m == n)
        where
          none : (b : Bool) → (b && false) ≡ false
          none true = refl
          none false = refl

      -- by whether it is a write to the file that is done, or a flush of it
      abbrev unflushed-by : Bool → Bool → Bool → Bool
      unflushed-by done flush old = done || (not flush && old)

      pub touched-unflushed : (c : Call) → touching (file_at s) now actor c old new → (n : ℕ) → is_unflushed_in new n
          ≡ (is_write (written_by s c) is_ok n || (not (is_file (flushed_by s c) n) && is_unflushed_in old n))
      touched-unflushed (call.At deed.Create p reply.Ok) does n =
          added now (Some actor) old new does (λ o. is_some_and o (λ f. f.is_unflushed)) refl n
      touched-unflushed (call.At deed.Write p reply.Ok) does n =
          tested-at (written now) (λ f. f.is_unflushed) (λ t b. unflushed-by (t && true) false b) (λ b. refl) writes p n does
          ∙ ap (λ t. unflushed-by t false (is_unflushed_in old n)) (sym (wrote-is reply.Ok is_ok (file_at s p) n))
        where
          writes : (t : Bool) (o : Option FileKept) → (t ≡ true → IsSome o)
              → is_some_and (cond t (option_map (written now) o) o) (λ f. f.is_unflushed)
              ≡ unflushed-by (t && true) false (is_some_and o (λ f. f.is_unflushed))
          writes true None there = let no = there refl in absurd (cc)
          writes true (Some f) there = refl
          writes false o there = refl
      touched-unflushed (call.At deed.Write p reply.Fault) does n =
          changed-same cut old new (λ o. is_some_and o (λ f. f.is_unflushed)) (λ f. refl) (file_at s p) does n
          ∙ ap (λ t. unflushed-by t false (is_unflushed_in old n)) (sym (not-write reply.Fault is_ok refl (file_at s p) n))
      touched-unflushed (call.At deed.Write p r) same n = ap (λ (xs : List FileKept). is_unflushed_in xs n) same
          ∙ ap (λ t. unflushed-by t false (is_unflushed_in old n)) (sym (not-write r is_ok refl (file_at s p) n))
      touched-unflushed (call.At deed.Flush p reply.Ok) does n =
          tested-at flushed (λ f. f.is_unflushed) (λ t b. unflushed-by false t b) (λ b. refl) flushes p n does
          ∙ ap (λ t. unflushed-by false t (is_unflushed_in old n)) (sym (flushed-is (file_at s p) n))
        where
          flushes : (t : Bool) (o : Option FileKept) → (t ≡ true → IsSome o)
              → is_some_and (cond t (option_map flushed o) o) (λ f. f.is_unflushed)
              ≡ unflushed-by false t (is_some_and o (λ f. f.is_unflushed))
          flushes true None there = refl
          flushes true (Some f) there = refl
          flushes false o there = refl
      touched-unflushed c same n = ap (λ (xs : List FileKept). is_unflushed_in xs n) same

      -- by whether it is a write to the file that fails, or one that is done
      abbrev cut-by : Bool → Bool → Bool → Bool
      cut-by fault done old = fault || (not done && old)

      cut-write : (r : Reply) (o : Option ℕ) (n : ℕ) (b : Bool)
          → cut-by (is_some_and o (λ m. m == n) && is_fault r) (is_some_and o (λ m. m == n) && is_ok r) b
          ≡ cut-by (is_write (option_map (λ m. (m, r)) o) is_fault n) (is_write (option_map (λ m. (m, r)) o) is_ok n) b
      cut-write r o n b = λ i. cut-by (sym (wrote-is r is_fault o n) i) (sym (wrote-is r is_ok o n) i) b

      pub touched-cut : (c : Call) → touching (file_at s) now actor c old new → (n : ℕ) → is_cut_in new n
          ≡ (is_write (written_by s c) is_fault n || (not (is_write (written_by s c) is_ok n) && is_cut_in old n))
      touched-cut (call.At deed.Create p reply.Ok) does n =
          added now (Some actor) old new does (λ o. is_some_and o (λ f. f.is_cut)) refl n
      touched-cut (call.At deed.Write p reply.Ok) does n =
          tested-at (written now) (λ f. f.is_cut) (λ t b. cut-by (t && false) (t && true) b) (λ b. refl) writes p n does
          ∙ cut-write reply.Ok (file_at s p) n (is_cut_in old n)
        where
          writes : (t : Bool) (o : Option FileKept) → (t ≡ true → IsSome o)
              → is_some_and (cond t (option_map (written now) o) o) (λ f. f.is_cut)
              ≡ cut-by (t && false) (t && true) (is_some_and o (λ f. f.is_cut))
          writes true None there = refl
          writes true (Some f) there = refl
          writes false o there = refl
      touched-cut (call.At deed.Write p reply.Fault) does n =
          tested-at cut (λ f. f.is_cut) (λ t b. cut-by (t && true) (t && false) b) (λ b. refl) cuts p n does
          ∙ cut-write reply.Fault (file_at s p) n (is_cut_in old n)
        where
          cuts : (t : Bool) (o : Option FileKept) → (t ≡ true → IsSome o)
              → is_some_and (cond t (option_map cut o) o) (λ f. f.is_cut) ≡ cut-by (t && true) (t && false) (is_some_and o (λ f. f.is_cut))
          cuts true None there = let no = there refl in absurd (cc)
          cuts true (Some f) there = refl
          cuts false o there = refl
      touched-cut (call.At deed.Write p r) same n = ap (λ (xs : List FileKept). is_cut_in xs n) same
          ∙ (λ i. cut-by (sym (not-write r is_fault refl (file_at s p) n) i) (sym (not-write r is_ok refl (file_at s p) n) i)
          (is_cut_in old n))
      touched-cut (call.At deed.Flush p reply.Ok) does n =
          changed-same flushed old new (λ o. is_some_and o (λ f. f.is_cut)) (λ f. refl) (file_at s p) does n
      touched-cut c same n = ap (λ (xs : List FileKept). is_cut_in xs n) same

    -- ---- stamps

    abbrev Stamps : List FileKept → State → Type 0
    Stamps all t = (n : ℕ) (f : File) → file_by t.files n ≡ Some f → stamp_in all n ≡ f.stamp

    same-stamps : (t : State) → new ≡ old → ((n : ℕ) (f : File) → file_by t.files n ≡ Some f → file_by s.files n ≡ Some f)
        → Stamps old s → Stamps new t
    same-stamps t same was stamps n f is = ap (λ (xs : List FileKept). stamp_in xs n) same ∙ stamps n f (was n f is)

    wrote-stamps : HasFiles s → (p : Path) → changing (written now) (file_at s p) old new → Stamps old s
        → Stamps new (after_call (call.At deed.Write p reply.Ok) now s)
    wrote-stamps filed p does stamps n f is = by (file_at s p) refl does is
      where
        by : (o : Option ℕ) → file_at s p ≡ o → changing (written now) o old new
            → file_by (after_append [] now s o).files n ≡ Some f → stamp_in new n ≡ f.stamp
        by None none same is = ap (λ (xs : List FileKept). stamp_in xs n) same ∙ stamps n f is
        by (Some m) at does is = by_number n m
            (λ same.
            let low = file-within s.files m (filed p m at) in
            let there : IsSome (slice_get old n) = within-some old n (omega (arith, low, same, count)) in
            ap stamp_of (does.kept n) ∙ ap (λ b. stamp_of (cond b (option_map (written now) (slice_get old n)) (slice_get old n)))
            ((Decides-eqb n m).1 same)
            ∙ stamp-there now (slice_get old n) there
            ∙ sym (written-stamp s now n f (omega (arith, low, same))
            (ap (λ k. file_by (after_append [] now s (Some k)).files n) same ∙ is)))
            (λ other. ap stamp_of (does.kept n)
            ∙ ap (λ b. stamp_of (cond b (option_map (written now) (slice_get old n)) (slice_get old n))) (not-same n m other)
            ∙ stamps n f (sym (written-other s now n (Some m) (λ one. other (sym (let number : m ≡ n = cc one in number)))) ∙ is))

    pub touched-stamps : HasFiles s → (c : Call) → touching (file_at s) now actor c old new → Stamps old s → Stamps new (after_call c now s)
    touched-stamps filed (call.At deed.Create p reply.Ok) does stamps = made-stamps now (Some actor) old new does s count p stamps
    touched-stamps filed (call.At deed.Write p reply.Ok) does stamps = wrote-stamps filed p does stamps
    touched-stamps filed (call.At deed.Write p reply.Fault) does stamps = λ n f is.
        changed-same cut old new stamp_of (λ g. refl) (file_at s p) does n ∙ stamps n f is
    touched-stamps filed (call.At deed.Flush p reply.Ok) does stamps = λ n f is.
        changed-same flushed old new stamp_of (λ g. refl) (file_at s p) does n ∙ stamps n f is
    touched-stamps filed (call.At deed.Unlink p reply.Ok) same stamps = same-stamps (after_unlink p s) same
        (λ n f is. unlinked-file p s n f is) stamps
    touched-stamps filed (call.Between n o q reply.Ok) same stamps = same-stamps ((ask_between n o q).after s) same
        (λ k f is. between-file n o q s k f is) stamps
    touched-stamps filed c same stamps = same-stamps s same (λ n f is. is) stamps
