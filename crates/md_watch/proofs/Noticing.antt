-- What is found by the tables is what the monitor finds.
use Rattle.std.proofs.Common.{ℕ, ◌≡◌, ◌-◌, ◌&&◌, ◌||◌, ◌==◌, not, cond, nat_lt, nat_le, List, Option, Some, None, IsSome, Bool, true, false, is_some, is_none, length, refl, sym, ap, subst, ◌∙◌, arith}
use Rattle.std.specs.FinSet as set
use Rattle.std.specs.Option.{option_map}
use Rattle.std.specs.Str.{bytes_eq}
use Rattle.std.proofs.lemmas.Bool.Decides.{Decides-eqb, Decides-ltb, Decides-not, Decides-like}
use Rattle.std.proofs.lemmas.Option.{some_pair_parts}
use Rattle.std.proofs.lemmas.Slice.Eq.{bytes_eq-Decides}
use Rattle.md_dirs.specs.State.{State, file_at, file_by}
use Rattle.md_dirs.specs.declared.paths.File.{File}
use Rattle.md_dirs.specs.declared.paths.Path.{Path}
use Rattle.md_name.specs.declared.info.Info.{Info}
use Rattle.md_name.specs.Names.{unique_of, info_of, flags_of, is_message_name}
use Rattle.md_log.specs.declared.clause.Clause.TheVariants as clause
use Rattle.md_log.specs.declared.line.Call.{Call}
use Rattle.md_log.specs.declared.line.Call.TheVariants as call
use Rattle.md_log.specs.declared.line.Deed.TheVariants as deed
use Rattle.md_log.specs.declared.line.Reply.{Reply}
use Rattle.md_log.specs.declared.line.Reply.TheVariants as reply
use Rattle.md_log.specs.declared.line.Step.{Step}
use Rattle.md_law.specs.History.{after_call}
use Rattle.md_law.specs.Messages.{is_message, is_tmp}
use Rattle.md_monitor.specs.Changes.{no_change, change_of, naming_change, turned_by, with_file, is_file}
use Rattle.md_monitor.specs.Files.{FileKept, is_some_and, is_seen, is_new, is_cur, is_not_found, made_by, written_by as writes_by}
use Rattle.md_monitor.specs.Messages.{MessagesKept, is_of_any, paths_of, paths_beside, named_other}
use Rattle.md_monitor.specs.Messages as messages
use Rattle.md_monitor.specs.Found as files
use Rattle.md_monitor.proofs.Changing.{led, with_file-is}
use Rattle.md_watch.specs.Stored.{HasFiles}
use Rattle.md_watch.specs.declared.watch.Watch.{Watch}
use Rattle.md_kept.specs.Changes.{message_of}
use Rattle.md_kept.specs.Files.{is_maker_in, is_seen_in, stamp_in}
use Rattle.md_kept.specs.Messages.{count_in_folder, count_anywhere, count_as_file, was_in_folder, was_in_folder_as}
use Rattle.md_kept.specs.Drafts.{path_in}
use Rattle.md_watch.specs.Found as found
use Rattle.md_watch.specs.Watches.{AreFiles, AreMessages, AreDrafts}
use Rattle.md_kept.proofs.Keys.{same-tests}
use Rattle.md_watch.proofs.Counting.{in-and-beside}
use Rattle.md_watch.proofs.Turning.{turn}

-- where two tests agree at what there is
pub same-at : {A : Type 0} (o : Option A) (one two : A → Bool) → ((a : A) → o ≡ Some a → one a ≡ two a)
    → is_some_and o one ≡ is_some_and o two
same-at None one two agree = refl
same-at (Some a) one two agree = agree a refl

-- ---- the file that is written to

module _ (s : State) (test : ℕ → Bool) where
  wrote-file : (r : Reply) (o : Option ℕ) → is_some_and (cond (is_not_found r) None o) test
      ≡ is_some_and (option_map {U = ℕ × Reply} (λ n. (n, r)) o) (λ w. not (is_not_found w.1) && test w.0)
  wrote-file r None = by (is_not_found r)
    where
      by : (b : Bool) → is_some_and (cond b None None) test ≡ false
      by true = refl
      by false = refl
  wrote-file r (Some n) = by (is_not_found r)
    where
      by : (b : Bool) → is_some_and (cond b None (Some n)) test ≡ (not b && test n)
      by true = refl
      by false = refl

  pub wrote : (c : Call) → is_some_and (found.written_by (file_at s) c) test
      ≡ is_some_and (writes_by s c) (λ w. not (is_not_found w.1) && test w.0)
  wrote (call.At deed.Write p r) = wrote-file r (file_at s p)
  wrote c = refl

wrote-at : (s : State) (c : Call) (n : ℕ) → found.written_by (file_at s) c ≡ Some n → (p : Path) × (file_at s p ≡ Some n)
wrote-at s (call.At deed.Write p r) n is = by (is_not_found r) is
  where
    by : (b : Bool) → cond b None (file_at s p) ≡ Some n → (q : Path) × (file_at s q ≡ Some n)
    by true none = absurd (cc none)
    by false some = (p, some)
wrote-at s c n is = absurd (cc is)

-- ---- what a file shows

module _ (s : State) (kept : ℕ → FileKept) (w : Watch) (are : AreFiles s kept w.files.all.items) where
  maker-is : (n : ℕ) (actor : List ℕ) → is_maker_in w.files.all.items n actor ≡ files.is_maker (kept n) actor
  maker-is n actor = ap (λ o. is_some_and o (λ maker. bytes_eq maker actor)) (are.maker n)

  pub seen-is : (n : ℕ) → is_seen_in w.files.all.items n ≡ is_seen s n
  seen-is n = ap (λ k. nat_lt 0 k) (are.times n)

  -- by the stamp of a file that a path names
  by_stamp : HasFiles s → (test : ℕ → Bool) (p : Path) (n : ℕ) → file_at s p ≡ Some n
      → test (stamp_in w.files.all.items n) ≡ is_some_and (file_by s.files n) (λ file. test file.stamp)
  by_stamp filed test p n at = by (file_by s.files n) refl
    where
      by : (o : Option File) → file_by s.files n ≡ o → test (stamp_in w.files.all.items n) ≡ is_some_and o (λ file. test file.stamp)
      by None none = let there = filed p n at in absurd (let no = subst (λ (o : Option File). IsSome o) none there in cc)
      by (Some f) is = ap test (are.stamp n f is)

  -- ---- clauses by files that are written to

  pub mixed : (now : ℕ) (x : Step)
      → found.is_mixed w x.actor (found.written_by (file_at s) x.call) ≡ files.breaks_by_files s now kept x clause.Mixed
  mixed now x = same-at (found.written_by (file_at s) x.call) _ _ (λ n is. ap not (maker-is n x.actor))
      ∙ wrote s (λ n. not (files.is_maker (kept n) x.actor)) x.call

  pub rewritten : (now : ℕ) (x : Step) → found.is_rewritten w (found.written_by (file_at s) x.call) ≡ files.breaks_rewritten s now kept x
  rewritten now x = same-at (found.written_by (file_at s) x.call) _ _ (λ n is. are.was_seen n) ∙ wrote s (λ n. (kept n).was_seen) x.call

  pub written_late : HasFiles s → (x : Step) → found.is_late w (found.written_by (file_at s) x.call)
      ≡ files.breaks_written_late s w.clock kept x
  written_late filed x = same-at (found.written_by (file_at s) x.call) _ _ (λ n is. let at = wrote-at s x.call n is in
      by_stamp filed (λ stamp. nat_le 129600 (w.clock - stamp)) at.0 n at.1)
      ∙ wrote s (λ n. is_some_and (file_by s.files n) (λ file. nat_le 129600 (w.clock - file.stamp))) x.call

  -- ---- clauses by files that begin to be seen

  or-parts : (a b c : Bool) → ((a || b) || c) ≡ (a || (b || c))
  or-parts true b c = refl
  or-parts false b c = refl

  in_sight : (now : ℕ) (x : Step) → found.is_in_sight w (found.written_by (file_at s) x.call) ≡ files.may_write s now kept x (is_seen s)
  in_sight now x = same-at (found.written_by (file_at s) x.call) _ _ (λ n is. seen-is n) ∙ wrote s (is_seen s) x.call

  shown-cut : (named : Option (Path × ℕ)) → found.shows_cut w named
      ≡ is_some_and named (λ e. is_message e.0 && not (is_seen s e.1) && (kept e.1).is_cut)
  shown-cut named = same-at named _ _ (λ e is i. is_message e.0 && not (seen-is e.1 i) && are.cut e.1 i)

  pub seen_before_whole : (now : ℕ) (x : Step)
      → found.shows_too_early w x.call (found.written_by (file_at s) x.call) (change_of s x.call).named
      ≡ files.breaks_by_files s now kept x clause.SeenBeforeWhole
  seen_before_whole now x = (λ i. files.makes_message x.call || in_sight now x i || shown-cut (change_of s x.call).named i)
      ∙ or-parts (files.makes_message x.call) _ _

  pub not_flushed : (now : ℕ) (x : Step)
      → found.shows_unflushed w (change_of s x.call).named ≡ files.breaks_by_files s now kept x clause.NotFlushed
  not_flushed now x = same-at (change_of s x.call).named _ _ (λ e is i. is_message e.0 && not (seen-is e.1 i) && are.unflushed e.1 i)

  -- ---- clauses by paths that come to name a file

  pub moved_back : (now : ℕ) (x : Step)
      → (found.is_moved_back w (change_of s x.call).named && not (files.is_from_new x.call)) ≡ files.breaks_moved_back s now kept x
  moved_back now x = ap (λ b. b && not (files.is_from_new x.call))
      (same-at (change_of s x.call).named _ _ (λ e is. ap (λ b. (is_message e.0 && is_new e.0.place) && b) (are.was_cur e.1)))

  pub named_by_another : (now : ℕ) (x : Step) → found.is_anothers w x (change_of s x.call).named ≡ files.breaks_named_by_another s now kept x
  named_by_another now x = same-at (change_of s x.call).named _ _ (λ e is.
      (λ i. (not (seen-is e.1 i) && not (found.makes x.call)) && not (maker-is e.1 x.actor i))
      ∙ by (is_seen s e.1) (found.makes x.call) (kept e.1).maker
      ∙ ap (λ b. not (is_seen s e.1) && not (is_some_and (cond b (Some x.actor) (kept e.1).maker) (λ maker. bytes_eq maker x.actor)))
      (sym (made-is x.call e is)))
    where
      by : (seen makes : Bool) (maker : Option (List ℕ)) → ((not seen && not makes) && not (is_some_and maker (λ m. bytes_eq m x.actor)))
          ≡ (not seen && not (is_some_and (cond makes (Some x.actor) maker) (λ m. bytes_eq m x.actor)))
      by true makes maker = refl
      by false true maker = ap not (sym ((bytes_eq-Decides x.actor x.actor).1 refl))
      by false false maker = refl

      created : (p : Path) (e : Path × ℕ) → (naming_change s p None (Some (length s.files))).named ≡ Some e
          → is_file (Some (length s.files)) e.1 ≡ true
      created p e = at (is_file (file_at s p) (length s.files))
        where
          at : (b : Bool) → (cond b no_change (record { named = Some (p, length s.files); taken = None })).named ≡ Some e
              → (e.1 == length s.files) ≡ true
          at true is = absurd (cc is)
          at false is = (Decides-eqb e.1 (length s.files)).1 (sym (some_pair_parts p e.0 (length s.files) e.1 is).1)

      made-is : (c : Call) (e : Path × ℕ) → (change_of s c).named ≡ Some e → is_file (made_by s c) e.1 ≡ found.makes c
      made-is (call.At deed.Create p reply.Ok) e is = created p e is
      made-is c e is = refl

  -- ---- clauses by paths that leave

  abbrev IsPathOf : Option (Path × ℕ) → Type 0
  IsPathOf o = (p : Path) (n : ℕ) → o ≡ Some (p, n) → file_at s p ≡ Some n

  swaps : (tmp other young hidden : Bool) → (((tmp && other) && young) && hidden) ≡ (((tmp && hidden) && other) && young)
  swaps false other young hidden = refl
  swaps true false young true = refl
  swaps true false young false = refl
  swaps true true false true = refl
  swaps true true false false = refl
  swaps true true true true = refl
  swaps true true true false = refl

  early : HasFiles s → (x : Step) (after : Watch) → ((n : ℕ) → is_seen_in after.files.all.items n ≡ is_seen (after_call x.call w.clock s) n)
      → (o : Option (Path × ℕ)) → IsPathOf o
      → (found.is_early w x.actor o && found.is_hidden after o) ≡ is_some_and o (files.is_cleaned_early s w.clock kept x)
  early filed x after sees None of = refl
  early filed x after sees (Some e) of =
      swaps (is_tmp e.0.place) (not (is_maker_in w.files.all.items e.1 x.actor)) (nat_lt (w.clock - stamp_in w.files.all.items e.1) 129600)
      (not (is_seen_in after.files.all.items e.1))
      ∙ (λ i. ((is_tmp e.0.place && not (sees e.1 i)) && not (maker-is e.1 x.actor i))
      && by_stamp filed (λ stamp. nat_lt (w.clock - stamp) 129600) e.0 e.1 (of e.0 e.1 refl) i)

  taken-of : (x : Step) (now : ℕ) → IsPathOf (change_of s x.call).taken
  taken-of x now p n is = (((led s x.call now).taken p n).0 is).0

  turned-of : (named : Option (Path × ℕ)) → IsPathOf (turned_by s named)
  turned-of None p n is = absurd (cc is)
  turned-of (Some e) p n is = let both = (with_file-is e.0 (file_at s e.0) p n).0 is in ap (file_at s) (sym both.0) ∙ both.1

  pub cleaned_early : HasFiles s → (x : Step) (after : Watch)
      → ((n : ℕ) → is_seen_in after.files.all.items n ≡ is_seen (after_call x.call w.clock s) n)
      → let t = turn s (change_of s x.call) in
      ((found.is_early w x.actor t.taken && found.is_hidden after t.taken)
      || (found.is_early w x.actor t.turned && found.is_hidden after t.turned))
      ≡ (is_some_and (change_of s x.call).taken (files.is_cleaned_early s w.clock kept x)
      || is_some_and (turned_by s (change_of s x.call).named) (files.is_cleaned_early s w.clock kept x))
  cleaned_early filed x after sees = λ i.
      early filed x after sees (change_of s x.call).taken (taken-of x w.clock) i
      || early filed x after sees (turned_by s (change_of s x.call).named) (turned-of (change_of s x.call).named) i

-- ---- messages

-- of a message's path, and of no other
of-message : (m : Bool) (u : List ℕ) (test : List ℕ → Bool) → is_some_and (cond m (Some u) None) test ≡ (m && test u)
of-message true u test = refl
of-message false u test = refl

and-parts : (a b c : Bool) → (a && (b && c)) ≡ ((a && b) && c)
and-parts true b c = refl
and-parts false b c = refl

module _ (s : State) (kept : MessagesKept) (w : Watch) (are : AreMessages s kept w.messages) where
  pub used_twice : (now : ℕ) (x : Step) → found.is_used_twice w (change_of s x.call).named ≡ messages.breaks_used_twice s now kept x
  used_twice now x = same-at (change_of s x.call).named _ _ (λ e is.
      of-message (is_message e.0) (unique_of e.0.name) _
      ∙ (λ i. is_message e.0 && (are.was_any (unique_of e.0.name) i && not (are.was_any_file (unique_of e.0.name) e.1 i)))
      ∙ and-parts (is_message e.0) _ _)

pub made_again : (s : State) (kept : MessagesKept) (w : Watch) → AreDrafts kept w.drafts → (now : ℕ) (x : Step)
    → found.is_made_again w (change_of s x.call).named ≡ messages.breaks_made_again s now kept x
made_again s kept w are now x = same-at (change_of s x.call).named _ _ (λ e is. by e (is_tmp e.0.place) refl)
  where
    by : (e : Path × ℕ) (b : Bool) → is_tmp e.0.place ≡ b → (b && named_other (path_in w.drafts e.0.folder e.0.name) e.1)
        ≡ (b && named_other (kept.paths e.0) e.1)
    by e true tmp = ap (λ k. named_other k e.1) (are e.0 tmp)
    by e false tmp = refl

-- a path of a message is added, of which a test of its unique name holds
adds-is : (s : State) (named : Option (Path × ℕ)) (taken : Option (Path × ℕ)) (test : Path × ℕ → List ℕ → Bool)
    → (found.adds (record { named = named; taken = taken; turned = turned_by s named })
    && is_some_and named (λ e. is_some_and (message_of e.0) (test e)))
    ≡ is_some_and named (λ e. not (is_some (file_at s e.0)) && is_message e.0 && test e (unique_of e.0.name))
adds-is s None taken test = refl
adds-is s (Some e) taken test = ap (λ b. ((b && is_message e.0) && is_some_and (message_of e.0) (test e))) (free (file_at s e.0))
    ∙ by (not (is_some (file_at s e.0))) (is_message e.0)
  where
    free : (o : Option ℕ) → is_none (with_file e.0 o) ≡ not (is_some o)
    free None = refl
    free (Some n) = refl

    by : (b m : Bool) → ((b && m) && is_some_and (cond m (Some (unique_of e.0.name)) None) (test e))
        ≡ ((b && m) && test e (unique_of e.0.name))
    by true true = refl
    by true false = refl
    by false m = refl

no-paths : (m n : ℕ) → m ≡ n → (m == 0) ≡ not (nat_lt 0 n)
no-paths m n is = same-tests _ _ (Decides-eqb m 0)
    (Decides-like _ (λ none. omega (arith, is, none)) (λ none low. omega (arith, is, none, low)) (Decides-not _ (Decides-ltb 0 n)))

-- a message that had gone is there again
pub back : (s : State) (kept : MessagesKept) (w : Watch) → AreMessages s kept w.messages → (now : ℕ) (x : Step)
    → (found.adds (turn s (change_of s x.call)) && found.is_back w (change_of s x.call).named) ≡ messages.breaks_used_again s now kept x
back s kept w are now x = adds-is s (change_of s x.call).named (change_of s x.call).taken
    (λ e u. count_in_folder w.messages e.0.folder u == 0 && was_in_folder w.messages e.0.folder u
    && not (was_in_folder_as w.messages e.0.folder u e.1))
    ∙ same-at (change_of s x.call).named _ _ (λ e is. let f = e.0.folder in let u = unique_of e.0.name in
    (λ i. (not (is_some (file_at s e.0)) && is_message e.0)
    && (no-paths _ _ (are.in_folder f u) i && are.was_there f u i && not (are.was_file f u e.1 i))))

module _ (s : State) (now : ℕ) (kept : MessagesKept) (x : Step) (kept' : MessagesKept) (after : Watch)
    (are : AreMessages (after_call x.call now s) kept' after.messages) where
  pub two_names : (found.adds (turn s (change_of s x.call)) && found.is_second after (change_of s x.call).named)
      ≡ messages.breaks_two_names s now kept x
  two_names = adds-is s (change_of s x.call).named (change_of s x.call).taken
      (λ e u. nat_lt 1 (count_in_folder after.messages e.0.folder u))
      ∙ same-at (change_of s x.call).named _ _ (λ e is.
      ap (λ n. (not (is_some (file_at s e.0)) && is_message e.0) && nat_lt 1 n) (are.in_folder e.0.folder (unique_of e.0.name)))

  beside : (folder : ℕ) (u : List ℕ) → nat_lt (count_in_folder after.messages folder u) (count_anywhere after.messages u)
      ≡ nat_lt 0 (paths_beside (after_call x.call now s) folder u)
  beside folder u =
      let a = are.in_folder folder u in
      let b = are.anywhere u in
      let c = in-and-beside (after_call x.call now s) folder u in
      same-tests _ _ (Decides-ltb _ _)
      (Decides-like _ (λ more. omega (arith, a, b, c, more)) (λ less. omega (arith, a, b, c, less))
      (Decides-ltb 0 (paths_beside (after_call x.call now s) folder u)))

  pub in_two_folders : (found.adds (turn s (change_of s x.call)) && found.is_elsewhere after (change_of s x.call).named)
      ≡ messages.breaks_in_two_folders s now kept x
  in_two_folders = adds-is s (change_of s x.call).named (change_of s x.call).taken
      (λ e u. nat_lt (count_in_folder after.messages e.0.folder u) (count_anywhere after.messages u))
      ∙ same-at (change_of s x.call).named _ _ (λ e is.
      ap (λ b. (not (is_some (file_at s e.0)) && is_message e.0) && b) (beside e.0.folder (unique_of e.0.name)))

  -- a message leaves

  trashed-is : (p : Path) → is_message p ≡ true → found.shows_trashed p.name
      ≡ is_some_and (flags_of (info_of p.name)) (λ flags. set.contains flags 84)
  trashed-is p is = ap (λ b. is_some_and {A = List ℕ × Info} (cond b (Some (unique_of p.name, info_of p.name)) None)
      (λ parts. is_some_and (flags_of parts.1) (λ flags. set.contains flags 84)))
      (and-right (not (is_tmp p.place)) (is_message_name p.name) is)
    where
      and-right : (a b : Bool) → (a && b) ≡ true → b ≡ true
      and-right true b is = is
      and-right false b is = absurd (cc is)

  trash-is : (c : Call) (e : Path × ℕ) → (change_of s c).taken ≡ Some e → is_message e.0 ≡ true
      → found.empties_trash c ≡ messages.empties_trash c
  trash-is (call.At deed.Unlink p reply.Ok) e is message =
      let both = (with_file-is p (file_at s p) e.0 e.1).0 is in
      ap (λ b. is_cur p.place && b) (trashed-is p (ap is_message both.0 ∙ message))
  trash-is c e is message = refl

  pub gone : (not (found.empties_trash x.call) && found.is_gone after (change_of s x.call).taken) ≡ messages.breaks_gone s now kept x
  gone = by (change_of s x.call).taken refl
    where
      none : (b : Bool) → (b && false) ≡ false
      none true = refl
      none false = refl

      parts : (b c d : Bool) → (b && (c && d)) ≡ ((c && b) && d)
      parts true true d = refl
      parts true false d = refl
      parts false true d = refl
      parts false false d = refl

      by : (o : Option (Path × ℕ)) → (change_of s x.call).taken ≡ o → (not (found.empties_trash x.call) && found.is_gone after o)
          ≡ is_some_and o (λ e. is_message e.0 && not (messages.is_there (after_call x.call now s) e.0.folder (unique_of e.0.name))
          && not (messages.empties_trash x.call) && not (nat_lt 0 (messages.paths_as (after_call x.call now s) (unique_of e.0.name) e.1)))
      by None is = none (not (found.empties_trash x.call))
      by (Some e) is = at (is_message e.0) refl
        where
          f : ℕ
          f = e.0.folder

          u : List ℕ
          u = unique_of e.0.name

          at : (m : Bool) → is_message e.0 ≡ m
              → (not (found.empties_trash x.call) && is_some_and (cond m (Some u) None)
              (λ v. count_in_folder after.messages f v == 0 && count_as_file after.messages v e.1 == 0))
              ≡ (m && not (messages.is_there (after_call x.call now s) f u) && not (messages.empties_trash x.call)
              && not (nat_lt 0 (messages.paths_as (after_call x.call now s) u e.1)))
          at true message = (λ i. not (trash-is x.call e is message i)
              && (no-paths _ _ (are.in_folder f u) i && no-paths _ _ (are.as_file u e.1) i))
              ∙ parts (not (messages.empties_trash x.call)) _ _
          at false other = none (not (found.empties_trash x.call))
