-- What a watch keeps follows the lines of the beginning.
use Rattle.std.proofs.Common.{ℕ, ◌≡◌, ◌+◌, ◌==◌, ◌&&◌, ◌||◌, cond, nat_lt, [], Option, Some, None, Bool, true, false, is_some, length, refl, sym, ap, subst, ◌∙◌, arith}
use Rattle.std.specs.Prelude.{unwrap_or}
use Rattle.std.specs.Ordering.{eq_by_cmp}
use Rattle.std.specs.List.{count_by}
use Rattle.std.specs.FinMap as finmap
use Rattle.std.specs.FinMap.{get-insert, get-empty}
use Rattle.std.proofs.lemmas.Bool.{lt-ltb}
use Rattle.std.proofs.lemmas.List.{length_push}
use Rattle.std.proofs.lemmas.Option.{some_pair_parts}
use Rattle.lists.proofs.Maps as maps
use Rattle.md_dirs.specs.Calls.{with_new_file, with_path, empty_file}
use Rattle.md_dirs.specs.Path.{path_cmp}
use Rattle.md_dirs.specs.State.{State, bare, file_at}
use Rattle.md_dirs.specs.declared.paths.Path.{Path}
use Rattle.md_dirs.proofs.PathOrder.{path_total, path_exact}
use Rattle.md_law.specs.History.{Moment, opening, moment}
use Rattle.md_law.specs.Messages.{is_message, is_tmp}
use Rattle.md_monitor.specs.Changes.{with_file}
use Rattle.md_monitor.specs.Files.{is_some_and, is_cur_message, count_where, kept_first, files_kept}
use Rattle.md_monitor.specs.Messages.{PathKept, no_path, path_after, path_named, messages_first, messages_kept, is_of, is_of_any}
use Rattle.md_monitor.proofs.Recounting.{put-count}
use Rattle.md_watch.specs.Stored.{HasFiles}
use Rattle.md_watch.proofs.Stored.{has-made, has-named}
use Rattle.md_watch.specs.declared.memory.Memory.{Memory}
use Rattle.md_watch.specs.declared.watch.Watch.{Watch}
use Rattle.md_kept.specs.Changes.{adding, file_in}
use Rattle.md_kept.specs.Files.{Adds, made_by, maker_of, times_of, maker_in, is_unflushed_in, is_cut_in, was_cur_in, was_seen_in, times_in}
use Rattle.md_kept.specs.Messages as messages
use Rattle.md_kept.specs.Drafts as drafts
use Rattle.md_watch.specs.Memory as memories
use Rattle.md_watch.specs.Watches.{AreMessages, AreDrafts, Keeps, Holds, with_folder, PutsFile, PutsName, Follows}
use Rattle.md_watch.proofs.Counting.{one}
use Rattle.md_watch.proofs.Keeping.{Leads, AreTouched, turned}
use Rattle.md_watch.proofs.Going.{with-memory}
use Rattle.md_kept.proofs.Keys.{path-is}
use Rattle.md_watch.proofs.Remembering.{begins-put, begins-folder}
use Rattle.md_watch.proofs.Touching.{added, made-stamps}

-- there is one where there was one, or one came
some-more : (old new : ℕ) (b : Bool) → new + (0 + 0) ≡ old + one b → nat_lt 0 new ≡ (b || nat_lt 0 old)
some-more old new true is = lt-ltb 0 new (omega (arith, is))
some-more old new false is = let same : new ≡ old = omega (arith, is) in ap (nat_lt 0) same

-- A path that was not there comes to name a file. The names after it are these.
module _ (s s' : State) (p : Path) (n : ℕ) (free : file_at s p ≡ None) (names : s'.names ≡ finmap.insert s.names p n)
    (folders : s'.folders ≡ s.folders) (filed : HasFiles s') where
  at-path : (q : Path) → file_at s' q ≡ cond (eq_by_cmp path_cmp q p) (Some n) (file_at s q)
  at-path q = ap (λ (m : _). finmap.get m q) names ∙ get-insert path_total s.names p n q

  counts : (test : Path × ℕ → Bool) → count_where test s' + (0 + 0) ≡ count_where test s + one (test (p, n))
  counts test =
      let size = put-count test s p n in
      let none : one (is_some_and (with_file p (file_at s p)) test) ≡ 0 =
      ap (λ o. one (is_some_and (with_file p o) test)) free in
      let same : count_where test s' ≡ count_where test (record s { names = finmap.insert s.names p n }) =
      ap (λ m. count_by test (finmap.entries m)) names in
      omega (arith, size, none, same)

  draft : (q : Path) → is_tmp q.place ≡ true → (messages_first s').paths q ≡ path_after (Some (p, n)) q ((messages_first s).paths q)
  draft q tmp = ap (λ b. cond b (record { first = file_at s' q; has_other = false }) no_path) tmp ∙ by (eq_by_cmp path_cmp p q) refl
      ∙ ap (λ b. path_after (Some (p, n)) q (cond b (record { first = file_at s q; has_other = false }) no_path)) (sym tmp)
    where
      kept : Option ℕ → PathKept
      kept o = record { first = o; has_other = false }

      by : (b : Bool) → eq_by_cmp path_cmp p q ≡ b → record { first = file_at s' q; has_other = false }
          ≡ cond b (path_named (record { first = file_at s q; has_other = false }) n) (record { first = file_at s q; has_other = false })
      by true same =
          let is = (path-is p q).0 same in
          let here : file_at s' q ≡ Some n = ap (λ (m : _). finmap.get m q) names
          ∙ maps.at_put path_total path_exact s.names p q n (sym is) in
          let was : file_at s q ≡ None = ap (file_at s) (sym is) ∙ free in
          (λ i. record { first = here i; has_other = false }) ∙ (λ i. path_named (record { first = (sym was) i; has_other = false }) n)
      by false other =
          let beside : file_at s' q ≡ file_at s q = ap (λ (m : _). finmap.get m q) names
          ∙ maps.beside_put path_total path_exact s.names p q n (λ is. let t = (path-is p q).1 (sym is) in cc) in
          (λ i. record { first = beside i; has_other = false })

  adds : Leads (adding p n) s s' (kept_first s) (kept_first s') (messages_first s) (messages_first s')
  adds = record {
    folders = folders;
    paths = at-path;
    counts = counts;
    named = λ q m is. let parts = some_pair_parts p q n m is in
        ap (λ (k : _). finmap.get k q) names ∙ maps.at_put path_total path_exact s.names p q n (sym parts.0) ∙ ap Some parts.1;
    filed = filed;
    was_cur = λ m. some-more _ _ (n == m && is_cur_message p) (counts (λ e. e.1 == m && is_cur_message e.0));
    was_seen = λ m. some-more _ _ (n == m && is_message p) (counts (λ e. e.1 == m && is_message e.0));
    was_there = λ f u. some-more _ _ (is_of f u p) (counts (λ e. is_of f u e.0));
    was_file = λ f u m. some-more _ _ (n == m && is_of f u p) (counts (messages.is_in_as f u m));
    was_any = λ u. some-more _ _ (is_of_any u p) (counts (λ e. is_of_any u e.0));
    was_any_file = λ u m. some-more _ _ (n == m && is_of_any u p) (counts (messages.is_as u m));
    drafts = draft;
  }

-- ---- a folder

more-folders : (m : Moment) (w : Watch) → Keeps m.state m.now (kept_first m.state) (messages_first m.state) w
    → Keeps (with_folder m).state m.now (kept_first (with_folder m).state) (messages_first (with_folder m).state)
    (record w { folders = w.folders + 1 })
more-folders m w keeps = record {
  clock = keeps.clock;
  folders = ap (λ n. n + 1) keeps.folders;
  paths = keeps.paths;
  filed = keeps.filed;
  files = record {
    count = keeps.files.count;
    maker = keeps.files.maker;
    unflushed = keeps.files.unflushed;
    cut = keeps.files.cut;
    was_cur = keeps.files.was_cur;
    was_seen = keeps.files.was_seen;
    times = keeps.files.times;
    stamp = keeps.files.stamp;
  };
  messages = record {
    in_folder = keeps.messages.in_folder;
    anywhere = keeps.messages.anywhere;
    as_file = keeps.messages.as_file;
    was_there = keeps.messages.was_there;
    was_file = keeps.messages.was_file;
    was_any = keeps.messages.was_any;
    was_any_file = keeps.messages.was_any_file;
  };
  drafts = keeps.drafts;
}

pub put-folder : (m : Moment) (w new : Watch) → Holds (opening m) w → new ≡ record w { folders = w.folders + 1 }
    → Holds (opening (with_folder m)) new
unfolding moment files_kept messages_kept
put-folder m w new holds is = subst (λ v. Holds (opening (with_folder m)) v) (sym is)
    (record { keeps = more-folders m w holds.keeps; recalls = begins-folder m.state w.memory holds.recalls })

-- ---- a file

pub put-file : (m : Moment) (p : Path) (stamp : ℕ) (w mid followed : Watch) (memory : Memory) → Holds (opening m) w
    → file_in w.paths p ≡ None → mid.clock ≡ w.clock → mid.folders ≡ w.folders → mid.paths ≡ w.paths
    → Adds (made_by None stamp) w.files.all.items mid.files.all.items
    → mid.messages ≡ w.messages → mid.drafts ≡ w.drafts → mid.memory ≡ w.memory
    → Follows (adding p (length w.files.all.items)) mid followed → memories.Puts p followed.memory memory
    → PutsFile m p stamp (record followed { memory = memory })
unfolding moment files_kept messages_kept
put-file m p stamp w mid followed memory holds free clock folders paths does sameMessages sameDrafts sameMemory follows puts = (
  none,
  record {
    keeps = with-memory followed memory kept;
    recalls = begins-put s s' p number w.memory memory (counts s s' p number none refl refl filed) holds.recalls
        (subst (λ k. memories.Puts p k memory) (follows.memory ∙ sameMemory) puts);
  },
)
  where
    s : State
    s = m.state

    number : ℕ
    number = length s.files

    s' : State
    s' = with_new_file p (empty_file stamp) s

    none : file_at s p ≡ None
    none = sym (holds.keeps.paths p) ∙ free

    filed : HasFiles s'
    filed = has-made s p (empty_file stamp) holds.keeps.filed

    leads : Leads (adding p number) s s' (kept_first s) (kept_first s') (messages_first s) (messages_first s')
    leads = adds s s' p number none refl refl filed

    keeps : Keeps s m.now (kept_first s) (messages_first s) w
    keeps = holds.keeps

    touched : AreTouched s s' (kept_first s) (kept_first s') mid.files.all.items
    touched = record {
      count = does.many ∙ ap (λ k. k + 1) keeps.files.count ∙ sym (length_push s.files _);
      maker = λ n. added stamp None w.files.all.items mid.files.all.items does maker_of refl n ∙ keeps.files.maker n;
      unflushed = λ n. added stamp None w.files.all.items mid.files.all.items does (λ o. is_some_and o (λ f. f.is_unflushed)) refl n
          ∙ keeps.files.unflushed n;
      cut = λ n. added stamp None w.files.all.items mid.files.all.items does (λ o. is_some_and o (λ f. f.is_cut)) refl n
          ∙ keeps.files.cut n;
      was_cur = λ n. added stamp None w.files.all.items mid.files.all.items does (λ o. is_some_and o (λ f. f.was_cur)) refl n
          ∙ keeps.files.was_cur n;
      was_seen = λ n. added stamp None w.files.all.items mid.files.all.items does (λ o. is_some_and o (λ f. f.was_seen)) refl n
          ∙ keeps.files.was_seen n;
      times = λ n. added stamp None w.files.all.items mid.files.all.items does times_of refl n ∙ keeps.files.times n;
      stamp = made-stamps stamp None w.files.all.items mid.files.all.items does s keeps.files.count p keeps.files.stamp;
    }

    kept : Keeps s' m.now (kept_first s') (messages_first s') followed
    kept = turned (adding p number) s s' (kept_first s) (kept_first s') (messages_first s) (messages_first s') leads
        m.now mid followed (clock ∙ keeps.clock) (folders ∙ keeps.folders) (λ q. ap (λ (ps : _). file_in ps q) paths ∙ keeps.paths q)
        touched
        (subst (λ k. AreMessages s (messages_first s) k) (sym sameMessages) keeps.messages)
        (subst (λ d. AreDrafts (messages_first s) d) (sym sameDrafts) keeps.drafts)
        (subst (λ k. Follows (adding p k) mid followed) keeps.files.count follows)

-- ---- a further path

pub put-name : (m : Moment) (p old : Path) (n : ℕ) (w followed : Watch) (memory : Memory) → Holds (opening m) w → file_in w.paths p ≡ None
    → file_in w.paths old ≡ Some n → Follows (adding p n) w followed → memories.Puts p followed.memory memory
    → PutsName m p old (record followed { memory = memory })
unfolding moment files_kept messages_kept
put-name m p old n w followed memory holds free named follows puts = (
  n,
  none,
  at,
  record {
    keeps = with-memory followed memory
        (turned (adding p n) s s' (kept_first s) (kept_first s') (messages_first s) (messages_first s')
        (adds s s' p n none refl refl filed)
        m.now w followed keeps.clock keeps.folders keeps.paths touched keeps.messages keeps.drafts follows);
    recalls = begins-put s s' p n w.memory memory (counts s s' p n none refl refl filed) holds.recalls
        (subst (λ k. memories.Puts p k memory) follows.memory puts);
  },
)
  where
    s : State
    s = m.state

    s' : State
    s' = with_path p s (Some n)

    keeps : Keeps s m.now (kept_first s) (messages_first s) w
    keeps = holds.keeps

    none : file_at s p ≡ None
    none = sym (keeps.paths p) ∙ free

    at : file_at s old ≡ Some n
    at = sym (keeps.paths old) ∙ named

    filed : HasFiles s'
    filed = has-named s p n keeps.filed (keeps.filed old n at)

    touched : AreTouched s s' (kept_first s) (kept_first s') w.files.all.items
    touched = record {
      count = keeps.files.count;
      maker = λ k. keeps.files.maker k;
      unflushed = λ k. keeps.files.unflushed k;
      cut = λ k. keeps.files.cut k;
      was_cur = λ k. keeps.files.was_cur k;
      was_seen = λ k. keeps.files.was_seen k;
      times = λ k. keeps.files.times k;
      stamp = keeps.files.stamp;
    }

-- what the watch has of a path is so of the beginning
pub there-at : (m : Moment) (p : Path) (w : Watch) → Holds (opening m) w → file_at m.state p ≡ file_in w.paths p
unfolding moment
there-at m p w holds = sym (holds.keeps.paths p)

-- ---- nothing

no-count : (test : Path × ℕ → Bool) → count_where test (bare 0) ≡ 0
no-count test = ap (count_by test) (maps.entries-empty path_cmp)

no-files : (w : Watch) → w.clock ≡ 0 → w.folders ≡ 0 → ((p : Path) → file_in w.paths p ≡ None) → w.files.all.items ≡ []
    → messages.KeepsNone w.messages → drafts.KeepsNone w.drafts → Keeps (bare 0) 0 (kept_first (bare 0)) (messages_first (bare 0)) w
no-files w clock folders paths none ofMessages ofDrafts = record {
  clock = clock;
  folders = folders;
  paths = λ p. paths p ∙ sym (get-empty path_cmp p);
  filed = λ p n is. let empty : None ≡ Some n = sym (get-empty path_cmp p) ∙ is in absurd (cc empty);
  files = record {
    count = ap length none;
    maker = λ n. ap (λ xs. maker_in xs n) none;
    unflushed = λ n. ap (λ xs. is_unflushed_in xs n) none;
    cut = λ n. ap (λ xs. is_cut_in xs n) none;
    was_cur = λ n. ap (λ xs. was_cur_in xs n) none ∙ ap (nat_lt 0) (sym (no-count (λ e. e.1 == n && is_cur_message e.0)));
    was_seen = λ n. ap (λ xs. was_seen_in xs n) none ∙ ap (nat_lt 0) (sym (no-count (λ e. e.1 == n && is_message e.0)));
    times = λ n. ap (λ xs. times_in xs n) none ∙ sym (no-count (λ e. e.1 == n && is_message e.0));
    stamp = λ n f is. absurd (cc is);
  };
  messages = record {
    in_folder = λ f u. ap (λ o. unwrap_or (messages.times_in (messages.folder_by o f)) 0) (ofMessages u) ∙ sym (no-count (λ e. is_of f u e.0));
    anywhere = λ u. ap (λ o. unwrap_or (messages.times_by o) 0) (ofMessages u) ∙ sym (no-count (λ e. is_of_any u e.0));
    as_file = λ u n. ap (λ o. unwrap_or (messages.file_by o n) 0) (ofMessages u) ∙ sym (no-count (messages.is_as u n));
    was_there = λ f u. ap (λ o. is_some (messages.folder_by o f)) (ofMessages u) ∙ ap (nat_lt 0) (sym (no-count (λ e. is_of f u e.0)));
    was_file = λ f u n. ap (λ o. messages.was_in_as (messages.folder_by o f) n) (ofMessages u) ∙ ap (nat_lt 0) (sym (no-count (messages.is_in_as f u n)));
    was_any = λ u. ap is_some (ofMessages u) ∙ ap (nat_lt 0) (sym (no-count (λ e. is_of_any u e.0)));
    was_any_file = λ u n. ap (λ o. is_some (messages.file_by o n)) (ofMessages u) ∙ ap (nat_lt 0) (sym (no-count (messages.is_as u n)));
  };
  drafts = λ p tmp. ofDrafts p.folder p.name ∙ (λ i. record { first = (sym (get-empty path_cmp p)) i; has_other = false })
      ∙ ap (λ b. cond b (record { first = file_at (bare 0) p; has_other = false }) no_path) (sym tmp);
}

pub nothing-held : (w : Watch) → w.clock ≡ 0 → w.folders ≡ 0 → ((p : Path) → file_in w.paths p ≡ None) → w.files.all.items ≡ []
    → messages.KeepsNone w.messages → drafts.KeepsNone w.drafts → memories.Begins (bare 0) w.memory
    → Holds (opening (record { state = bare 0; now = 0 })) w
unfolding moment files_kept messages_kept
nothing-held w clock folders paths none ofMessages ofDrafts begins =
    record { keeps = no-files w clock folders paths none ofMessages ofDrafts; recalls = begins }
