-- What a watch keeps follows a turn of paths: of a step, or of a line of the beginning.
use Rattle.std.specs.Option.{option_map}
use Rattle.std.proofs.Common.{ℕ, ◌≡◌, ◌+◌, ◌==◌, ◌&&◌, ◌||◌, cond, List, Option, Some, None, IsSome, Bool, true, is_some, slice_get, length, refl, sym, ap, ◌∙◌, arith}
use Rattle.std.specs.Prelude.{unwrap_or}
use Rattle.std.specs.Ordering.{eq_by_cmp}
use Rattle.md_dirs.specs.Path.{path_cmp}
use Rattle.md_dirs.specs.State.{State, file_at, file_by}
use Rattle.md_dirs.specs.declared.paths.File.{File}
use Rattle.md_dirs.specs.declared.paths.Path.{Path}
use Rattle.md_dirs.proofs.Sound.{file-within}
use Rattle.md_law.specs.Messages.{is_message, is_tmp}
use Rattle.md_monitor.specs.Files.{FileKept, is_some_and, count_where, is_cur_message, comes_to, seen_times}
use Rattle.md_monitor.specs.Messages.{MessagesKept, PathKept, is_of, is_of_any, path_after, path_named}
use Rattle.md_watch.specs.Stored.{HasFiles}
use Rattle.md_kept.specs.declared.files.FileKept.{FileKept as Kept}
use Rattle.md_kept.specs.declared.messages.Messages.{Messages}
use Rattle.md_kept.specs.declared.drafts.Drafts.{Drafts}
use Rattle.md_watch.specs.declared.watch.Watch.{Watch}
use Rattle.md_kept.specs.Changes.{Turn, file_in, after_turn, with_taken, with_named}
use Rattle.md_kept.specs.Files as files
use Rattle.md_kept.specs.Messages as messages
use Rattle.md_kept.specs.Drafts as drafts
use Rattle.md_watch.specs.Watches.{AreFiles, AreMessages, AreDrafts, Keeps, Follows}
use Rattle.md_kept.proofs.Keys.{draft-is}
use Rattle.md_watch.proofs.Counting.{one, turning-count, turning-some}
use Rattle.md_watch.proofs.Filing.{turned-same, turned-cur, turned-seen, turned-times}
use Rattle.md_watch.proofs.Touching.{within-some}

-- A turn leads from directories, and what the monitor keeps of them, to others.
pub record Leads (t : Turn) (s s' : State) (kept kept' : ℕ → FileKept) (told told' : MessagesKept) : Type 0 where
  pub folders : s'.folders ≡ s.folders
  pub paths : (q : Path) → file_at s' q ≡ after_turn t (file_at s) q
  pub counts : (test : Path × ℕ → Bool) → count_where test s' + (one (is_some_and t.taken test) + one (is_some_and t.turned test))
      ≡ count_where test s + one (is_some_and t.named test)
  pub named : (p : Path) (n : ℕ) → t.named ≡ Some (p, n) → file_at s' p ≡ Some n
  pub filed : HasFiles s'
  pub was_cur : (n : ℕ) → (kept' n).was_cur ≡ (comes_to t.named is_cur_message n || (kept n).was_cur)
  pub was_seen : (n : ℕ) → (kept' n).was_seen ≡ (comes_to t.named is_message n || (kept n).was_seen)
  pub was_there : (f : ℕ) (u : List ℕ) → told'.was_there f u ≡ (is_some_and t.named (λ e. is_of f u e.0) || told.was_there f u)
  pub was_file : (f : ℕ) (u : List ℕ) (n : ℕ)
      → told'.was_file f u n ≡ (is_some_and t.named (messages.is_in_as f u n) || told.was_file f u n)
  pub was_any : (u : List ℕ) → told'.was_any u ≡ (is_some_and t.named (λ e. is_of_any u e.0) || told.was_any u)
  pub was_any_file : (u : List ℕ) (n : ℕ)
      → told'.was_any_file u n ≡ (is_some_and t.named (messages.is_as u n) || told.was_any_file u n)
  pub drafts : (p : Path) → is_tmp p.place ≡ true → told'.paths p ≡ path_after t.named p (told.paths p)

-- What is kept of files is so but for the turn.
pub record AreTouched (s s' : State) (kept kept' : ℕ → FileKept) (all : List Kept) : Type 0 where
  pub count : length all ≡ length s'.files
  pub maker : (n : ℕ) → files.maker_in all n ≡ (kept' n).maker
  pub unflushed : (n : ℕ) → files.is_unflushed_in all n ≡ (kept' n).is_unflushed
  pub cut : (n : ℕ) → files.is_cut_in all n ≡ (kept' n).is_cut
  pub was_cur : (n : ℕ) → files.was_cur_in all n ≡ (kept n).was_cur
  pub was_seen : (n : ℕ) → files.was_seen_in all n ≡ (kept n).was_seen
  pub times : (n : ℕ) → files.times_in all n ≡ seen_times s n
  pub stamp : (n : ℕ) (f : File) → file_by s'.files n ≡ Some f → files.stamp_in all n ≡ f.stamp

module _ (t : Turn) (s s' : State) (kept kept' : ℕ → FileKept) (told told' : MessagesKept) (leads : Leads t s s' kept kept' told told')
  where
    turned-files : (all new : List Kept) → AreTouched s s' kept kept' all → files.Follows t all new → AreFiles s' kept' new
    turned-files all new are follows = record {
      count = follows.many ∙ are.count;
      maker = λ n. turned-same files.maker_of (λ f. refl) (λ c f. refl) t all new follows n ∙ are.maker n;
      unflushed = λ n. turned-same (λ o. is_some_and o (λ f. f.is_unflushed)) (λ f. refl) (λ c f. refl) t all new follows n ∙
          are.unflushed n;
      cut = λ n. turned-same (λ o. is_some_and o (λ f. f.is_cut)) (λ f. refl) (λ c f. refl) t all new follows n ∙ are.cut n;
      was_cur = λ n. turned-cur t all new follows n (there n) ∙ ap (λ b. comes_to t.named is_cur_message n || b) (are.was_cur n)
          ∙ sym (leads.was_cur n);
      was_seen = λ n. turned-seen t all new follows n (there n) ∙ ap (λ b. comes_to t.named is_message n || b) (are.was_seen n)
          ∙ sym (leads.was_seen n);
      times = λ n. turned-times t all new follows n (there n) (seen_times s n) (seen_times s' n) (are.times n)
          (leads.counts (λ e. e.1 == n && is_message e.0));
      stamp = λ n f is. turned-same files.stamp_of (λ g. refl) (λ c g. refl) t all new follows n ∙ are.stamp n f is;
    }
      where
        there : (n : ℕ) (p : Path) → t.named ≡ Some (p, n) → IsSome (slice_get all n)
        there n p is =
            let low = file-within s'.files n (leads.filed p n (leads.named p n is)) in
            let long = are.count in
            within-some all n (omega (arith, low, long))

    turned-messages : (old new : Messages) → AreMessages s told old → messages.Follows t old new → AreMessages s' told' new
    turned-messages old new are follows = record {
      in_folder = λ f u. counted (λ e. is_of f u e.0) _ _ (follows.in_folder f u) (are.in_folder f u);
      anywhere = λ u. counted (λ e. is_of_any u e.0) _ _ (follows.anywhere u) (are.anywhere u);
      as_file = λ u n. counted (messages.is_as u n) _ _ (follows.as_file n u) (are.as_file u n);
      was_there = λ f u. sym (mapped (λ k. k.times) (messages.in_folder_of new f u))
          ∙ noted (λ e. is_of f u e.0) _ _ _ (follows.in_folder f u) (mapped (λ k. k.times) (messages.in_folder_of old f u) ∙ are.was_there f u)
          ∙ sym (leads.was_there f u);
      was_file = λ f u n. follows.files f u n ∙ ap (λ b. is_some_and t.named (messages.is_in_as f u n) || b) (are.was_file f u n)
          ∙ sym (leads.was_file f u n);
      was_any = λ u. sym (mapped (λ k. k.times) (messages.kept_of new u))
          ∙ noted (λ e. is_of_any u e.0) _ _ _ (follows.anywhere u) (mapped (λ k. k.times) (messages.kept_of old u) ∙ are.was_any u)
          ∙ sym (leads.was_any u);
      was_any_file = λ u n. noted (messages.is_as u n) _ _ _ (follows.as_file n u) (are.was_any_file u n) ∙ sym (leads.was_any_file u n);
    }
      where
        -- what is counted is there
        mapped : {A : Type 0} (count : A → ℕ) (o : Option A) → is_some (option_map count o) ≡ is_some o
        mapped count None = refl
        mapped count (Some k) = refl

        counted : (test : Path × ℕ → Bool) (o o' : Option ℕ) → o' ≡ messages.turning test t o → unwrap_or o 0 ≡ count_where test s
            → unwrap_or o' 0 ≡ count_where test s'
        counted test o o' turned was = ap (λ v. unwrap_or v 0) turned
            ∙ turning-count test t o (count_where test s) (count_where test s') was (leads.counts test)

        noted : (test : Path × ℕ → Bool) (o o' : Option ℕ) (b : Bool) → o' ≡ messages.turning test t o → is_some o ≡ b
            → is_some o' ≡ (is_some_and t.named test || b)
        noted test o o' b turned was = ap is_some turned ∙ turning-some test t o ∙ ap (λ v. is_some_and t.named test || v) was

    turned-drafts : (old new : Drafts) → AreDrafts told old → drafts.Comes t.named old new → AreDrafts told' new
    turned-drafts old new are comes p tmp =
        comes p.folder p.name ∙ ap (drafts.named_in t.named p.folder p.name) (are p tmp) ∙ by t.named (told.paths p)
        ∙ sym (leads.drafts p tmp)
      where
        by : (o : Option (Path × ℕ)) (k : PathKept) → drafts.named_in o p.folder p.name k ≡ path_after o p k
        by None k = refl
        by (Some e) k = ap (λ b. cond b (path_named k e.1) k) (draft-is e.0 p tmp)

    pub turned : (now : ℕ) (old new : Watch) → old.clock ≡ now → old.folders ≡ s.folders → ((p : Path) → file_in old.paths p ≡ file_at s p)
        → AreTouched s s' kept kept' old.files.all.items → AreMessages s told old.messages → AreDrafts told old.drafts
        → Follows t old new → Keeps s' now kept' told' new
    turned now old new clock folders paths are ofMessages ofDrafts follows = record {
      clock = follows.clock ∙ clock;
      folders = follows.folders ∙ folders ∙ sym leads.folders;
      paths = λ q. follows.paths q ∙ after-same t.named t.taken q ∙ sym (leads.paths q);
      filed = leads.filed;
      files = turned-files old.files.all.items new.files.all.items are follows.files;
      messages = turned-messages old.messages new.messages ofMessages follows.messages;
      drafts = turned-drafts old.drafts new.drafts ofDrafts follows.drafts;
    }
      where
        taken-same : (o : Option (Path × ℕ)) (q : Path) → with_taken o (file_in old.paths) q ≡ with_taken o (file_at s) q
        taken-same None q = paths q
        taken-same (Some e) q = ap (λ f. cond (eq_by_cmp path_cmp q e.0) None f) (paths q)

        after-same : (named taken : Option (Path × ℕ)) (q : Path)
            → with_named named (with_taken taken (file_in old.paths)) q ≡ with_named named (with_taken taken (file_at s)) q
        after-same None taken q = taken-same taken q
        after-same (Some e) taken q = ap (λ f. cond (eq_by_cmp path_cmp q e.0) (Some e.1) f) (taken-same taken q)
