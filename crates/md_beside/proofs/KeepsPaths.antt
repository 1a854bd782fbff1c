-- Clauses that the own steps of our jobs don't break, by what each does to paths; and those of a delivery.
use Rattle.std.proofs.Common.{ℕ, suc, ◌≡◌, ◌≢◌, inl, inr, List, Some, None, true, sym, ap, subst, ◌∙◌}
use Rattle.md_dirs.proofs.Sound.{by_path}
use Rattle.md_dirs.specs.State.{State, file_at}
use Rattle.md_dirs.specs.declared.paths.Path.{Path}
use Rattle.md_dirs.specs.declared.paths.Place.TheVariants.{Tmp, New, Cur}
use Rattle.md_name.specs.Names.{unique_of}
use Rattle.md_core.specs.Accepting.{name_used}
use Rattle.md_core.specs.Interleaving.{NoneOverwritten}
use Rattle.md_core.specs.Mailbox.{HasOnePath}
use Rattle.md_used.specs.Paths.{is_message}
use Rattle.md_core.proofs.Directories.Frames.{not_tmp, tmp-key, message-key}
use Rattle.md_jobs.specs.Asked.{Asked, create, append, link, rename, unlink, list}
use Rattle.md_log.specs.declared.clause.Clause.{Clause}
use Rattle.md_log.specs.declared.clause.Clause.TheVariants as clause
use Rattle.md_log.specs.declared.line.Call.{Call as Told}
use Rattle.md_log.specs.declared.line.Call.TheVariants as told
use Rattle.md_log.specs.declared.line.Deed.{Deed}
use Rattle.md_log.specs.declared.line.Deed.TheVariants as deed
use Rattle.md_log.specs.declared.line.Reply.{Reply}
use Rattle.md_log.specs.declared.line.Reply.TheVariants as said
use Rattle.md_log.specs.declared.line.Step.{Step as Seen}
use Rattle.md_law.specs.Clauses.{NotADirectory, MakesMessage, WritesSeen, ShowsCut, SeenBeforeWhole, Overwritten, Mixed, NotFlushed, TwoNames, Gone, UsedAgain, MovedBack, CleanedEarly, Unlisted}
use Rattle.md_law.specs.Files.{Names, Writes, IsMaker, WasInCur}
use Rattle.md_law.specs.History.{History, opening, next, at, IsCall, IsBy, Once}
use Rattle.md_law.specs.Law.{Breaks}
use Rattle.md_law.specs.Messages.{IsSeen, IsThere, IsMessageAt}
use Rattle.md_law.specs.Law as owed
use Rattle.md_law.specs.Law.{InTwoFolders}
use Rattle.md_beside.specs.Story.{Story, Step, Did, asked, ours, step_at, state, history, actor_seen, call_seen, reply_seen, step_seen}
use Rattle.md_beside.specs.Beside.{IsStory, BringsAbout}
use Rattle.md_beside.proofs.Fresh.{NeverThere, NeverUsed, IsWhole}
use Rattle.md_beside.proofs.Histories.{next_at, history-next, path-history, path-next}
use Rattle.md_beside.proofs.OneMaker.{maker-still}
use Rattle.md_beside.proofs.Replies.{call-made, tells-nothing}

-- What a step of ours keeps that may bring its own names about and no other, by what it does to paths: clauses, but those that it may
-- break, and the names of others.
pub record KeepsPaths (t : Story) (k : ℕ) (x : Step) (own : List ℕ → Type 0) (may : Clause → Type 0) : Type 0 where
  pub whole : SeenBeforeWhole (next_at t k x) → ⊥
  pub unmixed : Mixed (next_at t k x) → ⊥
  pub unwritten : owed.Rewritten (next_at t k x) → ⊥
  pub unmade : owed.MadeAgain (next_at t k x) → ⊥
  pub one_file : owed.UsedTwice (next_at t k x) → ⊥
  pub unnamed : owed.NamedByAnother (next_at t k x) → ⊥
  pub not_back : MovedBack (next_at t k x) → ⊥
  pub there : Gone (next_at t k x) → ⊥
  pub unused : (may clause.UsedAgain → ⊥) → UsedAgain (next_at t k x) → ⊥
  pub not_early : (may clause.CleanedEarly → ⊥) → CleanedEarly (next_at t k x) → ⊥
  pub brings : (v : List ℕ) → (own v → ⊥) → BringsAbout t k v → ⊥

-- what it keeps that hangs on more than paths
pub record KeepsRest (t : Story) (k : ℕ) (x : Step) (may : Clause → Type 0) : Type 0 where
  pub rightly : NotADirectory (next_at t k x) → ⊥
  pub flushed : (may clause.NotFlushed → ⊥) → NotFlushed (next_at t k x) → ⊥
  pub listed : (may clause.Unlisted → ⊥) → Unlisted (next_at t k x) → ⊥
  pub in_time : (may clause.WrittenLate → ⊥) → owed.WrittenLate (next_at t k x) → ⊥

-- one that breaks none of these, and brings one name about
abbrev pub KeepsAll : Story → ℕ → Step → List ℕ → Type 0
KeepsAll t k x u = KeepsPaths t k x (λ v. v ≡ u) (λ b. ⊥)

-- a step keeps what one keeps that may do more
pub widens : (t : Story) (k : ℕ) (x : Step) (own own' : List ℕ → Type 0) (may may' : Clause → Type 0) → ((v : List ℕ) → own v → own' v) →
    ((b : Clause) → may b → may' b) → KeepsPaths t k x own may → KeepsPaths t k x own' may'
widens t k x own own' may may' its wide keeps = record {
  whole = keeps.whole;
  unmixed = keeps.unmixed;
  unwritten = keeps.unwritten;
  unmade = keeps.unmade;
  one_file = keeps.one_file;
  unnamed = keeps.unnamed;
  not_back = keeps.not_back;
  there = keeps.there;
  unused = λ not. keeps.unused (λ m. not (wide clause.UsedAgain m));
  not_early = λ not. keeps.not_early (λ m. not (wide clause.CleanedEarly m));
  brings = λ v not. keeps.brings v (λ o. not (its v o));
}

-- what was so once of one thing was so of what follows from it
pub once-map : (P Q : History → Type 0) → ((m : History) → P m → Q m) → (h : History) → Once P h → Once Q h
unfolding Once
once-map P Q follows (opening m) is = follows (opening m) is
once-map P Q follows (next past x) (inl now) = inl (follows (next past x) now)
once-map P Q follows (next past x) (inr earlier) = inr (once-map P Q follows past earlier)

pub once-now : (P : History → Type 0) (h : History) → P h → Once P h
unfolding Once
once-now P (opening m) is = is
once-now P (next past x) is = inl is

-- where a file was a message in cur, readers saw it
was-seen : (h : History) (n : ℕ) → WasInCur h n → Once (λ m. IsSeen (at m) n) h
was-seen h n = once-map (λ m. (p : Path) × (file_at (at m) p ≡ Some n) × (is_message p ≡ true) × (p.place ≡ Cur)) (λ m. IsSeen (at m) n)
    (λ m there. (there.0, there.1, there.2)) h

once-there : (h : History) (folder : ℕ) (u v : List ℕ) → u ≡ v → Once (λ m. IsThere (at m) folder u) h
    → Once (λ m. (f : ℕ) × IsThere (at m) f v) h
once-there h folder u v same = once-map (λ m. IsThere (at m) folder u) (λ m. (f : ℕ) × IsThere (at m) f v)
    (λ m there. (folder, subst (IsThere (at m) folder) same there)) h

-- where a path of a name once named a file, a path of the name was used
once-used : (h : History) (p : Path) (u : List ℕ) (n : ℕ) → name_used p ≡ u → Once (λ m. file_at (at m) p ≡ Some n) h
    → Once (λ m. (q : Path) × (file : ℕ) × (name_used q ≡ u) × (file_at (at m) q ≡ Some file)) h
once-used h p u n used = once-map (λ m. file_at (at m) p ≡ Some n)
    (λ m. (q : Path) × (file : ℕ) × (name_used q ≡ u) × (file_at (at m) q ≡ Some file)) (λ m is. (p, n, used, is)) h

-- where a file was a message of the name, one was there
once-of : (h : History) (u v : List ℕ) (n : ℕ) → u ≡ v → owed.WasOf h u n → Once (λ m. (f : ℕ) × IsThere (at m) f v) h
once-of h u v n same = once-map (λ m. (p : Path) × IsMessageAt (at m) p.folder u p n) (λ m. (f : ℕ) × IsThere (at m) f v)
    (λ m is. (is.0.folder, subst (IsThere (at m) is.0.folder) same (is.0, n, is.1))) h

pub whole-by : (h : History) → (MakesMessage h → ⊥) → (WritesSeen h → ⊥) → (ShowsCut h → ⊥) → SeenBeforeWhole h → ⊥
whole-by h makes writes shows (inl broken) = makes broken
whole-by h makes writes shows (inr (inl broken)) = writes broken
whole-by h makes writes shows (inr (inr broken)) = shows broken

-- a call on one path is on this path
abbrev pub IsOn : Path → Asked → Type 0
IsOn tmp (create p) = p ≡ tmp
IsOn tmp (append p bytes) = p ≡ tmp
IsOn tmp (link old new) = Unit {0}
IsOn tmp (rename old new) = Unit {0}
IsOn tmp (unlink p) = p ≡ tmp
IsOn tmp (list folder place) = Unit {0}

-- what a step writes to: a file that no reader saw, and that the job made
abbrev pub WritesOwn : Story → ℕ → Step → ℕ → Type 0
WritesOwn t k x job = (n : ℕ) (r : Reply) → Writes (next_at t k x) n r
    → (Once (λ m. IsSeen (at m) n) (history t k) → ⊥) × IsMaker (history t k) (t.actor job) n

module _ (t : Story) (story : IsStory t) (k : ℕ) (x : Step) (is : step_at t k ≡ Some x) where
  abbrev h : History
  h = next_at t k x

  -- where a path of the history's directories leads, so it does in the story
  before : (p : Path) (n : ℕ) → file_at (at (history t k)) p ≡ Some n → file_at (state t k) p ≡ Some n
  before p n at = sym (path-history t story k p) ∙ at

  after : (p : Path) (n : ℕ) → file_at (at h) p ≡ Some n → file_at (state t (suc k)) p ≡ Some n
  after p n at = sym (path-next t story k x is p) ∙ at

  -- ---- by what md_core says of the directories

  overwrites-nothing : NoneOverwritten (state t k) (state t (suc k)) → Overwritten h → ⊥
  overwrites-nothing none (p, m, n, was, now, differ) = differ (sym (none p m n (before p m was) (after p n now)))

  no_two_names : HasOnePath (state t (suc k)) → TwoNames h → ⊥
  no_two_names one (p, q, m, n, adds, message, differ, there) =
      differ (one p q m n (after p m adds.1) (after q n there.0) message there.1.0 (sym there.1.2))

  not_in_two_folders : HasOnePath (state t (suc k)) → InTwoFolders h → ⊥
  not_in_two_folders one (p, q, m, n, adds, message, differ, there) =
      differ (ap (λ (r : Path). r.folder) (one p q m n (after p m adds.1) (after q n there.0) message there.1.0 (sym there.1.2)))

  -- ---- by its call

  module _ (job : ℕ) (who : x.who ≡ ours job) (a : Asked) (did : x.did ≡ asked a) (tmp : Path) (place : tmp.place ≡ Tmp) where
    by-call : (s : State) (b : Asked) (r : Reply) (d : Deed) (p : Path) (e : Reply) → IsOn tmp b →
        call_seen s (asked b) r ≡ told.At d p e → p ≡ tmp
    by-call s (create q) r d p e on same = let one : q ≡ p = cc in sym one ∙ on
    by-call s (append q bytes) r d p e on same = let one : q ≡ p = cc in sym one ∙ on
    by-call s (link old new) r d p e on same = cc
    by-call s (rename old new) r d p e on same = cc
    by-call s (unlink q) r d p e on same = let one : q ≡ p = cc in sym one ∙ on
    by-call s (list folder place) r d p e on same = cc

    pub call-is : (c : Told) → IsCall h c → call_seen (state t k) (asked a) (reply_seen x.reply) ≡ c
    call-is c call = sym (ap (λ (d : Did). call_seen (state t k) d (reply_seen x.reply)) did) ∙ call-made t k x c call

    pub on-tmp : IsOn tmp a → (d : Deed) (p : Path) (r : Reply) → IsCall h (told.At d p r) → p ≡ tmp
    on-tmp on d p r call = by-call (state t k) a (reply_seen x.reply) d p r on (call-is (told.At d p r) call)

    -- it makes no message
    makes-none : IsOn tmp a → MakesMessage h → ⊥
    makes-none on (p, call, message) = not_tmp p tmp place message (on-tmp on deed.Create p said.Ok call)

    -- the actor of the step is the job
    actor-is : (actor : List ℕ) → IsBy h actor → t.actor job ≡ actor
    actor-is actor by =
        let e : Some by.0 ≡ Some (step_seen t.actor (state t k) x) = sym by.1 in
        let same : step_seen t.actor (state t k) x ≡ by.0 = cc in
        sym (ap (actor_seen t.actor) who) ∙ ap (λ (y : Seen). y.actor) same ∙ by.2

    writes-unseen : WritesOwn t k x job → WritesSeen h → ⊥
    writes-unseen own (n, writes, seen) = (own n writes.0 writes.2).0 (once-now (λ m. IsSeen (at m) n) (history t k) seen)

    writes-unwritten : WritesOwn t k x job → owed.Rewritten h → ⊥
    writes-unwritten own (n, writes, seen) = (own n writes.0 writes.2).0 seen

    writes-unmixed : WritesOwn t k x job → Mixed h → ⊥
    writes-unmixed own (actor, n, by, writes, not) =
        not (subst (λ (name : List ℕ). IsMaker (history t k) name n) (actor-is actor by) (own n writes.0 writes.2).1)

    -- who names a file that it made is not another
    names-own : (actor : List ℕ) (n : ℕ) → IsBy h actor → IsMaker h (t.actor job) n → (IsMaker h actor n → ⊥) → ⊥
    names-own actor n by made not = not (subst (λ (name : List ℕ). IsMaker h name n) (actor-is actor by) made)

    -- ---- a step that changes no path but its own in tmp

    module _ (on : IsOn tmp a) (own : WritesOwn t k x job)
        (other : (q : Path) → q ≢ tmp → file_at (state t (suc k)) q ≡ file_at (state t k) q)
        (made : (n : ℕ) → file_at (state t k) tmp ≡ Some n → (IsMaker (history t k) (t.actor job) n → ⊥) → ⊥)
        (makes : (n : ℕ) → file_at (state t (suc k)) tmp ≡ Some n → file_at (state t k) tmp ≢ Some n →
        IsMaker h (t.actor job) n × NeverUsed t k tmp.name) where
      same : (q : Path) → q ≢ tmp → file_at (at h) q ≡ file_at (at (history t k)) q
      same q differ = path-next t story k x is q ∙ other q differ ∙ sym (path-history t story k q)

      message : (q : Path) → is_message q ≡ true → file_at (at h) q ≡ file_at (at (history t k)) q
      message q m = same q (not_tmp q tmp place m)

      shows-none : ShowsCut h → ⊥
      shows-none (n, (seen, unseen), cut) = unseen (seen.0, sym (message seen.0 seen.2) ∙ seen.1, seen.2)

      takes-none : Gone h → ⊥
      takes-none gone = let was = gone.2.0 in let none = gone.2.1 in let kept = message gone.0 gone.3 in cc

      adds-none : UsedAgain h → ⊥
      adds-none used = let none = used.2.0 in let now = used.2.1 in let kept = message used.0 used.3 in cc

      names-none : MovedBack h → ⊥
      names-none moved = moved.2.1 (sym (message moved.0 moved.3) ∙ moved.2.0)

      cleans-own : CleanedEarly h → ⊥
      cleans-own early = by_path early.1 tmp
          (λ one. made early.2 (ap (file_at (state t k)) (sym one) ∙ before early.1 early.2 early.6.0)
          (λ m. early.8 (subst (λ (name : List ℕ). IsMaker (history t k) name early.2) (actor-is early.0 early.4) m)))
          (λ differ. early.6.1 (same early.1 differ ∙ early.6.0))

      -- a path that comes to name a file is that in tmp, and the file is new
      made-new : (p : Path) (n : ℕ) → p ≡ tmp → Names h p n → IsMaker h (t.actor job) n × NeverUsed t k tmp.name
      made-new p n one names = makes n (ap (file_at (state t (suc k))) (sym one) ∙ after p n names.0)
          (λ was. names.1 (path-history t story k p ∙ ap (file_at (state t k)) one ∙ was))

      names-made : owed.NamedByAnother h → ⊥
      names-made (actor, p, n, by, names, unseen, not) = by_path p tmp
          (λ one. names-own actor n by (made-new p n one names).0 not)
          (λ differ. names.1 (sym (same p differ) ∙ names.0))

      made-none : owed.MadeAgain h → ⊥
      made-none again = by_path again.0 tmp
          (λ one. (made-new again.0 again.1 one again.3).1 (once-used (history t k) again.0 tmp.name again.2
          (ap (λ (q : Path). name_used q) one ∙ tmp-key tmp place) again.6))
          (λ differ. again.3.1 (sym (same again.0 differ) ∙ again.3.0))

      used-none : owed.UsedTwice h → ⊥
      used-none used = used.3.1 (sym (message used.0 used.4) ∙ used.3.0)

      brings-none : (v : List ℕ) → v ≢ tmp.name → BringsAbout t k v → ⊥
      brings-none v not (p, n, used, now, none) =
          none p used (sym (other p (λ one. not (sym used ∙ ap name_used one ∙ tmp-key tmp place))) ∙ now)

      pub keeps-in_tmp : KeepsAll t k x tmp.name
      keeps-in_tmp = record {
        whole = whole-by h (makes-none on) (writes-unseen own) shows-none;
        unmixed = writes-unmixed own;
        unwritten = writes-unwritten own;
        unmade = made-none;
        one_file = used-none;
        unnamed = names-made;
        not_back = names-none;
        there = takes-none;
        unused = λ _. adds-none;
        not_early = λ _. cleans-own;
        brings = brings-none;
      }

    -- ---- the link

    module _ (target : Path) (in_new : target.place ≡ New) (message : is_message target ≡ true) (plain : unique_of target.name ≡ tmp.name)
        (free : file_at (state t k) target ≡ None) (links : file_at (state t (suc k)) target ≡ file_at (state t k) tmp)
        (other : (q : Path) → q ≢ target → file_at (state t (suc k)) q ≡ file_at (state t k) q)
        (on : IsOn tmp a) (own : WritesOwn t k x job)
        (mine : (n : ℕ) → file_at (state t k) tmp ≡ Some n → IsMaker (history t k) (t.actor job) n)
        (never : NeverThere t k tmp.name) (fresh : (n : ℕ) → file_at (state t k) tmp ≡ Some n → IsWhole t k n) where
      unchanged : (q : Path) → q ≢ target → file_at (at h) q ≡ file_at (at (history t k)) q
      unchanged q differ = path-next t story k x is q ∙ other q differ ∙ sym (path-history t story k q)

      -- the file that the target names then
      linked : (q : Path) (n : ℕ) → q ≡ target → file_at (at h) q ≡ Some n → file_at (state t k) tmp ≡ Some n
      linked q n one now = sym links ∙ ap (file_at (state t (suc k))) (sym one) ∙ after q n now

      shows-whole : ShowsCut h → ⊥
      shows-whole (n, (seen, unseen), cut) = by_path seen.0 target
          (λ one. (fresh n (linked seen.0 n one seen.1)).1 cut)
          (λ differ. unseen (seen.0, sym (unchanged seen.0 differ) ∙ seen.1, seen.2))

      takes-no_message : Gone h → ⊥
      takes-no_message gone = by_path gone.0 target
          (λ one. let was = before gone.0 gone.1 gone.2.0 in let none = ap (file_at (state t k)) one ∙ free in cc)
          (λ differ. let was = gone.2.0 in let none = gone.2.1 in let kept = unchanged gone.0 differ in cc)

      adds-new : UsedAgain h → ⊥
      adds-new used = by_path used.0 target
          (λ one.
          let same-name : unique_of used.0.name ≡ tmp.name = ap (λ (q : Path). unique_of q.name) one ∙ plain in
          never (once-there (history t k) used.0.folder (unique_of used.0.name) tmp.name same-name used.5))
          (λ differ. let none = used.2.0 in let now = used.2.1 in let kept = unchanged used.0 differ in cc)

      names-new : MovedBack h → ⊥
      names-new moved = by_path moved.0 target
          (λ one. (fresh moved.1 (linked moved.0 moved.1 one moved.2.0)).0 (was-seen (history t k) moved.1 moved.5))
          (λ differ. moved.2.1 (sym (unchanged moved.0 differ) ∙ moved.2.0))

      cleans-none : CleanedEarly h → ⊥
      cleans-none early = by_path early.1 target
          (λ one. let new : early.1.place ≡ New = ap (λ (q : Path). q.place) one ∙ in_new in let tmp_ = early.5 in cc)
          (λ differ. early.6.1 (unchanged early.1 differ ∙ early.6.0))

      links-none : owed.MadeAgain h → ⊥
      links-none again = by_path again.0 target
          (λ one. let new : again.0.place ≡ New = ap (λ (q : Path). q.place) one ∙ in_new in let in_tmp = again.4 in cc)
          (λ differ. again.3.1 (sym (unchanged again.0 differ) ∙ again.3.0))

      links-new : owed.UsedTwice h → ⊥
      links-new used = by_path used.0 target
          (λ one. never (once-of (history t k) (unique_of used.0.name) tmp.name used.2 (ap (λ (q : Path). unique_of q.name) one
          ∙ plain) used.5))
          (λ differ. used.3.1 (sym (unchanged used.0 differ) ∙ used.3.0))

      names-linked : owed.NamedByAnother h → ⊥
      names-linked (actor, p, n, by, names, unseen, not) = by_path p target
          (λ one. names-own actor n by
          (maker-still (history t k) (step_seen t.actor (state t k) x) (t.actor job) n (mine n (linked p n one names.0))) not)
          (λ differ. names.1 (sym (unchanged p differ) ∙ names.0))

      brings-its_own : (v : List ℕ) → v ≢ tmp.name → BringsAbout t k v → ⊥
      brings-its_own v not (p, n, used, now, none) =
          none p used (sym (other p (λ one. not (sym used ∙ ap name_used one ∙ message-key target message ∙ plain))) ∙ now)

      pub keeps-link : KeepsAll t k x tmp.name
      keeps-link = record {
        whole = whole-by h (makes-none on) (writes-unseen own) shows-whole;
        unmixed = writes-unmixed own;
        unwritten = writes-unwritten own;
        unmade = links-none;
        one_file = links-new;
        unnamed = names-linked;
        not_back = names-new;
        there = takes-no_message;
        unused = λ _. adds-new;
        not_early = λ _. cleans-none;
        brings = brings-its_own;
      }

  -- ---- all clauses

  module _ (own : List ℕ → Type 0) (may : Clause → Type 0) (keeps : KeepsPaths t k x own may) (one : HasOnePath (state t (suc k))) where
    module _ (rest : KeepsRest t k x may) (none : NoneOverwritten (state t k) (state t (suc k))) where
      keeps-clause : (b : Clause) → (may b → ⊥) → Breaks b h → ⊥
      keeps-clause clause.NotADirectory not broken = rest.rightly broken
      keeps-clause clause.Overwritten not broken = overwrites-nothing none broken
      keeps-clause clause.SeenBeforeWhole not broken = keeps.whole broken
      keeps-clause clause.Mixed not broken = keeps.unmixed broken
      keeps-clause clause.NotFlushed not broken = rest.flushed not broken
      keeps-clause clause.TwoNames not broken = no_two_names one broken
      keeps-clause clause.Gone not broken = keeps.there broken
      keeps-clause clause.UsedAgain not broken = keeps.unused not broken
      keeps-clause clause.MovedBack not broken = keeps.not_back broken
      keeps-clause clause.CleanedEarly not broken = keeps.not_early not broken
      keeps-clause clause.Unlisted not broken = rest.listed not broken
      keeps-clause clause.GaveUp not broken = tells-nothing t k x broken.0 broken.1 broken.2
      keeps-clause clause.AnsweredFalsely not broken = tells-nothing t k x broken.0 broken.1 broken.2
      keeps-clause clause.InTwoFolders not broken = not_in_two_folders one broken
      keeps-clause clause.NamedByAnother not broken = keeps.unnamed broken
      keeps-clause clause.Rewritten not broken = keeps.unwritten broken
      keeps-clause clause.UsedTwice not broken = keeps.one_file broken
      keeps-clause clause.MadeAgain not broken = keeps.unmade broken
      keeps-clause clause.WrittenLate not broken = rest.in_time not broken

      pub breaks-none : (b : Clause) → (may b → ⊥) → Breaks b (history t (suc k)) → ⊥
      breaks-none b not broken = keeps-clause b not (subst (Breaks b) (history-next t k x is) broken)
