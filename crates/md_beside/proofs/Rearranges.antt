-- A step of a call that gives messages other paths in new and cur, or takes such away that have the flag T, and does nothing else: which
-- clauses it doesn't break.
use Rattle.std.proofs.Common.{ℕ, suc, ◌≡◌, ◌≢◌, ◌⊎◌, inl, inr, List, Some, None, true, refl, sym, subst, ◌∙◌}
use Rattle.md_dirs.specs.State.{file_at}
use Rattle.md_dirs.specs.declared.paths.Path.{Path}
use Rattle.md_dirs.specs.declared.paths.Place.TheVariants.{Tmp, New, Cur}
use Rattle.md_name.specs.Names.{unique_of}
use Rattle.md_jobs.specs.declared.call.Call.{Call}
use Rattle.md_core.specs.Accepting.{MakesMessage, name_used}
use Rattle.md_used.specs.Paths.{is_message}
use Rattle.md_core.proofs.Directories.Frames.{message-key, not_tmp}
use Rattle.md_log.specs.declared.clause.Clause.{Clause}
use Rattle.md_log.specs.declared.clause.Clause.TheVariants as clause
use Rattle.md_log.specs.declared.line.Call.TheVariants as told
use Rattle.md_log.specs.declared.line.Deed.TheVariants as deed
use Rattle.md_log.specs.declared.line.Naming.{Naming}
use Rattle.md_log.specs.declared.line.Reply.{Reply}
use Rattle.md_log.specs.declared.line.Reply.TheVariants as said
use Rattle.md_law.specs.Clauses.{MakesMessage as MakesEmpty, WritesSeen, ShowsCut, Mixed, NotFlushed, Gone, UsedAgain, MovedBack, CleanedEarly}
use Rattle.md_law.specs.Files.{Names, Adds, BeginsToBeSeen, Writes}
use Rattle.md_law.specs.History.{History, at, IsCall, Once}
use Rattle.md_law.specs.Messages.{IsSeen, IsThere, IsTrashed, IsMessageAt}
use Rattle.md_law.specs.Law as owed
use Rattle.md_beside.specs.Story.{Story, Step, step_at, state, history}
use Rattle.md_beside.specs.Beside.{IsStory, IsClean, BringsAbout}
use Rattle.md_beside.specs.Jobs.{IsMove, AreUsedOnce, MayBreak}
use Rattle.md_beside.proofs.Histories.{next_at, path-history, path-next}
use Rattle.md_beside.proofs.Fresh.{NeverUsed}
use Rattle.md_beside.proofs.KeepsPaths.{KeepsPaths, once-map, once-now, whole-by}
use Rattle.md_beside.proofs.OneFile.{IsOneFile, of-one}

-- which clauses it may break by what it does to paths: a clean may take any file of tmp away
abbrev pub MayByPaths : Story → Call → Clause → Type 0
MayByPaths t c clause.CleanedEarly = IsClean c
MayByPaths t c b = MayBreak t c b

pub no-more : (t : Story) (c : Call) → (IsClean c → ⊥) → (b : Clause) → (MayBreak t c b → ⊥) → MayByPaths t c b → ⊥
no-more t c not clause.CleanedEarly may clean = not clean
no-more t c not other may by = may by

-- the path is one of new, which the step links or renames
abbrev pub IsFromNew : Story → ℕ → Step → Path → Type 0
IsFromNew t k x from = (from.place ≡ New) × (n : Naming) × (new : Path) × (r : Reply) × IsCall (next_at t k x) (told.Between n from new r)

-- A path that comes to name a file is a message's, and so is one that named it before. Both are of one name, and of one folder unless the
-- call is a move; or the call makes the name, which was never used.
pub record Comes (t : Story) (k : ℕ) (x : Step) (c : Call) (p : Path) (n : ℕ) : Type 0 where
  pub from : Path
  pub there : file_at (state t k) from ≡ Some n
  pub was_message : is_message from ≡ true
  pub message : is_message p ≡ true
  pub unique : ((unique_of from.name ≡ unique_of p.name) × ((from.folder ≡ p.folder) ⊎ IsMove c))
      ⊎ (MakesMessage c (unique_of p.name) × NeverUsed t k (unique_of p.name))
  pub place : (p.place ≡ Cur) ⊎ IsFromNew t k x from

-- a message that leaves a path is trashed and unlinked, or its file is a message of the name elsewhere
abbrev pub Goes : Story → ℕ → Step → Path → ℕ → Type 0
Goes t k x p n = (IsCall (next_at t k x) (told.At deed.Unlink p said.Ok) × (p.place ≡ Cur) × IsTrashed p.name)
    ⊎ ((q : Path) × (file_at (state t (suc k)) q ≡ Some n) × (is_message q ≡ true) × (unique_of q.name ≡ unique_of p.name))

pub record Rearranges (t : Story) (k : ℕ) (x : Step) (c : Call) : Type 0 where
  pub comes : (p : Path) (n : ℕ) → file_at (state t (suc k)) p ≡ Some n → file_at (state t k) p ≢ Some n → Comes t k x c p n
  pub goes : (p : Path) (n : ℕ) → file_at (state t k) p ≡ Some n → file_at (state t (suc k)) p ≡ None → is_message p ≡ true
      → Goes t k x p n
  pub in_tmp : (IsClean c → ⊥) → (p : Path) → p.place ≡ Tmp → file_at (state t (suc k)) p ≡ file_at (state t k) p
  pub writes : (n : ℕ) (r : Reply) → Writes (next_at t k x) n r → ⊥
  pub makes : (p : Path) → IsCall (next_at t k x) (told.At deed.Create p said.Ok) → ⊥

-- where a message of the name was in a folder, a path of the name was used
there-used : (h : History) (folder : ℕ) (u : List ℕ) → Once (λ m. IsThere (at m) folder u) h
    → Once (λ m. (q : Path) × (n : ℕ) × (name_used q ≡ u) × (file_at (at m) q ≡ Some n)) h
there-used h folder u = once-map (λ m. IsThere (at m) folder u)
    (λ m. (q : Path) × (n : ℕ) × (name_used q ≡ u) × (file_at (at m) q ≡ Some n))
    (λ m is. (is.0, is.1, message-key is.0 is.2.1.0 ∙ is.2.1.2, is.2.0)) h

-- and where a file was a message of the name
of-used : (h : History) (u : List ℕ) (f : ℕ) → owed.WasOf h u f
    → Once (λ m. (q : Path) × (n : ℕ) × (name_used q ≡ u) × (file_at (at m) q ≡ Some n)) h
of-used h u f = once-map (λ m. (p : Path) × IsMessageAt (at m) p.folder u p f)
    (λ m. (q : Path) × (n : ℕ) × (name_used q ≡ u) × (file_at (at m) q ≡ Some n))
    (λ m is. (is.0, f, message-key is.0 is.1.1.0 ∙ is.1.1.2, is.1.0)) h

module _ (t : Story) (story : IsStory t) (k : ℕ) (x : Step) (is : step_at t k ≡ Some x) (c : Call) (rearranges : Rearranges t k x c) where
  abbrev h : History
  h = next_at t k x

  -- where a path of the history's directories leads, so it does in the story
  before : (p : Path) (n : ℕ) → file_at (at (history t k)) p ≡ Some n → file_at (state t k) p ≡ Some n
  before p n there = sym (path-history t story k p) ∙ there

  back : (p : Path) (n : ℕ) → file_at (state t k) p ≡ Some n → file_at (at (history t k)) p ≡ Some n
  back p n there = path-history t story k p ∙ there

  after : (p : Path) → file_at (at h) p ≡ file_at (state t (suc k)) p
  after p = path-next t story k x is p

  named : (p : Path) (n : ℕ) → Names h p n → Comes t k x c p n
  named p n names = rearranges.comes p n (sym (after p) ∙ names.0) (λ was. names.1 (back p n was))

  -- a file that a path comes to name was seen
  was-seen : (p : Path) (n : ℕ) → Names h p n → IsSeen (at (history t k)) n
  was-seen p n names = let from = named p n names in (from.from, back from.from n from.there, from.was_message)

  -- and was a message of the name that it came from
  was-of : (p : Path) (n : ℕ) (names : Names h p n) (u : List ℕ) (folder : ℕ) → unique_of (named p n names).from.name ≡ u →
      (named p n names).from.folder ≡ folder → IsMessageAt (at (history t k)) folder u (named p n names).from n
  was-of p n names u folder same inside =
      let from = named p n names in (back from.from n from.there, (from.was_message, inside, same))

  adds : (p : Path) (n : ℕ) → Adds h p n → Names h p n
  adds p n added = let none = added.0 in (added.1, λ was. (cc))

  seen-before : (n : ℕ) → BeginsToBeSeen h n → ⊥
  seen-before n (seen, unseen) = unseen (was-seen seen.0 n (seen.1, λ was. unseen (seen.0, was, seen.2)))

  makes-none : MakesEmpty h → ⊥
  makes-none (p, call, message) = rearranges.makes p call

  writes-none : WritesSeen h → ⊥
  writes-none (n, writes, seen) = rearranges.writes n writes.0 writes.2

  shows-none : ShowsCut h → ⊥
  shows-none (n, begins, cut) = seen-before n begins

  pub flushes-all : NotFlushed h → ⊥
  flushes-all (n, begins, unflushed) = seen-before n begins

  writes-own : Mixed h → ⊥
  writes-own (actor, n, by, writes, made) = rearranges.writes n writes.0 writes.2

  rewrites-none : owed.Rewritten h → ⊥
  rewrites-none (n, writes, seen) = rearranges.writes n writes.0 writes.2

  pub writes-in_time : owed.WrittenLate h → ⊥
  writes-in_time (n, file, writes, there, late) = rearranges.writes n writes.0 writes.2

  made-none : owed.MadeAgain h → ⊥
  made-none (p, n, other, names, in_tmp, differ, once) = not_tmp p p in_tmp (named p n names).message refl

  used-none : owed.UsedTwice h → ⊥
  used-none (p, n, other, names, message, was, never) = elim (named p n names).unique [
    | inl same ↦ never (once-now (λ m. (q : Path) × IsMessageAt (at m) q.folder (unique_of p.name) q n) (history t k)
        ((named p n names).from, was-of p n names (unique_of p.name) (named p n names).from.folder same.0 refl))
    | inr fresh ↦ fresh.1 (of-used (history t k) (unique_of p.name) other was)
  ]

  named-none : owed.NamedByAnother h → ⊥
  named-none (actor, p, n, by, names, unseen, made) = unseen (was-seen p n names)

  gone-none : Gone h → ⊥
  gone-none (p, n, takes, message, none, not_trashed, nowhere) =
      elim (rearranges.goes p n (before p n takes.0) (sym (after p) ∙ takes.1) message) [
        | inl trashed ↦ not_trashed trashed
        | inr (q, there, message', same) ↦ nowhere q (after q ∙ there) message' same
      ]

  -- a message that was taken from another folder had its file there once, where no name was used again
  again-none : ((IsMove c × (AreUsedOnce t → ⊥)) → ⊥) → (AreUsedOnce t → IsOneFile (history t k)) → UsedAgain h → ⊥
  again-none not files (p, n, added, message, none, once, never) = elim from.unique [
    | inl (same, inl inside) ↦ none (from.from, n, was-of p n names (unique_of p.name) p.folder same inside)
    | inl (same, inr move) ↦ not (
      move,
      λ ones. never (of-one (history t k) (files ones) p.folder (unique_of p.name) n
          (once-now (λ m. (q : Path) × IsMessageAt (at m) q.folder (unique_of p.name) q n) (history t k)
          (from.from, was-of p n names (unique_of p.name) from.from.folder same refl)) once),
    )
    | inr fresh ↦ fresh.1 (there-used (history t k) p.folder (unique_of p.name) once)
  ]
    where
      names : Names h p n
      names = adds p n added

      from : Comes t k x c p n
      from = named p n names

  moved-none : MovedBack h → ⊥
  moved-none (p, n, names, message, in_new, was, otherwise) = elim (named p n names).place [
    | inl in_cur ↦ (let clash = sym in_cur ∙ in_new in cc)
    | inr (from_new, naming, new, r, call) ↦
        otherwise naming (named p n names).from new r call (named p n names).was_message from_new
  ]

  cleans-none : (IsClean c → ⊥) → CleanedEarly h → ⊥
  cleans-none not early = early.6.1 (after early.1 ∙ rearranges.in_tmp not early.1 early.5 ∙ before early.1 early.2 early.6.0)

  -- it brings no name about but one that the call makes
  brings-none : (v : List ℕ) → (MakesMessage c v → ⊥) → BringsAbout t k v → ⊥
  brings-none v not (p, n, used, now, none) =
      let from = rearranges.comes p n now (none p used) in
      let is : unique_of p.name ≡ v = sym (message-key p from.message) ∙ used in
      elim from.unique [
        | inl same ↦ none from.from (message-key from.from from.was_message ∙ same.0 ∙ is) from.there
        | inr fresh ↦ not (subst (MakesMessage c) is fresh.0)
      ]

  pub keeps-paths : (AreUsedOnce t → IsOneFile (history t k)) → KeepsPaths t k x (MakesMessage c) (MayByPaths t c)
  keeps-paths files = record {
    whole = whole-by h makes-none writes-none shows-none;
    unmixed = writes-own;
    unwritten = rewrites-none;
    unmade = made-none;
    one_file = used-none;
    unnamed = named-none;
    not_back = moved-none;
    there = gone-none;
    unused = λ not. again-none not files;
    not_early = cleans-none;
    brings = brings-none;
  }
