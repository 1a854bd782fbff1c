-- Histories that are alike: the clock at their beginnings may be another, and so may the ticks of their calls. A step breaks the clauses that
-- calls rely on in the one as in the other.
use Rattle.std.proofs.Common.{ℕ, zero, suc, ◌≡◌, ◌≢◌, ◌≤◌, ◌<◌, ◌-◌, inl, inr, List, [], ◌∷◌, Some, None, true, refl, sym, subst, ◌∙◌, length, arith}
use Rattle.std.specs.Prelude.{Contains}
use Rattle.md_dirs.specs.State.{State, file_at, file_by}
use Rattle.md_dirs.specs.declared.paths.Path.{Path}
use Rattle.md_dirs.specs.declared.paths.Place.TheVariants.{Cur}
use Rattle.md_name.specs.Names.{unique_of}
use Rattle.md_jobs.specs.declared.call.Call.{Call as Job}
use Rattle.md_jobs.specs.declared.call.Call.TheVariants as job
use Rattle.md_log.specs.declared.clause.Clause.{Clause}
use Rattle.md_log.specs.declared.line.Call.{Call}
use Rattle.md_law.specs.History.{History, opening, next, moment, at, now, before, IsBy, IsCall, Once}
use Rattle.md_law.specs.Messages.{is_message, IsMessageAt, IsSeen}
use Rattle.md_law.specs.Files.{Names, Makes, MayWrite, IsMaker}
use Rattle.md_law.specs.Clauses.{TwoNames, Mixed, CleanedEarly, MovedBack}
use Rattle.md_law.specs.Law.{InTwoFolders, NamedByAnother, UsedTwice, MadeAgain, WrittenLate, WasOf, Breaks}
use Rattle.md_beside.specs.Relied.{relied}

-- the same directories at each moment, and the same actor, call and clock at each step
unfoldable pub Like : History → History → Type 0
Like (opening m) (opening m') = m.state ≡ m'.state
Like (opening m) (next past x) = ⊥
Like (next past x) (opening m) = ⊥
Like (next past x) (next past' x') = Like past past' × (at (next past x) ≡ at (next past' x')) × (now (next past x) ≡ now (next past' x'))
    × (x.actor ≡ x'.actor) × (x.call ≡ x'.call)

flip : (h h' : History) → Like h h' → Like h' h
unfolding Like
flip (opening m) (opening m') like = sym like
flip (opening m) (next past x) like = like
flip (next past x) (opening m) like = like
flip (next past x) (next past' x') like = (flip past past' like.0, sym like.1, sym like.2, sym like.3, sym like.4)

pub same-at : (h h' : History) → Like h h' → at h ≡ at h'
unfolding Like moment
same-at (opening m) (opening m') like = like
same-at (opening m) (next past x) like = absurd like
same-at (next past x) (opening m) like = absurd like
same-at (next past x) (next past' x') like = like.1

like-before : (h h' : History) → Like h h' → Like (before h) (before h')
unfolding Like
like-before (opening m) (opening m') like = like
like-before (opening m) (next past x) like = absurd like
like-before (next past x) (opening m) like = absurd like
like-before (next past x) (next past' x') like = like.0

by : (h h' : History) → Like h h' → (actor : List ℕ) → IsBy h actor → IsBy h' actor
unfolding Like
by (opening m) (opening m') like actor (x, is, own) = cc
by (opening m) (next past x) like actor own = absurd like
by (next past x) (opening m) like actor own = absurd like
by (next past x) (next past' x') like actor (y, is, own) = (x', refl, sym like.3 ∙ cc)

calls : (h h' : History) → Like h h' → (c : Call) → IsCall h c → IsCall h' c
unfolding Like
calls (opening m) (opening m') like c (x, is, own) = cc
calls (opening m) (next past x) like c own = absurd like
calls (next past x) (opening m) like c own = absurd like
calls (next past x) (next past' x') like c (y, is, own) = (x', refl, sym like.4 ∙ cc)

once : (P Q : History → Type 0) → ((m m' : History) → Like m m' → P m → Q m') → (h h' : History) → Like h h' → Once P h → Once Q h'
unfolding Like Once
once P Q each (opening m) (opening m') like was = each (opening m) (opening m') like was
once P Q each (opening m) (next past x) like was = absurd like
once P Q each (next past x) (opening m) like was = absurd like
once P Q each (next past x) (next past' x') like was = elim was [
  | inl here ↦ inl (each (next past x) (next past' x') like here)
  | inr earlier ↦ inr (once P Q each past past' like.0 earlier)
]

-- what is said of the directories alone is so in both, and so is what is said of those before and after the last step
of-state : (h h' : History) → Like h h' → (P : State → Type 0) → P (at h) → P (at h')
of-state h h' like P = subst P (same-at h h' like)

of-states : (h h' : History) → Like h h' → (P : State → State → Type 0) → P (at (before h)) (at h) → P (at (before h')) (at h')
of-states h h' like P holds = subst (λ s. P s (at h')) (same-at (before h) (before h') (like-before h h' like))
    (subst (P (at (before h))) (same-at h h' like) holds)

makes : (actor : List ℕ) (n : ℕ) (h h' : History) → Like h h' → Makes h actor n → Makes h' actor n
makes actor n h h' like (p, own, call, is) =
    (p, by h h' like actor own, calls h h' like _ call, subst (λ s. n ≡ length s.files) (same-at (before h) (before h') (like-before h h' like)) is)

maker : (actor : List ℕ) (n : ℕ) (h h' : History) → Like h h' → IsMaker h actor n → IsMaker h' actor n
maker actor n = once (λ m. Makes m actor n) (λ m. Makes m actor n) (makes actor n)

writes : (n : ℕ) (h h' : History) → Like h h' → MayWrite h n → MayWrite h' n
writes n h h' like (r, not, (p, call, there)) =
    (r, not, (p, calls h h' like _ call, subst (λ s. file_at s p ≡ Some n) (same-at (before h) (before h') (like-before h h' like)) there))

names : (p : Path) (n : ℕ) (h h' : History) → Like h h' → Names h p n → Names h' p n
names p n h h' like = of-states h h' like (λ b a. (file_at a p ≡ Some n) × (file_at b p ≢ Some n))

-- ---- the clauses that calls rely on

two-names : (h h' : History) → Like h h' → now h ≡ now h' → TwoNames h → TwoNames h'
two-names h h' like same = of-states h h' like (λ b a. (p q : Path) × (m n : ℕ) × ((file_at b p ≡ None) × (file_at a p ≡ Some m))
    × (is_message p ≡ true) × (p ≢ q) × IsMessageAt a p.folder (unique_of p.name) q n)

in-two-folders : (h h' : History) → Like h h' → now h ≡ now h' → InTwoFolders h → InTwoFolders h'
in-two-folders h h' like same = of-states h h' like (λ b a. (p q : Path) × (m n : ℕ) × ((file_at b p ≡ None) × (file_at a p ≡ Some m))
    × (is_message p ≡ true) × (p.folder ≢ q.folder) × IsMessageAt a q.folder (unique_of p.name) q n)

mixed : (h h' : History) → Like h h' → now h ≡ now h' → Mixed h → Mixed h'
mixed h h' like same (actor, n, own, written, not) = (
  actor,
  n,
  by h h' like actor own,
  writes n h h' like written,
  λ made. not (maker actor n (before h') (before h) (flip (before h) (before h') (like-before h h' like)) made),
)

named-by-another : (h h' : History) → Like h h' → now h ≡ now h' → NamedByAnother h → NamedByAnother h'
named-by-another h h' like same (actor, p, n, own, named, unseen, not) = (
  actor,
  p,
  n,
  by h h' like actor own,
  names p n h h' like named,
  of-state (before h) (before h') (like-before h h' like) (λ s. IsSeen s n → ⊥) unseen,
  λ made. not (maker actor n h' h (flip h h' like) made),
)

cleaned-early : (h h' : History) → Like h h' → now h ≡ now h' → CleanedEarly h → CleanedEarly h'
cleaned-early h h' like same (actor, p, n, file, own, tmp, leaves, unseen, not, there, young) = (
  actor,
  p,
  n,
  file,
  by h h' like actor own,
  tmp,
  of-states h h' like (λ b a. (file_at b p ≡ Some n) × (file_at a p ≢ Some n)) leaves,
  of-state h h' like (λ s. IsSeen s n → ⊥) unseen,
  (λ made. not (maker actor n (before h') (before h) (flip (before h) (before h') (like-before h h' like)) made)),
  of-state (before h) (before h') (like-before h h' like) (λ s. file_by s.files n ≡ Some file) there,
  subst (λ (c : ℕ). c - file.stamp < 129600) same young,
)

moved-back : (h h' : History) → Like h h' → now h ≡ now h' → MovedBack h → MovedBack h'
moved-back h h' like same (p, n, named, message, new, was, not) = (
  p,
  n,
  names p n h h' like named,
  message,
  new,
  once _ _ (λ m m' alike. of-state m m' alike (λ s. (q : Path) × (file_at s q ≡ Some n) × (is_message q ≡ true) × (q.place ≡ Cur)))
      (before h) (before h') (like-before h h' like) was,
  λ naming old to r call. not naming old to r (calls h' h (flip h h' like) _ call),
)

was-of : (u : List ℕ) (n : ℕ) (h h' : History) → Like h h' → WasOf h u n → WasOf h' u n
was-of u n = once _ _ (λ m m' alike. of-state m m' alike (λ s. (p : Path) × IsMessageAt s p.folder u p n))

used-twice : (h h' : History) → Like h h' → now h ≡ now h' → UsedTwice h → UsedTwice h'
used-twice h h' like same (p, n, other, named, message, was, never) = (
  p,
  n,
  other,
  names p n h h' like named,
  message,
  was-of (unique_of p.name) other (before h) (before h') (like-before h h' like) was,
  λ was'. never (was-of (unique_of p.name) n (before h') (before h) (flip (before h) (before h') (like-before h h' like)) was'),
)

made-again : (h h' : History) → Like h h' → now h ≡ now h' → MadeAgain h → MadeAgain h'
made-again h h' like same (p, n, other, named, tmp, differ, was) = (
  p,
  n,
  other,
  names p n h h' like named,
  tmp,
  differ,
  once _ _ (λ m m' alike. of-state m m' alike (λ s. file_at s p ≡ Some other)) (before h) (before h') (like-before h h' like) was,
)

written-late : (h h' : History) → Like h h' → now h ≡ now h' → WrittenLate h → WrittenLate h'
written-late h h' like same (n, file, written, there, late) = (
  n,
  file,
  writes n h h' like written,
  of-state (before h) (before h') (like-before h h' like) (λ s. file_by s.files n ≡ Some file) there,
  subst (λ (c : ℕ). 129600 ≤ c - file.stamp) same late,
)

-- ---- all of them

-- a clause is broken in the one where it is in the other
abbrev Alike : Clause → Type 0
Alike b = (h h' : History) → Like h h' → now h ≡ now h' → Breaks b h → Breaks b h'

AreAlike : List Clause → Type 0
AreAlike [] = Unit {0}
AreAlike (b ∷ clauses) = Alike b × AreAlike clauses

are-alike : (c : Job) → AreAlike (relied c)
unfolding AreAlike
are-alike (job.Deliver folder u body chunk) = (two-names, (in-two-folders, (mixed, (named-by-another, (cleaned-early, tt)))))
are-alike (job.Seen folder u flags tries) = (two-names, (in-two-folders, tt))
are-alike (job.Flag folder u add remove tries) = (two-names, (in-two-folders, tt))
are-alike (job.Move folder u to tries) = (two-names, (in-two-folders, (moved-back, (used-twice, tt))))
are-alike (job.Expunge folder u tries) = (two-names, (in-two-folders, tt))
are-alike (job.Copy folder u to fresh tries) = (two-names, (in-two-folders, (moved-back, tt)))
are-alike (job.Clean folder) = (two-names, (in-two-folders, (made-again, (written-late, tt))))

one-of : (clauses : List Clause) → AreAlike clauses → (b : Clause) → Contains clauses b → Alike b
unfolding AreAlike
one-of [] alike b (k, low, is) = absurd (omega (arith, low))
one-of (first ∷ clauses) alike b (zero, low, is) = subst Alike is alike.0
one-of (first ∷ clauses) alike b (suc k, low, is) = one-of clauses alike.1 b (k, omega (arith, low), is)

-- a clause that a call relies on
pub alike-for : (c : Job) (b : Clause) → Contains (relied c) b → Alike b
alike-for c = one-of (relied c) (are-alike c)
