-- Keys of tables, and the paths that they stand for.
use Rattle.std.proofs.Common.{ℕ, ◌≡◌, ◌&&◌, cond, slice_get, List, [], ◌∷◌, Option, Some, None, Bool, true, false, is_some, Result, Ok, Err, OnOk, refl, sym, ap, ◌∙◌}
use Rattle.std.specs.Bool.{Decides}
use Rattle.std.specs.Map.{lookup_key}
use Rattle.std.specs.Ordering.{eq_by_cmp, is_eq}
use Rattle.std.specs.Cmp.{Equal-is, IsEquivalence, decided}
use Rattle.std.proofs.lemmas.Bool.{false_from_ne_true}
use Rattle.std.proofs.lemmas.Bool.Decides.{Decides-eqb, Decides-and, Decides-like}
use Rattle.std.proofs.lemmas.Cmp.{tied_itself}
use Rattle.std.proofs.lemmas.Slice.Eq.{bytes_eq-Decides}
use Rattle.md_dirs.specs.Index.{directory_number}
use Rattle.md_dirs.specs.Path.{path_cmp}
use Rattle.md_dirs.specs.declared.paths.Path.{Path}
use Rattle.md_dirs.proofs.PathOrder.{path_total, path_exact}
use Rattle.md_dirs.proofs.Directories.{path-number}
use Rattle.md_dirs.specs.Index.{path_at}
use Rattle.md_name.specs.Names.{unique_of}
use Rattle.md_law.specs.Messages.{is_message, is_tmp}
use Rattle.md_monitor.proofs.Tests.{tmp-is}
use Rattle.md_kept.specs.Changes.{message_of}
use Rattle.indexmap.specs.IndexMap.{IndexMap, get, get_key_by, with_value_at, IsUnique}
use Rattle.indexmap.proofs.CallerLemmas.{updates-with_value_at}
use Rattle.md_kept.specs.Tables.{is_key, held}

-- two tests that hold together are one
pub same-tests : {P : Type 0} (a b : Bool) → Decides a P → Decides b P → a ≡ b
same-tests true b one two = sym (two.1 (one.0 refl))
same-tests false b one two = sym (false_from_ne_true b (λ t. let is = one.1 (two.0 t) in cc))

pub key-is : (a b : ℕ × List ℕ) → Decides (is_key a b) ((a.0 ≡ b.0) × (a.1 ≡ b.1))
key-is a b = Decides-and _ _ (Decides-eqb a.0 b.0) (bytes_eq-Decides a.1 b.1)

pub path-is : (q p : Path) → Decides (eq_by_cmp path_cmp q p) (q ≡ p)
path-is q p = (
  λ t. path_exact q p ((Equal-is _).0 t),
  λ is. ap (λ (w : Path). eq_by_cmp path_cmp q w) (sym is) ∙ ap is_eq (tied_itself path_total q),
)

-- the number of a directory and a name stand for a path
pub spot-is : (p q : Path) → is_key (directory_number p.folder p.place, p.name) (directory_number q.folder q.place, q.name)
    ≡ eq_by_cmp path_cmp q p
spot-is p q = same-tests _ _
    (Decides-like _
    (λ both. sym (path-number q) ∙ (λ i. path_at ((sym both.0) i) ((sym both.1) i)) ∙ path-number p)
    (λ is. (ap (λ (w : Path). directory_number w.folder w.place) (sym is), ap (λ (w : Path). w.name) (sym is)))
    (key-is (directory_number p.folder p.place, p.name) (directory_number q.folder q.place, q.name)))
    (path-is q p)

-- a folder and a name stand for a path of tmp
pub draft-is : (q p : Path) → is_tmp p.place ≡ true
    → (is_tmp q.place && is_key (q.folder, q.name) (p.folder, p.name)) ≡ eq_by_cmp path_cmp q p
draft-is q p tmp = same-tests _ _
    (Decides-like _
    (λ both. let place : q.place ≡ p.place = both.0 ∙ sym ((tmp-is p.place).0 tmp) in let folder = both.1.0 in let name = both.1.1 in
    (λ i. record { folder = folder i; place = place i; name = name i }))
    (λ is. (ap (λ (w : Path). w.place) is ∙ (tmp-is p.place).0 tmp, (ap (λ (w : Path). w.folder) is, ap (λ (w : Path). w.name) is)))
    (Decides-and _ _ (tmp-is q.place) (key-is (q.folder, q.name) (p.folder, p.name))))
    (path-is q p)

-- the key that a look finds is the one that was looked for
pub found-key : {V : Type 0} (k : ℕ × List ℕ) (ks : List ((ℕ × List ℕ) × V)) (found : ℕ × List ℕ) → Some found ≡ lookup_key (is_key k) ks
    → found ≡ k
found-key k [] found is = absurd (cc is)
found-key k (e ∷ es) found is = by (found-key k es found) (is_key k e.0) refl is
  where
    by : (Some found ≡ lookup_key (is_key k) es → found ≡ k) → (b : Bool) → is_key k e.0 ≡ b
        → Some found ≡ cond b (Some e.0) (lookup_key (is_key k) es) → found ≡ k
    by rest true same some =
        let here : found ≡ e.0 = cc some in
        let parts = (key-is k e.0).0 same in
        here ∙ (λ i. ((sym parts.0) i, (sym parts.1) i))
    by rest false other some = rest some

pub key-same : (a b : ℕ × List ℕ) → Decides (is_key a b) (a ≡ b)
key-same a b = Decides-like _ (λ both i. (both.0 i, both.1 i)) (λ is. (ap (λ k. k.0) is, ap (λ k. k.1) is)) (key-is a b)

key-equivalence : IsEquivalence is_key
key-equivalence = decided is_key key-same

pub held-if : {V : Type 0} (b : Bool) (w : Option V) (o : Option (Option V)) → held (cond b (Some w) o) ≡ cond b w (held o)
held-if true w o = refl
held-if false w o = refl

-- a key at an index has what is written there, and the others have what they had
pub written : {V S : Type 0} (m : IndexMap (ℕ × List ℕ) (Option V) S) (i : ℕ) (k : ℕ × List ℕ) (was w : Option V) → IsUnique is_key m
    → slice_get m.entries i ≡ Some (k, was) → (q : ℕ × List ℕ)
    → held (get is_key (with_value_at m i w) q) ≡ cond (is_key k q) w (held (get is_key m q))
written m i k was w unique there q =
    ap held ((updates-with_value_at m i w key-equivalence unique k was there).0 q) ∙ held-if (is_key k q) w (get is_key m q)

-- and so a key that was found there
pub written-at : {V S : Type 0} (m : IndexMap (ℕ × List ℕ) (Option V) S) (i : ℕ) (k found : ℕ × List ℕ) (was w : Option V) → IsUnique is_key m
    → Some found ≡ get_key_by (is_key k) m → slice_get m.entries i ≡ Some (found, was) → (q : ℕ × List ℕ)
    → held (get is_key (with_value_at m i w) q) ≡ cond (is_key k q) w (held (get is_key m q))
written-at m i k found was w unique is there q =
    written m i found was w unique there q ∙ ap (λ e. cond (is_key e q) w (held (get is_key m q))) (found-key k m.entries found is)

-- ---- what is known of an answer

pub then : {A E P Q : Type 0} (r : Result A E) → (P → Q) → OnOk r P → OnOk r Q
then (Ok x) f p = f p
then (Err e) f p = tt

pub none-of : {A : Type 0} (o : Option A) → is_some o ≡ false → o ≡ None
none-of None is = refl
none-of (Some x) is = absurd (cc is)

-- a path with a unique name is a message's
pub message-is : (p : Path) (u : List ℕ) → Some u ≡ message_of p → (is_message p ≡ true) × (u ≡ unique_of p.name)
message-is p u = by (is_message p)
  where
    by : (b : Bool) → Some u ≡ cond b (Some (unique_of p.name)) None → (b ≡ true) × (u ≡ unique_of p.name)
    by true is = (refl, cc is)
    by false is = absurd (cc is)

pub none-but : {A : Type 0} (o : Option A) → ((x : A) → o ≡ Some x → ⊥) → o ≡ None
none-but None other = refl
none-but (Some x) other = absurd (other x refl)
