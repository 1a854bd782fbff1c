-- Each step keeps the rule of what is published.
use Rattle.std.proofs.Common.{◌≡◌, ◌≢◌, ℕ, zero, suc, true, false, true≢false, List, [], ◌∷◌, ◌++◌, fold, set, refl, sym, ap, ◌∙◌, subst, ⊎_elim, Result, Ok, Err, MatchResult}
use Rattle.std.specs.declared.alloc.AllocError.{AllocError}
use mathlib.Core.Option.{some, some-ne-none, some-injective}
use mathlib.Core.List.{IsPrefix}
use lib.ListN.{get_elem?}
use Rattle.crossbeam_utils.specs.Register.{Admits, Turns, TurnsAt, Forks, Merges}
use Rattle.atomic_table.proofs.Lists.{at_set, at_snoc}
use Rattle.md_view.specs.Named.{Named, AreMessages, after_change}
use Rattle.md_store.specs.Listing.{named_after, IsLegalFrom}
use Rattle.md_store.specs.declared.rule.Knowledge.{Knowledge}
use Rattle.md_store.specs.Pages.{Page, Note}
use Rattle.md_store.specs.Publishing.{newcomer, knower, IsTrueOf, Leads, Kept, Learns, page_after, CanFollow, MayPublish, Publishes}
use Rattle.md_store.proofs.Beginnings.{begins_itself, begins_later}
use Rattle.md_store.proofs.Legal.{GrowByOne, led-push, applied-messages}

off : false ≡ true → {A : Type 0} → A
off e = absurd (true≢false (sym e))

-- the empty history is legal
pub legal-none : (o : Named) → IsLegalFrom o []
legal-none o = record { once = λ i j a b at. cc; each = λ i e at. cc }

new_fits : (o : Named) (p : Page) → IsTrueOf o p newcomer
new_fits o p = ((λ e. off e), (p.front.log, refl))

knows : (o : Named) (p : Page) → IsTrueOf o p (knower o p)
knows o p = ((λ _. (refl, refl)), begins_itself p.front.log)

-- the rule at the first seat
pub begins : (p : Page) → p.front.log ≡ [] → AreMessages p.names → Kept p (newcomer ∷ [])
begins p none messages = (
  p.names,
  record {
    legal = subst (IsLegalFrom p.names) (sym none) (legal-none p.names);
    names = ap (named_after p.names) none;
    opening_messages = messages;
    messages = messages;
  },
  one,
)
  where
    one : (j : ℕ) (v : Knowledge) → get_elem? (newcomer ∷ []) j ≡ some v → IsTrueOf p.names p v
    one zero v e = subst (IsTrueOf p.names p) (some-injective _ _ e) (new_fits p.names p)
    one (suc j) v e = absurd (some-ne-none v (sym e))

fits_set : (o : Named) (p : Page) (views : List Knowledge) (seat : ℕ) (w : Knowledge) → IsTrueOf o p w →
    ((j : ℕ) (u : Knowledge) → get_elem? views j ≡ some u → IsTrueOf o p u) → (j : ℕ) (u : Knowledge) → get_elem? (set views seat w) j ≡ some u → IsTrueOf o p u
fits_set o p views seat w mine others j u e =
    ⊎_elim (λ (t : (j ≡ seat) × (w ≡ u)). subst (IsTrueOf o p) t.1 mine) (λ (t : (j ≢ seat) × (get_elem? views j ≡ some u)). others j u t.1)
    (at_set views seat j w u e)

pub admits : Admits Kept newcomer
admits p views h = (h.0, h.1, λ j v e. ⊎_elim (h.2 j v) (λ (same : newcomer ≡ v). subst (IsTrueOf h.0 p) same (new_fits h.0 p)) (at_snoc views newcomer v j e))

grows : (o : Named) (x y : Page) → y.front.book ≡ x.front.book → IsPrefix x.front.log y.front.log → (u : Knowledge) → IsTrueOf o x u → IsTrueOf o y u
grows o x y b pre u f = ((λ e. ((f.0 e).0, (f.0 e).1 ∙ sym b)), begins_later u.held.log x.front.log y.front.log f.1 pre)

pub shows : (seat : ℕ) (v : Knowledge) (x y : Page) → y.front.book ≡ x.front.book → IsPrefix x.front.log y.front.log
    → ((o : Named) → IsTrueOf o x v → Leads o x → Leads o y)
    → TurnsAt Kept seat v x y Learns
shows seat v x y b pre right views h at =
    let o = h.0 in
    let r = right o (h.2 seat v at) h.1 in
    let now : (j : ℕ) (u : Knowledge) → get_elem? views j ≡ some u → IsTrueOf o y u = λ j u e. grows o x y b pre u (h.2 j u e) in
    (knower o y, (o, r, fits_set o y views seat (knower o y) (knows o y) now), (o, refl, now seat v at, r))

pub enters : (seat : ℕ) (v : Knowledge) → Turns Kept seat v (λ x. x) Learns
enters seat v x = shows seat v x x refl (begins_itself x.front.log) (λ o f l. l)

pub forks : (seat : ℕ) (v : Knowledge) → Forks Kept seat v v v
forks seat v x views h at = (
  h.0,
  h.1,
  λ j u e. ⊎_elim (fits_set h.0 x views seat v (h.2 seat v at) h.2 j u) (λ (same : v ≡ u). subst (IsTrueOf h.0 x) same (h.2 seat v at))
      (at_snoc (set views seat v) v u j e),
)

pub merges : (seat : ℕ) (v : Knowledge) (other : ℕ) (w : Knowledge) → Merges Kept seat v other w w newcomer
merges seat v other w x views h at apart there =
    let theirs : IsTrueOf h.0 x w =
    ⊎_elim (λ (t : (other ≡ seat) × (w ≡ w)). absurd (apart t.0)) (λ (t : (other ≢ seat) × (get_elem? views other ≡ some w)). h.2 other w t.1)
    (at_set views seat other w w there) in
    (h.0, h.1, fits_set h.0 x (set views seat w) other newcomer (new_fits h.0 x) (fits_set h.0 x views seat w theirs h.2))

-- a note that follows legally leads on
leads-on : GrowByOne → (o : Named) (x : Page) (n : Note) → Leads o x → n.front.log ≡ x.front.log ++ n.effect ∷ [] → IsLegalFrom o n.front.log
    → Leads o (page_after x n)
leads-on grow o x n leads more legal = record {
  legal = legal;
  names =
      ap (named_after o) more
      ∙ led-push grow o x.front.log n.effect (subst (IsLegalFrom o) more legal) (subst AreMessages (sym leads.names) leads.messages)
      ∙ ap (λ (names : Named). after_change names n.effect.change) leads.names;
  opening_messages = leads.opening_messages;
  messages = applied-messages x.names n.effect.change leads.messages;
}

-- what is pending may be published
pub publishes : GrowByOne → (seat : ℕ) (v : Knowledge) (x : Page) (pend : List Note) → MayPublish v x pend → (next : Page) → next ≡ fold page_after x pend →
    TurnsAt Kept seat v x next Learns
publishes grow seat v x pend may next is =
    ⊎_elim
    (λ (none : pend ≡ []). let same : next ≡ x = is ∙ ap (fold page_after x) none in
    subst (λ (y : Page). TurnsAt Kept seat v x y Learns) (sym same) (enters seat v x))
    (λ (one : (n : Note) × (pend ≡ n ∷ []) × (v.opened ≡ true) × CanFollow v.opening x n).
    let n = one.0 in
    let same : next ≡ page_after x n = is ∙ ap (fold page_after x) one.1 in
    subst (λ (y : Page). TurnsAt Kept seat v x y Learns) (sym same)
    (shows seat v x (page_after x n) one.3.0 (n.effect ∷ [], sym one.3.1)
    (λ o fits leads. leads-on grow o x n leads one.3.1 (subst (λ (p : Named). IsLegalFrom p n.front.log) (fits.0 one.2).0 one.3.2))))
    may

-- what was published, as the writer sees it
pub seen_shows : (v : Knowledge) (x y : Page) (w : Knowledge) → Learns v x y w → Publishes v y w
seen_shows v x y w s = (s.0, s.1, (λ e. (s.2.0 e).0), s.3)

-- what a publishing gives, by its result
pub published_by : (v : Knowledge) (x y : Page) (w : Knowledge) (A B C D : Type 0) (res : Result (Unit {0}) AllocError)
    → MatchResult res (λ _. A × B) (λ _. C × D) → MatchResult res (λ _. Learns v x y w) (λ _. w ≡ v)
    → MatchResult res (λ _. A × B × Publishes v y w) (λ _. C × D × (w ≡ v))
published_by v x y w A B C D (Ok u) h r = (h.0, h.1, seen_shows v x y w r)
published_by v x y w A B C D (Err e) h r = (h.0, h.1, r)
