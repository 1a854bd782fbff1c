-- What the steps at the head of a book do to its entries.
use Rattle.std.proofs.lemmas.Bool.Decides.{eqb_tells}
use Rattle.std.proofs.Common.{◌≡◌, ◌≢◌, ℕ, zero, suc, ◌<◌, ◌≤◌, ◌==◌, ⊎_elim, inl, true, false, true≢false, List, [], ◌∷◌, ◌++◌, length, set, refl, ap, sym, ◌∙◌, subst, arith, None, length-set, append-nil}
use mathlib.Core.List.{IsPrefix}
use prog.Atomic.{either}
use Rattle.logbook.specs.Pages.{Cell, Nib, View, cell, adds, gives, no_nib, step, Moves, Goes}
use Rattle.md_core.specs.Runs.{Run}
use Rattle.md_store.specs.declared.book.Entered.{Entered}
use Rattle.md_store.specs.Ongoing.{GoesOn}
use Rattle.md_store.specs.Rules.{run_in, no_entry, opening_entries, next_from, Follows, AreUsed, MadeNone, first_pen, IsChained, MayEnter, MakesPen, AddsEntry}
use Rattle.md_store.proofs.Beginnings.{all_of_it, begins_later, no_longer}
use Rattle.md_store.proofs.Ongoing.{goes_itself, order-more}

-- who has the next pen has seen all entries: what a longer list had behind these, another pen made
pub sole : (pen from : ℕ) (entries more : List Entered) → Follows from (entries ++ more) → MadeNone pen (entries ++ more) → pen ≡ next_from from entries → more ≡ []
sole pen from [] [] follows none next = refl
sole pen from [] (e ∷ more) follows none next = absurd (none.0 (follows.0 ∙ sym next))
sole pen from (e ∷ entries) more follows none next = sole pen e.next entries more follows.1 none.1 next

-- a pen whose cell the book doesn't hold made none of the entries
made-none : (cells : List Cell) (pen : ℕ) (entries : List Entered) → AreUsed cells entries → (cell cells pen).1 ≡ false → MadeNone pen entries
made-none cells pen [] used away = tt
made-none cells pen (e ∷ entries) used away =
    ((λ (same : e.by ≡ pen). true≢false (sym used.0.1 ∙ ap (λ (k : ℕ). (cell cells k).1) same ∙ away)), made-none cells pen entries used.1 away)

-- a cell that the book holds is held behind a step, too
abbrev Holds : List Cell → ℕ → Type 0
Holds cells k = (k < length cells) × ((cell cells k).1 ≡ true)

used-later : (cells later : List Cell) → ((k : ℕ) → Holds cells k → Holds later k) → (entries : List Entered) → AreUsed cells entries → AreUsed later entries
used-later cells later kept [] used = tt
used-later cells later kept (e ∷ entries) used = (kept e.by used.0, used-later cells later kept entries used.1)

used-more : (cells : List Cell) (e : Entered) (entries : List Entered) → AreUsed cells entries → Holds cells e.by → AreUsed cells (entries ++ e ∷ [])
used-more cells e [] used held = (held, tt)
used-more cells e (x ∷ entries) used held = (used.0, used-more cells e entries used.1 held)

follows-more : (from : ℕ) (e : Entered) (entries : List Entered) → Follows from entries → e.by ≡ next_from from entries → Follows from (entries ++ e ∷ [])
follows-more from e [] follows next = (next, tt)
follows-more from e (x ∷ entries) follows next = (follows.0, follows-more x.next e entries follows.1 next)

pub next-more : (from : ℕ) (e : Entered) (entries : List Entered) → next_from from (entries ++ e ∷ []) ≡ e.next
next-more from e [] = refl
next-more from e (x ∷ entries) = next-more x.next e entries

-- what a step does to the cells that the book holds
more-cells : (cells : List Cell) (c : Cell) (k : ℕ) → Holds cells k → Holds (cells ++ c ∷ []) k
more-cells [] c k held = absurd (let less = held.0 in omega arith)
more-cells (x ∷ cells) c zero held = (omega arith, held.1)
more-cells (x ∷ cells) c (suc k) held =
    let less = held.0 in
    let there = more-cells cells c k (omega arith, held.1) in
    let less' = there.0 in (omega arith, there.1)

pub set-cell : (cells : List Cell) (at n : ℕ) (k : ℕ) → Holds cells k → Holds (set cells at (n, true)) k
set-cell [] at n k held = held
set-cell (x ∷ cells) zero n zero held = (held.0, refl)
set-cell (x ∷ cells) zero n (suc k) held = held
set-cell (x ∷ cells) (suc at) n zero held = (omega arith, held.1)
set-cell (x ∷ cells) (suc at) n (suc k) held =
    let less = held.0 in
    let there = set-cell cells at n k (omega arith, held.1) in
    let less' = there.0 in (omega arith, there.1)

set-it : (cells : List Cell) (at n : ℕ) → at < length cells → Holds (set cells at (n, true)) at
set-it [] at n less = absurd (omega arith)
set-it (x ∷ cells) zero n less = (omega arith, refl)
set-it (x ∷ cells) (suc at) n less = let there = set-it cells at n (omega arith) in let less' = there.0 in (omega arith, there.1)

gives-cell : (head : ℕ) (others : List Cell) (at n : ℕ) → (cell ((head, true) ∷ others) at).1 ≡ false
    → (rest : List Cell) × (set ((head, true) ∷ others) at (n, true) ≡ (head, true) ∷ rest) × (length rest ≡ length others)
gives-cell head others zero n unheld = absurd (true≢false unheld)
gives-cell head others (suc at) n unheld = (set others at (n, true), refl, length-set others at (n, true))

abbrev none_shown : List Entered → List Entered
none_shown entries = []

abbrev any_move : List Entered → List Entered → ℕ → Type 0
any_move before after answer = Unit {0}

-- the head after an exchange of 0 for n
abbrev headed : ℕ → ℕ → ℕ
headed new found = either (found == 0) new found

head-not-0 : (found : ℕ) → headed 1 found ≡ 0 → {A : Type 0} → A
head-not-0 found is = ⊎_elim
    (λ (same : ((found == 0) ≡ true) × (found ≡ 0)). let one : headed 1 found ≡ 1 = rw same.0 refl in absurd (omega arith))
    (λ (other : ((found == 0) ≡ false) × (found ≢ 0)). let it : headed 1 found ≡ found = rw other.0 refl in absurd (other.1 (sym it ∙ is)))
    (eqb_tells found 0)

head-same : (found : ℕ) → headed 0 found ≡ found
head-same found = ⊎_elim
    (λ (same : ((found == 0) ≡ true) × (found ≡ 0)). let none : headed 0 found ≡ 0 = rw same.0 refl in none ∙ sym same.1)
    (λ (other : ((found == 0) ≡ false) × (found ≢ 0)). rw other.0 refl)
    (eqb_tells found 0)

module _ (seen : List Entered) where
  -- the view of one who has no pen
  abbrev penless : View Entered ℕ
  penless = (seen, (no_nib, None))

  abbrev makes_told : ℕ → View Entered ℕ → Type 0
  makes_told = MakesPen (step 0 0 1 no_entry) penless

  abbrev Makes : List Cell → List Entered → Type 0
  Makes cells entries = (0 < length cells) × ((cell cells 0).1 ≡ true) × Goes IsChained none_shown any_move 0 penless (headed 1) makes_told cells entries

  -- whatever the book is, a pen can be made
  pub makes : Moves IsChained none_shown any_move 0 penless (headed 1) makes_told
  makes cells entries kept begun away =
      let same = kept.cells_are in
      let here : List Cell = (kept.head, true) ∷ kept.others in
      let used : AreUsed here entries = subst (λ (cs : List Cell). AreUsed cs entries) same kept.used in
      let none_yet : kept.head ≡ 0 → length here ≡ first_pen = subst (λ (cs : List Cell). kept.head ≡ 0 → length cs ≡ first_pen) same kept.none_yet in
      let later : List Cell = (headed 1 kept.head, true) ∷ (kept.others ++ (0, false) ∷ []) in
      let all : entries ≡ entries ++ [] = sym (append-nil entries) in
      let chained : IsChained later entries = record {
        head = headed 1 kept.head;
        others = kept.others ++ (0, false) ∷ [];
        cells_are = refl;
        none_yet = λ none. head-not-0 kept.head none;
        follows = kept.follows;
        used = used-later here later (λ k held. more-cells ((headed 1 kept.head, true) ∷ kept.others) (0, false) k (set-cell here 0 (headed 1 kept.head) k held)) entries used;
        start = kept.start;
        order = kept.order;
      } in
      subst (λ (cs : List Cell). Makes cs entries) (sym same)
      (omega arith, refl, (adds, [], None, tt, subst (λ (es : List Entered). IsChained later es) all chained, inl (refl, refl), (refl, none_yet)))

-- the cells after an exchange that changes nothing
same-cells : (head : ℕ) (others : List Cell) → set ((head, true) ∷ others) 0 (headed 0 head, true) ≡ (head, true) ∷ others
same-cells head others = ap (λ (n : ℕ). (n, true) ∷ others) (head-same head)

-- who has the next pen has seen all entries, and so whoever has seen no fewer has seen just these
pub all-seen : (own seen : List Entered) (pen : ℕ) → IsPrefix own seen → Follows 0 seen → MadeNone pen seen → pen ≡ next_from 0 own → seen ≡ own
all-seen own seen pen begins follows none mine =
    let nothing : begins.0 ≡ [] = sole pen 0 own begins.0 (subst (Follows 0) (sym begins.1) follows) (subst (MadeNone pen) (sym begins.1) none) mine in
    sym begins.1 ∙ ap (λ (more : List Entered). own ++ more) nothing ∙ append-nil own

module _ (own seen : List Entered) (begins : IsPrefix own seen) (some : 0 < length own) (pen : Nib) (ask : Entered) (may : MayEnter pen)
    (mine : pen.key ≡ next_from 0 own) (by : ask.by ≡ pen.key) (goes : GoesOn (run_in own) ask.world) where
  abbrev holder : View Entered ℕ
  holder = (seen, (pen, None))

  abbrev adds_told : ℕ → View Entered ℕ → Type 0
  adds_told = AddsEntry (step 0 0 0 ask) holder

  abbrev Entering : List Cell → List Entered → Type 0
  Entering cells entries = (0 < length cells) × ((cell cells 0).1 ≡ true) × Goes IsChained none_shown any_move 0 holder (headed 0) adds_told cells entries

  -- whatever the book is, who has the next pen makes an entry behind all that was seen
  pub enters : Moves IsChained none_shown any_move 0 holder (headed 0) adds_told
  enters cells entries kept begun away =
      let same = kept.cells_are in
      let here : List Cell = (kept.head, true) ∷ kept.others in
      let unheld : (pen.key < length cells) × ((cell cells pen.key).1 ≡ false) = away may in
      let none : MadeNone pen.key entries = made-none cells pen.key entries kept.used unheld.1 in
      let from : IsPrefix own entries = begins_later own seen entries begins begun in
      let whole : entries ≡ own = all-seen own entries pen.key from kept.follows none mine in
      let seen-whole : seen ≡ entries = all_of_it seen entries begun (subst (λ (es : List Entered). length es ≤ length seen) (sym whole) (no_longer own seen begins)) in
      let next : ask.by ≡ next_from 0 entries = by ∙ mine ∙ ap (next_from 0) (sym whole) in
      let unheld-here : (pen.key < length here) × ((cell here pen.key).1 ≡ false) = subst (λ (cs : List Cell). (pen.key < length cs) × ((cell cs pen.key).1 ≡ false)) same unheld in
      let given = gives-cell kept.head kept.others pen.key pen.value unheld-here.1 in
      let headed-cells : List Cell = set here 0 (headed 0 kept.head, true) in
      let later : List Cell = set headed-cells pen.key (pen.value, true) in
      let less : pen.key < length headed-cells = unheld-here.0 in
      let are : later ≡ (kept.head, true) ∷ given.0 = ap (λ (cs : List Cell). set cs pen.key (pen.value, true)) (same-cells kept.head kept.others) ∙ given.1 in
      let none_yet : kept.head ≡ 0 → length here ≡ first_pen = subst (λ (cs : List Cell). kept.head ≡ 0 → length cs ≡ first_pen) same kept.none_yet in
      let used : AreUsed here entries = subst (λ (cs : List Cell). AreUsed cs entries) same kept.used in
      let used-now : AreUsed later entries = used-later here later (λ k held. set-cell headed-cells pen.key pen.value k (set-cell here 0 (headed 0 kept.head) k held)) entries used in
      let chained : IsChained later (entries ++ ask ∷ []) = record {
        head = kept.head;
        others = given.0;
        cells_are = are;
        none_yet = λ none. ap length are ∙ ap suc given.2 ∙ none_yet none;
        follows = follows-more 0 ask entries kept.follows next;
        used = used-more later ask entries used-now (subst (Holds later) (sym by) (set-it headed-cells pen.key pen.value less));
        start = kept.start;
        order = order-more kept.start entries ask (subst (λ (es : List Entered). 0 < length es) (sym whole) some) kept.order
            (subst (λ (es : List Entered). GoesOn (run_in es) ask.world) (sym whole) goes);
      } in
      subst (λ (cs : List Cell). Entering cs entries) (sym same) (
        omega arith,
        refl,
        (
          gives,
          ask ∷ [],
          None,
          may,
          chained,
          inl (refl, refl),
          (ap (λ (es : List Entered). es ++ ask ∷ []) (sym seen-whole), subst (Follows 0) (sym seen-whole) kept.follows, subst (MadeNone pen.key) (sym seen-whole) none),
        ),
      )

-- what a book opens with
pub opens : (run : Run) → IsChained ((0, true) ∷ []) (opening_entries run)
opens run = record {
  head = 0;
  others = [];
  cells_are = refl;
  none_yet = λ none. refl;
  follows = (refl, tt);
  used = ((omega arith, refl), tt);
  start = run;
  order = (goes_itself run run refl, tt);
}
