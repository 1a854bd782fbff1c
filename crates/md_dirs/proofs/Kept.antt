-- What the calls leave of rows in order, and of what they mean.
use Rattle.std.proofs.Common.{◌+◌, ℕ, ◌≡◌, List, Some, None, cond, not, IsTrue, Ok, Err, insert, remove, refl, sym, ap, subst, ◌∙◌}
use Rattle.std.specs.Ordering.{eq_by_cmp}
use Rattle.std.specs.FinMap as finmap
use Rattle.std.specs.FinMap.{find, is_sorted, same_map, same_entries_map, get-from_sorted, entries-from_sorted, entries-insert, get-remove, from_sorted}
use Rattle.std.specs.FinMap.Entries.{put, is_sorted-put, is_sorted-where_key}
use Rattle.md_dirs.specs.Path.{path_cmp}
use Rattle.md_dirs.specs.Plain.{IsAt, IsGap}
use Rattle.md_dirs.specs.State.{State}
use Rattle.md_dirs.specs.Calls.{Ask, Device, Obeys}
use Rattle.md_dirs.specs.declared.paths.Path.{Path}
use Rattle.md_dirs.specs.declared.calls.DirError.TheVariants.{NotFound}
use Rattle.md_dirs.proofs.PathOrder.{path_total, path_exact}
use Rattle.lists.proofs.Maps.{find-other}
use Rattle.lists.proofs.Booleans.{holds, is_true}

abbrev pub Sorted : List (Path × ℕ) → Type 0
Sorted es = IsTrue (is_sorted path_cmp es)

pub sorted-insert : (rows : List (Path × ℕ)) (p : Path) (i n : ℕ) → Sorted rows → IsGap path_cmp rows p i → Sorted (insert rows i (p, n))
sorted-insert rows p i n sorted gap = subst Sorted (gap.placed n) (is_true _ (is_sorted-put path_cmp path_total p n rows (holds _ sorted)))

pub names-insert : (rows : List (Path × ℕ)) (p : Path) (i n : ℕ) → Sorted rows → IsGap path_cmp rows p i →
    from_sorted {R = path_cmp} (insert rows i (p, n)) ≡ finmap.insert (from_sorted rows) p n
names-insert rows p i n sorted gap =
    same_entries_map _ _ (entries-from_sorted path_cmp _ (holds _ (sorted-insert rows p i n sorted gap)) ∙ sym (gap.placed n)
    ∙ ap (put path_cmp p n) (sym (entries-from_sorted path_cmp rows (holds _ sorted))) ∙ sym (entries-insert path_total (from_sorted rows) p n))

pub sorted-remove : (rows : List (Path × ℕ)) (p : Path) (i : ℕ) → Sorted rows → IsAt path_cmp rows p i → Sorted (remove rows i)
sorted-remove rows p i sorted at =
    subst Sorted at.taken_out (is_true _ (is_sorted-where_key path_cmp (λ q. not (eq_by_cmp path_cmp p q)) rows (holds _ sorted)))

pub at-names : (rows : List (Path × ℕ)) (p : Path) → Sorted rows → finmap.get (from_sorted {R = path_cmp} rows) p ≡ find path_cmp p rows
at-names rows p sorted = get-from_sorted path_cmp rows p (holds _ sorted)

pub names-remove : (rows : List (Path × ℕ)) (p : Path) (i : ℕ) → Sorted rows → IsAt path_cmp rows p i →
    from_sorted {R = path_cmp} (remove rows i) ≡ finmap.remove (from_sorted rows) p
names-remove rows p i sorted at =
    same_map path_total path_exact _ _ (λ q.
    get-from_sorted path_cmp (remove rows i) q (holds _ (sorted-remove rows p i sorted at)) ∙ ap (find path_cmp q) (sym at.taken_out)
    ∙ find-other path_total path_exact p q rows ∙ ap (λ o. cond (eq_by_cmp path_cmp q p) None o) (sym (at-names rows q sorted)) ∙
    sym (get-remove path_total (from_sorted rows) p q))

-- directories that never failed
abbrev pub sure : State → ℕ → Device
sure s calls = record { state = s; failures = 0; calls = calls }

-- a call that is refused with NotFound
pub refused : {T : Type 0} (ask : Ask) (old : State) (k k' : ℕ) → ask.refusal old ≡ Some NotFound → k' ≡ k + 1 →
    Obeys {T = T} ask (sure old k) (Err NotFound) (sure old k')
refused ask old k k' is counted = record {
  accepted = tt;
  done = tt;
  exists = λ h. cc;
  not_found = λ h. is;
  no_memory = λ h. cc;
  unchanged = refl;
  failed = λ h. cc;
  not_failed = λ _. refl;
  counted = counted;
}

-- a call that is made
pub made : {T : Type 0} (ask : Ask) (old : State) (x : T) (new : State) (k k' : ℕ) → ask.refusal old ≡ None → new ≡ ask.after old → k' ≡ k + 1 →
    Obeys ask (sure old k) (Ok x) (sure new k')
made ask old x new k k' is after counted = record {
  accepted = is;
  done = after;
  exists = λ h. cc;
  not_found = λ h. cc;
  no_memory = λ h. is;
  unchanged = tt;
  failed = λ h. cc;
  not_failed = λ _. refl;
  counted = counted;
}

pub sorted-put : (rows : List (Path × ℕ)) (p : Path) (n : ℕ) → Sorted rows → Sorted (put path_cmp p n rows)
sorted-put rows p n sorted = is_true _ (is_sorted-put path_cmp path_total p n rows (holds _ sorted))

pub names-put : (rows : List (Path × ℕ)) (p : Path) (n : ℕ) → Sorted rows →
    from_sorted {R = path_cmp} (put path_cmp p n rows) ≡ finmap.insert (from_sorted rows) p n
names-put rows p n sorted =
    same_entries_map _ _ (entries-from_sorted path_cmp _ (holds _ (sorted-put rows p n sorted))
    ∙ ap (put path_cmp p n) (sym (entries-from_sorted path_cmp rows (holds _ sorted))) ∙ sym (entries-insert path_total (from_sorted rows) p n))
