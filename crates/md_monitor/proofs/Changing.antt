-- A call changes paths as the monitor has it: a path names another file than before just where it is the one that comes to name it, or
-- the one that is taken away.
use Rattle.std.proofs.Common.{ℕ, ◌≡◌, ◌≢◌, ◌↔◌, ◌==◌, cond, List, [], Option, Some, None, Bool, true, false, refl, sym, ap, subst, ◌∙◌, length}
use Rattle.std.proofs.lemmas.Option.{some_pair_parts}
use Rattle.std.proofs.lemmas.Bool.Decides.{Decides-eqb}
use Rattle.std.specs.FinMap as finmap
use Rattle.md_dirs.specs.State.{State, file_at}
use Rattle.md_dirs.specs.Calls.{without_path, with_path, after_rename, after_append, is_one_file, with_files_still_named}
use Rattle.md_dirs.specs.declared.paths.Path.{Path}
use Rattle.md_dirs.proofs.PathOrder.{path_total, path_exact}
use Rattle.lists.proofs.Maps as maps
use Rattle.md_log.specs.declared.line.Call.{Call}
use Rattle.md_log.specs.declared.line.Call.TheVariants as call
use Rattle.md_log.specs.declared.line.Deed.TheVariants as deed
use Rattle.md_log.specs.declared.line.Naming.TheVariants as naming
use Rattle.md_log.specs.declared.line.Reply.TheVariants as reply
use Rattle.md_law.specs.History.{after_call}
use Rattle.md_monitor.specs.Changes.{Change, no_change, change_of, naming_change, with_file, is_file}
use Rattle.md_monitor.proofs.Tests.{file-is}

-- what paths name before and after
abbrev Names : Type 0
Names = Path → Option ℕ

-- A change leads from what paths name before to what they name after.
pub record Leads (c : Change) (before after : Path → Option ℕ) : Type 0 where
  pub named : (p : Path) (n : ℕ) → (c.named ≡ Some (p, n)) ↔ ((after p ≡ Some n) × (before p ≢ Some n))
  pub taken : (p : Path) (n : ℕ) → (c.taken ≡ Some (p, n)) ↔ ((before p ≡ Some n) × (after p ≡ None))

-- nothing changes
stays : (before after : Names) → ((p : Path) → after p ≡ before p) → Leads no_change before after
stays before after same = record {
  named = λ p n. (λ is. absurd (cc is), λ h. absurd (h.1 (sym (same p) ∙ h.0)));
  taken = λ p n. (λ is. absurd (cc is), λ h. absurd (let some = h.0 in let none = sym (same p) ∙ h.1 in cc));
}

-- a path with its file, where it has one
pub with_file-is : (q : Path) (file : Option ℕ) (p : Path) (n : ℕ) → (with_file q file ≡ Some (p, n)) ↔ ((q ≡ p) × (file ≡ Some n))
with_file-is q None p n = (λ is. absurd (cc is), λ h. let none = h.1 in cc)
with_file-is q (Some m) p n = (
  λ is. let parts = some_pair_parts q p m n is in (parts.0, ap Some parts.1),
  λ h. let path = h.0 in let file = h.1 in cc,
)

-- a path is taken away
drops : (s : State) (q : Path) → Leads (record { named = None; taken = with_file q (file_at s q) }) (file_at s) (file_at (without_path q s))
drops s q = record {
  named = λ p n. (
    λ is. absurd (cc is),
    λ h. maps.by_key path_total path_exact p q
        (λ same. let some = h.0 in let none = maps.at_drop path_total path_exact s.names q p same in absurd (cc))
        (λ not. absurd (h.1 (sym (maps.beside_drop path_total path_exact s.names q p not) ∙ h.0))),
  );
  taken = λ p n. (
    λ is.
        let parts = (with_file-is q (file_at s q) p n).0 is in
        (ap (file_at s) (sym parts.0) ∙ parts.1, maps.at_drop path_total path_exact s.names q p (sym parts.0)),
    λ h. (with_file-is q (file_at s q) p n).1 (maps.by_key path_total path_exact p q
        (λ same. (sym same, ap (file_at s) (sym same) ∙ h.0))
        (λ not. let some = h.0 in let none = sym (maps.beside_drop path_total path_exact s.names q p not) ∙ h.1 in absurd (cc))),
  );
}

-- A path comes to name a file, after another was taken away.
module _ (s mid : State) (taken : Option (Path × ℕ)) (q : Path) (n : ℕ)
    (led : Leads (record { named = None; taken = taken }) (file_at s) (file_at mid)) where
  abbrev put : State
  put = record mid { names = finmap.insert mid.names q n }

  at-put : (p : Path) → p ≡ q → file_at put p ≡ Some n
  at-put p same = maps.at_put path_total path_exact mid.names q p n same

  beside-put : (p : Path) → p ≢ q → file_at put p ≡ file_at mid p
  beside-put p not = maps.beside_put path_total path_exact mid.names q p n not

  puts : file_at s q ≢ Some n → file_at mid q ≡ file_at s q
      → Leads (record { named = Some (q, n); taken = taken }) (file_at s) (file_at put)
  puts other here = record {
    named = λ p m. (
      λ is.
          let parts = some_pair_parts q p n m is in
          (at-put p (sym parts.0) ∙ ap Some parts.1, λ was. other (ap (file_at s) parts.0 ∙ was ∙ ap Some (sym parts.1))),
      λ h. maps.by_key path_total path_exact p q
          (λ same. let now = at-put p same in let is = h.0 in cc)
          (λ not. absurd (cc ((led.named p m).1 (sym (beside-put p not) ∙ h.0, h.1)))),
    );
    taken = λ p m. (
      λ is. let went = (led.taken p m).0 is in (
        went.0,
        maps.by_key path_total path_exact p q
            (λ same. let none = ap (file_at mid) (sym same) ∙ went.1 in let some = ap (file_at s) (sym same) ∙ went.0 in absurd (cc))
            (λ not. beside-put p not ∙ went.1),
      ),
      λ h. maps.by_key path_total path_exact p q
          (λ same. let some = at-put p same in let none = h.1 in absurd (cc))
          (λ not. (led.taken p m).1 (h.0, sym (beside-put p not) ∙ h.1)),
    );
  }

-- ---- calls

-- a path comes to name a file beside the others: by a create or a link
adds : (s : State) (q : Path) (file : Option ℕ) → Leads (naming_change s q None file) (file_at s) (file_at (with_path q s file))
adds s q None = stays (file_at s) (file_at s) (λ p. refl)
adds s q (Some n) = by (is_file (file_at s q) n) refl
  where
    by : (b : Bool) → is_file (file_at s q) n ≡ b
        → Leads (cond b no_change (record { named = Some (q, n); taken = None })) (file_at s) (file_at (with_path q s (Some n)))
    by true is = stays (file_at s) (file_at (with_path q s (Some n))) (λ p. maps.by_key path_total path_exact p q
        (λ same. at-put s s None q n (stays (file_at s) (file_at s) (λ p. refl)) p same
        ∙ sym ((file-is (file_at s q) n).0 is) ∙ ap (file_at s) (sym same))
        (λ not. beside-put s s None q n (stays (file_at s) (file_at s) (λ p. refl)) p not))
    by false is = puts s s None q n (stays (file_at s) (file_at s) (λ p. refl))
        (λ some. let t = (file-is (file_at s q) n).1 some in cc) refl

-- it does, and another path no longer names it: by a rename
module _ (s : State) (o q : Path) where
  renamed : (n : ℕ) → file_at s o ≡ Some n → file_at s q ≢ Some n
      → Leads (record { named = Some (q, n); taken = Some (o, n) }) (file_at s) (file_at (with_path q (without_path o s) (Some n)))
  renamed n is other =
      let went = subst (λ t. Leads (record { named = None; taken = t }) (file_at s) (file_at (without_path o s)))
      (ap (with_file o) is) (drops s o) in
      puts s (without_path o s) (Some (o, n)) q n went other
      (maps.beside_drop path_total path_exact s.names o q (λ same. other (ap (file_at s) same ∙ is)))

  moves : Leads (naming_change s q (with_file o (file_at s o)) (file_at s o)) (file_at s) (file_at (after_rename o q s))
  moves = by (file_at s o) refl
    where
      by_test : (n m : ℕ) → file_at s o ≡ Some n → file_at s q ≡ Some m → (b : Bool) → (n == m) ≡ b
          → Leads (cond b no_change (record { named = Some (q, n); taken = Some (o, n) })) (file_at s)
          (file_at (cond b s (with_files_still_named (Some m) (with_path q (without_path o s) (Some n)))))
      by_test n m is at true same = stays (file_at s) (file_at s) (λ p. refl)
      by_test n m is at false other = renamed n is (λ some. let t = (Decides-eqb n m).1 (cc) in cc)

      by_file : (n : ℕ) → file_at s o ≡ Some n → (to : Option ℕ) → file_at s q ≡ to
          → Leads (cond (is_file to n) no_change (record { named = Some (q, n); taken = Some (o, n) })) (file_at s)
          (file_at (cond (is_one_file (Some n) to) s (with_files_still_named to (with_path q (without_path o s) (Some n)))))
      by_file n is None at = renamed n is (λ some. cc)
      by_file n is (Some m) at = by_test n m is at (n == m) refl

      by : (from : Option ℕ) → file_at s o ≡ from → Leads (naming_change s q (with_file o from) from) (file_at s)
          (file_at (cond (is_one_file from (file_at s q)) s (with_files_still_named (file_at s q) (with_path q (without_path o s) from))))
      by None is = stays (file_at s) (file_at (without_path o s))
          (λ p. ap (λ names. finmap.get names p) (maps.drop-absent path_total path_exact s.names o is))
      by (Some n) is = by_file n is (file_at s q) refl

-- a write changes no path
written : (s : State) (more : List ℕ) (now : ℕ) (file : Option ℕ) (p : Path) → file_at (after_append more now s file) p ≡ file_at s p
written s more now None p = refl
written s more now (Some n) p = refl

-- a call changes the paths of directories as the monitor has it
pub led : (s : State) (c : Call) (now : ℕ) → Leads (change_of s c) (file_at s) (file_at (after_call c now s))
led s (call.At deed.Create p reply.Ok) now = adds s p (Some (length s.files))
led s (call.At deed.Unlink p reply.Ok) now = drops s p
led s (call.At deed.Write p reply.Ok) now = stays (file_at s) _ (written s [] now (file_at s p))
led s (call.At deed.Flush p reply.Ok) now = stays (file_at s) (file_at s) (λ p. refl)
led s (call.Between naming.Link old new reply.Ok) now = adds s new (file_at s old)
led s (call.Between naming.Rename old new reply.Ok) now = moves s old new
led s c now = stays (file_at s) (file_at s) (λ p. refl)
