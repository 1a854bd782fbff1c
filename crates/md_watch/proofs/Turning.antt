-- A turn of paths is what the monitor has of a call's change, and leads to the paths after it.
use Rattle.std.proofs.Common.{ℕ, ◌≡◌, cond, Option, Some, None, Bool, true, false, refl, sym, ap, ◌∙◌, length}
use Rattle.std.specs.Ordering.{eq_by_cmp}
use Rattle.md_dirs.specs.Path.{path_cmp}
use Rattle.md_dirs.specs.State.{State, file_at}
use Rattle.md_dirs.specs.declared.paths.Path.{Path}
use Rattle.md_log.specs.declared.line.Call.{Call}
use Rattle.md_log.specs.declared.line.Call.TheVariants as call
use Rattle.md_log.specs.declared.line.Deed.TheVariants as deed
use Rattle.md_log.specs.declared.line.Naming.TheVariants as naming
use Rattle.md_log.specs.declared.line.Reply.TheVariants as reply
use Rattle.md_law.specs.History.{after_call}
use Rattle.md_monitor.specs.Changes.{Change, no_change, change_of, naming_change, turned_by, with_file, is_file}
use Rattle.md_monitor.proofs.Changing.{Leads, led}
use Rattle.md_monitor.proofs.Tests.{file-is}
use Rattle.md_kept.specs.Changes.{Turn, still, naming_by, turn_by, after_turn, with_taken, with_named}
use Rattle.md_kept.proofs.Keys.{path-is}

-- a change of the monitor's, as a turn
abbrev pub turn : State → Change → Turn
turn s c = record { named = c.named; taken = c.taken; turned = turned_by s c.named }

naming-is : (s : State) (p : Path) (taken : Option (Path × ℕ)) (file : Option ℕ)
    → naming_by (file_at s) p taken file ≡ turn s (naming_change s p taken file)
naming-is s p taken None = refl
naming-is s p taken (Some n) = elim (is_file (file_at s p) n) as
    (λ b. cond b still (record { named = Some (p, n); taken = taken; turned = with_file p (file_at s p) })
    ≡ turn s (cond b no_change (record { named = Some (p, n); taken = taken }))) [ true ↦ refl | false ↦ refl ]

pub turn-is : (s : State) (c : Call) → turn_by (file_at s) (length s.files) c ≡ turn s (change_of s c)
turn-is s (call.At deed.Create p reply.Ok) = naming-is s p None (Some (length s.files))
turn-is s (call.At deed.Unlink p reply.Ok) = refl
turn-is s (call.Between naming.Link old new reply.Ok) = naming-is s new None (file_at s old)
turn-is s (call.Between naming.Rename old new reply.Ok) = naming-is s new (with_file old (file_at s old)) (file_at s old)
turn-is s c = refl

-- ---- paths after a change

module _ (c : Change) (before after : Path → Option ℕ) (leads : Leads c before after) where
  pub stays : (q : Path) → ((n : ℕ) → c.named ≡ Some (q, n) → ⊥) → ((n : ℕ) → c.taken ≡ Some (q, n) → ⊥) → after q ≡ before q
  stays q unnamed untaken = by (after q) refl (before q) refl
    where
      by_file : (n : ℕ) → after q ≡ Some n → (b : Bool) → is_file (before q) n ≡ b → after q ≡ before q
      by_file n ia true is = ia ∙ sym ((file-is (before q) n).0 is)
      by_file n ia false other = absurd (unnamed n ((leads.named q n).1 (ia, λ some. let t = (file-is (before q) n).1 some in cc)))

      by : (a : Option ℕ) → after q ≡ a → (b : Option ℕ) → before q ≡ b → after q ≡ before q
      by None ia None ib = ia ∙ sym ib
      by None ia (Some m) ib = absurd (untaken m ((leads.taken q m).1 (ib, ia)))
      by (Some n) ia b ib = by_file n ia (is_file (before q) n) refl

  by_taken : (q : Path) → ((n : ℕ) → c.named ≡ Some (q, n) → ⊥) → (o : Option (Path × ℕ)) → c.taken ≡ o → after q ≡ with_taken o before q
  by_taken q unnamed None is = stays q unnamed (λ n some. cc)
  by_taken q unnamed (Some e) is = by (eq_by_cmp path_cmp q e.0) refl
    where
      by : (b : Bool) → eq_by_cmp path_cmp q e.0 ≡ b → after q ≡ cond b None (before q)
      by true same = ((leads.taken q e.1).0 (is ∙ ap (λ (w : Path). Some (w, e.1)) (sym ((path-is q e.0).0 same)))).1
      by false other = stays q unnamed (λ n some.
          let one : Some e ≡ Some (q, n) = sym is ∙ some in
          let path : q ≡ e.0 = cc one in let t = (path-is q e.0).1 path in cc)

  by_named : (q : Path) → (o : Option (Path × ℕ)) → c.named ≡ o → after q ≡ with_named o (with_taken c.taken before) q
  by_named q None is = by_taken q (λ n some. cc) c.taken refl
  by_named q (Some e) is = by (eq_by_cmp path_cmp q e.0) refl
    where
      by : (b : Bool) → eq_by_cmp path_cmp q e.0 ≡ b → after q ≡ cond b (Some e.1) (with_taken c.taken before q)
      by true same = ((leads.named q e.1).0 (is ∙ ap (λ (w : Path). Some (w, e.1)) (sym ((path-is q e.0).0 same)))).0
      by false other = by_taken q (λ n some.
          let one : Some e ≡ Some (q, n) = sym is ∙ some in
          let path : q ≡ e.0 = cc one in let t = (path-is q e.0).1 path in cc) c.taken refl

pub paths-after : (s : State) (c : Call) (now : ℕ) (q : Path)
    → file_at (after_call c now s) q ≡ after_turn (turn s (change_of s c)) (file_at s) q
paths-after s c now q = by_named (change_of s c) (file_at s) (file_at (after_call c now s)) (led s c now) q (change_of s c).named refl
