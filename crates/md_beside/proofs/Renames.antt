-- What a rename and an unlink of a message do to paths, where each message has one.
use Rattle.std.proofs.Common.{ℕ, ◌≡◌, ◌≢◌, Some, None, true, cond, refl, sym, ap, ◌∙◌}
use Rattle.std.proofs.lemmas.Bool.{eq-eqb}
use Rattle.lists.proofs.Maps as maps
use Rattle.std.specs.FinMap as finmap
use Rattle.md_dirs.proofs.PathOrder.{path_total, path_exact}
use Rattle.md_dirs.proofs.Sound.{by_path}
use Rattle.md_dirs.specs.Calls.{after_rename, after_unlink, is_one_file, with_files_still_named, with_path, without_path}
use Rattle.md_dirs.specs.State.{State, file_at}
use Rattle.md_dirs.specs.declared.paths.Path.{Path}
use Rattle.md_name.specs.Names.{unique_of}
use Rattle.md_core.specs.Mailbox.{HasOnePath}
use Rattle.md_used.specs.Paths.{is_message}
use Rattle.md_core.proofs.Directories.Calls.Rename.{moved-is}

-- the file of a message is renamed to another name of it: the new path names it, the old is gone, and the others are as they were
pub record Moves (s s' : State) (o n : Path) (k : ℕ) : Type 0 where
  pub there : file_at s' n ≡ Some k
  pub gone : o ≢ n → file_at s' o ≡ None
  pub others : (q : Path) → q ≢ o → q ≢ n → file_at s' q ≡ file_at s q

module _ (s : State) (o n : Path) (k : ℕ) (one : HasOnePath s) (mo : is_message o ≡ true) (mn : is_message n ≡ true)
    (same : unique_of o.name ≡ unique_of n.name) (at : file_at s o ≡ Some k) where
  -- a rename of a path to itself does nothing
  itself : o ≡ n → after_rename o n s ≡ s
  itself is =
      let one_file : is_one_file (file_at s o) (file_at s n) ≡ true =
      (λ i. is_one_file (at i) ((ap (file_at s) (sym is) ∙ at) i)) ∙ eq-eqb k k refl in
      ap (λ b. cond b s (with_files_still_named (file_at s n) (with_path n (without_path o s) (file_at s o)))) one_file

  stays : o ≡ n → Moves s (after_rename o n s) o n k
  stays is = record {
    there = ap (λ (x : State). file_at x n) (itself is) ∙ ap (file_at s) (sym is) ∙ at;
    gone = λ differ. absurd (differ is);
    others = λ q noto notn. ap (λ (x : State). file_at x q) (itself is);
  }

  goes : o ≢ n → Moves s (after_rename o n s) o n k
  goes differ =
      let moved = moved-is s o n k one mo mn same differ at in
      record {
        there = ap (λ (x : State). file_at x n) moved ∙ maps.at_put path_total path_exact (finmap.remove s.names o) n n k refl;
        gone = λ _. ap (λ (x : State). file_at x o) moved ∙ maps.beside_put path_total path_exact (finmap.remove s.names o) n o k differ
            ∙ maps.at_drop path_total path_exact s.names o o refl;
        others = λ q noto notn. ap (λ (x : State). file_at x q) moved
            ∙ maps.beside_put path_total path_exact (finmap.remove s.names o) n q k notn
            ∙ maps.beside_drop path_total path_exact s.names o q noto;
      }

  pub renamed : Moves s (after_rename o n s) o n k
  renamed = by_path o n stays goes

module _ (s : State) (o : Path) where
  pub unlinked-others : (q : Path) → q ≢ o → file_at (after_unlink o s) q ≡ file_at s q
  unlinked-others q differ = maps.beside_drop path_total path_exact s.names o q differ

  pub unlinked-itself : (q : Path) → q ≡ o → file_at (after_unlink o s) q ≡ None
  unlinked-itself q is = maps.at_drop path_total path_exact s.names o q is
