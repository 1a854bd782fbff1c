-- A message that was renamed to its own unique name in cur, perhaps to the very name that it had.
use Rattle.std.proofs.Common.{ℕ, ◌≡◌, ◌<◌, ◌++◌, ◌∷◌, ◌||◌, List, [], Some, None, true, false, cond, codes, refl, sym, ap, subst, ◌∙◌, append_assoc}
use Rattle.std.specs.FinMap as finmap
use Rattle.std.proofs.lemmas.Bool.{or_parts, eq-eqb}
use Rattle.std.proofs.lemmas.List.Folds.{list_any-append}
use Rattle.std.proofs.lemmas.Cmp.{nat_list_cmp_total}
use Rattle.std.proofs.lemmas.Map.Lookups.{exact_bytes}
use Rattle.md_core.proofs.Values.{State, IsSound, file_at, Path, is_message, HasOnePath, Names, Listed, list_any, after_first, after_rename, with_path, without_path, with_files_still_named, is_one_file}
use Rattle.lists.proofs.Maps as maps
use Rattle.md_dirs.proofs.Sound.{by_path}
use Rattle.md_name.specs.Letters.{Set, spelling}
use Rattle.md_name.specs.Names.{is_colon, unique_of, info_text, flagged}
use Rattle.md_core.proofs.Mailbox.Changes.{Puts}
use Rattle.md_core.proofs.Directories.Frames.{Frame}
use Rattle.md_core.proofs.Mailbox.Naming.{same_names}
use Rattle.md_core.proofs.Directories.Quiet.{quiet-stays}
use Rattle.md_core.proofs.Directories.Spares.{Spares}
use Rattle.md_core.proofs.Directories.Calls.Rename.{moved-is, rename-puts, rename-frame, rename-sound, rename-spares}
use Rattle.md_core.proofs.Mailbox.WholeName.{after}

-- what a rename of a message to another path of its unique name does
pub record Moves (s s' : State) (n : Path) (k : ℕ) : Type 0 where
  pub sound : IsSound s'
  pub spares : Spares s s'
  pub frame : Frame s s' (unique_of n.name)
  pub puts : Puts s s' n k

module _ (s : State) (o n : Path) (k : ℕ) (sound : IsSound s) (one : HasOnePath s) (mo : is_message o ≡ true) (mn : is_message n ≡ true)
    (same : unique_of o.name ≡ unique_of n.name) (within : n.folder < s.folders) (at : file_at s o ≡ Some k) where
  -- a rename of a path to itself does nothing
  stays : o ≡ n → Moves s s n k
  stays is =
      let quiet = quiet-stays s (unique_of n.name) sound in
      record {
        sound = sound;
        spares = quiet.spares;
        frame = quiet.frame;
        puts = record {
          message = mn;
          there = ap (file_at s) (sym is) ∙ at;
          others = λ q m not. refl;
          alone = λ q m message its there. one q n m k there (ap (file_at s) (sym is) ∙ at) message mn its;
          bytes = λ q _ m there. refl;
        };
      }

  moved-itself : o ≡ n → after_rename o n s ≡ s
  moved-itself is =
      let one_file : is_one_file (file_at s o) (file_at s n) ≡ true = (λ i. is_one_file (at i) ((ap (file_at s) (sym is) ∙ at) i)) ∙ eq-eqb k k refl in
      ap (λ b. cond b s (with_files_still_named (file_at s n) (with_path n (without_path o s) (file_at s o)))) one_file

  pub moves : Moves s (after_rename o n s) n k
  moves = by_path o n
      (λ is. subst (λ (x : State). Moves s x n k) (sym (moved-itself is)) (stays is))
      (λ differ. subst (λ (x : State). Moves s x n k) (sym (moved-is s o n k one mo mn same differ at)) (record {
        sound = rename-sound s o n k one mo mn same differ at within sound;
        spares = rename-spares s o n k one mo mn same differ at;
        frame = rename-frame s o n k one mo mn same differ at;
        puts = rename-puts s o n k one mo mn same differ at;
      }))

-- the names of a mailbox where one is taken away and then put again
pub put_again : (m : Names) (u v : List ℕ) (x : Listed) → u ≡ v → finmap.insert (finmap.remove m u) v x ≡ finmap.insert m v x
put_again m u v x same = same_names _ _ (λ q. maps.by_key nat_list_cmp_total exact_bytes q v
    (λ is. maps.at_put nat_list_cmp_total exact_bytes (finmap.remove m u) v q x is ∙ sym (maps.at_put nat_list_cmp_total exact_bytes m v q x is))
    (λ not. maps.beside_put nat_list_cmp_total exact_bytes (finmap.remove m u) v q x not
    ∙ maps.beside_drop nat_list_cmp_total exact_bytes m u q (λ is. not (is ∙ same))
    ∙ sym (maps.beside_put nat_list_cmp_total exact_bytes m v q x not)))

-- the info of a name with flags is as it is written
after-colon : (u rest : List ℕ) → list_any is_colon u ≡ false → after_first is_colon (u ++ 58 ∷ rest) ≡ rest
after-colon [] rest plain = after 58 rest true refl
after-colon (b ∷ u) rest plain =
    let parts = or_parts (is_colon b) (list_any is_colon u) plain in
    after b (u ++ 58 ∷ rest) false parts.0 ∙ after-colon u rest parts.1

pub info-flagged : (u : List ℕ) (flags : Set) → list_any is_colon u ≡ false → info_text (flagged u flags) ≡ Some (codes "2," ++ spelling flags)
unfolding flagged info_text
info-flagged u flags plain =
    let rest : List ℕ = 50 ∷ 44 ∷ spelling flags in
    let colon : list_any is_colon (u ++ 58 ∷ rest) ≡ true = list_any-append is_colon u (58 ∷ rest) ∙ ap (λ b. b || true) plain in
    ap info_text (append_assoc u (codes ":2,") (spelling flags))
    ∙ ap (λ b. cond b (Some (after_first is_colon (u ++ 58 ∷ rest))) None) colon ∙ ap Some (after-colon u rest plain)
