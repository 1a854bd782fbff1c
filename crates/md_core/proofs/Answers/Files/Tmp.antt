-- What directory calls do to one path in tmp: they keep it and its file, whose stamp may become that of the call, or make it, or take it
-- away.
use Rattle.std.proofs.Common.{ℕ, ◌≡◌, ◌≢◌, ◌⊎◌, inl, inr, List, Option, Some, None, Bool, true, false, cond, refl, sym, ap, ◌∙◌, slice_set, length, IsSome}
use Rattle.std.specs.FinMap as finmap
use Rattle.md_core.proofs.Values.{State, IsSound, file_at, file_by, Path, Tmp, DirReply, is_tmp, stamp_of, Asked, create, append, link, rename, unlink, list, ask_of, state_by, after_create, empty_file, after_append, file_with_more, with_path, without_path, after_unlink, with_files_still_named, is_one_file, File}
use Rattle.md_dirs.proofs.PathOrder.{path_total, path_exact}
use Rattle.lists.proofs.Maps as maps
use Rattle.md_dirs.proofs.Sound.{by_path, by_number, file_by-push, file_by-last, file_by-set_same, file_by-set_other, number-within, swept-kept}
use Rattle.md_jobs.specs.declared.step.DirReply.TheVariants as reply

-- the stamp of the file of a number
abbrev pub stamp_at : State → ℕ → ℕ
stamp_at s n = stamp_of (file_by s.files n)

-- links and renames lead to new and cur, and nothing is renamed from tmp
abbrev pub LeavesTmp : Asked → Type 0
LeavesTmp (link old new) = is_tmp new.place ≡ false
LeavesTmp (rename old new) = (is_tmp old.place ≡ false) × (is_tmp new.place ≡ false)
LeavesTmp other = Unit {0}

-- a path names what it did, and that file has the stamp that it had or that of the call
pub record KeepsPath (s s' : State) (p : Path) (clock : ℕ) : Type 0 where
  pub names : file_at s' p ≡ file_at s p
  pub stamps : (n : ℕ) → file_at s p ≡ Some n → (stamp_at s' n ≡ stamp_at s n) ⊎ (stamp_at s' n ≡ clock)

-- a path was made, and its file has the stamp of the call
pub record MakesPath (s' : State) (p : Path) (asked : Asked) (clock : ℕ) : Type 0 where
  pub call : asked ≡ create p
  pub stamps : (n : ℕ) → file_at s' p ≡ Some n → stamp_at s' n ≡ clock

-- a path was taken away
pub record TakesPath (s' : State) (p : Path) (asked : Asked) (r : DirReply) : Type 0 where
  pub call : asked ≡ unlink p
  pub ok : r ≡ reply.Ok
  pub gone : file_at s' p ≡ None

abbrev pub Touches : State → State → Path → Asked → DirReply → ℕ → Type 0
Touches s s' p asked r clock = KeepsPath s s' p clock ⊎ (MakesPath s' p asked clock ⊎ TakesPath s' p asked r)

module _ (s : State) (p : Path) (in_tmp : p.place ≡ Tmp) (sound : IsSound s) (clock : ℕ) where
  stays : KeepsPath s s p clock
  stays = record { names = refl; stamps = λ n is. inl refl }

  -- a path in new or cur is another
  elsewhere : (q : Path) → is_tmp q.place ≡ false → p ≢ q
  elsewhere q other same =
      let h : is_tmp q.place ≡ is_tmp p.place =
      ap (λ (x : Path). is_tmp x.place) (sym same) in let t : is_tmp p.place ≡ true = ap is_tmp in_tmp in cc

  touches-create : (q : Path) → Touches s (after_create q clock s) p (create q) reply.Ok clock
  touches-create q = by_path p q
      (λ same. inr (inl (record {
        call = ap create (sym same);
        stamps = λ n is.
            let here : file_at (after_create q clock s) p ≡ Some (length s.files) =
            maps.at_put path_total path_exact s.names q p (length s.files) same in
            let number : length s.files ≡ n = cc in
            ap (stamp_at (after_create q clock s)) (sym number) ∙ ap stamp_of (file_by-last s.files (Some (empty_file clock)));
      })))
      (λ differ. inl (record {
        names = maps.beside_put path_total path_exact s.names q p (length s.files) differ;
        stamps = λ n is. inl (ap stamp_of (file_by-push s.files (Some (empty_file clock)) n (number-within s sound p n is)));
      }))

  grown-stamp : (more : List ℕ) (o : Option File) → IsSome o → stamp_of (file_with_more more clock o) ≡ clock
  grown-stamp more None is = cc
  grown-stamp more (Some file) is = refl

  keeps-append : (bytes : List ℕ) (o : Option ℕ) → KeepsPath s (after_append bytes clock s o) p clock
  keeps-append bytes None = stays
  keeps-append bytes (Some m) = record {
    names = refl;
    stamps = λ n is. by_number n m
        (λ same. inr (
        ap (λ i. stamp_of (file_by (slice_set s.files i (file_with_more bytes clock (file_by s.files i))) n)) (sym same)
        ∙ ap stamp_of (file_by-set_same s.files n (file_with_more bytes clock (file_by s.files n)) (number-within s sound p n is))
        ∙ grown-stamp bytes (file_by s.files n) (sound.filed p n is)))
        (λ differ. inl (ap stamp_of (file_by-set_other s.files m n (file_with_more bytes clock (file_by s.files m)) differ)));
  }

  keeps-link : (new : Path) (o : Option ℕ) → p ≢ new → KeepsPath s (with_path new s o) p clock
  keeps-link new None differ = stays
  keeps-link new (Some m) differ = record {
    names = maps.beside_put path_total path_exact s.names new p m differ;
    stamps = λ n is. inl refl;
  }

  -- files are given back that no path names
  keeps-swept : (x : State) (o : Option ℕ) → file_at x p ≡ file_at s p → ((n : ℕ) → stamp_at x n ≡ stamp_at s n) →
      KeepsPath s (with_files_still_named o x) p clock
  keeps-swept x o names stamps = record {
    names = names;
    stamps = λ n is. inl (ap stamp_of (swept-kept o x p n (names ∙ is)) ∙ stamps n);
  }

  keeps-rename : (old new : Path) → p ≢ old → p ≢ new → (b : Bool) →
      KeepsPath s (cond b s (with_files_still_named (file_at s new) (with_path new (without_path old s) (file_at s old)))) p clock
  keeps-rename old new from to true = stays
  keeps-rename old new from to false = by (file_at s old)
    where
      beside : file_at (without_path old s) p ≡ file_at s p
      beside = maps.beside_drop path_total path_exact s.names old p from

      by : (o : Option ℕ) → KeepsPath s (with_files_still_named (file_at s new) (with_path new (without_path old s) o)) p clock
      by None = keeps-swept (without_path old s) (file_at s new) beside (λ n. refl)
      by (Some m) = keeps-swept (with_path new (without_path old s) (Some m)) (file_at s new)
          (maps.beside_put path_total path_exact (finmap.remove s.names old) new p m to ∙ beside) (λ n. refl)

  touches-unlink : (q : Path) → Touches s (after_unlink q s) p (unlink q) reply.Ok clock
  touches-unlink q = by_path p q
      (λ same. inr (inr (record { call = ap unlink (sym same); ok = refl; gone = maps.at_drop path_total path_exact s.names q p same })))
      (λ differ. inl (keeps-swept (without_path q s) (file_at s q) (maps.beside_drop path_total path_exact s.names q p differ) (λ n. refl)))

  done : (asked : Asked) → LeavesTmp asked → Touches s (state_by (ask_of asked clock) s reply.Ok) p asked reply.Ok clock
  done (create q) leaves = touches-create q
  done (append q bytes) leaves = inl (keeps-append bytes (file_at s q))
  done (link old new) leaves = inl (keeps-link new (file_at s old) (elsewhere new leaves))
  done (rename old new) leaves =
      inl (keeps-rename old new (elsewhere old leaves.0) (elsewhere new leaves.1) (is_one_file (file_at s old) (file_at s new)))
  done (unlink q) leaves = touches-unlink q
  done (list folder place) leaves = inl stays

  pub touches : (asked : Asked) (r : DirReply) → LeavesTmp asked → Touches s (state_by (ask_of asked clock) s r) p asked r clock
  touches asked reply.Ok leaves = done asked leaves
  touches asked other leaves = inl stays
