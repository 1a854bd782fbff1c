-- What a directory call leaves can be loaded, where what it found could, and the path that it makes has no fault by itself.
use Rattle.std.proofs.Common.{ℕ, ◌≡◌, ◌≢◌, ◌≤◌, List, Option, Some, None, Bool, true, false, cond, refl, sym, ap, subst, ◌∙◌, slice_set, length, IsSome, arith}
use Rattle.md_core.proofs.Values.{State, IsSound, file_at, file_by, Path, DirReply, stamp_of, Asked, create, append, link, rename, unlink, list, ask_of, state_by, after_create, empty_file, after_append, file_with_more, with_path, without_path, with_files_still_named, is_one_file, File}
use Rattle.md_dirs.proofs.PathOrder.{path_total, path_exact}
use Rattle.lists.proofs.Maps as maps
use Rattle.md_dirs.proofs.Sound.{by_path, by_number, file_by-push, file_by-last, file_by-set_same, file_by-set_other, number-within, swept-kept}
use Rattle.md_jobs.specs.declared.step.DirReply.TheVariants as reply
use Rattle.md_core.proofs.Answers.Files.Tmp.{stamp_at}
use Rattle.md_core.proofs.Settling.Loadable.{IsGoodPath, IsLoadable}

-- the path that a call makes has no fault by itself; a rename makes one only where there is something to rename
abbrev pub MakesGood : State → Asked → Type 0
MakesGood s (create p) = IsGoodPath p
MakesGood s (link old new) = IsGoodPath new
MakesGood s (rename old new) = (n : ℕ) → file_at s old ≡ Some n → IsGoodPath new
MakesGood s other = Unit {0}

-- ---- of names alone

module _ (x : State) (clock : ℕ) (h : IsLoadable x clock) where
  -- a path more, for a file that is there
  put : (new : Path) (m : ℕ) → IsGoodPath new → stamp_at x m ≤ clock → IsLoadable (with_path new x (Some m)) clock
  put new m good stamp = record {
    good = λ p n there. by_path p new
        (λ same. subst IsGoodPath (sym same) good)
        (λ differ. h.good p n (sym (maps.beside_put path_total path_exact x.names new p m differ) ∙ there));
    stamped = λ p n there. by_path p new
        (λ same.
        let here : Some m ≡ Some n = sym (maps.at_put path_total path_exact x.names new p m same) ∙ there in
        let number : m ≡ n = cc in
        subst (λ (k : ℕ). stamp_at x k ≤ clock) number stamp)
        (λ differ. h.stamped p n (sym (maps.beside_put path_total path_exact x.names new p m differ) ∙ there));
  }

  -- a path less
  drop : (old : Path) → IsLoadable (without_path old x) clock
  drop old = record { good = λ p n there. h.good p n (was p n there); stamped = λ p n there. h.stamped p n (was p n there) }
    where
      was : (p : Path) (n : ℕ) → file_at (without_path old x) p ≡ Some n → file_at x p ≡ Some n
      was p n there = by_path p old
          (λ same. let gone = maps.at_drop path_total path_exact x.names old p same in cc)
          (λ differ. sym (maps.beside_drop path_total path_exact x.names old p differ) ∙ there)

  -- files are given back that no path names
  sweep : (o : Option ℕ) → IsLoadable (with_files_still_named o x) clock
  sweep o = record {
    good = h.good;
    stamped = λ p n there. subst (λ (f : Option File). stamp_of f ≤ clock) (sym (swept-kept o x p n there)) (h.stamped p n there);
  }

-- ---- of each call

module _ (s : State) (sound : IsSound s) (before clock : ℕ) (later : before ≤ clock) (was : IsLoadable s before) where
  stays : IsLoadable s clock
  stays = record { good = was.good; stamped = λ p n there. let stamp = was.stamped p n there in omega (arith, later, stamp) }

  created : (q : Path) → IsGoodPath q → IsLoadable (after_create q clock s) clock
  created q good = record {
    good = λ p n there. by_path p q
        (λ same. subst IsGoodPath (sym same) good)
        (λ differ. was.good p n (beside p n differ there));
    stamped = λ p n there. by_path p q
        (λ same.
        let here : Some (length s.files) ≡ Some n = sym (maps.at_put path_total path_exact s.names q p (length s.files) same) ∙ there in
        let number : length s.files ≡ n = cc in
        let stamp : stamp_at (after_create q clock s) n ≡ clock =
        ap (stamp_at (after_create q clock s)) (sym number) ∙ ap stamp_of (file_by-last s.files (Some (empty_file clock))) in
        omega (arith, stamp))
        (λ differ.
        let old = beside p n differ there in
        let same : stamp_at (after_create q clock s) n ≡ stamp_at s n =
        ap stamp_of (file_by-push s.files (Some (empty_file clock)) n (number-within s sound p n old)) in
        let stamp = stays.stamped p n old in
        omega (arith, same, stamp));
  }
    where
      beside : (p : Path) (n : ℕ) → p ≢ q → file_at (after_create q clock s) p ≡ Some n → file_at s p ≡ Some n
      beside p n differ there = sym (maps.beside_put path_total path_exact s.names q p (length s.files) differ) ∙ there

  grown : (more : List ℕ) (o : Option File) → IsSome o → stamp_of (file_with_more more clock o) ≡ clock
  grown more None is = cc
  grown more (Some file) is = refl

  appended : (bytes : List ℕ) (o : Option ℕ) → IsLoadable (after_append bytes clock s o) clock
  appended bytes None = stays
  appended bytes (Some m) = record {
    good = was.good;
    stamped = λ p n there. by_number n m
        (λ same.
        let stamp : stamp_at (after_append bytes clock s (Some m)) n ≡ clock =
        ap (λ i. stamp_of (file_by (slice_set s.files i (file_with_more bytes clock (file_by s.files i))) n)) (sym same)
        ∙ ap stamp_of (file_by-set_same s.files n (file_with_more bytes clock (file_by s.files n)) (number-within s sound p n there))
        ∙ grown bytes (file_by s.files n) (sound.filed p n there) in
        omega (arith, stamp))
        (λ differ.
        let same : stamp_at (after_append bytes clock s (Some m)) n ≡ stamp_at s n =
        ap stamp_of (file_by-set_other s.files m n (file_with_more bytes clock (file_by s.files m)) differ) in
        let stamp = stays.stamped p n there in
        omega (arith, same, stamp));
  }

  linked : (old new : Path) → IsGoodPath new → (o : Option ℕ) → file_at s old ≡ o → IsLoadable (with_path new s o) clock
  linked old new good None is = stays
  linked old new good (Some m) is = put s clock stays new m good (stays.stamped old m is)

  renamed : (old new : Path) → ((n : ℕ) → file_at s old ≡ Some n → IsGoodPath new) → (b : Bool) →
      IsLoadable (cond b s (with_files_still_named (file_at s new) (with_path new (without_path old s) (file_at s old)))) clock
  renamed old new good true = stays
  renamed old new good false = sweep (with_path new (without_path old s) (file_at s old)) clock (by (file_at s old) refl) (file_at s new)
    where
      by : (o : Option ℕ) → file_at s old ≡ o → IsLoadable (with_path new (without_path old s) o) clock
      by None is = drop s clock stays old
      by (Some m) is = put (without_path old s) clock (drop s clock stays old) new m (good m is) (stays.stamped old m is)

  done : (asked : Asked) → MakesGood s asked → IsLoadable (state_by (ask_of asked clock) s reply.Ok) clock
  done (create q) good = created q good
  done (append q bytes) good = appended bytes (file_at s q)
  done (link old new) good = linked old new good (file_at s old) refl
  done (rename old new) good = renamed old new good (is_one_file (file_at s old) (file_at s new))
  done (unlink q) good = sweep (without_path q s) clock (drop s clock stays q) (file_at s q)
  done (list folder place) good = stays

  pub leaves : (asked : Asked) (r : DirReply) → MakesGood s asked → IsLoadable (state_by (ask_of asked clock) s r) clock
  leaves asked reply.Ok good = done asked good
  leaves asked other good = stays
