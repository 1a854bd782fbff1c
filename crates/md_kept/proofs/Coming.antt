-- A path that comes is counted of its message, and one that goes no longer is.
use Rattle.std.proofs.Common.{ℕ, ◌≡◌, ◌+◌, ◌-◌, ◌==◌, ◌&&◌, ◌||◌, cond, List, Option, Some, None, Bool, true, false, unwrap_or, refl, sym, ap, subst, ◌∙◌}
use Rattle.std.specs.Option.{option_map}
use Rattle.std.specs.Str.{bytes_eq}
use Rattle.std.proofs.Math.Bool.{and_assoc}
use Rattle.md_dirs.specs.declared.paths.Path.{Path}
use Rattle.md_monitor.specs.Messages.{is_of, is_of_any}
use Rattle.md_kept.specs.declared.messages.Message.{Message}
use Rattle.md_kept.specs.declared.messages.Messages.{Messages}
use Rattle.md_kept.specs.declared.table.Table.{Table}
use Rattle.md_kept.specs.Changes.{message_of}
use Rattle.md_kept.specs.Few.{few_at}
use Rattle.md_kept.specs.Messages.{Comes, Goes, ComesTo, GoesFrom, times_by, folder_by, file_by, times_in, was_in_as, kept_of}
use Rattle.md_kept.specs.Tables.{value_at, Puts}
use Rattle.md_kept.proofs.Keys.{key-is, message-is}

-- What is kept of a message is what another record says, which tells of no path where nothing is kept.
pub record Stands (o : Option Message) (k : Message) : Type 0 where
  pub times : unwrap_or (times_by o) 0 ≡ k.times
  pub folders : (f : ℕ) → folder_by o f ≡ few_at k.folders f
  pub files : (n : ℕ) → file_by o n ≡ few_at k.files n

pub stands : (o : Option Message) (k none : Message) → k ≡ unwrap_or o none → none.times ≡ 0 → ((f : ℕ) → few_at none.folders f ≡ None)
    → ((n : ℕ) → few_at none.files n ≡ None) → Stands o k
stands None k none is times folders files = record {
  times = sym (ap (λ (m : Message). m.times) is ∙ times);
  folders = λ f. sym (ap (λ (m : Message). few_at m.folders f) is ∙ folders f);
  files = λ n. sym (ap (λ (m : Message). few_at m.files n) is ∙ files n);
}
stands (Some m) k none is times folders files = subst (Stands (Some m)) (sym is) (record { times = refl; folders = λ f. refl; files = λ n. refl })

-- what is taken out and put back is put
pub put-back : (u : List ℕ) (old new : Messages) (mid : Table Message) (after : Message) → Puts 0 u None old.all mid
    → Puts 0 u (Some after) mid new.all → (q : List ℕ) → kept_of new q ≡ cond (bytes_eq u q) (Some after) (kept_of old q)
put-back u old new mid after taken put q = by (bytes_eq u q) (taken 0 q) (put 0 q)
  where
    by : (b : Bool) → value_at mid 0 q ≡ cond b None (kept_of old q) → kept_of new q ≡ cond b (Some after) (value_at mid 0 q)
        → kept_of new q ≡ cond b (Some after) (kept_of old q)
    by true taken put = put
    by false taken put = put ∙ taken

and-true : (b : Bool) → (b && true) ≡ b
and-true true = refl
and-true false = refl

and-false : (b : Bool) → (b && false) ≡ false
and-false true = refl
and-false false = refl

either : {A : Type 0} (b : Bool) (x : A) → x ≡ cond b x x
either true x = refl
either false x = refl

-- what is kept of the message of a path becomes this, and of others it stays
module _ (p : Path) (n : ℕ) (u : List ℕ) (old new : Messages) (after : Option Message) (message : Some u ≡ message_of p)
    (put : (q : List ℕ) → kept_of new q ≡ cond (bytes_eq u q) after (kept_of old q)) where
  -- which message the path is of
  any-is : (q : List ℕ) → is_of_any q p ≡ bytes_eq u q
  any-is q = let is = message-is p u message in sym (λ i. (sym is.0) i && bytes_eq (is.1 i) q)

  of-is : (f : ℕ) (q : List ℕ) → is_of f q p ≡ (p.folder == f && bytes_eq u q)
  of-is f q = let is = message-is p u message in sym (λ i. ((sym is.0) i && p.folder == f) && bytes_eq (is.1 i) q)

  same-name : (q : List ℕ) → bytes_eq u q ≡ true → u ≡ q
  same-name q same = ((key-is (0, u) (0, q)).0 same).1

  -- a count of it changes so, where a test holds
  counted : (count : Option Message → Option ℕ) (change : Option ℕ → Option ℕ) (holds : Bool)
      → count after ≡ cond holds (change (count (kept_of old u))) (count (kept_of old u)) → (q : List ℕ)
      → count (kept_of new q) ≡ cond (holds && bytes_eq u q) (change (count (kept_of old q))) (count (kept_of old q))
  counted count change holds is q = by (bytes_eq u q) refl (put q)
    where
      goal : Bool → Type 0
      goal b = count (kept_of new q) ≡ cond (holds && b) (change (count (kept_of old q))) (count (kept_of old q))

      by : (b : Bool) → bytes_eq u q ≡ b → kept_of new q ≡ cond b after (kept_of old q) → goal b
      by true same put = ap count put ∙ is
          ∙ ap (λ w. cond holds (change (count (kept_of old w))) (count (kept_of old w))) (same-name q same)
          ∙ ap (λ b. cond b (change (count (kept_of old q))) (count (kept_of old q))) (sym (and-true holds))
      by false same put = ap count put ∙ ap (λ b. cond b (change (count (kept_of old q))) (count (kept_of old q))) (sym (and-false holds))

  -- which files it ever was in a folder
  noted : (f m : ℕ) (holds : Bool) → was_in_as (folder_by after f) m ≡ (holds || was_in_as (folder_by (kept_of old u) f) m)
      → (q : List ℕ) → was_in_as (folder_by (kept_of new q) f) m ≡ ((holds && bytes_eq u q) || was_in_as (folder_by (kept_of old q) f) m)
  noted f m holds is q = by (bytes_eq u q) refl (put q)
    where
      was : Option Message → Bool
      was o = was_in_as (folder_by o f) m

      by : (b : Bool) → bytes_eq u q ≡ b → kept_of new q ≡ cond b after (kept_of old q)
          → was (kept_of new q) ≡ ((holds && b) || was (kept_of old q))
      by true same put = ap was put ∙ is ∙ ap (λ w. holds || was (kept_of old w)) (same-name q same)
          ∙ ap (λ b. b || was (kept_of old q)) (sym (and-true holds))
      by false same put = ap was put ∙ ap (λ b. b || was (kept_of old q)) (sym (and-false holds))

  within : (f m : ℕ) (q : List ℕ) → ((n == m && p.folder == f) && bytes_eq u q) ≡ (n == m && is_of f q p)
  within f m q = and_assoc (n == m) (p.folder == f) (bytes_eq u q) ∙ ap (λ b. n == m && b) (sym (of-is f q))

  pub came : (before now : Message) → after ≡ Some now → Stands (kept_of old u) before → ComesTo p.folder n before now
      → Comes (Some (p, n)) old new
  came before now is stands comes =
      let more : Option ℕ → Option ℕ = λ o. Some (unwrap_or o 0 + 1) in
      record {
        in_folder = λ f q. counted (λ o. times_in (folder_by o f)) more (p.folder == f)
            (ap (λ o. times_in (folder_by o f)) is ∙ comes.folders f
            ∙ ap (λ o. cond (p.folder == f) (more (times_in o)) (times_in o)) (sym (stands.folders f))) q
            ∙ ap (λ b. cond b (more (times_in (folder_by (kept_of old q) f))) (times_in (folder_by (kept_of old q) f))) (sym (of-is f q));
        anywhere = λ q. counted times_by more true
            (ap times_by is ∙ ap Some (comes.times ∙ ap (λ t. t + 1) (sym stands.times))) q
            ∙ ap (λ b. cond b (more (times_by (kept_of old q))) (times_by (kept_of old q))) (sym (any-is q));
        as_file = λ m q. counted (λ o. file_by o m) more (n == m)
            (ap (λ o. file_by o m) is ∙ comes.files m ∙ ap (λ o. cond (n == m) (more o) o) (sym (stands.files m))) q
            ∙ ap (λ b. cond (n == m && b) (more (file_by (kept_of old q) m)) (file_by (kept_of old q) m)) (sym (any-is q));
        files = λ f q m. noted f m (n == m && p.folder == f)
            (ap (λ o. was_in_as (folder_by o f) m) is ∙ comes.was_file f m
            ∙ ap (λ o. (n == m && p.folder == f) || was_in_as o m) (sym (stands.folders f))) q
            ∙ ap (λ b. b || was_in_as (folder_by (kept_of old q) f) m) (within f m q);
      }

  -- each count is one less
  abbrev lesser : Option ℕ → Option ℕ
  lesser o = option_map (λ t. t - 1) o

  leaves : ((f : ℕ) → times_in (folder_by after f) ≡ cond (p.folder == f) (lesser (times_in (folder_by (kept_of old u) f))) (times_in (folder_by (kept_of old u) f)))
      → times_by after ≡ lesser (times_by (kept_of old u))
      → ((m : ℕ) → file_by after m ≡ cond (n == m) (lesser (file_by (kept_of old u) m)) (file_by (kept_of old u) m))
      → ((f m : ℕ) → was_in_as (folder_by after f) m ≡ was_in_as (folder_by (kept_of old u) f) m) → Goes (Some (p, n)) old new
  leaves folders times files was = record {
    in_folder = λ f q. counted (λ o. times_in (folder_by o f)) lesser (p.folder == f) (folders f) q
        ∙ ap (λ b. cond b (lesser (times_in (folder_by (kept_of old q) f))) (times_in (folder_by (kept_of old q) f))) (sym (of-is f q));
    anywhere = λ q. counted times_by lesser true times q
        ∙ ap (λ b. cond b (lesser (times_by (kept_of old q))) (times_by (kept_of old q))) (sym (any-is q));
    as_file = λ m q. counted (λ o. file_by o m) lesser (n == m) (files m) q
        ∙ ap (λ b. cond (n == m && b) (lesser (file_by (kept_of old q) m)) (file_by (kept_of old q) m)) (sym (any-is q));
    files = λ f q m. noted f m false (was f m) q;
  }

  pub went : (before now : Message) → after ≡ Some now → kept_of old u ≡ Some before → GoesFrom p.folder n before now → Goes (Some (p, n)) old new
  went before now is was goes = leaves
      (λ f. ap (λ o. times_in (folder_by o f)) is ∙ goes.folders f
      ∙ ap (λ o. cond (p.folder == f) (lesser (times_in (folder_by o f))) (times_in (folder_by o f))) (sym was))
      (ap times_by is ∙ ap Some goes.times ∙ ap (λ o. lesser (times_by o)) (sym was))
      (λ m. ap (λ o. file_by o m) is ∙ goes.files m ∙ ap (λ o. cond (n == m) (lesser (file_by o m)) (file_by o m)) (sym was))
      (λ f m. ap (λ o. was_in_as (folder_by o f) m) is ∙ goes.was_file f m ∙ ap (λ o. was_in_as (folder_by o f) m) (sym was))
