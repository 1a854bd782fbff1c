-- What a reply that a call was not done says of the directories.
use Rattle.std.proofs.Common.{ℕ, ◌≡◌, ◌<◌, List, Option, Some, None, Bool, true, false, cond, is_some, nat_lt, refl, ap, arith}
use Rattle.std.proofs.lemmas.Bool.Decides.{nat_tests}
use Rattle.md_dirs.specs.Calls as dirs
use Rattle.md_core.proofs.Values.{State, file_at, has_folder, Path, Place, reply_of, reply_by, DirError, Exists, NotFound, Fault, NoMemory}
use Rattle.md_jobs.specs.declared.step.DirReply.TheVariants as reply

-- a call that says that a name is there, or isn't, was refused for that
by-exists : (refusal : Option DirError) (faulted : Bool) → reply.Exists ≡ cond faulted reply.Fault (reply_by refusal) →
    refusal ≡ Some Exists
by-exists refusal true is = cc
by-exists None false is = cc
by-exists (Some Exists) false is = refl
by-exists (Some NotFound) false is = cc
by-exists (Some Fault) false is = cc
by-exists (Some NoMemory) false is = cc

by-not_found : (refusal : Option DirError) (faulted : Bool) → reply.NotFound ≡ cond faulted reply.Fault (reply_by refusal) →
    refusal ≡ Some NotFound
by-not_found refusal true is = cc
by-not_found None false is = cc
by-not_found (Some Exists) false is = cc
by-not_found (Some NotFound) false is = refl
by-not_found (Some Fault) false is = cc
by-not_found (Some NoMemory) false is = cc

-- what is refused only where a thing is not there is not refused where it is
unless : (b : Bool) (e f : DirError) → b ≡ true → cond b None (Some e) ≡ Some f → ⊥
unless true e f is refused = cc
unless false e f is refused = cc

only : (b : Bool) (e f : DirError) → cond b None (Some e) ≡ Some f → e ≡ f
only true e f refused = cc
only false e f refused = cc

-- a call on a name that is there is refused for want of a folder, if for anything
gone : (o : Option ℕ) (housed : Bool) (later : Option DirError) → housed ≡ true → later ≡ None →
    cond (is_some o) (cond housed later (Some NotFound)) (Some NotFound) ≡ Some NotFound → o ≡ None
gone None housed later is none refused = refl
gone (Some n) true later is none refused = cc
gone (Some n) false later is none refused = cc

-- a folder that is there
pub has-folder : (folder folders : ℕ) → folder < folders → nat_lt folder folders ≡ true
has-folder folder folders within = grind (arith, nat_tests)

module _ (s : State) (faulted : Bool) where
  -- a folder that is there is listed, unless the call faults
  module _ (folder : ℕ) (place : Place) (within : folder < s.folders) where
    pub list-exists : reply.Exists ≡ reply_of (dirs.list folder place) s faulted → ⊥
    list-exists is = unless (nat_lt folder s.folders) NotFound Exists (has-folder folder s.folders within) (by-exists _ faulted is)

    pub list-not_found : reply.NotFound ≡ reply_of (dirs.list folder place) s faulted → ⊥
    list-not_found is = unless (nat_lt folder s.folders) NotFound NotFound (has-folder folder s.folders within) (by-not_found _ faulted is)

  -- a name that is unlinked
  module _ (p : Path) where
    pub unlink-exists : reply.Exists ≡ reply_of (dirs.unlink p) s faulted → ⊥
    unlink-exists is = let e = only (is_some (file_at s p)) NotFound Exists (by-exists _ faulted is) in cc

    pub unlink-not_found : reply.NotFound ≡ reply_of (dirs.unlink p) s faulted → file_at s p ≡ None
    unlink-not_found is = by (file_at s p) (by-not_found _ faulted is)
      where
        by : (o : Option ℕ) → cond (is_some o) None (Some NotFound) ≡ Some NotFound → o ≡ None
        by None refused = refl
        by (Some n) refused = cc

    pub append-exists : (bytes : List ℕ) (now : ℕ) → reply.Exists ≡ reply_of (dirs.append p bytes now) s faulted → ⊥
    append-exists bytes now is = let e = only (is_some (file_at s p)) NotFound Exists (by-exists _ faulted is) in cc

    -- a name that is made
    pub create-exists : (now : ℕ) → file_at s p ≡ None → reply.Exists ≡ reply_of (dirs.create p now) s faulted → ⊥
    create-exists now none is = by (file_at s p) (has_folder s p) none (by-exists _ faulted is)
      where
        by : (o : Option ℕ) (b : Bool) → o ≡ None → cond b (cond (is_some o) (Some Exists) None) (Some NotFound) ≡ Some Exists → ⊥
        by None true none refused = cc
        by None false none refused = cc
        by (Some n) b none refused = cc

    pub create-not_found : (now : ℕ) → p.folder < s.folders → reply.NotFound ≡ reply_of (dirs.create p now) s faulted → ⊥
    create-not_found now within is = by (file_at s p) (has_folder s p) (has-folder p.folder s.folders within) (by-not_found _ faulted is)
      where
        by : (o : Option ℕ) (b : Bool) → b ≡ true → cond b (cond (is_some o) (Some Exists) None) (Some NotFound) ≡ Some NotFound → ⊥
        by o false housed refused = cc
        by None true housed refused = cc
        by (Some n) true housed refused = cc

  -- a name that gets another
  module _ (old new : Path) where
    pub rename-exists : reply.Exists ≡ reply_of (dirs.rename old new) s faulted → ⊥
    rename-exists is = by (file_at s old) (has_folder s new) (by-exists _ faulted is)
      where
        by : (o : Option ℕ) (b : Bool) → cond (is_some o) (cond b None (Some NotFound)) (Some NotFound) ≡ Some Exists → ⊥
        by None b refused = cc
        by (Some n) true refused = cc
        by (Some n) false refused = cc

    pub rename-not_found : new.folder < s.folders → reply.NotFound ≡ reply_of (dirs.rename old new) s faulted → file_at s old ≡ None
    rename-not_found within is =
        gone (file_at s old) (has_folder s new) None (has-folder new.folder s.folders within) refl (by-not_found _ faulted is)

    -- a name that gets a second
    module _ (unused : file_at s new ≡ None) where
      pub link-exists : reply.Exists ≡ reply_of (dirs.link old new) s faulted → ⊥
      link-exists is = by (file_at s old) (has_folder s new) (file_at s new) unused (by-exists _ faulted is)
        where
          by : (o : Option ℕ) (b : Bool) (n : Option ℕ) → n ≡ None →
              cond (is_some o) (cond b (cond (is_some n) (Some Exists) None) (Some NotFound)) (Some NotFound) ≡ Some Exists → ⊥
          by None b n none refused = cc
          by (Some m) false n none refused = cc
          by (Some m) true None none refused = cc
          by (Some m) true (Some i) none refused = cc

      pub link-not_found : new.folder < s.folders → reply.NotFound ≡ reply_of (dirs.link old new) s faulted → file_at s old ≡ None
      link-not_found within is =
          let free : cond {A = Option DirError} (is_some (file_at s new)) (Some Exists) None ≡ None =
          ap (λ (o : Option ℕ). cond {A = Option DirError} (is_some o) (Some Exists) None) unused in
          gone (file_at s old) (has_folder s new) _ (has-folder new.folder s.folders within) free (by-not_found _ faulted is)
