-- Directories stay sound, whoever takes the step.
use Rattle.std.proofs.Common.{ℕ, zero, suc, ◌≡◌, ◌<◌, ◌⊎◌, inl, inr, List, [], ◌∷◌, Option, Some, None, Bool, true, false, cond, refl, sym, subst, ◌∙◌, arith, slice_set, is_some}
use Rattle.std.proofs.lemmas.Bool.Decides.{nat_tests}
use Rattle.md_dirs.proofs.Sound.{sound-created, sound-appended, sound-named, sound-without, sound-moved}
use Rattle.md_dirs.specs.State.{State, IsSound, file_at, file_by, has_folder}
use Rattle.md_dirs.specs.Calls.{with_path}
use Rattle.md_dirs.specs.declared.calls.DirError.TheVariants.{Exists, NotFound}
use Rattle.md_dirs.specs.declared.paths.File.{File}
use Rattle.md_dirs.specs.declared.paths.Path.{Path}
use Rattle.md_jobs.specs.Asked.{create, append, link, rename, unlink, list, ask_of, reply_by}
use Rattle.md_jobs.specs.declared.step.DirReply.{DirReply}
use Rattle.md_jobs.specs.declared.step.DirReply.TheVariants as reply
use Rattle.md_beside.specs.Story.{Did, asked, wrote, flushed, file_written, after_write, after_did}
use Rattle.md_beside.specs.Beside.{reply_due}

inside : (s : State) (p : Path) → has_folder s p ≡ true → p.folder < s.folders
inside s p is = grind (arith, nat_tests, is)

-- what is so where a call is done
create-open : (s : State) (p : Path) (now : ℕ) → reply_by ((ask_of (create p) now).refusal s) ≡ reply.Ok →
    (p.folder < s.folders) × (file_at s p ≡ None)
create-open s p now = by (has_folder s p) refl (file_at s p) refl
  where
    by : (b : Bool) → has_folder s p ≡ b → (o : Option ℕ) → file_at s p ≡ o →
        reply_by (cond b (cond (is_some o) (Some Exists) None) (Some NotFound)) ≡ reply.Ok → (p.folder < s.folders) × (file_at s p ≡ None)
    by true b None o ok = (inside s p b, o)
    by true b (Some n) o ok = cc
    by false b o' o ok = cc

link-open : (s : State) (o n : Path) (now : ℕ) → reply_by ((ask_of (link o n) now).refusal s) ≡ reply.Ok →
    (k : ℕ) × (file_at s o ≡ Some k) × (n.folder < s.folders) × (file_at s n ≡ None)
link-open s o n now = by (file_at s o) refl (has_folder s n) refl (file_at s n) refl
  where
    by : (from : Option ℕ) → file_at s o ≡ from → (b : Bool) → has_folder s n ≡ b → (to : Option ℕ) → file_at s n ≡ to →
        reply_by (cond (is_some from) (cond b (cond (is_some to) (Some Exists) None) (Some NotFound)) (Some NotFound)) ≡ reply.Ok →
        (k : ℕ) × (file_at s o ≡ Some k) × (n.folder < s.folders) × (file_at s n ≡ None)
    by (Some k) from true b None to ok = (k, from, inside s n b, to)
    by (Some k) from true b (Some m) to ok = cc
    by (Some k) from false b to' to ok = cc
    by None from b' b to' to ok = cc

rename-open : (s : State) (o n : Path) (now : ℕ) → reply_by ((ask_of (rename o n) now).refusal s) ≡ reply.Ok →
    (k : ℕ) × (file_at s o ≡ Some k) × (n.folder < s.folders)
rename-open s o n now = by (file_at s o) refl (has_folder s n) refl
  where
    by : (from : Option ℕ) → file_at s o ≡ from → (b : Bool) → has_folder s n ≡ b →
        reply_by (cond (is_some from) (cond b None (Some NotFound)) (Some NotFound)) ≡ reply.Ok →
        (k : ℕ) × (file_at s o ≡ Some k) × (n.folder < s.folders)
    by (Some k) from true b ok = (k, from, inside s n b)
    by (Some k) from false b ok = cc
    by None from b' b ok = cc

-- a write keeps which files are there
some-written : (bytes : List ℕ) (now : ℕ) (r : DirReply) (o : Option File) → is_some (file_written bytes now r o) ≡ is_some o
some-written bytes now r None = refl
some-written bytes now reply.Ok (Some file) = refl
some-written bytes now reply.Exists (Some file) = refl
some-written bytes now reply.NotFound (Some file) = refl
some-written bytes now reply.Fault (Some file) = refl

same-some : (bytes : List ℕ) (now : ℕ) (r : DirReply) (files : List (Option File)) (n m : ℕ) →
    is_some (file_by (slice_set files n (file_written bytes now r (file_by files n))) m) ≡ is_some (file_by files m)
same-some bytes now r [] n m = refl
same-some bytes now r (f ∷ files) zero zero = some-written bytes now r f
same-some bytes now r (f ∷ files) zero (suc m) = refl
same-some bytes now r (f ∷ files) (suc n) zero = refl
same-some bytes now r (f ∷ files) (suc n) (suc m) = same-some bytes now r files n m

module _ (s : State) (sound : IsSound s) where
  sound-written : (bytes : List ℕ) (now : ℕ) (r : DirReply) (o : Option ℕ) → IsSound (after_write bytes now r s o)
  sound-written bytes now r None = sound
  sound-written bytes now r (Some n) = record {
    housed = sound.housed;
    filed = λ q m at. same-some bytes now r s.files n m ∙ sound.filed q m at;
    has_path = λ m there. sound.has_path m (sym (same-some bytes now r s.files n m) ∙ there);
  }

  pub sound-did : (d : Did) (now : ℕ) (r : DirReply) → (r ≡ reply_due s d now) ⊎ (r ≡ reply.Fault) → IsSound (after_did d now r s)
  sound-did (asked (create p)) now reply.Ok (inl due) = let open_ = create-open s p now (sym due) in
      sound-created s sound p now open_.0 open_.1
  sound-did (asked (append p bytes)) now reply.Ok (inl due) = sound-appended s sound bytes now (file_at s p)
  sound-did (asked (link old new)) now reply.Ok (inl due) =
      let at = link-open s old new now (sym due) in
      subst (λ (o : Option ℕ). IsSound (with_path new s o)) (sym at.1) (sound-named s sound new old at.0 at.2 at.3 at.1)
  sound-did (asked (rename old new)) now reply.Ok (inl due) = let at = rename-open s old new now (sym due) in
      sound-moved s sound old new at.0 at.2 at.1
  sound-did (asked (unlink p)) now reply.Ok (inl due) = sound-without s sound p
  sound-did (asked (list folder place)) now reply.Ok (inl due) = sound
  sound-did (asked a) now reply.Ok (inr fault) = cc
  sound-did (asked a) now reply.Exists due = sound
  sound-did (asked a) now reply.NotFound due = sound
  sound-did (asked a) now reply.Fault due = sound
  sound-did (wrote p bytes) now r due = sound-written bytes now r (file_at s p)
  sound-did (flushed p) now r due = sound
