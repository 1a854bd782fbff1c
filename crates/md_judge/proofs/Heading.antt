-- What a session holds after a line of the beginning.
use Rattle.std.proofs.Common.{ℕ, suc, ◌≡◌, ◌≢◌, ◌+◌, inl, inr, List, [], ◌++◌, ◌∷◌, Bool, true, false, Option, Some, None, is_some, is_none, is_ok, Result, Ok, Err, OnOk, IfErr, length, nat_lt, refl, sym, ap, subst, ◌∙◌, arith}
use Rattle.std.proofs.lemmas.List.{length_push}
use Rattle.md_dirs.specs.State.{State, file_at}
use Rattle.md_dirs.specs.Calls.{with_path}
use Rattle.md_dirs.specs.declared.paths.Path.{Path}
use Rattle.md_text.specs.Bind.{◌>>=◌, require}
use Rattle.md_text.specs.Folders.{place_of}
use Rattle.md_log.specs.Folders.{most_folders, with_folder}
use Rattle.md_log.specs.declared.error.LineFault.{LineFault}
use Rattle.md_log.specs.declared.error.LineFault.TheVariants.{NoMemory, SameFolder, TooManyFolders}
use Rattle.md_law.specs.History.{Moment, opening}
use Rattle.md_watch.specs.declared.watch.Watch.{Watch}
use Rattle.md_watch.specs.Watches.{Holds, PutsFile, PutsName, IsPathRefused, IsNameRefused, with_folder as with_more}
use Rattle.md_judge.specs.declared.session.Session.{Session}
use Rattle.md_judge.specs.Logs.{Log, with_folder_line, with_file_line, with_also_line}
use Rattle.md_judge.specs.Placed.{HasPlaced, KeepsBeginning}
use Rattle.md_judge.specs.Taken.{Agrees}
use Rattle.md_judge.specs.Verdict.{beginning}
use Rattle.md_judge.proofs.Beginning.{placed-beginning, beginning-placed, begins}
use Rattle.md_judge.proofs.Lines.{with-file, with-name, with-folders, file-is, also-is, folder-is, file-done, same-path, name-done, same-name, no-path, folder-done, folder-wrong}

one-folder : (fs more : List (List ℕ)) (name : List ℕ) → with_folder fs name ≡ Ok more → length more ≡ suc (length fs)
unfolding with_folder
one-folder fs more name is = by (is_none (place_of fs name)) (nat_lt (length fs) most_folders) is
  where
    by : (a b : Bool) → (require a SameFolder >>= (λ _. require b TooManyFolders >>= (λ _. Ok (fs ++ name ∷ [])))) ≡ Ok more → length more ≡ suc (length fs)
    by false b is = absurd (cc)
    by true false is = absurd (cc)
    by true true is = let same : fs ++ name ∷ [] ≡ more = cc is in ap length (sym same) ∙ (let long = length_push fs name in omega (arith, long))

-- what is so before the first step
abbrev pub first : Log → Moment
first l = record { state = l.opening; now = 0 }

none-some : {A : Type 0} (o : Option A) → o ≡ None → is_some o ≡ false
none-some o is = ap is_some is

module _ (number : ℕ) (l : Log) (s : Session) (p : HasPlaced number l s) (none : l.steps ≡ []) where
  -- the watch holds it
  pub held : Holds (opening (first l)) s.watch
  held = (placed-beginning number l s none p).holds

  module _ (l' : Log) (t : Session) (keeps : KeepsBeginning s t) where
    pub folder-head : (name : List ℕ) → with_folder s.folders name ≡ Ok t.folders → Holds (opening (with_more (first l))) t.watch
        → with_folder_line l name ≡ Ok l' → HasPlaced (suc number) l' t
    folder-head name has holds is =
        let b = placed-beginning number l s none p in
        let has' : with_folder l.folders name ≡ Ok t.folders = ap (λ fs. with_folder fs name) (sym b.folders) ∙ has in
        let more : l.opening.folders + 1 ≡ length t.folders = (let one = one-folder l.folders t.folders name has' in let housed = b.housed in omega (arith, one, housed)) in
        subst (λ (m : Log). HasPlaced (suc number) m t) (folder-is l l' name t.folders has' is)
        (beginning-placed (suc number) (with-folders l t.folders) t (begins l (with-folders l t.folders) s t b refl refl refl keeps.begun keeps.stretch
        (λ i. (keeps.findings i).items) keeps.allowed
        (subst (λ n. Holds (opening (record { state = record l.opening { folders = n }; now = 0 })) t.watch) more holds) refl))

    pub file-head : (path : Path) (stamp : ℕ) → t.folders ≡ s.folders → PutsFile (first l) path stamp t.watch → with_file_line l path stamp ≡ Ok l'
        → HasPlaced (suc number) l' t
    file-head path stamp folders puts is =
        let b = placed-beginning number l s none p in
        subst (λ (m : Log). HasPlaced (suc number) m t) (file-is l l' path stamp is)
        (beginning-placed (suc number) (with-file l path stamp) t (begins l (with-file l path stamp) s t b refl refl (folders ∙ b.folders) keeps.begun
        keeps.stretch (λ i. (keeps.findings i).items) keeps.allowed puts.1 b.housed))

    pub name-head : (path old : Path) → t.folders ≡ s.folders → PutsName (first l) path old t.watch → with_also_line l path old ≡ Ok l'
        → HasPlaced (suc number) l' t
    name-head path old folders puts is =
        let b = placed-beginning number l s none p in
        let some : with-name l path (Some puts.0) ≡ l' = ap (with-name l path) (sym puts.2) ∙ also-is l l' path old is in
        subst (λ (m : Log). HasPlaced (suc number) m t) some
        (beginning-placed (suc number) (with-name l path (Some puts.0)) t (begins l (with-name l path (Some puts.0)) s t b refl refl
        (folders ∙ b.folders) keeps.begun keeps.stretch (λ i. (keeps.findings i).items) keeps.allowed puts.3 b.housed))

-- ---- what is answered

module _ (l : Log) where
  pub file-agrees : {A : Type 0} (r : Result A LineFault) (w : Watch) (path : Path) (stamp : ℕ) → OnOk r (PutsFile (first l) path stamp w)
      → IfErr r (λ fault. fault ≢ NoMemory → IsPathRefused (first l) path fault) → Agrees r (with_file_line l path stamp)
  file-agrees (Ok x) w path stamp puts refused = ap is_ok (file-done l path stamp (none-some _ puts.0))
  file-agrees (Err e) w path stamp puts refused = λ known. let why = refused known in same-path l path stamp why.1 ∙ ap Err (sym why.0)

  pub name-agrees : {A : Type 0} (r : Result A LineFault) (w : Watch) (path old : Path) → OnOk r (PutsName (first l) path old w)
      → IfErr r (λ fault. fault ≢ NoMemory → IsNameRefused (first l) path old fault) → Agrees r (with_also_line l path old)
  name-agrees (Ok x) w path old puts refused = ap is_ok (name-done l path old (none-some _ puts.1) (ap is_some puts.2))
  name-agrees (Err e) w path old puts refused = λ known. elim (refused known) [
    | inl why ↦ same-name l path old why.1 ∙ ap Err (sym why.0)
    | inr why ↦ no-path l path old (none-some _ why.1) (none-some _ why.2) ∙ ap Err (sym why.0)
  ]

  pub folder-agrees : {A : Type 0} (r : Result A LineFault) (old new : List (List ℕ)) (name : List ℕ) → old ≡ l.folders
      → OnOk r (with_folder old name ≡ Ok new) → IfErr r (λ fault. fault ≢ NoMemory → with_folder old name ≡ Err fault)
      → Agrees r (with_folder_line l name)
  folder-agrees (Ok x) old new name same done refused =
      ap is_ok (folder-done l name new (ap (λ fs. with_folder fs name) (sym same) ∙ done))
  folder-agrees (Err e) old new name same done refused = λ known.
      folder-wrong l name e (ap (λ fs. with_folder fs name) (sym same) ∙ refused known)
