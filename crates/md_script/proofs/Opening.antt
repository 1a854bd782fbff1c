-- The store of a session, opened where it was not.
use Rattle.std.proofs.Common.{◌≡◌, ℕ, List, [], ◌∷◌, ◌++◌, Option, Some, None, true, false, is_some, length, Result, Ok, refl, sym, ap, subst, ◌∙◌}
use Rattle.md_dirs.specs.declared.image.ImageFile.{ImageFile}
use Rattle.md_core.specs.Runs.{Run}
use Rattle.md_script.specs.Sessions.{Session, ScriptStore, files_beside, new_store, store_of, with_store, run_over}
use Rattle.md_text.specs.Bind.{◌>>=◌}
use Rattle.md_script.specs.declared.error.PlayKind.{PlayKind}

-- the session that the parts of a store are
abbrev pub held : List (List ℕ) → List ImageFile → Option ScriptStore → Session
held folders files store = record { folders = folders; files = files_beside store files; store = store }

-- what opening leaves
abbrev pub Opened : Session → Session → Type 0
Opened s t = (u : ScriptStore) × (store_of s ≡ Ok u) × (t ≡ with_store s u)

pub was_open : (s : Session) (folders : List (List ℕ)) (files : List ImageFile) (store : Option ScriptStore) → held folders files store ≡ s →
    is_some store ≡ true → Opened s s
was_open s folders files None is some = cc
was_open s folders files (Some u) is some = subst (λ (t : Session). Opened t t) is (u, refl, refl)

pub is_opened : (s t : Session) (folders : List (List ℕ)) (files : List ImageFile) (store : Option ScriptStore) (r : Run) → held folders files store ≡ s →
    is_some store ≡ false
    → (count : ℕ) (taken : List ImageFile) → count ≡ length folders → taken ≡ files → run_over count taken ≡ Ok r →
    t ≡ held folders files (Some (new_store r)) → Opened s t
is_opened s t folders files None r is none count taken all same made after =
    let opens : run_over (length folders) files ≡ Ok r = sym (λ i. run_over (all i) (same i)) ∙ made in
    subst (λ (u : Session). Opened u t) is (new_store r, ap (λ (x : Result Run PlayKind). x >>= (λ r. Ok (new_store r))) opens, after)
is_opened s t folders files (Some other) r is none count taken all same made after = cc

-- a session with a file more
pub with_file : (s : Session) (folders : List (List ℕ)) (files : List ImageFile) (store : Option ScriptStore) (file : ImageFile) → held folders files store ≡ s
    → held folders (files ++ file ∷ []) store ≡ record s { files = files_beside s.store (s.files ++ file ∷ []) }
with_file s folders files None file is =
    subst (λ (t : Session). held folders (files ++ file ∷ []) None ≡ record t { files = files_beside t.store (t.files ++ file ∷ []) }) is refl
with_file s folders files (Some u) file is =
    subst (λ (t : Session). held folders (files ++ file ∷ []) (Some u) ≡ record t { files = files_beside t.store (t.files ++ file ∷ []) }) is refl
