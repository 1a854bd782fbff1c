-- What the number of a clean says: it looked, and then took away one old name after another, or found it gone.
use Rattle.std.proofs.Common.{ℕ, suc, ◌≡◌, ◌⊎◌, ◌+◌, ◌-◌, ◌++◌, inl, inr, List, [], ◌∷◌, Some, Bool, true, false, cond, map, filter, take, length, refl, sym, ap, subst, ◌∙◌, arith}
use Rattle.std.specs.List.{All}
use Rattle.std.specs.Prelude.{count_by}
use Rattle.std.proofs.lemmas.List.{append-nil, append_assoc, map-append, take_all}
use Rattle.std.proofs.lemmas.List.Elements.{filter-append, All-nil, All-cons, All-append}
use Rattle.std.proofs.lemmas.List.Sums.{sum_by-append}
use Rattle.md_dirs.specs.Path.{path_of as path}
use Rattle.md_dirs.specs.Rows.{rows_of}
use Rattle.md_dirs.specs.declared.paths.Place.TheVariants.{Tmp}
use Rattle.md_dirs.specs.declared.rows.Row.{Row}
use Rattle.md_jobs.specs.Asked.{list, unlink}
use Rattle.md_jobs.specs.Machines.Clean.{old_names, after_next, stage_turn}
use Rattle.md_jobs.specs.Tasks.Cleaning.{Cleaning, Stage, Look, Remove}
use Rattle.md_jobs.specs.Turn.{Turn, rows_for}
use Rattle.md_jobs.specs.declared.answer.Answer.TheVariants as answer
use Rattle.md_jobs.specs.declared.call.Call.{Call}
use Rattle.md_jobs.specs.declared.call.Call.TheVariants as call
use Rattle.md_jobs.specs.declared.step.DirReply.{DirReply}
use Rattle.md_jobs.specs.declared.step.DirReply.TheVariants as reply
use Rattle.md_core.specs.Answering.{is_ok, is_unused}
use Rattle.md_core.specs.Machine.{Standing, working, answered, standing_of}
use Rattle.md_core.specs.Tasks.Task.{Clean}
use Rattle.md_core.proofs.Lists.Places.{take-one_more}
use Rattle.md_core.proofs.Machines.Errand.Table.Calls.{each-new}
use Rattle.md_core.proofs.Traces.Few.{map-made}
use Rattle.md_beside.specs.Story.{Story, Step, Did, asked, ours, step_at, state, is_by, standing, standing_from}
use Rattle.md_beside.specs.Beside.{IsStepOf, IsClean, HasCleaned, IsCleaned}
use Rattle.md_beside.proofs.Acting.{itself, not-by}

-- the folder that a clean is of
abbrev pub folder_of : Call → ℕ
folder_of (call.Clean folder) = folder
folder_of c = 0

module _ (t : Story) (job folder : ℕ) where
  abbrev is_own : Step → Bool
  is_own x = is_by job x.who

  -- the job's own steps before moment k
  abbrev steps : ℕ → List Step
  steps k = filter is_own (take k t.steps)

  abbrev takes : List ℕ → Did
  takes name = asked (unlink (path folder Tmp name))

  abbrev IsFoundOrNot : Step → Type 0
  IsFoundOrNot x = (x.reply ≡ reply.Ok) ⊎ (x.reply ≡ reply.NotFound)

  -- before moment k it looked, and then took names away or found them gone; these names are left, and so many files will be counted
  pub record HasTaken (k : ℕ) (left : List (List ℕ)) (files : ℕ) : Type 0 where
    pub first : ℕ
    pub look : IsStepOf t job first
    pub unlinks : List Step
    pub steps_are : steps k ≡ look.step ∷ unlinks
    pub listed : look.step.did ≡ asked (list folder Tmp)
    pub ok : look.step.reply ≡ reply.Ok
    pub names : map (λ x. x.did) unlinks ++ map takes left
        ≡ map (λ row. takes row.name) (filter (is_unused look.step.at.own) (rows_of (state t first) folder Tmp))
    pub replies : All IsFoundOrNot unlinks
    pub count : files ≡ count_by (λ x. is_ok x.reply) unlinks + length left

  abbrev pub AtStage : ℕ → Stage → Type 0
  AtStage k Look = steps k ≡ []
  AtStage k (Remove name rest files) = HasTaken k (name ∷ rest) files

  abbrev pub Taking : ℕ → Standing → Type 0
  Taking k (working (Clean c)) = AtStage k c.stage
  Taking k (answered (answer.Cleaned n)) = HasTaken k [] n
  Taking k other = Unit {0}

  -- the next of the names that are left, or the answer
  next-taking : (k : ℕ) (c : Cleaning) (left : List (List ℕ)) (files : ℕ) → HasTaken k left files →
      Taking k (standing_of (Clean (after_next c left files).task) (after_next c left files).answer)
  next-taking k c [] files h = h
  next-taking k c (name ∷ rest) files h = h

  module _ (k : ℕ) (x : Step) (is : step_at t k ≡ Some x) where
    steps-next : steps (suc k) ≡ steps k ++ filter is_own (x ∷ [])
    steps-next = let more : suc k ≡ k + 1 = omega arith in
        ap steps more ∙ ap (filter is_own) (take-one_more t.steps k x is) ∙ filter-append is_own (take k t.steps) (x ∷ [])

    -- ---- a step of another

    module _ (not-own : x.who ≡ ours job → ⊥) where
      steps-beside : steps (suc k) ≡ steps k
      steps-beside = steps-next ∙ ap (λ b. steps k ++ cond b (x ∷ []) []) (not-by job x.who not-own) ∙ append-nil (steps k)

      taken-beside : (left : List (List ℕ)) (files : ℕ) → HasTaken k left files → HasTaken (suc k) left files
      taken-beside left files h = record {
        first = h.first;
        look = h.look;
        unlinks = h.unlinks;
        steps_are = steps-beside ∙ h.steps_are;
        listed = h.listed;
        ok = h.ok;
        names = h.names;
        replies = h.replies;
        count = h.count;
      }

      stage-beside : (stage : Stage) → AtStage k stage → AtStage (suc k) stage
      stage-beside Look none = steps-beside ∙ none
      stage-beside (Remove name rest files) h = taken-beside (name ∷ rest) files h

      pub taking-beside : (st : Standing) → Taking k st → Taking (suc k) st
      taking-beside (working (Clean c)) now = stage-beside c.stage now
      taking-beside (answered (answer.Cleaned n)) now = taken-beside [] n now
      taking-beside other now = tt

    -- ---- a step of its own

    module _ (who : x.who ≡ ours job) where
      abbrev this : IsStepOf t job k
      this = record { step = x; at = is; own = who }

      steps-own : steps (suc k) ≡ steps k ++ x ∷ []
      steps-own = let own : is_own x ≡ true = ap (is_by job) who ∙ itself job in
          steps-next ∙ ap (λ b. steps k ++ cond b (x ∷ []) []) own

      look-taken : steps k ≡ [] → x.did ≡ asked (list folder Tmp) → x.reply ≡ reply.Ok →
          let old = old_names x.at.own (rows_of (state t k) folder Tmp) in HasTaken (suc k) old (length old)
      look-taken none did ok = record {
        first = k;
        look = this;
        unlinks = [];
        steps_are = steps-own ∙ ap (λ (xs : List Step). xs ++ x ∷ []) none;
        listed = did;
        ok = ok;
        names = map-made (λ (row : Row). row.name) takes (filter (is_unused x.at.own) (rows_of (state t k) folder Tmp));
        replies = All-nil IsFoundOrNot;
        count = omega arith;
      }

      -- one name more
      more-taken : (name : List ℕ) (left : List (List ℕ)) (files files' : ℕ) → HasTaken k (name ∷ left) files → x.did ≡ takes name →
          IsFoundOrNot x → files' ≡ cond (is_ok x.reply) files (files - 1) → HasTaken (suc k) left files'
      more-taken name left files files' h did found counts =
          let split = sum_by-append (λ (y : Step). cond (is_ok y.reply) 1 0) h.unlinks (x ∷ []) in
          let before = h.count in
          record {
            first = h.first;
            look = h.look;
            unlinks = h.unlinks ++ x ∷ [];
            steps_are = steps-own ∙ ap (λ (xs : List Step). xs ++ x ∷ []) h.steps_are;
            listed = h.listed;
            ok = h.ok;
            names = ap (λ (xs : List Did). xs ++ map takes left) (map-append (λ (y : Step). y.did) h.unlinks (x ∷ []))
                ∙ append_assoc (map (λ (y : Step). y.did) h.unlinks) (x.did ∷ []) (map takes left)
                ∙ ap (λ (d : Did). map (λ (y : Step). y.did) h.unlinks ++ d ∷ map takes left) did ∙ h.names;
            replies = All-append IsFoundOrNot h.unlinks (x ∷ []) h.replies (All-cons IsFoundOrNot x [] found (All-nil IsFoundOrNot));
            count = elim found [
              | inl ok ↦
                  let is : is_ok x.reply ≡ true = ap is_ok ok in
                  let one : cond {A = ℕ} (is_ok x.reply) 1 0 ≡ 1 = ap (λ b. cond b 1 0) is in
                  let same : files' ≡ files = counts ∙ ap (λ b. cond b files (files - 1)) is in
                  omega (arith, before, split, one, same)
              | inr gone ↦
                  let is : is_ok x.reply ≡ false = ap is_ok gone in
                  let none : cond {A = ℕ} (is_ok x.reply) 1 0 ≡ 0 = ap (λ b. cond b 1 0) is in
                  let less : files' ≡ files - 1 = counts ∙ ap (λ b. cond b files (files - 1)) is in
                  omega (arith, before, split, none, less)
            ];
          }

      -- how it stands after its turn, by the stage and the reply
      abbrev pub TakingAfter : Turn Cleaning → DirReply → Type 0
      TakingAfter turn r = x.did ≡ asked turn.asked → x.reply ≡ r →
          Taking (suc k) (standing_of (Clean (turn.follows r (rows_for turn.asked (state t k))).task)
          (turn.follows r (rows_for turn.asked (state t k))).answer)

      module _ (c : Cleaning) (in_folder : c.folder ≡ folder) where
        next-taken : (name : List ℕ) (rest : List (List ℕ)) (files files' : ℕ) → HasTaken k (name ∷ rest) files →
            x.did ≡ asked (unlink (path c.folder Tmp name)) → IsFoundOrNot x → files' ≡ cond (is_ok x.reply) files (files - 1) →
            Taking (suc k) (standing_of (Clean (after_next c rest files').task) (after_next c rest files').answer)
        next-taken name rest files files' h did found counts = next-taking (suc k) c rest files'
            (more-taken name rest files files' h (did ∙ ap (λ f. asked (unlink (path f Tmp name))) in_folder) found counts)

        pub taking-own : (stage : Stage) → AtStage k stage → (r : DirReply) → TakingAfter (stage_turn c x.at.own stage) r
        taking-own Look none reply.Ok did replied =
            let old = old_names x.at.own (rows_of (state t k) c.folder Tmp) in
            next-taking (suc k) c old (length old)
            (subst (λ f. let names = old_names x.at.own (rows_of (state t k) f Tmp) in HasTaken (suc k) names (length names))
            (sym in_folder) (look-taken none (did ∙ ap (λ f. asked (list f Tmp)) in_folder) replied))
        taking-own (Remove name rest files) h reply.Ok did replied = next-taken name rest files files h did (inl replied)
            (sym (ap (λ r. cond (is_ok r) files (files - 1)) replied))
        taking-own (Remove name rest files) h reply.NotFound did replied = next-taken name rest files (files - 1) h did (inr replied)
            (sym (ap (λ r. cond (is_ok r) files (files - 1)) replied))
        taking-own (Remove name rest files) h reply.Exists did replied = tt
        taking-own (Remove name rest files) h reply.Fault did replied = tt
        taking-own Look none other did replied = tt

  -- ---- its answer

  pub has-cleaned : (n : ℕ) → HasTaken (length t.steps) [] n → HasCleaned t job folder n
  has-cleaned n h =
      let counted = h.count in
      record {
        k = h.first;
        look = h.look;
        unlinks = h.unlinks;
        steps = ap (filter is_own) (sym (take_all (length t.steps) t.steps (omega arith))) ∙ h.steps_are;
        listed = h.listed;
        ok = h.ok;
        names = sym (append-nil (map (λ (y : Step). y.did) h.unlinks)) ∙ h.names;
        replies = h.replies;
        count = omega (arith, counted);
      }

-- at the beginning it has taken no step
pub taking-first : (t : Story) (job folder : ℕ) (c : Call) → Taking t job folder 0 (standing t job c 0)
unfolding standing_from
taking-first t job folder c = each-new (λ c' st. Taking t job folder 0 st) (λ f u body chunk. tt) (λ f u p tries. tt) (λ f. refl) c

pub is-cleaned : (t : Story) (job : ℕ) (c : Call) → IsClean c → (n : ℕ) → HasCleaned t job (folder_of c) n → IsCleaned t job c n
is-cleaned t job (call.Clean folder) clean n has = has
is-cleaned t job other clean n has = absurd clean
