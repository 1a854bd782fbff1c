-- An errand that looks in new and then in cur, and finds its message in neither: at a moment between its looks the message was in neither,
-- as long as no message of cur comes back to new.
use Rattle.std.proofs.Common.{ℕ, suc, ◌≡◌, ◌≤◌, ◌<◌, ◌⊎◌, inl, inr, List, Option, Some, None, Bool, true, false, cond, not, ◌&&◌, refl, sym, ap, subst, ◌∙◌, arith}
use Rattle.std.proofs.lemmas.Bool.{eqb-true}
use Rattle.std.specs.FinMap.{get}
use Rattle.md_dirs.specs.State.{State}
use Rattle.md_dirs.specs.declared.paths.Path.{Path}
use Rattle.md_dirs.specs.declared.paths.Place.{Place}
use Rattle.md_dirs.specs.declared.paths.Place.TheVariants.{Tmp, New, Cur}
use Rattle.md_name.specs.Names.{is_message_name}
use Rattle.md_jobs.specs.Machines.Purposes.{searches}
use Rattle.md_jobs.specs.Tasks.Errand.{Stage, Look, Act}
use Rattle.md_core.specs.Alone.{entry_if, is_in_folder, is_in_place}
use Rattle.md_core.specs.Machine.{Standing, working, answered}
use Rattle.md_core.specs.Mailbox.{Entry, HasOnePath, mailbox_of, entry_of}
use Rattle.md_used.specs.Paths.{is_message, is_tmp}
use Rattle.md_core.specs.Tasks.Task.{Task, Deliver, Errand, Clean}
use Rattle.md_core.proofs.Answers.Turns.OneMessage.{HasLooked}
use Rattle.md_core.proofs.Mailbox.Shown.{mailbox-shows, shows-mailbox}
use Rattle.md_core.proofs.Machines.Errand.Marked.{such-there}
use Rattle.md_law.specs.Messages.{IsMessageAt}
use Rattle.md_law.specs.Clauses.{MovedBack}
use Rattle.md_beside.specs.Story.{Story, Step, ours, step_at, state}
use Rattle.md_beside.specs.Beside.{IsStory, IsStepOf, IsInSpan}
use Rattle.md_beside.proofs.Histories.{next_at}
use Rattle.md_beside.proofs.StaysForward.{comes-back}

-- the message is not in the folder
abbrev pub IsAbsent : State → ℕ → List ℕ → Type 0
IsAbsent s folder u = entry_if (is_in_folder folder) (get (mailbox_of s) u) ≡ None

-- it is in this directory of the folder
abbrev pub IsIn : State → ℕ → List ℕ → Place → Type 0
IsIn s folder u place = (p : Path) × (n : ℕ) × IsMessageAt s folder u p n × (p.place ≡ place)

-- a message is in new or in cur
place-of : (p : Path) → is_message p ≡ true → (p.place ≡ New) ⊎ (p.place ≡ Cur)
place-of p message = by p.place refl message
  where
    by : (place : Place) → p.place ≡ place → (not (is_tmp place) && is_message_name p.name) ≡ true → (p.place ≡ New) ⊎ (p.place ≡ Cur)
    by Tmp is message' = cc
    by New is message' = inl is
    by Cur is message' = inr is

where-is : (s : State) (folder : ℕ) (u : List ℕ) → IsAbsent s folder u ⊎ (IsIn s folder u New ⊎ IsIn s folder u Cur)
where-is s folder u = by (get (mailbox_of s) u) refl
  where
    here : (e : Entry) → get (mailbox_of s) u ≡ Some e → is_in_folder folder e ≡ true → IsIn s folder u New ⊎ IsIn s folder u Cur
    here e is inside =
        let h = mailbox-shows s u e is in
        let same : h.path.folder ≡ folder = ap (λ (x : Entry). x.folder) h.entry ∙ eqb-true _ _ inside in
        elim (place-of h.path h.message) [
          | inl new ↦ inl (h.path, h.file, (h.there, (h.message, same, h.unique)), new)
          | inr cur ↦ inr (h.path, h.file, (h.there, (h.message, same, h.unique)), cur)
        ]

    found : (e : Entry) → get (mailbox_of s) u ≡ Some e → (b : Bool) → is_in_folder folder e ≡ b →
        (cond b (Some e) None ≡ None) ⊎ (IsIn s folder u New ⊎ IsIn s folder u Cur)
    found e is true inside = inr (here e is inside)
    found e is false outside = inl refl

    by : (o : Option Entry) → get (mailbox_of s) u ≡ o →
        (entry_if (is_in_folder folder) o ≡ None) ⊎ (IsIn s folder u New ⊎ IsIn s folder u Cur)
    by None is = inl refl
    by (Some e) is = found e is (is_in_folder folder e) refl

-- what a directory of the folder shows, a look in it finds
not-found : (s : State) → HasOnePath s → (folder : ℕ) (u : List ℕ) (place : Place) → IsIn s folder u place →
    entry_if (is_in_place place folder) (get (mailbox_of s) u) ≡ None → ⊥
not-found s one folder u place (p, n, is, at) none =
    let there = shows-mailbox s u (entry_of s p n) one
    (record { path = p; file = n; there = is.0; message = is.1.0; unique = is.1.2; entry = refl }) in
    let found = such-there place folder (get (mailbox_of s) u) (entry_of s p n) there is.1.1 at in cc

-- since a look of the job the message was absent once, or it is in cur
pub record Passed (t : Story) (job k folder : ℕ) (u : List ℕ) : Type 0 where
  pub look : ℕ
  pub own : IsStepOf t job look
  pub before : look < k
  pub is : ((m : ℕ) × (look ≤ m) × (m ≤ k) × IsAbsent (state t m) folder u) ⊎ IsIn (state t k) folder u Cur

-- so it is of a job that has looked in new, where it looks in both
abbrev pub PassedAt : Story → ℕ → ℕ → ℕ → List ℕ → Bool → Stage → Type 0
PassedAt t job k folder u both (Look place tries) = both ≡ true → place ≡ Cur → Passed t job k folder u
PassedAt t job k folder u both (Act place row tries) = Unit {0}

abbrev pub PassedBy : Story → ℕ → ℕ → Task → Type 0
PassedBy t job k (Errand e) = PassedAt t job k e.folder e.unique (searches e.purpose) e.stage
PassedBy t job k (Deliver d) = Unit {0}
PassedBy t job k (Clean c) = Unit {0}

abbrev pub HasPassed : Story → ℕ → ℕ → Standing → Type 0
HasPassed t job k (working task) = PassedBy t job k task
HasPassed t job k (answered a) = Unit {0}

module _ (t : Story) (story : IsStory t) (k job : ℕ) (x : Step) (is : step_at t k ≡ Some x) (one : HasOnePath (state t k)) where
  -- ---- a look in new

  module _ (who : x.who ≡ ours job) (same : state t (suc k) ≡ state t k) (folder : ℕ) (u : List ℕ)
      (none : entry_if (is_in_place New folder) (get (mailbox_of (state t k)) u) ≡ None) where
    looked : Passed t job (suc k) folder u
    looked = record {
      look = k;
      own = record { step = x; at = is; own = who };
      before = omega arith;
      is = elim (where-is (state t k) folder u) [
        | inl absent ↦ inl (k, omega arith, omega arith, absent)
        | inr (inl new) ↦ absurd (not-found (state t k) one folder u New new none)
        | inr (inr cur) ↦ inr (subst (λ (s : State). IsIn s folder u Cur) (sym same) cur)
      ];
    }

  pub looked-at : x.who ≡ ours job → state t (suc k) ≡ state t k → (task : Task) → HasLooked (state t k) task → PassedBy t job (suc k) task
  looked-at who same (Errand e) has = by e.stage has
    where
      by : (stage : Stage) → HasLooked (state t k) (Errand (record e { stage = stage })) →
          PassedAt t job (suc k) e.folder e.unique (searches e.purpose) stage
      by (Look place tries) has' = λ both cur. looked who same e.folder e.unique (has' both cur)
      by (Act place row tries) has' = tt
  looked-at who same (Deliver d) has = tt
  looked-at who same (Clean c) has = tt

  -- ---- any step

  module _ (one' : HasOnePath (state t (suc k))) (forward : MovedBack (next_at t k x) → ⊥) where
    passes : (folder : ℕ) (u : List ℕ) → Passed t job k folder u → Passed t job (suc k) folder u
    passes folder u passed =
        let low = passed.before in
        record {
          look = passed.look;
          own = passed.own;
          before = omega (arith, low);
          is = elim passed.is [
            | inl (m, after, before, absent) ↦ inl (m, after, omega (arith, before), absent)
            | inr cur ↦ elim (where-is (state t (suc k)) folder u) [
              | inl absent ↦ inl (suc k, omega (arith, low), omega arith, absent)
              | inr (inl new) ↦ absurd (forward
                  (comes-back t story k x is one one' folder u cur.0 new.0 cur.1 new.1 cur.2 cur.3 new.2 new.3))
              | inr (inr still) ↦ inr still
            ]
          ];
        }

    passes-at : (folder : ℕ) (u : List ℕ) (both : Bool) (stage : Stage) → PassedAt t job k folder u both stage →
        PassedAt t job (suc k) folder u both stage
    passes-at folder u both (Look place tries) passed = λ looks cur. passes folder u (passed looks cur)
    passes-at folder u both (Act place row tries) passed = tt

    passes-by : (task : Task) → PassedBy t job k task → PassedBy t job (suc k) task
    passes-by (Errand e) passed = passes-at e.folder e.unique (searches e.purpose) e.stage passed
    passes-by (Deliver d) passed = tt
    passes-by (Clean c) passed = tt

    pub passes-beside : (st : Standing) → HasPassed t job k st → HasPassed t job (suc k) st
    passes-beside (working task) passed = passes-by task passed
    passes-beside (answered a) passed = tt

  -- ---- a look in cur that finds none

  pub absent-once : x.who ≡ ours job → (folder : ℕ) (u : List ℕ) → Passed t job k folder u →
      entry_if (is_in_place Cur folder) (get (mailbox_of (state t k)) u) ≡ None → (m : ℕ) × IsInSpan t job m × IsAbsent (state t m) folder u
  absent-once who folder u passed none = elim passed.is [
    | inl (m, after, before, absent) ↦ (
      m,
      record {
        from = passed.look;
        to = k;
        begun = passed.own;
        goes_on = record { step = x; at = is; own = who };
        after = after;
        before = omega (arith, before);
      },
      absent,
    )
    | inr cur ↦ absurd (not-found (state t k) one folder u Cur cur none)
  ]
