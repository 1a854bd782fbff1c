-- The steps of others keep to one path for each message.
use Rattle.std.proofs.Common.{ℕ, suc, ◌≡◌, ◌≤◌, inl, inr, List, Some, None, true, refl, sym, subst, ◌∙◌, arith, length, take}
use Rattle.std.proofs.lemmas.Bool.{cases_lt}
use Rattle.std.proofs.lemmas.List.{take_all}
use Rattle.md_dirs.proofs.Sound.{by_path, by_number}
use Rattle.md_dirs.specs.State.{file_at}
use Rattle.md_dirs.specs.declared.paths.Path.{Path}
use Rattle.md_name.specs.Names.{unique_of}
use Rattle.md_core.specs.Mailbox.{HasOnePath}
use Rattle.md_used.specs.Paths.{is_message}
use Rattle.md_law.specs.Clauses.{TwoNames}
use Rattle.md_law.specs.History.{History, at, before}
use Rattle.md_law.specs.Law.{InTwoFolders}
use Rattle.md_beside.specs.Story.{Story, Step, step_at, state, state_after}
use Rattle.md_beside.specs.Beside.{IsStory}
use Rattle.md_beside.proofs.Histories.{next_at, history-next, at-history}

module _ (h : History) (one : HasOnePath (at (before h))) (two : TwoNames h → ⊥) (folders : InTwoFolders h → ⊥) where
  -- a path that was added is the only one of its message
  added : (p q : Path) (m n : ℕ) → file_at (at (before h)) p ≡ None → file_at (at h) p ≡ Some m → file_at (at h) q ≡ Some n →
      is_message p ≡ true → is_message q ≡ true → unique_of p.name ≡ unique_of q.name → p ≡ q
  added p q m n was is is' message message' same = by_path p q (λ e. e) (λ differ. by_number p.folder q.folder
      (λ here. absurd (two (p, q, m, n, (was, is), message, differ, (is', (message', sym here, sym same)))))
      (λ there. absurd (folders (p, q, m, n, (was, is), message, there, (is', (message', refl, sym same))))))

  one_path-kept : HasOnePath (at h)
  one_path-kept p q m n is is' message message' same =
      elim (file_at (at (before h)) p) as (λ o. file_at (at (before h)) p ≡ o → p ≡ q) [
        | None ↦ λ was. added p q m n was is is' message message' same
        | Some m' ↦ λ was. elim (file_at (at (before h)) q) as (λ o. file_at (at (before h)) q ≡ o → p ≡ q) [
          | None ↦ λ was'. sym (added q p n m was' is' is message' message (sym same))
          | Some n' ↦ λ was'. one p q m' n' was was' message message' same
        ] refl
      ] refl

-- no message gets a second path by a step that breaks neither of the two clauses
pub one_path-stays : (t : Story) → IsStory t → (k : ℕ) (x : Step) → step_at t k ≡ Some x → (TwoNames (next_at t k x) → ⊥) →
    (InTwoFolders (next_at t k x) → ⊥) → HasOnePath (state t k) → HasOnePath (state t (suc k))
one_path-stays t story k x is one_name one_folder one =
    let first : HasOnePath (at (before (next_at t k x))) = subst HasOnePath (sym (at-history t story k)) one in
    let then = one_path-kept (next_at t k x) first one_name one_folder in
    subst HasOnePath (at-history t story (suc k)) (subst (λ (h : History). HasOnePath (at h)) (sym (history-next t k x is)) then)

-- where each message has one path at each moment of a story's steps, it has one at each moment
pub one-always : (t : Story) → ((k : ℕ) → k ≤ length t.steps → HasOnePath (state t k)) → (k : ℕ) → HasOnePath (state t k)
one-always t one k = elim (cases_lt k (length t.steps)) [
  | inl within ↦ one k (omega (arith, within))
  | inr past ↦
      let all : take k t.steps ≡ take (length t.steps) t.steps =
      take_all k t.steps (omega (arith, past)) ∙ sym (take_all (length t.steps) t.steps (omega arith)) in
      subst (λ (steps : List Step). HasOnePath (state_after t.image steps)) (sym all) (one (length t.steps) (omega arith))
]
