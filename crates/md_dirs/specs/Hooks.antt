-- Directories with a hook.
use Rattle.std.specs.Prelude.{ℕ, ◌≡◌, ◌+◌, Bool, false, Result, IsErrOf, IsTrue}
use Rattle.md_dirs.specs.Calls.{Ask, Device, Obeys}
use Rattle.md_dirs.specs.declared.hooked.Called.{Called}
use Rattle.md_dirs.specs.declared.hooked.Hooked.{Hooked}
use Rattle.md_dirs.specs.declared.calls.DirError.{DirError}
use Rattle.md_dirs.specs.declared.calls.DirError.TheVariants.{Fault}

-- the directories inside, whose failures and calls are counted with those that a hook stopped
abbrev pub and_own : {D H : Type 0} → (D → Device) → (H → ℕ) → Hooked D H → Device
and_own device stopped h = record (device h.dirs) {
  failures = (device h.dirs).failures + stopped h.hook;
  calls = (device h.dirs).calls + stopped h.hook;
}

-- What a call of them answers and leaves.
pub record IsTurn {D H T : Type 0} (device : D → Device) (admits : H → Called → Bool) (leaves : H → Called → H → Type 0) (called : Called)
    (ask : Ask) (old : Hooked D H) (answer : Result T DirError) (new : Hooked D H) : Type 0 where
  -- a call that the hook doesn't let through fails, and the directories inside are not called
  pub stopped : admits old.hook called ≡ false → IsErrOf answer Fault × (device new.dirs ≡ device old.dirs)
  -- any other is theirs
  pub passed : IsTrue (admits old.hook called) → Obeys ask (device old.dirs) answer (device new.dirs)
  -- the hook is asked of each, whatever it answers
  pub asked : leaves old.hook called new.hook
