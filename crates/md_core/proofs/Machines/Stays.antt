-- A turn that changes nothing: the job goes on, or ends without an effect.
use Rattle.std.proofs.Common.{ℕ, ◌≡◌, ◌<◌, ◌⊎◌, List, Option, Some, None, Bool, true, false, refl, sym, ◌∙◌, MatchBool, MatchOption}
use Rattle.md_core.proofs.Values.{State, IsSound, Call, Effect, DirReply, Task, Answer, mailbox_of, HasOnePath, Asked, After, is_effect_at, is_success}
use Rattle.md_core.specs.Machine.{steps_left, working}
use Rattle.md_core.proofs.Induction.Good.{TaskFits, Found, IsFixed, IsOfSize, Settles, own_effect, Does}
use Rattle.md_core.proofs.Directories.Spares.{Spares, spares-all}

-- a job that has had no effect ends with an answer that says so
pub settles-none : (had : Option Effect) (a : Answer) → had ≡ None → is_success a ≡ false → Settles had a
settles-none had a none failure = by (is_success a) failure
  where
    by : (b : Bool) → b ≡ false → MatchBool b ((e : Effect) × (had ≡ Some e) × (e.answer ≡ a)) (had ≡ None)
    by true is = cc
    by false is = none

-- how a job of one kind stands, as one of a task
abbrev pub as_after : {T : Type 0} → (T → Task) → After T → After Task
as_after wrap a = record { task = wrap a.task; answer = a.answer; effect = a.effect }

module _ (s : State) (number : ℕ) (asked : Call) (task task' : Task) (made : Asked) (r : DirReply) (o : Option Answer) where
  pub stays-does : IsSound s → HasOnePath s → (o ≡ None → TaskFits s asked task') → is_effect_at asked made r o ≡ false →
      own_effect number task ≡ None → own_effect number task' ≡ None → MatchOption o (Unit {0}) (λ a. is_success a ≡ false) →
      MatchOption o (steps_left s (Some (working task')) < steps_left s (Some (working task))) (λ a. 0 < steps_left s (Some (working task))) → (o ≡ None → IsFixed task') →
      ((u : List ℕ) (size : ℕ) → o ≡ None → Found task' u size → Found task u size ⊎ IsOfSize (mailbox_of s) u size) →
      Does s s number asked task made r (record { task = task'; answer = o; effect = None })
  stays-does sound one fits no_effect none none' failure nearer fixed found = record {
    sound = sound;
    one_path = one;
    folders = refl;
    fits = fits;
    others = λ asked' task' apart h. h;
    none_overwritten = spared.none_overwritten;
    no_messages = spared.no_messages;
    as_alone = refl;
    is_effect = sym no_effect;
    first = tt;
    found = found;
    effect = tt;
    settles = settles o failure;
    nearer = nearer;
    fixed = fixed;
  }
    where
      spared : Spares s s
      spared = spares-all s s refl (λ q. refl)

      settles : (x : Option Answer) → MatchOption x (Unit {0}) (λ a. is_success a ≡ false) →
          MatchOption x (own_effect number task' ≡ own_effect number task) (Settles (own_effect number task))
      settles None h = none' ∙ sym none
      settles (Some a) h = settles-none (own_effect number task) a none h
