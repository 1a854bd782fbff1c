-- A history of directories that programs share: what there was at the beginning, and each step since. It stands for the moment after its
-- last step, and what was so before is said as past-time temporal logic says it: once, since.
use Rattle.std.specs.Prelude.{ℕ, ◌≡◌, ◌⊎◌, List, [], Option, Some, None, max}
use Rattle.md_dirs.specs.Calls as dirs
use Rattle.md_law.specs.Values.{State, Path, Call, Deed, Naming, Reply, Step}
use Rattle.md_log.specs.declared.line.Call.TheVariants as call
use Rattle.md_log.specs.declared.line.Deed.TheVariants as deed
use Rattle.md_log.specs.declared.line.Naming.TheVariants as naming
use Rattle.md_log.specs.declared.line.Reply.TheVariants as reply

-- the directories, and the clock in seconds
pub record Moment : Type 0 where
  pub state : State
  pub now : ℕ

-- A history is what there was at its beginning, or an earlier history and one step more.
pub data History : Type 0 where
  opening : (moment : Moment) → History
  next : (past : History) (step : Step) → History

-- ---- the directories

-- The directory call of a call on one path, at a clock. A history knows no bytes: a write adds none, and sets the stamp. A flush changes
-- nothing.
abbrev pub ask_at : Deed → Path → ℕ → dirs.Ask
ask_at deed.Create p now = dirs.create p now
ask_at deed.Write p now = dirs.append p [] now
ask_at deed.Flush p now = record { refusal = (dirs.append p [] now).refusal; after = λ s. s }
ask_at deed.Unlink p now = dirs.unlink p

-- the directory call of a call on two paths
abbrev pub ask_between : Naming → Path → Path → dirs.Ask
ask_between naming.Link old new = dirs.link old new
ask_between naming.Rename old new = dirs.rename old new

-- the directories after a call that was made; one that was refused changes nothing
abbrev pub after_ask : Reply → dirs.Ask → State → State
after_ask reply.Ok ask s = ask.after s
after_ask r ask s = s

abbrev pub after_call : Call → ℕ → State → State
after_call (call.At d p r) now s = after_ask r (ask_at d p now) s
after_call (call.Between n old new r) now s = after_ask r (ask_between n old new) s
after_call (call.List folder place r shown) now s = s
after_call (call.Answer said folder unique) now s = s

-- the clock is the greatest moment so far, from that of the beginning on
abbrev pub after_step : Moment → Step → Moment
after_step m x = let now = max m.now x.moment in record { state = after_call x.call now m.state; now = now }

unfoldable pub moment : History → Moment
moment (opening m) = m
moment (next past x) = after_step (moment past) x

-- the directories, and the clock, after the last step
abbrev pub at : History → State
at h = (moment h).state

abbrev pub now : History → ℕ
now h = (moment h).now

-- ---- the last step

-- the history before the last step; before the beginning it is the beginning itself
abbrev pub before : History → History
before (opening m) = opening m
before (next past x) = past

abbrev pub last : History → Option Step
last (opening m) = None
last (next past x) = Some x

-- the last step is this call
abbrev pub IsCall : History → Call → Type 0
IsCall h c = (x : Step) × (last h ≡ Some x) × (x.call ≡ c)

-- the last step is by this actor
abbrev pub IsBy : History → List ℕ → Type 0
IsBy h actor = (x : Step) × (last h ≡ Some x) × (x.actor ≡ actor)

-- ---- what was so before

-- it is so now, or was so at an earlier moment
unfoldable pub Once : (History → Type 0) → History → Type 0
Once P (opening m) = P (opening m)
Once P (next past x) = P (next past x) ⊎ Once P past

-- the first was so at a moment, and the second at each moment since then
unfoldable pub Since : (P Q : History → Type 0) → History → Type 0
Since P Q (opening m) = P (opening m)
Since P Q (next past x) = P (next past x) ⊎ (Q (next past x) × Since P Q past)

-- the first history is a beginning of the second, or all of it
abbrev pub IsUpTo : History → History → Type 0
IsUpTo first h = Once (λ m. m ≡ first) h
