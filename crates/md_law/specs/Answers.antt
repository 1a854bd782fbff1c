-- What a program told its user of a message, and what it did since it last told of it.
use Rattle.std.specs.Prelude.{ℕ, ◌≡◌, ◌⊎◌, List, false}
use Rattle.md_law.specs.Values.{State, Path, Place, Call, Reply, Said}
use Rattle.md_log.specs.declared.line.Call.TheVariants as call
use Rattle.md_log.specs.declared.line.Deed.TheVariants as deed
use Rattle.md_log.specs.declared.line.Reply.TheVariants as reply
use Rattle.md_law.specs.History.{History, at, before, IsCall, IsBy, Since}
use Rattle.md_law.specs.Messages.{is_tmp, IsOf, IsMessageAt, IsThere}
use Rattle.md_law.specs.Readings.{ShowsNames}

-- a message of a folder, of which an actor tells
pub record Claim : Type 0 where
  pub actor : List ℕ
  pub folder : ℕ
  pub unique : List ℕ

-- the last step tells this of the message
abbrev pub Tells : History → Claim → Said → Type 0
Tells h c s = IsBy h c.actor × IsCall h (call.Answer s c.folder c.unique)

-- the last step is no answer of the actor's about the message
abbrev pub TellsNothing : History → Claim → Type 0
TellsNothing h c = (s : Said) → Tells h c s → ⊥

-- ---- the last step

-- it acts on the message by a name of it, and is answered so: a link or rename from a name of it, or one to a name of it that is done
abbrev pub ActsBy : Call → Claim → Reply → Type 0
ActsBy (call.At deed.Unlink p r) c e = IsOf p c.folder c.unique × (r ≡ e)
ActsBy (call.Between n old new r) c e = (IsOf old c.folder c.unique ⊎ (IsOf new c.folder c.unique × (r ≡ reply.Ok))) × (r ≡ e)
ActsBy other c e = ⊥

abbrev pub ActsOn : History → Claim → Reply → Type 0
ActsOn h c r = (k : Call) × IsCall h k × ActsBy k c r

-- it is a part of a reading of new or cur of the folder, and the part shows what there is: it did not fail
abbrev pub Looks : History → Claim → Type 0
Looks h c = (place : Place) × (r : Reply) × (shown : List (List ℕ)) × IsCall h (call.List c.folder place r shown)
    × (is_tmp place ≡ false) × ShowsNames r

-- it adds the message to its folder
abbrev pub AddsMessage : History → Claim → Type 0
AddsMessage h c = (IsThere (at (before h)) c.folder c.unique → ⊥) × IsThere (at h) c.folder c.unique

-- it takes the message from its folder
abbrev pub TakesMessage : History → Claim → Type 0
TakesMessage h c = IsThere (at (before h)) c.folder c.unique × (IsThere (at h) c.folder c.unique → ⊥)

-- a path of the message is there before, and not after
abbrev pub LosesPath : State → State → Claim → Type 0
LosesPath old new c =
    (p : Path) × (file : ℕ) × IsMessageAt old c.folder c.unique p file × (IsMessageAt new c.folder c.unique p file → ⊥)

-- it changes the paths of the message
abbrev pub ChangesMessage : History → Claim → Type 0
ChangesMessage h c = LosesPath (at (before h)) (at h) c ⊎ LosesPath (at h) (at (before h)) c

-- ---- since the actor's last answer about the message

-- it was so at a step of the actor's own
abbrev pub Own : (History → Type 0) → Claim → History → Type 0
Own P c h = Since (λ m. IsBy m c.actor × TellsNothing m c × P m) (λ m. TellsNothing m c) h

-- the actor took a step
abbrev pub IsAtWork : Claim → History → Type 0
IsAtWork c h = Own (λ m. Unit {0}) c h

-- it is so now, or was so at a moment while the actor was at work, and the actor did not change the message itself since then
abbrev pub Lately : (History → Type 0) → Claim → History → Type 0
Lately P c h = P h ⊎ Since (λ m. P m × IsAtWork c m) (λ m. TellsNothing m c × (IsBy m c.actor × ChangesMessage m c → ⊥)) h
