-- At each moment the history of a story has the story's directories, but for bytes, and its clock; and each step of the story is one more
-- of its history.
use Rattle.std.proofs.Common.{ℕ, zero, suc, ◌≡◌, ◌≤◌, List, [], ◌∷◌, Option, Some, refl, sym, ap, ◌∙◌, max, take, slice_get, arith}
use Rattle.std.specs.Option.{option_map_or}
use Rattle.md_dirs.specs.State.{State, file_at}
use Rattle.md_dirs.specs.declared.paths.Path.{Path}
use Rattle.md_law.specs.History.{Moment, History, opening, next, moment, at, now, after_step, after_call}
use Rattle.md_beside.specs.Story.{Story, Step, step_at, after_did, state, state_after, step_seen, without_bytes, history, history_after}
use Rattle.md_beside.specs.Beside.{IsStory}
use Rattle.md_beside.proofs.WithoutBytes.{forgets}

-- ---- one step more

-- the directories after it
pub state-more : (s : State) (steps : List Step) (k : ℕ) (x : Step) → slice_get steps k ≡ Some x →
    state_after s (take (suc k) steps) ≡ after_did x.did x.at.clock x.reply (state_after s (take k steps))
unfolding state_after
state-more s [] k x is = cc
state-more s (y ∷ steps) zero x is = ap (λ (o : Option Step). option_map_or (λ (z : Step). after_did z.did z.at.clock z.reply s) o s) is
state-more s (y ∷ steps) (suc k) x is = state-more (after_did y.did y.at.clock y.reply s) steps k x is

-- the history with it
history-more : (actor : ℕ → List ℕ) (s : State) (steps : List Step) (h : History) (k : ℕ) (x : Step) → slice_get steps k ≡ Some x →
    history_after actor s (take (suc k) steps) h
    ≡ next (history_after actor s (take k steps) h) (step_seen actor (state_after s (take k steps)) x)
unfolding state_after history_after
history-more actor s [] h k x is = cc
history-more actor s (y ∷ steps) h zero x is = ap (λ (o : Option Step). option_map_or (λ (z : Step). next h (step_seen actor s z)) o h) is
history-more actor s (y ∷ steps) h (suc k) x is =
    history-more actor (after_did y.did y.at.clock y.reply s) steps (next h (step_seen actor s y)) k x is

pub history-first : (t : Story) → history t 0 ≡ opening (record { state = without_bytes t.image; now = t.clock })
unfolding history_after
history-first t = refl

-- the history at moment k, and the step of that number
abbrev pub next_at : Story → ℕ → Step → History
next_at t k x = next (history t k) (step_seen t.actor (state t k) x)

pub history-next : (t : Story) (k : ℕ) (x : Step) → step_at t k ≡ Some x → history t (suc k) ≡ next_at t k x
history-next t k x is =
    history-more t.actor t.image t.steps (opening (record { state = without_bytes t.image; now = t.clock })) k x is

-- ---- the directories of a history

-- the clock never goes back
abbrev Rises : ℕ → List Step → Type 0
Rises now [] = Unit {0}
Rises now (x ∷ steps) = (now ≤ x.at.clock) × Rises x.at.clock steps

-- the clock after some steps
clock_after : ℕ → List Step → ℕ
clock_after now [] = now
clock_after now (x ∷ steps) = clock_after x.at.clock steps

later : (now clock : ℕ) → now ≤ clock → max now clock ≡ clock
later now clock le = omega (arith, le)

seen : (actor : ℕ → List ℕ) (s : State) (now : ℕ) (h : History) (steps : List Step) (k : ℕ) → Rises now steps →
    moment h ≡ record { state = without_bytes s; now = now } →
    moment (history_after actor s (take k steps) h)
    ≡ record { state = without_bytes (state_after s (take k steps)); now = clock_after now (take k steps) }
unfolding state_after clock_after history_after moment
seen actor s now h [] zero rises is = is
seen actor s now h [] (suc k) rises is = is
seen actor s now h (x ∷ steps) zero rises is = is
seen actor s now h (x ∷ steps) (suc k) rises is =
    seen actor (after_did x.did x.at.clock x.reply s) x.at.clock (next h (step_seen actor s x)) steps k rises.1 step
  where
    step : after_step (moment h) (step_seen actor s x)
        ≡ record { state = without_bytes (after_did x.did x.at.clock x.reply s); now = x.at.clock }
    step = ap (λ (m : Moment). after_step m (step_seen actor s x)) is
        ∙ ap (λ (c : ℕ). record { state = after_call (step_seen actor s x).call c (without_bytes s); now = c })
        (later now x.at.clock rises.0)
        ∙ ap (λ (s' : State). record { state = s'; now = x.at.clock }) (forgets x.did x.at.clock x.reply s)

rises : (now : ℕ) (steps : List Step) → ((x : Step) → slice_get steps 0 ≡ Some x → now ≤ x.at.clock) →
    ((k : ℕ) (x y : Step) → slice_get steps k ≡ Some x → slice_get steps (suc k) ≡ Some y → x.at.clock ≤ y.at.clock) → Rises now steps
rises now [] begins on = tt
rises now (x ∷ steps) begins on = (begins x refl, rises x.at.clock steps (λ y is. on 0 x y refl is) (λ k. on (suc k)))

rises-after : (now : ℕ) (steps : List Step) (k : ℕ) (x : Step) → Rises now steps → slice_get steps k ≡ Some x →
    clock_after now (take k steps) ≤ x.at.clock
unfolding clock_after
rises-after now [] k x rises is = cc
rises-after now (y ∷ steps) zero x rises is =
    let first = rises.0 in
    let one : y ≡ x = cc in
    let same : y.at.clock ≡ x.at.clock = ap (λ (z : Step). z.at.clock) one in omega (arith, first, same)
rises-after now (y ∷ steps) (suc k) x rises is = rises-after y.at.clock steps k x rises.1 is

opening-moment : (m : Moment) → moment (opening m) ≡ m
unfolding moment
opening-moment m = refl

pub at-history : (t : Story) → IsStory t → (k : ℕ) → at (history t k) ≡ without_bytes (state t k)
at-history t story k =
    ap (λ (m : Moment). m.state) (seen t.actor t.image t.clock (opening (record { state = without_bytes t.image; now = t.clock }))
    t.steps k (rises t.clock t.steps story.begins story.goes_on) (opening-moment (record { state = without_bytes t.image; now = t.clock })))

-- ---- the clock of a history

now-history : (t : Story) → IsStory t → (k : ℕ) → now (history t k) ≡ clock_after t.clock (take k t.steps)
now-history t story k =
    ap (λ (m : Moment). m.now) (seen t.actor t.image t.clock (opening (record { state = without_bytes t.image; now = t.clock }))
    t.steps k (rises t.clock t.steps story.begins story.goes_on) (opening-moment (record { state = without_bytes t.image; now = t.clock })))

-- it is no later than a step's moment, which it comes to by the step
pub clock-before : (t : Story) → IsStory t → (k : ℕ) (x : Step) → step_at t k ≡ Some x → now (history t k) ≤ x.at.clock
clock-before t story k x is =
    let low = rises-after t.clock t.steps k x (rises t.clock t.steps story.begins story.goes_on) is in
    let same = now-history t story k in omega (arith, low, same)

pub clock-next : (t : Story) → IsStory t → (k : ℕ) (x : Step) → step_at t k ≡ Some x → now (next_at t k x) ≡ x.at.clock
unfolding moment
clock-next t story k x is = later (now (history t k)) x.at.clock (clock-before t story k x is)

-- ---- its paths

-- where a path leads in the history, so it does in the story
pub path-history : (t : Story) → IsStory t → (k : ℕ) (p : Path) → file_at (at (history t k)) p ≡ file_at (state t k) p
path-history t story k p = ap (λ (s : State). file_at s p) (at-history t story k)

pub path-next : (t : Story) → IsStory t → (k : ℕ) (x : Step) → step_at t k ≡ Some x → (p : Path) →
    file_at (at (next_at t k x)) p ≡ file_at (state t (suc k)) p
path-next t story k x is p = ap (λ (h : History). file_at (at h) p) (sym (history-next t k x is)) ∙ path-history t story (suc k) p
