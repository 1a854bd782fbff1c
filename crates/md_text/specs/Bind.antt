-- Readers in sequence: the first that fails names the refusal.
use Rattle.std.specs.Prelude.{◌≡◌, Bool, true, false, Result, Ok, Err}

infixl 10 ◌>>=◌
-- what comes next reads on with what was read, or the refusal stays
abbrev pub ◌>>=◌ : {A B E : Type 0} → Result A E → (A → Result B E) → Result B E
(Ok x) >>= f = f x
(Err refusal) >>= f = Err refusal

-- a test that a line has to pass here
abbrev pub require : {E : Type 0} → Bool → E → Result (Unit {0}) E
require true refusal = Ok tt
require false refusal = Err refusal

-- A reader that takes no memory returned this value, seen by view, or this refusal.
abbrev pub Reads : {X Y E : Type 0} → (X → Y) → Result X E → Result Y E → Type 0
Reads view (Ok read) answer = answer ≡ Ok (view read)
Reads view (Err refusal) answer = answer ≡ Err refusal
