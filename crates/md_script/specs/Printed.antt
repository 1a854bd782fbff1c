-- What a run printed, refused and left is a transcript's.
use Rattle.std.specs.Prelude.{◌≡◌, None}
use Rattle.md_script.specs.declared.run.Printed.{Printed}
use Rattle.md_script.specs.Transcript.{Transcript}

-- What a run printed and refused is a transcript's.
pub record Prints {S : Type 0} (t : Transcript S) (p : Printed) : Type 0 where
  pub text : p.text.items ≡ t.text
  pub refusal : p.refusal ≡ t.refusal

-- And the session is where it left it, if no line was refused; after a refusal it is of no more use.
pub record Tells {S : Type 0} (t : Transcript S) (p : Printed) (session : S) : Type 0 where
  pub shows : Prints t p
  pub left : t.refusal ≡ None → session ≡ t.session
