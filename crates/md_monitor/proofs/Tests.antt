-- What the tests of a monitor say.
use Rattle.std.proofs.Common.{ℕ, ◌≡◌, ◌&&◌, not, Option, Some, None, is_some, Bool, refl, sym, ap, ◌∙◌}
use Rattle.std.specs.Bool.{Decides}
use Rattle.std.proofs.lemmas.Bool.{and_parts, and_from}
use Rattle.std.proofs.lemmas.Bool.Decides.{Decides-eqb}
use Rattle.md_dirs.specs.declared.paths.Place.{Place}
use Rattle.md_dirs.specs.declared.paths.Place.TheVariants.{Tmp, New, Cur}
use Rattle.md_log.specs.declared.line.Reply.{Reply}
use Rattle.md_log.specs.declared.line.Reply.TheVariants as reply
use Rattle.md_law.specs.Messages.{is_tmp}
use Rattle.md_monitor.specs.Changes.{is_file}
use Rattle.md_monitor.specs.Files.{is_some_and, is_new, is_cur, is_ok, is_fault, is_not_found}

-- where there is one
pub some-and-there : {A : Type 0} (o : Option A) (test : A → Bool) (P : A → Type 0) → ((a : A) → o ≡ Some a → Decides (test a) (P a))
    → Decides (is_some_and o test) ((a : A) × (o ≡ Some a) × P a)
some-and-there None test P each = (λ t. absurd (cc), λ h. let none = h.1 in cc)
some-and-there (Some x) test P each = (
  λ t. (x, refl, (each x refl).0 t),
  λ (a, is, p). ap test (let same : x ≡ a = cc is in same) ∙ (each a is).1 p,
)

pub some-and : {A : Type 0} (o : Option A) (test : A → Bool) (P : A → Type 0) → ((a : A) → Decides (test a) (P a))
    → Decides (is_some_and o test) ((a : A) × (o ≡ Some a) × P a)
some-and o test P each = some-and-there o test P (λ a is. each a)

-- where the first holds
pub and-then : {P Q : Type 0} (a b : Bool) → Decides a P → (P → Decides b Q) → Decides (a && b) (P × Q)
and-then a b first second = (
  λ t. let parts = and_parts a b t in let p = first.0 parts.0 in (p, (second p).0 parts.1),
  λ (p, q). and_from a b (first.1 p) ((second p).1 q),
)

pub free-is : {A : Type 0} (o : Option A) → Decides (not (is_some o)) (o ≡ None)
free-is None = (λ t. refl, λ h. refl)
free-is (Some x) = (λ t. absurd (cc), λ h. cc)

pub some-is : {A : Type 0} (o : Option A) → Decides (is_some o) ((a : A) × (o ≡ Some a))
some-is None = (λ t. absurd (cc), λ h. let none = h.1 in cc)
some-is (Some x) = (λ t. (x, refl), λ h. refl)

pub file-is : (o : Option ℕ) (n : ℕ) → Decides (is_file o n) (o ≡ Some n)
file-is None n = (λ t. absurd (cc), λ h. cc)
file-is (Some m) n = (λ t. ap Some (sym ((Decides-eqb n m).0 t)), λ h. (Decides-eqb n m).1 (cc))

pub ok-is : (r : Reply) → Decides (is_ok r) (r ≡ reply.Ok)
ok-is reply.Ok = (λ t. refl, λ h. refl)
ok-is r = (λ t. absurd (cc), λ h. cc)

pub fault-is : (r : Reply) → Decides (is_fault r) (r ≡ reply.Fault)
fault-is reply.Fault = (λ t. refl, λ h. refl)
fault-is r = (λ t. absurd (cc), λ h. cc)

pub not_found-is : (r : Reply) → Decides (is_not_found r) (r ≡ reply.NotFound)
not_found-is reply.NotFound = (λ t. refl, λ h. refl)
not_found-is r = (λ t. absurd (cc), λ h. cc)

pub tmp-is : (p : Place) → Decides (is_tmp p) (p ≡ Tmp)
tmp-is Tmp = (λ t. refl, λ h. refl)
tmp-is p = (λ t. absurd (cc), λ h. cc)

pub new-is : (p : Place) → Decides (is_new p) (p ≡ New)
new-is New = (λ t. refl, λ h. refl)
new-is p = (λ t. absurd (cc), λ h. cc)

pub cur-is : (p : Place) → Decides (is_cur p) (p ≡ Cur)
cur-is Cur = (λ t. refl, λ h. refl)
cur-is p = (λ t. absurd (cc), λ h. cc)
