-- Calls that are submitted in turn: what is submitted, and what is refused.
use Rattle.std.proofs.Common.{ℕ, ◌≡◌, ◌≢◌, ◌+◌, ◌<◌, ◌++◌, List, [], ◌∷◌, Option, Some, None, Result, Ok, Err, refl, sym, ap, ◌∙◌, length, take, drop, map, get_or, MatchResult}
use Rattle.std.specs.Result.{IsErrAnd}
use Rattle.md_dirs.proofs.Filled.{parted}
use Rattle.md_dirs.specs.Calls.{fresh}
use Rattle.md_jobs.specs.declared.error.CoreError.{CoreError}
use Rattle.md_jobs.specs.declared.error.CoreError.TheVariants as core
use Rattle.md_jobs.specs.declared.call.Call.{Call}
use Rattle.md_dirs.specs.State.{State}
use Rattle.md_dirs.specs.declared.image.ImageFile.{ImageFile}
use Rattle.md_used.specs.Loading.{load_refusal}
use Rattle.md_core.specs.Runs.{Run, new_run, and_call, IsRefusal}
use Rattle.md_core.specs.Submitting.{submit_refusal}
use Rattle.md_script.specs.declared.error.PlayKind.{PlayKind}
use Rattle.md_script.specs.declared.error.PlayKind.TheVariants.{Core, NoMemory}
use Rattle.md_text.specs.Bind.{◌>>=◌}
use Rattle.md_script.specs.Kinds.{core_kind}
use Rattle.md_script.specs.Sessions.{unless_refused, image_of, run_over}
use Rattle.md_runs.specs.Begun.{submitted_all}

-- what is done unless it is refused, and then goes on well, goes on in another way too
goes-on : (o : Option CoreError) (t s : Run) (f g : Run → Result Run PlayKind) (z : Result Run PlayKind) → (unless_refused o t >>= f) ≡ Ok s →
    (f t ≡ Ok s → g t ≡ z) → (unless_refused o t >>= g) ≡ z
goes-on None t s f g z is next = next is
goes-on (Some e) t s f g z is next = cc

-- where the first calls are submitted, the others come behind them
pub submitted-append : (r s : Run) (xs ys : List Call) → submitted_all r xs ≡ Ok s → submitted_all r (xs ++ ys) ≡ submitted_all s ys
unfolding submitted_all
submitted-append r s [] ys is = let same : r ≡ s = cc in ap (λ t. submitted_all t ys) same
submitted-append r s (x ∷ xs) ys is =
    goes-on (submit_refusal r x) (and_call r x) s (λ t. submitted_all t xs) (λ t. submitted_all t (xs ++ ys)) (submitted_all s ys) is
    (submitted-append (and_call r x) s xs ys)

-- one more call is submitted
pub one-submitted : (r s : Run) (xs : List Call) (x : Call) → submitted_all r xs ≡ Ok s → submit_refusal s x ≡ None →
    submitted_all r (xs ++ x ∷ []) ≡ Ok (and_call s x)
unfolding submitted_all
one-submitted r s xs x before none =
    submitted-append r s xs (x ∷ []) before ∙ ap (λ o. unless_refused o (and_call s x) >>= (λ t. submitted_all t [])) none

-- a call is refused, and none is submitted behind it
pub one-refused : (r s : Run) (xs rest : List Call) (x : Call) (e : CoreError) → submitted_all r xs ≡ Ok s → submit_refusal s x ≡ Some e →
    submitted_all r (xs ++ x ∷ rest) ≡ Err (Core e)
unfolding submitted_all
one-refused r s xs rest x e before is =
    submitted-append r s xs (x ∷ rest) before ∙ ap (λ o. unless_refused o (and_call s x) >>= (λ t. submitted_all t rest)) is

-- the kind of a refusal that isn't want of memory
pub kind-is : (o : Option CoreError) (e : CoreError) → IsRefusal o e → core_kind e ≢ NoMemory → (x : CoreError) × (o ≡ Some x) × (core_kind e ≡ Core x)
kind-is None e is some = absurd (some (ap core_kind is))
kind-is (Some x) e is some = (x, refl, ap core_kind is ∙ by x (λ (no : core_kind x ≡ NoMemory). some (ap core_kind is ∙ no)))
  where
    by : (y : CoreError) → core_kind y ≢ NoMemory → core_kind y ≡ Core y
    by core.NoMemory some = absurd (some refl)
    by other some = refl

-- what all calls answer where one is refused
pub refused-at : (r s : Run) (xs all : List Call) (x : Call) (e : CoreError) (kind : PlayKind) → submitted_all r xs ≡ Ok s
    → map (λ y. y) xs ≡ take (length xs) all → (length xs < length all) × (x ≡ get_or all (length xs) x) → IsRefusal (submit_refusal s x) e → kind ≡ core_kind e
    → kind ≢ NoMemory → submitted_all r all ≡ Err kind
refused-at r s xs all x e kind before first next is from some =
    let why = kind-is (submit_refusal s x) e is (λ (no : core_kind e ≡ NoMemory). some (from ∙ no)) in
    ap (submitted_all r) (parted all xs x first next) ∙ one-refused r s xs (drop (length xs + 1) all) x why.0 before why.1 ∙ ap Err (sym why.2 ∙ sym from)

-- the same, of the result that a `?` passes on
pub refused-by : (r s t : Run) (xs all : List Call) (x : Call) (e : CoreError) (result : Result (Unit {0}) PlayKind) → submitted_all r xs ≡ Ok s
    → map (λ y. y) xs ≡ take (length xs) all → (length xs < length all) × (x ≡ get_or all (length xs) x) → IsRefusal (submit_refusal s x) e
    → IsErrAnd result (λ kind. kind ≡ core_kind e)
    → MatchResult result (λ _. submitted_all r all ≡ Ok t) (λ kind. kind ≢ NoMemory → submitted_all r all ≡ Err kind)
refused-by r s t xs all x e (Ok done) before first next is from = absurd from
refused-by r s t xs all x e (Err kind) before first next is from = refused-at r s xs all x e kind before first next is from

pub none-submitted : (r : Run) → submitted_all r [] ≡ Ok r
unfolding submitted_all
none-submitted r = refl

-- a store that was just opened has no event
pub opened_fresh : (folders : ℕ) (files : List ImageFile) (r : Run) → run_over folders files ≡ Ok r → r.events ≡ []
unfolding run_over
opened_fresh folders files r is = by (image_of folders files) is
  where
    loaded : (o : Option CoreError) (image : State) → unless_refused o (new_run (fresh image)) ≡ Ok r → r.events ≡ []
    loaded None image is = let same : new_run (fresh image) ≡ r = cc in sym (ap (λ (x : Run). x.events) same)
    loaded (Some e) image is = cc

    by : (i : Result State PlayKind) → (i >>= (λ image. unless_refused (load_refusal image) (new_run (fresh image)))) ≡ Ok r → r.events ≡ []
    by (Ok image) is = loaded (load_refusal image) image is
    by (Err kind) is = cc
