use Rattle.std.proofs.Common.{ℕ, zero, suc, ◌≡◌, ◌++◌, List, [], ◌∷◌, Option, Some, None, refl, sym, ap, ◌∙◌, length, slice_get, arith}
use Rattle.std.specs.Option.{option_map}
use Rattle.md_jobs.specs.declared.answer.Answer.{Answer}
use Rattle.md_jobs.specs.declared.answer.Answer.TheVariants.{TmpGone}
use Rattle.md_jobs.specs.declared.step.StepOut.{StepOut}
use Rattle.md_core.specs.Machine.{Occurrence, step_of, step_out}
use Rattle.md_core.specs.Runs.{Run, machine_of, and_event}
use Rattle.md_core.specs.Trace.{Step, IsAnswered}
use Rattle.md_core.specs.Tracing.{trace_of, HasOneClock}
use Rattle.md_script.specs.Sessions.{without_fault}
use Rattle.md_script.proofs.laws.one_clock_prints_no_tmpgone.Goals as goal

-- events without a moment of their own, and one more
pushed : (es : List Occurrence) (e : Occurrence) → ((k : ℕ) (x : Occurrence) → slice_get es k ≡ Some x → x.event.own ≡ None) → e.event.own ≡ None
    → (k : ℕ) (x : Occurrence) → slice_get (es ++ e ∷ []) k ≡ Some x → x.event.own ≡ None
pushed [] e all own zero x is = let same : e ≡ x = cc in ap (λ (m : Occurrence). m.event.own) (sym same) ∙ own
pushed [] e all own (suc k) x is = cc
pushed (y ∷ es) e all own zero x is = all zero x is
pushed (y ∷ es) e all own (suc k) x is = pushed es e (λ j z at. all (suc j) z at) own k x is

-- the last of a list
last-is : (xs : List Step) (x : Step) → slice_get (xs ++ x ∷ []) (length xs) ≡ Some x
last-is [] x = refl
last-is (y ∷ xs) x = last-is xs x

-- a step that answers so gives its job that answer
answered : (r r' : Run) (x : Step) (a : Answer) → (trace_of r').steps ≡ (trace_of r).steps ++ x ∷ [] → x.answer ≡ Some a → IsAnswered (trace_of r') x.job a
answered r r' x a grown is = record {
  k = length (trace_of r).steps;
  last = record {
    step = x;
    at = ap (λ (xs : List Step). slice_get xs (length (trace_of r).steps)) grown ∙ last-is (trace_of r).steps x;
    own = refl;
  };
  answer = is;
}

pub returns : goal.returns
returns c r run one event own goes =
    let e = without_fault event in
    let r' = and_event r e in
    let later = c.a_run_goes_on.ensures r run e goes in
    let clocks : HasOneClock r' = pushed r.events e one own in
    let spares = c.cleaners_spare_deliveries.ensures r' later 0 (omega arith) (c.one_clock_is_not_apart.ensures r' later clocks) in
    let gone = (λ (out : StepOut) (shown : option_map step_out (step_of (machine_of r) e) ≡ Some out) (is : out.answer ≡ Some TmpGone).
    never (step_of (machine_of r) e) (λ x at. c.traces_grow_by_what_happens.ensures r e x at) spares.never_gone out shown is) in
    record { run = later; one_clock = clocks; never_gone = gone }
  where
    never : (o : Option Step) →
        ((x : Step) → o ≡ Some x → (trace_of (and_event r (without_fault event))).steps ≡ (trace_of r).steps ++ x ∷ []) →
        ((job : ℕ) → IsAnswered (trace_of (and_event r (without_fault event))) job TmpGone → ⊥) →
        (out : StepOut) → option_map step_out o ≡ Some out → out.answer ≡ Some TmpGone → ⊥
    never None grown spared out shown is = cc
    never (Some x) grown spared out shown is =
        let same : step_out x ≡ out = cc in
        spared x.job (answered r (and_event r (without_fault event)) x TmpGone (grown x refl) (ap (λ (s : StepOut). s.answer) same ∙ is))
