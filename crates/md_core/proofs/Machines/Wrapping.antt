-- The turn of a delivery, an errand or a clean is the turn of its task.
use Rattle.std.proofs.Common.{◌≡◌, ◌++◌, ◌∙◌, List, Option, None, Result, Ok, Err, IfOk, IfErr, OnErr, refl, sym, ap}
use Rattle.std.proofs.lemmas.List.{append-nil}
use Rattle.md_jobs.specs.declared.turn.Turned.{Turned}
use Rattle.md_core.proofs.Values.{Effect, Moment, StepOut, Task, CoreError, as_task, Turn, After, Takes, TakesOrEnds, TurnOf, NoCall, option_to_list, Device}

takes-as-task : {T : Type 0} (wrap : T → Task) (turn : Turn T) (at : Moment) (old : Device) (out : StepOut) (effect : Option Effect) (task : T)
    (new : Device) → Takes turn at old out effect task new → Takes (as_task wrap turn) at old out effect (wrap task) new
takes-as-task {T} wrap turn at old out effect task new takes = record {
  call = takes.call;
  made = takes.made;
  after = ap (λ (a : After T). let after : After Task = record { task = wrap a.task; answer = a.answer; effect = a.effect } in after) takes.after;
  is_effect = takes.is_effect;
}

-- a turn that says what its task is after each reply
pub takes-wrapped : {T : Type 0} (wrap : T → Task) (turn : Turn T) (at : Moment) (old : Device) (out : StepOut) (effect : Option Effect) (task : T)
    (new : Device) → Takes turn at old out effect task new → TakesOrEnds (as_task wrap turn) at old out effect (wrap task) new
takes-wrapped wrap turn at old out effect task new takes = record {
  left = wrap task;
  takes = takes-as-task wrap turn at old out effect task new takes;
  goes_on = λ goes. refl;
}

-- a turn that says what its task is where the job goes on
pub ends-wrapped : {T : Type 0} (wrap : T → Task) (turn : Turn T) (at : Moment) (old : Device) (out : StepOut) (effect : Option Effect) (task : T)
    (new : Device) → TakesOrEnds turn at old out effect task new → TakesOrEnds (as_task wrap turn) at old out effect (wrap task) new
ends-wrapped wrap turn at old out effect task new turned = record {
  left = wrap turned.left;
  takes = takes-as-task wrap turn at old out effect turned.left new turned.takes;
  goes_on = λ goes. ap wrap (turned.goes_on goes);
}

module _ {S T : Type 0} (wrap : S → T) (taken taken' : Turned → Type 0) (before after : S) (old new : Device) where
  -- what a turn of what is wrapped gives
  pub turn-wrapped : (effects effects' : List Effect) (r : Result Turned CoreError) → ((t : Turned) → taken t → taken' t) →
      TurnOf taken before after effects effects' old new r → TurnOf taken' (wrap before) (wrap after) effects effects' old new r
  turn-wrapped effects effects' (Ok t) then h = record { ok = then t h.ok; pushed = h.pushed; refused = tt; kept = tt; task = tt }
  turn-wrapped effects effects' (Err e) then h = record { ok = tt; pushed = tt; refused = h.refused; kept = h.kept; task = ap wrap h.task }

  -- and of a turn that has no effect
  pub turn-plain : (effects : List Effect) (r : Result Turned CoreError) → ((t : Turned) → taken t → taken' t) → IfOk r taken →
      IfOk r (λ t. t.effect.value ≡ None) → IfErr r (NoCall old new) → OnErr r (after ≡ before) →
      TurnOf taken' (wrap before) (wrap after) effects effects old new r
  turn-plain effects (Ok t) then ok plain refused task =
      let pushed = sym (ap (λ (o : Option Effect). effects ++ option_to_list o) plain ∙ append-nil effects) in
      record { ok = then t ok; pushed = pushed; refused = tt; kept = tt; task = tt }
  turn-plain effects (Err e) then ok plain refused task =
      record { ok = tt; pushed = tt; refused = refused; kept = refl; task = ap wrap task }
