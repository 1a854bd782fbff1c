-- The clauses on histories, on safety and on bounds, and that the trace of a run is a trace.
use Rattle.std.proofs.Common.{ℕ, ◌≡◌, ◌≤◌, ◌+◌, ◌==◌, ◌⊎◌, inl, inr, List, Some, Bool, true, false, refl, sym, ap, subst, ◌∙◌, length, arith}
use Rattle.std.specs.Prelude.{count_by}
use Rattle.std.specs.FinMap as finmap
use Rattle.md_core.proofs.Values.{State, IsSound, Call, Answer, Entry, Mailbox, mailbox_of, HasOnePath, names_of, names_after, IsLegal, ask_of, reply_by, reply_of, Machine, Occurrence, Step, call_at, Trace, IsAnswered, IsTrace, step_at, state, box, effects, steps_of, Run, machine_at, first_step, IsRun, NoneOverwritten, IsWhole, IsCopied, trace_of, most_over, most_steps}
use Rattle.md_jobs.specs.declared.step.DirReply.TheVariants.{Fault}
use Rattle.md_core.specs.Runs as runs
use Rattle.md_core.proofs.Theorem.RunLaw as of_runs
use Rattle.md_core.proofs.Runs.ByEvent.{moment-end}
use Rattle.md_core.proofs.Worlds.Loading.Loaded.{loaded-one_path}
use Rattle.md_core.proofs.Traces.Same.{many-steps, same-jobs, state-same, effects-same, done-step}
use Rattle.md_core.proofs.Traces.Stands.{answered-of, ended, turn-of}
use Rattle.md_core.proofs.Traces.Few.{count-map}
use Rattle.md_core.proofs.Traces.Begun.{begins-same}
use Rattle.md_core.proofs.Traces.Clock.{forward}
use Rattle.md_core.proofs.Traces.Headline.{theorem, box-same, law-of}
use Rattle.md_core.proofs.Induction.GoodRuns.{accepted-at}

module _ (r : Run) (run : IsRun r) where
  abbrev t : Trace
  t = trace_of r

  -- histories
  pub legal : IsLegal t.image.folders (names_of (mailbox_of t.image)) (effects t (length t.steps))
  legal =
      let end : effects t (length t.steps) ≡ runs.effects_of r =
      ap (λ n. effects t n) (many-steps r run) ∙ effects-same r run (length r.events) ∙ ap (λ (m : Machine). m.effects) (moment-end r) in
      subst (IsLegal r.image.folders (names_of (mailbox_of r.image))) (sym end) (theorem r run).legal

  pub names : (k : ℕ) → names_after (names_of (mailbox_of t.image)) (effects t k) ≡ names_of (box t k)
  names k = ap (names_after (names_of (mailbox_of r.image))) (effects-same r run k) ∙ (theorem r run).names k ∙ ap names_of (sym (box-same r run k))

  -- safety
  pub none_overwritten : (k : ℕ) → NoneOverwritten (state t k) (state t (k + 1))
  none_overwritten k = subst (λ (s : State). NoneOverwritten s (state t (k + 1))) (sym (state-same r run k))
      (subst (NoneOverwritten (machine_at r k).dirs) (sym (state-same r run (k + 1))) ((theorem r run).none_overwritten k))

  pub sound : (k : ℕ) → IsSound (state t k)
  sound k = subst (λ (s : State). IsSound s) (sym (state-same r run k)) ((theorem r run).safe k).sound

  pub one_path : (k : ℕ) → HasOnePath (state t k)
  one_path k = subst HasOnePath (sym (state-same r run k)) ((theorem r run).safe k).one_path

  copied-same : (k : ℕ) (u bytes : List ℕ) → of_runs.IsCopied r k u bytes → IsCopied t k u bytes
  copied-same k u bytes c = record {
    i = c.event;
    before = c.before;
    step = c.what;
    at = done-step r run c.event c.what c.at;
    is_effect = c.is_effect;
    call = c.call;
    of = c.of;
    unique = c.unique;
    copies = c.copies;
    source = c.source;
    had = ap (λ (m : Mailbox). finmap.get m c.unique) (box-same r run c.event) ∙ c.had;
    same = c.same;
  }

  pub whole : (k : ℕ) (u : List ℕ) (e : Entry) → finmap.get (box t k) u ≡ Some e → IsWhole t k u e.bytes
  whole k u e at = elim (((theorem r run).safe k).whole u e (ap (λ (m : Mailbox). finmap.get m u) (sym (box-same r run k)) ∙ at)) [
    | inl given ↦ inl given
    | inr other ↦ elim other [
      | inl had ↦ inr (inl had)
      | inr copy ↦ inr (inr (copied-same k u e.bytes copy))
    ]
  ]

  -- bounds
  steps-same : (job : ℕ) → steps_of t job ≡ of_runs.steps_of r job
  steps-same job =
      count-map (λ (x : Step). x.job) job t.steps ∙ ap (count_by (λ m. m == job)) (same-jobs r run)
      ∙ sym (count-map (λ (e : Occurrence). e.event.job) job r.events)

  most-is : (job : ℕ) (c : Call) → most_steps t job c ≡ of_runs.most_steps r job c
  most-is job c = ap (λ (s : State). most_over s c) (ap (state t) (begins-same r run job) ∙ state-same r run (first_step r job))

  pub bounded : (job : ℕ) (c : Call) → call_at t.calls job ≡ Some c → steps_of t job ≤ most_steps t job c
  bounded job c of =
      let law = law-of r run job c of in
      let most = law.2.bounded in
      let a = steps-same job in
      let b = most-is job c in
      omega (arith, most, a, b)

  pub ends : (job : ℕ) (c : Call) → call_at t.calls job ≡ Some c → most_steps t job c ≤ steps_of t job → (a : Answer) × IsAnswered t job a
  ends job c of all =
      let law = law-of r run job c of in
      let a = steps-same job in
      let b = most-is job c in
      let h = law.2.ends (omega (arith, all, a, b)) in
      (h.0, answered-of r run job h.0 (law.1 ∙ ap Some h.1))

  -- the trace of a run is one
  replied : (k : ℕ) (x : Step) → step_at t k ≡ Some x
      → (x.reply ≡ reply_by ((ask_of x.asked x.at.clock).refusal (state t k))) ⊎ (x.reply ≡ Fault)
  replied k x at =
      let u = turn-of r run x.job k (record { step = x; at = at; own = refl }) in
      let is : x.reply ≡ reply_of (ask_of x.asked x.at.clock) (machine_at r k).dirs u.0.event.faulted =
      ap (λ (d : Step). d.reply) u.1 ∙ ap (λ (d : Step). reply_of (ask_of d.asked d.at.clock) (machine_at r k).dirs u.0.event.faulted) (sym u.1) in
      by u.0.event.faulted (is ∙ ap (λ (s : State). reply_of (ask_of x.asked x.at.clock) s u.0.event.faulted) (sym (state-same r run k)))
    where
      by : (b : Bool) → x.reply ≡ reply_of (ask_of x.asked x.at.clock) (state t k) b →
          (x.reply ≡ reply_by ((ask_of x.asked x.at.clock).refusal (state t k))) ⊎ (x.reply ≡ Fault)
      by true h = inr h
      by false h = inl h

  pub is-trace : IsTrace t
  is-trace = record {
    sound = run.sound;
    one_path = loaded-one_path r.image run.loaded;
    accepted = accepted-at r run;
    replied = replied;
    forward = forward r run;
    ended = ended r run;
  }
