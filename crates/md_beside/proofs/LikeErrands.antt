-- Turns of errands that are alike: sizes and stamps of what was found don't matter.
use Rattle.std.proofs.Common.{ℕ, ◌≡◌, ◌-◌, List, [], ◌∷◌, Option, Some, None, Bool, true, false, cond, nat_le, refl, sym, ap, ◌∙◌}
use Rattle.std.specs.Option.{option_to_list, option_map}
use Rattle.md_dirs.specs.Rows.{row_named}
use Rattle.md_dirs.specs.declared.paths.Place.{Place}
use Rattle.md_dirs.specs.declared.rows.Row.{Row}
use Rattle.md_jobs.specs.Machines.Errand.{errand_turn, at_stage, stage_turn, act_turn, after_none, after_decision, after_row}
use Rattle.md_jobs.specs.Machines.Purposes.{first, searches, place_after, info_in, decide, deed_by, answer_by}
use Rattle.md_jobs.specs.Machines.Refusals.{refuses}
use Rattle.md_jobs.specs.Tasks.Errand.{Errand, Stage, Look, Act}
use Rattle.md_jobs.specs.Turn.{After, goes_on}
use Rattle.md_jobs.specs.declared.answer.Answer.{Answer}
use Rattle.md_jobs.specs.declared.purpose.Decision.{Decision}
use Rattle.md_jobs.specs.declared.purpose.Decision.TheVariants as decision
use Rattle.md_jobs.specs.declared.refusal.Refusal.TheVariants.{Lost}
use Rattle.md_jobs.specs.declared.step.DirReply.{DirReply}
use Rattle.md_jobs.specs.declared.step.DirReply.TheVariants as reply
use Rattle.md_jobs.specs.declared.step.Moment.{Moment}
use Rattle.md_core.specs.Machine.{turn_of}
use Rattle.md_core.specs.Tasks.Task.{Task}
use Rattle.md_core.specs.Tasks.Task as task
use Rattle.md_beside.specs.OnDisk.{name_found}
use Rattle.md_beside.proofs.LikeTurns.{AreAlike, Shown}

-- ---- without sizes and stamps

abbrev bare_row : List ℕ → Row
bare_row name = record { name = name; stamp = 0; size = 0 }

abbrev bare_stage : Stage → Stage
bare_stage (Look place tries) = Look place tries
bare_stage (Act place row tries) = Act place (bare_row row.name) tries

abbrev pub bare : Errand → Errand
bare e = record e { stage = bare_stage e.stage }

bare-stage-again : (stage : Stage) → bare_stage (bare_stage stage) ≡ bare_stage stage
bare-stage-again (Look place tries) = refl
bare-stage-again (Act place row tries) = refl

bare-again : (e : Errand) → bare (bare e) ≡ bare e
bare-again e = ap (λ (stage : Stage). record e { stage = stage }) (bare-stage-again e.stage)

-- what is shown of what follows
abbrev shown_bare : After Errand → Shown Errand
shown_bare after = (after.answer, bare after.task)

-- the first of these names, as a row
abbrev row_by : List (List ℕ) → Option Row
row_by [] = None
row_by (name ∷ names) = Some (bare_row name)

-- what follows of a bare errand at a stage, by the name that was found
abbrev view_at : Errand → Stage → DirReply → List (List ℕ) → Shown Errand
view_at b (Look place tries) reply.Ok names = shown_bare (after_row 0 b place tries (row_by names))
view_at b stage r names = shown_bare ((stage_turn 0 b stage).follows r [])

module _ (job : ℕ) (e : Errand) where
  asks-stage : (stage : Stage) → (stage_turn job e stage).asked ≡ (stage_turn 0 (bare e) (bare_stage stage)).asked
  asks-stage (Look place tries) = refl
  asks-stage (Act place row tries) = refl

  -- an errand that ends is bare as it was
  ended : (o : Option Answer) → ◌≡◌ {A = Shown Errand} (o, bare e) (o, bare (bare e))
  ended o = let with : Errand → Shown Errand = λ x. (o, x) in ap with (sym (bare-again e))

  none-so : (tries : ℕ) (next : Option Place) → shown_bare (after_none e tries next) ≡ shown_bare (after_none (bare e) tries next)
  none-so tries None = ended _
  none-so tries (Some place) = refl

  decision-so : (place : Place) (tries : ℕ) (row : Row) (d : Decision) →
      shown_bare (after_decision job e place tries row d) ≡ shown_bare (after_decision 0 (bare e) place tries (bare_row row.name) d)
  decision-so place tries row (decision.Refuse x) = ended _
  decision-so place tries row decision.Keep = ended _
  decision-so place tries row decision.Act = refl

  row-so : (place : Place) (tries : ℕ) (o : Option Row) →
      shown_bare (after_row job e place tries o)
      ≡ shown_bare (after_row 0 (bare e) place tries (row_by (option_to_list (option_map (λ row. row.name) o))))
  row-so place tries None = none-so tries (place_after (searches e.purpose) place)
  row-so place tries (Some row) = decision-so place tries row (decide e.purpose (info_in row.name))

  again-so : (tries : ℕ) (last : Bool) →
      shown_bare (cond last (refuses e Lost) (goes_on (at_stage e (Look (first e.purpose) (tries - 1)))))
      ≡ shown_bare (cond last (refuses (bare e) Lost) (goes_on (at_stage (bare e) (Look (first e.purpose) (tries - 1)))))
  again-so tries true = ended _
  again-so tries false = refl

  view-so : (stage : Stage) (r : DirReply) (rows : List Row) →
      shown_bare ((stage_turn job e stage).follows r rows) ≡ view_at (bare e) (bare_stage stage) r (name_found e.unique rows)
  view-so (Look place tries) reply.Ok rows = row-so place tries (row_named e.unique rows)
  view-so (Look place tries) reply.Exists rows = ended _
  view-so (Look place tries) reply.NotFound rows = ended _
  view-so (Look place tries) reply.Fault rows = ended _
  view-so (Act place row tries) reply.Ok rows = ended _
  view-so (Act place row tries) reply.Exists rows = by (deed_by e.purpose e.folder e.unique place row.name (info_in row.name))
    where
      by : (d : Rattle.md_jobs.specs.Tasks.Deed.Deed) →
          shown_bare ((act_turn job e d (answer_by e.purpose (info_in row.name)) row.size tries).follows reply.Exists rows)
          ≡ shown_bare ((act_turn 0 (bare e) d (answer_by e.purpose (info_in row.name)) 0 tries).follows reply.Exists [])
      by d = ended _
  view-so (Act place row tries) reply.NotFound rows = again-so tries (nat_le tries 1)
  view-so (Act place row tries) reply.Fault rows = ended _

-- where the reply is not Ok, no name matters
view-names : (b : Errand) (stage : Stage) (r : DirReply) (names names' : List (List ℕ)) → (r ≡ reply.Ok → names ≡ names') →
    view_at b stage r names ≡ view_at b stage r names'
view-names b (Look place tries) reply.Ok names names' same =
    ap (λ (found : List (List ℕ)). shown_bare (after_row 0 b place tries (row_by found))) (same refl)
view-names b (Look place tries) reply.Exists names names' same = refl
view-names b (Look place tries) reply.NotFound names names' same = refl
view-names b (Look place tries) reply.Fault names names' same = refl
view-names b (Act place row tries) r names names' same = refl

-- ---- errands of a unique name

-- an errand and a task have all but sizes and stamps in common
abbrev pub LikeErrand : List ℕ → Errand → Task → Type 0
LikeErrand u e (task.Errand e') = (e.unique ≡ u) × (bare e' ≡ bare e)
LikeErrand u e x = ⊥

module _ (number job : ℕ) (u : List ℕ) where
  after : (e e' : Errand) → e.unique ≡ u → bare e' ≡ bare e → (r : DirReply) (rows rows' : List Row) →
      (r ≡ reply.Ok → name_found u rows ≡ name_found u rows') →
      shown_bare ((errand_turn job e').follows r rows') ≡ shown_bare ((errand_turn number e).follows r rows)
  after e e' of like r rows rows' names =
      let of' : e'.unique ≡ u = ap (λ (x : Errand). x.unique) like ∙ of in
      view-so job e' e'.stage r rows'
      ∙ ap (λ (b : Errand). view_at b b.stage r (name_found e'.unique rows')) like
      ∙ ap (λ (v : List ℕ). view_at (bare e) (bare_stage e.stage) r (name_found v rows')) of'
      ∙ view-names (bare e) (bare_stage e.stage) r (name_found u rows') (name_found u rows) (λ ok. sym (names ok))
      ∙ ap (λ (v : List ℕ). view_at (bare e) (bare_stage e.stage) r (name_found v rows)) (sym of)
      ∙ sym (view-so number e e.stage r rows)

  -- its unique name stays
  same-name : (e : Errand) (r : DirReply) (rows : List Row) → ((errand_turn number e).follows r rows).task.unique ≡ e.unique
  same-name e r rows = ap (λ (p : Shown Errand). p.1.unique) (view-so number e e.stage r rows)
      ∙ by (bare e) (bare_stage e.stage) r (name_found e.unique rows)
    where
      by-decision : (b : Errand) (place : Place) (tries : ℕ) (row : Row) (d : Decision) →
          (after_decision 0 b place tries row d).task.unique ≡ b.unique
      by-decision b place tries row (decision.Refuse x) = refl
      by-decision b place tries row decision.Keep = refl
      by-decision b place tries row decision.Act = refl

      by-next : (b : Errand) (tries : ℕ) (next : Option Place) → (after_none b tries next).task.unique ≡ b.unique
      by-next b tries None = refl
      by-next b tries (Some place) = refl

      by-last : (b : Errand) (tries : ℕ) (last : Bool) →
          (cond last (refuses b Lost) (goes_on (at_stage b (Look (first b.purpose) (tries - 1))))).task.unique ≡ b.unique
      by-last b tries true = refl
      by-last b tries false = refl

      by : (b : Errand) (stage : Stage) (r : DirReply) (names : List (List ℕ)) → (view_at b stage r names).1.unique ≡ b.unique
      by b (Look place tries) reply.Ok [] = by-next b tries (place_after (searches b.purpose) place)
      by b (Look place tries) reply.Ok (name ∷ names) = by-decision b place tries (bare_row name) (decide b.purpose (info_in name))
      by b (Look place tries) reply.Exists names = refl
      by b (Look place tries) reply.NotFound names = refl
      by b (Look place tries) reply.Fault names = refl
      by b (Act place row tries) reply.Ok names = refl
      by b (Act place row tries) reply.Exists names = refl
      by b (Act place row tries) reply.NotFound names = by-last b tries (nat_le tries 1)
      by b (Act place row tries) reply.Fault names = refl

  pub errands-alike : AreAlike (λ e at. errand_turn number e) job (λ own rows. name_found u rows) (LikeErrand u)
  errands-alike = record { call = call; answer = answer; task = next }
    where
      call : (e : Errand) (x : Task) (at at' : Moment) → at'.own ≡ at.own → LikeErrand u e x →
          (turn_of job x at').asked ≡ (errand_turn number e).asked
      call e (task.Errand e') at at' same like =
          asks-stage job e' e'.stage ∙ ap (λ (b : Errand). (stage_turn 0 b b.stage).asked) like.1 ∙ sym (asks-stage number e e.stage)
      call e (task.Deliver d) at at' same like = absurd like
      call e (task.Clean c) at at' same like = absurd like

      answer : (e : Errand) (x : Task) (at at' : Moment) → at'.own ≡ at.own → LikeErrand u e x → (r : DirReply) (rows rows' : List Row) →
          (r ≡ reply.Ok → name_found u rows ≡ name_found u rows') →
          ((turn_of job x at').follows r rows').answer ≡ ((errand_turn number e).follows r rows).answer
      answer e (task.Errand e') at at' same like r rows rows' names =
          ap (λ (p : Shown Errand). p.0) (after e e' like.0 like.1 r rows rows' names)
      answer e (task.Deliver d) at at' same like r rows rows' names = absurd like
      answer e (task.Clean c) at at' same like r rows rows' names = absurd like

      next : (e : Errand) (x : Task) (at at' : Moment) → at'.own ≡ at.own → LikeErrand u e x → (r : DirReply) (rows rows' : List Row) →
          (r ≡ reply.Ok → name_found u rows ≡ name_found u rows') →
          LikeErrand u ((errand_turn number e).follows r rows).task ((turn_of job x at').follows r rows').task
      next e (task.Errand e') at at' same like r rows rows' names =
          (same-name e r rows ∙ like.0, ap (λ (p : Shown Errand). p.1) (after e e' like.0 like.1 r rows rows' names))
      next e (task.Deliver d) at at' same like r rows rows' names = absurd like
      next e (task.Clean c) at at' same like r rows rows' names = absurd like
