-- What each turn of an errand does, by its stage, the reply and what is decided.
use Rattle.std.proofs.Common.{ℕ, ◌≡◌, ◌<◌, ◌-◌, inl, inr, List, Option, Some, None, Bool, true, false, cond, length, nat_le, refl, sym, ap, ◌∙◌, arith}
use Rattle.std.proofs.lemmas.Bool.Decides.{nat_tests}
use Rattle.md_core.proofs.Values.{State, IsSound, file_by, file_at, path_of, Path, Place, Row, Info, Call, DirReply, Moment, Errand, rows_of, row_by, row_named, mailbox_of, entry_of, bytes_of, HasOnePath, is_effect_at, After, goes_on, reply_of, Asked, list, ask_of, get, NotFound, File, Purpose, Refusal, first, searches, place_after, info_in, decide, deed_by, refused_by, refuses, Deed, Rename, Link, Unlink}
use Rattle.md_jobs.specs.Tasks.Errand.{Errand as ErrandOf, Stage, Look, Act}
use Rattle.md_jobs.specs.declared.purpose.Decision.{Decision}
use Rattle.md_jobs.specs.declared.purpose.Decision.TheVariants as decision
use Rattle.md_jobs.specs.declared.refusal.Refusal.TheVariants as refusal
use Rattle.md_jobs.specs.declared.step.DirReply.TheVariants as reply
use Rattle.md_jobs.specs.Machines.Errand.{at_stage, asked_of, taken_by, after_none, after_decision, after_row, look_turn, stage_turn, errand_turn, steps_left}
use Rattle.md_jobs.proofs.Replies.{next-left, act-left, again-left, errand-left}
use Rattle.md_core.proofs.Induction.Good.{bytes_at, FoundAt, HasSize, IsOfSize, IsAtStage, ErrandFits, Does}
use Rattle.md_core.proofs.Looking.LookUps.{IsRow, found-row, row-entry}
use Rattle.md_core.proofs.Machines.Stays.{as_after, stays-does}
use Rattle.md_core.proofs.Machines.Errand.Table.Rows.{not-tmp, next-place, refusal-fails, look-goes, look-refused, IsRefusal, deed-none}
use Rattle.md_core.proofs.Machines.Errand.Table.Calls.{call_by, on}
use Rattle.md_core.proofs.Machines.Errand.Table.Does.{keep-does, done-does, DoesBy}
use Rattle.md_core.proofs.Machines.Errand.Table.Deeds.{FitsDeed, deed-fits}
use Rattle.md_core.proofs.Machines.Deliver.Replies.{accepted, there}

-- ---- a turn at which nothing changes

module _ (s : State) (number : ℕ) (asked : Call) (sound : IsSound s) (one : HasOnePath s) (e : ErrandOf) (fits : ErrandFits s asked e) (made : Asked)
    (r : DirReply) where
  abbrev DoesNothing : After ErrandOf → Type 0
  DoesNothing after = Does s s number asked (Errand e) made r (as_after Errand after)

  refuses-does : (a : Refusal) → is_effect_at (call_by e.folder e.unique e.purpose fits.tries) made r (Some (refused_by a)) ≡ false →
      DoesNothing (refuses e a)
  refuses-does a none =
      stays-does s number asked (Errand e) (Errand e) made r (Some (refused_by a)) sound one (λ is. cc)
      (ap (λ (c : Call). is_effect_at c made r (Some (refused_by a))) fits.of ∙ none) refl refl (refusal-fails a)
      (errand-left (searches e.purpose) e.stage) (λ is. cc) (λ v size unanswered its. cc)

  goes-does : (stage : Stage) → IsAtStage e.unique e.purpose stage →
      is_effect_at (call_by e.folder e.unique e.purpose fits.tries) made r None ≡ false →
      steps_left (searches e.purpose) stage < steps_left (searches e.purpose) e.stage →
      ((v : List ℕ) (size : ℕ) → FoundAt e.unique stage v size → IsOfSize (mailbox_of s) v size) → DoesNothing (goes_on (at_stage e stage))
  goes-does stage h none less sees =
      stays-does s number asked (Errand e) (Errand (at_stage e stage)) made r None sound one
      (λ is. record {
        tries = fits.tries;
        of = fits.of;
        in_folder = fits.in_folder;
        to_folder = fits.to_folder;
        valid = fits.valid;
        is_for = fits.is_for;
        none = fits.none;
        stage = h;
      })
      (ap (λ (c : Call). is_effect_at c made r None) fits.of ∙ none) refl refl tt less (λ is a b. refl)
      (λ v size unanswered its. inr (sees v size its))

row-size : (name : List ℕ) (o : Option File) → (row_by name o).size ≡ length (bytes_of o)
row-size name None = refl
row-size name (Some file) = refl

-- ---- the look

module _ (s : State) (number : ℕ) (asked : Call) (sound : IsSound s) (one : HasOnePath s) (folder : ℕ) (u : List ℕ) (place : Place) (tries : ℕ)
  where
    module _ (p : Purpose) (fits : ErrandFits s asked (on folder u p (Look place tries))) where
      abbrev x : ErrandOf
      x = on folder u p (Look place tries)

      abbrev DoesLook : DirReply → After ErrandOf → Type 0
      DoesLook r after = Does s s number asked (Errand x) (list folder place) r (as_after Errand after)

      ends-does : (r : DirReply) (a : Refusal) → DoesLook r (refuses x a)
      ends-does r a = refuses-does s number asked sound one x fits (list folder place) r a (look-refused p folder u fits.tries folder place r a)

      -- it was not found
      none-does : (o : Option Place) → place_after (searches p) place ≡ o → DoesLook reply.Ok (after_none x tries o)
      none-does None is = ends-does reply.Ok refusal.NotThere
      none-does (Some next) is =
          let h = next-place (searches p) place next is in
          goes-does s number asked sound one x fits (list folder place) reply.Ok (Look next tries) (inr (h.0, h.1))
          (look-goes p folder u fits.tries folder place reply.Ok) (next-left (searches p) place next tries is) (λ v size its. absurd its)

      -- it was found
      decision-does : (row : Row) (h : IsRow s folder place u row) (d : Decision) → decide p (info_in row.name) ≡ d →
          DoesLook reply.Ok (after_decision number x place tries row d)
      decision-does row h (decision.Refuse a) is = ends-does reply.Ok a
      decision-does row h decision.Keep is = keep-does s number asked sound one folder u place tries p fits row h is
      decision-does row h decision.Act is =
          let size : length (bytes_at s h.file) ≡ row.size = sym (row-size row.name (file_by s.files h.file)) ∙ ap (λ (x : Row). x.size) h.shows in
          goes-does s number asked sound one x fits (list folder place) reply.Ok (Act place row tries)
          (record { at = fits.stage; named = h.named; unique = h.unique; acts = is })
          (look-goes p folder u fits.tries folder place reply.Ok) (act-left (searches p) place place row tries)
          (λ v n its. (
            entry_of s (path_of folder place row.name) h.file,
            ap (get (mailbox_of s)) (sym its.0) ∙ row-entry s folder place u row (not-tmp p place fits.stage) one h,
            size ∙ its.1,
          ))

      row-does : (o : Option Row) → row_named u (rows_of s folder place) ≡ o → DoesLook reply.Ok (after_row number x place tries o)
      row-does None is = none-does (place_after (searches p) place) refl
      row-does (Some row) is = decision-does row (found-row s folder place u row fits.valid is) (decide p (info_in row.name)) refl

      look-does : (clock : ℕ) (r : DirReply) → DoesBy s number asked x clock (look_turn number x place tries) r
      look-does clock reply.Ok = row-does (row_named u (rows_of s folder place)) refl
      look-does clock reply.Exists = ends-does reply.Exists refusal.Fault
      look-does clock reply.NotFound = ends-does reply.NotFound refusal.Fault
      look-does clock reply.Fault = ends-does reply.Fault refusal.Fault

-- ---- the act

-- where a deed is done its path was there
module _ (s : State) (clock : ℕ) (faulted : Bool) (p : Path) where
  pub deed-there : (d : Deed) → FitsDeed s p d → reply.Ok ≡ reply_of (ask_of (asked_of d) clock) s faulted → (k : ℕ) × (file_at s p ≡ Some k)
  deed-there (Rename old new) fits replied =
      let h = there (file_at s old) _ NotFound (accepted _ faulted (sym replied)) in
      (h.0, ap (file_at s) (sym fits.0) ∙ h.1)
  deed-there (Link old new) fits replied =
      let h = there (file_at s old) _ NotFound (accepted _ faulted (sym replied)) in
      (h.0, ap (file_at s) (sym fits.0) ∙ h.1)
  deed-there (Unlink old) fits replied =
      let h = there (file_at s old) _ NotFound (accepted _ faulted (sym replied)) in
      (h.0, ap (file_at s) (sym fits) ∙ h.1)

module _ (s : State) (number : ℕ) (asked : Call) (sound : IsSound s) (one : HasOnePath s) (folder : ℕ) (u : List ℕ) (place : Place) (row : Row) (tries : ℕ)
    (clock : ℕ) (faulted : Bool) (sized : HasSize (mailbox_of s) u row.size) where
  abbrev info : Info
  info = info_in row.name

  abbrev acting : Purpose → ErrandOf
  acting p = on folder u p (Act place row tries)

  abbrev DoesAct : Purpose → DirReply → Type 0
  DoesAct p r = DoesBy s number asked (acting p) clock (stage_turn number (acting p) (Act place row tries)) r

  module _ (p : Purpose) (fits : ErrandFits s asked (acting p)) where
    abbrev made : Asked
    made = asked_of (deed_by p folder u place row.name info)

    stops-does : (r : DirReply) (a : Refusal) → IsRefusal r → Does s s number asked (Errand (acting p)) made r (as_after Errand (refuses (acting p) a))
    stops-does r a failed = refuses-does s number asked sound one (acting p) fits made r a
        (deed-none folder u fits.tries place row.name info (Some (refused_by a)) p r failed)

    again-does : (b : Bool) → nat_le tries 1 ≡ b → Does s s number asked (Errand (acting p)) made reply.NotFound
        (as_after Errand (cond b (refuses (acting p) refusal.Lost) (goes_on (at_stage (acting p) (Look (first p) (tries - 1))))))
    again-does true is = stops-does reply.NotFound refusal.Lost tt
    again-does false is =
        let more : 1 < tries = grind (arith, nat_tests) in
        goes-does s number asked sound one (acting p) fits made reply.NotFound (Look (first p) (tries - 1)) (inl refl)
        (deed-none folder u fits.tries place row.name info None p reply.NotFound tt) (again-left (searches p) (first p) place row tries more)
        (λ v size its. absurd its)

    act-does : (r : DirReply) → r ≡ reply_of (ask_of made clock) s faulted → DoesAct p r
    act-does reply.Ok replied =
        let here = deed-there s clock faulted (path_of folder place row.name) (deed_by p folder u place row.name info)
        (deed-fits s asked folder u place row tries p fits) replied in
        done-does s number asked sound one folder u place row tries clock sized p fits here.0 here.1
    act-does reply.Exists replied = stops-does reply.Exists (taken_by (deed_by p folder u place row.name info)) tt
    act-does reply.NotFound replied = again-does (nat_le tries 1) refl
    act-does reply.Fault replied = stops-does reply.Fault refusal.Fault tt

-- ---- any stage

module _ (s : State) (number : ℕ) (asked : Call) (at : Moment) (faulted : Bool) (sound : IsSound s) (one : HasOnePath s) (folder : ℕ) (u : List ℕ)
    (p : Purpose) where
  abbrev DoesStage : Stage → Type 0
  DoesStage stage = ErrandFits s asked (on folder u p stage) → ((v : List ℕ) (size : ℕ) → FoundAt u stage v size → HasSize (mailbox_of s) v size) →
      DoesBy s number asked (on folder u p stage) at.clock (stage_turn number (on folder u p stage) stage)
      (reply_of (ask_of (stage_turn number (on folder u p stage) stage).asked at.clock) s faulted)

  stage-does : (stage : Stage) → DoesStage stage
  stage-does (Look place tries) fits known = look-does s number asked sound one folder u place tries p fits at.clock _
  stage-does (Act place row tries) fits known =
      act-does s number asked sound one folder u place row tries at.clock faulted (known u row.size (refl, refl)) p fits _ refl

-- What a turn of an errand does.
pub errand-does : (s : State) (number : ℕ) (asked : Call) (at : Moment) (faulted : Bool) → IsSound s → HasOnePath s → (e : ErrandOf) → ErrandFits s asked e →
    ((u : List ℕ) (size : ℕ) → FoundAt e.unique e.stage u size → HasSize (mailbox_of s) u size) →
    DoesBy s number asked e at.clock (errand_turn number e) (reply_of (ask_of (errand_turn number e).asked at.clock) s faulted)
errand-does s number asked at faulted sound one e fits known = stage-does s number asked at faulted sound one e.folder e.unique e.purpose e.stage fits known
