-- What each row of the table says of a call alone: what it is answered where its message is in none of its places, and where it is refused.
use Rattle.std.proofs.Common.{ℕ, ◌≡◌, List, Option, Some, None, Bool, true, false, cond, is_some, refl, sym, ap, subst, ◌∙◌, if◌then◌else◌}
use Rattle.std.proofs.lemmas.Bool.{eq-eqb}
use Rattle.std.specs.FinMap as finmap
use Rattle.md_core.proofs.Values.{State, path_of, New, Cur, Row, Set, Info, Call, DirReply, Errand, Place, flags_of, Entry, Mailbox, mailbox_of, entry_of, HasOnePath, Outcome, seen_alone, seen_by, flag_alone, flag_by, copy_alone, copy_by, expunge_alone, expunge_by, refuse, entry_if, is_in_place, is_in_folder, flags_in, move_alone, get, Purpose, Refusal, first, searches, info_in, has_trashed, act_if, decide_flag, decide, answer_by, refused_by}
use Rattle.md_jobs.specs.declared.answer.Answer.TheVariants as answer
use Rattle.md_jobs.specs.Tasks.Errand.{Errand as ErrandOf, Look}
use Rattle.md_jobs.specs.declared.purpose.Decision.TheVariants as decision
use Rattle.md_jobs.specs.declared.purpose.Purpose.TheVariants.{Seen, Flag, Move, Copy, Expunge}
use Rattle.md_jobs.specs.declared.refusal.Refusal.TheVariants as refusal
use Rattle.md_jobs.specs.declared.step.DirReply.TheVariants as reply
use Rattle.md_core.proofs.Induction.Good.{ErrandFits}
use Rattle.md_core.proofs.Looking.LookUps.{IsRow, row-entry, info-in}
use Rattle.md_core.proofs.Machines.Errand.Table.Rows.{not-tmp, one-place}
use Rattle.md_core.proofs.Machines.Errand.Marked.{such-there}
use Rattle.md_core.proofs.Answers.Turns.OneMessage.{Tells, IsAlone}
use Rattle.md_core.proofs.Machines.Errand.Table.Calls.{call_by, on}

-- a success says nothing here
pub success-tells : (s : State) (asked : Call) (e : ErrandOf) (r : DirReply) (p : Purpose) (info : Info) → Tells s asked (Errand e) r (answer_by p info)
success-tells s asked e r (Seen given) info = tt
success-tells s asked e r other info = tt

no-flags : (o : Option Set) → is_some o ≡ false → o ≡ None
no-flags None is = refl
no-flags (Some flags) is = cc

refused-test : (b : Bool) (refusal a : Refusal) → act_if b refusal ≡ decision.Refuse a → (b ≡ false) × (refusal ≡ a)
refused-test true refusal a is = cc
refused-test false refusal a is = (refl, cc)

refused-flag : (p : Purpose) (o : Option Set) (a : Refusal) → decide_flag p o ≡ decision.Refuse a → (o ≡ None) × (refusal.OtherInfo ≡ a)
refused-flag p None a is = (refl, cc)
refused-flag p (Some had) a is = by _ is
  where
    by : (b : Bool) → cond b decision.Keep decision.Act ≡ decision.Refuse a → (◌≡◌ {A = Option Set} (Some had) None) × (refusal.OtherInfo ≡ a)
    by true h = cc
    by false h = cc

-- an entry of a folder is such a one
such-inside : (folder : ℕ) (o : Option Entry) (e : Entry) → o ≡ Some e → e.folder ≡ folder → entry_if (is_in_folder folder) o ≡ Some e
such-inside folder o e is inside = ap (entry_if (is_in_folder folder)) is ∙ ap (λ b. cond b (Some e) None) (eq-eqb _ _ inside)

-- a message without the flag T is not expunged
not_trashed : (box : Mailbox) (u : List ℕ) (o : Option Set) → has_trashed o ≡ false → (expunge_by box u o).answer ≡ answer.NotTrashed
not_trashed box u None is = refl
not_trashed box u (Some had) is =
    ap (λ b. (cond {A = Outcome} b (record { answer = answer.Expunged; after = finmap.remove box u })
    (refuse answer.NotTrashed box)).answer) is

-- what is refused of a message that is there is refused alone
module _ (s : State) (asked : Call) (one : HasOnePath s) (folder : ℕ) (u : List ℕ) (place : Place) (tries : ℕ) (row : Row) (h : IsRow s folder place u row) where
  abbrev entry : Entry
  entry = entry_of s (path_of folder place row.name) h.file

  shown : flags_in entry ≡ flags_of (info_in row.name)
  shown = ap flags_of (sym (info-in row.name h.named))

  pub refuse-says : (p : Purpose) (fits : ErrandFits s asked (on folder u p (Look place tries))) (a : Refusal) →
      decide p (info_in row.name) ≡ decision.Refuse a → Tells s asked (Errand (on folder u p (Look place tries))) reply.Ok (refused_by a)
  refuse-says (Seen given) fits a is =
      let r = refused-test (is_some (flags_of (info_in row.name))) refusal.OtherInfo a is in
      let there = row-entry s folder place u row (not-tmp (Seen given) place fits.stage) one h in
      let new = one-place (Seen given) place refl fits.stage in
      subst (λ (x : Refusal). Tells s asked (Errand (on folder u (Seen given) (Look place tries))) reply.Ok (refused_by x)) r.1
      (subst (λ (c : Call). IsAlone s c answer.OtherInfo) (sym fits.of)
      (ap (λ (o : Option Entry). (seen_alone (mailbox_of s) u given o).answer) (such-there New folder (get (mailbox_of s) u) entry there refl new)
      ∙ ap (λ (o : Option Set). (seen_by (mailbox_of s) u given entry o).answer) (shown ∙ no-flags (flags_of (info_in row.name)) r.0)))
  refuse-says (Flag add remove) fits a is =
      let r = refused-flag (Flag add remove) (flags_of (info_in row.name)) a is in
      let there = row-entry s folder place u row (not-tmp (Flag add remove) place fits.stage) one h in
      let cur = one-place (Flag add remove) place refl fits.stage in
      subst (λ (x : Refusal). Tells s asked (Errand (on folder u (Flag add remove) (Look place tries))) reply.Ok (refused_by x)) r.1
      (subst (λ (c : Call). IsAlone s c answer.OtherInfo) (sym fits.of)
      (ap (λ (o : Option Entry). (flag_alone (mailbox_of s) u add remove o).answer) (such-there Cur folder (get (mailbox_of s) u) entry there refl cur)
      ∙ ap (λ (o : Option Set). (flag_by (mailbox_of s) u add remove entry o).answer) (shown ∙ r.0)))
  refuse-says (Copy to fresh) fits a is =
      let r = refused-test (is_some (flags_of (info_in row.name))) refusal.OtherInfo a is in
      let there = row-entry s folder place u row (not-tmp (Copy to fresh) place fits.stage) one h in
      subst (λ (x : Refusal). Tells s asked (Errand (on folder u (Copy to fresh) (Look place tries))) reply.Ok (refused_by x)) r.1
      (subst (λ (c : Call). IsAlone s c answer.OtherInfo) (sym fits.of)
      (ap (λ (o : Option Entry). (copy_alone (mailbox_of s) to fresh o).answer) (such-inside folder (get (mailbox_of s) u) entry there refl)
      ∙ ap (λ (o : Option Set). (copy_by (mailbox_of s) to fresh entry o (get (mailbox_of s) fresh)).answer)
      (shown ∙ no-flags (flags_of (info_in row.name)) r.0)))
  refuse-says Expunge fits a is =
      let r = refused-test (has_trashed (flags_of (info_in row.name))) refusal.NotTrashed a is in
      let there = row-entry s folder place u row (not-tmp Expunge place fits.stage) one h in
      let cur = one-place Expunge place refl fits.stage in
      subst (λ (x : Refusal). Tells s asked (Errand (on folder u Expunge (Look place tries))) reply.Ok (refused_by x)) r.1
      (subst (λ (c : Call). IsAlone s c answer.NotTrashed) (sym fits.of)
      (ap (λ (o : Option Entry). (expunge_alone (mailbox_of s) u o).answer) (such-there Cur folder (get (mailbox_of s) u) entry there refl cur)
      ∙ not_trashed (mailbox_of s) u (flags_in entry) (ap has_trashed shown ∙ r.0)))
  refuse-says other fits a is = cc

-- whether a message is where an errand looks
abbrev pub is_looked_in : ℕ → Purpose → Entry → Bool
is_looked_in folder p = if searches p then is_in_folder folder else is_in_place (first p) folder

-- a message that is nowhere there is not found alone
pub alone-none : (s : State) (p : Purpose) (folder : ℕ) (u : List ℕ) (tries : ℕ) → entry_if (is_looked_in folder p) (get (mailbox_of s) u) ≡ None →
    IsAlone s (call_by folder u p tries) answer.NotThere
alone-none s (Seen given) folder u tries none = ap (λ (o : Option Entry). (seen_alone (mailbox_of s) u given o).answer) none
alone-none s (Flag add remove) folder u tries none = ap (λ (o : Option Entry). (flag_alone (mailbox_of s) u add remove o).answer) none
alone-none s (Move to) folder u tries none = ap (λ (o : Option Entry). (move_alone (mailbox_of s) u to o).answer) none
alone-none s (Copy to fresh) folder u tries none = ap (λ (o : Option Entry). (copy_alone (mailbox_of s) to fresh o).answer) none
alone-none s Expunge folder u tries none = ap (λ (o : Option Entry). (expunge_alone (mailbox_of s) u o).answer) none
