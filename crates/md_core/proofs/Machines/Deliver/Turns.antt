-- What each turn of a delivery does, by its stage and the reply.
use Rattle.std.proofs.Common.{ℕ, ◌≡◌, ◌<◌, ◌≤◌, ◌+◌, ◌-◌, ◌++◌, inl, List, Option, Some, None, Bool, true, false, cond, length, take, nat_lt, refl, sym, subst, arith}
use Rattle.std.proofs.lemmas.Bool.Decides.{nat_tests}
use Rattle.std.proofs.lemmas.List.{take_all}
use Rattle.md_dirs.specs.Calls as dirs
use Rattle.md_core.proofs.Values.{State, IsSound, file_at, Call, Answer, DirReply, Moment, Task, Deliver, Delivery, Stage, Start, Writing, Linked, Undo, HasOnePath, Turn, After, rows_for, reply_of, ask_of, state_by, Asked, append, link, as_task, is_success, is_effect_at, NotFound, refused_by, Refusal}
use Rattle.md_jobs.specs.declared.answer.Answer.TheVariants as answer
use Rattle.md_jobs.specs.declared.refusal.Refusal.TheVariants as refusal
use Rattle.md_jobs.specs.declared.step.DirReply.TheVariants as reply
use Rattle.md_core.proofs.Theorem.RunLaw.{is_linked}
use Rattle.md_jobs.specs.Pieces.{pieces_of}
use Rattle.md_jobs.specs.Machines.Deliver.{at_stage, target, piece, piece_len, create_turn, append_turn, link_turn, unlink_turn, stage_turn, delivery_turn, delivery_effect, steps_left, is_in_time}
use Rattle.md_core.proofs.Induction.Good.{IsAlone, DeliveryFits, Settles, Does}
use Rattle.md_core.proofs.Directories.Frames.{tmp-key}
use Rattle.md_core.proofs.Directories.Quiet.{quiet-stays, quiet-create, quiet-append, quiet-unlink}
use Rattle.md_core.proofs.Directories.Calls.Create.{create-alone, create-no_message}
use Rattle.md_core.proofs.Directories.Calls.Append.{append-alone}
use Rattle.md_core.proofs.Directories.Calls.Link.{link-lands}
use Rattle.md_core.proofs.Machines.Deliver.Replies.{accepted, there}
use Rattle.md_core.proofs.Machines.Deliver.Bytes.{piece-more, piece-within, piece-less}
use Rattle.md_core.proofs.Machines.Deliver.Does.{call_by, goes-on, ends, fails, takes-effect}

-- what a turn of a delivery does at a reply
abbrev pub DoesBy : State → ℕ → Call → Delivery → ℕ → Turn Delivery → DirReply → Type 0
DoesBy s number asked d clock turn r =
    Does s (state_by (ask_of turn.asked clock) s r) number asked (Deliver d) turn.asked r ((as_task Deliver turn).follows r (rows_for turn.asked s))

module _ (s : State) (number : ℕ) (asked : Call) (at : Moment) (sound : IsSound s) (one : HasOnePath s) where
  -- the name in tmp is made
  create-does : (d : Delivery) → DeliveryFits s asked (at_stage d Start) → (r : DirReply) →
      DoesBy s number asked (at_stage d Start) at.clock (create_turn (at_stage d Start) at.own) r
  create-does d fits reply.Ok =
      let same : length d.body - 0 ≡ length d.body = omega arith in
      let less : pieces_of (length d.body - 0) d.chunk + 2 < pieces_of (length d.body) d.chunk + 3 = rw same (omega arith) in
      goes-on s _ number asked (at_stage d Start) one fits _ _ (Writing at.own 0) (quiet-create s d.tmp fits.in_tmp sound at.clock fits.in_folder fits.stage)
      (omega arith, create-no_message s d.tmp at.clock fits.in_tmp sound fits.stage, create-alone s d.tmp at.clock fits.in_tmp sound fits.stage) refl refl less
  create-does d fits reply.Exists =
      fails s s number asked (at_stage d Start) one fits _ _ answer.NameTaken (quiet-stays s d.tmp.name sound) refl refl refl (omega arith)
  create-does d fits reply.NotFound =
      fails s s number asked (at_stage d Start) one fits _ _ answer.Fault (quiet-stays s d.tmp.name sound) refl refl refl (omega arith)
  create-does d fits reply.Fault =
      fails s s number asked (at_stage d Start) one fits _ _ answer.Fault (quiet-stays s d.tmp.name sound) refl refl refl (omega arith)

  -- the name in tmp is taken away, whatever the reply is
  unlink-does : (d : Delivery) (a : Answer) → DeliveryFits s asked d → Settles (cond (is_linked d.stage) (Some (delivery_effect number d)) None) a →
      0 < steps_left d d.stage →
      (r : DirReply) → DoesBy s number asked d at.clock (unlink_turn d a) r
  unlink-does d a fits settles some reply.Ok = ends s _ number asked d one fits _ _ a (quiet-unlink s d.tmp fits.in_tmp sound) refl settles some
  unlink-does d a fits settles some other = ends s s number asked d one fits _ _ a (quiet-stays s d.tmp.name sound) refl settles some

  -- while the file holds the first k bytes
  module _ (d : Delivery) (start k : ℕ) (fits : DeliveryFits s asked (at_stage d (Writing start k))) (faulted : Bool) where
    abbrev x : Delivery
    x = at_stage d (Writing start k)

    -- the delivery with one piece more, and with its message in new
    abbrev with_piece : After Task
    with_piece = record { task = Deliver (at_stage d (Writing start (k + piece_len d k))); answer = None; effect = None }

    abbrev with_message : After Task
    with_message = record { task = Deliver (at_stage d Linked); answer = None; effect = Some (delivery_effect number d) }

    -- the call changed nothing, and the file in tmp goes next, or is gone
    undoes : (made : Asked) (r : DirReply) (a : Refusal) → is_success (refused_by a) ≡ false → is_effect_at (call_by d) made r None ≡ false →
        Does s s number asked (Deliver x) made r (record { task = Deliver (at_stage d (Undo a)); answer = None; effect = None })
    undoes made r a failure none =
        goes-on s s number asked x one fits made r (Undo a) (quiet-stays s d.tmp.name sound) (fits.stage.1, failure) refl none (omega arith)

    fails_now : (made : Asked) (r : DirReply) (a : Answer) → is_success a ≡ false → is_effect_at (call_by d) made r (Some a) ≡ false →
        Does s s number asked (Deliver x) made r (record { task = Deliver x; answer = Some a; effect = None })
    fails_now made r a failure none = fails s s number asked x one fits made r a (quiet-stays s d.tmp.name sound) none refl failure (omega arith)

    append-done : (n : ℕ) → file_at s d.tmp ≡ Some n → k < length d.body →
        Does s (dirs.after_append (piece d k) at.clock s (Some n)) number asked (Deliver x) (append d.tmp (piece d k)) reply.Ok with_piece
    append-done n here more =
        let s' = dirs.after_append (piece d k) at.clock s (Some n) in
        let longer : IsAlone s' d.tmp (take k d.body ++ piece d k) =
        append-alone s d.tmp at.clock (piece d k) (take k d.body) n fits.in_tmp sound here fits.stage.2 in
        goes-on s s' number asked x one fits _ _ (Writing start (k + piece_len d k))
        (quiet-append s d.tmp fits.in_tmp sound at.clock (piece d k) (take k d.body) n here fits.stage.2)
        (piece-within d k fits.stage.0, fits.stage.1, subst (λ (bytes : List ℕ). IsAlone s' d.tmp bytes) (piece-more d k) longer)
        refl refl (let less = piece-less d k fits.chunked more in omega arith)

    append-does : k < length d.body → (r : DirReply) → r ≡ reply_of (dirs.append d.tmp (piece d k) at.clock) s faulted →
        DoesBy s number asked x at.clock (append_turn x start k) r
    append-does more reply.Ok replied =
        let here = there (file_at s d.tmp) None NotFound (accepted _ faulted (sym replied)) in
        subst (λ (o : Option ℕ). Does s (dirs.after_append (piece d k) at.clock s o) number asked (Deliver x)
        (append d.tmp (piece d k)) reply.Ok with_piece) (sym here.1)
        (append-done here.0 here.1 more)
    append-does more reply.Exists replied = fails_now _ _ answer.Fault refl refl
    append-does more reply.NotFound replied = fails_now _ _ answer.TmpGone refl refl
    append-does more reply.Fault replied = undoes _ _ refusal.Fault refl refl

    link-done : (n : ℕ) → d.tmp.folder < s.folders → file_at s d.tmp ≡ Some n → take k d.body ≡ d.body →
        Does s (dirs.with_path (target d) s (Some n)) number asked (Deliver x) (link d.tmp (target d)) reply.Ok with_message
    link-done n within here whole =
        let alone : IsAlone s d.tmp d.body = subst (λ (bytes : List ℕ). IsAlone s d.tmp bytes) whole fits.stage.2 in
        takes-effect s _ number asked x one fits _ _ n
        (link-lands s d.tmp (target d) d.tmp.name d.body n (inl (tmp-key d.tmp fits.in_tmp)) sound within here
        (alone.holds n here) fits.stage.1 fits.name.message fits.name.plain)
        fits.stage.1 refl (omega arith) refl

    link-does : take k d.body ≡ d.body → (r : DirReply) → r ≡ reply_of (dirs.link d.tmp (target d)) s faulted →
        DoesBy s number asked x at.clock (link_turn number x) r
    link-does whole reply.Ok replied =
        let here = there (file_at s d.tmp) _ NotFound (accepted _ faulted (sym replied)) in
        subst (λ (o : Option ℕ). Does s (dirs.with_path (target d) s o) number asked (Deliver x) (link d.tmp (target d)) reply.Ok with_message) (sym here.1)
        (link-done here.0 fits.in_folder here.1 whole)
    link-does whole reply.Exists replied = undoes _ _ refusal.NameTaken refl refl
    link-does whole reply.NotFound replied = fails_now _ _ answer.TmpGone refl refl
    link-does whole reply.Fault replied = undoes _ _ refusal.Fault refl refl

-- What a turn of a delivery does, whatever its stage.
module _ (s : State) (number : ℕ) (asked : Call) (at : Moment) (faulted : Bool) (sound : IsSound s) (one : HasOnePath s) (d : Delivery) where
  -- a turn, with the reply that the directories give
  abbrev DoesOne : Stage → Turn Delivery → Type 0
  DoesOne stage turn = DoesBy s number asked (at_stage d stage) at.clock turn (reply_of (ask_of turn.asked at.clock) s faulted)

  in_time-does : (start k : ℕ) → DeliveryFits s asked (at_stage d (Writing start k)) → (more : Bool) → nat_lt k (length d.body) ≡ more →
      DoesOne (Writing start k) (cond more (append_turn (at_stage d (Writing start k)) start k) (link_turn number (at_stage d (Writing start k))))
  in_time-does start k fits true is =
      append-does s number asked at sound one d start k fits faulted (grind (arith, nat_tests))
      (reply_of (dirs.append d.tmp (piece d k) at.clock) s faulted) refl
  in_time-does start k fits false is =
      let whole : length d.body ≤ k = grind (arith, nat_tests) in
      link-does s number asked at sound one d start k fits faulted (take_all k d.body whole) (reply_of (dirs.link d.tmp (target d)) s faulted) refl

  writing-does : (start k : ℕ) → DeliveryFits s asked (at_stage d (Writing start k)) → (b : Bool) → is_in_time start at.own ≡ b →
      DoesOne (Writing start k)
      (cond b (cond (nat_lt k (length d.body)) (append_turn (at_stage d (Writing start k)) start k) (link_turn number (at_stage d (Writing start k))))
      (unlink_turn (at_stage d (Writing start k)) answer.TimedOut))
  writing-does start k fits true is = in_time-does start k fits (nat_lt k (length d.body)) refl
  writing-does start k fits false is =
      unlink-does s number asked at sound one (at_stage d (Writing start k)) answer.TimedOut fits refl (omega arith) (reply_of (dirs.unlink d.tmp) s faulted)

  stage-does : (stage : Stage) → DeliveryFits s asked (at_stage d stage) → DoesOne stage (stage_turn number (at_stage d stage) at stage)
  stage-does Start fits = create-does s number asked at sound one d fits (reply_of (dirs.create d.tmp at.clock) s faulted)
  stage-does (Writing start k) fits = writing-does start k fits (is_in_time start at.own) refl
  stage-does Linked fits =
      unlink-does s number asked at sound one (at_stage d Linked) answer.Delivered fits (delivery_effect number d, refl, refl) (omega arith)
      (reply_of (dirs.unlink d.tmp) s faulted)
  stage-does (Undo a) fits =
      unlink-does s number asked at sound one (at_stage d (Undo a)) (refused_by a) fits (rw fits.stage.1 refl) (omega arith) (reply_of (dirs.unlink d.tmp) s faulted)

  pub delivery-does : DeliveryFits s asked d →
      DoesBy s number asked d at.clock (delivery_turn number d at) (reply_of (ask_of (delivery_turn number d at).asked at.clock) s faulted)
  delivery-does fits = stage-does d.stage fits
