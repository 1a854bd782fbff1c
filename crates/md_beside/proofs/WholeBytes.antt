-- A message of a delivery has the bytes of its body at each moment, whatever others do, and when the delivery is answered too.
use Rattle.std.proofs.Common.{ℕ, suc, ◌≡◌, ◌≤◌, List, Some, None, Bool, true, false, cond, nat_lt, refl, sym, ap, subst, ◌∙◌, arith, length}
use Rattle.std.proofs.lemmas.Bool.Decides.{nat_tests}
use Rattle.std.proofs.lemmas.List.{take_all}
use Rattle.std.specs.FinMap.{get}
use Rattle.md_dirs.proofs.Sound.{by_path, number-within}
use Rattle.md_dirs.specs.State.{State, IsSound, file_at}
use Rattle.md_dirs.specs.declared.paths.Path.{Path}
use Rattle.md_dirs.specs.declared.paths.Place.TheVariants.{Tmp}
use Rattle.md_dirs.specs.declared.rows.Row.{Row}
use Rattle.md_jobs.specs.Asked.{Asked, create, append, link, unlink}
use Rattle.md_jobs.specs.Tasks.Delivery.{Delivery}
use Rattle.md_jobs.specs.declared.answer.Answer.{Answer}
use Rattle.md_jobs.specs.declared.answer.Answer.TheVariants as answer
use Rattle.md_jobs.specs.declared.call.Call.{Call}
use Rattle.md_jobs.specs.declared.call.Call.TheVariants as call
use Rattle.md_jobs.specs.declared.deliver.Stage.{Stage}
use Rattle.md_jobs.specs.declared.deliver.Stage.TheVariants.{Start, Writing, Linked, Undo}
use Rattle.md_jobs.specs.declared.refusal.Refusal.TheVariants.{TimedOut}
use Rattle.md_jobs.specs.Machines.Deliver.{stage_turn, append_turn, link_turn, unlink_turn, is_in_time, piece, target}
use Rattle.md_jobs.specs.Machines.Refusals.{refused_by}
use Rattle.md_jobs.specs.Turn.{Turn}
use Rattle.md_jobs.specs.declared.step.DirReply.{DirReply}
use Rattle.md_jobs.specs.declared.step.DirReply.TheVariants as reply
use Rattle.md_core.specs.Accepting.{MakesMessage, name_used}
use Rattle.md_core.specs.Interleaving.{is_success}
use Rattle.md_core.specs.Mailbox.{Entry, mailbox_of}
use Rattle.md_core.proofs.Directories.Frames.{message-key, tmp-key, not_tmp}
use Rattle.md_core.proofs.Induction.Good.{IsUnused, HasNoMessage, IsUniqueName, StageFits, bytes_at}
use Rattle.md_core.proofs.Mailbox.Changes.{by_name}
use Rattle.md_core.proofs.Mailbox.Shown.{mailbox-shows}
use Rattle.md_law.specs.Files.{IsMaker}
use Rattle.md_law.specs.History.{History}
use Rattle.md_beside.specs.Story.{Story, Step, asked, ours, step_at, step_seen, reply_seen, after_did, state, box, history}
use Rattle.md_beside.specs.Beside.{IsStory}
use Rattle.md_beside.proofs.Fresh.{IsHeld, StageFresh, held-next, unused-none}
use Rattle.md_beside.proofs.Histories.{state-more, history-next, path-history}
use Rattle.md_beside.proofs.KeptBytes.{kept-bytes}
use Rattle.md_beside.proofs.OneMaker.{one-maker, maker-still}
use Rattle.md_beside.proofs.Others.{IsOther}
use Rattle.md_beside.proofs.OwnPath.{after, mine-same}
use Rattle.md_beside.proofs.OwnSteps.{IsNoWrite, no-write, paths, unlink-others, unlink-itself, linked-file}
use Rattle.md_beside.proofs.StaysBeside.{IsMine, StageMine, mine-still, no_message-still}

-- the files that have the name hold the body
abbrev pub IsBody : Story → ℕ → List ℕ → List ℕ → Type 0
IsBody t k u body = (q : Path) (n : ℕ) → name_used q ≡ u → file_at (state t k) q ≡ Some n → bytes_at (state t k) n ≡ body

abbrev pub StageBody : Story → ℕ → List ℕ → List ℕ → Stage → Type 0
StageBody t k u body Linked = IsBody t k u body
StageBody t k u body stage = Unit {0}

-- no message has the name, and the path in tmp is the job's own, if it is still there
abbrev pub IsUndone : Story → ℕ → ℕ → List ℕ → Type 0
IsUndone t k job u = (tmp : Path) × (tmp.name ≡ u) × (tmp.place ≡ Tmp) × IsMine t k job tmp × HasNoMessage (state t k) u

-- what is so once a delivery is answered
abbrev pub IsEnded : Story → ℕ → ℕ → List ℕ → List ℕ → Bool → Type 0
IsEnded t k job u body true = IsHeld t k job u × IsBody t k u body
IsEnded t k job u body false = IsUndone t k job u

abbrev pub Ended : Story → ℕ → ℕ → Call → Answer → Type 0
Ended t k job (call.Deliver folder u body chunk) a = IsEnded t k job u body (is_success a)
Ended t k job c a = Unit {0}

-- ---- a step of another

module _ (t : Story) (story : IsStory t) (k : ℕ) (x : Step) (is : step_at t k ≡ Some x) (job : ℕ) (u : List ℕ) (other : IsOther t k x job u)
    (sound : IsSound (state t k)) where
  module _ (held : IsHeld t k job u) where
    -- it writes to no file that has the name
    bytes-stay : (n : ℕ) (q q' : Path) → file_at (state t (suc k)) q ≡ Some n → name_used q' ≡ u → file_at (state t k) q' ≡ Some n →
        bytes_at (state t (suc k)) n ≡ bytes_at (state t k) n
    bytes-stay n q q' now used was =
        let more = state-more t.image t.steps k x is in
        ap (λ (s : State). bytes_at s n) more
        ∙ kept-bytes (state t k) n (number-within (state t k) sound q' n was) x.did x.at.clock x.reply
        (λ p e call answered at. other.owes.unmixed (
          other.actor,
          n,
          other.by,
          (e, answered, (p, (step_seen t.actor (state t k) x, refl, call), path-history t story k p ∙ at)),
          λ (m : IsMaker (history t k) other.actor n). held q' n used was (λ made. other.differs
              (one-maker (history t k) n other.actor (t.actor job) m made)),
        ))
        q (sym (ap (λ (s : State). file_at s q) more) ∙ now)

    pub body-stays : (body : List ℕ) → IsBody t k u body → IsBody t (suc k) u body
    body-stays body before q n used now = by_name (bytes_at (state t (suc k)) n) body (λ same. same) (λ differ.
        absurd (other.brings (q, n, used, now, λ q' used' was. differ (bytes-stay n q q' now used' was ∙ before q' n used' was))))

    held-stays : IsHeld t (suc k) job u
    held-stays = held-next t story k x is job u (λ q n used now not.
        other.brings (q, n, used, now, λ q' used' was. held q' n used' was not))

  ended-by : (body : List ℕ) (b : Bool) → IsEnded t k job u body b → IsEnded t (suc k) job u body b
  ended-by body true (held, whole) = (held-stays held, body-stays held body whole)
  ended-by body false (tmp, its, place, mine, none) =
      let same = subst (IsOther t k x job) (sym its) other in (
        tmp,
        its,
        place,
        mine-still t story k x is job tmp same place sound mine,
        subst (HasNoMessage (state t (suc k))) its (no_message-still t story k x is job tmp same place sound mine),
      )

pub stage_body-stays : (t : Story) (story : IsStory t) (k : ℕ) (x : Step) (is : step_at t k ≡ Some x) (job : ℕ) (u : List ℕ) →
    IsOther t k x job u → IsSound (state t k) → (tmp : Path) → tmp.name ≡ u → (body : List ℕ) (stage : Stage) →
    StageFresh t k job tmp stage → StageBody t k u body stage → StageBody t (suc k) u body stage
stage_body-stays t story k x is job u other sound tmp its body Start fresh whole = tt
stage_body-stays t story k x is job u other sound tmp its body (Writing start from) fresh whole = tt
stage_body-stays t story k x is job u other sound tmp its body Linked fresh whole =
    body-stays t story k x is job u other sound (subst (IsHeld t k job) its fresh) body whole
stage_body-stays t story k x is job u other sound tmp its body (Undo a) fresh whole = tt

pub ended-stays : (t : Story) (story : IsStory t) (k : ℕ) (x : Step) (is : step_at t k ≡ Some x) (job : ℕ) (c : Call) (a : Answer) →
    ((u : List ℕ) → MakesMessage c u → IsOther t k x job u) → IsSound (state t k) →
    Ended t k job c a → Ended t (suc k) job c a
ended-stays t story k x is job (call.Deliver folder u body chunk) a other sound ended =
    ended-by t story k x is job u (other u refl) sound body (is_success a) ended
ended-stays t story k x is job (call.Seen folder u flags tries) a other sound ended = tt
ended-stays t story k x is job (call.Flag folder u add remove tries) a other sound ended = tt
ended-stays t story k x is job (call.Move folder u to tries) a other sound ended = tt
ended-stays t story k x is job (call.Expunge folder u tries) a other sound ended = tt
ended-stays t story k x is job (call.Copy folder u to fresh tries) a other sound ended = tt
ended-stays t story k x is job (call.Clean folder) a other sound ended = tt

-- ---- a step of its own

module _ (t : Story) (story : IsStory t) (k job : ℕ) (x : Step) (is : step_at t k ≡ Some x) (who : x.who ≡ ours job)
    (sound : IsSound (state t k)) (d : Delivery) (in_tmp : d.tmp.place ≡ Tmp) (unique : IsUniqueName d.tmp.name) (rows : List Row) where
  path-after : (a : Asked) (r : DirReply) → x.did ≡ asked a → x.reply ≡ r → (q : Path) →
      file_at (state t (suc k)) q ≡ file_at (after_did (asked a) x.at.clock r (state t k)) q
  path-after = paths t story k job x is who sound d in_tmp unique

  -- a step that writes nothing keeps the bytes of a file that was there, and is
  bytes-after : (a : Asked) → x.did ≡ asked a → IsNoWrite a → (n : ℕ) (q q' : Path) → file_at (state t k) q' ≡ Some n →
      file_at (state t (suc k)) q ≡ Some n → bytes_at (state t (suc k)) n ≡ bytes_at (state t k) n
  bytes-after a did none n q q' was now =
      ap (λ (s : State). bytes_at s n) (after t story k job x is who sound a x.reply did refl)
      ∙ kept-bytes (state t k) n (number-within (state t k) sound q' n was) (asked a) x.at.clock x.reply
      (λ p e call answered at. no-write (state t k) a (reply_seen x.reply) p e none call)
      q (sym (path-after a x.reply did refl q) ∙ now)

  -- ---- the next stage

  linked-body : (start from : ℕ) → StageFits (state t k) d (Writing start from) → nat_lt from (length d.body) ≡ false →
      IsMine t k job d.tmp →
      x.did ≡ asked (link d.tmp (target d)) → x.reply ≡ reply.Ok → IsBody t (suc k) d.tmp.name d.body
  linked-body start from fits more mine did ok q n used now =
      let there = linked-file t story k job x is who sound d in_tmp unique mine fits.1 did ok q n used now in
      let past : length d.body ≤ from = grind (arith, nat_tests, more) in
      bytes-after (link d.tmp (target d)) did tt n q d.tmp there now ∙ fits.2.holds n there ∙ take_all from d.body past

  -- after a turn with which the delivery goes on
  abbrev Goes : Turn Delivery → DirReply → Type 0
  Goes turn r = x.did ≡ asked turn.asked → (turn.follows r rows).answer ≡ None →
      StageBody t (suc k) (turn.follows r rows).task.tmp.name (turn.follows r rows).task.body (turn.follows r rows).task.stage

  goes-writing : (in_time more : Bool) (start from : ℕ) → nat_lt from (length d.body) ≡ more →
      StageFits (state t k) d (Writing start from) →
      IsMine t k job d.tmp → (r : DirReply) → x.reply ≡ r →
      Goes (cond in_time (cond more (append_turn d start from) (link_turn job d)) (unlink_turn d (refused_by TimedOut))) r
  goes-writing true true start from is-more fits mine reply.Ok ok did on = tt
  goes-writing true true start from is-more fits mine reply.Exists ok did on = cc
  goes-writing true true start from is-more fits mine reply.NotFound ok did on = cc
  goes-writing true true start from is-more fits mine reply.Fault ok did on = tt
  goes-writing true false start from is-more fits mine reply.Ok ok did on = linked-body start from fits is-more mine did ok
  goes-writing true false start from is-more fits mine reply.Exists ok did on = tt
  goes-writing true false start from is-more fits mine reply.NotFound ok did on = cc
  goes-writing true false start from is-more fits mine reply.Fault ok did on = tt
  goes-writing false more start from is-more fits mine r ok did on = cc

  pub body-next : (stage : Stage) → StageFits (state t k) d stage → StageMine t k job d.tmp stage → (r : DirReply) → x.reply ≡ r →
      Goes (stage_turn job d x.at stage) r
  body-next Start fits mine reply.Ok ok did on = tt
  body-next Start fits mine reply.Exists ok did on = cc
  body-next Start fits mine reply.NotFound ok did on = cc
  body-next Start fits mine reply.Fault ok did on = cc
  body-next (Writing start from) fits mine r ok did on =
      goes-writing (is_in_time start x.at.own) (nat_lt from (length d.body)) start from refl fits mine r ok did on
  body-next Linked fits mine r ok did on = cc
  body-next (Undo a) fits mine r ok did on = cc

  -- ---- the answer

  -- after a turn with which the delivery is answered
  abbrev Ends : Turn Delivery → DirReply → Type 0
  Ends turn r = x.did ≡ asked turn.asked → (a : Answer) → (turn.follows r rows).answer ≡ Some a →
      IsEnded t (suc k) job d.tmp.name d.body (is_success a)

  fails : (refusal a : Answer) → is_success refusal ≡ false → Some refusal ≡ Some a → IsUndone t (suc k) job d.tmp.name →
      IsEnded t (suc k) job d.tmp.name d.body (is_success a)
  fails refusal a failed same undone =
      let one : refusal ≡ a = cc in
      subst (λ (b : Answer). IsEnded t (suc k) job d.tmp.name d.body (is_success b)) one
      (subst (IsEnded t (suc k) job d.tmp.name d.body) (sym failed) undone)

  undone-same : IsMine t k job d.tmp → HasNoMessage (state t k) d.tmp.name →
      ((q : Path) → file_at (state t (suc k)) q ≡ file_at (state t k) q) → IsUndone t (suc k) job d.tmp.name
  undone-same mine none same =
      (d.tmp, refl, in_tmp, mine-same t story k job x is who sound d.tmp same mine, λ p message its. same p ∙ none p message its)

  -- nothing uses the name
  mine-unused : IsUnused (state t k) d.tmp.name → IsMine t k job d.tmp
  mine-unused unused = record {
    only = record {
      of_name = λ q n used now. let none = unused q used in absurd (let clash = sym none ∙ now in cc);
      of_file = λ n q there now. let none = unused d.tmp (tmp-key d.tmp in_tmp) in absurd (let clash = sym none ∙ there in cc);
    };
    made = λ n there. let none = unused d.tmp (tmp-key d.tmp in_tmp) in absurd (let clash = sym none ∙ there in cc);
  }

  module _ (did : x.did ≡ asked (unlink d.tmp)) where
    -- what a path names after an unlink it named before
    was : (q : Path) (n : ℕ) → file_at (state t (suc k)) q ≡ Some n → file_at (state t k) q ≡ Some n
    was q n now =
        let here = sym (path-after (unlink d.tmp) x.reply did refl q) ∙ now in
        by_path q d.tmp
        (λ one. ap (file_at (state t k)) one ∙ unlink-itself (state t k) d.tmp x.at.clock x.reply n
        (ap (file_at (after_did (asked (unlink d.tmp)) x.at.clock x.reply (state t k))) (sym one) ∙ here))
        (λ differ. sym (unlink-others (state t k) d.tmp x.at.clock x.reply q differ) ∙ here)

    unlinked : IsMine t k job d.tmp → HasNoMessage (state t k) d.tmp.name → IsUndone t (suc k) job d.tmp.name
    unlinked mine none = (
      d.tmp,
      refl,
      in_tmp,
      record {
        only = record {
          of_name = λ q n used now. mine.only.of_name q n used (was q n now);
          of_file = λ n q there now. mine.only.of_file n q (was d.tmp n there) (was q n now);
        };
        made = λ n now. subst (λ (h : History). IsMaker h (t.actor job) n) (sym (history-next t k x is))
            (maker-still (history t k) (step_seen t.actor (state t k) x) (t.actor job) n (mine.made n (was d.tmp n now)));
      },
      λ p message its. path-after (unlink d.tmp) x.reply did refl p
          ∙ unlink-others (state t k) d.tmp x.at.clock x.reply p (not_tmp p d.tmp in_tmp message) ∙ none p message its,
    )

    delivered : IsHeld t k job d.tmp.name → IsBody t k d.tmp.name d.body → IsEnded t (suc k) job d.tmp.name d.body true
    delivered held whole = (
      held-next t story k x is job d.tmp.name (λ q n used now not. held q n used (was q n now) not),
      λ q n used now. bytes-after (unlink d.tmp) did tt n q q (was q n now) now ∙ whole q n used (was q n now),
    )

  creates : IsUnused (state t k) d.tmp.name → (r : DirReply) → x.reply ≡ r → Ends (stage_turn job d x.at Start) r
  creates unused reply.Ok ok did a is-answer = cc
  creates unused reply.Exists ok did a is-answer = fails answer.NameTaken a refl is-answer
      (undone-same (mine-unused unused) (unused-none (state t k) d.tmp.name unused) (path-after (create d.tmp) reply.Exists did ok))
  creates unused reply.NotFound ok did a is-answer = fails answer.Fault a refl is-answer
      (undone-same (mine-unused unused) (unused-none (state t k) d.tmp.name unused) (path-after (create d.tmp) reply.NotFound did ok))
  creates unused reply.Fault ok did a is-answer = fails answer.Fault a refl is-answer
      (undone-same (mine-unused unused) (unused-none (state t k) d.tmp.name unused) (path-after (create d.tmp) reply.Fault did ok))

  writes : (in_time more : Bool) (start from : ℕ) → StageFits (state t k) d (Writing start from) → IsMine t k job d.tmp →
      (r : DirReply) → x.reply ≡ r →
      Ends (cond in_time (cond more (append_turn d start from) (link_turn job d)) (unlink_turn d (refused_by TimedOut))) r
  writes true true start from fits mine reply.Ok ok did a is-answer = cc
  writes true true start from fits mine reply.Exists ok did a is-answer = fails answer.Fault a refl is-answer
      (undone-same mine fits.1 (path-after (append d.tmp (piece d from)) reply.Exists did ok))
  writes true true start from fits mine reply.NotFound ok did a is-answer = fails answer.TmpGone a refl is-answer
      (undone-same mine fits.1 (path-after (append d.tmp (piece d from)) reply.NotFound did ok))
  writes true true start from fits mine reply.Fault ok did a is-answer = cc
  writes true false start from fits mine reply.Ok ok did a is-answer = cc
  writes true false start from fits mine reply.Exists ok did a is-answer = cc
  writes true false start from fits mine reply.NotFound ok did a is-answer = fails answer.TmpGone a refl is-answer
      (undone-same mine fits.1 (path-after (link d.tmp (target d)) reply.NotFound did ok))
  writes true false start from fits mine reply.Fault ok did a is-answer = cc
  writes false more start from fits mine r ok did a is-answer = fails answer.TimedOut a refl is-answer (unlinked did mine fits.1)

  pub ends-next : (stage : Stage) → StageFits (state t k) d stage → StageMine t k job d.tmp stage → StageFresh t k job d.tmp stage →
      StageBody t k d.tmp.name d.body stage → (r : DirReply) → x.reply ≡ r → Ends (stage_turn job d x.at stage) r
  ends-next Start fits mine fresh whole r ok did a is-answer = creates fits r ok did a is-answer
  ends-next (Writing start from) fits mine fresh whole r ok did a is-answer =
      writes (is_in_time start x.at.own) (nat_lt from (length d.body)) start from fits mine r ok did a is-answer
  ends-next Linked fits mine fresh whole r ok did a is-answer =
      let one : answer.Delivered ≡ a = cc in
      subst (λ (b : Answer). IsEnded t (suc k) job d.tmp.name d.body (is_success b)) one (delivered did fresh whole)
  ends-next (Undo b) fits mine fresh whole r ok did a is-answer = fails (refused_by b) a fits.1 is-answer (unlinked did mine fits.0)

-- ---- the mailbox

-- a message of the name is none, or has the body
none-whole : (s : State) (u : List ℕ) (e : Entry) (body : List ℕ) → HasNoMessage s u → get (mailbox_of s) u ≡ Some e → e.bytes ≡ body
none-whole s u e body none at =
    let shows = mailbox-shows s u e at in
    absurd (let gone = none shows.path shows.message shows.unique in let there = shows.there in cc)

body-whole : (t : Story) (k : ℕ) (u body : List ℕ) (e : Entry) → IsBody t k u body → get (box t k) u ≡ Some e → e.bytes ≡ body
body-whole t k u body e whole at =
    let shows = mailbox-shows (state t k) u e at in
    ap (λ (x : Entry). x.bytes) (sym shows.entry) ∙ whole shows.path shows.file (message-key shows.path shows.message
    ∙ shows.unique) shows.there

pub stage-whole : (t : Story) (k : ℕ) (d : Delivery) (e : Entry) (stage : Stage) → StageFits (state t k) d stage →
    StageBody t k d.tmp.name d.body stage → get (box t k) d.tmp.name ≡ Some e → e.bytes ≡ d.body
stage-whole t k d e Start fits whole at = none-whole (state t k) d.tmp.name e d.body (unused-none (state t k) d.tmp.name fits) at
stage-whole t k d e (Writing start from) fits whole at = none-whole (state t k) d.tmp.name e d.body fits.1 at
stage-whole t k d e Linked fits whole at = body-whole t k d.tmp.name d.body e whole at
stage-whole t k d e (Undo a) fits whole at = none-whole (state t k) d.tmp.name e d.body fits.0 at

pub ended-whole : (t : Story) (k job : ℕ) (u body : List ℕ) (e : Entry) (b : Bool) → IsEnded t k job u body b → get (box t k) u ≡ Some e →
    e.bytes ≡ body
ended-whole t k job u body e true (held, whole) at = body-whole t k u body e whole at
ended-whole t k job u body e false (tmp, its, place, mine, none) at = none-whole (state t k) u e body none at
