-- What each step of a delivery keeps of the law, and of what was never done with its name and its file.
use Rattle.std.proofs.Common.{ℕ, suc, ◌≡◌, ◌≢◌, List, Option, Some, None, Bool, true, false, cond, nat_lt, refl, sym, ap, subst, ◌∙◌, arith, length}
use Rattle.lists.proofs.Maps as maps
use Rattle.md_dirs.proofs.PathOrder.{path_total, path_exact}
use Rattle.md_dirs.proofs.Sound.{by_path}
use Rattle.md_dirs.specs.State.{State, IsSound, file_at}
use Rattle.md_dirs.specs.Calls.{with_path}
use Rattle.md_dirs.specs.declared.paths.Path.{Path}
use Rattle.md_dirs.specs.declared.paths.Place.TheVariants.{Tmp}
use Rattle.md_dirs.specs.declared.rows.Row.{Row}
use Rattle.md_jobs.specs.Asked.{Asked, create, append, link, rename, unlink, list}
use Rattle.md_jobs.specs.Tasks.Delivery.{Delivery}
use Rattle.md_jobs.specs.declared.deliver.Stage.{Stage}
use Rattle.md_jobs.specs.declared.deliver.Stage.TheVariants.{Start, Writing, Linked, Undo}
use Rattle.md_jobs.specs.declared.refusal.Refusal.TheVariants.{TimedOut}
use Rattle.md_jobs.specs.Machines.Refusals.{refused_by}
use Rattle.md_jobs.specs.Machines.Deliver.{stage_turn, append_turn, link_turn, unlink_turn, is_in_time, piece, target}
use Rattle.md_jobs.specs.Turn.{Turn}
use Rattle.md_jobs.specs.declared.step.DirReply.{DirReply}
use Rattle.md_jobs.specs.declared.step.DirReply.TheVariants as reply
use Rattle.md_core.specs.Accepting.{name_used}
use Rattle.md_used.specs.Paths.{is_message}
use Rattle.md_core.proofs.Directories.Frames.{tmp-key, not_tmp}
use Rattle.md_core.proofs.Induction.Good.{IsUnused, HasNoMessage, IsUniqueName, StageFits}
use Rattle.md_log.specs.declared.line.Call.TheVariants as told
use Rattle.md_log.specs.declared.line.Deed.TheVariants as deed
use Rattle.md_log.specs.declared.line.Reply.{Reply}
use Rattle.md_log.specs.declared.line.Reply.TheVariants as said
use Rattle.md_law.specs.Files.{Writes, IsMaker}
use Rattle.md_law.specs.History.{History}
use Rattle.md_law.specs.Messages.{IsSeen}
use Rattle.md_beside.specs.Story.{Story, Step, asked, ours, step_at, after_did, state, history, call_seen, reply_seen}
use Rattle.md_beside.specs.Beside.{IsStory}
use Rattle.md_beside.proofs.OwnPath.{append-paths, after, number, created as made-file}
use Rattle.md_beside.proofs.Fresh.{NeverThere, NeverUsed, IsWhole, StageFresh, never-next, whole-next, held-next}
use Rattle.md_beside.proofs.Histories.{next_at, history-next, path-history}
use Rattle.md_beside.proofs.KeepsPaths.{KeepsAll, WritesOwn, IsOn, on-tmp, keeps-in_tmp, keeps-link, call-is}
use Rattle.md_beside.proofs.Replies.{IsNoReading}
use Rattle.md_beside.proofs.StaysBeside.{IsMine, StageMine}

-- ---- which paths a call leaves

module _ (s : State) (p : Path) (now : ℕ) where
  create-others : (r : DirReply) (q : Path) → q ≢ p → file_at (after_did (asked (create p)) now r s) q ≡ file_at s q
  create-others reply.Ok q differ = maps.beside_put path_total path_exact s.names p q (length s.files) differ
  create-others reply.Exists q differ = refl
  create-others reply.NotFound q differ = refl
  create-others reply.Fault q differ = refl

  append-others : (bytes : List ℕ) (r : DirReply) (q : Path) → file_at (after_did (asked (append p bytes)) now r s) q ≡ file_at s q
  append-others bytes reply.Ok q = append-paths bytes now s (file_at s p) q
  append-others bytes reply.Exists q = refl
  append-others bytes reply.NotFound q = refl
  append-others bytes reply.Fault q = refl

  pub unlink-others : (r : DirReply) (q : Path) → q ≢ p → file_at (after_did (asked (unlink p)) now r s) q ≡ file_at s q
  unlink-others reply.Ok q differ = maps.beside_drop path_total path_exact s.names p q differ
  unlink-others reply.Exists q differ = refl
  unlink-others reply.NotFound q differ = refl
  unlink-others reply.Fault q differ = refl

  pub unlink-itself : (r : DirReply) (n : ℕ) → file_at (after_did (asked (unlink p)) now r s) p ≡ Some n → file_at s p ≡ Some n
  unlink-itself reply.Ok n there = let gone = maps.at_drop path_total path_exact s.names p p refl in cc
  unlink-itself reply.Exists n there = there
  unlink-itself reply.NotFound n there = there
  unlink-itself reply.Fault n there = there

  pub named-others : (o : Option ℕ) (q : Path) → q ≢ p → file_at (with_path p s o) q ≡ file_at s q
  named-others None q differ = refl
  named-others (Some n) q differ = maps.beside_put path_total path_exact s.names p q n differ

  pub named-itself : (o : Option ℕ) → file_at s p ≡ None → file_at (with_path p s o) p ≡ o
  named-itself None free = free
  named-itself (Some n) free = maps.at_put path_total path_exact s.names p p n refl

-- the call is no write
abbrev pub IsNoWrite : Asked → Type 0
IsNoWrite (append p bytes) = ⊥
IsNoWrite a = Unit {0}

pub no-write : (s : State) (a : Asked) (r : Reply) (p : Path) (e : Reply) → IsNoWrite a →
    call_seen s (asked a) r ≡ told.At deed.Write p e → ⊥
no-write s (create q) r p e none is = cc
no-write s (append q bytes) r p e none is = none
no-write s (link old new) r p e none is = cc
no-write s (rename old new) r p e none is = cc
no-write s (unlink q) r p e none is = cc
no-write s (list folder place) r p e none is = cc

module _ (t : Story) (story : IsStory t) (k job : ℕ) (x : Step) (is : step_at t k ≡ Some x) (who : x.who ≡ ours job)
    (sound : IsSound (state t k))
    (d : Delivery) (in_tmp : d.tmp.place ≡ Tmp) (unique : IsUniqueName d.tmp.name) where
  pub paths : (a : Asked) (r : DirReply) → x.did ≡ asked a → x.reply ≡ r → (q : Path) →
      file_at (state t (suc k)) q ≡ file_at (after_did (asked a) x.at.clock r (state t k)) q
  paths a r did replied q = ap (λ (s : State). file_at s q) (after t story k job x is who sound a r did replied)

  pub writes-nothing : (a : Asked) → x.did ≡ asked a → IsNoWrite a → (n : ℕ) (e : Reply) → Writes (next_at t k x) n e → ⊥
  writes-nothing a did none n e writes = no-write (state t k) a (reply_seen x.reply) writes.0 e none
      (call-is t story k x is job who a did d.tmp in_tmp (told.At deed.Write writes.0 e) writes.1)

  -- a step on the path in tmp alone
  on-path : (a : Asked) → x.did ≡ asked a → IsOn d.tmp a → WritesOwn t k x job →
      ((q : Path) → q ≢ d.tmp → file_at (state t (suc k)) q ≡ file_at (state t k) q) →
      ((n : ℕ) → file_at (state t k) d.tmp ≡ Some n → (IsMaker (history t k) (t.actor job) n → ⊥) → ⊥) →
      ((n : ℕ) → file_at (state t (suc k)) d.tmp ≡ Some n → file_at (state t k) d.tmp ≢ Some n →
      IsMaker (next_at t k x) (t.actor job) n × NeverUsed t k d.tmp.name) → KeepsAll t k x d.tmp.name
  on-path a did on own other made makes = keeps-in_tmp t story k x is job who a did d.tmp in_tmp on own other made makes

  -- the create names a file that it makes
  created-itself : x.did ≡ asked (create d.tmp) → IsUnused (state t k) d.tmp.name → NeverUsed t k d.tmp.name → (r : DirReply) →
      x.reply ≡ r →
      (n : ℕ) → file_at (state t (suc k)) d.tmp ≡ Some n → file_at (state t k) d.tmp ≢ Some n →
      IsMaker (next_at t k x) (t.actor job) n × NeverUsed t k d.tmp.name
  created-itself did unused never reply.Ok replied n now not = (
    subst (λ (h : History). IsMaker h (t.actor job) n) (history-next t k x is)
        ((made-file t story k job x is who sound d.tmp unused did replied).made n now),
    never,
  )
  created-itself did unused never reply.Exists replied n now not =
      absurd (not (sym (paths (create d.tmp) reply.Exists did replied d.tmp) ∙ now))
  created-itself did unused never reply.NotFound replied n now not =
      absurd (not (sym (paths (create d.tmp) reply.NotFound did replied d.tmp) ∙ now))
  created-itself did unused never reply.Fault replied n now not =
      absurd (not (sym (paths (create d.tmp) reply.Fault did replied d.tmp) ∙ now))

  creates : x.did ≡ asked (create d.tmp) → IsUnused (state t k) d.tmp.name → NeverUsed t k d.tmp.name → KeepsAll t k x d.tmp.name
  creates did unused never = on-path (create d.tmp) did refl (λ n e writes. absurd (writes-nothing (create d.tmp) did tt n e writes))
      (λ q differ. paths (create d.tmp) x.reply did refl q ∙ create-others (state t k) d.tmp x.at.clock x.reply q differ)
      (λ n there not. let none = unused d.tmp (tmp-key d.tmp in_tmp) in cc)
      (created-itself did unused never x.reply refl)

  unlinks : x.did ≡ asked (unlink d.tmp) →
      ((n : ℕ) → file_at (state t k) d.tmp ≡ Some n → (IsMaker (history t k) (t.actor job) n → ⊥) → ⊥) →
      KeepsAll t k x d.tmp.name
  unlinks did made = on-path (unlink d.tmp) did refl (λ n e writes. absurd (writes-nothing (unlink d.tmp) did tt n e writes))
      (λ q differ. paths (unlink d.tmp) x.reply did refl q ∙ unlink-others (state t k) d.tmp x.at.clock x.reply q differ) made
      (λ n now not. absurd (not (unlink-itself (state t k) d.tmp x.at.clock x.reply n (sym (paths (unlink d.tmp) x.reply did refl d.tmp)
      ∙ now))))

  module _ (mine : IsMine t k job d.tmp) where
    made : (n : ℕ) → file_at (state t k) d.tmp ≡ Some n → (IsMaker (history t k) (t.actor job) n → ⊥) → ⊥
    made n there not = not (mine.made n there)

    own : ((n : ℕ) → file_at (state t k) d.tmp ≡ Some n → IsWhole t k n) → (bytes : List ℕ) → x.did ≡ asked (append d.tmp bytes) →
        WritesOwn t k x job
    own fresh bytes did n e writes =
        let at = on-tmp t story k x is job who (append d.tmp bytes) did d.tmp in_tmp refl deed.Write writes.0 e writes.1 in
        let there : file_at (state t k) d.tmp ≡ Some n = ap (file_at (state t k)) (sym at) ∙ sym (path-history t story k writes.0)
        ∙ writes.2 in
        ((fresh n there).0, mine.made n there)

    appends : ((n : ℕ) → file_at (state t k) d.tmp ≡ Some n → IsWhole t k n) → (bytes : List ℕ) → x.did ≡ asked (append d.tmp bytes) →
        KeepsAll t k x d.tmp.name
    appends fresh bytes did = on-path (append d.tmp bytes) did refl (own fresh bytes did)
        (λ q differ. paths (append d.tmp bytes) x.reply did refl q ∙ append-others (state t k) d.tmp x.at.clock bytes x.reply q) made
        (λ n now not. absurd (not (sym (paths (append d.tmp bytes) x.reply did refl d.tmp
        ∙ append-others (state t k) d.tmp x.at.clock bytes x.reply d.tmp) ∙ now)))

    module _ (none : HasNoMessage (state t k) d.tmp.name) (never : NeverThere t k d.tmp.name)
        (fresh : (n : ℕ) → file_at (state t k) d.tmp ≡ Some n → IsWhole t k n) (did : x.did ≡ asked (link d.tmp (target d))) where
      message : is_message (target d) ≡ true
      message = unique.message

      free : file_at (state t k) (target d) ≡ None
      free = none (target d) message unique.plain

      nothing : WritesOwn t k x job
      nothing n e writes = absurd (writes-nothing (link d.tmp (target d)) did tt n e writes)

      refused : (r : DirReply) → x.reply ≡ r →
          ((q : Path) → file_at (after_did (asked (link d.tmp (target d))) x.at.clock r (state t k)) q ≡ file_at (state t k) q) →
          KeepsAll t k x d.tmp.name
      refused r replied same = on-path (link d.tmp (target d)) did tt nothing
          (λ q differ. paths (link d.tmp (target d)) r did replied q ∙ same q) made
          (λ n now not. absurd (not (sym (paths (link d.tmp (target d)) r did replied d.tmp ∙ same d.tmp) ∙ now)))

      links : (r : DirReply) → x.reply ≡ r → KeepsAll t k x d.tmp.name
      links reply.Ok replied = keeps-link t story k x is job who (link d.tmp (target d)) did d.tmp in_tmp
          (target d) refl message unique.plain free
          (paths (link d.tmp (target d)) reply.Ok did replied (target d)
          ∙ named-itself (state t k) (target d) x.at.clock (file_at (state t k) d.tmp) free)
          (λ q differ. paths (link d.tmp (target d)) reply.Ok did replied q
          ∙ named-others (state t k) (target d) x.at.clock (file_at (state t k) d.tmp) q differ)
          tt nothing mine.made never fresh
      links reply.Exists replied = refused reply.Exists replied (λ q. refl)
      links reply.NotFound replied = refused reply.NotFound replied (λ q. refl)
      links reply.Fault replied = refused reply.Fault replied (λ q. refl)

  writing : (in_time more : Bool) (start from : ℕ) → StageFits (state t k) d (Writing start from) → IsMine t k job d.tmp →
      StageFresh t k job d.tmp (Writing start from) →
      x.did ≡ asked (cond in_time (cond more (append_turn d start from) (link_turn job d)) (unlink_turn d (refused_by TimedOut))).asked →
      KeepsAll t k x d.tmp.name
  writing true true start from fits mine fresh did = appends mine fresh.1 (piece d from) did
  writing true false start from fits mine fresh did = links mine fits.1 fresh.0 fresh.1 did x.reply refl
  writing false more start from fits mine fresh did = unlinks did (made mine)

  pub keeps-paths : (stage : Stage) → StageFits (state t k) d stage → StageMine t k job d.tmp stage → StageFresh t k job d.tmp stage →
      x.did ≡ asked (stage_turn job d x.at stage).asked → KeepsAll t k x d.tmp.name
  keeps-paths Start fits mine fresh did = creates did fits fresh.2
  keeps-paths (Writing start from) fits mine fresh did =
      writing (is_in_time start x.at.own) (nat_lt from (length d.body)) start from fits mine fresh did
  keeps-paths Linked fits mine fresh did = unlinks did (λ n there. fresh d.tmp n (tmp-key d.tmp in_tmp) there)
  keeps-paths (Undo a) fits mine fresh did = unlinks did (made mine)

  plain-writing : (in_time more : Bool) (start from : ℕ) →
      IsNoReading (cond in_time (cond more (append_turn d start from) (link_turn job d)) (unlink_turn d (refused_by TimedOut))).asked
  plain-writing true true start from = tt
  plain-writing true false start from = tt
  plain-writing false more start from = tt

  -- a delivery reads no directory
  pub plain : (stage : Stage) → IsNoReading (stage_turn job d x.at stage).asked
  plain Start = tt
  plain (Writing start from) = plain-writing (is_in_time start x.at.own) (nat_lt from (length d.body)) start from
  plain Linked = tt
  plain (Undo a) = tt

  -- after the link each path of the name names the file that the path in tmp named
  pub linked-file : IsMine t k job d.tmp → HasNoMessage (state t k) d.tmp.name → x.did ≡ asked (link d.tmp (target d)) →
      x.reply ≡ reply.Ok →
      (q : Path) (n : ℕ) → name_used q ≡ d.tmp.name → file_at (state t (suc k)) q ≡ Some n → file_at (state t k) d.tmp ≡ Some n
  linked-file mine none did ok q n used now = by_path q (target d)
      (λ one.
      sym (paths (link d.tmp (target d)) reply.Ok did ok (target d)
      ∙ named-itself (state t k) (target d) x.at.clock (file_at (state t k) d.tmp) (none (target d) unique.message unique.plain))
      ∙ ap (file_at (state t (suc k))) (sym one) ∙ now)
      (λ differ.
      let was : file_at (state t k) q ≡ Some n =
      sym (paths (link d.tmp (target d)) reply.Ok did ok q
      ∙ named-others (state t k) (target d) x.at.clock (file_at (state t k) d.tmp) q differ) ∙ now in
      ap (file_at (state t k)) (sym (mine.only.of_name q n used was)) ∙ was)

  -- ---- what is so at the next stage

  module _ (rows : List Row) where
    -- after a turn with which the delivery goes on
    abbrev Goes : Turn Delivery → DirReply → Type 0
    Goes turn r = x.did ≡ asked turn.asked → (turn.follows r rows).answer ≡ None →
        StageFits (state t (suc k)) (turn.follows r rows).task (turn.follows r rows).task.stage →
        StageMine t (suc k) job (turn.follows r rows).task.tmp (turn.follows r rows).task.stage →
        StageFresh t (suc k) job (turn.follows r rows).task.tmp (turn.follows r rows).task.stage

    -- the file of the path is seen by no reader
    unseen : IsMine t (suc k) job d.tmp → (n : ℕ) → file_at (state t (suc k)) d.tmp ≡ Some n → IsSeen (state t (suc k)) n → ⊥
    unseen mine n now seen = not_tmp seen.0 d.tmp in_tmp seen.2 (mine.only.of_file n seen.0 now seen.1)

    created : StageFresh t k job d.tmp Start → IsUnused (state t k) d.tmp.name → (r : DirReply) → x.reply ≡ r →
        Goes (stage_turn job d x.at Start) r
    created fresh unused reply.Ok ok did on fits mine = (
      never-next t story k x is d.tmp.name fits.1 fresh.0,
      λ n now. whole-next t story k x is n (unseen mine n now) (writes-nothing (create d.tmp) did tt n said.Fault)
          (fresh.1 n (let at = number t story k job x is who sound d.tmp unused did ok n now in omega (arith, at))),
    )
    created fresh unused reply.Exists ok did on fits mine = cc
    created fresh unused reply.NotFound ok did on fits mine = cc
    created fresh unused reply.Fault ok did on fits mine = cc

    appended : (start from : ℕ) → StageFresh t k job d.tmp (Writing start from) → (r : DirReply) → x.reply ≡ r →
        Goes (append_turn d start from) r
    appended start from fresh reply.Ok ok did on fits mine = (
      never-next t story k x is d.tmp.name fits.1 fresh.0,
      λ n now.
          let was : file_at (state t k) d.tmp ≡ Some n =
          sym (paths (append d.tmp (piece d from)) reply.Ok did ok d.tmp
          ∙ append-others (state t k) d.tmp x.at.clock (piece d from) reply.Ok d.tmp) ∙ now in
          whole-next t story k x is n (unseen mine n now)
          (λ writes.
          let call = call-is t story k x is job who (append d.tmp (piece d from)) did d.tmp in_tmp
          (told.At deed.Write writes.0 said.Fault) writes.1 in
          let done : told.At deed.Write d.tmp (reply_seen x.reply) ≡ told.At deed.Write d.tmp said.Ok =
          ap (λ (e : DirReply). told.At deed.Write d.tmp (reply_seen e)) ok in cc)
          (fresh.1 n was),
    )
    appended start from fresh reply.Exists ok did on fits mine = cc
    appended start from fresh reply.NotFound ok did on fits mine = cc
    appended start from fresh reply.Fault ok did on fits mine = tt

    linked : IsMine t k job d.tmp → HasNoMessage (state t k) d.tmp.name → (r : DirReply) → x.reply ≡ r → Goes (link_turn job d) r
    linked mine none reply.Ok ok did on fits mine' =
        held-next t story k x is job d.tmp.name (λ q n used now not. not (mine.made n (linked-file mine none did ok q n used now)))
    linked mine none reply.Exists ok did on fits mine' = tt
    linked mine none reply.NotFound ok did on fits mine' = cc
    linked mine none reply.Fault ok did on fits mine' = tt

    goes-writing : (in_time more : Bool) (start from : ℕ) → StageFits (state t k) d (Writing start from) → IsMine t k job d.tmp →
        StageFresh t k job d.tmp (Writing start from) → (r : DirReply) → x.reply ≡ r →
        Goes (cond in_time (cond more (append_turn d start from) (link_turn job d)) (unlink_turn d (refused_by TimedOut))) r
    goes-writing true true start from fits mine fresh r ok did on fits' mine' = appended start from fresh r ok did on fits' mine'
    goes-writing true false start from fits mine fresh r ok did on fits' mine' = linked mine fits.1 r ok did on fits' mine'
    goes-writing false more start from fits mine fresh r ok did on fits' mine' = cc

    pub fresh-next : (stage : Stage) → StageFits (state t k) d stage → StageMine t k job d.tmp stage → StageFresh t k job d.tmp stage →
        (r : DirReply) → x.reply ≡ r → Goes (stage_turn job d x.at stage) r
    fresh-next Start fits mine fresh r ok did on fits' mine' = created fresh fits r ok did on fits' mine'
    fresh-next (Writing start from) fits mine fresh r ok did on fits' mine' =
        goes-writing (is_in_time start x.at.own) (nat_lt from (length d.body)) start from fits mine fresh r ok did on fits' mine'
    fresh-next Linked fits mine fresh r ok did on fits' mine' = cc
    fresh-next (Undo a) fits mine fresh r ok did on fits' mine' = cc
