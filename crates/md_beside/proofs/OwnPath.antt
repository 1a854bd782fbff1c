-- A delivery's own steps: from its create to its link its path is its own.
use Rattle.std.proofs.Common.{ℕ, suc, ◌≡◌, ◌≢◌, List, Option, Some, None, Bool, true, false, cond, nat_lt, refl, sym, ap, subst, ◌∙◌, arith, length}
use Rattle.std.proofs.lemmas.List.{length-map}
use Rattle.lists.proofs.Maps as maps
use Rattle.md_dirs.proofs.PathOrder.{path_total, path_exact}
use Rattle.md_dirs.proofs.Sound.{by_path, number-within}
use Rattle.md_dirs.specs.State.{State, IsSound, file_at}
use Rattle.md_dirs.specs.Calls.{after_append}
use Rattle.md_dirs.specs.declared.paths.Path.{Path}
use Rattle.md_dirs.specs.declared.rows.Row.{Row}
use Rattle.md_jobs.specs.Asked.{Asked, create, append, link}
use Rattle.md_jobs.specs.Tasks.Delivery.{Delivery}
use Rattle.md_jobs.specs.declared.deliver.Stage.{Stage}
use Rattle.md_jobs.specs.declared.deliver.Stage.TheVariants.{Start, Writing, Linked, Undo}
use Rattle.md_jobs.specs.declared.refusal.Refusal.TheVariants.{TimedOut}
use Rattle.md_jobs.specs.Machines.Refusals.{refused_by}
use Rattle.md_jobs.specs.Machines.Deliver.{stage_turn, append_turn, link_turn, unlink_turn, is_in_time, piece, target}
use Rattle.md_jobs.specs.Turn.{Turn}
use Rattle.md_jobs.specs.declared.step.DirReply.{DirReply}
use Rattle.md_jobs.specs.declared.step.DirReply.TheVariants as reply
use Rattle.md_core.proofs.Induction.Good.{IsUnused, StageFits}
use Rattle.md_law.specs.Files.{IsMaker}
use Rattle.md_law.specs.History.{History}
use Rattle.md_beside.specs.Story.{Story, Step, Did, asked, ours, step_at, after_did, state, history, actor_seen, call_seen, reply_seen, step_seen}
use Rattle.md_beside.specs.Beside.{IsStory}
use Rattle.md_beside.proofs.Histories.{state-more, history-next, at-history}
use Rattle.md_beside.proofs.OneMaker.{maker-still, maker-now}
use Rattle.md_beside.proofs.StaysBeside.{IsMine, StageMine}

pub append-paths : (more : List ℕ) (now : ℕ) (s : State) (o : Option ℕ) (q : Path) → file_at (after_append more now s o) q ≡ file_at s q
append-paths more now s None q = refl
append-paths more now s (Some n) q = refl

module _ (t : Story) (story : IsStory t) (k job : ℕ) (x : Step) (is : step_at t k ≡ Some x) (who : x.who ≡ ours job)
    (sound : IsSound (state t k)) where
  -- the directories after the step, by what it did
  pub after : (a : Asked) (r : DirReply) → x.did ≡ asked a → x.reply ≡ r → state t (suc k) ≡ after_did (asked a) x.at.clock r (state t k)
  after a r did replied = state-more t.image t.steps k x is
      ∙ ap (λ (d : Did). after_did d x.at.clock x.reply (state t k)) did
      ∙ ap (λ (e : DirReply). after_did (asked a) x.at.clock e (state t k)) replied

  -- where the paths stay as they were
  pub mine-same : (tmp : Path) → ((q : Path) → file_at (state t (suc k)) q ≡ file_at (state t k) q) → IsMine t k job tmp →
      IsMine t (suc k) job tmp
  mine-same tmp same mine = record {
    only = record {
      of_name = λ q n used now. mine.only.of_name q n used (sym (same q) ∙ now);
      of_file = λ n q there now. mine.only.of_file n q (sym (same tmp) ∙ there) (sym (same q) ∙ now);
    };
    made = λ n now. subst (λ (h : History). IsMaker h (t.actor job) n) (sym (history-next t k x is))
        (maker-still (history t k) (step_seen t.actor (state t k) x) (t.actor job) n (mine.made n (sym (same tmp) ∙ now)));
  }

  -- the create
  module _ (tmp : Path) (unused : IsUnused (state t k) tmp.name) (did : x.did ≡ asked (create tmp)) (ok : x.reply ≡ reply.Ok) where
    beside : (q : Path) → q ≢ tmp → file_at (state t (suc k)) q ≡ file_at (state t k) q
    beside q differ = ap (λ (s : State). file_at s q) (after (create tmp) reply.Ok did ok)
        ∙ maps.beside_put path_total path_exact (state t k).names tmp q (length (state t k).files) differ

    pub number : (n : ℕ) → file_at (state t (suc k)) tmp ≡ Some n → n ≡ length (state t k).files
    number n now =
        let put = maps.at_put path_total path_exact (state t k).names tmp tmp (length (state t k).files) refl in
        let both : Some n ≡ Some (length (state t k).files) = sym now
        ∙ ap (λ (s : State). file_at s tmp) (after (create tmp) reply.Ok did ok) ∙ put in cc

    pub created : IsMine t (suc k) job tmp
    created = record {
      only = record {
        of_name = λ q n used now. by_path q tmp (λ same. same)
            (λ differ. let none = unused q used in let was = sym (beside q differ) ∙ now in absurd (let clash = sym none ∙ was in cc));
        of_file = λ n q there now. by_path q tmp (λ same. same)
            (λ differ.
            let low = number-within (state t k) sound q n (sym (beside q differ) ∙ now) in
            let at = number n there in absurd (omega (arith, low, at)));
      };
      made = λ n now. subst (λ (h : History). IsMaker h (t.actor job) n) (sym (history-next t k x is))
          (maker-now (history t k) (step_seen t.actor (state t k) x) (t.actor job) n (
            tmp,
            (step_seen t.actor (state t k) x, refl, ap (actor_seen t.actor) who),
            (
              step_seen t.actor (state t k) x,
              refl,
              ap (λ (d : Did). call_seen (state t k) d (reply_seen x.reply)) did
                  ∙ ap (λ (r : DirReply). call_seen (state t k) (asked (create tmp)) (reply_seen r)) ok,
            ),
            number n now ∙ sym (length-map (state t k).files _) ∙ ap (λ (s : State). length s.files) (sym (at-history t story k)),
          ));
    }

  module _ (d : Delivery) (rows : List Row) where
    -- after a turn with which the delivery goes on
    abbrev Goes : Turn Delivery → DirReply → Type 0
    Goes turn r = x.did ≡ asked turn.asked → (turn.follows r rows).answer ≡ None →
        StageMine t (suc k) job (turn.follows r rows).task.tmp (turn.follows r rows).task.stage

    writes : (start from : ℕ) → IsMine t k job d.tmp → (r : DirReply) → x.reply ≡ r → Goes (append_turn d start from) r
    writes start from mine reply.Ok ok did on = mine-same d.tmp
        (λ q. ap (λ (s : State). file_at s q) (after (append d.tmp (piece d from)) reply.Ok did ok)
        ∙ append-paths (piece d from) x.at.clock (state t k) (file_at (state t k) d.tmp) q) mine
    writes start from mine reply.Exists ok did on = cc
    writes start from mine reply.NotFound ok did on = cc
    writes start from mine reply.Fault ok did on = mine-same d.tmp
        (λ q. ap (λ (s : State). file_at s q) (after (append d.tmp (piece d from)) reply.Fault did ok)) mine

    links : IsMine t k job d.tmp → (r : DirReply) → x.reply ≡ r → Goes (link_turn job d) r
    links mine reply.Ok ok did on = tt
    links mine reply.Exists ok did on = mine-same d.tmp (λ q.
        ap (λ (s : State). file_at s q) (after (link d.tmp (target d)) reply.Exists did ok)) mine
    links mine reply.NotFound ok did on = cc
    links mine reply.Fault ok did on =
        mine-same d.tmp (λ q. ap (λ (s : State). file_at s q) (after (link d.tmp (target d)) reply.Fault did ok)) mine

    goes_on-writing : (in_time more : Bool) (start from : ℕ) → IsMine t k job d.tmp → (r : DirReply) → x.reply ≡ r →
        Goes (cond in_time (cond more (append_turn d start from) (link_turn job d)) (unlink_turn d (refused_by TimedOut))) r
    goes_on-writing true true start from mine r ok did on = writes start from mine r ok did on
    goes_on-writing true false start from mine r ok did on = links mine r ok did on
    goes_on-writing false more start from mine r ok did on = cc

    pub goes_on : (stage : Stage) → StageFits (state t k) d stage → StageMine t k job d.tmp stage → (r : DirReply) → x.reply ≡ r →
        Goes (stage_turn job d x.at stage) r
    goes_on Start fits mine reply.Ok ok did on = created d.tmp fits did ok
    goes_on Start fits mine reply.Exists ok did on = cc
    goes_on Start fits mine reply.NotFound ok did on = cc
    goes_on Start fits mine reply.Fault ok did on = cc
    goes_on (Writing start from) fits mine r ok did on =
        goes_on-writing (is_in_time start x.at.own) (nat_lt from (length d.body)) start from mine r ok did on
    goes_on Linked fits mine r ok did on = cc
    goes_on (Undo a) fits mine r ok did on = cc
