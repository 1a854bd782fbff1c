-- If clocks are no more than 4 hours apart, the file of a delivery is young while the delivery is in time; and it is there if others leave
-- young files.
use Rattle.std.proofs.Common.{ℕ, suc, ◌≡◌, ◌≢◌, ◌<◌, ◌≤◌, ◌+◌, ◌-◌, ◌⊎◌, inl, inr, ◌++◌, [], List, Option, Some, None, Bool, true, false, cond, nat_lt, is_some, refl, sym, ap, subst, ◌∙◌, arith, length}
use Rattle.std.proofs.lemmas.Bool.{cases_lt}
use Rattle.std.proofs.lemmas.Bool.Decides.{nat_tests}
use Rattle.lists.proofs.Maps as maps
use Rattle.md_dirs.proofs.PathOrder.{path_total, path_exact}
use Rattle.md_dirs.proofs.Sound.{some_file, number-within, file_by-last, file_by-set_same}
use Rattle.md_dirs.specs.State.{State, IsSound, file_at, file_by, has_folder}
use Rattle.md_dirs.specs.Calls.{empty_file, file_with_more, after_append}
use Rattle.md_dirs.specs.declared.calls.DirError.TheVariants.{Exists, NotFound}
use Rattle.md_dirs.specs.declared.paths.File.{File}
use Rattle.md_dirs.specs.declared.paths.Path.{Path}
use Rattle.md_dirs.specs.declared.paths.Place.TheVariants.{Tmp}
use Rattle.md_dirs.specs.declared.rows.Row.{Row}
use Rattle.md_jobs.specs.Asked.{Asked, create, append, link, ask_of, reply_by, unlink}
use Rattle.md_jobs.specs.Tasks.Delivery.{Delivery}
use Rattle.md_jobs.specs.declared.answer.Answer.TheVariants as answer
use Rattle.md_jobs.specs.declared.deliver.Stage.{Stage}
use Rattle.md_jobs.specs.declared.deliver.Stage.TheVariants.{Start, Writing, Linked, Undo}
use Rattle.md_jobs.specs.declared.refusal.Refusal.TheVariants.{TimedOut}
use Rattle.md_jobs.specs.Machines.Deliver.{stage_turn, append_turn, link_turn, unlink_turn, is_in_time, piece, target}
use Rattle.md_jobs.specs.Machines.Refusals.{refused_by}
use Rattle.md_jobs.specs.Turn.{Turn}
use Rattle.md_jobs.specs.declared.step.DirReply.{DirReply}
use Rattle.md_jobs.specs.declared.step.DirReply.TheVariants as reply
use Rattle.md_core.proofs.Directories.Frames.{not_tmp}
use Rattle.md_core.proofs.Induction.Good.{IsUniqueName}
use Rattle.md_log.specs.declared.line.Deed.TheVariants as deed
use Rattle.md_law.specs.Clauses.{CleanedEarly}
use Rattle.md_law.specs.History.{History, at, now}
use Rattle.md_law.specs.Messages.{IsSeen}
use Rattle.md_law.specs.Law.{WrittenLate}
use Rattle.md_beside.specs.Story.{Story, Step, Did, asked, ours, step_at, step_seen, after_did, state, history, bare_file}
use Rattle.md_beside.specs.Beside.{IsStory, reply_due}
use Rattle.md_beside.proofs.Histories.{next_at, state-more, history-next, at-history, path-history, path-next, clock-before, clock-next}
use Rattle.md_beside.proofs.KeepsPaths.{on-tmp}
use Rattle.md_beside.proofs.KeptBytes.{kept-file}
use Rattle.md_beside.proofs.Others.{IsOther}
use Rattle.md_beside.proofs.OwnPath.{append-paths, after}
use Rattle.md_beside.proofs.OwnSteps.{IsNoWrite, writes-nothing}
use Rattle.md_beside.proofs.StaysBeside.{IsMine, StageMine, before, named, not-its}
use Rattle.md_beside.proofs.WithoutBytes.{file-bare}

-- the file is no older than the delivery, but for the 4 hours, where it is there
abbrev IsYoung : Story → ℕ → Path → ℕ → Type 0
IsYoung t k tmp start = (n : ℕ) (file : File) → file_at (state t k) tmp ≡ Some n → file_by (state t k).files n ≡ Some file
    → start ≤ file.stamp + 14400

-- it is there; or the delivery is out of time by any of our clocks
abbrev pub IsThere : Story → ℕ → Path → Type 0
IsThere t k tmp = (n : ℕ) × (file_at (state t k) tmp ≡ Some n)

abbrev pub IsLate : Story → ℕ → ℕ → Type 0
IsLate t k start = start + 100800 ≤ now (history t k)

-- nobody takes a young file of tmp
abbrev pub IsSpared : Story → Type 0
IsSpared t = (k : ℕ) (x : Step) → step_at t k ≡ Some x → CleanedEarly (next_at t k x) → ⊥

abbrev pub StageThere : Story → ℕ → Path → Stage → Type 0
StageThere t k tmp (Writing start from) = (start ≤ now (history t k) + 14400) × IsYoung t k tmp start
    × (IsSpared t → IsThere t k tmp ⊎ IsLate t k start)
StageThere t k tmp (Undo refusal) = refused_by refusal ≢ answer.TmpGone
StageThere t k tmp stage = Unit {0}

module _ (t : Story) (story : IsStory t) (k : ℕ) (x : Step) (is : step_at t k ≡ Some x) where
  pub clock-at : now (history t (suc k)) ≡ x.at.clock
  clock-at = ap (λ (h : History). now h) (history-next t k x is) ∙ clock-next t story k x is

  late-next : (start : ℕ) → IsLate t k start → IsLate t (suc k) start
  late-next start late =
      let same = clock-at in let rises = clock-before t story k x is in omega (arith, late, same, rises)

  begun-next : (start : ℕ) → start ≤ now (history t k) + 14400 → start ≤ now (history t (suc k)) + 14400
  begun-next start low =
      let same = clock-at in let rises = clock-before t story k x is in omega (arith, low, same, rises)

  -- ---- a step of another

  module _ (job : ℕ) (tmp : Path) (place : tmp.place ≡ Tmp) (other : IsOther t k x job tmp.name) (sound : IsSound (state t k))
      (mine : IsMine t k job tmp) (start : ℕ) (young : IsYoung t k tmp start) where
    -- the file stays as it was if it stays there
    file-still : (n : ℕ) → file_at (state t (suc k)) tmp ≡ Some n → file_by (state t (suc k)).files n ≡ file_by (state t k).files n
    file-still n there =
        let was = before t story k x is job tmp other place sound mine n there in
        let more = state-more t.image t.steps k x is in
        ap (λ (s : State). file_by s.files n) more
        ∙ kept-file (state t k) n (number-within (state t k) sound tmp n was) x.did x.at.clock x.reply
        (λ p e call answered at. other.owes.unmixed (
          other.actor,
          n,
          other.by,
          (e, answered, (p, (step_seen t.actor (state t k) x, refl, call), path-history t story k p ∙ at)),
          not-its t story k x is job tmp other place sound mine n was,
        ))
        tmp (sym (ap (λ (s : State). file_at s tmp) more) ∙ there)

    young-still : IsYoung t (suc k) tmp start
    young-still n file there by =
        young n file (before t story k x is job tmp other place sound mine n there) (sym (file-still n there) ∙ by)

    module _ (spares : CleanedEarly (next_at t k x) → ⊥) where
      -- if it goes, it was not young
      gone-late : IsThere t k tmp → file_at (state t (suc k)) tmp ≡ None → IsLate t (suc k) start
      gone-late (n, was) gone = elim (cases_lt (now (next_at t k x) - here.0.stamp) 129600) [
        | inl early ↦ absurd (spares (
          other.actor,
          tmp,
          n,
          record here.0 { bytes = [] },
          other.by,
          place,
          (path-history t story k tmp ∙ was, λ still. let none = path-next t story k x is tmp ∙ gone in cc),
          λ (seen : IsSeen (at (next_at t k x)) n). named t story k x is job tmp other place sound mine seen.0 n was
              (sym (path-next t story k x is seen.0) ∙ seen.1)
              (λ there. not_tmp seen.0 tmp place seen.2 (mine.only.of_file n seen.0 was there)),
          not-its t story k x is job tmp other place sound mine n was,
          ap (λ (s : State). file_by s.files n) (at-history t story k) ∙ file-bare (state t k).files n ∙ ap bare_file here.1,
          early,
        ))
        | inr old ↦
            let clock : now (history t (suc k)) ≡ now (next_at t k x) = ap (λ (h : History). now h) (history-next t k x is) in
            let low = young n here.0 was here.1 in
            omega (arith, old, low, clock)
      ]
        where
          here : (file : File) × (file_by (state t k).files n ≡ Some file)
          here = some_file (file_by (state t k).files n) (sound.filed tmp n was)

      there-next : IsThere t k tmp ⊎ IsLate t k start → IsThere t (suc k) tmp ⊎ IsLate t (suc k) start
      there-next (inr late) = inr (late-next start late)
      there-next (inl there) = by (file_at (state t (suc k)) tmp) refl
        where
          by : (o : Option ℕ) → file_at (state t (suc k)) tmp ≡ o → IsThere t (suc k) tmp ⊎ IsLate t (suc k) start
          by (Some m) here = inl (m, here)
          by None gone = inr (gone-late there gone)

  pub there-stays : (job : ℕ) (tmp : Path) (place : tmp.place ≡ Tmp) (other : IsOther t k x job tmp.name) (sound : IsSound (state t k)) →
      (stage : Stage) → StageMine t k job tmp stage → StageThere t k tmp stage →
      StageThere t (suc k) tmp stage
  there-stays job tmp place other sound Start mine there = tt
  there-stays job tmp place other sound (Writing start from) mine (begun, young, there) = (
    begun-next start begun,
    young-still job tmp place other sound mine start young,
    λ spare. there-next job tmp place other sound mine start young (spare k x is) (there spare),
  )
  there-stays job tmp place other sound Linked mine there = tt
  there-stays job tmp place other sound (Undo refusal) mine there = there

  -- ---- a step of its own

  module _ (job : ℕ) (who : x.who ≡ ours job) (sound : IsSound (state t k)) (d : Delivery)
      (in_tmp : d.tmp.place ≡ Tmp) (unique : IsUniqueName d.tmp.name) (in_folder : d.tmp.folder < (state t k).folders)
      (rows : List Row) (apart : (x.at.own ≤ x.at.clock + 14400) × (x.at.clock ≤ x.at.own + 14400)) where
    path-after : (a : Asked) (r : DirReply) → x.did ≡ asked a → x.reply ≡ r → state t (suc k) ≡ after_did (asked a) x.at.clock r (state t k)
    path-after a r did replied = after t story k job x is who sound a r did replied

    no-late : (a : Asked) → x.did ≡ asked a → IsNoWrite a → WrittenLate (next_at t k x) → ⊥
    no-late a did none late = let writes = late.2 in
        writes-nothing t story k job x is who sound d in_tmp unique a did none late.0 writes.0 writes.2

    module _ (did : x.did ≡ asked (create d.tmp)) (ok : x.reply ≡ reply.Ok) where
      created : file_at (state t (suc k)) d.tmp ≡ Some (length (state t k).files)
      created = ap (λ (s : State). file_at s d.tmp) (path-after (create d.tmp) reply.Ok did ok)
          ∙ maps.at_put path_total path_exact (state t k).names d.tmp d.tmp (length (state t k).files) refl

      created-young : IsYoung t (suc k) d.tmp x.at.own
      created-young n file there by =
          let both : Some n ≡ Some (length (state t k).files) = sym there ∙ created in
          let one : n ≡ length (state t k).files = cc in
          let made : Some file ≡ Some (empty_file x.at.clock) =
          sym by ∙ ap (λ (m : ℕ). file_by (state t (suc k)).files m) one
          ∙ ap (λ (s : State). file_by s.files (length (state t k).files)) (path-after (create d.tmp) reply.Ok did ok)
          ∙ file_by-last (state t k).files (Some (empty_file x.at.clock)) in
          let stamp : file.stamp ≡ x.at.clock = (let same : file ≡ empty_file x.at.clock = cc in ap (λ (f : File). f.stamp) same) in
          let low = apart.0 in
          omega (arith, stamp, low)

    module _ (bytes : List ℕ) (did : x.did ≡ asked (append d.tmp bytes)) (ok : x.reply ≡ reply.Ok) where
      appended : file_at (state t (suc k)) d.tmp ≡ file_at (state t k) d.tmp
      appended = ap (λ (s : State). file_at s d.tmp) (path-after (append d.tmp bytes) reply.Ok did ok)
          ∙ append-paths bytes x.at.clock (state t k) (file_at (state t k) d.tmp) d.tmp

      appended-young : (start : ℕ) → start ≤ now (history t k) + 14400 → IsYoung t (suc k) d.tmp start
      appended-young start begun n file there by =
          let was : file_at (state t k) d.tmp ≡ Some n = sym appended ∙ there in
          let here = some_file (file_by (state t k).files n) (sound.filed d.tmp n was) in
          let after-it = path-after (append d.tmp bytes) reply.Ok did ok
          ∙ ap (after_append bytes x.at.clock (state t k)) was in
          let written : Some file ≡ Some (record { bytes = here.0.bytes ++ bytes; stamp = x.at.clock }) =
          sym by ∙ ap (λ (s : State). file_by s.files n) after-it
          ∙ file_by-set_same (state t k).files n (file_with_more bytes x.at.clock (file_by (state t k).files n))
          (number-within (state t k) sound d.tmp n was)
          ∙ ap (file_with_more bytes x.at.clock) here.1 in
          let stamp : file.stamp ≡ x.at.clock =
          (let same : file ≡ record { bytes = here.0.bytes ++ bytes; stamp = x.at.clock } = cc in ap (λ (f : File). f.stamp) same) in
          let rises = clock-before t story k x is in
          omega (arith, begun, rises, stamp)

      appended-there : IsThere t k d.tmp → IsThere t (suc k) d.tmp
      appended-there (n, was) = (n, appended ∙ was)

    -- after a turn with which the delivery goes on
    abbrev Goes : Turn Delivery → DirReply → Type 0
    Goes turn r = x.did ≡ asked turn.asked → (turn.follows r rows).answer ≡ None →
        StageThere t (suc k) (turn.follows r rows).task.tmp (turn.follows r rows).task.stage

    goes-writing : (in_time more : Bool) (start from : ℕ) → StageThere t k d.tmp (Writing start from) → (r : DirReply) → x.reply ≡ r →
        Goes (cond in_time (cond more (append_turn d start from) (link_turn job d)) (unlink_turn d (refused_by TimedOut))) r
    goes-writing true true start from (begun, young, there) reply.Ok ok did on = (
      begun-next start begun,
      appended-young (piece d from) did ok start begun,
      λ spare. elim (there spare) [
        | inl here ↦ inl (appended-there (piece d from) did ok here)
        | inr late ↦ inr (late-next start late)
      ],
    )
    goes-writing true true start from there reply.Exists ok did on = cc
    goes-writing true true start from there reply.NotFound ok did on = cc
    goes-writing true true start from there reply.Fault ok did on = λ e. cc
    goes-writing true false start from there reply.Ok ok did on = tt
    goes-writing true false start from there reply.Exists ok did on = λ e. cc
    goes-writing true false start from there reply.NotFound ok did on = cc
    goes-writing true false start from there reply.Fault ok did on = λ e. cc
    goes-writing false more start from there r ok did on = cc

    pub there-goes : (stage : Stage) → StageThere t k d.tmp stage → (r : DirReply) → x.reply ≡ r → Goes (stage_turn job d x.at stage) r
    there-goes Start there reply.Ok ok did on =
        let same = clock-at in let low = apart.0 in
        (omega (arith, same, low), created-young did ok, λ spare. inl (length (state t k).files, created did ok))
    there-goes Start there reply.Exists ok did on = cc
    there-goes Start there reply.NotFound ok did on = cc
    there-goes Start there reply.Fault ok did on = cc
    there-goes (Writing start from) there r ok did on =
        goes-writing (is_in_time start x.at.own) (nat_lt from (length d.body)) start from there r ok did on
    there-goes Linked there r ok did on = cc
    there-goes (Undo refusal) there r ok did on = cc

    -- ---- no answer that it was gone

    -- in time the file is there
    in-time : (start : ℕ) → is_in_time start x.at.own ≡ true → IsThere t k d.tmp ⊎ IsLate t k start → IsThere t k d.tmp
    in-time start timely (inl there) = there
    in-time start timely (inr late) =
        let rises = clock-before t story k x is in
        let low = apart.1 in
        let less : x.at.own - start < 86400 = grind (arith, nat_tests, timely) in
        absurd (omega (arith, late, rises, low, less))

    -- where the file is there, an append is not answered that it is not, nor is a link
    due : (a : Asked) → x.did ≡ asked a → x.reply ≡ reply.NotFound → reply_by ((ask_of a x.at.clock).refusal (state t k)) ≡ reply.NotFound
    due a did not-found = elim (story.replied k x is) [
      | inl is-due ↦ sym (is-due ∙ ap (λ (e : Did). reply_due (state t k) e x.at.clock) did) ∙ not-found
      | inr fault ↦ let clash = sym fault ∙ not-found in absurd (let no : reply.Fault ≡ reply.NotFound = clash in cc)
    ]

    append-found : (bytes : List ℕ) (n : ℕ) → file_at (state t k) d.tmp ≡ Some n →
        reply_by ((ask_of (append d.tmp bytes) x.at.clock).refusal (state t k)) ≡ reply.NotFound → ⊥
    append-found bytes n there refused =
        let found : reply_by (cond (is_some (Some n)) None (Some NotFound)) ≡ reply.NotFound =
        subst (λ (o : Option ℕ). reply_by (cond (is_some o) None (Some NotFound)) ≡ reply.NotFound) there refused in cc

    link-found : (n : ℕ) → file_at (state t k) d.tmp ≡ Some n →
        reply_by ((ask_of (link d.tmp (target d)) x.at.clock).refusal (state t k)) ≡ reply.NotFound → ⊥
    link-found n there refused = by (file_at (state t k) (target d)) (subst (λ (o : Option ℕ). reply_by (cond (is_some o)
        (cond (has_folder (state t k) (target d)) (cond (is_some (file_at (state t k) (target d))) (Some Exists) None) (Some NotFound))
        (Some NotFound)) ≡ reply.NotFound) there refused)
      where
        folder : has_folder (state t k) (target d) ≡ true
        folder = grind (arith, nat_tests, in_folder)

        by : (o : Option ℕ) → reply_by (cond (has_folder (state t k) (target d)) (cond (is_some o) (Some Exists) None) (Some NotFound))
            ≡ reply.NotFound → ⊥
        by None is-refused = let same : reply_by (cond true None (Some NotFound)) ≡ reply.NotFound =
            subst (λ (b : Bool). reply_by (cond b None (Some NotFound)) ≡ reply.NotFound) folder is-refused in cc
        by (Some m) is-refused = let same : reply_by (cond true (Some Exists) (Some NotFound)) ≡ reply.NotFound =
            subst (λ (b : Bool). reply_by (cond b (Some Exists) (Some NotFound)) ≡ reply.NotFound) folder is-refused in cc

    -- in time it writes to a young file
    writes-young : (start from : ℕ) → is_in_time start x.at.own ≡ true → StageThere t k d.tmp (Writing start from) →
        x.did ≡ asked (append d.tmp (piece d from)) → WrittenLate (next_at t k x) → ⊥
    writes-young start from timely there did (n, file, writes, by, late) =
        let on = on-tmp t story k x is job who
        (append d.tmp (piece d from)) did d.tmp in_tmp refl deed.Write writes.2.0 writes.0 writes.2.1 in
        let was : file_at (state t k) d.tmp ≡ Some n = ap (file_at (state t k)) (sym on) ∙ sym (path-history t story k writes.2.0)
        ∙ writes.2.2 in
        let here = some_file (file_by (state t k).files n) (sound.filed d.tmp n was) in
        let bare : bare_file (file_by (state t k).files n) ≡ Some file =
        sym (ap (λ (s : State). file_by s.files n) (at-history t story k) ∙ file-bare (state t k).files n) ∙ by in
        let its : bare_file (Some here.0) ≡ Some file = ap bare_file (sym here.1) ∙ bare in
        let stamp : here.0.stamp ≡ file.stamp = (let e : record here.0 { bytes = [] } ≡ file = cc in ap (λ (f : File). f.stamp) e) in
        let less : x.at.own - start < 86400 = grind (arith, nat_tests, timely) in
        let young = there.1 n here.0 was here.1 in
        let clock = clock-next t story k x is in
        let low = apart.1 in
        omega (arith, late, stamp, less, young, clock, low)

    writes-timely : (in_time more : Bool) (start from : ℕ) → is_in_time start x.at.own ≡ in_time →
        StageThere t k d.tmp (Writing start from) →
        x.did ≡ asked (cond in_time (cond more (append_turn d start from) (link_turn job d)) (unlink_turn d (refused_by TimedOut))).asked →
        WrittenLate (next_at t k x) → ⊥
    writes-timely true true start from timely there did late = writes-young start from timely there did late
    writes-timely true false start from timely there did late = no-late (link d.tmp (target d)) did tt late
    writes-timely false more start from timely there did late = no-late (unlink d.tmp) did tt late

    pub never-late : (stage : Stage) → StageThere t k d.tmp stage → x.did ≡ asked (stage_turn job d x.at stage).asked →
        WrittenLate (next_at t k x) → ⊥
    never-late Start there did late = no-late (create d.tmp) did tt late
    never-late (Writing start from) there did late =
        writes-timely (is_in_time start x.at.own) (nat_lt from (length d.body)) start from refl there did late
    never-late Linked there did late = no-late (unlink d.tmp) did tt late
    never-late (Undo refusal) there did late = no-late (unlink d.tmp) did tt late

    -- after a turn with which the delivery is answered
    abbrev Ends : Turn Delivery → DirReply → Type 0
    Ends turn r = x.did ≡ asked turn.asked → (turn.follows r rows).answer ≡ Some answer.TmpGone → ⊥

    module _ (spare : IsSpared t) where
      ends-writing : (in_time more : Bool) (start from : ℕ) → is_in_time start x.at.own ≡ in_time →
          StageThere t k d.tmp (Writing start from) →
          (r : DirReply) → x.reply ≡ r →
          Ends (cond in_time (cond more (append_turn d start from) (link_turn job d)) (unlink_turn d (refused_by TimedOut))) r
      ends-writing true true start from timely there reply.Ok ok did gone = cc
      ends-writing true true start from timely there reply.Exists ok did gone = cc
      ends-writing true true start from timely there reply.NotFound ok did gone =
          let here = in-time start timely (there.2 spare) in
          append-found (piece d from) here.0 here.1 (due (append d.tmp (piece d from)) did ok)
      ends-writing true true start from timely there reply.Fault ok did gone = cc
      ends-writing true false start from timely there reply.Ok ok did gone = cc
      ends-writing true false start from timely there reply.Exists ok did gone = cc
      ends-writing true false start from timely there reply.NotFound ok did gone =
          let here = in-time start timely (there.2 spare) in link-found here.0 here.1 (due (link d.tmp (target d)) did ok)
      ends-writing true false start from timely there reply.Fault ok did gone = cc
      ends-writing false more start from timely there r ok did gone = cc

      pub never-gone : (stage : Stage) → StageThere t k d.tmp stage → (r : DirReply) → x.reply ≡ r → Ends (stage_turn job d x.at stage) r
      never-gone Start there reply.Ok ok did gone = cc
      never-gone Start there reply.Exists ok did gone = cc
      never-gone Start there reply.NotFound ok did gone = cc
      never-gone Start there reply.Fault ok did gone = cc
      never-gone (Writing start from) there r ok did gone =
          ends-writing (is_in_time start x.at.own) (nat_lt from (length d.body)) start from refl there r ok did gone
      never-gone Linked there r ok did gone = cc
      never-gone (Undo refusal) there r ok did gone = there (let same : refused_by refusal ≡ answer.TmpGone = cc in same)
