-- What a step of an errand does to paths: it gives its message another path, or links it, or takes it away where it has the flag T, or does
-- nothing.
use Rattle.std.proofs.Common.{ℕ, suc, ◌≡◌, ◌≢◌, ◌⊎◌, inl, inr, List, Some, None, true, false, not, refl, sym, ap, subst, ◌∙◌}
use Rattle.std.proofs.lemmas.Bool.{and_from}
use Rattle.md_dirs.proofs.Sound.{by_path}
use Rattle.md_dirs.specs.Path.{path_of}
use Rattle.md_dirs.specs.State.{State, file_at}
use Rattle.md_dirs.specs.declared.paths.Path.{Path}
use Rattle.md_dirs.specs.declared.paths.Place.{Place}
use Rattle.md_dirs.specs.declared.paths.Place.TheVariants.{New, Cur}
use Rattle.md_dirs.specs.declared.rows.Row.{Row}
use Rattle.md_name.specs.Letters.{Set}
use Rattle.md_name.specs.Names.{unique_of, flags_of, flagged}
use Rattle.md_name.proofs.Flagged.{IsUniquePart, unique_of-flagged}
use Rattle.md_jobs.specs.Asked.{Asked, create, append, link, rename, unlink, list, ask_of}
use Rattle.md_jobs.specs.Asked as jobs
use Rattle.md_jobs.specs.Machines.Errand.{asked_of, stage_turn}
use Rattle.md_jobs.specs.Machines.Purposes.{first, info_in, shown, wanted, name_copied, deed_by}
use Rattle.md_jobs.specs.Tasks.Errand.{Errand as ErrandOf, Stage, Look, Act}
use Rattle.md_jobs.specs.Turn.{After, rows_for}
use Rattle.md_jobs.specs.declared.call.Call.{Call}
use Rattle.md_jobs.specs.declared.purpose.Purpose.{Purpose}
use Rattle.md_jobs.specs.declared.purpose.Purpose.TheVariants.{Seen, Flag, Move, Copy, Expunge}
use Rattle.md_jobs.specs.declared.step.DirReply.{DirReply}
use Rattle.md_jobs.specs.declared.step.DirReply.TheVariants as reply
use Rattle.md_core.specs.Accepting.{MakesMessage}
use Rattle.md_core.specs.Mailbox.{HasOnePath}
use Rattle.md_used.specs.Paths.{is_message}
use Rattle.md_core.proofs.Directories.Frames.{not_tmp}
use Rattle.md_core.proofs.Induction.Good.{ErrandFits}
use Rattle.md_core.proofs.Looking.LookUps.{unique-part, message-name, info-in}
use Rattle.md_core.proofs.Machines.Errand.Copied.{makes-copy, copy-named, unused}
use Rattle.md_core.proofs.Machines.Errand.Table.Calls.{on}
use Rattle.md_core.proofs.Machines.Errand.Table.Deeds.{deed-fits}
use Rattle.md_core.proofs.Machines.Errand.Table.Rows.{not-tmp, one-place, acts-trashed}
use Rattle.md_core.proofs.Machines.Errand.Turns.{deed-there}
use Rattle.md_log.specs.declared.line.Call.TheVariants as told
use Rattle.md_log.specs.declared.line.Deed.{Deed}
use Rattle.md_log.specs.declared.line.Deed.TheVariants as deed
use Rattle.md_log.specs.declared.line.Naming.{Naming}
use Rattle.md_log.specs.declared.line.Naming.TheVariants as naming
use Rattle.md_log.specs.declared.line.Reply.{Reply}
use Rattle.md_log.specs.declared.line.Reply.TheVariants as said
use Rattle.md_law.specs.History.{IsCall}
use Rattle.md_law.specs.Messages.{IsTrashed}
use Rattle.md_beside.specs.Story.{Story, Step, Did, asked, step_at, after_did, state, call_seen, reply_seen, step_seen}
use Rattle.md_beside.specs.Beside.{IsStory, reply_due}
use Rattle.md_beside.specs.Jobs.{IsMove}
use Rattle.md_beside.proofs.Fresh.{NeverUsed}
use Rattle.md_beside.proofs.Histories.{next_at, state-more}
use Rattle.md_beside.proofs.OwnSteps.{named-others, named-itself}
use Rattle.md_beside.proofs.Rearranges.{IsFromNew, Rearranges}
use Rattle.md_beside.proofs.Renames.{Moves, renamed, unlinked-others, unlinked-itself}
use Rattle.md_beside.proofs.Replies.{call-made}

-- a call that links, renames, unlinks or lists
abbrev pub IsOfErrand : Asked → Type 0
IsOfErrand (create p) = ⊥
IsOfErrand (append p bytes) = ⊥
IsOfErrand a = Unit {0}

-- of calls on one path it makes unlinks alone
only-unlinks : (s : State) (a : Asked) (r : Reply) (d : Deed) (p : Path) (e : Reply) → IsOfErrand a →
    call_seen s (asked a) r ≡ told.At d p e → d ≡ deed.Unlink
only-unlinks s (create q) r d p e plain is = absurd plain
only-unlinks s (append q bytes) r d p e plain is = absurd plain
only-unlinks s (link old new) r d p e plain is = cc
only-unlinks s (rename old new) r d p e plain is = cc
only-unlinks s (unlink q) r d p e plain is = cc
only-unlinks s (list folder place) r d p e plain is = cc

-- the deed on a row
module _ (folder : ℕ) (u : List ℕ) (place : Place) (row : Row) where
  abbrev made : Purpose → Asked
  made p = asked_of (deed_by p folder u place row.name (info_in row.name))

  of-errand : (p : Purpose) → IsOfErrand (made p)
  of-errand (Seen given) = tt
  of-errand (Flag add remove) = tt
  of-errand (Move to) = tt
  of-errand (Copy to fresh) = tt
  of-errand Expunge = tt

module _ (t : Story) (story : IsStory t) (k : ℕ) (x : Step) (is : step_at t k ≡ Some x) (c : Call) where
  pub leaves : (a : Asked) (r : DirReply) → x.did ≡ asked a → x.reply ≡ r → state t (suc k) ≡ after_did (asked a) x.at.clock r (state t k)
  leaves a r did replied = state-more t.image t.steps k x is
      ∙ ap (λ (d : Did). after_did d x.at.clock x.reply (state t k)) did
      ∙ ap (λ (e : DirReply). after_did (asked a) x.at.clock e (state t k)) replied

  module _ (a : Asked) (did : x.did ≡ asked a) (plain : IsOfErrand a) where
    deed-is : (d : Deed) (p : Path) (e : Reply) → IsCall (next_at t k x) (told.At d p e) → d ≡ deed.Unlink
    deed-is d p e call = only-unlinks (state t k) a (reply_seen x.reply) d p e plain
        (sym (ap (λ (y : Did). call_seen (state t k) y (reply_seen x.reply)) did) ∙ call-made t k x (told.At d p e) call)

    pub no-write : (p : Path) (e : Reply) → IsCall (next_at t k x) (told.At deed.Write p e) → ⊥
    no-write p e call = let clash = deed-is deed.Write p e call in cc

    pub no-create : (p : Path) → IsCall (next_at t k x) (told.At deed.Create p said.Ok) → ⊥
    no-create p call = let clash = deed-is deed.Create p said.Ok call in cc

    -- where all is as it was
    pub quiet : state t (suc k) ≡ state t k → Rearranges t k x c
    quiet same = record {
      comes = λ p n now differ. absurd (differ (ap (λ (s : State). file_at s p) (sym same) ∙ now));
      goes = λ p n was none message. (let still = ap (λ (s : State). file_at s p) same in cc);
      in_tmp = λ _ p in_tmp. ap (λ (s : State). file_at s p) same;
      writes = λ n r writes. no-write writes.0 r writes.1;
      makes = no-create;
    }

    -- a message gets another path of its name
    moves : (o n : Path) (f : ℕ) → Moves (state t k) (state t (suc k)) o n f → file_at (state t k) o ≡ Some f → is_message o ≡ true →
        is_message n ≡ true → unique_of o.name ≡ unique_of n.name → (o.folder ≡ n.folder) ⊎ IsMove c →
        (n.place ≡ Cur) ⊎ IsFromNew t k x o → Rearranges t k x c
    moves o n f m there mo mn same folder place = record {
      comes = λ p j now differ. by_path p n
          (λ isn. record {
            from = o;
            there = there ∙ sym m.there ∙ ap (file_at (state t (suc k))) (sym isn) ∙ now;
            was_message = mo;
            message = ap is_message isn ∙ mn;
            unique = inl (
              same ∙ ap (λ (q : Path). unique_of q.name) (sym isn),
              subst (λ (q : Path). (o.folder ≡ q.folder) ⊎ IsMove c) (sym isn) folder,
            );
            place = subst (λ (q : Path). (q.place ≡ Cur) ⊎ IsFromNew t k x o) (sym isn) place;
          })
          (λ notn. by_path p o
          (λ iso. let gone = m.gone (λ one. notn (iso ∙ one)) in
          let here = ap (file_at (state t (suc k))) (sym iso) ∙ now in cc)
          (λ noto. absurd (differ (sym (m.others p noto notn) ∙ now))));
      goes = λ p j was none message. by_path p n
          (λ isn. let here = m.there in let gone = ap (file_at (state t (suc k))) (sym isn) ∙ none in cc)
          (λ notn. by_path p o
          (λ iso. inr (
            n,
            m.there ∙ sym there ∙ ap (file_at (state t k)) (sym iso) ∙ was,
            mn,
            sym same ∙ ap (λ (q : Path). unique_of q.name) (sym iso),
          ))
          (λ noto. let still = m.others p noto notn in cc));
      in_tmp = λ _ p in_tmp. m.others p (λ one. not_tmp o p in_tmp mo (sym one)) (λ one. not_tmp n p in_tmp mn (sym one));
      writes = λ j r writes. no-write writes.0 r writes.1;
      makes = no-create;
    }

    -- a message gets a path of a name that the call makes
    copies : (o n : Path) (f : ℕ) → a ≡ link o n → x.reply ≡ reply.Ok → file_at (state t k) o ≡ Some f → file_at (state t k) n ≡ None →
        is_message o ≡ true → is_message n ≡ true → MakesMessage c (unique_of n.name) → NeverUsed t k (unique_of n.name) →
        (n.place ≡ Cur) ⊎ IsFromNew t k x o → Rearranges t k x c
    copies o n f made ok there free mo mn makes never place =
        let after = leaves (link o n) reply.Ok (did ∙ ap asked made) ok in
        let others : (q : Path) → q ≢ n → file_at (state t (suc k)) q ≡ file_at (state t k) q =
        (λ q differ. ap (λ (s : State). file_at s q) after
        ∙ named-others (state t k) n x.at.clock (file_at (state t k) o) q differ) in
        let here : file_at (state t (suc k)) n ≡ file_at (state t k) o =
        ap (λ (s : State). file_at s n) after ∙ named-itself (state t k) n x.at.clock (file_at (state t k) o) free in
        record {
          comes = λ p j now differ. by_path p n
              (λ isn. record {
                from = o;
                there = sym here ∙ ap (file_at (state t (suc k))) (sym isn) ∙ now;
                was_message = mo;
                message = ap is_message isn ∙ mn;
                unique = inr (
                  subst (λ (q : Path). MakesMessage c (unique_of q.name)) (sym isn) makes,
                  subst (λ (q : Path). NeverUsed t k (unique_of q.name)) (sym isn) never,
                );
                place = subst (λ (q : Path). (q.place ≡ Cur) ⊎ IsFromNew t k x o) (sym isn) place;
              })
              (λ notn. absurd (differ (sym (others p notn) ∙ now)));
          goes = λ p j was none message. by_path p n
              (λ isn. let gone = sym here ∙ ap (file_at (state t (suc k))) (sym isn) ∙ none in cc)
              (λ notn. let still = others p notn in cc);
          in_tmp = λ _ p in_tmp. others p (λ one. not_tmp n p in_tmp mn (sym one));
          writes = λ j r writes. no-write writes.0 r writes.1;
          makes = no-create;
        }

    -- a trashed message of cur is unlinked
    unlinks : (o : Path) → a ≡ unlink o → x.reply ≡ reply.Ok →
        is_message o ≡ true → o.place ≡ Cur → IsTrashed o.name → Rearranges t k x c
    unlinks o made ok mo in_cur trashed =
        let after = leaves (unlink o) reply.Ok (did ∙ ap asked made) ok in
        let others : (q : Path) → q ≢ o → file_at (state t (suc k)) q ≡ file_at (state t k) q =
        (λ q differ. ap (λ (s : State). file_at s q) after ∙ unlinked-others (state t k) o q differ) in
        record {
          comes = λ p j now differ. by_path p o
              (λ iso. let none = ap (λ (s : State). file_at s p) after ∙ unlinked-itself (state t k) o p iso in cc)
              (λ noto. absurd (differ (sym (others p noto) ∙ now)));
          goes = λ p j was none message. by_path p o
              (λ iso. inl (
                (
                  step_seen t.actor (state t k) x,
                  refl,
                  ap (λ (d : Did). call_seen (state t k) d (reply_seen x.reply)) (did ∙ ap asked made)
                      ∙ ap (λ (r : DirReply). call_seen (state t k) (asked (unlink o)) (reply_seen r)) ok
                      ∙ ap (λ (q : Path). told.At deed.Unlink q said.Ok) (sym iso),
                ),
                ap (λ (q : Path). q.place) iso ∙ in_cur,
                subst (λ (q : Path). IsTrashed q.name) (sym iso) trashed,
              ))
              (λ noto. let still = others p noto in cc);
          in_tmp = λ _ p in_tmp. others p (λ one. not_tmp o p in_tmp mo (sym one));
          writes = λ j r writes. no-write writes.0 r writes.1;
          makes = no-create;
        }

  -- a listing changes nothing
  pub lists-nothing : (folder : ℕ) (place : Place) → x.did ≡ asked (list folder place) → (r : DirReply) → x.reply ≡ r →
      state t (suc k) ≡ state t k
  lists-nothing folder place did reply.Ok replied = leaves (list folder place) reply.Ok did replied
  lists-nothing folder place did reply.Exists replied = leaves (list folder place) reply.Exists did replied
  lists-nothing folder place did reply.NotFound replied = leaves (list folder place) reply.NotFound did replied
  lists-nothing folder place did reply.Fault replied = leaves (list folder place) reply.Fault did replied

  -- the call of a path of new is one of that path
  from-new : (o n : Path) (naming : Naming) →
      call_seen (state t k) x.did (reply_seen x.reply) ≡ told.Between naming o n (reply_seen x.reply) → o.place ≡ New → IsFromNew t k x o
  from-new o n naming call in_new = (in_new, naming, n, reply_seen x.reply, (step_seen t.actor (state t k) x, refl, call))

  -- ---- the turns

  module _ (job folder : ℕ) (u : List ℕ) where
    abbrev follows : Purpose → Stage → DirReply → After ErrandOf
    follows p stage r =
        let turn = stage_turn job (on folder u p stage) stage in turn.follows r (rows_for turn.asked (state t k))

    -- so it is where the errand goes on
    pub still : (p : Purpose) (stage : Stage) (r : DirReply) → x.reply ≡ r →
        x.did ≡ asked (stage_turn job (on folder u p stage) stage).asked → (follows p stage r).answer ≡ None → state t (suc k) ≡ state t k
    still p (Look place tries) r replied did on = lists-nothing folder place did r replied
    still p (Act place row tries) reply.Ok replied did on = cc
    still p (Act place row tries) reply.Exists replied did on = leaves (made folder u place row p) reply.Exists did replied
    still p (Act place row tries) reply.NotFound replied did on = leaves (made folder u place row p) reply.NotFound did replied
    still p (Act place row tries) reply.Fault replied did on = leaves (made folder u place row p) reply.Fault did replied

    module _ (one : HasOnePath (state t k)) (never : (v : List ℕ) → MakesMessage c v → NeverUsed t k v) (place : Place) (row : Row)
        (tries : ℕ) where
      abbrev o : Path
      o = path_of folder place row.name

      module _ (p : Purpose) (fits : ErrandFits (state t k) c (on folder u p (Act place row tries)))
          (did : x.did ≡ asked (made folder u place row p)) where
        message : is_message o ≡ true
        message = and_from _ _ (ap not (not-tmp p place fits.stage.at)) fits.stage.named

        plain : IsOfErrand (made folder u place row p)
        plain = of-errand folder u place row p

        called : (a : Asked) → made folder u place row p ≡ a →
            call_seen (state t k) x.did (reply_seen x.reply) ≡ call_seen (state t k) (asked a) (reply_seen x.reply)
        called a is = ap (λ (d : Did). call_seen (state t k) d (reply_seen x.reply)) (did ∙ ap asked is)

        -- a message of new keeps to new by its link or rename
        keeps-place : (n : Path) (naming : Naming) → n.place ≡ place → first p ≡ New →
            call_seen (state t k) x.did (reply_seen x.reply) ≡ told.Between naming o n (reply_seen x.reply) →
            (n.place ≡ Cur) ⊎ IsFromNew t k x o
        keeps-place n naming same new call = elim fits.stage.at [
          | inl is ↦ inr (from-new o n naming call (is ∙ new))
          | inr is ↦ inl (same ∙ is.1)
        ]

        module _ (ok : x.reply ≡ reply.Ok) where
          -- what was done was there
          replied : reply.Ok ≡ jobs.reply_by ((ask_of (made folder u place row p) x.at.clock).refusal (state t k))
          replied = elim (story.replied k x is) as
              (λ _. reply.Ok ≡ jobs.reply_by ((ask_of (made folder u place row p) x.at.clock).refusal (state t k))) [
                | inl due ↦ sym ok ∙ due ∙ ap (λ (d : Did). reply_due (state t k) d x.at.clock) did
                | inr fault ↦ (let clash = sym ok ∙ fault in cc)
              ]

          there : (f : ℕ) × (file_at (state t k) o ≡ Some f)
          there = deed-there (state t k) x.at.clock false o (deed_by p folder u place row.name (info_in row.name))
              (deed-fits (state t k) c folder u place row tries p fits) replied

          -- a message is renamed to a path of its name
          renames : (n : Path) → made folder u place row p ≡ rename o n → is_message n ≡ true → unique_of row.name ≡ unique_of n.name →
              (folder ≡ n.folder) ⊎ IsMove c → (n.place ≡ Cur) ⊎ IsFromNew t k x o → Rearranges t k x c
          renames n is_rename mn same =
              moves (made folder u place row p) did plain o n there.0
              (subst (λ (s : State). Moves (state t k) s o n there.0) (sym (leaves (rename o n) reply.Ok (did ∙ ap asked is_rename) ok))
              (renamed (state t k) o n there.0 one message mn same there.1))
              there.1 message mn same

          -- with these flags
          flags-moves : (flags : Set) → made folder u place row p ≡ rename o (path_of folder Cur (flagged u flags)) → Rearranges t k x c
          flags-moves flags is_rename =
              let part : IsUniquePart u = unique-part u fits.valid in
              let unique : unique_of (flagged u flags) ≡ u = unique_of-flagged u flags part.colonless in
              renames (path_of folder Cur (flagged u flags)) is_rename (message-name u (flagged u flags) part unique)
              (fits.stage.unique ∙ sym unique) (inl refl) (inl refl)

      done : (p : Purpose) → (fits : ErrandFits (state t k) c (on folder u p (Act place row tries))) →
          x.did ≡ asked (made folder u place row p) → x.reply ≡ reply.Ok → Rearranges t k x c
      done (Seen given) fits did ok = flags-moves (Seen given) fits did ok (wanted (Seen given) (shown (info_in row.name))) refl
      done (Flag add remove) fits did ok =
          flags-moves (Flag add remove) fits did ok (wanted (Flag add remove) (shown (info_in row.name))) refl
      done (Move to) fits did ok =
          let n : Path = path_of to place row.name in
          renames (Move to) fits did ok n refl (message (Move to) fits did) refl (inr (subst IsMove (sym fits.of) tt))
          (keeps-place (Move to) fits did n naming.Rename refl refl
          (called (Move to) fits did (rename o n) refl))
      done (Copy to fresh) fits did ok =
          let name = copy-named (state t k) c folder u to fresh place row tries fits in
          let n : Path = path_of to place (name_copied fresh (info_in row.name)) in
          let makes = subst (MakesMessage c) (sym name.unique) (makes-copy (state t k) c folder u to fresh place row tries fits) in
          copies (link o n) did tt o n (there (Copy to fresh) fits did ok).0 refl ok (there (Copy to fresh) fits did ok).1
          (unused (state t k) c folder u to fresh place row tries fits) (message (Copy to fresh) fits did)
          (and_from _ _ (ap not (not-tmp (Copy to fresh) place fits.stage.at)) name.message) makes (never (unique_of n.name) makes)
          (keeps-place (Copy to fresh) fits did n naming.Link refl refl
          (called (Copy to fresh) fits did (link o n) refl))
      done Expunge fits did ok =
          let trashed = acts-trashed (flags_of (info_in row.name)) fits.stage.acts in
          unlinks (unlink o) did tt o refl ok (message Expunge fits did) (one-place Expunge place refl fits.stage.at)
          (trashed.0, ap flags_of (sym (info-in row.name fits.stage.named)) ∙ trashed.1, trashed.2)

      -- where it was not done all is as it was
      refused : (p : Purpose) → x.did ≡ asked (made folder u place row p) → state t (suc k) ≡ state t k → Rearranges t k x c
      refused p did same = quiet (made folder u place row p) did (of-errand folder u place row p) same

      acts : (p : Purpose) → ErrandFits (state t k) c (on folder u p (Act place row tries)) →
          x.did ≡ asked (made folder u place row p) → (r : DirReply) → x.reply ≡ r → Rearranges t k x c
      acts p fits did reply.Ok replied = done p fits did replied
      acts p fits did reply.Exists replied = refused p did (leaves (made folder u place row p) reply.Exists did replied)
      acts p fits did reply.NotFound replied = refused p did (leaves (made folder u place row p) reply.NotFound did replied)
      acts p fits did reply.Fault replied = refused p did (leaves (made folder u place row p) reply.Fault did replied)

    pub rearranges : HasOnePath (state t k) → ((v : List ℕ) → MakesMessage c v → NeverUsed t k v) → (p : Purpose) (stage : Stage) →
        ErrandFits (state t k) c (on folder u p stage) → x.did ≡ asked (stage_turn job (on folder u p stage) stage).asked →
        Rearranges t k x c
    rearranges one never p (Look place tries) fits did = quiet (list folder place) did tt (lists-nothing folder place did x.reply refl)
    rearranges one never p (Act place row tries) fits did = acts one never place row tries p fits did x.reply refl
