-- What a turn of a delivery does, by what its call does: it goes on, ends, or takes effect.
use Rattle.std.proofs.Common.{ℕ, ◌≡◌, ◌<◌, List, Option, Some, None, true, false, cond, length, refl, sym, ap, subst, ◌∙◌, MatchOption}
use Rattle.std.specs.FinMap as finmap
use Rattle.md_core.proofs.Values.{State, Call, Answer, Effect, DirReply, Deliver, New, Delivery, Stage, Linked, Entry, mailbox_of, HasOnePath, alone, deliver_alone, names_of, names_after_change, Asked, AsAlone, is_effect_at, is_success}
use Rattle.md_jobs.specs.declared.answer.Answer.TheVariants as answer
use Rattle.md_jobs.specs.declared.call.Call.TheVariants as call
use Rattle.md_jobs.specs.Machines.Deliver.{at_stage, target, delivery_effect, steps_left}
use Rattle.md_core.proofs.Theorem.RunLaw.{is_linked}
use Rattle.md_core.proofs.Induction.Good.{bytes_at, HasNoMessage, StageFits, DeliveryFits, Settles, Does}
use Rattle.md_core.proofs.Mailbox.Changes.{Puts, one-keeps, mailbox-keeps, one-puts, mailbox-puts}
use Rattle.md_core.proofs.Mailbox.Naming.{names-insert}
use Rattle.md_core.proofs.Mailbox.Shown.{mailbox-shows}
use Rattle.md_core.proofs.Directories.Frames.{task-frame, makes-delivery}
use Rattle.md_core.proofs.Directories.Quiet.{Quiet}
use Rattle.md_core.proofs.Directories.Calls.Link.{Lands}

-- the call of a delivery
abbrev pub call_by : Delivery → Call
call_by d = call.Deliver d.tmp.folder d.tmp.name d.body d.chunk

-- the effect that a delivery has had, by whether it is past its link
abbrev had_by : ℕ → Delivery → Stage → Option Effect
had_by number d stage = cond (is_linked stage) (Some (delivery_effect number d)) None

module _ (s s' : State) (number : ℕ) (asked : Call) (d : Delivery) (one : HasOnePath s) (fits : DeliveryFits s asked d) (made : Asked) (r : DirReply) where
  -- the delivery fits at another stage
  refit : (stage : Stage) → s'.folders ≡ s.folders → StageFits s' d stage → DeliveryFits s' asked (at_stage d stage)
  refit stage folders h = record {
    of = fits.of;
    in_tmp = fits.in_tmp;
    in_folder = subst (λ (n : ℕ). d.tmp.folder < n) (sym folders) fits.in_folder;
    name = fits.name;
    chunked = fits.chunked;
    stage = h;
  }

  -- no call but a link that is done is where a delivery takes effect
  abbrev pub IsNoEffect : Option Answer → Type 0
  IsNoEffect o = is_effect_at (call_by d) made r o ≡ false

  no_effect : (o : Option Answer) → IsNoEffect o → false ≡ is_effect_at asked made r o
  no_effect o none = sym (ap (λ (c : Call). is_effect_at c made r o) fits.of ∙ none)

  -- the mailbox stays
  quiet-does : (stage : Stage) (o : Option Answer) → Quiet s s' d.tmp.name → (o ≡ None → StageFits s' d stage) → is_linked stage ≡ is_linked d.stage →
      IsNoEffect o → MatchOption o (Unit {0}) (Settles (had_by number d d.stage)) →
      MatchOption o (steps_left d stage < steps_left d d.stage) (λ a. 0 < steps_left d d.stage) →
      Does s s' number asked (Deliver d) made r (record { task = Deliver (at_stage d stage); answer = o; effect = None })
  quiet-does stage o quiet stage_fits linked none settles nearer = record {
    sound = quiet.sound;
    one_path = one-keeps s s' one quiet.keeps;
    folders = quiet.spares.folders;
    fits = λ unanswered. refit stage quiet.spares.folders (stage_fits unanswered);
    others = λ asked' task' apart. task-frame s s' d.tmp.name quiet.frame quiet.spares.folders asked' task' (apart d.tmp.name (makes-delivery s asked d fits));
    none_overwritten = quiet.spares.none_overwritten;
    no_messages = quiet.spares.no_messages;
    as_alone = mailbox-keeps s s' one quiet.keeps;
    is_effect = no_effect o none;
    first = tt;
    found = λ u size unanswered its. absurd its;
    effect = tt;
    settles = settled o settles;
    nearer = nearer;
    fixed = λ unanswered a b. refl;
  }
    where
      settled : (o' : Option Answer) → MatchOption o' (Unit {0}) (Settles (had_by number d d.stage)) →
          MatchOption o' (had_by number d stage ≡ had_by number d d.stage) (Settles (had_by number d d.stage))
      settled None h = ap (λ b. cond {A = Option Effect} b (Some (delivery_effect number d)) None) linked
      settled (Some a) h = h

  -- it goes on at another stage
  pub goes-on : (stage : Stage) → Quiet s s' d.tmp.name → StageFits s' d stage → is_linked stage ≡ is_linked d.stage → IsNoEffect None →
      steps_left d stage < steps_left d d.stage →
      Does s s' number asked (Deliver d) made r (record { task = Deliver (at_stage d stage); answer = None; effect = None })
  goes-on stage quiet stage_fits linked none less = quiet-does stage None quiet (λ _. stage_fits) linked none tt less

  -- it ends with an answer
  pub ends : (a : Answer) → Quiet s s' d.tmp.name → IsNoEffect (Some a) → Settles (had_by number d d.stage) a → 0 < steps_left d d.stage →
      Does s s' number asked (Deliver d) made r (record { task = Deliver d; answer = Some a; effect = None })
  ends a quiet none settles some = quiet-does d.stage (Some a) quiet (λ h. cc) refl none settles some

  -- an answer that says that it failed, before the link
  pub fails : (a : Answer) → Quiet s s' d.tmp.name → IsNoEffect (Some a) → is_linked d.stage ≡ false → is_success a ≡ false → 0 < steps_left d d.stage →
      Does s s' number asked (Deliver d) made r (record { task = Deliver d; answer = Some a; effect = None })
  fails a quiet none unlinked failure some = ends a quiet none (settles a failure) some
    where
      settles : (b : Answer) → is_success b ≡ false → Settles (had_by number d d.stage) b
      settles b failure = rw failure (ap (λ t. cond {A = Option Effect} t (Some (delivery_effect number d)) None) unlinked)

  -- the mailbox has no message of the name
  no_entry : HasNoMessage s d.tmp.name → (o : Option Entry) → finmap.get (mailbox_of s) d.tmp.name ≡ o → finmap.get (mailbox_of s) d.tmp.name ≡ None
  no_entry none None is = is
  no_entry none (Some e) is = let h = mailbox-shows s d.tmp.name e is in let gone = none h.path h.message h.unique in let at = h.there in cc

  -- the message that is then in new
  abbrev message : Entry
  message = record { folder = d.tmp.folder; place = New; info = None; bytes = d.body }

  added : (n : ℕ) → Puts s s' (target d) n → bytes_at s' n ≡ d.body → mailbox_of s' ≡ finmap.insert (mailbox_of s) d.tmp.name message
  added n puts bytes = mailbox-puts s s' (target d) n one puts
      ∙ (λ i. finmap.insert (mailbox_of s) (fits.name.plain i) (record { folder = d.tmp.folder; place = New; info = fits.name.bare i; bytes = bytes i }))

  renamed : (n : ℕ) → Puts s s' (target d) n → bytes_at s' n ≡ d.body →
      names_of (mailbox_of s') ≡ names_after_change (names_of (mailbox_of s)) (delivery_effect number d).change
  renamed n puts bytes =
      ap names_of (added n puts bytes) ∙ names-insert (mailbox_of s) d.tmp.name message
      ∙ ap (λ (u : List ℕ). finmap.insert (names_of (mailbox_of s)) u
      (record { folder = d.tmp.folder; place = New; name = d.tmp.name; size = length d.body })) (sym fits.name.plain)

  as_alone : (n : ℕ) → Puts s s' (target d) n → bytes_at s' n ≡ d.body → HasNoMessage s d.tmp.name →
      AsAlone asked (Some (delivery_effect number d)) (mailbox_of s) (mailbox_of s')
  as_alone n puts bytes none =
      ap (λ (c : Call). alone c (mailbox_of s)) fits.of
      ∙ ap (deliver_alone (mailbox_of s) d.tmp.folder d.tmp.name d.body) (no_entry none _ refl)
      ∙ sym (λ i. record { answer = answer.Delivered; after = added n puts bytes i })

  -- it takes effect: the message is in new
  pub takes-effect : (n : ℕ) → Lands s s' d.tmp.name (target d) n d.body → HasNoMessage s d.tmp.name → is_linked d.stage ≡ false → 1 < steps_left d d.stage →
      is_effect_at (call_by d) made r None ≡ true →
      Does s s' number asked (Deliver d) made r (record { task = Deliver (at_stage d Linked); answer = None; effect = Some (delivery_effect number d) })
  takes-effect n lands none unlinked more is_effect = record {
    sound = lands.sound;
    one_path = one-puts s s' (target d) n one lands.puts;
    folders = lands.spares.folders;
    fits = λ _. refit Linked lands.spares.folders tt;
    others = λ asked' task' apart. task-frame s s' d.tmp.name lands.frame lands.spares.folders asked' task' (apart d.tmp.name (makes-delivery s asked d fits));
    none_overwritten = lands.spares.none_overwritten;
    no_messages = lands.spares.no_messages;
    as_alone = as_alone n lands.puts lands.holds none;
    is_effect = sym (ap (λ (c : Call). is_effect_at c made r None) fits.of ∙ is_effect);
    first = ap (λ b. cond b (Some (delivery_effect number d)) None) unlinked;
    found = λ u size unanswered its. absurd its;
    effect = record {
      of = refl;
      changes = renamed n lands.puts lands.holds;
      allowed = (fits.in_folder, refl, fits.name.message, fits.name.plain, fits.name.bare, makes-delivery s asked d fits);
    };
    settles = refl;
    nearer = more;
    fixed = λ unanswered a b. refl;
  }
