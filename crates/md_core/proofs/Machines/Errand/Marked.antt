-- What a Seen and a Flag do that take effect: the message gets its flags by another name, or it had them.
use Rattle.std.proofs.Common.{ℕ, ◌≡◌, List, Option, Some, None, true, false, cond, not, refl, sym, ap, subst, ◌∙◌, length}
use Rattle.std.specs.FinMap as finmap
use Rattle.std.specs.FinSet as set
use Rattle.std.proofs.lemmas.Bool.{and_from, eq-eqb}
use Rattle.md_core.proofs.Values.{State, IsSound, file_at, Path, Place, New, Cur, Set, Call, Effect, Errand, place_index, path_of, unique_of, info_text, info_of, flags_of, flagged, is_message_name, Entry, Mailbox, mailbox_of, entry_of, is_message, is_tmp, HasOnePath, Outcome, alone, seen_alone, seen_by, flag_alone, flag_by, entry_if, is_in_place, flags_in, info_with, refuse, Listed, as_listed, names_of, name_of, names_after_change, size_in, IsThere, MayGetFlags, list, rename, is_effect_at, option_map, option_map_or, after_rename, is_same_set, kept, done_by}
use Rattle.md_name.proofs.Flagged.{IsUniquePart, unique_of-flagged}
use Rattle.md_jobs.specs.declared.answer.Answer.TheVariants as answer
use Rattle.md_jobs.specs.declared.call.Call.TheVariants as call
use Rattle.md_jobs.specs.Tasks.Errand.{Errand as ErrandOf}
use Rattle.md_jobs.specs.Tasks.Deed as deed
use Rattle.md_jobs.specs.declared.step.DirReply.TheVariants as reply
use Rattle.md_core.proofs.Induction.Good.{bytes_at, HasNoMessage, ErrandFits, Does}
use Rattle.md_core.proofs.Mailbox.Changes.{one-puts, mailbox-puts}
use Rattle.md_core.proofs.Mailbox.Naming.{get-names, names-insert}
use Rattle.md_core.proofs.Mailbox.Shown.{shows-mailbox}
use Rattle.md_core.proofs.Directories.Frames.{Frame, task-stays}
use Rattle.md_core.proofs.Looking.LookUps.{unique-part, message-name}
use Rattle.md_core.proofs.Mailbox.WholeName.{whole-name}
use Rattle.md_core.proofs.Machines.Errand.Moves.{Moves, moves, put_again, info-flagged}
use Rattle.md_jobs.proofs.Replies.{errand-left}

-- ---- what the two do alone

-- an entry of a place is such a one
pub such-there : (place : Place) (folder : ℕ) (o : Option Entry) (e : Entry) → o ≡ Some e → e.folder ≡ folder → e.place ≡ place →
    entry_if (is_in_place place folder) o ≡ Some e
such-there place folder o e is inside at =
    ap (entry_if (is_in_place place folder)) is
    ∙ ap (λ b. cond b (Some e) None) (and_from _ _ (eq-eqb _ _ (ap place_index at)) (eq-eqb _ _ inside))

module _ (box : Mailbox) (folder : ℕ) (u : List ℕ) (e : Entry) (had : Set) (at : finmap.get box u ≡ Some e) (inside : e.folder ≡ folder)
    (shows : flags_in e ≡ Some had) where
  abbrev marked : Place → Set → Outcome
  marked place flags = record {
    answer = answer.Flags flags;
    after = finmap.insert box u (record { folder = e.folder; place = place; info = info_with flags; bytes = e.bytes });
  }

  pub alone-seen : (given : Set) (tries : ℕ) → e.place ≡ New → alone (call.Seen folder u given tries) box ≡ marked Cur (set.union had given)
  alone-seen given tries place =
      ap (λ (o : Option Entry). seen_alone box u given o) (such-there New folder (finmap.get box u) e at inside place)
      ∙ ap (seen_by box u given e) shows

  module _ (add remove : Set) (tries : ℕ) (place : e.place ≡ Cur) where
    abbrev flags : Set
    flags = set.difference (set.union had add) remove

    flags-alone : (b : _) → is_same_set had flags ≡ b →
        alone (call.Flag folder u add remove tries) box ≡ cond {A = Outcome} b (refuse (answer.Flags flags) box) (marked e.place flags)
    flags-alone b same =
        ap (λ (o : Option Entry). flag_alone box u add remove o) (such-there Cur folder (finmap.get box u) e at inside place)
        ∙ ap (flag_by box u add remove e) shows
        ∙ ap (λ x. cond {A = Outcome} x (refuse (answer.Flags flags) box) (marked e.place flags)) same

    pub alone-flags : is_same_set had flags ≡ false → alone (call.Flag folder u add remove tries) box ≡ marked Cur flags
    alone-flags changes = flags-alone false changes ∙ ap (λ (p : Place). marked p flags) place

    pub alone-keeps : is_same_set had flags ≡ true → alone (call.Flag folder u add remove tries) box ≡ refuse (answer.Flags flags) box
    alone-keeps same = flags-alone true same

-- ---- a message of the name is there, with these flags

module _ (s : State) (number : ℕ) (asked : Call) (e : ErrandOf) (sound : IsSound s) (one : HasOnePath s) (fits : ErrandFits s asked e) (place : Place)
    (name : List ℕ) (n : ℕ) (had : Set) (new_or_cur : is_tmp place ≡ false) (named : is_message_name name ≡ true) (unique : unique_of name ≡ e.unique)
    (shows : flags_of (info_of name) ≡ Some had) (there : file_at s (path_of e.folder place name) ≡ Some n) where
  abbrev pub source : Path
  source = path_of e.folder place name

  abbrev pub entry : Entry
  entry = entry_of s source n

  message : is_message source ≡ true
  message = and_from _ _ (ap not new_or_cur) named

  pub in_mailbox : (u : List ℕ) → unique_of name ≡ u → finmap.get (mailbox_of s) u ≡ Some entry
  in_mailbox u is = shows-mailbox s u entry one (record { path = source; file = n; there = there; message = message; unique = is; entry = refl })

  is_listed : finmap.get (names_of (mailbox_of s)) (unique_of name) ≡ Some
      (record { folder = e.folder; place = place; name = name; size = length entry.bytes })
  is_listed = get-names (mailbox_of s) (unique_of name) ∙ ap (λ (o : Option Entry). option_map (as_listed (unique_of name)) o) (in_mailbox (unique_of name) refl)
      ∙ ap (λ (x : List ℕ). Some (record { folder = e.folder; place = place; name = x; size = length entry.bytes })) (whole-name name)

  is_there : IsThere (names_of (mailbox_of s)) e.folder place name
  is_there = record { size = length entry.bytes; at = is_listed }

  -- a message has the name
  occupied : HasNoMessage s (unique_of name) → ⊥
  occupied none = let gone = none source message refl in cc

  -- it has the flags already
  pub keeps-it : (flags : Set) → place ≡ Cur → had ≡ flags → alone asked (mailbox_of s) ≡ refuse (answer.Flags flags) (mailbox_of s) →
      is_effect_at asked (list e.folder place) reply.Ok (Some (answer.Flags flags)) ≡ true →
      Does s s number asked (Errand e) (list e.folder place) reply.Ok
      (record { task = Errand e; answer = Some (answer.Flags flags); effect = Some (kept number (answer.Flags flags)) })
  keeps-it flags in_cur same as_alone effect = record {
    sound = sound;
    one_path = one;
    folders = refl;
    fits = λ none. cc;
    others = λ asked' task' apart h. h;
    none_overwritten = λ p i j at at'. (let h : Some j ≡ Some i = sym at' ∙ at in cc);
    no_messages = λ p not_tmp not_message. refl;
    as_alone = as_alone;
    is_effect = sym effect;
    first = refl;
    found = λ u size unanswered its. cc;
    effect = record {
      of = refl;
      changes = refl;
      allowed = (
        e.folder,
        name,
        fits.in_folder,
        subst (λ (p : Place). IsThere (names_of (mailbox_of s)) e.folder p name) in_cur is_there,
        shows ∙ ap Some same,
      );
    };
    settles = (kept number (answer.Flags flags), refl, refl);
    nearer = errand-left _ e.stage;
    fixed = λ none a b. refl;
  }

  -- it is renamed, and has the flags then
  module _ (flags : Set) (size : ℕ) where
    abbrev pub target : Path
    target = path_of e.folder Cur (flagged e.unique flags)

    abbrev pub s' : State
    s' = after_rename source target s

    abbrev pub effect : Effect
    effect = done_by number (deed.Rename source target) (answer.Flags flags) size

    part : IsUniquePart e.unique
    part = unique-part e.unique fits.valid

    new_unique : unique_of (flagged e.unique flags) ≡ e.unique
    new_unique = unique_of-flagged e.unique flags part.colonless

    lands : Moves s s' target n
    lands = moves s source target n sound one message (message-name e.unique (flagged e.unique flags) part new_unique)
        (unique ∙ sym new_unique) fits.in_folder there

    -- the message as it is then
    abbrev pub after_entry : Entry
    after_entry = record { folder = e.folder; place = Cur; info = info_with flags; bytes = entry.bytes }

    info_is : info_text (flagged e.unique flags) ≡ info_with flags
    info_is = info-flagged e.unique flags part.colonless

    boxed : mailbox_of s' ≡ finmap.insert (mailbox_of s) e.unique after_entry
    boxed =
        let bytes : bytes_at s' n ≡ bytes_at s n = lands.puts.bytes source message n there in
        mailbox-puts s s' target n one lands.puts
        ∙ (λ i. finmap.insert (mailbox_of s) (new_unique i) (record { folder = e.folder; place = Cur; info = info_is i; bytes = bytes i }))

    spelled : name_of e.unique (info_with flags) ≡ flagged e.unique flags
    spelled = (λ i. name_of (sym new_unique i) (sym info_is i)) ∙ whole-name (flagged e.unique flags)

    sized : length entry.bytes ≡ size_in (names_of (mailbox_of s)) (unique_of name)
    sized = sym (ap (λ (o : Option Listed). option_map_or (λ (x : Listed). x.size) o 0) is_listed)

    renames : names_of (mailbox_of s') ≡ names_after_change (names_of (mailbox_of s)) effect.change
    renames = ap names_of boxed ∙ names-insert (mailbox_of s) e.unique after_entry
        ∙ (λ i. finmap.insert (names_of (mailbox_of s)) (sym new_unique i) (record { folder = e.folder; place = Cur; name = spelled i; size = sized i }))
        ∙ sym (put_again (names_of (mailbox_of s)) (unique_of name) (unique_of (flagged e.unique flags)) _ (unique ∙ sym new_unique))

    pub gives-flags : alone asked (mailbox_of s) ≡ record { answer = answer.Flags flags; after = finmap.insert (mailbox_of s) e.unique after_entry } →
        is_effect_at asked (rename source target) reply.Ok (Some (answer.Flags flags)) ≡ true → MayGetFlags place name flags →
        Does s s' number asked (Errand e) (rename source target) reply.Ok
        (record { task = Errand e; answer = Some (answer.Flags flags); effect = Some effect })
    gives-flags as_alone is_effect may = record {
      sound = lands.sound;
      one_path = one-puts s s' target n one lands.puts;
      folders = lands.spares.folders;
      fits = λ none. cc;
      others = λ asked' task' apart. task-stays s s' (unique_of name) (subst (Frame s s') (new_unique ∙ sym unique) lands.frame)
          lands.spares.folders occupied asked' task';
      none_overwritten = lands.spares.none_overwritten;
      no_messages = lands.spares.no_messages;
      as_alone = as_alone ∙ (λ i. record { answer = answer.Flags flags; after = sym boxed i });
      is_effect = sym is_effect;
      first = refl;
      found = λ u size unanswered its. cc;
      effect = record {
        of = refl;
        changes = renames;
        allowed = (fits.in_folder, refl, refl, ap (λ (u : List ℕ). flagged u flags) (sym unique), is_there, may);
      };
      settles = (effect, refl, refl);
      nearer = errand-left _ e.stage;
      fixed = λ none a b. refl;
    }
