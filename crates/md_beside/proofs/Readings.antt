-- Readings by a change of ours: each reads a directory whole, at one moment, and shows what is there; and a change looks in one place
-- alone, so that it never has read both new and cur.
use Rattle.std.proofs.Common.{ℕ, zero, suc, ◌≡◌, ◌≢◌, ◌<◌, inl, inr, List, [], ◌∷◌, Option, Some, None, Bool, true, false, cond, map, filter, refl, sym, ap, subst, ◌∙◌, slice_get, ◌==◌}
use Rattle.std.proofs.lemmas.Slice.Eq.{bytes_eq-Decides}
use Rattle.std.specs.FinMap.{entries}
use Rattle.std.specs.Str.{bytes_eq}
use Rattle.lists.proofs.Members.{Has, get-has, has-get}
use Rattle.md_dirs.proofs.PathOrder.{path_total, path_exact}
use Rattle.md_dirs.specs.Path.{path_of}
use Rattle.md_dirs.specs.Rows.{is_in, row_of, rows_of}
use Rattle.md_dirs.specs.State.{State, file_at}
use Rattle.md_dirs.specs.declared.paths.Path.{Path}
use Rattle.md_dirs.specs.declared.paths.Place.{Place}
use Rattle.md_dirs.specs.declared.paths.Place.TheVariants.{Tmp, New, Cur}
use Rattle.md_dirs.specs.declared.rows.Row.{Row}
use Rattle.md_jobs.specs.Asked.{Asked, create, append, link, rename, unlink, list}
use Rattle.md_jobs.specs.declared.step.DirReply.{DirReply}
use Rattle.md_jobs.specs.declared.step.DirReply.TheVariants as reply
use Rattle.md_core.proofs.Answers.Turns.Refusals.{list-not_found}
use Rattle.md_core.proofs.Looking.LookUps.{name-row, path-in, in-path}
use Rattle.md_log.specs.declared.line.Call.{Call as Told}
use Rattle.md_log.specs.declared.line.Call.TheVariants as told
use Rattle.md_log.specs.declared.line.Reply.{Reply}
use Rattle.md_log.specs.declared.line.Reply.TheVariants as said
use Rattle.md_log.specs.declared.line.Step.{Step as Seen}
use Rattle.md_law.specs.Clauses.{ShowsWrongly, Lacks, IsWrongReading, IsWrongCall, NotADirectory, Unlisted}
use Rattle.md_law.specs.History.{History, Moment, opening, next, at, before, IsCall, IsBy, IsUpTo, Once}
use Rattle.md_law.specs.Readings.{Looker, IsReading, IsMomentOf, Read, nothing_read, with_place, with_call, read_of}
use Rattle.md_beside.specs.Story.{Story, Step, Did, Who, asked, wrote, flushed, ours, another, step_at, state, history, history_after, after_did, actor_seen, call_seen, reply_seen, step_seen, without_bytes}
use Rattle.md_beside.specs.Beside.{IsStory, reply_due}
use Rattle.md_beside.proofs.Histories.{next_at, history-first, history-next, path-history}
use Rattle.md_beside.proofs.KeepsPaths.{once-map}
use Rattle.md_beside.proofs.Replies.{call-made, up_to-itself}

-- ---- no reading of a story goes on

-- the last step is a part of a reading that more follows
abbrev HasMore : History → Type 0
HasMore m = (folder : ℕ) × (place : Place) × (shown : List (List ℕ)) × IsCall m (told.List folder place said.More shown)

not-more : (s : State) (d : Did) (r : DirReply) (folder : ℕ) (place : Place) (shown : List (List ℕ)) →
    call_seen s d (reply_seen r) ≡ told.List folder place said.More shown → ⊥
not-more s (asked (create p)) r folder place shown is = cc
not-more s (asked (append p bytes)) r folder place shown is = cc
not-more s (asked (link old new)) r folder place shown is = cc
not-more s (asked (rename old new)) r folder place shown is = cc
not-more s (asked (unlink p)) r folder place shown is = cc
not-more s (asked (list f q)) reply.Ok folder place shown is = cc
not-more s (asked (list f q)) reply.Exists folder place shown is = cc
not-more s (asked (list f q)) reply.NotFound folder place shown is = cc
not-more s (asked (list f q)) reply.Fault folder place shown is = cc
not-more s (wrote p bytes) r folder place shown is = cc
not-more s (flushed p) r folder place shown is = cc

last-no_more : (actor : ℕ → List ℕ) (s : State) (x : Step) (h : History) → HasMore (next h (step_seen actor s x)) → ⊥
last-no_more actor s x h (folder, place, shown, (y, is, call)) =
    let e : Some (step_seen actor s x) ≡ Some y = is in
    let same : step_seen actor s x ≡ y = cc in
    not-more s x.did x.reply folder place shown (ap (λ (z : Seen). z.call) same ∙ call)

never-more : (actor : ℕ → List ℕ) (s : State) (steps : List Step) (h : History) → (Once HasMore h → ⊥) →
    Once HasMore (history_after actor s steps h) → ⊥
unfolding history_after Once
never-more actor s [] h none = none
never-more actor s (x ∷ steps) h none = never-more actor (after_did x.did x.at.clock x.reply s) steps (next h (step_seen actor s x))
    (λ once. elim once [ inl now ↦ last-no_more actor s x h now | inr earlier ↦ none earlier ])

none-first : (m : Moment) → Once HasMore (opening m) → ⊥
unfolding Once
none-first m (folder, place, shown, (y, is, call)) = cc

-- ---- what a reading shows

module _ (s : State) (folder : ℕ) (place : Place) where
  abbrev names : List (Path × ℕ) → List (List ℕ)
  names es = map (λ (row : Row). row.name) (map (row_of s.files) (filter (λ e. is_in folder place e.0) es))

  -- an entry of the directory that has the name
  abbrev EntryOf : List (Path × ℕ) → List ℕ → Type 0
  EntryOf es name = (e : Path × ℕ) × Has es e × (is_in folder place e.0 ≡ true) × (e.0.name ≡ name)

  -- each name is that of an entry
  name-entry : (es : List (Path × ℕ)) (i : ℕ) (name : List ℕ) → slice_get (names es) i ≡ Some name → EntryOf es name
  name-entry [] i name is = cc
  name-entry (e ∷ es) i name is =
      by (λ j at. let rest = name-entry es j name at in (rest.0, inr rest.1, rest.2, rest.3)) (is_in folder place e.0) refl i is
    where
      by : ((j : ℕ) → slice_get (names es) j ≡ Some name → EntryOf (e ∷ es) name) → (b : Bool) → is_in folder place e.0 ≡ b → (i : ℕ) →
          slice_get (map (λ (row : Row). row.name) (map (row_of s.files)
          (cond b (e ∷ filter (λ y. is_in folder place y.0) es) (filter (λ y. is_in folder place y.0) es)))) i ≡ Some name →
          EntryOf (e ∷ es) name
      by later false outside i is = later i is
      by later true inside zero is =
          let same : (row_of s.files e).name ≡ name = cc in (e, inl refl, inside, sym (name-row e.0.name _) ∙ same)
      by later true inside (suc i) is = later i is

  -- and each entry of the directory has its name there
  entry-name : (es : List (Path × ℕ)) (e : Path × ℕ) → Has es e → is_in folder place e.0 ≡ true →
      (i : ℕ) × (slice_get (names es) i ≡ Some e.0.name)
  entry-name [] e has inside = absurd has
  entry-name (x ∷ es) e has inside = by (λ later. entry-name es e later inside) (is_in folder place x.0) refl
    where
      by : (Has es e → (i : ℕ) × (slice_get (names es) i ≡ Some e.0.name)) → (b : Bool) → is_in folder place x.0 ≡ b →
          (i : ℕ) × (slice_get (map (λ (row : Row). row.name) (map (row_of s.files)
          (cond b (x ∷ filter (λ y. is_in folder place y.0) es) (filter (λ y. is_in folder place y.0) es)))) i ≡ Some e.0.name)
      by rest true is = elim has [
        | inl here ↦ (zero, ap Some (name-row x.0.name _ ∙ ap (λ (y : Path × ℕ). y.0.name) (sym here)))
        | inr later ↦ let r = rest later in (suc r.0, r.1)
      ]
      by rest false is = elim has [
        | inl here ↦ let there = ap (λ (y : Path × ℕ). is_in folder place y.0) (sym here) ∙ inside in cc
        | inr later ↦ rest later
      ]

  pub shown-there : (i : ℕ) (name : List ℕ) → slice_get (map (λ (row : Row). row.name) (rows_of s folder place)) i ≡ Some name →
      (n : ℕ) × (file_at s (path_of folder place name) ≡ Some n)
  shown-there i name is =
      let e = name-entry (entries s.names) i name is in (
        e.0.1,
        ap (file_at s) (sym (path-in folder place e.0.0 e.2 ∙ ap (path_of folder place) e.3))
            ∙ has-get path_total path_exact s.names e.0 e.1,
      )

  pub there-shown : (name : List ℕ) (n : ℕ) → file_at s (path_of folder place name) ≡ Some n →
      (i : ℕ) × (slice_get (map (λ (row : Row). row.name) (rows_of s folder place)) i ≡ Some name)
  there-shown name n there = entry-name (entries s.names) (path_of folder place name, n)
      (get-has path_total path_exact s.names (path_of folder place name) n there) (in-path folder place name)

-- ---- the readings of a story

module _ (t : Story) (story : IsStory t) (k : ℕ) (x : Step) (is : step_at t k ≡ Some x) where
  abbrev h : History
  h = next_at t k x

  -- a reading that ends with the step began with it
  begun : (first : History) (d : Looker) → IsReading first h d → h ≡ first
  unfolding Once
  begun first d reading = elim reading.goes_on [
    | inl same ↦ same
    | inr earlier ↦
        let more : reading.begins.0 ≡ said.More = reading.more first reading.begins.0 (up_to-itself first) earlier reading.begins.1 in
        let part = reading.begins.1 in
        let call = subst (λ (r : Reply). IsCall first (told.List d.folder d.place r part.0)) more part.1.1 in
        let m : Moment = record { state = without_bytes t.image; now = t.clock } in
        absurd (never-more t.actor t.image _ (opening m) (none-first m)
        (once-map (λ m. m ≡ first) HasMore (λ m same. subst HasMore (sym same) (d.folder, d.place, part.0, call)) (history t k) earlier))
  ]

  module _ (folder : ℕ) (place : Place) (did : x.did ≡ asked (list folder place)) (within : folder < (state t k).folders) where
    abbrev shown : List (List ℕ)
    shown = map (λ (row : Row). row.name) (rows_of (state t k) folder place)

    seen : call_seen (state t k) x.did (reply_seen x.reply) ≡ told.List folder place (reply_seen x.reply) shown
    seen = ap (λ (d : Did). call_seen (state t k) d (reply_seen x.reply)) did

    reads : IsCall h (told.List folder place (reply_seen x.reply) shown)
    reads = (step_seen t.actor (state t k) x, refl, seen)

    module _ (actor : List ℕ) (by : IsBy h actor) where
      abbrev d : Looker
      d = record { actor = actor; folder = folder; place = place }

      -- the one moment of a reading that began with the step
      moment : (first : History) → h ≡ first → IsMomentOf (history t k) first h
      moment first same = (
        subst (λ (f : History). IsUpTo (before f) (history t k)) same (up_to-itself (history t k)),
        up_to-itself (history t k),
      )

      shows-rightly : ShowsWrongly h d shown → ⊥
      shows-rightly (first, name, i, reading, at, gone) =
          let there = (shown-there (state t k) folder place i name at).1 in
          let same = path-history t story k (path_of folder place name) in
          let none = gone (history t k) (moment first (begun first d reading)) in
          cc

      lacks-none : Lacks h d → ⊥
      lacks-none (first, name, reading, unshown, there) = name-is (file_at (state t k) (path_of folder place name)) refl
        where
          name-is : (o : Option ℕ) → file_at (state t k) (path_of folder place name) ≡ o → ⊥
          name-is None none = there (history t k) (moment first (begun first d reading))
              (path-history t story k (path_of folder place name) ∙ none)
          name-is (Some n) some =
              let i = there-shown (state t k) folder place name n some in
              unshown (
                h,
                reply_seen x.reply,
                shown,
                i.0,
                subst (λ (f : History). IsUpTo f h) (begun first d reading) (up_to-itself h),
                up_to-itself h,
                (by, reads),
                i.1,
              )

      right-reply : (r : DirReply) → x.reply ≡ r → IsWrongReading h d (reply_seen r) shown → ⊥
      right-reply reply.Ok replied wrong = elim wrong [ inl shows ↦ shows-rightly shows | inr lacks ↦ lacks-none lacks ]
      right-reply reply.Exists replied wrong = wrong
      right-reply reply.NotFound replied wrong = elim (story.replied k x is) [
        | inl due ↦ list-not_found (state t k) false folder place within
            (sym replied ∙ due ∙ ap (λ (y : Did). reply_due (state t k) y x.at.clock) did)
        | inr fault ↦ (let clash = sym replied ∙ fault in cc)
      ]
      right-reply reply.Fault replied wrong = wrong

    pub reads-rightly : NotADirectory h → ⊥
    reads-rightly (actor, c, by, call, wrong) = right-reply actor by x.reply refl
        (subst (IsWrongCall h actor) (sym (sym seen ∙ call-made t k x c call)) wrong)

-- ---- listings

-- of new and cur, the other place than this was not read
abbrev pub NeverOther : Place → Read → Type 0
NeverOther Tmp r = ⊥
NeverOther New r = r.cur ≡ false
NeverOther Cur r = r.new ≡ false

-- a call that lists no other place
abbrev pub ListsAlone : Place → Asked → Type 0
ListsAlone place (list folder p) = p ≡ place
ListsAlone place a = Unit {0}

place-keeps : (place : Place) (r : Read) → NeverOther place r → NeverOther place (with_place place r)
place-keeps Tmp r never = never
place-keeps New r never = by r.cur
  where
    by : (b : Bool) → (cond {A = Read} b nothing_read (record { new = true; cur = false })).cur ≡ false
    by true = refl
    by false = refl
place-keeps Cur r never = by r.new
  where
    by : (b : Bool) → (cond {A = Read} b nothing_read (record { new = false; cur = true })).new ≡ false
    by true = refl
    by false = refl

-- so no reading completes a listing
place-ends : (place : Place) (r : Read) → NeverOther place r → with_place place r ≡ nothing_read → ⊥
place-ends Tmp r never ends = never
place-ends New r never ends =
    let is : record { new = true; cur = false } ≡ nothing_read =
    ap (λ (b : Bool). cond {A = Read} b nothing_read (record { new = true; cur = false })) (sym never) ∙ ends in
    let clash : true ≡ false = ap (λ (y : Read). y.new) is in cc
place-ends Cur r never ends =
    let is : record { new = false; cur = true } ≡ nothing_read =
    ap (λ (b : Bool). cond {A = Read} b nothing_read (record { new = false; cur = true })) (sym never) ∙ ends in
    let clash : true ≡ false = ap (λ (y : Read). y.cur) is in cc

-- a call that reads nothing breaks a listing off
nothing-other : (place : Place) (r : Read) → NeverOther place r → NeverOther place nothing_read
nothing-other Tmp r never = never
nothing-other New r never = refl
nothing-other Cur r never = refl

module _ (s : State) (place : Place) (folder : ℕ) where
  call-keeps : (a : Asked) (r : DirReply) (read : Read) → ListsAlone place a → NeverOther place read →
      NeverOther place (with_call folder (call_seen s (asked a) (reply_seen r)) read)
  call-keeps (create p) r read alone never = nothing-other place read never
  call-keeps (append p bytes) r read alone never = nothing-other place read never
  call-keeps (link old new) r read alone never = nothing-other place read never
  call-keeps (rename old new) r read alone never = nothing-other place read never
  call-keeps (unlink p) r read alone never = nothing-other place read never
  call-keeps (list f q) reply.Ok read alone never = by (f == folder)
    where
      by : (b : Bool) → NeverOther place (cond b (with_place q read) read)
      by true = subst (λ (p : Place). NeverOther place (with_place p read)) (sym alone) (place-keeps place read never)
      by false = never
  call-keeps (list f q) reply.Exists read alone never = never
  call-keeps (list f q) reply.NotFound read alone never = never
  call-keeps (list f q) reply.Fault read alone never = never

  -- a call that ends a reading
  call-ends : (a : Asked) (r : DirReply) (read : Read) → ListsAlone place a → NeverOther place read →
      (to : Place) (shown : List (List ℕ)) → call_seen s (asked a) (reply_seen r) ≡ told.List folder to said.Ok shown →
      with_call folder (call_seen s (asked a) (reply_seen r)) read ≡ nothing_read → read ≢ nothing_read → ⊥
  call-ends (create p) r read alone never to shown is ends more = cc
  call-ends (append p bytes) r read alone never to shown is ends more = cc
  call-ends (link old new) r read alone never to shown is ends more = cc
  call-ends (rename old new) r read alone never to shown is ends more = cc
  call-ends (unlink p) r read alone never to shown is ends more = cc
  call-ends (list f q) reply.Ok read alone never to shown is ends more = by (f == folder) ends
    where
      by : (b : Bool) → cond b (with_place q read) read ≡ nothing_read → ⊥
      by true done = place-ends place read never (subst (λ (p : Place). with_place p read ≡ nothing_read) alone done)
      by false done = more done
  call-ends (list f q) reply.Exists read alone never to shown is ends more = more ends
  call-ends (list f q) reply.NotFound read alone never to shown is ends more = more ends
  call-ends (list f q) reply.Fault read alone never to shown is ends more = more ends

-- a job has read one place alone, in each folder
abbrev pub ReadsAlone : Story → ℕ → ℕ → Place → Type 0
ReadsAlone t k job place = (folder : ℕ) → NeverOther place (read_of (history t k) (t.actor job) folder)

pub reads-first : (t : Story) (job : ℕ) (place : Place) → NeverOther place nothing_read → ReadsAlone t 0 job place
unfolding read_of
reads-first t job place never folder =
    subst (λ (h : History). NeverOther place (read_of h (t.actor job) folder)) (sym (history-first t)) never

module _ (t : Story) (story : IsStory t) (k job : ℕ) (x : Step) (is : step_at t k ≡ Some x) (place : Place)
    (alone : ReadsAlone t k job place) where
  -- what an actor's listing has read with the step
  read-next : (actor : List ℕ) (folder : ℕ) → read_of (next_at t k x) actor folder
      ≡ cond (bytes_eq (actor_seen t.actor x.who) actor) (with_call folder (call_seen (state t k) x.did (reply_seen x.reply))
      (read_of (history t k) actor folder)) (read_of (history t k) actor folder)
  unfolding read_of
  read-next actor folder = refl

  reads-step : ((folder : ℕ) → NeverOther place (cond (bytes_eq (actor_seen t.actor x.who) (t.actor job))
      (with_call folder (call_seen (state t k) x.did (reply_seen x.reply)) (read_of (history t k) (t.actor job) folder))
      (read_of (history t k) (t.actor job) folder))) → ReadsAlone t (suc k) job place
  reads-step never folder = subst (λ (h : History). NeverOther place (read_of h (t.actor job) folder)) (sym (history-next t k x is))
      (subst (NeverOther place) (sym (read-next (t.actor job) folder)) (never folder))

  either : (b : Bool) (r r' : Read) → NeverOther place r → NeverOther place r' → NeverOther place (cond b r r')
  either true r r' in_one in_other = in_one
  either false r r' in_one in_other = in_other

  other-actor : (x.who ≡ ours job → ⊥) → (w : Who) → x.who ≡ w → actor_seen t.actor w ≡ t.actor job → ⊥
  other-actor not-own (ours n) who same = not-own (who ∙ ap ours (story.apart n job same))
  other-actor not-own (another actor) who same = story.foreign k job x actor is who same

  pub reads-beside : (x.who ≡ ours job → ⊥) → ReadsAlone t (suc k) job place
  reads-beside not-own = reads-step (λ folder. by folder (bytes_eq (actor_seen t.actor x.who) (t.actor job)) refl)
    where
      by : (folder : ℕ) (b : Bool) → bytes_eq (actor_seen t.actor x.who) (t.actor job) ≡ b → NeverOther place (cond b
          (with_call folder (call_seen (state t k) x.did (reply_seen x.reply)) (read_of (history t k) (t.actor job) folder))
          (read_of (history t k) (t.actor job) folder))
      by folder true same = absurd (other-actor not-own x.who refl ((bytes_eq-Decides (actor_seen t.actor x.who) (t.actor job)).0 same))
      by folder false differ = alone folder

  module _ (who : x.who ≡ ours job) (a : Asked) (did : x.did ≡ asked a) (lists : ListsAlone place a) where
    call-is : call_seen (state t k) x.did (reply_seen x.reply) ≡ call_seen (state t k) (asked a) (reply_seen x.reply)
    call-is = ap (λ (d : Did). call_seen (state t k) d (reply_seen x.reply)) did

    pub reads-own : ReadsAlone t (suc k) job place
    reads-own = reads-step (λ folder. either (bytes_eq (actor_seen t.actor x.who) (t.actor job)) _ _
        (subst (λ (c : Told). NeverOther place (with_call folder c (read_of (history t k) (t.actor job) folder))) (sym call-is)
        (call-keeps (state t k) place folder a x.reply (read_of (history t k) (t.actor job) folder) lists (alone folder)))
        (alone folder))

    -- so it completes no listing
    pub lists-none : Unlisted (next_at t k x) → ⊥
    lists-none (first, actor, folder, unique, listing, there, unshown) =
        by (bytes_eq (actor_seen t.actor x.who) actor) refl (sym (read-next actor folder) ∙ listing.ends)
      where
        by : (b : Bool) → bytes_eq (actor_seen t.actor x.who) actor ≡ b →
            cond b (with_call folder (call_seen (state t k) x.did (reply_seen x.reply))
            (read_of (history t k) actor folder)) (read_of (history t k) actor folder) ≡ nothing_read → ⊥
        by true same ends =
            let its : t.actor job ≡ actor =
            sym (ap (actor_seen t.actor) who) ∙ (bytes_eq-Decides (actor_seen t.actor x.who) actor).0 same in
            call-ends (state t k) place folder a x.reply (read_of (history t k) actor folder) lists
            (subst (λ (name : List ℕ). NeverOther place (read_of (history t k) name folder)) its (alone folder))
            listing.reads.0 listing.reads.1.0 (sym call-is
            ∙ call-made t k x (told.List folder listing.reads.0 said.Ok listing.reads.1.0) listing.reads.1.1.1)
            (ap (λ (c : Told). with_call folder c (read_of (history t k) actor folder)) (sym call-is) ∙ ends) listing.more
        by false differ ends = listing.more ends
