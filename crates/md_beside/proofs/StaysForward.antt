-- A message of cur comes to new only by a step that breaks a clause: a step that takes one path away and adds another is a rename.
use Rattle.std.proofs.Common.{ℕ, suc, ◌≡◌, ◌≢◌, List, Option, Some, None, Bool, true, false, cond, refl, sym, ap, ◌∙◌, length}
use Rattle.lists.proofs.Maps as maps
use Rattle.std.specs.FinMap as finmap
use Rattle.md_dirs.proofs.PathOrder.{path_total, path_exact}
use Rattle.md_dirs.proofs.Sound.{by_path}
use Rattle.md_dirs.specs.Calls.{after_rename, after_unlink, is_one_file, with_files_still_named, with_path, without_path}
use Rattle.md_dirs.specs.State.{State, file_at}
use Rattle.md_dirs.specs.declared.paths.Path.{Path}
use Rattle.md_dirs.specs.declared.paths.Place.TheVariants.{New, Cur}
use Rattle.md_jobs.specs.Asked.{create, append, link, rename, unlink, list}
use Rattle.md_jobs.specs.declared.step.DirReply.{DirReply}
use Rattle.md_jobs.specs.declared.step.DirReply.TheVariants as reply
use Rattle.md_core.specs.Mailbox.{HasOnePath}
use Rattle.md_used.specs.Paths.{is_message}
use Rattle.md_log.specs.declared.line.Call.TheVariants as told
use Rattle.md_log.specs.declared.line.Naming.{Naming}
use Rattle.md_log.specs.declared.line.Naming.TheVariants as naming
use Rattle.md_log.specs.declared.line.Reply.{Reply}
use Rattle.md_law.specs.History.{at, IsCall}
use Rattle.md_law.specs.Messages.{IsMessageAt}
use Rattle.md_law.specs.Clauses.{MovedBack}
use Rattle.md_beside.specs.Story.{Story, Step, Did, asked, wrote, flushed, step_at, after_did, after_write, state, history, call_seen, reply_seen}
use Rattle.md_beside.specs.Beside.{IsStory}
use Rattle.md_beside.proofs.Histories.{next_at, state-more, path-history, path-next}
use Rattle.md_beside.proofs.KeepsPaths.{once-now}
use Rattle.md_beside.proofs.OwnPath.{append-paths}
use Rattle.md_beside.proofs.Renames.{renamed}
use Rattle.md_beside.proofs.Replies.{call-made}

write-paths : (bytes : List ℕ) (now : ℕ) (r : DirReply) (s : State) (o : Option ℕ) (q : Path) →
    file_at (after_write bytes now r s o) q ≡ file_at s q
write-paths bytes now r s None q = refl
write-paths bytes now r s (Some n) q = refl

-- ---- which step takes one path away and adds another

module _ (s : State) (p q : Path) (f g : ℕ) (was : file_at s p ≡ Some f) (free : file_at s q ≡ None) where
  abbrev IsRename : Did → DirReply → Type 0
  IsRename d r = (d ≡ asked (rename p q)) × (r ≡ reply.Ok)

  put-keeps : (n : Path) (m : ℕ) → file_at (with_path n s (Some m)) p ≡ None → ⊥
  put-keeps n m gone = by_path p n
      (λ same. let here = maps.at_put path_total path_exact s.names n p m same in cc)
      (λ differ. let still = maps.beside_put path_total path_exact s.names n p m differ in cc)

  link-keeps : (n : Path) (o : Option ℕ) → file_at (with_path n s o) p ≡ None → ⊥
  link-keeps n None gone = cc
  link-keeps n (Some m) gone = put-keeps n m gone

  unlink-adds : (u : Path) → file_at (after_unlink u s) q ≡ Some g → ⊥
  unlink-adds u came = by_path q u
      (λ same. let gone = maps.at_drop path_total path_exact s.names u q same in cc)
      (λ differ. let still = maps.beside_drop path_total path_exact s.names u q differ in cc)

  module _ (o n : Path) where
    -- the new path is the one that came
    shifts : (m : ℕ) → o ≡ p → file_at (with_path n (without_path o s) (Some m)) q ≡ Some g → n ≡ q
    shifts m iso came = by_path q n (λ same. sym same) (λ notn. by_path q o
        (λ same. let gone = maps.beside_put path_total path_exact (finmap.remove s.names o) n q m notn in
        let dropped = maps.at_drop path_total path_exact s.names o q same in cc)
        (λ noto. let kept = maps.beside_put path_total path_exact (finmap.remove s.names o) n q m notn in
        let still = maps.beside_drop path_total path_exact s.names o q noto in cc))

    renames : (from : Option ℕ) → file_at s o ≡ from → file_at (with_path n (without_path o s) from) p ≡ None →
        file_at (with_path n (without_path o s) from) q ≡ Some g → (o ≡ p) × (n ≡ q)
    renames None from gone came = by_path p o
        (λ same. let there = ap (file_at s) (sym same) ∙ was in cc)
        (λ differ. let still = maps.beside_drop path_total path_exact s.names o p differ in cc)
    renames (Some m) from gone came = by_path p n
        (λ same. let here = maps.at_put path_total path_exact (finmap.remove s.names o) n p m same in cc)
        (λ notn. by_path p o
        (λ same. (sym same, shifts m (sym same) came))
        (λ noto. let kept = maps.beside_put path_total path_exact (finmap.remove s.names o) n p m notn in
        let still = maps.beside_drop path_total path_exact s.names o p noto in cc))

    by-rename : (b : Bool) → is_one_file (file_at s o) (file_at s n) ≡ b →
        file_at (cond b s (with_files_still_named (file_at s n) (with_path n (without_path o s) (file_at s o)))) p ≡ None →
        file_at (cond b s (with_files_still_named (file_at s n) (with_path n (without_path o s) (file_at s o)))) q ≡ Some g →
        (o ≡ p) × (n ≡ q)
    by-rename true is gone came = cc
    by-rename false is gone came = renames (file_at s o) refl gone came

  taken : (d : Did) (now : ℕ) (r : DirReply) → file_at (after_did d now r s) p ≡ None → file_at (after_did d now r s) q ≡ Some g →
      IsRename d r
  taken (asked (create c)) now reply.Ok gone came = absurd (put-keeps c (length s.files) gone)
  taken (asked (append c bytes)) now reply.Ok gone came = let still = append-paths bytes now s (file_at s c) p in cc
  taken (asked (link o n)) now reply.Ok gone came = absurd (link-keeps n (file_at s o) gone)
  taken (asked (rename o n)) now reply.Ok gone came =
      let is = by-rename o n (is_one_file (file_at s o) (file_at s n)) refl gone came in
      (ap (λ (old : Path). asked (rename old n)) is.0 ∙ ap (λ (new : Path). asked (rename p new)) is.1, refl)
  taken (asked (unlink u)) now reply.Ok gone came = absurd (unlink-adds u came)
  taken (asked (list folder place)) now reply.Ok gone came = cc
  taken (asked a) now reply.Exists gone came = cc
  taken (asked a) now reply.NotFound gone came = cc
  taken (asked a) now reply.Fault gone came = cc
  taken (wrote c bytes) now r gone came = let still = write-paths bytes now r s (file_at s c) p in cc
  taken (flushed c) now r gone came = cc

-- ---- from cur to new

module _ (t : Story) (story : IsStory t) (k : ℕ) (x : Step) (is : step_at t k ≡ Some x) (one : HasOnePath (state t k))
    (one' : HasOnePath (state t (suc k))) (folder : ℕ) (u : List ℕ)
    (p q : Path) (f g : ℕ) (was : IsMessageAt (state t k) folder u p f) (in_cur : p.place ≡ Cur)
    (came : IsMessageAt (state t (suc k)) folder u q g) (in_new : q.place ≡ New) where
  apart : p ≢ q
  apart same = let clash = sym in_cur ∙ ap (λ (r : Path). r.place) same ∙ in_new in cc

  -- the one path is gone, and the other was not there
  gone : (o : Option ℕ) → file_at (state t (suc k)) p ≡ o → file_at (state t (suc k)) p ≡ None
  gone None none = none
  gone (Some m) there = absurd (apart (one' p q m g there came.0 was.1.0 came.1.0 (was.1.2 ∙ sym came.1.2)))

  free : (o : Option ℕ) → file_at (state t k) q ≡ o → file_at (state t k) q ≡ None
  free None none = none
  free (Some m) there = absurd (apart (one p q f m was.0 there was.1.0 came.1.0 (was.1.2 ∙ sym came.1.2)))

  more : state t (suc k) ≡ after_did x.did x.at.clock x.reply (state t k)
  more = state-more t.image t.steps k x is

  renamed-it : (x.did ≡ asked (rename p q)) × (x.reply ≡ reply.Ok)
  renamed-it = taken (state t k) p q f g was.0 (free (file_at (state t k) q) refl) x.did x.at.clock x.reply
      (ap (λ (s : State). file_at s p) (sym more) ∙ gone (file_at (state t (suc k)) p) refl)
      (ap (λ (s : State). file_at s q) (sym more) ∙ came.0)

  after : state t (suc k) ≡ after_rename p q (state t k)
  after = more ∙ ap (λ (d : Did). after_did d x.at.clock x.reply (state t k)) renamed-it.0
      ∙ ap (λ (r : DirReply). after_did (asked (rename p q)) x.at.clock r (state t k)) renamed-it.1

  -- so the new path has the file of the old
  there : file_at (state t (suc k)) q ≡ Some f
  there = ap (λ (s : State). file_at s q) after
      ∙ (renamed (state t k) p q f one was.1.0 came.1.0 (was.1.2 ∙ sym came.1.2) was.0).there

  -- and is no other link or rename
  not-of-new : (n : Naming) (old new : Path) (r : Reply) → IsCall (next_at t k x) (told.Between n old new r) → is_message old ≡ true →
      old.place ≡ New → ⊥
  not-of-new n old new r call message place =
      let same : told.Between naming.Rename p q (reply_seen x.reply) ≡ told.Between n old new r =
      sym (ap (λ (d : Did). call_seen (state t k) d (reply_seen x.reply)) renamed-it.0) ∙ call-made t k x (told.Between n old new r) call in
      let its : p ≡ old = cc in
      let clash = sym in_cur ∙ ap (λ (y : Path). y.place) its ∙ place in cc

  pub comes-back : MovedBack (next_at t k x)
  comes-back = (
    q,
    f,
    (
      path-next t story k x is q ∙ there,
      λ before. let none = free (file_at (state t k) q) refl in let some = sym (path-history t story k q) ∙ before in cc,
    ),
    came.1.0,
    in_new,
    once-now (λ m. (r : Path) × (file_at (at m) r ≡ Some f) × (is_message r ≡ true) × (r.place ≡ Cur)) (history t k)
        (p, path-history t story k p ∙ was.0, was.1.0, in_cur),
    not-of-new,
  )
