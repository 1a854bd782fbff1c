-- What the induction has of a delivery stays, whatever a step of another does that does what it owes.
use Rattle.std.proofs.Common.{ℕ, suc, ◌≡◌, ◌≢◌, ◌<◌, List, Option, Some, None, true, false, cond, refl, sym, ap, subst, ◌∙◌, take}
use Rattle.md_dirs.proofs.Sound.{number-within}
use Rattle.md_dirs.specs.State.{State, IsSound, file_at}
use Rattle.md_dirs.specs.Calls.{after_append, with_path, with_files_still_named, without_path, is_one_file}
use Rattle.md_dirs.specs.declared.paths.Path.{Path}
use Rattle.md_dirs.specs.declared.paths.Place.TheVariants.{Tmp}
use Rattle.md_jobs.specs.Asked.{create, append, link, rename, unlink, list}
use Rattle.md_jobs.specs.Tasks.Delivery.{Delivery}
use Rattle.md_jobs.specs.declared.deliver.Stage.{Stage}
use Rattle.md_jobs.specs.declared.deliver.Stage.TheVariants.{Start, Writing, Linked, Undo}
use Rattle.md_jobs.specs.declared.call.Call.{Call}
use Rattle.md_jobs.specs.declared.step.DirReply.{DirReply}
use Rattle.md_jobs.specs.declared.step.DirReply.TheVariants as reply
use Rattle.md_core.specs.Accepting.{name_used}
use Rattle.md_core.proofs.Induction.Good.{IsUnused, HasNoMessage, IsAlone, StageFits, DeliveryFits, bytes_at}
use Rattle.md_core.proofs.Directories.Frames.{not_tmp}
use Rattle.md_log.specs.declared.line.Reply.TheVariants as said
use Rattle.md_law.specs.Files.{IsMaker}
use Rattle.md_law.specs.History.{History, at}
use Rattle.md_law.specs.Messages.{IsSeen}
use Rattle.md_beside.specs.Story.{Story, Step, Did, asked, wrote, flushed, step_at, step_seen, after_did, after_write, state, history}
use Rattle.md_beside.specs.Beside.{IsStory}
use Rattle.md_beside.proofs.Histories.{next_at, state-more, history-next, path-history, path-next}
use Rattle.md_beside.proofs.Fresh.{IsWhole, StageFresh, unused-none, unused-next, never-next, whole-next, unmade-next, held-next}
use Rattle.md_beside.proofs.OneMaker.{one-maker, maker-still}
use Rattle.md_beside.proofs.Others.{IsOther}
use Rattle.md_beside.proofs.OnlyPath.{IsOnly, unused-beside, kept, only-beside, no_message-beside}
use Rattle.md_beside.proofs.StaysSound.{sound-did}
use Rattle.md_beside.proofs.KeptBytes.{kept-bytes}

append-folders : (more : List ℕ) (now : ℕ) (s : State) (o : Option ℕ) → (after_append more now s o).folders ≡ s.folders
append-folders more now s None = refl
append-folders more now s (Some n) = refl

write-folders : (bytes : List ℕ) (now : ℕ) (r : DirReply) (s : State) (o : Option ℕ) → (after_write bytes now r s o).folders ≡ s.folders
write-folders bytes now r s None = refl
write-folders bytes now r s (Some n) = refl

path-folders : (p : Path) (s : State) (o : Option ℕ) → (with_path p s o).folders ≡ s.folders
path-folders p s None = refl
path-folders p s (Some n) = refl

-- no step makes or takes a folder
folders-did : (d : Did) (now : ℕ) (r : DirReply) (s : State) → (after_did d now r s).folders ≡ s.folders
folders-did (asked (create p)) now reply.Ok s = refl
folders-did (asked (append p bytes)) now reply.Ok s = append-folders bytes now s (file_at s p)
folders-did (asked (link old new)) now reply.Ok s = path-folders new s (file_at s old)
folders-did (asked (rename old new)) now reply.Ok s =
    elim (is_one_file (file_at s old) (file_at s new)) as
    (λ b. (cond b s (with_files_still_named (file_at s new) (with_path new (without_path old s) (file_at s old)))).folders
    ≡ s.folders) [
      | true ↦ refl
      | false ↦ path-folders new (without_path old s) (file_at s old)
    ]
folders-did (asked (unlink p)) now reply.Ok s = refl
folders-did (asked (list folder place)) now reply.Ok s = refl
folders-did (asked a) now reply.Exists s = refl
folders-did (asked a) now reply.NotFound s = refl
folders-did (asked a) now reply.Fault s = refl
folders-did (wrote p bytes) now r s = write-folders bytes now r s (file_at s p)
folders-did (flushed p) now r s = refl

-- from its create to its link, the path of a delivery is the only one of its name and of its file, which the job made
pub record IsMine (t : Story) (k job : ℕ) (tmp : Path) : Type 0 where
  pub only : IsOnly (state t k) tmp
  pub made : (n : ℕ) → file_at (state t k) tmp ≡ Some n → IsMaker (history t k) (t.actor job) n

abbrev pub StageMine : Story → ℕ → ℕ → Path → Stage → Type 0
StageMine t k job tmp Start = Unit {0}
StageMine t k job tmp (Writing start from) = IsMine t k job tmp
StageMine t k job tmp Linked = Unit {0}
StageMine t k job tmp (Undo a) = IsMine t k job tmp

module _ (t : Story) (story : IsStory t) (k : ℕ) (x : Step) (is : step_at t k ≡ Some x) where
  more : state t (suc k) ≡ after_did x.did x.at.clock x.reply (state t k)
  more = state-more t.image t.steps k x is

  pub sound-stays : IsSound (state t k) → IsSound (state t (suc k))
  sound-stays sound = subst IsSound (sym more) (sound-did (state t k) sound x.did x.at.clock x.reply (story.replied k x is))

  pub folders-stay : (state t (suc k)).folders ≡ (state t k).folders
  folders-stay = ap (λ (s : State). s.folders) more ∙ folders-did x.did x.at.clock x.reply (state t k)

  module _ (job : ℕ) (tmp : Path) (other : IsOther t k x job tmp.name) where
    brought : (p : Path) (n : ℕ) → name_used p ≡ tmp.name → file_at (state t (suc k)) p ≡ Some n →
        ((q : Path) → name_used q ≡ tmp.name → file_at (state t k) q ≡ Some n → ⊥) → ⊥
    brought p n used now none = other.brings (p, n, used, now, none)

    -- the name is not used by another
    unused-stays : IsUnused (state t k) tmp.name → IsUnused (state t (suc k)) tmp.name
    unused-stays = unused-beside (state t k) (state t (suc k)) tmp.name brought

    module _ (place : tmp.place ≡ Tmp) (sound : IsSound (state t k)) (mine : IsMine t k job tmp) where
      -- the maker of our path's file is the job still, and no other
      still : (n : ℕ) → file_at (state t k) tmp ≡ Some n → IsMaker (next_at t k x) (t.actor job) n
      still n there = maker-still (history t k) (step_seen t.actor (state t k) x) (t.actor job) n (mine.made n there)

      pub not-its : (n : ℕ) → file_at (state t k) tmp ≡ Some n → IsMaker (history t k) other.actor n → ⊥
      not-its n there made = other.differs (one-maker (history t k) n other.actor (t.actor job) made (mine.made n there))

      -- the file of our path gets no path by another
      pub named : (p : Path) (n : ℕ) → file_at (state t k) tmp ≡ Some n → file_at (state t (suc k)) p ≡ Some n →
          file_at (state t k) p ≢ Some n → ⊥
      named p n there now not = other.owes.unnamed (
        other.actor,
        p,
        n,
        other.by,
        (path-next t story k x is p ∙ now, λ was. not (sym (path-history t story k p) ∙ was)),
        λ (seen : IsSeen (at (history t k)) n).
            not_tmp seen.0 tmp place seen.2 (mine.only.of_file n seen.0 there (sym (path-history t story k seen.0) ∙ seen.1)),
        λ (made : IsMaker (next_at t k x) other.actor n). other.differs
            (one-maker (next_at t k x) n other.actor (t.actor job) made (still n there)),
      )

      -- it names the file that it named
      pub before : (n : ℕ) → file_at (state t (suc k)) tmp ≡ Some n → file_at (state t k) tmp ≡ Some n
      before = kept (state t k) (state t (suc k)) tmp place brought named mine.only

      pub mine-still : IsMine t (suc k) job tmp
      mine-still = record {
        only = only-beside (state t k) (state t (suc k)) tmp place brought named mine.only;
        made = λ n now. subst (λ (h : History). IsMaker h (t.actor job) n) (sym (history-next t k x is)) (still n (before n now));
      }

      pub no_message-still : HasNoMessage (state t (suc k)) tmp.name
      no_message-still = no_message-beside (state t k) (state t (suc k)) tmp place brought named mine.only

      -- another writes nothing to our file
      bytes-still : (n : ℕ) → file_at (state t (suc k)) tmp ≡ Some n → bytes_at (state t (suc k)) n ≡ bytes_at (state t k) n
      bytes-still n now =
          let was = before n now in
          ap (λ (s : State). bytes_at s n) more
          ∙ kept-bytes (state t k) n (number-within (state t k) sound tmp n was) x.did x.at.clock x.reply
          (λ p e call answered at. other.owes.unmixed (
            other.actor,
            n,
            other.by,
            (e, answered, (p, (step_seen t.actor (state t k) x, refl, call), path-history t story k p ∙ at)),
            not-its n was,
          ))
          tmp (sym (ap (λ (s : State). file_at s tmp) more) ∙ now)

      alone-still : (bytes : List ℕ) → IsAlone (state t k) tmp bytes → IsAlone (state t (suc k)) tmp bytes
      alone-still bytes alone = record {
        holds = λ n now. bytes-still n now ∙ alone.holds n (before n now);
        only = λ n q there now. mine-still.only.of_file n q there now;
      }

      -- our file is seen by no reader, and no write to it failed
      whole-still : (n : ℕ) → file_at (state t (suc k)) tmp ≡ Some n → IsWhole t k n → IsWhole t (suc k) n
      whole-still n now = whole-next t story k x is n
          (λ seen. not_tmp seen.0 tmp place seen.2 (mine-still.only.of_file n seen.0 now seen.1))
          (λ writes. other.owes.unmixed (other.actor, n, other.by, (said.Fault, (λ e. cc), writes), not-its n (before n now)))

  module _ (c : Call) (job : ℕ) (d : Delivery) (sound : IsSound (state t k)) (fits : DeliveryFits (state t k) c d)
      (mine : StageMine t k job d.tmp d.stage) (other : IsOther t k x job d.tmp.name) where
    fits-by : (stage : Stage) → StageMine t k job d.tmp stage → StageFits (state t k) d stage → StageFits (state t (suc k)) d stage
    fits-by Start m h = unused-stays job d.tmp other h
    fits-by (Writing start from) m h = (
      h.0,
      no_message-still job d.tmp other fits.in_tmp sound m,
      alone-still job d.tmp other fits.in_tmp sound m (take from d.body) h.2,
    )
    fits-by Linked m h = tt
    fits-by (Undo a) m h = (no_message-still job d.tmp other fits.in_tmp sound m, h.1)

    pub delivery-stays : DeliveryFits (state t (suc k)) c d
    delivery-stays = record {
      of = fits.of;
      in_tmp = fits.in_tmp;
      in_folder = subst (λ (n : ℕ). d.tmp.folder < n) (sym folders-stay) fits.in_folder;
      name = fits.name;
      chunked = fits.chunked;
      stage = fits-by d.stage mine fits.stage;
    }

    mine-by : (stage : Stage) → StageMine t k job d.tmp stage → StageMine t (suc k) job d.tmp stage
    mine-by Start m = tt
    mine-by (Writing start from) m = mine-still job d.tmp other fits.in_tmp sound m
    mine-by Linked m = tt
    mine-by (Undo a) m = mine-still job d.tmp other fits.in_tmp sound m

    pub mine-stays : StageMine t (suc k) job d.tmp d.stage
    mine-stays = mine-by d.stage mine

    fresh-by : (stage : Stage) → StageMine t k job d.tmp stage → StageFits (state t k) d stage → StageFresh t k job d.tmp stage →
        StageFresh t (suc k) job d.tmp stage
    fresh-by Start m h fresh = (
      never-next t story k x is d.tmp.name (unused-none (state t (suc k)) d.tmp.name (unused-stays job d.tmp other h)) fresh.0,
      unmade-next t story k x is sound (sound-stays sound) fresh.1,
      unused-next t story k x is d.tmp.name (unused-stays job d.tmp other h) fresh.2,
    )
    fresh-by (Writing start from) m h fresh = (
      never-next t story k x is d.tmp.name (no_message-still job d.tmp other fits.in_tmp sound m) fresh.0,
      λ n now. whole-still job d.tmp other fits.in_tmp sound m n now (fresh.1 n (before job d.tmp other fits.in_tmp sound m n now)),
    )
    fresh-by Linked m h fresh =
        held-next t story k x is job d.tmp.name (λ q n used now not.
        other.brings (q, n, used, now, λ q' used' was. fresh q' n used' was not))
    fresh-by (Undo a) m h fresh = tt

    pub fresh-stays : StageFresh t k job d.tmp d.stage → StageFresh t (suc k) job d.tmp d.stage
    fresh-stays = fresh-by d.stage mine fits.stage
