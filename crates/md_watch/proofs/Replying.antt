-- What calls on paths answer is what the directories give.
use Rattle.std.proofs.Common.{ℕ, ◌≡◌, ◌||◌, ◌∙◌, cond, List, Some, None, Bool, true, false, is_some, refl, ap}
use Rattle.md_dirs.specs.State.{State, file_at, has_folder}
use Rattle.md_dirs.specs.declared.calls.DirError.TheVariants as error
use Rattle.md_dirs.specs.declared.paths.Path.{Path}
use Rattle.md_log.specs.declared.line.Call.{Call}
use Rattle.md_log.specs.declared.line.Call.TheVariants as call
use Rattle.md_log.specs.declared.line.Deed.{Deed}
use Rattle.md_log.specs.declared.line.Deed.TheVariants as deed
use Rattle.md_log.specs.declared.line.Naming.{Naming}
use Rattle.md_log.specs.declared.line.Naming.TheVariants as naming
use Rattle.md_log.specs.declared.line.Reply.TheVariants as reply
use Rattle.md_law.specs.Clauses.{reply_by}
use Rattle.md_law.specs.History.{ask_at, ask_between}
use Rattle.md_law.specs.Readings.{Looker}
use Rattle.md_monitor.specs.Judged.{is_wrong_call}
use Rattle.md_monitor.specs.Readings.{ReadingKept}
use Rattle.md_kept.specs.Replies.{answer_at, answer_between, is_wrong_answer, is_wrong}
use Rattle.md_watch.proofs.Hearing.{IsMisread}

-- by whether the path is there, and whether its folder is
old : (there : Bool) → cond there reply.Ok reply.NotFound ≡ reply_by (cond there None (Some error.NotFound))
old true = refl
old false = refl

new : (folder there : Bool) → cond folder (cond there reply.Exists reply.Ok) reply.NotFound
    ≡ reply_by (cond folder (cond there (Some error.Exists) None) (Some error.NotFound))
new true true = refl
new true false = refl
new false there = refl

or-none : (b c : Bool) → c ≡ false → (b || c) ≡ b
or-none true c none = refl
or-none false c none = none

module _ (s : State) where
  at-is : (d : Deed) (p : Path) (now : ℕ) → answer_at (file_at s) s.folders d p ≡ reply_by ((ask_at d p now).refusal s)
  at-is deed.Create p now = new (has_folder s p) (is_some (file_at s p))
  at-is deed.Write p now = old (is_some (file_at s p))
  at-is deed.Flush p now = old (is_some (file_at s p))
  at-is deed.Unlink p now = old (is_some (file_at s p))

  between-is : (n : Naming) (o p : Path) → answer_between (file_at s) s.folders n o p ≡ reply_by ((ask_between n o p).refusal s)
  between-is naming.Link o p = by (is_some (file_at s o)) (has_folder s p) (is_some (file_at s p))
    where
      by : (was folder there : Bool) → cond was (cond folder (cond there reply.Exists reply.Ok) reply.NotFound) reply.NotFound
          ≡ reply_by (cond was (cond folder (cond there (Some error.Exists) None) (Some error.NotFound)) (Some error.NotFound))
      by true folder there = new folder there
      by false folder there = refl
  between-is naming.Rename o p = by (is_some (file_at s o)) (has_folder s p)
    where
      by : (was folder : Bool) → cond was (cond folder reply.Ok reply.NotFound) reply.NotFound
          ≡ reply_by (cond was (cond folder None (Some error.NotFound)) (Some error.NotFound))
      by true folder = old folder
      by false folder = refl

  -- a call is found to be answered wrongly where it is: one on paths by them, and a part of a reading by what is remembered
  pub wrong-is : (now : ℕ) (readings : Looker → ReadingKept) (actor : List ℕ) (c : Call) (misread : Bool)
      → IsMisread s readings actor c misread
      → (is_wrong (file_at s) s.folders c || misread) ≡ is_wrong_call s now readings actor c
  wrong-is now readings actor (call.At d p r) misread none =
      or-none (is_wrong_answer r (answer_at (file_at s) s.folders d p)) misread none ∙ ap (is_wrong_answer r) (at-is d p now)
  wrong-is now readings actor (call.Between n o p r) misread none =
      or-none (is_wrong_answer r (answer_between (file_at s) s.folders n o p)) misread none ∙ ap (is_wrong_answer r) (between-is n o p)
  wrong-is now readings actor (call.List folder place r shown) misread is = is
  wrong-is now readings actor (call.Answer said folder unique) misread none = none
