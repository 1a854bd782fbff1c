-- The monitor finds what the law has, and what is owed beside it.
use Rattle.std.proofs.Common.{ℕ, ◌≡◌, List, Option, refl, sym, subst, ◌-◌, ◌≤◌, Some}
use Rattle.std.specs.Bool.{Decides}
use Rattle.std.proofs.lemmas.Bool.Decides.{Decides-and, Decides-not, Decides-like}
use Rattle.md_dirs.specs.declared.calls.DirError.{DirError}
use Rattle.md_log.specs.declared.clause.Clause.{Clause}
use Rattle.md_log.specs.declared.clause.Clause.TheVariants as clause
use Rattle.md_log.specs.declared.line.Call.{Call}
use Rattle.md_log.specs.declared.line.Call.TheVariants as call
use Rattle.md_log.specs.declared.line.Reply.{Reply}
use Rattle.md_log.specs.declared.line.Reply.TheVariants as reply
use Rattle.md_log.specs.declared.line.Step.{Step}
use Rattle.md_law.specs.History.{History, next, at, now, IsBy, IsCall, Once}
use Rattle.md_law.specs.Clauses.{reply_by, IsWrongReply, IsWrongCall, NotADirectory}
use Rattle.md_law.specs.Law.{Breaks}
use Rattle.md_monitor.specs.Judged.{kept_of, is_reply, is_wrong_reply, is_wrong_call, finds}
use Rattle.md_monitor.specs.Readings.{readings_kept}
use Rattle.md_monitor.proofs.Tests.{fault-is, some-and}
use Rattle.md_monitor.proofs.Stepping.{is-call, is-by}
use Rattle.md_monitor.proofs.Finding as files
use Rattle.md_monitor.proofs.Noticing as messages
use Rattle.md_monitor.proofs.Answering as answers
use Rattle.md_monitor.proofs.Reading.{wrong_reading}
use Rattle.md_monitor.proofs.Listing.{unlisted}
use Rattle.std.proofs.lemmas.Bool.{leb-true, le-leb}
use Rattle.md_dirs.specs.State.{file_by}
use Rattle.md_dirs.specs.declared.paths.File.{File}
use Rattle.md_law.specs.Messages.{IsSeen}
use Rattle.md_law.specs.Files.{IsMaker}
use Rattle.md_monitor.specs.Files.{files_kept}
use Rattle.md_monitor.proofs.Seeing.{seen-is}
use Rattle.md_monitor.proofs.Keeping.{kept}
use Rattle.md_monitor.proofs.Once.{named-is}
use Rattle.md_monitor.proofs.Telling.{made-it, other-than, may_write-is}
use Rattle.md_law.specs.Law as owed
use Rattle.md_monitor.specs.Found as found

reply-is : (r q : Reply) → Decides (is_reply r q) (r ≡ q)
reply-is reply.Ok reply.Ok = (λ t. refl, λ e. refl)
reply-is reply.More reply.More = (λ t. refl, λ e. refl)
reply-is reply.Exists reply.Exists = (λ t. refl, λ e. refl)
reply-is reply.NotFound reply.NotFound = (λ t. refl, λ e. refl)
reply-is reply.Fault reply.Fault = (λ t. refl, λ e. refl)
reply-is r q = (λ t. absurd (cc), λ e. absurd (cc e))

wrong-is : (r : Reply) (refusal : Option DirError) → Decides (is_wrong_reply r refusal) (IsWrongReply r refusal)
wrong-is r refusal = Decides-and _ _ (Decides-not _ (fault-is r)) (Decides-not _ (reply-is r (reply_by refusal)))

module _ (past : History) (x : Step) where
  abbrev h : History
  h = next past x

  wrong-call : (c : Call) (actor : List ℕ) → IsBy h actor → IsCall h c
      → Decides (is_wrong_call (at past) (now h) (readings_kept past) actor c) (IsWrongCall h actor c)
  wrong-call (call.At d p r) actor by is = wrong-is r _
  wrong-call (call.Between n old new r) actor by is = wrong-is r _
  wrong-call (call.List folder place r shown) actor by is =
      wrong_reading past x (record { actor = actor; folder = folder; place = place }) r shown (by, is)
  wrong-call (call.Answer said folder unique) actor by is = (λ t. absurd (cc), λ wrong. absurd wrong)

  not_a_directory : Decides (is_wrong_call (at past) (now h) (readings_kept past) x.actor x.call) (NotADirectory h)
  not_a_directory = Decides-like _
      (λ wrong. (x.actor, x.call, (is-by past x x.actor).1 refl, (is-call past x x.call).1 refl, wrong))
      (λ (actor, c, by, is, wrong). subst (λ a. IsWrongCall h a x.call) (sym ((is-by past x actor).0 by))
      (subst (IsWrongCall h actor) (sym ((is-call past x c).0 is)) wrong))
      (wrong-call x.call x.actor ((is-by past x x.actor).1 refl) ((is-call past x x.call).1 refl))

  -- ---- what each program owes the others, so far as it goes by files

  rewritten : Decides (found.breaks_rewritten (at past) (now h) (files_kept past) x) (owed.Rewritten h)
  rewritten = may_write-is past x _ (λ n. Once (λ m. IsSeen (at m) n) past) (λ n. (kept past n).was_seen)

  named_by_another : Decides (found.breaks_named_by_another (at past) (now h) (files_kept past) x) (owed.NamedByAnother h)
  unfolding files_kept
  named_by_another = Decides-like _
      (λ (p, n, new, both). (x.actor, p, n, (is-by past x x.actor).1 refl, new, both.0, both.1))
      (λ (actor, p, n, by, new, hidden, other). (p, n, new, (hidden, other-than past x h actor n by other)))
      (named-is past x _ (λ p n. (IsSeen (at past) n → ⊥) × (IsMaker h x.actor n → ⊥))
      (λ e. Decides-and _ _ (Decides-not _ (seen-is (at past) e.1)) (Decides-not _ (made-it h e.1 x.actor))))

  written_late : Decides (found.breaks_written_late (at past) (now h) (files_kept past) x) (owed.WrittenLate h)
  written_late = Decides-like _
      (λ (n, may, (file, is, old)). (n, file, may, is, old))
      (λ (n, file, may, is, old). (n, may, (file, is, old)))
      (may_write-is past x _ (λ n. (file : File) × (file_by (at past).files n ≡ Some file) × (129600 ≤ now h - file.stamp))
      (λ n. some-and (file_by (at past).files n) _ (λ file. 129600 ≤ now h - file.stamp)
      (λ file. (leb-true 129600 (now h - file.stamp), le-leb 129600 (now h - file.stamp)))))

  -- ---- all clauses

  -- what is found is what the law has
  pub breaks-is : (c : Clause) → Decides (finds (at past) (now h) (kept_of past) x c) (Breaks c h)
  breaks-is clause.NotADirectory = not_a_directory
  breaks-is clause.Overwritten = files.overwritten past x
  breaks-is clause.SeenBeforeWhole = files.seen_before_whole past x
  breaks-is clause.Mixed = files.mixed past x
  breaks-is clause.NotFlushed = files.not_flushed past x
  breaks-is clause.TwoNames = messages.two_names past x
  breaks-is clause.Gone = messages.gone past x
  breaks-is clause.UsedAgain = messages.used_again past x
  breaks-is clause.MovedBack = files.moved_back past x
  breaks-is clause.CleanedEarly = files.cleaned_early past x
  breaks-is clause.Unlisted = unlisted past x
  breaks-is clause.GaveUp = answers.gave_up past x
  breaks-is clause.AnsweredFalsely = answers.answered_falsely past x
  breaks-is clause.InTwoFolders = messages.in_two_folders past x
  breaks-is clause.NamedByAnother = named_by_another
  breaks-is clause.Rewritten = rewritten
  breaks-is clause.UsedTwice = messages.used_twice past x
  breaks-is clause.MadeAgain = messages.made_again past x
  breaks-is clause.WrittenLate = written_late
