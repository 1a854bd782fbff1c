-- The monitor: what it keeps, and what it finds.
use Rattle.std.specs.Prelude.{ℕ, List, Option, Bool, true, false, not, ◌&&◌}
use Rattle.md_law.specs.Values.{State, Clause, Call, Reply, Step}
use Rattle.md_dirs.specs.declared.calls.DirError.{DirError}
use Rattle.md_log.specs.declared.clause.Clause.TheVariants as clause
use Rattle.md_log.specs.declared.line.Call.TheVariants as call
use Rattle.md_log.specs.declared.line.Reply.TheVariants as reply
use Rattle.md_law.specs.History.{History, ask_at, ask_between}
use Rattle.md_law.specs.Answers.{Claim}
use Rattle.md_law.specs.Readings.{Looker}
use Rattle.md_law.specs.Clauses.{reply_by}
use Rattle.md_monitor.specs.Files.{FileKept, is_fault, files_kept, kept_after}
use Rattle.md_monitor.specs.Messages.{MessagesKept, messages_kept, messages_after, breaks_two_names, breaks_gone, breaks_used_again, breaks_in_two_folders, breaks_used_twice, breaks_made_again}
use Rattle.md_monitor.specs.Found.{breaks_by_files}
use Rattle.md_monitor.specs.Answers.{ClaimKept, claims_kept, claim_after, breaks_gave_up, breaks_answered_falsely}
use Rattle.md_monitor.specs.Readings.{ReadingKept, readings_kept, reading_after, is_wrong_reading}
use Rattle.md_monitor.specs.Listings.{ListingKept, listings_kept, listing_after, breaks_unlisted}

-- ---- what is kept

-- What the monitor keeps.
pub record Kept : Type 0 where
  pub files : ℕ → FileKept
  pub messages : MessagesKept
  pub claims : Claim → ClaimKept
  pub readings : Looker → ReadingKept
  pub listings : List ℕ → ℕ → ListingKept

abbrev pub kept_of : History → Kept
kept_of h = record {
  files = files_kept h;
  messages = messages_kept h;
  claims = claims_kept h;
  readings = readings_kept h;
  listings = listings_kept h;
}

-- what it keeps after a step, by the directories before the step, the clock after it, and what was kept
abbrev pub kept_next : State → ℕ → Step → Kept → Kept
kept_next s now x kept = record {
  files = kept_after s x kept.files;
  messages = messages_after s x kept.messages;
  claims = λ c. claim_after s now x c (kept.claims c);
  readings = λ d. reading_after s now x d (kept.readings d);
  listings = λ actor folder. listing_after x kept.readings actor folder (kept.listings actor folder);
}

-- ---- what is found

-- both are one answer
abbrev pub is_reply : Reply → Reply → Bool
is_reply reply.Ok reply.Ok = true
is_reply reply.More reply.More = true
is_reply reply.Exists reply.Exists = true
is_reply reply.NotFound reply.NotFound = true
is_reply reply.Fault reply.Fault = true
is_reply r q = false

abbrev pub is_wrong_reply : Reply → Option DirError → Bool
is_wrong_reply r refusal = not (is_fault r) && not (is_reply r (reply_by refusal))

-- a call by an actor is answered as the directories never answer it, at a clock
abbrev pub is_wrong_call : State → ℕ → (Looker → ReadingKept) → List ℕ → Call → Bool
is_wrong_call s now readings actor (call.At d p r) = is_wrong_reply r ((ask_at d p now).refusal s)
is_wrong_call s now readings actor (call.Between n old new r) = is_wrong_reply r ((ask_between n old new).refusal s)
is_wrong_call s now readings actor (call.List folder place r shown) =
    let d : Looker = record { actor = actor; folder = folder; place = place } in is_wrong_reading s d (readings d) r shown
is_wrong_call s now readings actor (call.Answer said folder unique) = false

-- the step breaks the clause, by the directories before it, the clock after it, and what was kept
abbrev pub finds : State → ℕ → Kept → Step → Clause → Bool
finds s now kept x clause.NotADirectory = is_wrong_call s now kept.readings x.actor x.call
finds s now kept x clause.TwoNames = breaks_two_names s now kept.messages x
finds s now kept x clause.Gone = breaks_gone s now kept.messages x
finds s now kept x clause.UsedAgain = breaks_used_again s now kept.messages x
finds s now kept x clause.Unlisted = breaks_unlisted s kept.readings kept.listings x
finds s now kept x clause.GaveUp = breaks_gave_up s kept.claims x
finds s now kept x clause.AnsweredFalsely = breaks_answered_falsely s kept.claims x
finds s now kept x clause.InTwoFolders = breaks_in_two_folders s now kept.messages x
finds s now kept x clause.UsedTwice = breaks_used_twice s now kept.messages x
finds s now kept x clause.MadeAgain = breaks_made_again s now kept.messages x
finds s now kept x c = breaks_by_files s now kept.files x c
