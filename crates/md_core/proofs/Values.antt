-- The words that the proofs speak in, passed on from their own files.
pub use Rattle.md_dirs.specs.State.{State, IsSound, file_at, file_by, bytes_at_path, has_folder}
pub use Rattle.md_dirs.specs.Path.{path_of, path_cmp, place_index}
pub use Rattle.md_dirs.specs.declared.paths.Path.{Path}
pub use Rattle.md_dirs.specs.declared.paths.Place.{Place}
pub use Rattle.md_dirs.specs.declared.paths.Place.TheVariants.{Tmp, New, Cur}
pub use Rattle.md_dirs.specs.declared.rows.Row.{Row}
pub use Rattle.md_name.specs.Letters.{Set, is_same_set}
pub use Rattle.md_name.specs.declared.info.Info.{Info}
pub use Rattle.md_jobs.specs.declared.error.CoreError.{CoreError}
pub use Rattle.md_jobs.specs.declared.call.Call.{Call}
pub use Rattle.md_jobs.specs.declared.answer.Answer.{Answer}
pub use Rattle.md_jobs.specs.declared.effect.Change.{Change}
pub use Rattle.md_jobs.specs.declared.effect.Effect.{Effect}
pub use Rattle.md_jobs.specs.declared.step.DirReply.{DirReply}
pub use Rattle.md_jobs.specs.declared.step.Event.{Event}
pub use Rattle.md_jobs.specs.declared.step.Moment.{Moment}
pub use Rattle.md_jobs.specs.declared.step.StepOut.{StepOut}
pub use Rattle.md_core.specs.Tasks.Task.{Task, Deliver, Errand, Clean}
pub use Rattle.md_jobs.specs.Tasks.Delivery.{Delivery}
pub use Rattle.md_jobs.specs.declared.deliver.Stage.{Stage}
pub use Rattle.md_jobs.specs.declared.deliver.Stage.TheVariants.{Linked, Start, Undo, Writing}
pub use Rattle.md_core.specs.Runs.{Run, and_call, and_event, and_events, answer_of, beginning, box_in, calls_made_of, dirs_at_first, dirs_of, done_at, effects_of, failures_of, first_clock, first_step, jobs_of, log_of, machine_at, machine_of, run_from, stamp_of, step_refusal}
pub use Rattle.md_core.specs.Machine.{Machine, Occurrence, Standing, after_event, after_turn, after_turn_of, answered, as_task, is_working, job_at, moment_of, new_job, occurrence, reply_to, standing_of, step_by, step_of, step_out, task_of, turn_of, working}
pub use Rattle.md_core.specs.Stepping.{AsAlone, IsRun, ShowsStep, Simulates, Succeeds, effects_by}
pub use Rattle.md_core.specs.Trace.{IsAnswered, IsStepOf, IsTrace, Step, Trace, box, call_at, effects, file_in, state, state_after, step_at, steps_of}
pub use Rattle.md_core.specs.Tracing.{GrowsByStep, HasOneClock, IsLogged, IsShown, KeepsStates, clock_before, deeds_from, trace_of}
pub use Rattle.md_core.specs.Mailbox.{Entry, HasOnePath, Mailbox, bytes_of, entry_of, mailbox_of, message_of, name_cmp}
pub use Rattle.md_used.specs.Paths.{is_message, is_tmp}
pub use Rattle.md_core.specs.History.{IsAllowed, IsAllowedAfter, IsLegal, IsNowhere, IsThere, Listed, MayGetFlags, Names, WasNowhere, as_listed, name_of, names_after, names_after_change, names_of, size_in}
pub use Rattle.md_core.specs.Alone.{Outcome, alone, copy_alone, copy_by, deliver_alone, entry_if, expunge_alone, expunge_by, flag_alone, flag_by, flags_in, info_copied, info_with, is_in_folder, is_in_place, move_alone, refuse, seen_alone, seen_by}
pub use Rattle.md_core.specs.Accepting.{IsAccepted, IsFresh, IsLookUp, MakesMessage, name_used}
pub use Rattle.md_core.specs.Interleaving.{Acts, HasSeenOld, Interleaves, IsCopied, IsCopyTo, IsDelivery, IsDeliveryOf, IsEffectOf, IsOwnEffect, IsTmpOf, IsWhole, KeepsTmp, MayChange, NoneOverwritten, TakesEffect, is_effect_at, is_success}
pub use Rattle.md_used.specs.Used.{is_among, may_be_among}
pub use Rattle.md_jobs.specs.Asked.{Asked, append, ask_of, create, is_fault, link, list, rename, reply_by, state_by, unlink}
pub use Rattle.md_jobs.specs.Turn.{After, NoCall, Takes, TakesOrEnds, Turn, TurnOf, ends, ends_by, goes_on, reply_of, rows_for}
pub use Rattle.md_dirs.specs.Rows.{ends_unique, is_in, is_named, row_by, row_named, row_of, rows_of}
pub use Rattle.md_name.specs.Names.{flagged, flags_of, info_of, info_text, is_message_name, is_unique_name, unique_of}
pub use Rattle.md_core.specs.Answering.{Begins, HasCleaned, IsCleaned, IsCleanedAway, IsDelivered, IsFaulted, IsGone, IsInSpan, IsLost, IsOfSpan, IsOutOfTime, IsTimedOut, IsTmpGone, IsTouched, IsUndone, Says, is_ok, is_on, is_touch, is_unused}
pub use Rattle.std.specs.Option.{option_and_then, option_map, option_map_or, option_or, option_to_list}
pub use Rattle.std.specs.List.{after_first, before_first, cons_option, filter_map, list_all, list_any, position_or_len, starts_with}
pub use Rattle.std.specs.FinMap.{entries, entries_sorted, find, get, get-entries, get-from_entries, is_sorted, same_map}
pub use Rattle.std.specs.Str.{bytes_eq}
pub use Rattle.md_core.specs.Looking.{IsLookOf, entries_before, is_before}
pub use Rattle.md_used.specs.Seen.{fault_after, is_message_of, is_of, is_tmp_of}
pub use Rattle.md_core.specs.Submitting.{bad_tries, checks, first_met, is_used, makes, most_tries, no_folder, submit_refusal, uses}
pub use Rattle.md_used.specs.Loading.{fault_of, first_fault, is_bad_name, is_long_unique, is_same_message, load_refusal}
pub use Rattle.md_core.specs.Gathering.{AreOf, Covers, CoversBy, KeepsMade, KeepsUsed, StillUsed, holds, is_used_before, may_change, may_take}
pub use Rattle.md_core.specs.Worlds.{AreUsed, IsWorld, TakesAll, machine_by, occurrences, run_of}
pub use Rattle.md_core.specs.Laws.{HasJob, HasPath, IsInCur, IsNotInTmp, IsPlaced, KeepsPlaces}
pub use Rattle.md_core.specs.Quick.{AreBare, AreFree, AreSingle, IsQuickLook, has_fault}
pub use Rattle.md_core.specs.Standing.{JobView, TakesTurn, job_of, standings}
pub use Rattle.md_core.specs.Calling.{AnswersAlone, AnswersAsAlone, GoesOnBy, HasAnswer, IsUnanswered, OthersStay, StepsAlone, next_job}
pub use Rattle.md_core.specs.Bounds.{most_over, most_steps}
pub use Rattle.md_core.specs.Sparing.{AreApart, CleanersSpare}
pub use Rattle.md_core.specs.Settling.{first_unanswered, settled}
pub use Rattle.md_core.specs.Joining.{AddsName, HasJobsFromOne, HasJobsTo, UsesAgain, job_after, joined, numbered_after}
pub use Rattle.md_used.specs.declared.used.Used.{Used}
pub use Rattle.md_used.specs.declared.seen.Seen.{Seen}
pub use Rattle.md_dirs.specs.Calls.{Device, after_append, after_create, after_rename, after_unlink, empty_file, file_with_more, is_one_file, with_files_still_named, with_path, without_path}
pub use Rattle.md_dirs.specs.declared.paths.File.{File}
pub use Rattle.md_dirs.specs.declared.calls.DirError.{DirError}
pub use Rattle.md_dirs.specs.declared.calls.DirError.TheVariants.{Exists, Fault, NoMemory, NotFound}
pub use Rattle.md_jobs.specs.Machines.Errand.{asked_of, done_by, errand_turn, kept, new_errand}
pub use Rattle.md_jobs.specs.Machines.Purposes.{act_if, answer_by, decide, decide_flag, deed_by, first, has_trashed, info_in, info_in_parts, name_copied, place_after, searches, shown, wanted}
pub use Rattle.md_jobs.specs.Machines.Deliver.{delivery_effect, delivery_turn, most_seconds, new_delivery, piece, piece_len, target}
pub use Rattle.md_jobs.specs.Machines.Clean.{cleaning_turn, is_old, least_seconds, new_cleaning, old_names, old_rows}
pub use Rattle.md_jobs.specs.Machines.Refusals.{refused_by, refuses}
pub use Rattle.md_jobs.specs.Tasks.Errand.{Act}
pub use Rattle.md_jobs.specs.Tasks.Cleaning.{Cleaning}
pub use Rattle.md_jobs.specs.Tasks.Deed.{Deed, Link, Rename, Unlink}
pub use Rattle.md_jobs.specs.declared.purpose.Purpose.{Purpose}
pub use Rattle.md_jobs.specs.declared.refusal.Refusal.{Refusal}
