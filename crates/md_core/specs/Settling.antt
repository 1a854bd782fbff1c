-- What a world is once it has settled: it begins again, with its directories and its clock as they are.
use Rattle.std.specs.Prelude.{ℕ, ◌+◌, [], Option, Some, None, option_map, position}
use Rattle.md_core.specs.Machine.{is_working}
use Rattle.md_core.specs.Runs.{Run, machine_of, dirs_of, jobs_of, failures_of, calls_made_of}

-- the first job without an answer, by its number
abbrev pub first_unanswered : Run → Option ℕ
first_unanswered r = option_map (λ at. at + 1) (position is_working (jobs_of r))

-- the run that a settled world begins with: the directories, their counts and the clock as they are now, no call and no event
abbrev pub settled : Run → Run
settled r = record {
  image = dirs_of r;
  clock = (machine_of r).clock;
  failures = failures_of r;
  calls_made = calls_made_of r;
  calls = [];
  events = [];
}
