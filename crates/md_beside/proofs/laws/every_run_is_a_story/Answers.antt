use Rattle.md_beside.proofs.RunStories.{is-story}
use Rattle.md_beside.proofs.laws.every_run_is_a_story.Goals as goal

pub returns : goal.returns
returns c = λ r actor run names. is-story r actor run names
