use Rattle.md_dirs.proofs.Lawful.{put-is}
use Rattle.md_dirs.proofs.laws.an_image_file_is_created_and_appended.Goals as goal

pub returns : goal.returns
returns c = put-is
