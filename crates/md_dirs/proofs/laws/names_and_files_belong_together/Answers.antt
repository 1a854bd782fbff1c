use Rattle.md_dirs.specs.State.{file_at}
use Rattle.md_dirs.specs.Calls.{empty_file}
use Rattle.md_dirs.specs.State.{bare}
use Rattle.md_dirs.proofs.Sound.{sound-appended, sound-without, sound-bare}
use Rattle.md_dirs.proofs.Lawful.{make-sound, link-sound, rename-sound, with-sound}
use Rattle.md_dirs.proofs.laws.names_and_files_belong_together.Goals as goal

pub returns : goal.returns
returns c = record {
  create = λ p now. make-sound p (empty_file now);
  append = λ p more now s sound accepted. sound-appended s sound more now (file_at s p);
  link = link-sound;
  rename = rename-sound;
  unlink = λ p s sound accepted. sound-without s sound p;
  list = λ folder place s sound accepted. sound;
  image = λ folders files. with-sound (bare folders) files (sound-bare folders);
}
