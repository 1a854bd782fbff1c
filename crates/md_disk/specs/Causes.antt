-- What a job is told of a call that was not done.
use Rattle.std.specs.declared.io.ErrorKind.{ErrorKind}
use Rattle.std.specs.declared.io.ErrorKind.TheVariants as kind
use Rattle.md_disk.specs.declared.cause.Cause.{Cause}
use Rattle.md_disk.specs.declared.cause.Cause.TheVariants.{System, NameTaken, NoDirectory, NoMessage}
use Rattle.md_jobs.specs.declared.step.DirReply.{DirReply}
use Rattle.md_jobs.specs.declared.step.DirReply.TheVariants as reply

-- EEXIST and ENOENT have replies of their own
abbrev pub reply_of_kind : ErrorKind → DirReply
reply_of_kind kind.AlreadyExists = reply.Exists
reply_of_kind kind.NotFound = reply.NotFound
reply_of_kind _ = reply.Fault

-- a cause that means the same as EEXIST or ENOENT has its reply
abbrev pub reply_by : Cause → DirReply
reply_by (System error) = reply_of_kind error
reply_by NameTaken = reply.Exists
reply_by NoDirectory = reply.NotFound
reply_by NoMessage = reply.NotFound
reply_by _ = reply.Fault
