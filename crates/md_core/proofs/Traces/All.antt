-- The interleaving theorem: all its clauses, of the trace of every run.
use Rattle.md_core.proofs.Values.{Run, IsRun, Interleaves, trace_of}
use Rattle.md_core.proofs.Traces.Plain.{legal, names, none_overwritten, sound, one_path, whole, bounded, ends}
use Rattle.md_core.proofs.Traces.Headline.{acts, own, placed, quiet}
use Rattle.md_core.proofs.Answers.AllSay.{says}
use Rattle.md_core.proofs.Traces.Files.{others}
use Rattle.md_core.proofs.Traces.Old.{in_tmp}

pub interleaves : (r : Run) → IsRun r → Interleaves (trace_of r)
interleaves r run = record {
  acts = acts r run;
  own = own r run;
  placed = λ k x c at of. placed r run k x at c of;
  quiet = λ k x at none. quiet r run k x at none;
  legal = legal r run;
  names = names r run;
  none_overwritten = none_overwritten r run;
  sound = sound r run;
  one_path = one_path r run;
  whole = whole r run;
  others = λ k p not_tmp not_message. others r run p not_tmp not_message k;
  in_tmp = λ k x p at tmp. in_tmp r run k x at p tmp;
  says = λ job c a of answers. says r run job c a of answers;
  bounded = bounded r run;
  ends = ends r run;
}
