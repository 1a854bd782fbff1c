use Rattle.md_core.proofs.Theorem.Staying.{keeps-places}
use Rattle.md_core.proofs.laws.legal_histories_keep_messages_out_of_new.Goals as goal

pub returns : goal.returns
returns c = λ folders opening history legal. keeps-places folders opening history legal
