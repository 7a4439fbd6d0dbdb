use Rattle.melt_core.proofs.Sharing.{shared_laws}
use Rattle.melt_core.proofs.laws.shared_words.Goals as goal

pub returns : goal.returns
returns c told thread h maps base old new = shared_laws base old new
