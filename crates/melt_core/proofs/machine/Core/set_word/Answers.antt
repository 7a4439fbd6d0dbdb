use Rattle.melt_core.proofs.Naming.{word_replaced}
use Rattle.melt_core.proofs.machine.Core.set_word.Goals as goal

pub returns : goal.returns
returns c = word_replaced c.args.self.now c.set_word.new.self c.args.at c.args.word c.set_word.ensures
