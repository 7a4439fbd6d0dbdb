use Rattle.std.proofs.Common.{rules}
use Rattle.melt_io.proofs.WordBytes.{words_in_bytes-each}
use Rattle.melt_io.proofs.words.get_words.Goals as goal

pub returns : goal.returns
returns c = words_in_bytes-each c.args.bytes.now c.read_u64_into.new.dst _ (search rules) c.read_u64_into.ensures
