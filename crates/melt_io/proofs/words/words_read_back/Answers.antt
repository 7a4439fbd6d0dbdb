use Rattle.melt_io.proofs.WordBytes.{words_in_bytes-bytes}
use Rattle.melt_io.proofs.words.words_read_back.Goals as goal

pub returns : goal.returns
returns c = words_in_bytes-bytes
