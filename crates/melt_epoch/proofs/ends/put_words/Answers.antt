use Rattle.melt_epoch.proofs.Laid.{put_more}
use Rattle.melt_epoch.proofs.ends.put_words.Goals as goal

pub loop-k-preserved : goal.loop-k-preserved
loop-k-preserved c =
    put_more c.args.ended.now c.args.from c.loop-k.k c.set_word.ensures c.word.ensures c.loop-k.invariant
