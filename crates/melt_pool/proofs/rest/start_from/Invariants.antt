use Rattle.melt_pool.specs.Beginning.{start_of}
use Rattle.melt_pool.proofs.rest.start_from.Given as goal

abbrev pub ghost-pick : goal.ghost-pick
ghost-pick g a =
    let paused = a.from.now.0.now in
    start_of g.Q.RecordReader.image paused.told paused.heap paused.pass paused.end a.from.now.1.now
