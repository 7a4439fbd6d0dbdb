-- The moments of a run stay those of it inside an epoch, and stale bits are tied to them again when it ends.
use Rattle.std.proofs.Common.{◌≡◌, List, [], ◌++◌, true, sym, ◌∙◌, ap, subst, append_assoc}
use Rattle.std.proofs.lemmas.List.{append-nil}
use Rattle.std.specs.Prelude.{Bool}
use Rattle.melt_model.specs.declared.config.Config.{Config}
use Rattle.melt_model.specs.declared.history.Entry.{Entry}
use Rattle.melt_model.specs.declared.reports.Journal.{Journal}
use Rattle.melt_trace.specs.Script.{Script}
use Rattle.melt_scion.specs.Heaps.{OnDisk}
use Rattle.melt_core.specs.StaleBits.{TiedTo, sight}
use Rattle.melt_core.specs.Views.{IsQuiet, Standing, View}
use Rattle.melt_safepoint.specs.Endings.{HaveMoments, TiedMoments}
use Rattle.melt_safepoint.specs.declared.thread.ThreadState.{ThreadState}
use Rattle.melt_safepoint.proofs.Staying.{keeps_on, one_address}
use Rattle.melt_step.specs.Going.{MomentsSince}
use Rattle.melt_step.proofs.Tied.{bits_told}

-- as an epoch begins, with an event or none
pub since_begun : (told : Bool) {script : Script} {disk : OnDisk} {v : View} {log : List Entry}
    {states after : List ThreadState} {config : Config} {journal : List Journal} → told ≡ true → Standing told disk v
    → (tied : TiedMoments script (sight v) states config journal) → (more : List Entry) × (log ≡ v.log ++ more)
    → HaveMoments script log after config journal tied.moments → MomentsSince v script log after config journal
since_begun told {disk = disk} {v = v} is stands tied more have = record {
  moments = tied.moments;
  have = have;
  past = λ i m at. (tied.have.past i m at).entries;
  bits = tied.bits;
  more = more.0;
  grown = more.1;
  disk = disk;
  stood = subst (λ (b : Bool). Standing b disk v) is stands;
}

-- with none
pub since_first : (told : Bool) {script : Script} {disk : OnDisk} {v : View} {states : List ThreadState}
    {config : Config} {journal : List Journal} → told ≡ true → Standing told disk v
    → TiedMoments script (sight v) states config journal → MomentsSince v script v.log states config journal
since_first told {v = v} is stands tied = since_begun told is stands tied ([], sym (append-nil v.log)) tied.have

-- with an event more
pub since_more : {begun : View} {script : Script} {log later : List Entry} {states after : List ThreadState}
    {config : Config} {journal : List Journal} (since : MomentsSince begun script log states config journal)
    → (more : List Entry) × (later ≡ log ++ more) → HaveMoments script later after config journal since.moments
    → MomentsSince begun script later after config journal
since_more {begun} since more have = record {
  moments = since.moments;
  have = have;
  past = since.past;
  bits = since.bits;
  more = since.more ++ more.0;
  grown = more.1 ∙ (ap (λ (h : List Entry). h ++ more.0) since.grown ∙ append_assoc begun.log since.more more.0);
  disk = since.disk;
  stood = since.stood;
}

-- where only threads are told otherwise
pub since_by : {begun : View} {script : Script} {log : List Entry} {states : List ThreadState}
    (after : List ThreadState) {config : Config} {journal : List Journal}
    (since : MomentsSince begun script log states config journal)
    → HaveMoments script log after config journal since.moments → MomentsSince begun script log after config journal
since_by after {config} {journal} since have = record {
  moments = since.moments;
  have = have;
  past = since.past;
  bits = since.bits;
  more = since.more;
  grown = since.grown;
  disk = since.disk;
  stood = since.stood;
}

-- and as it ends
pub since_over : (told : Bool) {script : Script} {disk : OnDisk} {begun v : View} {states : List ThreadState}
    {config : Config} {journal : List Journal} → told ≡ true → Standing told disk v → IsQuiet v → TiedTo begun v
    → MomentsSince begun script v.log states config journal → TiedMoments script (sight v) states config journal
since_over told {script} {disk} {begun} {v} is stands quiet tied since = record {
  moments = since.moments;
  have = since.have;
  bits = keeps_on script since.moments (sight begun) (sight v) since.more since.grown since.past
      (one_address (subst (λ (b : Bool). Standing b disk v) is stands)) (bits_told begun v since.stood quiet tied)
      since.bits;
}
