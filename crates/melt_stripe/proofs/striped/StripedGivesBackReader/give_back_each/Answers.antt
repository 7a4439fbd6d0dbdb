use Rattle.std.proofs.Common.{◌≡◌, ◌+◌, ◌-◌, ◌^◌, ◌<◌, ◌≤◌, ◌∙◌, length, map, min, get_or, [], ◌∷◌}
use Rattle.std.proofs.Common.{ap, sym, inl, inr, arith, length-append}
use Rattle.std.proofs.lemmas.Bool.{cases_lt}
use Rattle.std.proofs.lemmas.List.{length-map, length-set}
use Rattle.melt_stripe.proofs.Counting.{at_fault_on, both_kept, counted_back, kept_on, none_lost_on, rose_kept}
use Rattle.melt_stripe.proofs.Counting.{rose_taken}
use Rattle.melt_stripe.proofs.Disks.{same_shown}
use Rattle.melt_stripe.proofs.Lending.{front_on, last_is}
use Rattle.melt_stripe.proofs.striped.StripedGivesBackReader.give_back_each.Goals as goal

pub loop-reader-preserved : goal.loop-reader-preserved
loop-reader-preserved g c =
    let faults = g.D.Reader.RecordReader.faults in
    let count = g.D.StaleDisk.read_faults in
    let disks = c.loop-reader.self-inside.disks.now in
    let d = c.min.result in
    let past = c.index-self-min.result in
    let new = c.give_back.new.self in
    let front = c.pop.new.self.items in
    let first = c.loop-reader.readers.items in
    let all = c.args.readers.items in
    let last = c.in-Some.reader in
    let split = c.in-Some.ensures.items in
    let size : length front ≡ c.len.result = omega (arith, c.pop.new.self.ok.0, c.len.ensures) in
    let sizes : length first ≡ length front + 1 = ap length split ∙ length-append front (last ∷ []) in
    let below : d < length disks =
    omega (arith, c.min.ensures, c.loop-reader.invariant.size, c.self.invariant.0) in
    let given = c.give_back.ensures.read_faults in
    let kept : min (count (get_or disks d past)) (2 ^ 64 - 1) ≤ count new = omega (arith, given) in
    let lost = kept_on count (map count c.self.inside.disks.now) disks d past new below kept
    c.loop-reader.invariant.kept in
    let within : d < length (map count c.self.inside.disks.now) =
    omega (arith, length-map c.self.inside.disks.now count, c.min.ensures, c.self.invariant.0) in
    record {
      same_disks = c.loop-reader.invariant.same_disks;
      writes = c.loop-reader.invariant.writes;
      lends = c.loop-reader.invariant.lends;
      failed = c.loop-reader.invariant.failed;
      size = length-set disks d new ∙ c.loop-reader.invariant.size;
      image = same_shown g.D.StaleDisk.image disks d past new below c.give_back.ensures.image
          ∙ c.loop-reader.invariant.image;
      count = same_shown g.D.StaleDisk.faults disks d past new below c.give_back.ensures.count
          ∙ c.loop-reader.invariant.count;
      read_faults = counted_back count faults disks d past new front first last below given split
          ∙ c.loop-reader.invariant.read_faults;
      kept = lost;
      front = front_on front first all last split c.loop-reader.invariant.front;
      taken_over = λ reader from some. elim (cases_lt (length front) reader) [
        | inl more ↦ rose_kept _ _ _ (min reader (length c.self.inside.disks.now - 1))
            (c.loop-reader.invariant.taken_over reader (omega (arith, sizes, more)) some)
            (none_lost_on count disks d past new below kept (min reader (length c.self.inside.disks.now - 1)))
        | inr less ↦
            let is : reader ≡ length front = omega (arith, from, less) in
            let here : 0 < faults last =
            rw (last_is faults front first all last split c.loop-reader.invariant.front) at (rw is at some) in
            let place : min reader (length c.self.inside.disks.now - 1) ≡ d =
            omega (arith, is, size, c.min.ensures) in
            rw place (rose_taken count _ disks d past new (faults last) below within c.loop-reader.invariant.kept given
            here)
      ];
    }

pub invariant_of-self : goal.invariant_of-self
invariant_of-self g c =
    let first = c.self.inside.disks.now in
    let now = c.loop-reader.self-inside.disks.now in
    let size = c.loop-reader.invariant.size in (
      omega (arith, size, c.self.invariant.0),
      omega (arith, size, c.self.invariant.1),
      rw c.loop-reader.invariant.failed
          (at_fault_on c.self.inside.failed _ _
          (length-map now (λ disk. g.D.StaleDisk.faults disk + g.D.StaleDisk.read_faults disk) ∙ size
          ∙ sym (length-map first (λ disk. g.D.StaleDisk.faults disk + g.D.StaleDisk.read_faults disk)))
          (both_kept g.D.StaleDisk.faults g.D.StaleDisk.read_faults first now c.loop-reader.invariant.count
          (λ disk some. omega (arith, c.loop-reader.invariant.kept disk))) c.self.invariant.2),
    )
