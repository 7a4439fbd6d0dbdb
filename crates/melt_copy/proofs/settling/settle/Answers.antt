use Rattle.std.proofs.Common.{◌≡◌, ◌≢◌, ◌<◌, ◌≤◌, ◌+◌, ℕ, length, refl, sym, ◌∙◌, ap, subst, arith, rules}
use Rattle.std.proofs.lemmas.List.{take_all}
use Rattle.std.specs.Prelude.{Result, Ok, Err, OnErr, slice_index}
use Rattle.melt_io.specs.Outside.{counted}
use Rattle.melt_disk.specs.Homes.{Stale}
use Rattle.melt_scion.specs.declared.heap.Heap.{Heap}
use Rattle.melt_copy.specs.Settling.{Keeps, SettlesBelow, StillTold, StopsAtOne, RisesBy, filled}
use Rattle.melt_copy.proofs.Settled.{IsSettledSoFar, keeps_both, so_far_none, so_far_past, so_far_more, forwarding_word}
use Rattle.melt_copy.proofs.Settled.{sends_filled, counted_more, none_filled, rises_more, all_settled}
use Rattle.melt_copy.proofs.settling.settle.Goals as goal
use Rattle.melt_copy.proofs.settling.settle.Goals.{in-Some+in_ok-settle_one, in_default}

-- what holds anyway holds if the call fails
if_it_fails : {A E : Type 0} (P : Type 0) (result : Result A E) → P → OnErr result P
if_it_fails P (Ok done) p = tt
if_it_fails P (Err failed) p = p

pub loop-place-init : goal.loop-place-init
loop-place-init g c = record {
  so_far = so_far_none c.args.heap.now c.args.space.now.end (g.D.StaleDisk.image c.args.space.now.disk.now) c.requires;
  tells = λ told. told;
  writes = refl;
  count = omega arith;
  read_faults = refl;
  lends = refl;
  end = refl;
  limit = refl;
  same_disk = refl;
}

pub sent_at-requires-clause-within : goal.sent_at-requires-clause-within
sent_at-requires-clause-within g c =
    let count : c.len-place-end.result ≡ length c.args.heap.now.forward = search rules in
    let same = c.loop-place.invariant.so_far.settles.forwards in
    let below = c.loop-place-test.true in
    omega (arith, count, same, below)

pub sent_at-requires-clause-word : goal.sent_at-requires-clause-word
sent_at-requires-clause-word g c =
    let count : c.len-place-end.result ≡ length c.args.heap.now.forward = search rules in
    let so_far = c.loop-place.invariant.so_far in
    let same = so_far.settles.forwards in
    let below = c.loop-place-test.true in
    forwarding_word c.loop-place.heap c.args.space.now.end c.loop-place.place so_far.formed
    (omega (arith, count, same, below))

pub returns-in_err-settle_one-clause-keeps : goal.returns-in_err-settle_one-clause-keeps
returns-in_err-settle_one-clause-keeps g c =
    let now : Heap = c.loop-place.heap in
    let new : Heap = c.settle_one.new.heap in
    let between = g.D.StaleDisk.image c.loop-place.space.disk.now in
    let after = g.D.StaleDisk.image c.settle_one.new.space.disk.now in
    keeps_both now new c.args.space.now.end (g.D.StaleDisk.image c.args.space.now.disk.now) between after
    c.loop-place.invariant.so_far.keeps
    (subst (λ (end : ℕ). Keeps now new end between after) c.loop-place.invariant.end c.settle_one.ensures.keeps)

pub returns-in_err-settle_one-clause-stopped : goal.returns-in_err-settle_one-clause-stopped
returns-in_err-settle_one-clause-stopped g c =
    let old : Heap = c.args.heap.now in
    let now : Heap = c.loop-place.heap in
    let place : ℕ = c.loop-place.place in
    let so_far = c.loop-place.invariant.so_far in
    let count : c.len-place-end.result ≡ length old.forward = search rules in
    let below = c.loop-place-test.true in
    let here : slice_index now.forward place ≢ 0 =
    sends_filled (slice_index now.forward place) c.in-Some.home c.in-Some.address c.in-Some.ensures in
    let writes = g.D.StaleDisk.writes c.args.space.now.disk.now in
    let stops : StopsAtOne old c.settle_one.new.heap writes (g.D.StaleDisk.writes c.settle_one.new.space.disk.now) =
    record {
      place = place;
      within = omega (arith, count, below);
      is_filled = λ none. here (so_far.settles.rest place (omega arith) ∙ none);
      settles = subst (λ (h : Heap). SettlesBelow old h place) (sym c.in_err-settle_one.ensures.stays) so_far.settles;
      writes = counted_more c.loop-place.settled writes (g.D.StaleDisk.writes c.loop-place.space.disk.now) _
          c.loop-place.invariant.writes c.settle_one.ensures.one_write
          ∙ ap (λ (n : ℕ). counted writes (n + 1)) so_far.counts;
    } in
    if_it_fails _ c.from_residual.result stops

pub loop-place-preserved : goal.loop-place-preserved
loop-place-preserved g c =
    let old : Heap = c.args.heap.now in
    let now : Heap = c.loop-place.heap in
    let end : ℕ = c.args.space.now.end in
    let place : ℕ = c.loop-place.place in
    let before = g.D.StaleDisk.image c.args.space.now.disk.now in
    let between = g.D.StaleDisk.image c.loop-place.space.disk.now in
    let inv = c.loop-place.invariant in
    let so_far = inv.so_far in
    let then : Stale g.row.D.Denot = c.match-sent_at.space in
    let Space : Type 0 = Stale g.row.D.Denot in
    let writes = g.D.StaleDisk.writes c.args.space.now.disk.now in
    let count : c.len-place-end.result ≡ length old.forward = search rules in
    let same = so_far.settles.forwards in
    let below = c.loop-place-test.true in
    let within : place < length now.forward = omega (arith, count, same, below) in
    elim c.match-sent_at.branch [
      | in-Some+in_ok-settle_one w ↦
          let after = g.D.StaleDisk.image w.settle_one.new.space.disk.now in
          let more : IsSettledSoFar old w.settle_one.new.heap end before after (place + 1) (c.loop-place.settled + 1) =
          so_far_more old now end before between place c.loop-place.settled so_far within w.settle_one.new.heap
          w.in-Some.home w.in-Some.address after w.in-Some.ensures w.in_ok-settle_one.ensures.settles
          (subst (λ (e : ℕ). Keeps now w.settle_one.new.heap e between after) c.loop-place.invariant.end
          w.settle_one.ensures.keeps) in
          let rises = rises_more c.loop-place.settled writes (g.D.StaleDisk.writes c.loop-place.space.disk.now)
          (g.D.StaleDisk.writes w.settle_one.new.space.disk.now) inv.writes w.settle_one.ensures.one_write in
          record {
            so_far = subst (λ (h : Heap). IsSettledSoFar old h end before (g.D.StaleDisk.image then.disk.now)
                (place + 1) c.match-sent_at.settled) (sym w.heap-is)
                (subst (λ (s : Space). IsSettledSoFar old w.settle_one.new.heap end before
                (g.D.StaleDisk.image s.disk.now) (place + 1) c.match-sent_at.settled) (sym w.space-is)
                (subst (λ (n : ℕ). IsSettledSoFar old w.settle_one.new.heap end before after (place + 1) n)
                (sym w.settled-is) more));
            tells = subst (λ (s : Space). StillTold before (g.D.StaleDisk.image s.disk.now)) (sym w.space-is)
                (λ told. w.settle_one.ensures.tells (inv.tells told));
            writes = subst (λ (s : Space). RisesBy c.match-sent_at.settled writes (g.D.StaleDisk.writes s.disk.now))
                (sym w.space-is)
                (subst (λ (n : ℕ). RisesBy n writes (g.D.StaleDisk.writes w.settle_one.new.space.disk.now))
                (sym w.settled-is) rises);
            count = subst (λ (s : Space). g.D.StaleDisk.faults c.args.space.now.disk.now
                ≤ g.D.StaleDisk.faults s.disk.now) (sym w.space-is)
                (omega (arith, inv.count, w.settle_one.ensures.count));
            read_faults = ap (λ (s : Space). g.D.StaleDisk.read_faults s.disk.now) w.space-is
                ∙ (w.settle_one.ensures.read_faults ∙ inv.read_faults);
            lends = ap (λ (s : Space). g.D.StaleDisk.lends s.disk.now) w.space-is
                ∙ (w.settle_one.ensures.lends ∙ inv.lends);
            end = ap (λ (s : Space). s.end) w.space-is ∙ (w.settle_one.ensures.end ∙ inv.end);
            limit = ap (λ (s : Space). s.limit) w.space-is ∙ (w.settle_one.ensures.limit ∙ inv.limit);
            same_disk = ap (λ (s : Space). s.disk.ghost_name) w.space-is
                ∙ (w.settle_one.ensures.same_disk ∙ inv.same_disk);
          }
      | in_default w ↦
          let past : IsSettledSoFar old now end before between (place + 1) c.loop-place.settled =
          so_far_past old now end before between place c.loop-place.settled so_far within w.in_default.ensures in
          record {
            so_far = subst (λ (h : Heap). IsSettledSoFar old h end before (g.D.StaleDisk.image then.disk.now)
                (place + 1) c.match-sent_at.settled) (sym w.heap-is)
                (subst (λ (s : Space). IsSettledSoFar old now end before (g.D.StaleDisk.image s.disk.now) (place + 1)
                c.match-sent_at.settled) (sym w.space-is)
                (subst (λ (n : ℕ). IsSettledSoFar old now end before between (place + 1) n) (sym w.settled-is) past));
            tells = subst (λ (s : Space). StillTold before (g.D.StaleDisk.image s.disk.now)) (sym w.space-is)
                inv.tells;
            writes = subst (λ (s : Space). RisesBy c.match-sent_at.settled writes (g.D.StaleDisk.writes s.disk.now))
                (sym w.space-is)
                (subst (λ (n : ℕ). RisesBy n writes (g.D.StaleDisk.writes c.loop-place.space.disk.now))
                (sym w.settled-is) inv.writes);
            count = subst (λ (s : Space). g.D.StaleDisk.faults c.args.space.now.disk.now
                ≤ g.D.StaleDisk.faults s.disk.now) (sym w.space-is) inv.count;
            read_faults = ap (λ (s : Space). g.D.StaleDisk.read_faults s.disk.now) w.space-is ∙ inv.read_faults;
            lends = ap (λ (s : Space). g.D.StaleDisk.lends s.disk.now) w.space-is ∙ inv.lends;
            end = ap (λ (s : Space). s.end) w.space-is ∙ inv.end;
            limit = ap (λ (s : Space). s.limit) w.space-is ∙ inv.limit;
            same_disk = ap (λ (s : Space). s.disk.ghost_name) w.space-is ∙ inv.same_disk;
          }
    ]

pub returns-clause-all : goal.returns-clause-all
returns-clause-all g c =
    let count : c.len-place-end.result ≡ length c.args.heap.now.forward = search rules in
    let at : c.loop-place.place ≡ length c.args.heap.now.forward = omega (arith, count) in
    subst (SettlesBelow c.args.heap.now c.loop-place.heap) at c.loop-place.invariant.so_far.settles

pub returns-clause-settled : goal.returns-clause-settled
returns-clause-settled g c = all_settled c.args.heap.now c.loop-place.heap (returns-clause-all g c)

pub returns-clause-counts : goal.returns-clause-counts
returns-clause-counts g c =
    let old : Heap = c.args.heap.now in
    let count : c.len-place-end.result ≡ length old.forward = search rules in
    let so_far = c.loop-place.invariant.so_far in
    so_far.counts ∙ ap filled (take_all c.loop-place.place old.forward (omega (arith, count)))

pub returns-then-is_settled-clause-counts : goal.returns-then-is_settled-clause-counts
returns-then-is_settled-clause-counts g c =
    sym (none_filled c.args.heap.now.forward (c.is_settled.ensures.0 c.if-is_settled.true))
