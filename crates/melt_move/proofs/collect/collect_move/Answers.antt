use Rattle.std.proofs.Common.{◌≡◌, ℕ, ◌+◌, ◌*◌, ◌≤◌, length, arith, refl, sym, ap, subst, ◌∙◌}
use Rattle.melt_scion.specs.State.{State, Reached}
use Rattle.melt_scion.specs.Placed.{Maps, Formed}
use Rattle.melt_scion.specs.Heaps.{IsFormed, OnDisk, state_of}
use Rattle.melt_disk.specs.declared.space.DiskFull.{DiskFull}
use Rattle.melt_scion.specs.Collected.{CountsWords}
use Rattle.melt_copy.specs.Moving.{words_in}
use Rattle.melt_copy.specs.Settling.{RisesBy}
use Rattle.melt_copy.specs.Visits.{EntryWords}
use Rattle.melt_copy.proofs.Reachable.{visits_at_most}
use Rattle.melt_copy.proofs.Visited.{counts_over, two_each}
use Rattle.melt_move.specs.Plans.{IsDecision, WantsHome, need_for}
use Rattle.melt_move.specs.Collecting.{IsFormedOn}
use Rattle.melt_move.proofs.AsBefore.{formed_on, formed_same, maps_same, moved_same, state_same, tables_same}
use Rattle.melt_move.proofs.Collected.{has_moved}
use Rattle.melt_move.proofs.Numbers.{leaving_few, needs_counted}
use Rattle.melt_move.specs.Visits.{leaving_words}
use Rattle.melt_move.proofs.Visited.{few_chosen, few_given, given-two, leaving-two}
use Rattle.melt_move.proofs.collect.collect_move.Given.{Over}
use Rattle.melt_move.proofs.collect.collect_move.Goals as goal
use Rattle.melt_move.proofs.collect.collect_move.Goals.{After-prepare, In-Ok}

-- all was decided, for the maps and the disk with which the heap is well formed
decided_for : (g : Over) (c : In-Ok g) → (maps : Maps) (disk : OnDisk) → disk.end ≡ c.args.disk.now.end
    → Formed maps (state_of c.args.heap c.args.held.now disk)
    → IsDecision c.prepare.new.heap.space (state_of c.prepare.new.heap c.args.held.now disk) c.in-Ok.prepared.0
decided_for g c maps disk end formed =
    c.in-Ok.ensures.decides maps disk (end ∙ (sym c.end.ensures ∙ sym c.in-Ok.ensures.first))
    (formed_same c.args.heap c.prepare.new.heap c.in-Ok.ensures.as_before maps c.args.held.now disk formed)

decided_some : (g : Over) (c : In-Ok g)
    → IsDecision c.prepare.new.heap.space (state_of c.prepare.new.heap c.args.held.now c.requires.formed.disk)
    c.in-Ok.prepared.0
decided_some g c =
    let formed = c.requires.formed in decided_for g c formed.maps formed.disk formed.end_is formed.formed

-- the words of the homes that the heap would give
need_counted : (g : Over) (c : In-Ok g) → (maps : Maps) (disk : OnDisk) → disk.end ≡ c.args.disk.now.end
    → Formed maps (state_of c.args.heap c.args.held.now disk)
    → CountsWords (state_of c.args.heap c.args.held.now disk) (WantsHome (state_of c.args.heap c.args.held.now disk))
    (need_for c.in-Ok.prepared.0.homes.given.items)
need_counted g c maps disk end formed =
    let decided = decided_for g c maps disk end formed in
    let first = decided.first in
    let some = decided.first_end in
    subst (λ (state : State). CountsWords state (WantsHome state) (need_for c.in-Ok.prepared.0.homes.given.items))
    (state_same c.args.heap c.prepare.new.heap c.in-Ok.ensures.as_before c.args.held.now disk)
    (needs_counted (state_of c.prepare.new.heap c.args.held.now disk) c.in-Ok.prepared.0 decided.homes
    (omega (arith, first, some)))

pub lacks_room-requires-clause-small : goal.lacks_room-requires-clause-small
lacks_room-requires-clause-small g c = λ κs within.
    let formed = formed_on c.args.heap c.prepare.new.heap c.in-Ok.ensures.as_before c.args.held.now _
    c.requires.formed in
    let first = c.in-Ok.ensures.first in
    let end = c.end.ensures in
    let decided = c.in-Ok.ensures.decides formed.maps formed.disk (formed.end_is
    ∙ (sym end ∙ sym first)) formed.formed in
    let counts = decided.homes.counts in
    let small = decided.homes.small in
    omega (arith, counts, small)

pub copy_out-requires-clause-formed : goal.copy_out-requires-clause-formed
copy_out-requires-clause-formed g c =
    subst (IsFormedOn c.prepare.new.heap c.args.held.now) (sym (c.in-Ok.ensures.first ∙ c.end.ensures))
    (formed_on c.args.heap c.prepare.new.heap c.in-Ok.ensures.as_before c.args.held.now _ c.requires.formed)

pub carry_out-requires-clause-formed : goal.carry_out-requires-clause-formed
carry_out-requires-clause-formed g c = λ κs within.
    formed_on c.args.heap c.prepare.new.heap c.in-Ok.ensures.as_before c.args.held.now _ c.requires.formed

pub returns-in-Some-clause-refused : goal.returns-in-Some-clause-refused
returns-in-Some-clause-refused g c =
    let full = c.in-Some.ensures.room.0 in
    let lacks = c.in-Some.ensures.room.1 in
    let need = ap (λ (f : DiskFull). f.need) full in (
      c.in-Ok.ensures.as_before,
      refl,
      refl,
      refl,
      record {
        end_is = ap (λ (f : DiskFull). f.end) full;
        limit_is = ap (λ (f : DiskFull). f.limit) full;
        above = omega (arith, lacks, need);
        needs = λ maps disk end formed.
            subst (CountsWords (state_of c.args.heap c.args.held.now disk)
            (WantsHome (state_of c.args.heap c.args.held.now disk)))
            (sym (need ∙ (decided_some g (goal.at.returns-in-Some-clause-refused g c).In-Ok).homes.counts))
            (need_counted g (goal.at.returns-in-Some-clause-refused g c).In-Ok maps disk end formed);
      },
    )

pub copy_out-requires-clause-room : goal.copy_out-requires-clause-room
copy_out-requires-clause-room g c =
    let counts = (decided_some g (goal.at.copy_out-requires-clause-room g c).In-Ok).homes.counts in
    let room = c.in_default.ensures.room in
    let limit = c.in_default.ensures.limit in
    let first = c.in-Ok.ensures.first in
    let end = c.end.ensures in
    omega (arith, counts, room, limit, first, end)

pub carry_out-requires-clause-room : goal.carry_out-requires-clause-room
carry_out-requires-clause-room g c = λ κs within.
    let at = goal.at.carry_out-requires-clause-room g c in
    let counts = (decided_some g at.In-Ok).homes.counts in
    let room = c.in_default.ensures.room in
    omega (arith, counts, room)

pub carry_out-requires-clause-small : goal.carry_out-requires-clause-small
carry_out-requires-clause-small g c = λ κs within.
    let counts = (decided_some g (goal.at.carry_out-requires-clause-small g c).In-Ok).homes.counts in
    let room = c.in_default.ensures.room in
    let limit = c.in_default.ensures.limit in
    let first = c.in-Ok.ensures.first in
    let end = c.end.ensures in
    omega (arith, counts, room, limit, first, end)

pub returns-in_default-carry_out-clause-refused : goal.returns-in_default-carry_out-clause-refused
returns-in_default-carry_out-clause-refused g c =
    let at = goal.at.returns-in_default-carry_out-clause-refused g c in (
      c.drop_held.ensures.nothing,
      record {
        need = need_for c.in-Ok.prepared.0.homes.given.items;
        fits = let counts = (decided_some g at.In-Ok).homes.counts in let room = c.in_default.ensures.room in
            omega (arith, counts, room);
        needs = need_counted g at.In-Ok;
      },
    )

pub overflow_cast-journal : goal.overflow_cast-journal
overflow_cast-journal g c =
    let decided = decided_some g (goal.at.overflow_cast-journal g c).In-Ok in
    let few = leaving_few _ c.in-Ok.prepared.0.choice.leaving.items decided.seen.whole decided.choice.leave in
    let inside = decided.seen.whole.inside in
    let small = decided.seen.whole.small in
    omega (arith, few, inside, small, c.len.ensures)

pub returns-clause-moves : goal.returns-clause-moves
returns-clause-moves g c =
    let before = c.in-Ok.ensures.as_before in
    record {
      each = λ maps disk end shows names formed.
          let decided = decided_for g (goal.at.returns-clause-moves g c).In-Ok maps disk end formed in
          let there = formed_same c.args.heap c.prepare.new.heap before maps c.args.held.now disk formed in
          let out = c.in-Ok-carry_out.ensures.carries maps disk end shows
          (maps_same c.args.heap c.prepare.new.heap before maps names) there in
          moved_same c.args.heap c.prepare.new.heap before
          (has_moved maps disk c.prepare.new.heap _ c.args.held.now c.carry_out.new.held c.in-Ok.prepared.0 _ _ decided
          there
          out _ c.used.ensures.value refl (let len = c.len.ensures in let ok = c.in-Ok.prepared.0.choice.leaving.ok.0 in
          omega (arith, len, ok)) c.in-Ok-carry_out.ensures.stubs
          (let grows = c.carry_out.ensures.grows in omega (arith, grows, end)));
      journal_is = record { of_phase = refl; live_words = c.used.ensures.value; end_is = c.end-2.ensures };
      tables = tables_same c.args.heap c.prepare.new.heap before _ c.in-Ok-carry_out.ensures.tables;
      settled = c.in-Ok-carry_out.ensures.settled;
    }

pub returns-clause-fits : goal.returns-clause-fits
returns-clause-fits g c =
    let counts = (decided_some g (goal.at.returns-clause-fits g c).In-Ok).homes.counts in
    let room = c.in_default.ensures.room in
    let grows = c.carry_out.ensures.grows in
    omega (arith, counts, room, grows)

pub returns-clause-writes : goal.returns-clause-writes
returns-clause-writes g c =
    let len = c.len.ensures in
    let ok = c.in-Ok.prepared.0.choice.leaving.ok.0 in
    let stubs : ℕ = c.in-Ok-carry_out.stubs in
    let bodies : length c.in-Ok.prepared.0.choice.leaving.items ≡ c.len.result = omega (arith, len, ok) in
    subst (λ (n : ℕ). RisesBy (n + stubs) (g.D.StaleDisk.writes c.args.disk.now.disk.now)
    (g.D.StaleDisk.writes c.carry_out.new.disk.disk.now)) bodies c.in-Ok-carry_out.ensures.writes

-- what can be reached is the same where there is room for more names
reached_still : (g : Over) (c : In-Ok g) (words : ℕ) (entry : EntryWords c.args.heap c.args.held.now words)
    → CountsWords (state_of c.prepare.new.heap c.args.held.now c.requires.formed.disk)
    (Reached (state_of c.prepare.new.heap c.args.held.now c.requires.formed.disk)) entry.objects
reached_still g c words entry =
    subst (λ (s : State). CountsWords s (Reached s) entry.objects)
    (sym (state_same c.args.heap c.prepare.new.heap c.in-Ok.ensures.as_before c.args.held.now c.requires.formed.disk))
    (counts_over c.args.heap c.args.held.now c.requires.formed.disk entry.objects entry.reached)

-- those that were chosen are among all that can be reached
chosen : (g : Over) (c : In-Ok g) (words : ℕ) (entry : EntryWords c.args.heap c.args.held.now words)
    → leaving_words c.in-Ok.prepared.0.choice.leaving.items + words_in c.in-Ok.prepared.0.choice.stay.moves.items
    ≤ entry.objects
chosen g c words entry =
    few_chosen _ _ c.in-Ok.prepared.0 (decided_some g c) entry.objects (reached_still g c words entry)

-- and so are those that get a home
given : (g : Over) (c : In-Ok g) (words : ℕ) (entry : EntryWords c.args.heap c.args.held.now words)
    → need_for c.in-Ok.prepared.0.homes.given.items ≤ entry.objects
given g c words entry =
    few_given _ _ c.in-Ok.prepared.0 (decided_some g c) entry.objects (reached_still g c words entry)

-- the visits until all is decided
prepared : (g : Over) (c : After-prepare g) (words : ℕ) (entry : EntryWords c.args.heap c.args.held.now words)
    → c.prepare.new.steps ≤ c.args.steps.now + 17 * length c.args.held.now + length c.args.heap.globals
    + 2 * length c.args.heap.scions.live + 3 * entry.objects
prepared g c words entry = c.prepare.ensures.visits entry.objects entry.reached

-- the heap and the registers are well formed, over whatever disk
formed_any : (g : Over) (c : After-prepare g) → IsFormed c.args.heap c.args.held.now
formed_any g c =
    let formed = c.requires.formed in
    record {
      maps = formed.maps;
      disk = formed.disk;
      names = formed.names;
      made = formed.made;
      formed = formed.formed;
    }

pub returns-in-Err-clause-visits : goal.returns-in-Err-clause-visits
returns-in-Err-clause-visits g c =
    let at = goal.at.returns-in-Err-clause-visits g c in
    visits_at_most 8 c.args.heap c.args.held.now c.args.steps.now c.prepare.new.steps (formed_any g at.After-prepare)
    (λ words entry.
    let until = prepared g at.After-prepare words entry in
    let is = entry.is in
    omega (arith, until, is))

pub returns-in-Some-clause-visits : goal.returns-in-Some-clause-visits
returns-in-Some-clause-visits g c =
    let at = goal.at.returns-in-Some-clause-visits g c in
    visits_at_most 8 c.args.heap c.args.held.now c.args.steps.now c.prepare.new.steps (formed_any g at.After-prepare)
    (λ words entry.
    let until = prepared g at.After-prepare words entry in
    let is = entry.is in
    omega (arith, until, is))

pub returns-in-Err-copy_out-clause-visits : goal.returns-in-Err-copy_out-clause-visits
returns-in-Err-copy_out-clause-visits g c =
    let at = goal.at.returns-in-Err-copy_out-clause-visits g c in
    visits_at_most 8 c.args.heap c.args.held.now c.args.steps.now c.copy_out.new.steps (formed_any g at.After-prepare)
    (λ words entry.
    let until = prepared g at.After-prepare words entry in
    let is = entry.is in
    let same = c.in-Ok.ensures.as_before.globals in
    omega (
      arith,
      until,
      is,
      ap length same,
      chosen g at.In-Ok words entry,
      two_each c.in-Ok.prepared.0.choice.stay.moves.items,
      c.copy_out.ensures.visits,
    ))

pub returns-in_default-carry_out-clause-visits : goal.returns-in_default-carry_out-clause-visits
returns-in_default-carry_out-clause-visits g c =
    let at = goal.at.returns-in_default-carry_out-clause-visits g c in
    visits_at_most 8 c.args.heap c.args.held.now c.args.steps.now c.drop_held.new.steps (formed_any g at.After-prepare)
    (λ words entry.
    let until = prepared g at.After-prepare words entry in
    let is = entry.is in
    let same = c.in-Ok.ensures.as_before.globals in
    omega (
      arith,
      until,
      is,
      ap length same,
      chosen g at.In-Ok words entry,
      given g at.In-Ok words entry,
      two_each c.in-Ok.prepared.0.choice.stay.moves.items,
      leaving-two c.in-Ok.prepared.0.choice.leaving.items,
      given-two c.in-Ok.prepared.0.homes.given.items,
      c.copy_out.ensures.visits,
      c.carry_out.ensures.visits,
      c.carry_out.auto.held,
      c.drop_held.ensures.visits,
    ))

pub returns-clause-visits : goal.returns-clause-visits
returns-clause-visits g c =
    let at = goal.at.returns-clause-visits g c in
    visits_at_most 8 c.args.heap c.args.held.now c.args.steps.now c.carry_out.new.steps (formed_any g at.After-prepare)
    (λ words entry.
    let until = prepared g at.After-prepare words entry in
    let is = entry.is in
    let same = c.in-Ok.ensures.as_before.globals in
    omega (
      arith,
      until,
      is,
      ap length same,
      chosen g at.In-Ok words entry,
      given g at.In-Ok words entry,
      two_each c.in-Ok.prepared.0.choice.stay.moves.items,
      leaving-two c.in-Ok.prepared.0.choice.leaving.items,
      given-two c.in-Ok.prepared.0.homes.given.items,
      c.copy_out.ensures.visits,
      c.carry_out.ensures.visits,
    ))
