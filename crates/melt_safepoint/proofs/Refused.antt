-- A Move that the disk had no room for leaves the heap settled: all stands as before, and the words that the new homes
-- need are told.
use Rattle.std.proofs.Common.{◌≡◌, ℕ, ◌+◌, ◌<◌, ◌≤◌, List, length, refl, sym, ◌∙◌, ap, subst, arith, Bool, true}
use Rattle.std.proofs.lemmas.List.Sums.{count_by-le-length}
use Rattle.std.specs.Prelude.{Option, None, Some, IsSome, slice_index}
use Rattle.melt_model.specs.declared.reports.Phase.{Phase}
use Rattle.melt_model.specs.declared.reports.Phase.TheVariants.{Inactive, Mark, Move}
use Rattle.melt_space.specs.Space.{SpaceWords}
use Rattle.melt_disk.specs.Homes.{Stale}
use Rattle.melt_disk.specs.declared.space.DiskFull as disk_full
use Rattle.melt_scion.specs.State.{State}
use Rattle.melt_scion.specs.Placed.{Formed, Tells}
use Rattle.melt_scion.specs.Collected.{CountsWords}
use Rattle.melt_scion.specs.Heaps.{OnDisk, Shows, KeepsNames, KeepsScions, KeepsTables, state_of}
use Rattle.melt_scion.specs.declared.heap.Names as name_table
use Rattle.melt_scion.specs.declared.heap.Heap.{Heap}
use Rattle.melt_scion.specs.declared.registers.Registers.{Registers}
use Rattle.melt_copy.specs.Settling.{filled, RisesBy, with_image, StillTold}
use Rattle.melt_move.specs.Collecting.{IsAsBefore, IsRefused, LacksDisk, SameNames}
use Rattle.melt_move.specs.Planned.{IsRefusedSettled, Settles}
use Rattle.melt_move.specs.Plans.{WantsHome}
use Rattle.melt_move.specs.declared.collect.MoveRefusal.TheVariants.{DiskFull}
use Rattle.melt_move.proofs.AsBefore.{state_same, maps_same}
use Rattle.melt_core.specs.Views.{maps_of, values_of, Bounded}
use Rattle.melt_safepoint.specs.Collections.{FullOver, ShowsHeap}
use Rattle.melt_safepoint.specs.Resting.{Beside, IsFullHeap, NamesHeap, rest_view}
use Rattle.melt_safepoint.specs.Shown.{Shown, shown_by}
use Rattle.melt_safepoint.specs.Writes.{SettledAtMost}
use Rattle.melt_safepoint.proofs.Collecting.{InUseOf, RestsOver, StandsFor, rests_for, values_for}
use Rattle.melt_safepoint.proofs.Gathering.{SeenDisk, renewed_by, seen_disk}
use Rattle.melt_safepoint.proofs.PlannedRest.{SettledOver, keeps_made, keeps_then, settled_on}

-- only a Move asks the disk for room
refused_move : {Disk : Type 0} {image : Disk → Option (List ℕ)} {writes : Disk → ℕ} {phase : Phase} {heap : Heap}
    {held registers : List Registers} {before after : Stale Disk} {back : Heap} {full : disk_full.DiskFull}
    → (settled : IsRefusedSettled image writes phase heap held registers before after (DiskFull back full))
    → (phase ≡ Move) × IsRefused settled.mid held registers settled.between after (DiskFull back full)
refused_move {phase = Inactive} settled = let no = settled.refused.no_memory in absurd (cc)
refused_move {phase = Mark} settled = let no = settled.refused.no_memory in absurd (cc)
refused_move {phase = Move} settled = (refl, settled.refused)

-- the same names are for as many addresses
keeps_same : (old new : Option name_table.Names) → SameNames old new → KeepsNames old new
keeps_same None None same = tt
keeps_same (Some old) (Some new) same = ap length same.0
keeps_same None (Some new) same = absurd same
keeps_same (Some old) None same = absurd same

module _ (told : Bool) (later : OnDisk) (heap mid back : Heap) (b : Beside) (same : IsAsBefore mid back)
    (is : StandsFor told later heap mid b b.names b.held) where
  abbrev s : State
  s = state_of mid b.held later

  abbrev t : State
  t = state_of back b.held later

  states : t ≡ s
  states = state_same mid back same b.held later

  back_size : length back.space.list ≡ length mid.space.list
  back_size = ap (λ (space : SpaceWords). length space.list) same.space

  -- the heap that is handed back has the same names
  back_names : NamesHeap back b.names
  back_names = record {
    named = is.names_are.named;
    room = is.names_are.room ∙ sym back_size;
    has = maps_same mid back same (maps_of b.names) is.names_are.has;
    made = keeps_made (length mid.space.list) (length back.space.list) mid.names back.names back_size
        (keeps_same mid.names back.names same.names) is.names_are.made;
  }

  -- and as much in use
  back_used : told ≡ true → InUseOf back b
  back_used tells =
      let counts : InUseOf mid b = is.counts tells in
      let used : back.space.used ≡ mid.space.used = ap (λ (space : SpaceWords). space.used) same.space in
      record {
        in_use = counts.in_use;
        adds_up = counts.adds_up;
        below = let below = counts.below in omega (arith, below, used);
        within = let within = counts.within in omega (arith, within, back_size);
      }

  -- and the same tables
  back_tables : KeepsTables heap back
  back_tables = record {
    scions = subst (KeepsScions heap.scions) (sym same.scions) is.tables.scions;
    forwards = ap length same.forward ∙ is.tables.forwards;
    names = keeps_then heap.names mid.names back.names is.tables.names
        (keeps_same mid.names back.names same.names);
  }

  -- claims ended where they ended
  back_bounded : Bounded (rest_view mid b) → Bounded (rest_view back b)
  back_bounded = subst (λ (space : SpaceWords).
      Bounded (record (rest_view back b) { space = space; free = space.used + 1 })) (sym same.space)

  -- so it stands for what the settled one stands for
  pub back_stands : StandsFor told later heap back b b.names b.held
  back_stands = record {
    formed = subst (Formed (maps_of b.names)) (sym states) is.formed;
    tells = λ tells. subst (Tells b.log (maps_of b.names)) (sym states) (is.tells tells);
    holds = is.holds;
    tables = back_tables;
    names_are = back_names;
    settled = subst (λ (forward : List ℕ). (p : ℕ) → slice_index forward p ≡ 0) (sym same.forward) is.settled;
    size = back_size ∙ is.size;
    globals = ap length same.globals ∙ is.globals;
    bounded = back_bounded is.bounded;
    counts = back_used;
  }

-- what shows a heap with its names
shows_rest : (heap : Heap) (b : Beside) → NamesHeap heap b.names → ShowsHeap heap (rest_view heap b)
shows_rest heap b names = record {
  space = refl;
  scions = refl;
  globals = refl;
  forward = refl;
  free = refl;
  has_maps = names.has;
}

module _ (told : Bool) (disk : OnDisk) (heap mid back : Heap) (b : Beside) (image between : Option (List ℕ))
    (rests : RestsOver told disk heap b) (shows : Shows image disk.image)
    (settles : Settles heap mid disk.end image between) (same : IsAsBefore mid back) where
  abbrev settled : SettledOver told disk between heap mid b
  settled = settled_on told disk heap mid b image between rests shows settles

  abbrev over : OnDisk
  over = with_image disk settled.kept.image

  stands_back : StandsFor told over heap back b b.names b.held
  stands_back = back_stands told over heap mid back b same settled.is

  -- it is at rest over the disk, as it is seen then
  rests_back : RestsOver told over back b
  rests_back = rests_for told disk over heap back b b.names b.held rests stands_back refl

  values_back : (t : ℕ) → values_of (rest_view back b) t ≡ values_of (rest_view heap b) t
  values_back t = values_for told disk over heap back b b.names b.held rests stands_back (λ u. refl) t

  -- the words of the new homes, over that disk
  needs_back : (limit : ℕ) (full : disk_full.DiskFull) → LacksDisk mid b.held disk.end limit full
      → CountsWords (state_of back b.held over) (WantsHome (state_of back b.held over)) full.need
  needs_back limit full lacks =
      let needs : CountsWords (state_of mid b.held over) (WantsHome (state_of mid b.held over)) full.need =
      lacks.needs (maps_of b.names) over refl settled.is.formed in
      subst (λ (x : State). CountsWords x (WantsHome x) full.need) (sym (state_same mid back same b.held over)) needs

  -- and so all stands as before
  pub full_over : (later : Shown) (limit : ℕ) (full : disk_full.DiskFull) → disk.end ≡ later.end
      → later.image ≡ between → (told ≡ true → IsSome later.image) → LacksDisk mid b.held disk.end limit full
      → FullOver told later (rest_view heap b) (rest_view back b) back full.need
  full_over later limit full ends shown some lacks = record {
    disk = over;
    under = record {
      ends = ends;
      tells = λ tells.
          (some tells, subst (λ (words : Option (List ℕ)). Shows words over.image) (sym shown) settled.kept.shows);
    };
    renewed = renewed_by heap b b.names b.held rests_back stands_back.size stands_back.globals
        stands_back.tables.forwards refl values_back;
    shows = shows_rest back b stands_back.names_are;
    needs = needs_back limit full lacks;
  }

-- Where a planned collection was refused for want of room on the disk, it was a Move, and over each disk that is seen
-- as it was all stands as before.
pub is_full : {Disk : Type 0} {phase : Phase} {image : Disk → Option (List ℕ)} {writes : Disk → ℕ} {heap : Heap}
    {held registers : List Registers} {before after : Stale Disk} {back : Heap} {full : disk_full.DiskFull}
    → IsRefusedSettled image writes phase heap held registers before after (DiskFull back full)
    → after.limit ≡ before.limit → StillTold (image before.disk.now) (image after.disk.now)
    → IsFullHeap phase (shown_by image before) (shown_by image after) heap back held full
is_full {phase} {image} {writes} {heap} {held} {registers} {before} {after} {back} {full} refused limit still b left
    was names may there history =
    let settled : IsRefusedSettled image writes phase heap b.held registers before after (DiskFull back full) =
    subst (λ (lent : List Registers).
    IsRefusedSettled image writes phase heap lent registers before after (DiskFull back full)) (sym was) refused in
    let found = refused_move settled in
    let same : IsAsBefore settled.mid back = found.1.0 in
    let lacks : LacksDisk settled.mid b.held settled.between.end settled.between.limit full = found.1.4 in
    let stays : settled.between.end ≡ before.end = settled.end_stays in
    let bound : settled.between.limit ≡ before.limit = settled.limit_stays in
    let above : settled.between.limit < settled.between.end + full.need = lacks.above in
    record {
      of_phase = found.0;
      end_is = lacks.end_is ∙ stays;
      limit_is = lacks.limit_is ∙ bound;
      above = omega (arith, above, stays, bound);
      end_stays = found.1.2 ∙ stays;
      limit_stays = limit;
      heap = back;
      there = there;
      w = rest_view back b;
      log = history;
      each = λ told disk under stands.
          let seen : SeenDisk told before.end (image before.disk.now) disk.free_homes (rest_view heap b) =
          seen_disk told before.end (image before.disk.now) disk (rest_view heap b) under stands in
          let rests : RestsOver told seen.disk heap b =
          record { stands = seen.stands; quiet = may.quiet; names = names } in
          full_over told seen.disk heap settled.mid back b (image before.disk.now) (image settled.between.disk.now)
          rests seen.shows
          (subst (λ (n : ℕ). Settles heap settled.mid n (image before.disk.now) (image settled.between.disk.now))
          (sym seen.ends) settled.settles) same (shown_by image after) settled.between.limit full
          (seen.ends ∙ sym (found.1.2 ∙ stays)) (ap image found.1.3) (λ tells. still (under.tells tells).0)
          (subst (λ (n : ℕ). LacksDisk settled.mid b.held n settled.between.limit full) (stays ∙ sym seen.ends) lacks);
    }

-- no more forwarding words are filled than there are
filled_few : (words : List ℕ) → filled words ≤ length words
filled_few words = count_by-le-length _ words

-- What was settled before was written by one write each.
pub full_wrote : {Disk : Type 0} {phase : Phase} {image : Disk → Option (List ℕ)} {writes : Disk → ℕ} {heap : Heap}
    {held registers : List Registers} {before after : Stale Disk} {back : Heap} {full : disk_full.DiskFull}
    → IsRefusedSettled image writes phase heap held registers before after (DiskFull back full)
    → SettledAtMost (length back.forward) (writes before.disk.now) (writes after.disk.now)
full_wrote {phase} {image} {writes} {heap} {held} {registers} {before} {after} {back} {full} settled =
    let found = refused_move settled in
    let same : IsAsBefore settled.mid back = found.1.0 in
    let size : length back.forward ≡ length heap.forward = ap length same.forward ∙ settled.settles.all.forwards in
    record {
      settled = filled heap.forward;
      few = omega (arith, size, filled_few heap.forward);
      rises = subst (λ (n : ℕ). RisesBy (filled heap.forward) (writes before.disk.now) n)
          (sym (ap writes found.1.3)) settled.rises;
    }
