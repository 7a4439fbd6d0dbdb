-- A planned collection between two epochs: what stood for the history over the disk before it stands for that over the
-- disk after it, told or not.
use Rattle.std.proofs.Common.{◌≡◌, ℕ, ◌+◌, ◌≤◌, List, [], length, inl, inr, refl, sym, ◌∙◌, ap, subst, arith, Bool}
use Rattle.std.proofs.Common.{true}
use Rattle.std.specs.Prelude.{◌/◌, All, Option, None, Some}
use Rattle.std.specs.List.{IsDistinct}
use Rattle.melt_model.specs.declared.reports.Phase.{Phase}
use Rattle.melt_model.specs.declared.reports.Phase.TheVariants.{Inactive, Mark, Move}
use Rattle.melt_model.specs.declared.reports.Journal.{Journal}
use Rattle.melt_word.specs.declared.header.Header.{Header}
use Rattle.melt_word.specs.Words.{cost_of}
use Rattle.melt_scion.specs.State.{HeaderAt, ObjectAt}
use Rattle.melt_scion.specs.Placed.{Maps, IsNamed, Formed}
use Rattle.melt_scion.specs.Heaps.{OnDisk, Shows, HasMaps, KeepsNames, KeepsTables, NamesMade, TablesMade}
use Rattle.melt_scion.specs.Heaps.{register_in, state_of}
use Rattle.melt_scion.specs.declared.heap.Names as name_table
use Rattle.melt_scion.specs.declared.heap.Heap.{Heap}
use Rattle.melt_scion.specs.declared.registers.Registers.{Registers}
use Rattle.melt_scion.specs.Moves.{Leaves}
use Rattle.melt_scion.proofs.Numbers.{contains_none}
use Rattle.melt_copy.specs.Copying.{HasCollected}
use Rattle.melt_copy.specs.Settling.{with_image, HasKept, SettlesBelow}
use Rattle.melt_move.specs.Collecting.{Counts as CountsEach, HasMoved, Moves}
use Rattle.melt_move.specs.Planned.{Settles, CopiesIn, CollectsIn, CollectsPlanned}
use Rattle.melt_core.specs.Views.{View, maps_of, values_of, Bounded, Counts}
use Rattle.melt_safepoint.specs.Resting.{Beside, LeavesHeap, NamesHeap, with_names_held, rest_view}
use Rattle.melt_safepoint.proofs.Collecting.{InUseOf, RestsOver, StandsFor, WasCollected, tables_made, formed_now}
use Rattle.melt_safepoint.proofs.Collecting.{values_now, placed_told, rests_for, values_for, collected_for}
use Rattle.melt_safepoint.proofs.Collecting.{same_maps, same_sizes}

-- what is nothing counts as none
counts_none : (Is : ℕ → Type 0) {count : ℕ} → ((a : ℕ) → Is a → ⊥) → count ≡ 0 → CountsEach Is count
unfolding IsDistinct
counts_none Is none count = record {
  members = [];
  once = tt;
  all = λ a. (λ is. absurd (none a is), λ has. absurd (contains_none a has));
  count_is = count;
}

-- names are for as many addresses as they are
same_room : (names : Option name_table.Names) → KeepsNames names names
same_room None = tt
same_room (Some names) = refl

-- settling keeps the tables
settled_tables : (heap mid : Heap) → SettlesBelow heap mid (length heap.forward) → TablesMade heap
    → KeepsTables heap mid
settled_tables heap mid all made = let more : TablesMade mid = all.tables made in record {
  scions = record {
    is_table = more.scions.is_table;
    size = more.scions.size ∙ (ap (λ (n : ℕ). n / 2) all.size ∙ sym made.scions.size);
  };
  forwards = all.forwards;
  names = subst (KeepsNames heap.names) (sym all.names) (same_room heap.names);
}

-- claims ended where they ended, where as many words are in use, of as many
settled_bounded : (heap mid : Heap) (b : Beside) → mid.space.used ≡ heap.space.used
    → length mid.space.list ≡ length heap.space.list → Bounded (rest_view heap b) → Bounded (rest_view mid b)
settled_bounded heap mid b used size (inl within) = inl (omega (arith, used, size, within))
settled_bounded heap mid b used size (inr few) = inr (omega (arith, used, size, few))

-- A settled heap, over the disk with the words that it has then, stands for what it stood for, with the same names.
pub record SettledOver (told : Bool) (disk : OnDisk) (between : Option (List ℕ)) (heap mid : Heap)
    (b : Beside) : Type 0 where
  pub kept : HasKept (maps_of b.names) disk b.held heap mid between
  pub is : StandsFor told (with_image disk kept.image) heap mid b b.names b.held

module _ (told : Bool) (disk : OnDisk) (heap mid : Heap) (b : Beside) (image between : Option (List ℕ))
    (rests : RestsOver told disk heap b) (shows : Shows image disk.image)
    (settles : Settles heap mid disk.end image between) where
  abbrev v : View
  v = rest_view heap b

  -- what was kept of a heap at rest
  abbrev kept_at : HasKept (maps_of b.names) disk b.held heap mid between
  kept_at =
      settles.keeps (maps_of b.names) disk b.held refl shows rests.names.has rests.stands.holds.formed

  abbrev later : OnDisk
  later = with_image disk kept_at.image

  -- it has the same names
  settled_names : NamesHeap mid b.names
  settled_names =
      let made : TablesMade mid = settles.all.tables (tables_made told disk heap b rests) in
      record {
        named = rests.names.named;
        room = rests.names.room ∙ sym settles.all.size;
        has = kept_at.names;
        made = made.names;
      }

  -- the settled words are well formed
  settled_formed : Formed (maps_of b.names) (state_of mid b.held later)
  settled_formed = record {
    words = kept_at.formed;
    registers = λ t r. kept_at.holds (register_in b.held t r) (rests.stands.registers t r);
  }

  -- as much is in use as before
  settled_used : told ≡ true → InUseOf mid b
  settled_used tells =
      let counts : Counts v = rests.stands.counts tells in
      let used : mid.space.used ≡ heap.space.used = settles.all.used in
      let size : length mid.space.list ≡ length heap.space.list = settles.all.size in
      record {
        in_use = counts.in_use;
        adds_up = counts.adds_up;
        below = let below = counts.below in omega (arith, below, used);
        within = let within = counts.within in omega (arith, within, size);
      }

  -- so a settled heap stands for what it stood for
  pub settled_on : SettledOver told disk between heap mid b
  settled_on = record {
    kept = kept_at;
    is = record {
      formed = settled_formed;
      tells = λ tells. kept_at.tells v.log (rests.stands.holds.tells tells);
      holds = λ t r. values_now told disk v rests.stands t r;
      tables = settled_tables heap mid settles.all (tables_made told disk heap b rests);
      names_are = settled_names;
      settled = settles.settled;
      size = settles.all.size;
      globals = ap length settles.all.globals;
      bounded = settled_bounded heap mid b settles.all.used settles.all.size rests.stands.bounded;
      counts = settled_used;
    };
  }

module _ (told : Bool) (disk : OnDisk) (mid new : Heap) (b : Beside) (registers : List Registers) (end end_after : ℕ)
    (image image_after : Option (List ℕ)) (journal : Journal) (rests : RestsOver told disk mid b)
    (ends : disk.end ≡ end) (shows : Shows image disk.image) where
  -- objects moved out of a settled heap
  was_moved : Moves mid new b.held registers end end_after image image_after journal
      → WasCollected Move (maps_of b.names) disk mid new b.held registers end_after image_after journal
  was_moved moves =
      let has : HasMoved (maps_of b.names) disk mid new b.held registers end_after image_after journal =
      moves.each (maps_of b.names) disk ends shows rests.names.has
      (formed_now told disk (rest_view mid b) rests.stands) in
      record {
        after = has.after;
        later = has.later;
        to = has.to;
        home = has.home;
        scion = has.scion;
        ends = has.end_is;
        shows = has.shows;
        names = has.names;
        collected = has.collected;
        live = has.live;
        held_words = has.held_words;
        bodies = has.bodies;
        used = moves.journal_is.live_words;
        of_phase = moves.journal_is.of_phase;
        tables = moves.tables;
        settled = moves.settled;
      }

  -- or it was copied, over the same disk
  was_copied : (phase : Phase) → ((a : ℕ) → Leaves phase (state_of mid b.held disk) a → ⊥)
      → CopiesIn phase mid new b.held registers end end_after image image_after journal
      → WasCollected phase (maps_of b.names) disk mid new b.held registers end_after image_after journal
  was_copied phase stays copies =
      let has : HasCollected (maps_of b.names) disk mid new b.held registers phase journal =
      copies.collects.each (maps_of b.names) disk rests.names.has
      (formed_now told disk (rest_view mid b) rests.stands) in
      record {
        after = has.after;
        later = disk;
        to = has.to;
        home = has.home;
        scion = has.scion;
        ends = ends ∙ sym copies.end_stays;
        shows = subst (λ (words : Option (List ℕ)). Shows words disk.image) (sym copies.image_stays) shows;
        names = has.names;
        collected = has.collected;
        live = has.live;
        held_words = has.held_words;
        bodies = counts_none (Leaves phase (state_of mid b.held disk)) stays has.journals.no_bodies;
        used = has.journals.live_words;
        of_phase = has.journals.of_phase;
        tables = copies.collects.tables;
        settled = copies.collects.settled;
      }

  -- a settled heap was collected in any phase
  was_collected : (phase : Phase)
      → CollectsIn phase mid new b.held registers end end_after image image_after journal
      → WasCollected phase (maps_of b.names) disk mid new b.held registers end_after image_after journal
  was_collected Inactive collects = was_copied Inactive (λ a leaves. leaves) collects
  was_collected Mark collects = was_copied Mark (λ a leaves. leaves) collects
  was_collected Move collects = was_moved collects

-- with other numbers of Stubs and another end in the journal
renumbered : {phase : Phase} {disk : OnDisk} {mid new : Heap} (b : Beside) {registers : List Registers} {finish : ℕ}
    {image : Option (List ℕ)} {journal : Journal} (stubs end : ℕ)
    → WasCollected phase (maps_of b.names) disk mid new b.held registers finish image journal
    → WasCollected phase (maps_of b.names) disk mid new b.held registers finish image
    (record journal { stubs = stubs; end = end })
renumbered b stubs end was = record {
  after = was.after;
  later = was.later;
  to = was.to;
  home = was.home;
  scion = was.scion;
  ends = was.ends;
  shows = was.shows;
  names = was.names;
  collected = was.collected;
  live = was.live;
  held_words = was.held_words;
  bodies = was.bodies;
  used = was.used;
  of_phase = was.of_phase;
  tables = was.tables;
  settled = was.settled;
}

-- where all is told, a collection leaves the same homes free
free_stay : {told : Bool} {phase : Phase} {disk : OnDisk} {mid new : Heap} {b : Beside} {registers : List Registers}
    {finish : ℕ} {image : Option (List ℕ)} {journal : Journal} → RestsOver told disk mid b
    → (was : WasCollected phase (maps_of b.names) disk mid new b.held registers finish image journal) → told ≡ true
    → was.later.free_homes ≡ disk.free_homes
free_stay {told} {disk} {mid} {b} rests was tells =
    (was.collected.disk b.log (placed_told told disk (rest_view mid b) rests.stands tells).tells).free_homes

-- names that are kept stay so
pub keeps_then : (old mid new : Option name_table.Names) → KeepsNames old mid → KeepsNames mid new → KeepsNames old new
keeps_then None None None keeps more = tt
keeps_then (Some old) (Some mid) (Some new) keeps more = more ∙ keeps
keeps_then None None (Some new) keeps more = absurd more
keeps_then None (Some mid) new keeps more = absurd keeps
keeps_then (Some old) None new keeps more = absurd keeps
keeps_then (Some old) (Some mid) None keeps more = absurd more

-- names that are kept were made for as many addresses
pub keeps_made : (words more : ℕ) (old new : Option name_table.Names) → more ≡ words → KeepsNames old new
    → NamesMade words old → NamesMade more new
keeps_made words more None None same keeps made = tt
keeps_made words more (Some old) (Some new) same keeps made = keeps ∙ (made ∙ sym same)
keeps_made words more None (Some new) same keeps made = absurd keeps
keeps_made words more (Some old) None same keeps made = absurd keeps

-- What a planned collection was, over a disk: the heap was settled, and that was collected.
pub record PlannedOver (told : Bool) (phase : Phase) (disk : OnDisk) (heap new : Heap) (b : Beside)
    (registers : List Registers) (finish : ℕ) (image : Option (List ℕ)) (journal : Journal) : Type 0 where
  pub mid : Heap
  pub between : OnDisk
  pub between_end : between.end ≡ disk.end
  pub between_free : between.free_homes ≡ disk.free_homes
  pub settled : StandsFor told between heap mid b b.names b.held
  pub headers : (a n : ℕ) (header : Header) → (maps_of b.names).address a ≡ Some n
      → HeaderAt (state_of heap b.held disk) a header → HeaderAt (state_of mid b.held between) a header
  pub was : WasCollected phase (maps_of b.names) between mid new b.held registers finish image journal

module _ (told : Bool) (phase : Phase) (disk : OnDisk) (heap new : Heap) (b : Beside) (registers : List Registers)
    (end end_after : ℕ) (image image_after : Option (List ℕ)) (journal : Journal) (rests : RestsOver told disk heap b)
    (ends : disk.end ≡ end) (shows : Shows image disk.image)
    (planned : CollectsPlanned phase heap new b.held registers end end_after image image_after journal) where
  abbrev mid : Heap
  mid = planned.mid

  settled : SettledOver told disk planned.between heap mid b
  settled =
      settled_on told disk heap mid b image planned.between rests shows
      (subst (λ (n : ℕ). Settles heap mid n image planned.between) (sym ends) planned.settles)

  abbrev between : OnDisk
  between = with_image disk settled.kept.image

  rests_between : RestsOver told between mid b
  rests_between = rests_for told disk between heap mid b b.names b.held rests settled.is refl

  was_planned : WasCollected phase (maps_of b.names) between mid new b.held registers end_after image_after journal
  was_planned =
      subst (WasCollected phase (maps_of b.names) between mid new b.held registers end_after image_after)
      (sym planned.journal_is)
      (renumbered b _ _
      (was_collected told between mid new b registers end end_after planned.between image_after planned.alone
      rests_between ends settled.kept.shows phase planned.collects))

  pub planned_over : PlannedOver told phase disk heap new b registers end_after image_after journal
  planned_over = record {
    mid = mid;
    between = between;
    between_end = refl;
    between_free = refl;
    settled = settled.is;
    headers = λ a n header named starts. settled.kept.headers a n header named starts;
    was = was_planned;
  }

-- What stands at rest stands at rest after a planned collection of any phase: before it, between the two and after it,
-- with the same values in registers.
pub record Carried (told : Bool) (phase : Phase) (disk : OnDisk) (heap new : Heap) (b : Beside)
    (names : Option name_table.Names) (registers : List Registers) (finish : ℕ) (image : Option (List ℕ))
    (journal : Journal) : Type 0 where
  pub mid : Heap
  pub between : OnDisk
  pub between_end : between.end ≡ disk.end
  pub at_mid : RestsOver told between mid b
  pub headers : (a n : ℕ) (header : Header) → (maps_of b.names).address a ≡ Some n
      → HeaderAt (state_of heap b.held disk) a header → HeaderAt (state_of mid b.held between) a header
  pub was : WasCollected phase (maps_of b.names) between mid new b.held registers finish image journal
  pub at_rest : RestsOver told was.later new (with_names_held b names registers)
  pub free : told ≡ true → was.later.free_homes ≡ disk.free_homes
  pub size : length new.space.list ≡ length heap.space.list
  pub globals : length new.globals ≡ length heap.globals
  pub forwards : length new.forward ≡ length heap.forward
  pub values : (t : ℕ)
      → values_of (rest_view new (with_names_held b names registers)) t ≡ values_of (rest_view heap b) t

-- The registers are those of as many threads, each of which has 16, before and after.
pub record SameThreads (held registers : List Registers) : Type 0 where
  pub threads : length registers ≡ length held
  pub before : All (λ (x : Registers). length x.regs ≡ 16) held
  pub after : All (λ (x : Registers). length x.regs ≡ 16) registers

module _ (told : Bool) (phase : Phase) (disk : OnDisk) (heap new : Heap) (b : Beside) (registers : List Registers)
    (finish : ℕ) (image : Option (List ℕ)) (journal : Journal) (rests : RestsOver told disk heap b)
    (p : PlannedOver told phase disk heap new b registers finish image journal) where
  over_size : length new.space.list ≡ length heap.space.list
  over_size = p.was.collected.words.size ∙ p.settled.size

  over_names : KeepsNames heap.names new.names
  over_names = keeps_then heap.names p.mid.names new.names p.settled.tables.names p.was.tables.names

  -- an address with a name is one of a word
  over_within : (m : Maps) (address : ℕ) → HasMaps new m → IsNamed m address
      → (1 ≤ address) × (address ≤ length new.space.list)
  over_within m address has named =
      let same : m ≡ p.was.after = same_maps new.names new.maps m p.was.after has p.was.names in
      let there : IsNamed p.was.after address = subst (λ (x : Maps). IsNamed x address) same named in
      let object : (header : Header) × ObjectAt (state_of new registers p.was.later) address header =
      p.was.collected.formed.words.objects address there.0 there.1 in
      let first : 1 ≤ address = object.1.first in
      let within : address + cost_of object.0.shape ≤ length new.space.list + 1 = object.1.within in
      (first, omega (arith, within))

  -- what a collection leaves of the heap, whatever names it has for contracts
  pub leaves_heap : LeavesHeap heap new
  leaves_heap = record {
    words = over_size;
    globals = p.was.collected.words.globals ∙ p.settled.globals;
    forwards = p.was.tables.forwards ∙ p.settled.tables.forwards;
    keeps_names = over_names;
    names_made = keeps_made (length heap.space.list) (length new.space.list) heap.names new.names over_size over_names
        rests.names.made;
    settled = p.was.settled;
    within = over_within;
  }

  module _ (names : Option name_table.Names) (named : NamesHeap new names)
      (threads : SameThreads b.held registers) where
    over_mid : RestsOver told p.between p.mid b
    over_mid = rests_for told disk p.between heap p.mid b b.names b.held rests p.settled refl

    over_stands : StandsFor told p.was.later p.mid new b names registers
    over_stands =
        collected_for phase finish image journal told p.between p.mid new b names registers over_mid named p.was

    -- the values in registers are those from before
    over_values : (t : ℕ)
        → values_of (rest_view new (with_names_held b names registers)) t ≡ values_of (rest_view heap b) t
    over_values t =
        values_for told p.between p.was.later p.mid new b names registers over_mid over_stands
        (same_sizes b.held registers threads.threads threads.before threads.after) t
        ∙ values_for told disk p.between heap p.mid b b.names b.held rests p.settled (λ u. refl) t

    -- so all was carried
    pub carried : Carried told phase disk heap new b names registers finish image journal
    carried = record {
      mid = p.mid;
      between = p.between;
      between_end = p.between_end;
      at_mid = over_mid;
      headers = λ a n header is starts. p.headers a n header is starts;
      was = p.was;
      at_rest = rests_for told p.between p.was.later p.mid new b names registers over_mid over_stands threads.threads;
      free = λ tells.
          free_stay over_mid p.was tells
          ∙ p.between_free;
      size = over_size;
      globals = leaves_heap.globals;
      forwards = leaves_heap.forwards;
      values = over_values;
    }
