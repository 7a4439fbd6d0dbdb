-- What a planned collection did to a heap between two epochs and to what is beside it, over each disk that is seen as
-- it was.
use Rattle.std.proofs.Common.{◌≡◌, ◌≢◌, ℕ, ◌+◌, ◌≤◌, List, [], ◌∷◌, ◌++◌, length, refl, sym, ◌∙◌, ap, subst, arith}
use Rattle.std.proofs.Common.{Bool, true, false}
use Rattle.std.proofs.Math.Path.{fun_ext}
use Rattle.std.specs.Prelude.{Option, None, Some, IsSome, slice_index, Result, Ok, Err, if◌then◌else◌}
use Rattle.std.specs.Result.{is_ok, is_err}
use Rattle.melt_model.specs.Alive.{Alive, Held, words_of, CostsSum}
use Rattle.melt_model.specs.Thread.{value_in}
use Rattle.melt_model.specs.declared.history.Value.{Value}
use Rattle.melt_model.specs.declared.reports.Phase.{Phase}
use Rattle.melt_model.specs.declared.reports.Phase.TheVariants.{Inactive, Mark, Move}
use Rattle.melt_model.specs.declared.reports.Journal.{Journal}
use Rattle.melt_scion.specs.Placed.{Maps, IsNamed}
use Rattle.melt_scion.specs.Collected.{CountsWords}
use Rattle.melt_scion.specs.Heaps.{OnDisk, Shows, state_of}
use Rattle.melt_scion.specs.declared.heap.Names as name_table
use Rattle.melt_scion.specs.declared.heap.Heap.{Heap}
use Rattle.melt_scion.specs.declared.registers.Registers.{Registers}
use Rattle.melt_scion.proofs.Totals.{held_costs}
use Rattle.melt_copy.specs.Settling.{with_image, StillTold}
use Rattle.melt_move.specs.Collecting.{IsFormedOn}
use Rattle.melt_move.specs.Planned.{CollectsPlanned, plan_after}
use Rattle.melt_core.specs.Views.{View, maps, maps_of, state, value, values_of, InUse, Standing, IsQuiet}
use Rattle.melt_core.proofs.Alive.{alive_sum}
use Rattle.melt_core.proofs.Disks.{stands_over}
use Rattle.melt_core.proofs.OnDiskCosts.{alive_within}
use Rattle.melt_safepoint.specs.Collections.{MayCollect, Gathers, CollectedOver, CollectsCore}
use Rattle.melt_safepoint.specs.Resting.{Beside, CollectsHeap, LeavesHeap, MayCollectHeap, NamesHeap, with_names_held}
use Rattle.melt_safepoint.specs.Resting.{rest_view}
use Rattle.melt_safepoint.specs.Shown.{Shown, Underlies}
use Rattle.melt_safepoint.specs.Tables.{Renewed}
use Rattle.melt_safepoint.specs.declared.collector.Collector.{Collector}
use Rattle.melt_safepoint.proofs.Bits.{bits_after, takes_away}
use Rattle.melt_safepoint.proofs.Collecting.{RestsOver, placed_told, formed_now, maps_after, in_use_costs, rest_formed}
use Rattle.melt_safepoint.proofs.PlannedRest.{Carried, SameThreads, carried, planned_over, leaves_heap}
use Rattle.melt_safepoint.proofs.Tightening.{held_part, move_tight, move_marks}

-- the same values of all registers, as one function
pub same_value : (v w : View) → ((t : ℕ) → values_of w t ≡ values_of v t) → value w ≡ value v
same_value v w values = fun_ext (λ t. fun_ext (λ r. ap (λ (vs : List Value). value_in vs r) (values t)))

-- A new epoch begins, in which all stands as it stood.
pub renewed_by : {told : Bool} {later : OnDisk} (heap : Heap) {new : Heap} (b : Beside)
    (names : Option name_table.Names) (registers : List Registers)
    → RestsOver told later new (with_names_held b names registers) → length new.space.list ≡ length heap.space.list
    → length new.globals ≡ length heap.globals → length new.forward ≡ length heap.forward
    → length registers ≡ length b.held
    → ((t : ℕ) → values_of (rest_view new (with_names_held b names registers)) t ≡ values_of (rest_view heap b) t)
    → Renewed told later (rest_view heap b) (rest_view new (with_names_held b names registers))
renewed_by heap b names registers rests words globals forwards threads values = record {
  stands = rests.stands;
  quiet = rests.quiet;
  globals = globals;
  words = words;
  forwards = forwards;
  threads = threads;
  capacity = refl;
  history = refl;
  values = values;
}

module _ (told : Bool) (phase : Phase) (disk : OnDisk) (heap new : Heap) (b : Beside) (names : Option name_table.Names)
    (registers : List Registers) (finish : ℕ) (image : Option (List ℕ)) (journal : Journal)
    (c : Carried told phase disk heap new b names registers finish image journal) (tells : told ≡ true) where
  abbrev x : View
  x = rest_view heap b

  abbrev y : View
  y = rest_view c.mid b

  abbrev w : View
  w = rest_view new (with_names_held b names registers)

  -- the words that the journal has of registers are those of the objects that they hold
  held_sum : CostsSum (words_of x.log) (Held (value x)) journal.held
  held_sum =
      held_costs y.log (value y) (maps y) (state c.between y) (placed_told told c.between y c.at_mid.stands tells)
      journal.held c.was.held_words

  -- and those in use after it are those of the objects in use
  live_sum : CostsSum (words_of w.log) (InUse (maps w)) journal.live
  live_sum =
      in_use_costs w.log (value w) (maps w) (state c.was.later w) journal.live
      (placed_told told c.was.later w c.at_rest.stands tells)
      (subst (λ (m : Maps). CountsWords (state c.was.later w) (IsNamed m) journal.live)
      (maps_after phase finish image journal told c.between c.mid new b names registers c.at_mid c.at_rest.names c.was)
      c.was.live)

  -- so the journal gathers what was there
  pub gathers_told : Gathers x (record journal { end = finish })
  gathers_told =
      let stands : Standing true c.was.later w =
      subst (λ (is : Bool). Standing is c.was.later w) tells c.at_rest.stands in
      let sum = alive_sum c.was.later w stands in
      let fits : sum.0 + 1 ≤ journal.live + c.was.later.end =
      alive_within c.was.later w stands journal.live sum.0 live_sum sum.1 in
      record {
        holds = held_sum;
        alive = sum.0;
        reach =
            subst (λ (f : ℕ → ℕ → Value). CostsSum (words_of w.log) (Alive w.log f) sum.0) (same_value x w c.values)
            sum.1;
        fits = omega (arith, fits, c.was.ends);
      }

-- A disk that is seen so, over which a view stands, and with the words that are told even where the view is not told.
-- It has these free homes.
pub record SeenDisk (told : Bool) (finish : ℕ) (image : Option (List ℕ)) (free : List ℕ) (v : View) : Type 0 where
  pub disk : OnDisk
  pub ends : disk.end ≡ finish
  pub shows : Shows image disk.image
  pub same_free : disk.free_homes ≡ free
  pub stands : Standing told disk v

-- the words that are told, if they are
image_of : Option (List ℕ) → ℕ → ℕ
image_of None k = 0
image_of (Some words) k = slice_index words k

image_shows : (image : Option (List ℕ)) → Shows image (image_of image)
unfolding image_of
image_shows None = tt
image_shows (Some words) = λ k. refl

-- where a view stands over a disk, it stands over one that is seen so
pub seen_disk : (told : Bool) (finish : ℕ) (image : Option (List ℕ)) (disk : OnDisk) (v : View)
    → Underlies told finish image disk → Standing told disk v → SeenDisk told finish image disk.free_homes v
seen_disk true finish image disk v under stands =
    record { disk = disk; ends = under.ends; shows = (under.tells refl).1; same_free = refl; stands = stands }
seen_disk false finish image disk v under stands = record {
  disk = with_image disk (image_of image);
  ends = under.ends;
  shows = image_shows image;
  same_free = refl;
  stands = stands_over disk (with_image disk (image_of image)) v refl stands;
}

-- the disk with these free homes
abbrev with_free : OnDisk → List ℕ → OnDisk
with_free disk free = record disk { free_homes = free }

-- what stands over a disk stands over one with the same free homes, and where nothing is told, with any
with_free_stands : (told : Bool) (disk : OnDisk) (free : List ℕ) (v : View) → (told ≡ true → disk.free_homes ≡ free)
    → Standing told disk v → Standing told (with_free disk free) v
with_free_stands true disk free v same stands =
    subst (λ (homes : List ℕ). Standing true (with_free disk homes) v) (same refl) stands
with_free_stands false disk free v same stands = stands_over disk (with_free disk free) v refl stands

-- the journal has the end of the disk
end_is : {phase : Phase} {heap new : Heap} {held held_after : List Registers} {end end_after : ℕ}
    {image image_after : Option (List ℕ)} {entry : Journal}
    → CollectsPlanned phase heap new held held_after end end_after image image_after entry → entry.end ≡ end_after
end_is {end} planned =
    ap (λ (j : Journal). j.end) planned.journal_is

-- a collection that moves nothing leaves the end of the disk
end_stays : {phase : Phase} {heap new : Heap} {held held_after : List Registers} {end end_after : ℕ}
    {image image_after : Option (List ℕ)} {entry : Journal}
    → CollectsPlanned phase heap new held held_after end end_after image image_after entry → phase ≢ Move
    → end_after ≡ end
end_stays {phase = Inactive} planned stays = planned.collects.end_stays
end_stays {phase = Mark} planned stays = planned.collects.end_stays
end_stays {phase = Move} planned stays = absurd (stays refl)

-- where a push did not fail, its value stands after the others
pub when_pushed : {T E : Type 0} (r : Result T E) (now was all : List Journal) → is_err r ≡ false
    → now ≡ (if is_ok r then all else was) → now ≡ all
when_pushed (Ok x) now was all passed is = is
when_pushed (Err y) now was all passed is = absurd (cc)

-- where a view may be collected, it stands over a disk that is seen so
pub untold_seen : (finish : ℕ) (image : Option (List ℕ)) (v : View) (may : MayCollect finish v)
    → SeenDisk false finish image may.disk.free_homes v
untold_seen finish image v may =
    seen_disk false finish image may.disk v
    (record { ends = may.ends; tells = λ (is : false ≡ true). absurd (cc) }) may.stands

-- a heap and registers that may be collected are well formed
pub may_formed : (finish : ℕ) (heap : Heap) (held : List Registers) → MayCollectHeap finish heap held
    → IsFormedOn heap held finish
may_formed finish heap held may =
    subst (λ (registers : List Registers). IsFormedOn heap registers finish) may.held_is
    (rest_formed false may.may.disk heap may.beside finish
    (record { stands = may.may.stands; quiet = may.may.quiet; names = may.names }) may.may.ends)

-- and what a planned collection leaves of them
pub leaves_planned : {phase : Phase} (shown later : Shown) {heap new : Heap} {held registers : List Registers}
    {entry : Journal} → MayCollectHeap shown.end heap held
    → CollectsPlanned phase heap new held registers shown.end later.end shown.image later.image entry
    → LeavesHeap heap new
leaves_planned {phase} shown later {heap} {new} {registers} {entry} may planned =
    let b : Beside = may.beside in
    let free : List ℕ = may.may.disk.free_homes in
    let seen : SeenDisk false shown.end shown.image free (rest_view heap b) =
    untold_seen shown.end shown.image (rest_view heap b) may.may in
    let rests : RestsOver false seen.disk heap b =
    record { stands = seen.stands; quiet = may.may.quiet; names = may.names } in
    leaves_heap false phase seen.disk heap new b registers later.end later.image entry rests
    (planned_over false phase seen.disk heap new b registers shown.end later.end shown.image later.image entry rests
    seen.ends seen.shows
    (subst (λ (lent : List Registers).
    CollectsPlanned phase heap new lent registers shown.end later.end shown.image later.image entry) (sym may.held_is)
    planned))

-- What is known of a planned collection of a heap and registers, beside which this stood and stands.
pub record IsMade (phase : Phase) (shown later : Shown) (heap new : Heap) (b : Beside)
    (names : Option name_table.Names) (registers : List Registers) (entry : Journal) : Type 0 where
  pub planned : CollectsPlanned phase heap new b.held registers shown.end later.end shown.image later.image entry
  pub quiet : IsQuiet (rest_view heap b)
  pub names_were : NamesHeap heap b.names
  pub names_are : NamesHeap new names
  pub threads : SameThreads b.held registers
  pub fits : phase ≡ Move → later.end ≤ shown.limit
  pub limit : later.limit ≡ shown.limit
  pub still : StillTold shown.image later.image

module _ (phase : Phase) (shown later : Shown) (heap new : Heap) (b : Beside) (names : Option name_table.Names)
    (registers : List Registers) (entry : Journal)
    (made : IsMade phase shown later heap new b names registers entry) where
  abbrev v : View
  v = rest_view heap b

  abbrev new_view : View
  new_view = rest_view new (with_names_held b names registers)

  -- all was at rest over a disk that is seen so
  made_rests : (told : Bool) (free : List ℕ) (seen : SeenDisk told shown.end shown.image free v)
      → RestsOver told seen.disk heap b
  made_rests told free seen = record { stands = seen.stands; quiet = made.quiet; names = made.names_were }

  -- over it the collection carried all that stood
  made_carried : (told : Bool) (free : List ℕ) (seen : SeenDisk told shown.end shown.image free v)
      → Carried told phase seen.disk heap new b names registers later.end later.image entry
  made_carried told free seen =
      carried told phase seen.disk heap new b registers later.end later.image entry (made_rests told free seen)
      (planned_over told phase seen.disk heap new b registers shown.end later.end shown.image later.image entry
      (made_rests told free seen) seen.ends seen.shows made.planned) names made.names_are made.threads

  -- the journal of the collection gathers what was there
  made_gathers : (told : Bool) (free : List ℕ) (seen : SeenDisk told shown.end shown.image free v) → told ≡ true
      → Gathers v entry
  made_gathers told free seen tells =
      let ends : entry.end ≡ later.end =
      end_is made.planned in
      let gathers : Gathers v (record entry { end = later.end }) =
      gathers_told told phase seen.disk heap new b names registers later.end later.image entry
      (made_carried told free seen) tells in
      record {
        holds = gathers.holds;
        alive = gathers.alive;
        reach = gathers.reach;
        fits = subst (λ (n : ℕ). gathers.alive + 1 ≤ entry.live + n) (sym ends) gathers.fits;
      }

  -- what it was over such a disk
  made_over : (told : Bool) (free : List ℕ) → SeenDisk told shown.end shown.image free v
      → (told ≡ true → IsSome shown.image) → CollectedOver told phase later free v new_view entry
  made_over told free seen some =
      let c : Carried told phase seen.disk heap new b names registers later.end later.image entry =
      made_carried told free seen in
      let moved : phase ≡ Move → Carried told Move seen.disk heap new b names registers later.end later.image entry =
      λ move. subst (λ (p : Phase). Carried told p seen.disk heap new b names registers later.end later.image entry)
      move c in
      let rests : RestsOver told (with_free c.was.later free) new (with_names_held b names registers) = record {
        stands = with_free_stands told c.was.later free new_view (λ tells. c.free tells ∙ seen.same_free)
            c.at_rest.stands;
        quiet = c.at_rest.quiet;
        names = c.at_rest.names;
      } in
      record {
        disk = with_free c.was.later free;
        under = record { ends = c.was.ends; tells = λ tells. (made.still (some tells), c.was.shows) };
        same_free = refl;
        renewed = renewed_by heap b names registers rests c.size c.globals c.forwards made.threads.threads c.values;
        gathers = made_gathers told free seen;
        bits = λ tells.
            bits_after told phase seen.disk heap new b names registers later.end later.image entry
            (made_rests told free seen) c tells;
        takes = λ tells.
            takes_away told phase seen.disk heap new b names registers later.end later.image entry
            (made_rests told free seen) c tells;
        marked = λ tells move.
            move_marks told seen.disk heap new b names registers later.end later.image entry
            (made_rests told free seen) (moved move);
        tight = λ tells move marked.
            move_tight told seen.disk heap new b names registers later.end later.image entry
            (made_rests told free seen) (moved move) marked;
      }

  -- and over each disk, with what it did to the collector
  pub collects_made : (old plans : Collector) → MayCollect shown.end v
      → plans.journal.items ≡ old.journal.items ++ entry ∷ []
      → plans.plan ≡ plan_after old.plan phase entry.live (length heap.space.list)
      → CollectsCore phase shown later v new_view old plans
  collects_made old plans may pushed next =
      let free : List ℕ = may.disk.free_homes in
      let seen : SeenDisk false shown.end shown.image free v = untold_seen shown.end shown.image v may in
      let c : Carried false phase seen.disk heap new b names registers later.end later.image entry =
      made_carried false free seen in
      let grows : c.between.end ≤ c.was.later.end = c.was.collected.words.homes.end in
      let room : new.space.used + 1 ≤ length new.space.list + 1 = c.was.collected.words.free in
      record {
        entry = entry;
        journal = pushed;
        plan = next;
        of_phase = c.was.of_phase;
        held_within = held_part phase (maps_of b.names) c.was.after (state_of c.mid b.held c.between)
            (state_of new registers c.was.later) c.was.to c.was.home c.was.scion
            (formed_now false c.between (rest_view c.mid b) c.at_mid.stands) c.was.collected entry.held entry.live
            c.was.held_words c.was.live;
        live = ap (λ (n : ℕ). n + 1) (sym c.was.used);
        within = omega (arith, c.was.used, room, c.size);
        stop = refl;
        none_forwarded = c.was.settled;
        quiet = c.at_rest.quiet;
        end = end_is made.planned;
        grows = omega (arith, grows, c.between_end, seen.ends, c.was.ends);
        fits = made.fits;
        stays = end_stays made.planned;
        limit = made.limit;
        each = λ told disk under stands.
            made_over told disk.free_homes (seen_disk told shown.end shown.image disk v under stands)
            (λ tells. (under.tells tells).0);
      }

-- So it was made whatever stood beside the heap.
pub collects_heap : {phase : Phase} (shown later : Shown) {heap new : Heap} {held registers : List Registers}
    {entry : Journal} (old plans : Collector)
    → CollectsPlanned phase heap new held registers shown.end later.end shown.image later.image entry
    → SameThreads held registers → (phase ≡ Move → later.end ≤ shown.limit) → later.limit ≡ shown.limit
    → StillTold shown.image later.image → plans.journal.items ≡ old.journal.items ++ entry ∷ []
    → plans.plan ≡ plan_after old.plan phase entry.live (length heap.space.list)
    → CollectsHeap phase shown later heap new held registers old plans
collects_heap {phase} shown later {heap} {new} {registers} {entry} old plans planned threads fits limit still pushed
    next b names was names_were names_are may =
    collects_made phase shown later heap new b names registers entry (record {
      planned = subst (λ (lent : List Registers).
          CollectsPlanned phase heap new lent registers shown.end later.end shown.image later.image entry) (sym was)
          planned;
      quiet = may.quiet;
      names_were = names_were;
      names_are = names_are;
      threads = subst (λ (lent : List Registers). SameThreads lent registers) (sym was) threads;
      fits = fits;
      limit = limit;
      still = still;
    }) old plans may pushed next
