-- The registers that mutators bring back from an epoch; and where a call only lacked words, they hold what they held.
use Rattle.std.proofs.Common.{◌≡◌, ℕ, suc, ◌≤◌, List, [], ◌∷◌, length, refl, sym, ◌∙◌, ap}
use Rattle.std.proofs.Common.{arith, inl, inr, true}
use Rattle.std.proofs.Math.ListN.{length-map}
use Rattle.std.proofs.lemmas.Bool.{cases_eq, cases_lt}
use Rattle.std.proofs.lemmas.Option.{same_Some, slice_get-map, slice_get_within}
use Rattle.std.specs.Option.{option_map}
use Rattle.std.specs.Prelude.{Bool, map, Option, Some, slice_get}
use Rattle.melt_model.specs.Thread.{value_in}
use Rattle.melt_model.specs.declared.history.Entry.{Entry}
use Rattle.melt_model.specs.declared.history.Value.{Value}
use Rattle.melt_scion.specs.Heaps.{OnDisk}
use Rattle.melt_scion.specs.declared.heap.Heap.{Heap}
use Rattle.melt_scion.specs.declared.registers.Registers.{Registers}
use Rattle.melt_core.specs.Views.{Standing, View, held_values, values_of}
use Rattle.melt_epoch.specs.Ends.{unseated}
use Rattle.melt_epoch.specs.declared.mutator.Mutator.{Mutator}
use Rattle.melt_safepoint.specs.Collections.{AllMarked}
use Rattle.melt_safepoint.specs.declared.thread.ThreadState.{ThreadState}
use Rattle.melt_pool.specs.Beginning.{start_of}
use Rattle.melt_pool.specs.Epochs.{HasLacked, IsAsBefore}
use Rattle.melt_pool.specs.Machines.{AreArmed, AreDisarmed}
use Rattle.melt_pool.specs.Parts.{IsNameless, parts_view}
use Rattle.melt_pool.specs.Workers.{image_of}
use Rattle.melt_pool.specs.declared.worker.Worker.{Worker}
use Rattle.melt_pool.proofs.AtRest.{armed_at, found_at}
use Rattle.melt_pool.proofs.EndedView.{ended_marked, ended_values, registers_at, registers_past}

-- a mutator that gives up its seat keeps its registers
pub registers_left : {R : Type 0} (seats : List (Mutator R)) → registers_at (map unseated seats) ≡ registers_at seats
registers_left [] = refl
registers_left (m ∷ seats) =
    let first : Registers = m.registers in ap (λ (rs : List Registers). first ∷ rs) (registers_left seats)

-- lists that have the same at each place
pub same_each : {A : Type 0} (xs ys : List A) → length xs ≡ length ys
    → ((k : ℕ) (x y : A) → slice_get xs k ≡ Some x → slice_get ys k ≡ Some y → x ≡ y) → xs ≡ ys
same_each [] [] size each = refl
same_each [] (y ∷ ys) size each = absurd (omega (arith, size))
same_each (x ∷ xs) [] size each = absurd (omega (arith, size))
same_each {A} (x ∷ xs) (y ∷ ys) size each =
    let first : x ≡ y = each 0 x y refl refl in
    let rest : xs ≡ ys = same_each xs ys (omega (arith, size)) (λ k z u at there. each (suc k) z u at there) in
    ap (λ (z : A). z ∷ xs) first ∙ ap (λ (zs : List A). y ∷ zs) rest

-- what is taken from mutators are their registers
pub disarmed_registers : {R : Type 0} (ns : List (Mutator (Worker R))) (states : List ThreadState)
    (registers : List Registers) (ms : List (Mutator (Worker R))) → AreDisarmed ns states registers ms
    → registers ≡ registers_at ns
disarmed_registers {R} ns states registers ms are =
    let registers_in_it = λ (m : Mutator (Worker R)). m.registers in
    let size : length (registers_at ns) ≡ length ns = length-map ns registers_in_it in
    same_each registers (registers_at ns) (are.too ∙ sym size) (λ k r q at there.
    let many : length registers ≡ length ns = are.too in
    let below = slice_get_within registers k r at in
    let n = found_at ns k (omega (arith, many, below)) in
    let s = found_at states k (let count : length states ≡ length ns = are.as_many in omega (arith, many, below, count))
    in
    let m = found_at ms k (let count : length ms ≡ length ns = are.count in omega (arith, many, below, count)) in
    let same : registers_in_it n.0 ≡ q =
    same_Some (registers_in_it n.0) q
    (sym (slice_get-map registers_in_it ns k ∙ ap (option_map registers_in_it) n.1) ∙ there) in
    (are.each k n.0 s.0 r m.0 n.1 s.1 at m.1).registers ∙ same)

module _ {R : Type 0} (image : R → Option (List ℕ)) (faults : R → ℕ) (told : Bool) (words : Option (List ℕ))
    (heap new : Heap) (h k : List Entry) (finish : ℕ) (registers : List Registers) (states : List ThreadState)
    (ms ns : List (Mutator (Worker R))) (t need : ℕ)
    (armed : AreArmed image faults words (parts_view heap h registers) states registers ms)
    (lacked : HasLacked image faults t need (start_of (image_of image) told heap h finish ms).began ms ns new k)
    (sized : (u : ℕ) (r : Registers) → slice_get registers u ≡ Some r → length r.regs ≡ 16)
    (nameless : IsNameless heap) where
  abbrev v : View
  v = parts_view heap h registers

  abbrev w : View
  w = parts_view new k (registers_at lacked.seats)

  -- a mutator holds what it held
  stays_at : (u : ℕ) (m seated : Mutator (Worker R)) → slice_get ms u ≡ Some m → slice_get lacked.seats u ≡ Some seated
      → (seated.registers ≡ m.registers) × (seated.values ≡ m.values)
  stays_at u m seated at there =
      let n : slice_get ns u ≡ Some (unseated seated) =
      ap (λ (xs : List (Mutator (Worker R))). slice_get xs u) lacked.left
      ∙ (slice_get-map unseated lacked.seats u ∙ ap (option_map unseated) there) in
      elim (cases_eq u t) [
        | inl same ↦
            let before : IsAsBefore faults m (unseated seated) =
            (lacked.here m (unseated seated) (ap (slice_get ms) (sym same) ∙ at) (ap (slice_get ns) (sym same) ∙ n)).0
            in (
              ap (λ (x : Mutator (Worker R)). x.registers) before.same,
              ap (λ (x : Mutator (Worker R)). x.values) before.same,
            )
        | inr other ↦
            let one : unseated seated ≡ m = same_Some (unseated seated) m (sym n ∙ (lacked.others u other ∙ at)) in
            (ap (λ (x : Mutator (Worker R)). x.registers) one, ap (λ (x : Mutator (Worker R)). x.values) one)
      ]

  many : length lacked.seats ≡ length ms
  many =
      let size : length (map unseated lacked.seats) ≡ length lacked.seats = length-map lacked.seats unseated in
      let left : length ns ≡ length (map unseated lacked.seats) = ap length lacked.left in
      let count : length ns ≡ length ms = lacked.count in
      omega (arith, size, left, count)

  -- so each thread has the values that it had
  pub lacked_values : (u : ℕ) → values_of w u ≡ values_of v u
  lacked_values u = elim (cases_lt u (length ms)) [
    | inl below ↦
        let m = found_at ms u below in
        let seated = found_at lacked.seats u (omega (arith, below, many)) in
        let stays = stays_at u m.0 seated.0 m.1 seated.1 in
        let is = armed_at image faults words heap h registers states ms armed u m.0 m.1 in
        let regs : length seated.0.registers.regs ≡ 16 =
        ap (λ (x : Registers). length x.regs) (stays.0 ∙ is.3.holds) ∙ sized u is.1 is.2 in
        let values : length seated.0.values ≡ 16 = ap length stays.1 ∙ is.3.size in
        ended_values (image_of image) told heap new h k finish registers ms lacked.seats nameless lacked.ended u
        seated.0 seated.1 regs values
        ∙ (stays.1 ∙ is.3.values)
    | inr past ↦
        let size : length (registers_at lacked.seats) ≡ length lacked.seats =
        length-map lacked.seats (λ (x : Mutator (Worker R)). x.registers) in
        let count : length ms ≡ length states = armed.count in
        let as_many : length registers ≡ length states = armed.as_many in
        ap (held_values w.names) (registers_past (registers_at lacked.seats) u (omega (arith, past, size, many)))
        ∙ ap (held_values v.names) (sym (registers_past registers u (omega (arith, past, count, as_many))))
  ]

  -- and what had the stale bit has it, where no register holds it
  pub lacked_marked : (disk : OnDisk) → Standing told disk (parts_view heap h registers) → told ≡ true
      → AllMarked (parts_view heap h registers) → AllMarked w
  lacked_marked disk stands tells marked =
      let few : length registers ≤ 8 = stands.few in
      let count : length ms ≡ length states = armed.count in
      let as_many : length registers ≡ length states = armed.as_many in
      ended_marked (image_of image) told heap new h k finish registers ms lacked.seats nameless lacked.ended disk stands
      tells (omega (arith, few, count, as_many, many)) lacked.same_history
      (λ n held. record {
        thread = held.thread;
        register = held.register;
        holds = ap (λ (vs : List Value). value_in vs held.register) (lacked_values held.thread) ∙ held.holds;
      })
      marked
