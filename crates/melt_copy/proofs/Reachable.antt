-- The words of what can be reached have a sum: the objects are found one by one, until no step leads on.
use Rattle.std.proofs.Common.{◌≡◌, ◌≢◌, ◌⊎◌, inl, inr, ℕ, zero, suc, ◌+◌, ◌*◌, ◌<◌, ◌≤◌, List, [], ◌∷◌, length, map}
use Rattle.std.proofs.Common.{refl, sym, ◌∙◌, ap, subst, arith}
use Rattle.std.specs.Prelude.{Option, None, Some, slice_get, slice_index, slice_index_or}
use Rattle.std.specs.Option.{option_map}
use Rattle.std.proofs.lemmas.Bool.{cases_eq, cases_lt, cases_order}
use Rattle.std.proofs.lemmas.List.{get_or_past, length-map}
use Rattle.std.proofs.lemmas.Option.{none-some, same_Some, slice_get_within, slice_get-get_or, get_or_from_slice_get}
use Rattle.melt_model.proofs.Sums.{CostsSum-cost, CostsSum-one}
use Rattle.melt_word.specs.Words.{IsRef, ref_word}
use Rattle.melt_word.specs.declared.header.Header.{Header}
use Rattle.melt_word.specs.declared.header.Shape.{Shape}
use Rattle.melt_word.specs.declared.reference.Ref.{Ref}
use Rattle.melt_word.proofs.OneToOne.{same_ref}
use Rattle.melt_scion.specs.State.{Scion, State, HeaderAt, ObjectAt, address_in, RefersTo, Reached, in_register}
use Rattle.melt_scion.specs.State.{in_global, at_scion, in_slot}
use Rattle.melt_scion.specs.Scions.{scion_at}
use Rattle.melt_scion.specs.Placed.{Maps, Formed}
use Rattle.melt_scion.specs.Collected.{CountsWords}
use Rattle.melt_scion.specs.Heaps.{OnDisk, IsFormed, register_in, scion_in, state_of}
use Rattle.melt_scion.specs.declared.registers.Registers.{Registers}
use Rattle.melt_scion.specs.declared.heap.Heap.{Heap}
use Rattle.melt_scion.proofs.Geometry.{one_header}
use Rattle.melt_scion.proofs.Reaching.{reached_named}
use Rattle.melt_copy.specs.declared.forwarding.Relocation.{Relocation}
use Rattle.melt_copy.specs.Moving.{IsRefWord, IsRelocation, words_in}
use Rattle.melt_copy.specs.Visits.{EntryWords, VisitsAtMost}
use Rattle.melt_copy.proofs.Counted.{cost_at, costs_at, counts_words}
use Rattle.melt_copy.proofs.Counting.{counts_moves}
use Rattle.melt_copy.proofs.Packing.{AreApart, packed}
use Rattle.melt_copy.proofs.Sources.{source_cost}
use Rattle.melt_copy.proofs.Visited.{IsSource, counts_over, two_each}

-- some address of a kind is that of none of the objects, or all are theirs
abbrev OneMore : List Relocation → (ℕ → Type 0) → Type 0
OneMore moves Is = ((a : ℕ) × Is a × (IsSource moves a → ⊥)) ⊎ ((a : ℕ) → Is a → IsSource moves a)

not_first : (m : Relocation) (moves : List Relocation) (a : ℕ) → (m.from ≡ a → ⊥) → (IsSource moves a → ⊥)
    → IsSource (m ∷ moves) a → ⊥
not_first m moves a differs none (zero, x, at, from) =
    differs (ap (λ (y : Relocation). y.from) (same_Some m x at) ∙ from)
not_first m moves a differs none (suc k, x, at, from) = none (k, x, at, from)

-- an address is that of one of them or not
source_cases : (moves : List Relocation) (a : ℕ) → IsSource moves a ⊎ (IsSource moves a → ⊥)
source_cases [] a = inr (λ is. let at = is.2 in absurd (cc))
source_cases (m ∷ moves) a = elim (cases_eq m.from a) [
  | inl same ↦ inl (0, m, refl, same)
  | inr differs ↦ elim (source_cases moves a) [
    | inl has ↦ inl (suc has.0, has.1, has.2, has.3)
    | inr none ↦ inr (not_first m moves a differs none)
  ]
]

-- the address to which a word refers is that in its reference
its : (word : ℕ) (r : Ref) → IsRef r → word ≡ ref_word r → (a : ℕ) → RefersTo word a → address_in r ≡ Some a
its word r range is a refers =
    ap address_in (same_ref r refers.reference range refers.in_range (sym is ∙ refers.is)) ∙ refers.at

module _ (moves : List Relocation) where
  -- one address
  one_or_none : (b : ℕ) (Is : ℕ → Type 0) → Is b → ((a : ℕ) → Is a → b ≡ a) → OneMore moves Is
  one_or_none b Is there same = elim (source_cases moves b) [
    | inl has ↦ inr (λ a is. subst (IsSource moves) (same a is) has)
    | inr none ↦ inl (b, there, none)
  ]

  -- those of so many kinds
  one_below : (n : ℕ) (P : ℕ → ℕ → Type 0) → ((i : ℕ) → i < n → OneMore moves (P i))
      → OneMore moves (λ a. (i : ℕ) × (i < n) × P i a)
  one_below zero P each = inr (λ a is. absurd (let below = is.1 in omega (arith, below)))
  one_below (suc n) P each = elim (each n (omega arith)) [
    | inl one ↦ inl (one.0, (n, omega arith, one.1), one.2)
    | inr last ↦ elim (one_below n P (λ i below. each i (omega (arith, below)))) [
      | inl one ↦ inl (one.0, (one.1.0, (let below = one.1.1 in omega (arith, below)), one.1.2), one.2)
      | inr rest ↦ inr (λ a is. elim (cases_eq is.0 n) [
        | inl same ↦ last a (subst (λ (i : ℕ). P i a) same is.2)
        | inr other ↦ rest a (is.0, (let below = is.1 in omega (arith, below, other)), is.2)
      ])
    ]
  ]

  -- the address in a reference
  one_in : (word : ℕ) (r : Ref) → IsRef r → word ≡ ref_word r → (o : Option ℕ) → address_in r ≡ o
      → OneMore moves (RefersTo word)
  one_in word r range is None none = inr (λ a refers. absurd (none-some a (sym none ∙ its word r range is a refers)))
  one_in word r range is (Some b) some =
      one_or_none b (RefersTo word) (record { reference = r; in_range = range; is = is; at = some })
      (λ a refers. same_Some b a (sym some ∙ its word r range is a refers))

  -- what a word of a reference refers to
  one_referred : (word : ℕ) → IsRefWord word → OneMore moves (RefersTo word)
  one_referred word is = one_in word is.reference is.in_range is.is (address_in is.reference) refl

  -- of two kinds
  one_of_both : (P Q : ℕ → Type 0) → OneMore moves P → OneMore moves Q → OneMore moves (λ a. P a ⊎ Q a)
  one_of_both P Q (inl one) other = inl (one.0, inl one.1, one.2)
  one_of_both P Q (inr all) (inl one) = inl (one.0, inr one.1, one.2)
  one_of_both P Q (inr all) (inr both) = inr (λ a is. elim is [ inl p ↦ all a p | inr q ↦ both a q ])

-- the registers of a thread
abbrev registers_of : List Registers → ℕ → List ℕ
registers_of held t = slice_index_or (map (λ (x : Registers). x.regs) held) t []

-- a register holds the object at the address
abbrev HoldsIn : List Registers → ℕ → ℕ → ℕ → Type 0
HoldsIn held t r a = (register_in held t r ≡ a) × (1 ≤ a)

-- one of a thread does
abbrev HeldIn : List Registers → ℕ → ℕ → Type 0
HeldIn held t a = (r : ℕ) × (r < length (registers_of held t)) × HoldsIn held t r a

one_holds : (moves : List Relocation) (held : List Registers) (t r : ℕ) → OneMore moves (HoldsIn held t r)
one_holds moves held t r = elim (cases_eq (register_in held t r) 0) [
  | inl none ↦ inr (λ a is. absurd (let same = is.0 in let some = is.1 in omega (arith, same, some, none)))
  | inr some ↦ one_or_none moves (register_in held t r) (HoldsIn held t r) (refl, omega (arith, some)) (λ a is. is.0)
]

-- a register that holds something is one of a thread
held_below : (held : List Registers) (t r a : ℕ) → register_in held t r ≡ a → 1 ≤ a
    → (t < length held) × HeldIn held t a
held_below held t r a holds some = elim (cases_lt r (length (registers_of held t))) [
  | inl below ↦ elim (cases_lt t (length held)) [
    | inl thread ↦ (thread, (r, below, (holds, some)))
    | inr past ↦
        let all = length-map held (λ (x : Registers). x.regs) in
        let none : registers_of held t ≡ [] =
        get_or_past (map (λ (x : Registers). x.regs) held) t [] (omega (arith, past, all)) in
        absurd (let size = ap length none in omega (arith, below, size))
  ]
  | inr past ↦ absurd (let none = get_or_past (registers_of held t) r 0 past in omega (arith, none, holds, some))
]

-- the object of a scion of the table
abbrev AtScion : Heap → ℕ → ℕ → Type 0
AtScion heap k a = (x : Scion) × (scion_in heap.scions k ≡ Some x) × (x.address ≡ a)

one_scion : (moves : List Relocation) (heap : Heap) (k : ℕ) (o : Option Scion) → scion_in heap.scions k ≡ o
    → OneMore moves (AtScion heap k)
one_scion moves heap k None none = inr (λ a is. absurd (none-some is.0 (sym none ∙ is.1)))
one_scion moves heap k (Some x) live =
    one_or_none moves x.address (AtScion heap k) (x, live, refl)
    (λ a is. ap (λ (y : Scion). y.address) (same_Some x is.0 (sym live ∙ is.1)) ∙ is.2)

-- its number is below the end of the table
scion_below : (heap : Heap) (k : ℕ) (x : Scion) → scion_in heap.scions k ≡ Some x → k < length heap.scions.pairs + 1
scion_below heap zero x live = omega arith
scion_below heap (suc k) x live = elim (cases_lt k (length heap.scions.pairs)) [
  | inl below ↦ omega (arith, below)
  | inr past ↦
      let none : scion_at heap.scions (suc k) ≡ None = get_or_past heap.scions.pairs k None past in
      let gone = ap (option_map (λ (pair : ℕ × ℕ). record { home = pair.0; address = pair.1 })) none in
      absurd (none-some x (sym gone ∙ live))
]

-- what a list of objects has past its end
abbrev no_move : Relocation
no_move = record { from = 0; to = 0; shape = record { refs = 0; nums = 0 } }

-- the object of a place in the list
abbrev move_of : List Relocation → ℕ → Relocation
move_of moves k = slice_index_or moves k no_move

module _ (maps : Maps) (heap : Heap) (held : List Registers) (disk : OnDisk)
    (formed : Formed maps (state_of heap held disk)) where
  abbrev s : State
  s = state_of heap held disk

  -- objects that can be reached, each once
  record AreFound (moves : List Relocation) : Type 0 where
    each : (k : ℕ) (m : Relocation) → slice_get moves k ≡ Some m → IsRelocation s m
    differ : (i j : ℕ) (a b : Relocation) → slice_get moves i ≡ Some a → slice_get moves j ≡ Some b → i < j
        → a.from ≢ b.from

  -- they do not overlap
  found_apart : (moves : List Relocation) → AreFound moves → AreApart moves
  found_apart moves found i j a b first second before =
      let x = found.each i a first in
      let y = found.each j b second in
      let n = reached_named maps s a.from formed x.reached in
      let m = reached_named maps s b.from formed y.reached in
      elim (cases_order a.from b.from) [
        | inl same ↦ absurd (found.differ i j a b first second before same)
        | inr differ ↦ elim differ [
          | inl below ↦ inl (omega (
            arith,
            source_cost s a x,
            formed.words.apart a.from b.from n.0 m.0 x.header n.1 m.1 x.starts below,
          ))
          | inr above ↦ inr (omega (
            arith,
            source_cost s b y,
            formed.words.apart b.from a.from m.0 n.0 y.header m.1 n.1 y.starts above,
          ))
        ]
      ]

  -- an object that can be reached stands among the words
  there : (m : Relocation) → (is : IsRelocation s m) → ObjectAt s m.from is.header
  there m is =
      let n = reached_named maps s m.from formed is.reached in
      let o = formed.words.objects m.from n.0 n.1 in
      subst (ObjectAt s m.from) (one_header s m.from o.0 is.header o.1.starts is.starts) o.1

  -- so they are no more than there are words
  few_found : (moves : List Relocation) → AreFound moves → length moves ≤ s.base.size
  few_found moves found =
      let fits = packed s.base.size moves (found_apart moves found)
      (λ k m at. (there m (found.each k m at)).first)
      (λ k m at.
      let is = found.each k m at in
      let within = (there m is).within in
      omega (arith, within, source_cost s m is)) in
      omega (arith, fits, two_each moves)

  -- a slot of one of them refers to the address
  abbrev InSlot : List Relocation → ℕ → ℕ → Type 0
  InSlot moves k a = (i : ℕ) × (i < (move_of moves k).shape.refs)
      × RefersTo (s.word ((move_of moves k).from + 2 + i)) a

  -- an object that a register, a global, a scion or a slot of one of them names
  abbrev IsNext : List Relocation → ℕ → Type 0
  IsNext moves a = (((t : ℕ) × (t < length held) × HeldIn held t a)
      ⊎ ((g : ℕ) × (g < length heap.globals) × RefersTo (slice_index heap.globals g) a))
      ⊎ (((k : ℕ) × (k < length heap.scions.pairs + 1) × AtScion heap k a)
      ⊎ ((k : ℕ) × (k < length moves) × InSlot moves k a))

  -- the object of a place was found
  found_of : (moves : List Relocation) → AreFound moves → (k : ℕ) → k < length moves → IsRelocation s (move_of moves k)
  found_of moves found k below = found.each k (move_of moves k) (slice_get-get_or moves k no_move below)

  slot_word : (moves : List Relocation) → AreFound moves → (k i : ℕ) → k < length moves
      → i < (move_of moves k).shape.refs → IsRefWord (s.word ((move_of moves k).from + 2 + i))
  slot_word moves found k i below within =
      let is = found_of moves found k below in
      let n = reached_named maps s (move_of moves k).from formed is.reached in
      let refs = ap (λ (z : Shape). z.refs) is.shape in
      let stands = formed.words.slots (move_of moves k).from n.0 i is.header n.1 is.starts
      (omega (arith, within, refs)) in
      record { reference = stands.reference; in_range = stands.in_range; is = stands.is }

  global_word : (g : ℕ) → g < length heap.globals → IsRefWord (slice_index heap.globals g)
  global_word g below =
      let stands = formed.words.globals g below in
      record { reference = stands.reference; in_range = stands.in_range; is = stands.is }

  -- there is one more that they lead to, or there is none
  one_next : (moves : List Relocation) → AreFound moves → OneMore moves (IsNext moves)
  one_next moves found =
      one_of_both moves _ _
      (one_of_both moves _ _
      (one_below moves (length held) (HeldIn held)
      (λ t below. one_below moves (length (registers_of held t)) (HoldsIn held t)
      (λ r within. one_holds moves held t r)))
      (one_below moves (length heap.globals) (λ g. RefersTo (slice_index heap.globals g))
      (λ g below. one_referred moves (slice_index heap.globals g) (global_word g below))))
      (one_of_both moves _ _
      (one_below moves (length heap.scions.pairs + 1) (AtScion heap)
      (λ k below. one_scion moves heap k (scion_in heap.scions k) refl))
      (one_below moves (length moves) (InSlot moves)
      (λ k below. one_below moves (move_of moves k).shape.refs
      (λ i. RefersTo (s.word ((move_of moves k).from + 2 + i)))
      (λ i within. one_referred moves (s.word ((move_of moves k).from + 2 + i))
      (slot_word moves found k i below within)))))

  -- that one can be reached
  next_reached : (moves : List Relocation) → AreFound moves → (a : ℕ) → IsNext moves a → Reached s a
  next_reached moves found a is = elim is [
    | inl root ↦ elim root [
      | inl h ↦ in_register h.0 h.2.0 a h.2.2.0 h.2.2.1
      | inr g ↦ in_global g.0 a g.1 g.2
    ]
    | inr other ↦ elim other [
      | inl k ↦ subst (Reached s) k.2.2 (at_scion k.0 k.2.0 k.2.1)
      | inr slot ↦
          let is = found_of moves found slot.0 slot.1 in
          let refs = ap (λ (z : Shape). z.refs) is.shape in
          let below = slot.2.1 in
          in_slot (move_of moves slot.0).from slot.2.0 a is.header is.reached is.starts (omega (arith, below, refs))
          slot.2.2
    ]
  ]

  each_more : (moves : List Relocation) → AreFound moves → (m : Relocation) → IsRelocation s m → (k : ℕ)
      (x : Relocation) → slice_get (m ∷ moves) k ≡ Some x → IsRelocation s x
  each_more moves found m is zero x at = subst (IsRelocation s) (same_Some m x at) is
  each_more moves found m is (suc k) x at = found.each k x at

  differ_more : (moves : List Relocation) → AreFound moves → (m : Relocation) → (IsSource moves m.from → ⊥) → (i j : ℕ)
      (a b : Relocation) → slice_get (m ∷ moves) i ≡ Some a → slice_get (m ∷ moves) j ≡ Some b → i < j
      → a.from ≢ b.from
  differ_more moves found m none i zero a b first second before same = omega (arith, before)
  differ_more moves found m none zero (suc j) a b first second before same =
      none (j, b, second, sym (ap (λ (x : Relocation). x.from) (same_Some m a first) ∙ same))
  differ_more moves found m none (suc i) (suc j) a b first second before same =
      found.differ i j a b first second (omega (arith, before)) same

  -- with one more they are objects that can be reached, each once
  found_more : (moves : List Relocation) → AreFound moves → (m : Relocation) → IsRelocation s m
      → (IsSource moves m.from → ⊥) → AreFound (m ∷ moves)
  found_more moves found m is none =
      record { each = each_more moves found m is; differ = differ_more moves found m none }

  -- what a slot of an object refers to that was found
  slot_next : (moves : List Relocation) → AreFound moves → (from i a : ℕ) (header : Header) → IsSource moves from
      → HeaderAt s from header → i < header.shape.refs → RefersTo (s.word (from + 2 + i)) a
      → (k : ℕ) × (k < length moves) × InSlot moves k a
  slot_next moves found from i a header (k, m, at, is) starts below refers =
      let one : move_of moves k ≡ m = get_or_from_slice_get moves k m no_move at in
      let move = found.each k m at in
      let shape : header.shape ≡ m.shape =
      ap (λ (h : Header). h.shape) (one_header s m.from header move.header
      (subst (λ (b : ℕ). HeaderAt s b header) (sym is) starts) move.starts) ∙ move.shape in
      let refs = ap (λ (z : Shape). z.refs) shape in
      let its_refs = ap (λ (x : Relocation). x.shape.refs) one in (
        k,
        slice_get_within moves k m at,
        (
          i,
          omega (arith, below, refs, its_refs),
          subst (λ (x : Relocation). RefersTo (s.word (x.from + 2 + i)) a) (sym one)
              (subst (λ (b : ℕ). RefersTo (s.word (b + 2 + i)) a) (sym is) refers),
        ),
      )

  -- where there is none, all that can be reached was found
  all_found : (moves : List Relocation) → AreFound moves → ((a : ℕ) → IsNext moves a → IsSource moves a) → (a : ℕ)
      → Reached s a → IsSource moves a
  all_found moves found closed a (in_register t r b holds first) =
      let below = held_below held t r a holds first in closed a (inl (inl (t, below.0, below.1)))
  all_found moves found closed a (in_global g b below refers) = closed a (inl (inr (g, below, refers)))
  all_found moves found closed a (at_scion k x live) =
      closed x.address (inr (inl (k, scion_below heap k x live, (x, live, refl))))
  all_found moves found closed a (in_slot from i b header reached starts below refers) =
      closed a (inr (inr (slot_next moves found from i a header
      (all_found moves found closed from reached) starts below refers)))

  -- all objects that can be reached, each once
  record FoundAll : Type 0 where
    moves : List Relocation
    found : AreFound moves
    all : (a : ℕ) → Reached s a → IsSource moves a

  -- they are found in fewer turns than there are words
  find_all : (turns : ℕ) (moves : List Relocation) → AreFound moves → s.base.size < length moves + turns → FoundAll
  find_all zero moves found enough = absurd (let few = few_found moves found in omega (arith, few, enough))
  find_all (suc turns) moves found enough = elim (one_next moves found) [
    | inr closed ↦ record { moves = moves; found = found; all = all_found moves found closed }
    | inl one ↦
        let reached = next_reached moves found one.0 one.1 in
        let n = reached_named maps s one.0 formed reached in
        let o = formed.words.objects one.0 n.0 n.1 in
        let m : Relocation = record { from = one.0; to = 0; shape = o.0.shape } in
        find_all turns (m ∷ moves) (found_more moves found m
        (record { reached = reached; header = o.0; starts = o.1.starts; shape = refl }) one.2)
        (omega (arith, enough))
  ]

  -- so their words have a sum
  reached_sum : (total : ℕ) × CountsWords s (Reached s) total
  reached_sum =
      let all = find_all (s.base.size + 1) []
      (record { each = λ k m at. absurd (cc); differ = λ i j a b first second before same. absurd (cc) })
      (omega arith) in
      let sum = words_in all.moves in (
        sum,
        counts_words s (Reached s) sum (counts_moves (cost_at s) (Reached s) (λ (m : Relocation). m.from) all.moves
            all.found.differ
            (λ k m at.
            let is = all.found.each k m at in
            (costs_at s).is m.from is.header is.starts ∙ source_cost s m is)
            all.all (λ k m at. (all.found.each k m at).reached)),
      )

  -- and one alone
  one_sum : (a b : ℕ) → CountsWords s (Reached s) a → CountsWords s (Reached s) b → a ≡ b
  one_sum a b first second =
      CostsSum-one second.cost (Reached s) a b
      (CostsSum-cost first.cost second.cost (Reached s) a
      (λ n reached.
      let named = reached_named maps s n formed reached in
      let o = formed.words.objects n named.0 named.1 in
      first.costs.is n o.0 o.1.starts ∙ sym (second.costs.is n o.0 o.1.starts))
      (record { members = first.members; once = first.once; all = first.all; adds_up = first.adds_up }))
      (record { members = second.members; once = second.once; all = second.all; adds_up = second.adds_up })

-- a heap that is well formed has a number of words at entry
has_entry : (heap : Heap) (held : List Registers) → IsFormed heap held
    → (words : ℕ) × EntryWords heap held words
has_entry heap held formed =
    let sum = reached_sum formed.maps heap held formed.disk formed.formed in (
      sum.0 + length heap.scions.live + length heap.globals + 16 * length held,
      record { objects = sum.0; reached = record { disk = formed.disk; counts = sum.1 }; is = refl },
    )

-- and one alone
one_entry : (heap : Heap) (held : List Registers) → IsFormed heap held → (a b : ℕ) → EntryWords heap held a
    → EntryWords heap held b → a ≡ b
one_entry heap held formed a b first second =
    let same = one_sum formed.maps heap held formed.disk formed.formed first.objects second.objects
    (counts_over heap held formed.disk first.objects first.reached)
    (counts_over heap held formed.disk second.objects second.reached) in
    let is = first.is in
    let other = second.is in
    omega (arith, same, is, other)

-- a bound by whatever number it is
pub visits_at_most : (times : ℕ) (heap : Heap) (held : List Registers) (before after : ℕ) → IsFormed heap held
    → ((words : ℕ) → EntryWords heap held words → after ≤ before + times * words)
    → VisitsAtMost times heap held before after
visits_at_most times heap held before after formed bound =
    let entry = has_entry heap held formed in
    record {
      words = entry.0;
      entry = entry.1;
      one = λ other is. one_entry heap held formed other entry.0 is entry.1;
      visits = bound entry.0 entry.1;
    }
