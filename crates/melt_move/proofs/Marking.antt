-- The marks of the objects to which those that leave refer.
use Rattle.std.proofs.Common.{◌≡◌, ◌↔◌, ◌⊎◌, inl, inr, ℕ, ◌+◌, ◌<◌, ◌≤◌, List, length, get_or, set, take, drop}
use Rattle.std.proofs.Common.{◌++◌, replicate, sym, ap, subst, ◌∙◌, arith, true}
use Rattle.std.proofs.Common.{false, get_or-set_same, get_or-set_other}
use Rattle.std.specs.Prelude.{Bool, None, Some, slice_get, slice_index}
use Rattle.std.proofs.lemmas.Bool.{cases_eq, cases_lt}
use Rattle.std.proofs.lemmas.List.{length-set, length-replicate, get_or-replicate, get_or_past, take-append-le}
use Rattle.std.proofs.lemmas.List.{take_all}
use Rattle.std.proofs.lemmas.Option.{same_Some, slice_get_within}
use Rattle.melt_word.specs.Words.{IsShape, cost_of}
use Rattle.melt_word.specs.declared.header.Header.{Header}
use Rattle.melt_word.specs.declared.header.Shape.{Shape}
use Rattle.melt_space.specs.Space.{SpaceWords, AreWords}
use Rattle.melt_scion.specs.State.{State, HeaderAt, RefersTo, Reached, in_slot}
use Rattle.melt_scion.proofs.Geometry.{one_header}
use Rattle.melt_copy.specs.Moving.{IsWhole, IsRefWord}
use Rattle.melt_move.specs.declared.choice.Departure.{Departure}
use Rattle.melt_move.specs.GivingHomes.{IsMarked, IsInSlots, AreSlots, MarksSlots, HasMarks}
use Rattle.melt_move.specs.Plans.{IsSeen, IsShaped, AreDepartures}

-- what a list of objects that leave has past its end
abbrev pub no_departure : Departure
no_departure = record { from = 0; shape = record { refs = 0; nums = 0 } }

-- an object of this shape, which can be reached, among the words
pub record IsPlaced (s : State) (address : ℕ) (shape : Shape) : Type 0 where
  pub first : 1 ≤ address
  pub within : address + cost_of shape ≤ s.base.size + 1
  pub below : address + cost_of shape ≤ s.free
  pub in_range : IsShape shape

pub shaped_placed : (s : State) (address : ℕ) (shape : Shape) → IsWhole s → Reached s address
    → IsShaped s address shape → IsPlaced s address shape
shaped_placed s address shape whole reached is =
    let o = whole.objects address reached in
    let one : o.0 ≡ is.header = one_header s address o.0 is.header o.1.starts is.starts in
    let same : o.0.shape ≡ shape = ap (λ (h : Header). h.shape) one ∙ is.is in
    record {
      first = o.1.first;
      within = let within = o.1.within in let cost = ap cost_of same in omega (arith, within, cost);
      below = let below = o.1.below in let cost = ap cost_of same in omega (arith, below, cost);
      in_range = subst IsShape is.is is.starts.in_range;
    }

pub not_marked : (n address : ℕ) → IsMarked (replicate n false) address → ⊥
not_marked n address marked = elim (cases_lt address n) [
  | inl below ↦
      let none : get_or (replicate n false) address false ≡ false = get_or-replicate n address false false below in cc
  | inr past ↦
      let size = length-replicate n false in
      let none : get_or (replicate n false) address false ≡ false =
      get_or_past (replicate n false) address false (omega (arith, past, size)) in
      cc
]

-- one mark more
marked_set : (marks : List Bool) (address x : ℕ) → address < length marks
    → IsMarked (set marks address true) x ↔ (IsMarked marks x ⊎ (address ≡ x))
marked_set marks address x within = (
  λ is. elim (cases_eq x address) [
    | inl same ↦ inr (sym same)
    | inr other ↦ inl (sym (get_or-set_other marks address x true false other) ∙ is)
  ],
  λ why. elim (cases_eq x address) [
    | inl same ↦ ap (λ (y : ℕ). get_or (set marks address true) y false) same
        ∙ get_or-set_same marks address true false within
    | inr other ↦ get_or-set_other marks address x true false other
        ∙ elim why [ inl old ↦ old | inr same ↦ absurd (other (sym same)) ]
  ],
)

next_slot : (slots : List ℕ) (n x : ℕ) → IsInSlots slots (n + 1) x
    ↔ (IsInSlots slots n x ⊎ RefersTo (slice_index slots n) x)
next_slot slots n x = (
  λ is. elim (cases_eq is.0 n) [
    | inl same ↦ inr (subst (λ (i : ℕ). RefersTo (slice_index slots i) x) same is.2)
    | inr other ↦ let below = is.1 in inl (is.0, omega (arith, below, other), is.2)
  ],
  λ why. elim why [
    | inl old ↦ let below = old.1 in (old.0, omega (arith, below), old.2)
    | inr new ↦ (n, omega arith, new)
  ],
)

-- the next slot refers to an object
pub marks_some : (slots : List ℕ) (n address : ℕ) (old a b : List Bool) → MarksSlots slots n old a
    → ((x : ℕ) → (Some address ≡ Some x) ↔ RefersTo (slice_index slots n) x) → address < length a
    → b ≡ set a address true → MarksSlots slots (n + 1) old b
marks_some slots n address old a b before refers within is = record {
  size = ap length is ∙ (length-set a address true ∙ before.size);
  marked = λ x. subst (λ (ms : List Bool). IsMarked ms x ↔ (IsMarked old x ⊎ IsInSlots slots (n + 1) x)) (sym is) (
    λ marked. elim ((marked_set a address x within).0 marked) [
      | inl there ↦ elim ((before.marked x).0 there) [
        | inl first ↦ inl first
        | inr slot ↦ inr ((next_slot slots n x).1 (inl slot))
      ]
      | inr same ↦ inr ((next_slot slots n x).1 (inr ((refers x).0 (ap Some same))))
    ],
    λ why. (marked_set a address x within).1 (elim why [
      | inl first ↦ inl ((before.marked x).1 (inl first))
      | inr slot ↦ elim ((next_slot slots n x).0 slot) [
        | inl there ↦ inl ((before.marked x).1 (inr there))
        | inr here ↦ inr (same_Some address x ((refers x).1 here))
      ]
    ]),
  );
}

-- the next slot refers to none
pub marks_none : (slots : List ℕ) (n : ℕ) (old a : List Bool) → MarksSlots slots n old a
    → ((x : ℕ) → (None ≡ Some x) ↔ RefersTo (slice_index slots n) x) → MarksSlots slots (n + 1) old a
marks_none slots n old a before refers = record {
  size = before.size;
  marked = λ x. (
    λ marked. elim ((before.marked x).0 marked) [
      | inl first ↦ inl first
      | inr slot ↦ inr ((next_slot slots n x).1 (inl slot))
    ],
    λ why. (before.marked x).1 (elim why [
      | inl first ↦ inl first
      | inr slot ↦ elim ((next_slot slots n x).0 slot) [
        | inl there ↦ inr there
        | inr here ↦ let none = (refers x).1 here in absurd (cc)
      ]
    ]),
  );
}

-- a slot of one of the first objects that leave, so many of them, refers to the address
abbrev pub IsNamedByFirst : State → List Departure → ℕ → ℕ → Type 0
IsNamedByFirst s leaving count address =
    (k : ℕ) × (d : Departure) × (i : ℕ) × (k < count) × (slice_get leaving k ≡ Some d) × (i < d.shape.refs)
    × RefersTo (s.word (d.from + 2 + i)) address

-- the first objects that leave have marked those to which they refer
pub record HasMarked (s : State) (leaving : List Departure) (count : ℕ) (marks : List Bool) : Type 0 where
  pub size : s.free ≤ length marks
  pub marked : (address : ℕ) → IsMarked marks address ↔ IsNamedByFirst s leaving count address

-- a vector that got back as many marks as it has
pub marks_back : (count : ℕ) (old new : List Bool) → length new ≡ count
    → take count (new ++ drop (length new) old) ≡ new
marks_back count old new same =
    take-append-le count new (drop (length new) old) (omega (arith, same)) ∙ take_all count new (omega (arith, same))

module _ (space : SpaceWords) (s : State) (leaving : List Departure) (seen : IsSeen space s)
    (are : AreDepartures s leaving) where
  pub marked_start : (marks : List Bool) → marks ≡ replicate (space.used + 1) false → HasMarked s leaving 0 marks
  marked_start marks is = record {
    size = let size = ap length is ∙ length-replicate (space.used + 1) false in let free = seen.free in
        omega (arith, size, free);
    marked = λ x. (
      λ marked. absurd (not_marked (space.used + 1) x (subst (λ (ms : List Bool). IsMarked ms x) is marked)),
      λ none. let below = none.3 in absurd (omega (arith, below)),
    );
  }

  -- an object that leaves stands among the words
  pub departs : (k : ℕ) (d : Departure) → slice_get leaving k ≡ Some d → IsPlaced s d.from d.shape
  departs k d at = let one = are.each k d at in shaped_placed s d.from d.shape seen.whole one.0.0 one.1

  slot_below : (d : Departure) (i : ℕ) (is : IsShaped s d.from d.shape) → i < d.shape.refs → i < is.header.shape.refs
  slot_below d i is below = let same = ap (λ (z : Shape). z.refs) is.is in omega (arith, below, same)

  -- the words of its slots
  pub slots_of : (k : ℕ) (d : Departure) (slots : List ℕ) (count : ℕ) (marks : List Bool)
      → slice_get leaving k ≡ Some d → HasMarked s leaving count marks
      → AreWords space (d.from + 2) d.shape.refs slots → AreSlots slots (length marks)
  slots_of k d slots count marks at before words = record {
    references = λ i below.
        let one = are.each k d at in
        let lower : i < d.shape.refs = let size = words.count_is in omega (arith, below, size) in
        subst IsRefWord (seen.word (d.from + 2 + i) ∙ sym (words.each i lower))
        (seen.whole.slots d.from i one.1.header one.0.0 one.1.starts (slot_below d i one.1 lower));
    below = λ i x below refers.
        let one = are.each k d at in
        let lower : i < d.shape.refs = let size = words.count_is in omega (arith, below, size) in
        let there : RefersTo (s.word (d.from + 2 + i)) x =
        subst (λ (w : ℕ). RefersTo w x) (words.each i lower ∙ sym (seen.word (d.from + 2 + i))) refers in
        let o = seen.whole.objects x (in_slot d.from i x one.1.header one.0.0 one.1.starts
        (slot_below d i one.1 lower) there) in
        let end = o.1.below in
        let size = before.size in
        omega (arith, end, size);
  }

  -- one more has marked those to which it refers
  pub marked_more : (k : ℕ) (d : Departure) (slots : List ℕ) (a b : List Bool) → slice_get leaving k ≡ Some d
      → HasMarked s leaving k a → AreWords space (d.from + 2) d.shape.refs slots
      → MarksSlots slots (length slots) a b → HasMarked s leaving (k + 1) b
  marked_more k d slots a b at before words marks = record {
    size = let size = marks.size in let old = before.size in omega (arith, size, old);
    marked = λ x. (
      λ marked. elim ((marks.marked x).0 marked) [
        | inl old ↦
            let named = (before.marked x).0 old in
            let below = named.3 in
            (named.0, named.1, named.2, omega (arith, below), named.4, named.5, named.6)
        | inr slot ↦
            let below = slot.1 in
            let size = words.count_is in
            let lower : slot.0 < d.shape.refs = omega (arith, below, size) in (
              k,
              d,
              slot.0,
              omega arith,
              at,
              lower,
              subst (λ (w : ℕ). RefersTo w x) (words.each slot.0 lower ∙ sym (seen.word (d.from + 2 + slot.0))) slot.2,
            )
      ],
      λ named. (marks.marked x).1 (elim (cases_eq named.0 k) [
        | inl same ↦
            let one : named.1 ≡ d = same_Some named.1 d (sym named.4 ∙ (ap (slice_get leaving) same ∙ at)) in
            let here = subst (λ (e : Departure). (named.2 < e.shape.refs) × RefersTo (s.word (e.from + 2 + named.2)) x)
            one (named.5, named.6) in
            let size = words.count_is in
            let lower = here.0 in
            inr (
              named.2,
              omega (arith, lower, size),
              subst (λ (w : ℕ). RefersTo w x) (seen.word (d.from + 2 + named.2) ∙ sym (words.each named.2 lower))
                  here.1,
            )
        | inr other ↦
            let below = named.3 in
            inl ((before.marked x).1
            (named.0, named.1, named.2, omega (arith, below, other), named.4, named.5, named.6))
      ]),
    );
  }

  -- all have
  pub marked_all : (count : ℕ) (marks : List Bool) → length leaving ≤ count → HasMarked s leaving count marks
      → HasMarks s marks
  marked_all count marks whole done = record {
    size = done.size;
    marked = λ x. (
      λ marked.
          let named = (done.marked x).0 marked in
          let one = are.each named.0 named.1 named.4 in
          record {
            object = named.1.from;
            header = one.1.header;
            slot = named.2;
            leaves = one.0;
            starts = one.1.starts;
            below = slot_below named.1 named.2 one.1 named.5;
            refers = named.6;
          },
      λ named.
          let d = are.all named.object named.leaves in
          let one = are.each d.0 d.1 d.2 in
          let below = slice_get_within leaving d.0 d.1 d.2 in
          let starts = subst (λ (a : ℕ). HeaderAt s a named.header) (sym d.3) named.starts in
          let shape : named.header.shape.refs ≡ d.1.shape.refs =
          ap (λ (h : Header). h.shape.refs) (one_header s d.1.from named.header one.1.header starts one.1.starts)
          ∙ ap (λ (z : Shape). z.refs) one.1.is in
          let lower = named.below in
          (done.marked x).1 (
            d.0,
            d.1,
            named.slot,
            omega (arith, below, whole),
            d.2,
            omega (arith, lower, shape),
            subst (λ (a : ℕ). RefersTo (s.word (a + 2 + named.slot)) x) (sym d.3) named.refers,
          ),
    );
  }
