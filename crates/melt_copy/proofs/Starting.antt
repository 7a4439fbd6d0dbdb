-- What is copied before the first object is found.
use Rattle.std.proofs.Common.{◌≡◌, ℕ, zero, suc, ◌+◌, ◌≤◌, List, [], length, replicate, refl, sym, ap, ◌∙◌, subst}
use Rattle.std.proofs.Common.{arith}
use Rattle.std.specs.Prelude.{Option, None, Some, slice_index_or}
use Rattle.std.proofs.lemmas.List.{length-replicate}
use Rattle.std.proofs.lemmas.Option.{same_Some}
use Rattle.melt_model.specs.declared.reports.Phase.{Phase}
use Rattle.melt_space.specs.Space.{SpaceWords, IsSpace, word_at}
use Rattle.melt_scion.specs.Names.{name_at}
use Rattle.melt_scion.specs.State.{State}
use Rattle.melt_scion.specs.State.Reached.{in_register}
use Rattle.melt_scion.specs.Placed.{Maps, Formed}
use Rattle.melt_scion.specs.Heaps.{OnDisk, NamesMade, register_in, state_of}
use Rattle.melt_scion.specs.declared.registers.Registers.{Registers}
use Rattle.melt_scion.specs.declared.heap.Names.{Names}
use Rattle.melt_scion.specs.declared.heap.Heap.{Heap}
use Rattle.melt_copy.specs.declared.forwarding.Relocation.{Relocation}
use Rattle.melt_copy.specs.declared.to_space.ToSpace.{ToSpace}
use Rattle.melt_copy.specs.Moving.{Relocates, words_in}
use Rattle.melt_copy.specs.Evacuating.{AreCarried, Collection, EvacuatesThreads, place_of}
use Rattle.melt_copy.proofs.Roots.{none_there, whole_heap}

abbrev no_number : Option ℕ
no_number = None

none_of_none : (n k : ℕ) → slice_index_or (replicate n no_number) k None ≡ None
none_of_none zero k = refl
none_of_none (suc n) zero = refl
none_of_none (suc n) (suc k) = none_of_none n k

-- no address has a number
no_name : (n k : ℕ) → name_at (replicate n no_number) k ≡ None
no_name n zero = refl
no_name n (suc k) = none_of_none n k

-- the names of a heap were taken, for objects of which none has moved
pub none_carried : (words : ℕ) (old : Option Names) (taken : Names) (moved : List (Option ℕ)) → NamesMade words old
    → old ≡ Some taken → moved ≡ replicate words None
    → AreCarried old (Some (record { names = taken; moved = moved })) []
none_carried words None taken moved made is empty = absurd (cc)
none_carried words (Some old) taken moved made is empty = (
  λ k. ap (λ (ms : List (Option ℕ)). name_at ms k) empty ∙ no_name words k,
  ap length empty ∙ (length-replicate words None ∙ sym made),
  sym (same_Some old taken is),
)

none_placed : (moves : List Relocation) (a : ℕ) → moves ≡ [] → place_of moves a ≡ 0
none_placed moves a empty = ap (λ (ms : List Relocation). place_of ms a) empty

none_moved : (s : State) (moves : List Relocation) (next : ℕ) → moves ≡ [] → next ≡ 0
    → Relocates s (place_of moves) moves (next + 1)
none_moved s moves next empty at_0 = record {
  whole = λ k m at. absurd (none_there moves k m empty at);
  found = λ k m at. absurd (none_there moves k m empty at);
  only = λ a known. absurd (known (none_placed moves a empty));
  places = λ k m at. absurd (none_there moves k m empty at);
  after =
      ap (λ (n : ℕ). n + 1) at_0 ∙ ap (λ (ms : List Relocation). 1 + words_in ms) (sym empty);
}

-- the collection of a heap, of whose objects registers hold so many
abbrev pub collection_of : Phase → Heap → List Registers → OnDisk → ℕ → Collection
collection_of phase heap held disk held_count =
    record { phase = phase; state = state_of heap held disk; names = heap.names; held_count = held_count }

-- a copy of no objects of a heap, whose names were taken
pub record Begins (heap : Heap) (space : SpaceWords) (to : ToSpace) : Type 0 where
  pub space_is : space ≡ heap.space
  pub is_space : IsSpace heap.space
  pub next : to.next ≡ 0
  pub room : heap.space.used ≤ length to.words.items
  pub moves : to.moves ≡ []
  pub names : AreCarried heap.names to.names []
  pub made : NamesMade (length heap.space.list) heap.names

-- before the first object is found
pub evacuates_start : (maps : Maps) (disk : OnDisk) (heap : Heap) (held : List Registers) (phase : Phase) (held_count :
    ℕ)
    (space : SpaceWords) (to : ToSpace) → Begins heap space to → Formed maps (state_of heap held disk)
    → EvacuatesThreads (collection_of phase heap held disk held_count) space to held
evacuates_start maps disk heap held phase held_count space to begins formed = record {
  evacuates = record {
    whole = whole_heap maps heap held disk begins.is_space formed;
    holds = none_moved (state_of heap held disk) to.moves to.next begins.moves begins.next;
    size = ap (λ (sp : SpaceWords). length sp.list) (sym begins.space_is);
    free = ap (λ (sp : SpaceWords). sp.used + 1) (sym begins.space_is);
    room = (let used = ap (λ (sp : SpaceWords). sp.used) begins.space_is in let room = begins.room in
        omega (arith, used, room));
    within = omega arith;
    forwarded = λ a known. absurd (known (none_placed to.moves a begins.moves));
    kept = λ a none. ap (λ (sp : SpaceWords). word_at sp a) begins.space_is;
    moved = λ k m i at. absurd (none_there to.moves k m begins.moves at);
    waiting = λ k m i at. absurd (none_there to.moves k m begins.moves at);
    names = subst (AreCarried heap.names to.names) (sym begins.moves) begins.names;
    made = subst (λ (sp : SpaceWords). NamesMade (length sp.list) heap.names) (sym begins.space_is) begins.made;
  };
  reached = λ t r full. in_register t r (register_in held t r) refl (omega (arith, full));
}
