-- A state without objects and homes stands for the empty history.
use Rattle.std.proofs.Common.{◌≡◌, ◌≢◌, ℕ, zero, suc, ◌<◌, refl, sym, ◌∙◌, ap, subst, arith, inl, inr, List, [], length}
use Rattle.std.proofs.Common.{replicate, Bool}
use Rattle.std.proofs.lemmas.List.{get_or-replicate, get_or_past, length-replicate}
use Rattle.std.proofs.lemmas.Bool.{cases_lt}
use Rattle.std.specs.Prelude.{◌^◌, ◌/◌, Option, None, Some, Contains, slice_index, slice_index_or}
use Rattle.std.specs.Option.{option_map}
use Rattle.melt_model.specs.declared.history.Value.TheVariants.{Nil}
use Rattle.melt_word.specs.declared.header.Shape.{Shape}
use Rattle.melt_forward.specs.Forwarding.{Sends, forward_word, probe}
use Rattle.melt_forward.proofs.Probing.{probe_within}
use Rattle.melt_scion.specs.State.{State, NoGaps, IsReserved, Follow}
use Rattle.melt_scion.specs.Placed.{Maps, FormedWords, Formed, Tells, Placed, value_at}
use Rattle.melt_scion.specs.Scions.{empty_table}
use Rattle.melt_scion.specs.Heaps.{no_homes_on, scion_in, state_of, IsNewHeap}
use Rattle.melt_scion.specs.declared.registers.Registers.{Registers}
use Rattle.melt_scion.specs.declared.heap.Heap.{Heap}
use Rattle.melt_scion.proofs.Making.{null_may, null_stands}

-- no object has an address or a home
pub record NoObjects (maps : Maps) : Type 0 where
  pub address : (a : ℕ) → maps.address a ≡ None
  pub home : (home : ℕ) → maps.home home ≡ None

-- no scions and no homes; globals and forwarding words hold 0
pub record IsEmpty (s : State) : Type 0 where
  pub small : s.base.size < 2 ^ 30
  pub forwards : (p : ℕ) → p < s.base.forwards → s.forward p ≡ 0
  pub scions : (k : ℕ) → s.base.scion k ≡ None
  pub end : s.base.end ≡ 1
  pub homes : s.base.homes ≡ []
  pub free_homes : s.base.free_homes ≡ []
  pub globals : (g : ℕ) → g < s.base.globals → s.global g ≡ 0

-- words that all are 0
pub nothing_at : (count k : ℕ) → slice_index (replicate count 0) k ≡ 0
nothing_at count k = elim (cases_lt k count) [
  | inl below ↦ get_or-replicate count k 0 0 below
  | inr above ↦ get_or_past (replicate count 0) k 0 (omega (arith, length-replicate {A = ℕ} count 0, above))
]

-- none of so many pairs is there
abbrev no_pairs : ℕ → List (Option (ℕ × ℕ))
no_pairs count = replicate count None

no_pair_at : (count k : ℕ) → slice_index_or (no_pairs count) k None ≡ None
no_pair_at count k = elim (cases_lt k count) [
  | inl below ↦ get_or-replicate count k None None below
  | inr above ↦ get_or_past (no_pairs count) k None
      (omega (arith, length-replicate {A = Option (ℕ × ℕ)} count None, above))
]

-- and no scion of an empty table is live
pub no_scion_in : (count k : ℕ) → scion_in (empty_table count) k ≡ None
no_scion_in count zero = refl
no_scion_in count (suc k) = ap (option_map (λ (pair : ℕ × ℕ). record { home = pair.0; address = pair.1 }))
    (no_pair_at count k)

-- a new heap is empty
pub new_heap_empty : (heap : Heap) (held : List Registers) (words globals forward : ℕ) (named : Bool) → words < 2 ^ 30 →
    IsNewHeap words globals forward named heap → IsEmpty (state_of heap held no_homes_on)
new_heap_empty heap held words globals forward named small is = record {
  small = let size : length heap.space.list ≡ words = is.space.size in omega arith;
  forwards = λ p below. ap (λ xs. slice_index xs p) is.nothing_forwarded ∙ nothing_at forward p;
  scions = λ k. ap (λ table. scion_in table k) is.scions ∙ no_scion_in (words / 2) k;
  end = refl;
  homes = refl;
  free_homes = refl;
  globals = λ g below. ap (λ xs. slice_index xs g) is.globals_hold_nothing ∙ nothing_at globals g;
}

-- an empty forwarding word sends no home
pub sends_nothing : (word home address : ℕ) → word ≡ 0 → Sends word home address → ⊥
sends_nothing word home address is sends =
    let some : 0 < home = sends.home_in_range.not_null in
    let spelled : word ≡ forward_word home address = sends.is in
    omega arith

-- where none is filled, none is empty before one that is
pub settled_gaps : (s : State) → ((p : ℕ) → s.forward p ≡ 0) → NoGaps s
settled_gaps s settled = record {
  filled = λ home address k i below sends less gap.
      sends_nothing (s.forward (probe home s.base.forwards k)) home address
      (settled (probe home s.base.forwards k)) sends;
}

module _ (maps : Maps) (s : State) (none : NoObjects maps) (empty : IsEmpty s) where
  no_name : (a n : ℕ) → maps.address a ≢ Some n
  no_name a n named = let e : None ≡ Some n = sym (none.address a) ∙ named in absurd (cc)

  no_home : (home n : ℕ) → maps.home home ≢ Some n
  no_home home n has = let e : None ≡ Some n = sym (none.home home) ∙ has in absurd (cc)

  no_scion : {A : Type 0} (k : ℕ) (x : A) → (y : Option A) → y ≡ None → y ≢ Some x
  no_scion k x y is live = let e : None ≡ Some x = sym is ∙ live in absurd (cc)

  pub FormedWords_start : FormedWords maps s
  FormedWords_start = record {
    small = empty.small;
    first_end = let e : s.base.end ≡ 1 = empty.end in omega arith;
    small_end = let e : s.base.end ≡ 1 = empty.end in omega arith;
    objects = λ a n named. absurd (no_name a n named);
    apart = λ a b n m header named other starts less. absurd (no_name a n named);
    slots = λ a n i header named starts below. absurd (no_name a n named);
    home_words = λ a n header named starts. absurd (no_name a n named);
    globals = λ g below. null_may maps s (s.global g) (empty.globals g below);
    scions = λ k x live. absurd (no_scion k x (s.base.scion k) (empty.scions k) live);
    forwards = λ p below. inl (empty.forwards p below);
    one_forward = λ p q home a b in_p in_q sends_a sends_b.
        absurd (sends_nothing (s.forward p) home a (empty.forwards p in_p) sends_a);
  }

  pub NoGaps_start : NoGaps s
  NoGaps_start = record {
    filled = λ home address k i below sends less gap.
        sends_nothing (s.forward (probe home s.base.forwards k)) home address
        (empty.forwards (probe home s.base.forwards k) (probe_within home s.base.forwards k below)) sends;
  }

  -- the words are well formed where registers hold nothing
  pub Formed_start : ((t r : ℕ) → s.register t r ≡ 0) → Formed maps s
  Formed_start nothing = record { words = FormedWords_start; registers = λ t r. inl (nothing t r) }

  not_reserved : (home : ℕ) (z : Shape) → IsReserved s.base.homes home z → ⊥
  not_reserved home z is =
      absurd (let e : IsReserved [] home z = subst (λ hs. IsReserved hs home z) empty.homes is in cc)

  pub Tells_start : Tells [] maps s
  Tells_start = record {
    one_address = λ a b n named other. absurd (no_name a n named);
    one_home = λ a b n has other. absurd (no_home a n has);
    homes_follow = subst (λ hs. Follow 1 hs s.base.end) (sym empty.homes) (sym empty.end);
    taken = λ home. (
      λ has. absurd (no_home home has.0 has.1),
      λ is.
          absurd (not_reserved home is.reserved_for is.reserved),
    );
    free_homes = λ home is.
        absurd (let e : Contains [] home = subst (λ hs. Contains hs home) empty.free_homes is in let below : e.0 < 0 =
        e.1 in omega arith);
    shapes = λ a n header named starts. absurd (no_name a n named);
    slots = λ a n i header named starts below. absurd (no_name a n named);
    numbers = λ a n j header named starts below. absurd (no_name a n named);
    globals = λ g below. null_stands maps (s.global g) (empty.globals g below);
    homes = λ home n has. absurd (no_home home n has);
    home_words = λ a n home named has. absurd (no_name a n named);
    named_homes = λ a n home scion named range is. absurd (no_name a n named);
    stubs = λ k x live. absurd (no_scion k x (s.base.scion k) (empty.scions k) live);
  }

  -- and stand for the empty history, and registers for Nil
  pub Placed_start : ((t r : ℕ) → s.register t r ≡ 0) → Placed [] (λ t r. Nil) maps s
  Placed_start nothing = record {
    formed = Formed_start nothing;
    tells = Tells_start;
    registers = λ t r. ap (value_at maps) (nothing t r);
  }
