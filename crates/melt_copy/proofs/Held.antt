-- The objects in registers are found first.
use Rattle.std.proofs.Common.{◌≡◌, ◌≢◌, ℕ, ◌+◌, ◌<◌, ◌≤◌, zero, suc, List, [], ◌∷◌, length, get_or, refl, sym, subst}
use Rattle.std.proofs.Common.{ap, ◌∙◌, arith, ◌⊎◌, inl, inr, below_more}
use Rattle.std.specs.Prelude.{slice_get, slice_index, Some}
use Rattle.std.proofs.lemmas.Bool.{cases_lt}
use Rattle.melt_space.specs.Space.{SpaceWords}
use Rattle.melt_scion.specs.State.{State, Reached}
use Rattle.melt_scion.specs.Heaps.{register_in}
use Rattle.melt_scion.specs.declared.registers.Registers.{Registers}
use Rattle.melt_copy.specs.declared.forwarding.Relocation.{Relocation}
use Rattle.melt_copy.specs.declared.forwarding.Forwarding.{Forwarding}
use Rattle.melt_copy.proofs.Growth.{Grows-more}
use Rattle.melt_copy.specs.Tracking.{goes, Tracks, TracksAt, TracksHeld, TracksThreads, Grows, FindsHeld}

-- an object that was found is found in a forwarding that grew
pub still_known : (a b : Forwarding) (address : ℕ) → Grows a b → goes a address ≢ 0 → goes b address ≢ 0
still_known a b address grows known = λ (nought : goes b address ≡ 0). known (sym (grows.goes address known) ∙ nought)

pub tracks_register : (space : SpaceWords) (s : State) (a b : Forwarding) (register : ℕ → ℕ) (r : ℕ)
    → TracksHeld space s a register → Tracks space s b → register r ≢ 0 → TracksAt space s b (register r)
tracks_register space s a b register r held tracks full = record { tracks = tracks; reached = held.reached r full }

-- one register more
pub found_more : (a b : Forwarding) (register : ℕ → ℕ) (n : ℕ) → Grows a b
    → ((r : ℕ) → r < n → register r ≢ 0 → goes a (register r) ≢ 0) → (register n ≢ 0 → goes b (register n) ≢ 0)
    → (r : ℕ) → r < n + 1 → register r ≢ 0 → goes b (register r) ≢ 0
found_more a b register n grows before here =
    below_more (λ r. register r ≢ 0 → goes b (register r) ≢ 0) n
    (λ r below full. still_known a b (register r) grows (before r below full)) here

-- what holds when the first registers, so many of them, were looked at
pub record HoldsSoFar (space : SpaceWords) (old a : Forwarding) (register : ℕ → ℕ) (n : ℕ) : Type 0 where
  pub all : (r : ℕ) → r < n → register r ≢ 0 → goes a (register r) ≢ 0
  pub each : (k : ℕ) (m : Relocation) → slice_get a.moves.items k ≡ Some m → (slice_get old.moves.items k ≡ Some m)
      ⊎ ((r : ℕ) × (register r ≡ m.from))
  pub grows : Grows old a
  pub tracks : (s : State) → TracksHeld space s old register → Tracks space s a

pub holds_found : {space : SpaceWords} {old a b : Forwarding} {register : ℕ → ℕ} {n : ℕ}
    → HoldsSoFar space old a register n → register n ≢ 0 → {to : ℕ} → to ≢ 0 → goes b (register n) ≡ to → Grows a b →
    ((k : ℕ) (m : Relocation) → slice_get b.moves.items k ≡ Some m → (slice_get a.moves.items k ≡ Some m) ⊎ (m.from ≡
    register n)) → ((s : State) → TracksAt space s a (register n) → Tracks space s b)
    → HoldsSoFar space old b register (n + 1)
holds_found {space} {old} {a} {b} {register} {n} before full there goes_there grows only tracks = record {
  all = found_more a b register n grows before.all
      (λ _ (nought : goes b (register n) ≡ 0). there (sym goes_there ∙ nought));
  each = λ k m at. elim (only k m at) [
    | inl there ↦ before.each k m there
    | inr new ↦ inr (n, sym new)
  ];
  grows = Grows-more old a b before.grows grows;
  tracks = λ s held. tracks s (tracks_register space s old a register n held (before.tracks s held) full);
}

pub holds_empty : (space : SpaceWords) (old a : Forwarding) (register : ℕ → ℕ) (n : ℕ)
    → HoldsSoFar space old a register n → register n ≡ 0 → HoldsSoFar space old a register (n + 1)
holds_empty space old a register n before empty = record {
  all = below_more (λ (r : ℕ). register r ≢ 0 → goes a (register r) ≢ 0) n before.all
      (λ (full : register n ≢ 0). absurd (full empty));
  each = before.each;
  grows = before.grows;
  tracks = before.tracks;
}

register_of : (held : List Registers) (t r : ℕ) (thread : Registers) → t < length held → thread ≡ get_or held t thread
    → register_in held t r ≡ slice_index thread.regs r
register_of [] t r thread below is = absurd (omega (arith, below))
register_of (x ∷ held) zero r thread below is = ap (λ (y : Registers). slice_index y.regs r) (sym is)
register_of (x ∷ held) (suc t) r thread below is = register_of held t r thread (omega (arith, below)) is

pub tracks_thread : {space : SpaceWords} {s : State} {a b : Forwarding} {held : List Registers} (t : ℕ)
    {thread : Registers} → t < length held → thread ≡ get_or held t thread → TracksThreads space s a held
    → Tracks space s b → TracksHeld space s b (slice_index thread.regs)
tracks_thread {s} {held} t {thread} below is threads tracks = record {
  tracks = tracks;
  reached = λ r full.
      let same : register_in held t r ≡ slice_index thread.regs r = register_of held t r thread below is in
      subst (Reached s) same (threads.reached t r (λ (nought : register_in held t r ≡ 0). full (sym same ∙ nought)));
}

-- the registers of one thread more
pub threads_more : {a b : Forwarding} (held : List Registers) (n : ℕ) {thread : Registers} → n < length held
    → thread ≡ get_or held n thread → Grows a b → FindsHeld a b (slice_index thread.regs)
    → ((t r : ℕ) → t < n → register_in held t r ≢ 0 → goes a (register_in held t r) ≢ 0) → (t r : ℕ) → t < n + 1
    → register_in held t r ≢ 0 → goes b (register_in held t r) ≢ 0
threads_more {a} {b} held n {thread} below is grows finds before t r under =
    below_more (λ (t : ℕ). register_in held t r ≢ 0 → goes b (register_in held t r) ≢ 0) n
    (λ t lower full. still_known a b (register_in held t r) grows (before t r lower full))
    (λ (full : register_in held n r ≢ 0).
    let same : register_in held n r ≡ slice_index thread.regs r = register_of held n r thread below is in
    subst (λ (address : ℕ). goes b address ≢ 0) (sym same)
    (finds.all r (λ (nought : slice_index thread.regs r ≡ 0). full (same ∙ nought))))
    t under

pub each_thread_more : (old : Forwarding) {a b : Forwarding} (held : List Registers) (n : ℕ) {thread : Registers}
    → n < length held → thread ≡ get_or held n thread → FindsHeld a b (slice_index thread.regs) → ((k : ℕ) (m :
    Relocation) → slice_get a.moves.items k ≡ Some m → (slice_get old.moves.items k ≡ Some m) ⊎ ((t : ℕ) × (r : ℕ) ×
    (register_in held t r ≡ m.from))) → (k : ℕ) (m : Relocation) → slice_get b.moves.items k ≡ Some m
    → (slice_get old.moves.items k ≡ Some m) ⊎ ((t : ℕ) × (r : ℕ) × (register_in held t r ≡ m.from))
each_thread_more old held n {thread} below is finds before k m at =
    elim (finds.each k m at) [
      | inl there ↦ before k m there
      | inr new ↦ inr (n, new.0, register_of held n new.0 thread below is ∙ new.1)
    ]

-- past the last thread no register holds anything
pub past_threads : (held : List Registers) (t r : ℕ) → length held ≤ t → register_in held t r ≡ 0
past_threads [] t r above = refl
past_threads (x ∷ held) zero r above = absurd (omega (arith, above))
past_threads (x ∷ held) (suc t) r above = past_threads held t r (omega (arith, above))

pub all_threads : (forwarding : Forwarding) (held : List Registers)
    → ((t r : ℕ) → t < length held → register_in held t r ≢ 0 → goes forwarding (register_in held t r) ≢ 0) → (t r : ℕ)
    → register_in held t r ≢ 0 → goes forwarding (register_in held t r) ≢ 0
all_threads forwarding held before t r full =
    elim (cases_lt t (length held)) [
      | inl below ↦ before t r below full
      | inr above ↦ absurd (full (past_threads held t r above))
    ]
