-- Which stale bits a planned collection leaves, and which objects it takes away.
use Rattle.std.proofs.Common.{◌≡◌, ◌≢◌, ◌⊎◌, ℕ, List, [], ◌∷◌, inl, inr, refl, sym, ◌∙◌, ap, subst}
use Rattle.std.proofs.Common.{Bool, true, false}
use Rattle.std.proofs.Math.ListN.{length-map}
use Rattle.std.specs.Prelude.{◌↔◌, Contains, Option, Some, map, unwrap_or}
use Rattle.melt_model.specs.Alive.{Alive, Held}
use Rattle.melt_model.specs.declared.reports.Journal.{Journal}
use Rattle.melt_model.specs.declared.reports.Phase.{Phase}
use Rattle.melt_model.specs.declared.reports.Phase.TheVariants.{Inactive, Mark, Move}
use Rattle.melt_word.specs.Words.{header_word}
use Rattle.melt_word.specs.declared.header.Header.{Header}
use Rattle.melt_scion.specs.State.{State, HeaderAt, ObjectAt, HoldsAt, Reached}
use Rattle.melt_scion.specs.Placed.{Maps, Placed, value_at}
use Rattle.melt_scion.specs.Moves.{Arrives, BitGoes, Leaves, NamesHomes}
use Rattle.melt_scion.specs.Heaps.{OnDisk, state_of}
use Rattle.melt_scion.specs.declared.heap.Names as name_table
use Rattle.melt_scion.specs.declared.heap.Heap.{Heap}
use Rattle.melt_scion.specs.declared.registers.Registers.{Registers}
use Rattle.melt_scion.proofs.Geometry.{one_header}
use Rattle.melt_scion.proofs.Numbers.{contains_here}
use Rattle.melt_scion.proofs.Phases.{leaving_not_held, leaving_reached}
use Rattle.melt_scion.proofs.Reaching.{held_address, reached_named, value_held}
use Rattle.melt_move.specs.Collecting.{Counts as CountsEach}
use Rattle.melt_core.specs.StaleBits.{BitIs, HasBit, sight}
use Rattle.melt_core.specs.Views.{View, InUse, maps, maps_of, value}
use Rattle.melt_safepoint.specs.Bits.{BitsAfter, IsOnDisk, IsTakenAway, TakesAway}
use Rattle.melt_safepoint.specs.Resting.{Beside, with_names_held, rest_view}
use Rattle.melt_safepoint.proofs.Collecting.{RestsOver, placed_told, maps_after}
use Rattle.melt_safepoint.proofs.Found.{alive_reached, home_reached}
use Rattle.melt_safepoint.proofs.MovedSums.{contains_or_not, distinct, moved_from, moved_there}
use Rattle.melt_safepoint.proofs.PlannedRest.{Carried}

-- what becomes of the stale bit of an object, by what registers hold
abbrev BitTurns : Phase → View → ℕ → Bool → Bool → Type 0
BitTurns Inactive v n old later = later ≡ old
BitTurns Mark v n old later = (later ≡ false) ↔ Held (value v) n
BitTurns Move v n old later = (later ≡ false) ↔ Held (value v) n

-- the object was in use before, and its bit became this
record Came (phase : Phase) (v : View) (n : ℕ) (stale : Bool) : Type 0 where
  old : Bool
  bit : BitIs (sight v) n old
  turns : BitTurns phase v n old stale

-- so are all bits that a view shows
bits_by : (phase : Phase) (v w : View) → ((n : ℕ) (stale : Bool) → BitIs (sight w) n stale → Came phase v n stale)
    → BitsAfter phase v w
bits_by Inactive v w came = record {
  stale = λ n bit. let was = came n true bit in subst (BitIs (sight v) n) (sym was.turns) was.bit;
  fresh = λ n bit. let was = came n false bit in subst (BitIs (sight v) n) (sym was.turns) was.bit;
}
bits_by Mark v w came = record {
  stale = λ n bit held. let wrong : true ≡ false = (came n true bit).turns.1 held in absurd (cc);
  fresh = λ n bit. (came n false bit).turns.0 refl;
}
bits_by Move v w came = record {
  stale = λ n bit held. let wrong : true ≡ false = (came n true bit).turns.1 held in absurd (cc);
  fresh = λ n bit. (came n false bit).turns.0 refl;
}

-- what registers hold is told by addresses and by numbers
turned : (phase : Phase) (s : State) (v : View) (a n : ℕ) (old later : Header) → HoldsAt s a ↔ Held (value v) n
    → BitGoes phase s a old later → BitTurns phase v n old.stale later.stale
turned Inactive s v a n old later same goes = goes
turned Mark s v a n old later same goes = (λ fresh. same.0 (goes.0 fresh), λ held. goes.1 (same.1 held))
turned Move s v a n old later same goes = (λ fresh. same.0 (goes.0 fresh), λ held. goes.1 (same.1 held))

-- what leaves has the stale bit
leaving_stale : (phase : Phase) (s : State) (a : ℕ) → Leaves phase s a
    → (header : Header) × HeaderAt s a header × (header.stale ≡ true)
leaving_stale Inactive s a leaves = absurd leaves
leaving_stale Mark s a leaves = absurd leaves
leaving_stale Move s a leaves = leaves.2

-- and leaves in a Move
leaving_moves : (phase : Phase) (s : State) (a : ℕ) → Leaves phase s a → phase ≡ Move
leaving_moves Inactive s a leaves = absurd leaves
leaving_moves Mark s a leaves = absurd leaves
leaving_moves Move s a leaves = refl

none_in : (xs : List ℕ) → ((x : ℕ) → Contains xs x → ⊥) → xs ≡ []
none_in [] none = refl
none_in (x ∷ xs) none = absurd (none x (contains_here x xs))

module _ (told : Bool) (phase : Phase) (disk : OnDisk) (heap new : Heap) (b : Beside) (names : Option name_table.Names)
    (registers : List Registers) (finish : ℕ) (image : Option (List ℕ)) (journal : Journal)
    (rests : RestsOver told disk heap b)
    (c : Carried told phase disk heap new b names registers finish image journal) (tells : told ≡ true) where
  abbrev v : View
  v = rest_view heap b

  abbrev w : View
  w = rest_view new (with_names_held b names registers)

  abbrev m : Maps
  m = maps_of b.names

  abbrev s : State
  s = state_of c.mid b.held c.between

  abbrev t : State
  t = state_of new registers c.was.later

  -- the settled heap stands for the history
  placed_mid : Placed b.log (value v) m s
  placed_mid = placed_told told c.between (rest_view c.mid b) c.at_mid.stands tells

  -- what a register holds
  holds_number : (a n : ℕ) → m.address a ≡ Some n → HoldsAt s a ↔ Held (value v) n
  holds_number a n named = (
    λ holds.
        let stands : value_at m a ≡ Some (value v holds.thread holds.register) =
        ap (value_at m) (sym holds.holds) ∙ placed_mid.registers holds.thread holds.register in
        let object = placed_mid.formed.words.objects a n named in
        record {
          thread = holds.thread;
          register = holds.register;
          holds = value_held m a n (value v holds.thread holds.register) stands object.1.first named;
        },
    λ held.
        let at : ℕ = s.register held.thread held.register in
        let is = held_address m n at (value v held.thread held.register)
        (placed_mid.registers held.thread held.register) held.holds in
        record {
          thread = held.thread;
          register = held.register;
          holds = placed_mid.tells.one_address at a n is.1 named;
        },
  )

  -- settling changed no stale bit
  bit_before : (a n : ℕ) (header : Header) → m.address a ≡ Some n → HeaderAt s a header
      → BitIs (sight v) n header.stale
  bit_before a n header named starts =
      let object : (h : Header) × ObjectAt (state_of heap b.held disk) a h =
      rests.stands.holds.formed.objects a n named in
      let there : HeaderAt s a object.0 = c.headers a n object.0 named object.1.starts in
      record {
        address = a;
        named = named;
        shape = header.shape;
        small = starts.in_range;
        word = object.1.starts.word ∙ ap header_word (one_header s a object.0 header there starts);
      }

  bit_between : (n : ℕ) (stale : Bool) (bit : BitIs (sight v) n stale)
      → HeaderAt s bit.address (record { shape = bit.shape; stale = stale })
  bit_between n stale bit =
      c.headers bit.address n (record { shape = bit.shape; stale = stale }) bit.named
      (record { in_range = bit.small; word = bit.word })

  -- an object in use after it was in use before it
  named_before : (a n : ℕ) → (maps w).address a ≡ Some n
      → (from : ℕ) × (c.was.to from ≢ 0) × (c.was.to from ≡ a) × (m.address from ≡ Some n)
  named_before a n named =
      c.was.collected.names.only a n
      (subst (λ (x : Maps). x.address a ≡ Some n)
      (sym (maps_after phase finish image journal told c.between c.mid new b names registers c.at_mid c.at_rest.names
      c.was)) named)

  named_after : (a n : ℕ) → m.address a ≡ Some n → c.was.to a ≢ 0 → InUse (maps w) n
  named_after a n named stays = (
    c.was.to a,
    subst (λ (x : Maps). x.address (c.was.to a) ≡ Some n)
        (maps_after phase finish image journal told c.between c.mid new b names registers c.at_mid c.at_rest.names
        c.was) (c.was.collected.names.names a stays ∙ named),
  )

  -- and its bit went as the phase says
  came : (n : ℕ) (stale : Bool) → BitIs (sight w) n stale → Came phase v n stale
  came n stale bit =
      let from = named_before bit.address n bit.named in
      let a : ℕ = from.0 in
      let object : (h : Header) × ObjectAt s a h = placed_mid.formed.words.objects a n from.3 in
      let arrives : Arrives phase s t c.was.to c.was.home c.was.scion a object.0 =
      c.was.collected.words.arrives a object.0 from.1 object.1.starts in
      let is : Header = record { shape = bit.shape; stale = stale } in
      let there : HeaderAt t bit.address arrives.later =
      subst (λ (at : ℕ). HeaderAt t at arrives.later) from.2 arrives.starts in
      let same : arrives.later ≡ is =
      one_header t bit.address arrives.later is there (record { in_range = bit.small; word = bit.word }) in
      record {
        old = object.0.stale;
        bit = bit_before a n object.0 from.3 object.1.starts;
        turns = subst (λ (x : Header). BitTurns phase v n object.0.stale x.stale) same
            (turned phase s v a n object.0 arrives.later (holds_number a n from.3) arrives.marked);
      }

  -- the stale bits after a collection
  pub bits_after : BitsAfter phase v w
  bits_after = bits_by phase v w came

  number : ℕ → ℕ
  number a = unwrap_or (m.address a) 0

  number_is : (a n : ℕ) → m.address a ≡ Some n → number a ≡ n
  unfolding number
  number_is a n named = ap (λ (o : Option ℕ). unwrap_or o 0) named

  abbrev left : CountsEach (Leaves phase s) journal.bodies
  left = c.was.bodies

  -- what left was named
  left_named : (a : ℕ) → Contains left.members a → Leaves phase s a × (m.address a ≡ Some (number a))
  left_named a has =
      let leaves : Leaves phase s a = (left.all a).1 has in
      let named = reached_named m s a placed_mid.formed (leaving_reached phase s a leaves) in
      (leaves, named.1 ∙ ap Some (sym (number_is a named.0 named.1)))

  -- it was taken away
  taken_away : (a n : ℕ) → Leaves phase s a → m.address a ≡ Some n → IsTakenAway v w n
  taken_away a n leaves named =
      let header = leaving_stale phase s a leaves in
      record {
        stale = subst (BitIs (sight v) n) header.2 (bit_before a n header.0 named header.1);
        unheld = λ held. leaving_not_held phase s a leaves ((holds_number a n named).1 held);
        gone = λ in_use.
            let from = named_before in_use.0 n in_use.1 in
            let same : from.0 ≡ a = placed_mid.tells.one_address from.0 a n from.3 named in
            (c.was.collected.words.chooses.stay from.0 from.1).1 (subst (Leaves phase s) (sym same) leaves);
      }

  -- an object that stays in a Move and had the bit is held
  stays_held : (n : ℕ) → phase ≡ Move → InUse (maps w) n → HasBit (sight v) n → Held (value v) n
  stays_held n moves in_use bit =
      let from = named_before in_use.0 n in_use.1 in
      let a : ℕ = from.0 in
      let same : bit.address ≡ a = placed_mid.tells.one_address bit.address a n bit.named from.3 in
      let header : Header = record { shape = bit.shape; stale = true } in
      let starts : HeaderAt s a header =
      subst (λ (at : ℕ). HeaderAt s at header) same (bit_between n true bit) in
      let chosen = c.was.collected.words.chooses.stay a from.1 in
      let full : a ≢ 0 = λ none. from.1 (ap c.was.to none ∙ c.was.collected.words.chooses.nothing) in
      elim (contains_or_not c.was.held_words.members a) [
        | inl has ↦ (holds_number a n from.3).0 ((c.was.held_words.all a).1 has).0
        | inr none ↦ absurd (
            let lone : HoldsAt s a → ⊥ = λ holds. none ((c.was.held_words.all a).0 (holds, full)) in
            let leaves : Leaves Move s a = (chosen.0, lone, (header, starts, refl)) in
            chosen.1 (subst (λ (p : Phase). Leaves p s a) (sym moves) leaves)
            )
      ]

  -- what is reached stays, or was taken away
  reached_stays : (a n : ℕ) → m.address a ≡ Some n → Reached s a
      → InUse (maps w) n ⊎ Contains (map number left.members) n
  reached_stays a n named reached = elim (c.was.collected.words.chooses.go a reached) [
    | inl stays ↦ inl (named_after a n named stays)
    | inr leaves ↦ inr (
        subst (Contains (map number left.members)) (number_is a n named)
        (moved_there number left.members a ((left.all a).0 leaves))
        )
  ]

  -- so does what is alive and was in use
  alive_stays : (n : ℕ) → InUse m n → Alive b.log (value v) n
      → InUse (maps w) n ⊎ Contains (map number left.members) n
  alive_stays n in_use alive = reached_stays in_use.0 n in_use.1
      (alive_reached b.log (value v) m s (c.at_mid.stands.legal tells) placed_mid c.was.collected.words.settled n in_use.0
      alive in_use.1)

  -- what lies on the disk after it did before, or was taken away: its scion, if it had one, was a root
  lies_away : (n : ℕ) → IsOnDisk (maps w) n → IsOnDisk m n ⊎ Contains (map number left.members) n
  lies_away n there =
      let homes : NamesHomes m c.was.after s c.was.home = c.was.collected.homes b.log placed_mid.tells in
      let named : c.was.after.home there.home ≡ Some n =
      subst (λ (x : Maps). x.home there.home ≡ Some n)
      (sym (maps_after phase finish image journal told c.between c.mid new b names registers c.at_mid c.at_rest.names
      c.was)) there.named in
      let goes : (a : ℕ) → m.address a ≡ Some n → Reached s a → IsOnDisk m n ⊎ Contains (map number left.members) n =
      λ a is reached. elim (reached_stays a n is reached) [
        | inl stays ↦ absurd (there.nowhere stays)
        | inr leaves ↦ inr leaves
      ] in
      elim (homes.only there.home n named) [
        | inl old ↦
            elim (home_reached b.log (value v) m s (c.at_mid.stands.legal tells) placed_mid
            c.was.collected.words.settled there.home n old) [
              | inl at ↦ goes at.0 at.1 at.2
              | inr away ↦ inl away
            ]
        | inr given ↦ goes given.0 given.3 given.1.reached
      ]

  -- what a collection takes away
  pub takes_away : TakesAway phase v w journal
  takes_away = record {
    taken = map number left.members;
    once = distinct number left.members left.once (λ x y is other same.
        placed_mid.tells.one_address x y (number y) ((left_named x is).1 ∙ ap Some same) (left_named y other).1);
    counts = length-map left.members number ∙ sym left.count_is;
    only_move = λ other.
        ap (map number)
        (none_in left.members (λ x has. other (leaving_moves phase s x ((left.all x).1 has))));
    each = λ n has.
        let from = moved_from number left.members n has in
        let is = left_named from.0 from.1 in
        taken_away from.0 n is.0 (is.1 ∙ ap Some from.2);
    leaves = stays_held;
    others = alive_stays;
    none_new = λ n in_use.
        let from = named_before in_use.0 n in_use.1 in (from.0, from.3);
    away = lies_away;
  }
