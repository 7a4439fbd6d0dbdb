-- What a planned collection rests on: settling leaves heap and registers well formed, and settles few objects.
use Rattle.std.proofs.Common.{◌≡◌, ◌≢◌, ◌⊎◌, ℕ, zero, suc, ◌+◌, ◌*◌, ◌<◌, ◌≤◌, List, [], ◌∷◌, length}
use Rattle.std.proofs.Common.{refl, sym, ◌∙◌, ap, subst, cond, arith, inl, inr}
use Rattle.std.specs.Prelude.{◌/◌, ◌%◌, ◌^◌, ◌↔◌, true, false, nat_lt, Option, None, Some, slice_index}
use Rattle.std.proofs.lemmas.Bool.{cases_eq, cases_order}
use Rattle.std.proofs.lemmas.Bool.Decides.{nat_tests}
use Rattle.std.proofs.lemmas.List.Sums.{sum_by-cons}
use Rattle.melt_model.specs.declared.reports.Phase.{Phase}
use Rattle.melt_model.specs.declared.reports.Phase.TheVariants.{Inactive, Mark, Move}
use Rattle.melt_model.specs.declared.reports.Journal.{Journal}
use Rattle.melt_word.specs.Words.{cost_of}
use Rattle.melt_word.specs.declared.header.Header.{Header}
use Rattle.melt_forward.specs.Forwarding.{Sends}
use Rattle.melt_space.specs.Space.{word_at}
use Rattle.melt_scion.specs.State.{State, Forwards, ObjectAt}
use Rattle.melt_scion.specs.Placed.{Maps, ForwardStands, FormedWords, Formed}
use Rattle.melt_scion.specs.Heaps.{OnDisk, IsFormed, Shows, state_of}
use Rattle.melt_scion.specs.declared.registers.Registers.{Registers}
use Rattle.melt_scion.specs.declared.heap.Heap.{Heap}
use Rattle.melt_scion.proofs.Few.{few_apart}
use Rattle.melt_scion.proofs.SameObjects.{SameObjects, NamesMatch, header_was, home_word_on, scion_on, forward_on}
use Rattle.melt_scion.proofs.SameObjects.{words_on, registers_on}
use Rattle.melt_scion.proofs.Tables.{tables_kept}
use Rattle.melt_copy.specs.Copying.{Collects, HasCollected, IsCopying}
use Rattle.melt_copy.specs.Settling.{HasKept, IsFormedTo, Keeps, SettlesBelow, filled, with_image}
use Rattle.melt_copy.proofs.Settled.{kept_formed}
use Rattle.melt_disk.specs.Homes.{Stale}
use Rattle.melt_move.specs.declared.collect.MoveRefusal.{MoveRefusal}
use Rattle.melt_move.specs.declared.collect.MoveRefusal.TheVariants.{NoMemory, DiskFull, DiskFault}
use Rattle.melt_move.specs.Collecting.{HasMoved, IsFormedOn, Moves}
use Rattle.melt_move.specs.Planned.{CollectsIn, CopiesIn, CopyIsRefused, IsRefusedIn}
use Rattle.melt_move.specs.Planned.{IsRefusedSettled, IsRefusedPlanned}

-- Registers and the words of the disk are no part of what is well formed of a heap.
module _ (maps : Maps) (heap : Heap) (held after : List Registers) (disk : OnDisk) (image : ℕ → ℕ) where
  abbrev before : State
  before = state_of heap held disk

  abbrev over : State
  over = state_of heap after (with_image disk image)

  same_objects : SameObjects maps before over
  same_objects = record {
    sizes = record { size = refl; globals = refl; forwards = refl };
    homes = record { end = refl; homes = refl; free_homes = refl };
    free = refl;
    part = λ a n p x header part other. refl;
    global = λ g. refl;
  }

  forwards_same : (home a : ℕ) → Forwards before home a ↔ Forwards over home a
  forwards_same home a = (
    λ is. record { place = is.place; within = is.within; sends = is.sends },
    λ is. record { place = is.place; within = is.within; sends = is.sends },
  )

  names_match : FormedWords maps before → NamesMatch maps over
  names_match formed = record {
    home_words = λ a n header named starts.
        home_word_on maps before over formed same_objects a (cost_of header.shape) refl (λ k. forwards_same k a)
        (λ k x live. live)
        (formed.home_words a n header named (header_was maps before over formed same_objects a n header named starts));
    scions = λ k x live. scion_on maps before over formed same_objects k x refl (formed.scions k x live);
    forwards = λ p below.
        forward_on maps before over formed same_objects (slice_index heap.forward p) (λ k a sends stands. refl)
        (formed.forwards p below);
    one_forward = formed.one_forward;
  }

  pub words_over : FormedWords maps before → FormedWords maps over
  words_over formed = words_on maps before over formed same_objects (names_match formed)

-- so what is well formed is that over a disk of other words
pub formed_over : (maps : Maps) (heap : Heap) (held : List Registers) (disk : OnDisk) (image : ℕ → ℕ)
    → Formed maps (state_of heap held disk) → Formed maps (state_of heap held (with_image disk image))
formed_over maps heap held disk image formed = record {
  words = words_over maps heap held held disk image formed.words;
  registers =
      registers_on maps (state_of heap held disk) (state_of heap held (with_image disk image)) formed.words
      (same_objects maps heap held held disk image) (λ u r. refl) formed.registers;
}

-- the words that a disk tells, or any
shown : (told : Option (List ℕ)) → (image : ℕ → ℕ) × Shows told image
shown None = (λ k. 0, tt)
shown (Some words) = (slice_index words, λ k. refl)

module _ (heap : Heap) (held : List Registers) (end : ℕ) (formed : IsFormedOn heap held end) where
  -- the heap can be settled
  pub formed_to : IsFormedTo heap end
  formed_to = record {
    maps = formed.maps;
    disk = with_image formed.disk formed.disk.image;
    ends = formed.end_is;
    names = formed.names;
    made = formed.made;
    formed = words_over formed.maps heap held [] formed.disk formed.disk.image formed.formed.words;
  }

  -- on some disk
  pub formed_some : IsFormed heap held
  formed_some = record {
    maps = formed.maps;
    disk = formed.disk;
    names = formed.names;
    made = formed.made;
    formed = formed.formed;
  }

  -- Where settling kept what it stood for, it is well formed with the registers.
  pub formed_settled : (mid : Heap) (told between : Option (List ℕ)) (place : ℕ) → Keeps heap mid end told between
      → SettlesBelow heap mid place → IsFormedOn mid held end
  formed_settled mid told between place keeps settles =
      let image = shown told in
      let disk : OnDisk = with_image formed.disk image.0 in
      let there : Formed formed.maps (state_of heap held disk) =
      formed_over formed.maps heap held formed.disk image.0 formed.formed in
      let kept : HasKept formed.maps disk held heap mid between =
      keeps formed.maps disk held formed.end_is image.1 formed.names there.words in
      record {
        maps = formed.maps;
        disk = with_image disk kept.image;
        end_is = formed.end_is;
        names = kept.names;
        made = settles.tables formed.made;
        formed = kept_formed kept there;
      }

-- The places of the filled words, in ascending order.
record Picks (words : List ℕ) : Type 0 where
  pub pick : ℕ → ℕ
  pub within : (i : ℕ) → i < filled words → pick i < length words
  pub is_filled : (i : ℕ) → i < filled words → slice_index words (pick i) ≢ 0
  pub order : (i j : ℕ) → i < j → j < filled words → pick i < pick j

-- a place in front, and after it others
after_first : (ℕ → ℕ) → ℕ → ℕ
after_first pick zero = 0
after_first pick (suc i) = suc (pick i)

abbrev counts_one : ℕ → ℕ
counts_one word = cond (nat_lt 0 word) 1 0

module _ (word : ℕ) (words : List ℕ) (some : word ≢ 0) (rest : Picks words) where
  count_more : filled (word ∷ words) ≡ 1 + filled words
  count_more =
      let test : nat_lt 0 word ≡ true = grind (arith, nat_tests) in
      sum_by-cons counts_one word words ∙ ap (λ b. cond b 1 0 + filled words) test

  within_more : (i : ℕ) → i < filled (word ∷ words) → after_first rest.pick i < length (word ∷ words)
  unfolding after_first
  within_more zero below = omega arith
  within_more (suc i) below =
      let more = rest.within i (omega (arith, below, count_more)) in omega (arith, more)

  filled_more : (i : ℕ) → i < filled (word ∷ words) → slice_index (word ∷ words) (after_first rest.pick i) ≢ 0
  unfolding after_first
  filled_more zero below = some
  filled_more (suc i) below = rest.is_filled i (omega (arith, below, count_more))

  order_more : (i j : ℕ) → i < j → j < filled (word ∷ words) → after_first rest.pick i < after_first rest.pick j
  unfolding after_first
  order_more i zero less below = omega (arith, less)
  order_more zero (suc j) less below = omega arith
  order_more (suc i) (suc j) less below =
      let more = rest.order i j (omega (arith, less)) (omega (arith, below, count_more)) in omega (arith, more)

  picks_more : Picks (word ∷ words)
  picks_more = record {
    pick = after_first rest.pick;
    within = within_more;
    is_filled = filled_more;
    order = order_more;
  }

module _ (word : ℕ) (words : List ℕ) (none : word ≡ 0) (rest : Picks words) where
  count_past : filled (word ∷ words) ≡ filled words
  count_past =
      let test : nat_lt 0 word ≡ false = grind (arith, nat_tests) in
      let count : filled (word ∷ words) ≡ 0 + filled words =
      sum_by-cons counts_one word words ∙ ap (λ b. cond b 1 0 + filled words) test in
      omega (arith, count)

  picks_past : Picks (word ∷ words)
  picks_past = record {
    pick = λ i. suc (rest.pick i);
    within = λ i below. (let more = rest.within i (omega (arith, below, count_past)) in omega (arith, more));
    is_filled = λ i below. rest.is_filled i (omega (arith, below, count_past));
    order = λ i j less below. (let more = rest.order i j less (omega (arith, below, count_past)) in
        omega (arith, more));
  }

picks : (words : List ℕ) → Picks words
picks [] = record {
  pick = λ i. 0;
  within = λ i below. absurd (omega (arith, below));
  is_filled = λ i below. absurd (omega (arith, below));
  order = λ i j less below. absurd (omega (arith, below));
}
picks (word ∷ words) = elim (cases_eq word 0) [
  | inl none ↦ picks_past word words none (picks words)
  | inr some ↦ picks_more word words some (picks words)
]

-- the address that a forwarding word names
address_of : ℕ → ℕ
address_of word = word % 4294967296 / 4

address_sent : (word home address : ℕ) → Sends word home address → address_of word ≡ address
unfolding address_of
address_sent word home address sends =
    let is : word ≡ 4294967296 * home + 4 * address = sends.is in
    let small : address < 1073741824 = sends.address_in_range.small in
    omega (arith, is, small)

module _ (maps : Maps) (heap : Heap) (held : List Registers) (disk : OnDisk)
    (formed : FormedWords maps (state_of heap held disk)) where
  abbrev shows : State
  shows = state_of heap held disk

  -- what a filled word sends
  record SentAt (place : ℕ) : Type 0 where
    pub home : ℕ
    pub address : ℕ
    pub sends : Sends (slice_index heap.forward place) home address
    pub stands : ForwardStands maps shows home address
    pub header : Header
    pub object : ObjectAt shows address header

  sent_at : (place : ℕ) → place < length heap.forward → slice_index heap.forward place ≢ 0 → SentAt place
  sent_at place within some = elim (formed.forwards place within) [
    | inl none ↦ absurd (some none)
    | inr is ↦
        let object = formed.objects is.1 is.3.named.0 is.3.named.1 in
        record {
          home = is.0;
          address = is.1;
          sends = is.2;
          stands = is.3;
          header = object.0;
          object = object.1;
        }
  ]

  -- two words send two objects
  sent_apart : (p q : ℕ) → p < q → q < length heap.forward → (one : SentAt p) → (other : SentAt q)
      → (one.address + 2 ≤ other.address) ⊎ (other.address + 2 ≤ one.address)
  sent_apart p q less within one other = elim (cases_order one.address other.address) [
    | inl same ↦
        let word : word_at heap.space (other.address + 1) ≡ 4294967296 * one.home + 4 * 0 =
        ap (λ (a : ℕ). word_at heap.space (a + 1)) (sym same) ∙ one.stands.home_word in
        let also : word_at heap.space (other.address + 1) ≡ 4294967296 * other.home + 4 * 0 = other.stands.home_word in
        let home : one.home ≡ other.home = omega (arith, word, also) in
        let place : p ≡ q = formed.one_forward p q other.home one.address other.address (omega (arith, less, within))
        within (subst (λ (h : ℕ). Sends (slice_index heap.forward p) h one.address) home one.sends) other.sends in
        absurd (omega (arith, place, less))
    | inr (inl before) ↦
        let far : one.address + cost_of one.header.shape ≤ other.address =
        formed.apart one.address other.address one.stands.named.0 other.stands.named.0 one.header one.stands.named.1
        other.stands.named.1 one.object.starts before in
        inl (omega (arith, far))
    | inr (inr beyond) ↦
        let far : other.address + cost_of other.header.shape ≤ one.address =
        formed.apart other.address one.address other.stands.named.0 one.stands.named.0 other.header
        other.stands.named.1 one.stands.named.1 other.object.starts beyond in
        inr (omega (arith, far))
  ]

  pub few_filled : filled heap.forward < 2 ^ 30
  few_filled =
      let all : Picks heap.forward = picks heap.forward in
      let small : length heap.space.list < 1073741824 = formed.small in
      let at : (i : ℕ) → i < filled heap.forward → SentAt (all.pick i) =
      λ i below. sent_at (all.pick i) (all.within i below) (all.is_filled i below) in
      let place : ℕ → ℕ = λ i. address_of (slice_index heap.forward (all.pick i)) in
      let is : (i : ℕ) → (below : i < filled heap.forward) → place i ≡ (at i below).address =
      λ i below. address_sent _ (at i below).home (at i below).address (at i below).sends in
      let few : filled heap.forward ≤ length heap.space.list / 2 =
      few_apart (length heap.space.list) (filled heap.forward) place
      (λ i below.
      let one = at i below in
      let here = is i below in
      let first : 1 ≤ one.address = one.object.first in
      let within : one.address + cost_of one.header.shape ≤ length heap.space.list + 1 = one.object.within in
      (omega (arith, here, first), omega (arith, here, within)))
      (λ i j less below.
      let before : i < filled heap.forward = omega (arith, less, below) in
      let here = is i before in
      let there = is j below in
      elim (sent_apart (all.pick i) (all.pick j) (all.order i j less below) (all.within j below) (at i before)
      (at j below)) [
        | inl one ↦ inl (omega (arith, here, there, one))
        | inr other ↦ inr (omega (arith, here, there, other))
      ]) in
      omega (arith, few, small)

-- A copying collection leaves heap and registers well formed, over the disk as it was.
pub formed_copied : {old new : Heap} {held after : List Registers} {end : ℕ} {phase : Phase} {journal : Journal}
    → IsFormedOn old held end → Collects old held new after phase journal → IsFormedOn new after end
formed_copied {old} {new} {held} {after} {phase} {journal} formed collects =
    let has : HasCollected formed.maps formed.disk old new held after phase journal =
    collects.each formed.maps formed.disk formed.names formed.formed in
    record {
      maps = has.after;
      disk = formed.disk;
      end_is = formed.end_is;
      names = has.names;
      made = tables_kept old new collects.tables has.collected.words.size formed.made;
      formed = has.collected.formed;
    }

-- And so does a Move, over the disk with the new homes.
pub formed_moved : {old new : Heap} {held after : List Registers} {end end_after : ℕ}
    {told told_after : Option (List ℕ)} {journal : Journal} → IsFormedOn old held end
    → Moves old new held after end end_after told told_after journal → IsFormedOn new after end_after
formed_moved {old} {new} {held} {after} {end_after} {told} {told_after} {journal} formed moves =
    let image = shown told in
    let disk : OnDisk = with_image formed.disk image.0 in
    let has : HasMoved formed.maps disk old new held after end_after told_after journal =
    moves.each formed.maps disk formed.end_is image.1 formed.names
    (formed_over formed.maps old held formed.disk image.0 formed.formed) in
    record {
      maps = has.after;
      disk = has.later;
      end_is = has.end_is;
      names = has.names;
      made = tables_kept old new moves.tables has.collected.words.size formed.made;
      formed = has.collected.formed;
    }

-- what stands after a refusal of the collection of a settled heap
pub refused_settled : {Disk : Type 0} → {image : Disk → Option (List ℕ)} → {writes : Disk → ℕ} → {phase : Phase}
    → {old : Heap} → {held after : List Registers} → {disk disk_after : Stale Disk} → (refusal : MoveRefusal)
    → IsRefusedSettled image writes phase old held after disk disk_after refusal
    → IsRefusedPlanned image writes phase old held after disk disk_after refusal
refused_settled (NoMemory back) is = is
refused_settled (DiskFull back full) is = is
refused_settled DiskFault is = inr is

-- In a phase that copies, what was collected was copied, and what was refused was a copy.
pub collects_copied : (phase : Phase) {old new : Heap} {held after : List Registers} {end end_after : ℕ}
    {told told_after : Option (List ℕ)} {journal : Journal} → IsCopying phase
    → CopiesIn phase old new held after end end_after told told_after journal
    → CollectsIn phase old new held after end end_after told told_after journal
collects_copied Inactive copying is = is
collects_copied Mark copying is = is
collects_copied Move copying is = absurd copying

pub refuses_copied : {Disk : Type 0} → (phase : Phase) → {heap : Heap} → {held after : List Registers}
    → {disk disk_after : Stale Disk} → {refusal : MoveRefusal} → IsCopying phase
    → CopyIsRefused heap held after disk disk_after refusal → IsRefusedIn phase heap held after disk disk_after refusal
refuses_copied Inactive copying is = is
refuses_copied Mark copying is = is
refuses_copied Move copying is = absurd copying
