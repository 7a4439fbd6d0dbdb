-- What a step on words finds: the seat at the table, and the places of the words.
use Rattle.std.proofs.Common.{◌≡◌, ℕ, ◌+◌, ◌^◌, ◌<◌, ◌≤◌, inl, inr, refl, sym, ◌∙◌, ap, subst, arith}
use Rattle.std.specs.Prelude.{Some}
use Rattle.atomic_table.specs.declared.shared.Seat.{Seat}
use Rattle.melt_model.specs.declared.history.Slot.{Slot}
use Rattle.melt_model.specs.declared.history.Value.{Value}
use Rattle.melt_word.specs.declared.header.Shape.{Shape}
use Rattle.melt_core.specs.Events.{number_place}
use Rattle.melt_rule.proofs.Seating.{seated}
use Rattle.melt_rule.proofs.Within.{headed_fits}
use Rattle.melt_rule.specs.Plays.{Stays}
use Rattle.melt_rule.specs.Rule.{Has}
use Rattle.melt_rule.specs.Seats.{EpochWords, IsSeat, IsTable, SpeaksOf, knows_of}
use Rattle.melt_rule.specs.Shown.{global_place, word_place}
use Rattle.melt_rule.specs.Tells.{Names, Reads}
use Rattle.melt_rule.specs.declared.began.Began.{Began}
use Rattle.melt_rule.specs.declared.view.Doing.TheVariants.{Headed}
use Rattle.melt_rule.specs.declared.view.View.{View}
use Rattle.melt_rule.specs.declared.words.Words.TheInside.{Inside}

-- the words of the table
abbrev pub words_in : Inside → EpochWords
words_in inside = record { id = inside.table.shared.table_id; start = inside.table.shared.key }

-- a seat at the table
pub record AtTable (inside : Inside) (seat : Seat ℕ View) : Type 0 where
  pub table : IsTable inside.table.shared.table_id inside.table.shared.key inside.before inside.forwards_at
  pub is_seat : IsSeat (words_in inside) seat

-- the seat of a step on the words is one
pub at_table : {words : EpochWords} {seat : Seat ℕ View} (inside : Inside) → words_in inside ≡ words
    → IsTable inside.table.shared.table_id inside.table.shared.key inside.before inside.forwards_at
    → IsSeat words seat → AtTable inside seat
at_table {seat} inside is table is_seat =
    record { table = table; is_seat = subst (λ (w : EpochWords). IsSeat w seat) (sym is) is_seat }

-- where the word of an address stands
pub word_at : {inside : Inside} {seat : Seat ℕ View} → AtTable inside seat → (a : ℕ)
    → inside.before + a ≡ word_place (knows_of seat).began a
word_at at a = rw at.is_seat.began (omega arith)

-- that of a reference slot
pub slot_word_at : {inside : Inside} {seat : Seat ℕ View} → AtTable inside seat → (a i : ℕ)
    → inside.before + a + 2 + i ≡ word_place (knows_of seat).began (a + 2 + i)
slot_word_at at a i = let word = word_at at (a + 2 + i) in omega arith

-- and that of a word after the header
pub word_after_at : {inside : Inside} {seat : Seat ℕ View} → AtTable inside seat → (a k : ℕ)
    → inside.before + a + 1 + k ≡ word_place (knows_of seat).began (a + 1 + k)
word_after_at at a k = let word = word_at at (a + 1 + k) in omega arith

-- the table has the word of an address of the space
pub has_word : {inside : Inside} {seat : Seat ℕ View} → AtTable inside seat → (a : ℕ)
    → a ≤ (knows_of seat).began.size → inside.before + a < inside.table.shared.table_id.words
has_word at a within = let size = ap (λ (b : Began). b.size) at.is_seat.began in omega arith

-- and that of a global
pub has_global : {inside : Inside} {seat : Seat ℕ View} → AtTable inside seat → (g : ℕ)
    → g < (knows_of seat).began.globals → global_place g < inside.table.shared.table_id.words
has_global at g below = let globals = ap (λ (b : Began). b.globals) at.is_seat.began in omega arith

-- the space has as many words as the seat knows
pub size_known : {inside : Inside} {seat : Seat ℕ View} → AtTable inside seat
    → inside.size ≡ (knows_of seat).began.size
size_known {inside} at = inside.size_is ∙ sym (ap (λ (b : Began). b.size) at.is_seat.began)

-- a register holds no address past the space
pub held_fits : {inside : Inside} {seat : Seat ℕ View} {value : Value} (held : ℕ) → AtTable inside seat
    → Names (knows_of seat).known held value → held < 2 ^ 30
held_fits held at (inl none) = let e : held ≡ 0 = none.0 in omega arith
held_fits held at (inr some_) =
    let fits = at.is_seat.within.known held some_.0 some_.2 in
    let size = ap (λ (b : Began). b.size) at.is_seat.began in
    omega arith

-- nor after a load that was answered
pub read_fits : {inside : Inside} {old : Seat ℕ View} {at : Slot} {address : ℕ} (new : Seat ℕ View)
    → AtTable inside old → new.table_id ≡ old.table_id → Stays old.me new.me
    → Reads (knows_of old) (knows_of new) at address → address < 2 ^ 30
read_fits {inside} {address} new stood table stays reads =
    let after : AtTable inside new =
    record { table = stood.table; is_seat = seated stood.is_seat table stays reads.is refl refl } in
    held_fits address after reads.names

-- A part of the object of which the call speaks. The table has the place of its word, which is that of an address of
-- the space.
pub record PartAt (inside : Inside) (seat : Seat ℕ View) (address place : ℕ) (far : Shape → ℕ)
    (P : Shape → Type 0) : Type 0 where
  pub number : ℕ
  pub has : Has (knows_of seat).known address number
  pub shape : Shape
  pub headed : (knows_of seat).doing ≡ Some (Headed address shape)
  pub is : P shape
  pub below : place < inside.table.shared.table_id.words
  pub there : place ≡ word_place (knows_of seat).began (far shape)

-- a reference slot is one
pub slot_at : {inside : Inside} {seat : Seat ℕ View} → AtTable inside seat → (address i : ℕ)
    → SpeaksOf (knows_of seat) address (λ z. i < z.refs)
    → PartAt inside seat address (inside.before + address + 2 + i) (λ z. address + 2 + i) (λ z. i < z.refs)
slot_at {inside} {seat} at address i speaks =
    let z : Shape = speaks.1.0 in
    let fits = headed_fits (knows_of seat).began (knows_of seat).doing address z speaks.1.1 at.is_seat.within.doing in
    let part = speaks.1.2 in
    let has = has_word at (address + 2 + i) (omega arith) in
    record {
      number = speaks.0.0;
      has = speaks.0.1;
      shape = z;
      headed = speaks.1.1;
      is = part;
      below = omega arith;
      there = slot_word_at at address i;
    }

-- and a number word
pub number_at : {inside : Inside} {seat : Seat ℕ View} → AtTable inside seat → (address j : ℕ) (shape : Shape)
    → SpeaksOf (knows_of seat) address (λ z. (z ≡ shape) × (j < z.nums))
    → PartAt inside seat address (inside.before + address + 2 + shape.refs + j) (λ z. number_place address z j)
    (λ z. j < z.nums)
number_at {inside} {seat} at address j shape speaks =
    let z : Shape = speaks.1.0 in
    let fits = headed_fits (knows_of seat).began (knows_of seat).doing address z speaks.1.1 at.is_seat.within.doing in
    let part = speaks.1.2.1 in
    let refs : z.refs ≡ shape.refs = ap (λ (s : Shape). s.refs) speaks.1.2.0 in
    let place = word_at at (number_place address z j) in
    let has = has_word at (number_place address z j) (omega arith) in
    record {
      number = speaks.0.0;
      has = speaks.0.1;
      shape = z;
      headed = speaks.1.1;
      is = part;
      below = omega arith;
      there = omega arith;
    }
