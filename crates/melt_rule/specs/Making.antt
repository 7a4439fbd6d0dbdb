-- What the steps of a call that makes an object tell its thread: the claim of its words, the stores into those after
-- the first, and the store of its header.
use Rattle.std.specs.Prelude.{◌≡◌, ℕ, ◌+◌, ◌^◌, ◌<◌, ◌≤◌, true, false, [], ◌∷◌, ◌++◌, length, Option, None, Some}
use Rattle.atomic_table.specs.Table.{Me, Step}
use Rattle.melt_model.specs.History.{made}
use Rattle.melt_model.specs.declared.history.Act.TheVariants.{Make}
use Rattle.melt_word.specs.Words.{IsShape, cost_of, header_word}
use Rattle.melt_word.specs.declared.header.Shape.{Shape}
use Rattle.melt_rule.specs.Plays.{Stays}
use Rattle.melt_rule.specs.Tells.{Sees, Adds, view_after, Reaches}
use Rattle.melt_rule.specs.declared.view.Doing.TheVariants.{Claimed, Lacking}
use Rattle.melt_rule.specs.declared.view.View.{View}

-- A claim found the first free place there. It lies after all words that the seat has claimed; and where the seat
-- speaks for all threads, no others were claimed.
pub record FirstFree (v : View) (found : ℕ) : Type 0 where
  pub from : v.began.free + v.claimed ≤ found
  pub alone : v.parts ≡ length v.began.threads → found ≡ v.began.free + v.claimed

-- So many words from the address on are for a new object, of some shape of that cost.
pub record Claims (v w : View) (address cost : ℕ) : Type 0 where
  pub sees : Sees v w.seen
  pub first : FirstFree v address
  pub fits : address + cost ≤ v.began.size + 1
  pub shape : Shape
  pub small : IsShape shape
  pub costs : cost_of shape ≡ cost
  pub is : w ≡ record (view_after v w.seen v.known (Some (Claimed address shape 0))) { claimed = v.claimed + cost }

-- They end past the last word, which is a cause to stop.
pub record Lacks (v w : View) (cost : ℕ) : Type 0 where
  pub sees : Sees v w.seen
  pub found : ℕ
  pub first : FirstFree v found
  pub past : v.began.size + 1 < found + cost
  pub is : w ≡ record (view_after v w.seen v.known (Some (Lacking cost))) {
    claimed = v.claimed + cost;
    over = v.over + 1;
    spaced = true;
  }

-- a claim of so many words was answered by their address, or by none
abbrev pub ClaimTells : View → View → ℕ → Option ℕ → Type 0
ClaimTells v w cost None = Lacks v w cost
ClaimTells v w cost (Some address) = Claims v w address cost

-- The region became an object of this shape, with the number that comes next.
pub record Makes (v w : View) (address : ℕ) (shape : Shape) : Type 0 where
  pub adds : Adds v w.seen (Make shape.refs shape.nums)
  pub is : w ≡ view_after v w.seen
      (v.known ++ record { address = address; object = made (v.seen ++ adds.between) } ∷ []) None

-- The call has words from the address on, of which so many are filled.
abbrev pub HasRegion : View → ℕ → (Shape → ℕ → Type 0) → Type 0
HasRegion v address P = (shape : Shape) × (stored : ℕ) × (v.doing ≡ Some (Claimed address shape stored))
    × P shape stored

-- the first free place moved on by as many words as were asked for
abbrev pub ClaimPlay : Step ℕ → Me ℕ View → ℕ → Me ℕ View → Type 0
ClaimPlay s m found w = Stays m w × (found + s.first < 2 ^ 64)
    × (found + s.first ≤ m.0.began.size + 1 → Claims m.0 w.0 found s.first)
    × (m.0.began.size + 1 < found + s.first → Lacks m.0 w.0 s.first)

abbrev pub FillPlay : Step ℕ → Me ℕ View → ℕ → Me ℕ View → Type 0
FillPlay s m stored w = Stays m w
    × ((address k : ℕ) (shape : Shape) → m.0.doing ≡ Some (Claimed address shape k)
    → Reaches m.0 w.0 (Some (Claimed address shape (k + 1))))

-- the header of an object that is not stale was stored
abbrev pub PublishPlay : Step ℕ → Me ℕ View → ℕ → Me ℕ View → Type 0
PublishPlay s m stored w = Stays m w
    × ((address k : ℕ) (owned shape : Shape) → m.0.doing ≡ Some (Claimed address owned k) → IsShape shape
    → stored ≡ header_word (record { shape = shape; stale = false }) → Makes m.0 w.0 address shape)
