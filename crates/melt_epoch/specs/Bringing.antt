-- How a load brings an object back from disk: what its parts come to.
use Rattle.std.specs.Prelude.{Bool, true, false, ◌≡◌, ◌⊎◌, ℕ, ◌+◌, ◌*◌, ◌-◌, ◌<◌, ◌≤◌, List, Option, None}
use Rattle.std.specs.Prelude.{Result, Ok, Err}
use Rattle.melt_word.specs.Words.{IsShape, cost_of}
use Rattle.melt_word.specs.declared.header.Shape.{Shape}
use Rattle.melt_word.specs.declared.reference.Ref.TheVariants.{Disk}
use Rattle.melt_io.specs.Outside.{Rose}
use Rattle.melt_scion.specs.Scions.{Scions}
use Rattle.melt_core.specs.Stages.{retried}
use Rattle.melt_core.specs.declared.answer.Pause.TheVariants.{Forward, Space}
use Rattle.melt_core.specs.declared.answer.Refusal.{Refusal}
use Rattle.melt_core.specs.declared.answer.Refusal.TheVariants as refusal
use Rattle.melt_core.specs.declared.answer.Refusal.TheVariants.{Pause}
use Rattle.melt_core.specs.declared.call.Activation.{Activation}
use Rattle.melt_core.specs.declared.call.Search.{Search}
use Rattle.melt_rule.specs.Coming.{Commits, HomeHas, ProbesShared}
use Rattle.melt_rule.specs.Seats.{MayGoOn}
use Rattle.melt_rule.specs.Tells.{Sees}
use Rattle.melt_rule.specs.declared.view.Doing.{Doing}
use Rattle.melt_rule.specs.declared.view.Doing.TheVariants.{Cleared, Copied, Copying, Missed, Retrying}
use Rattle.melt_rule.specs.declared.view.View.{View}
use Rattle.melt_epoch.specs.Calls.{Counts, Filled, IsOnItsWay, Lacked}
use Rattle.melt_epoch.specs.Fetching.{IsDamage}
use Rattle.melt_epoch.specs.declared.bring.Sought.{Sought}
use Rattle.melt_epoch.specs.declared.bring.Sought.TheVariants as sought

-- the object of the home that is searched for is in use at the address
abbrev pub in_use_at : Search → ℕ → Doing
in_use_at search address = Cleared search.place (Disk search.home) address

-- the search, so many forwarding words further
abbrev pub tried_to : Search → ℕ → Search
tried_to search tried = record search { tried = tried }

-- All forwarding words send other homes, so that the call was refused.
pub record IsFull (v w : View) (words most : ℕ) (refusal : Refusal) : Type 0 where
  pub is : refusal ≡ Pause Forward
  pub sees : Sees v w.seen
  pub filled : Filled v w words most
  pub over : w.doing ≡ None

-- Each of so many forwarding words was read, and then the stop word was set: the call made so many steps at least.
abbrev pub ReadsAll : View → View → ℕ → Type 0
ReadsAll v w words = v.steps + words + 1 ≤ w.steps

-- What a search comes to: the address to which a word sends its home, or an empty word, or that there is none. Each
-- word is read once.
abbrev pub Seeks : View → View → Search → ℕ → Result Sought Refusal → Type 0
Seeks v w search forwards (Ok (sought.At address)) = IsOnItsWay v w 0 0 (forwards - search.tried) (in_use_at search
    address)
Seeks v w search forwards (Ok (sought.Missed missed)) =
    IsOnItsWay v w 0 0 (missed.tried + 1 - search.tried) (Missed missed) × (search.tried ≤ missed.tried)
    × (missed.tried < forwards) × (missed ≡ tried_to search missed.tried)
    × (v.steps + (missed.tried + 1 - search.tried) ≤ w.steps)
Seeks v w search forwards (Err refusal) =
    IsFull v w 0 (forwards + 1 - search.tried) refusal × ReadsAll v w (forwards - search.tried)

-- A copy is at hand: the next forwarding word was found empty, or is to be read.
abbrev pub at_hand : Bool → Activation → Doing
at_hand true a = Copied a
at_hand false a = Retrying a

-- what that word is found to send, where it is exchanged or read
abbrev pub FindsSent : View → View → Bool → Activation → Option (ℕ × ℕ) → Type 0
FindsSent v w true a sent = Commits v w a sent
FindsSent v w false a sent = ProbesShared v w a.search (Copied a) (Retrying (retried a)) sent

-- A copy that is at hand became the object of its home, or another did: the address is that of the object. Each word is
-- exchanged once and read once more.
pub record Settled (v w : View) (a : Activation) (forwards address : ℕ) : Type 0 where
  pub wins : ℕ
  pub one : wins ≤ 1
  pub goes : IsOnItsWay v w 0 wins (2 * (forwards - a.search.tried)) (in_use_at a.search address)

abbrev pub SettlesCopy : View → View → Activation → ℕ → Result ℕ Refusal → Type 0
SettlesCopy v w a forwards (Ok address) = Settled v w a forwards address
SettlesCopy v w a forwards (Err refusal) =
    IsFull v w 0 (2 * (forwards - a.search.tried) + 1) refusal × ReadsAll v w (forwards - a.search.tried)

-- The words that a copy wants end past the last one, so that the call was refused.
pub record LacksRoomForCopy (v w : View) (search : Search) (most : ℕ) (refusal : Refusal) : Type 0 where
  pub shape : Shape
  pub small : IsShape shape
  pub object : HomeHas v w.seen search.home shape
  pub is : refusal ≡ Pause (Space (cost_of shape))
  pub sees : Sees v w.seen
  pub lacked : Lacked v w (cost_of shape) most
  pub over : w.doing ≡ None

-- All words of a copy after its header are stored.
pub record IsFilled (v w : View) (a : Activation) : Type 0 where
  pub stored : ℕ
  pub all : stored + 1 ≡ cost_of a.shape
  pub goes : IsOnItsWay v w 0 0 stored (Copying a stored)

-- A copy of the Body at a home became its object, or another did.
pub record CopiedIn (v w : View) (search : Search) (z : Shape) (forwards address : ℕ) : Type 0 where
  pub wins : ℕ
  pub one : wins ≤ 1
  pub object : HomeHas v w.seen search.home z
  pub goes : IsOnItsWay v w (cost_of z) wins (cost_of z + 1 + 2 * (forwards - search.tried)) (in_use_at search address)

-- The copy found no forwarding word.
pub record FullAfter (v w : View) (search : Search) (z : Shape) (forwards most : ℕ) (refusal : Refusal) : Type 0 where
  pub object : HomeHas v w.seen search.home z
  pub full : IsFull v w (cost_of z) most refusal
  pub read : ReadsAll v w (forwards - search.tried)

-- what a copy of a Body that was read comes to
abbrev pub Copies : View → View → Search → Shape → ℕ → Result ℕ Refusal → Type 0
Copies v w search z forwards (Ok address) = CopiedIn v w search z forwards address
Copies v w search z forwards (Err refusal) =
    FullAfter v w search z forwards (cost_of z + 2 + 2 * (forwards - search.tried)) refusal
    ⊎ LacksRoomForCopy v w search 2 refusal

-- What bringing an object back comes to, after a home that was found. It claims words for one copy at most, of the
-- object of that home.
pub record Brought (v w : View) (search : Search) (most address : ℕ) : Type 0 where
  pub words : ℕ
  pub wins : ℕ
  pub goes : IsOnItsWay v w words wins most (in_use_at search address)
  pub claims : ((words ≡ 0) × (wins ≡ 0))
      ⊎ ((z : Shape) × (words ≡ cost_of z) × (wins ≤ 1) × HomeHas v w.seen search.home z)

-- All forwarding words send other homes, before words were claimed for a copy or after.
pub record FoundFull (v w : View) (search : Search) (most : ℕ) (refusal : Refusal) : Type 0 where
  pub words : ℕ
  pub full : IsFull v w words most refusal
  pub read : ReadsAll v w (v.began.forwards - search.tried)
  pub claims : (words ≡ 0) ⊎ ((z : Shape) × (words ≡ cost_of z) × HomeHas v w.seen search.home z)

-- the call was refused for want of forwarding words or of words
abbrev pub LacksEither : View → View → Search → ℕ → Refusal → Type 0
LacksEither v w search most refusal = FoundFull v w search most refusal ⊎ LacksRoomForCopy v w search most refusal

-- The reader failed, in this call, or what was read is no record. That cannot be where the epoch is told.
abbrev pub IsLost : Bool → Option (List ℕ) → Scions → ℕ → ℕ → ℕ → ℕ → Refusal → Type 0
IsLost told image scions end home before after refusal.DiskFault = Rose before after
IsLost told image scions end home before after (refusal.Damaged damaged) =
    IsDamage image scions end home damaged × (told ≡ true → ⊥)
IsLost told image scions end home before after (refusal.Pause pause) = ⊥

-- what becomes of a call whose search missed a home
abbrev pub Misses : Bool → Option (List ℕ) → Scions → ℕ → ℕ → ℕ → View → View → Search → ℕ → Result ℕ Refusal → Type 0
Misses told image scions end before after v w search most (Ok address) = Brought v w search most address
Misses told image scions end before after v w search most (Err refusal) =
    LacksEither v w search most refusal ⊎ ((w ≡ v) × IsLost told image scions end search.home before after refusal)

-- A call comes to its end without an entry. It counts nothing but its steps.
pub record Stays (v w : View) (most : ℕ) : Type 0 where
  pub sees : Sees v w.seen
  pub counts : Counts v w 0 0 most
  pub goes_on : MayGoOn w

-- what becomes of one that found a home
abbrev pub Brings : Bool → Option (List ℕ) → Scions → ℕ → ℕ → ℕ → View → View → Search → ℕ → Result ℕ Refusal → Type 0
Brings told image scions end before after v w search most (Ok address) = Brought v w search most address
Brings told image scions end before after v w search most (Err refusal) =
    LacksEither v w search most refusal
    ⊎ (Stays v w most × IsLost told image scions end search.home before after refusal)
