-- When a state stands for a history, and what is kept of this whatever a disk gives.
use Rattle.std.specs.Prelude.{◌≡◌, ◌≢◌, ◌↔◌, ◌⊎◌, ◌^◌, ℕ, zero, suc, ◌+◌, ◌<◌, ◌≤◌, Bool, true, List, Option, Some}
use Rattle.std.specs.Prelude.{Contains}
use Rattle.std.specs.Option.{option_map}
use Rattle.melt_model.specs.History.{shape, last}
use Rattle.melt_model.specs.declared.history.Entry.{Entry}
use Rattle.melt_model.specs.declared.history.Value.{Value}
use Rattle.melt_model.specs.declared.history.Value.TheVariants.{Nil, Ref, Num}
use Rattle.melt_model.specs.declared.history.Slot.TheVariants.{Field, Cell, Global}
use Rattle.melt_word.specs.Words.{IsRef, ref_word, cost_of, IsHomeAndScion, home_word}
use Rattle.melt_word.specs.declared.reference.Ref as words
use Rattle.melt_word.specs.declared.reference.Ref.TheVariants.{Null, Clean, Stale, Disk}
use Rattle.melt_word.specs.declared.header.Shape.{Shape}
use Rattle.melt_word.specs.declared.header.Header.{Header}
use Rattle.melt_record.specs.declared.head.Head.{Head}
use Rattle.melt_record.specs.declared.head.Kind.TheVariants.{Body, Stub}
use Rattle.melt_record.specs.Records.{IsHead, IsSlotWord}
use Rattle.melt_forward.specs.Forwarding.{Sends}
use Rattle.melt_scion.specs.State.{Scion, Base, State, HeaderAt, ObjectAt, IsFresh, Forwards, NoGaps, Follow}
use Rattle.melt_scion.specs.State.{IsReserved}

-- which object stands at an address, and which has a home on disk
pub record Maps : Type 0 where
  pub address : ℕ → Option ℕ
  pub home : ℕ → Option ℕ

-- an object stands at the address
abbrev pub IsNamed : Maps → ℕ → Type 0
IsNamed maps address = (n : ℕ) × (maps.address address ≡ Some n)

-- the home is that of an object
abbrev pub HasObject : Maps → ℕ → Type 0
HasObject maps home = (n : ℕ) × (maps.home home ≡ Some n)

-- the value that a reference stands for, if it stands for one
abbrev pub value_of : Maps → words.Ref → Option Value
value_of maps Null = Some Nil
value_of maps (Clean address) = option_map Ref (maps.address address)
value_of maps (Stale address) = option_map Ref (maps.address address)
value_of maps (Disk home) = option_map Ref (maps.home home)

-- the word is that of a reference that stands for the value
pub record Stands (maps : Maps) (word : ℕ) (value : Value) : Type 0 where
  pub reference : words.Ref
  pub in_range : IsRef reference
  pub is : word ≡ ref_word reference
  pub stands_for : value_of maps reference ≡ Some value

-- a reference that may stand in a slot or in a global
abbrev pub MayStand : Maps → State → words.Ref → Type 0
MayStand maps s Null = Unit {0}
MayStand maps s (Clean address) = IsNamed maps address × IsFresh s address
MayStand maps s (Stale address) = IsNamed maps address
MayStand maps s (Disk home) = (1 ≤ home) × (home < s.base.end)

-- the word is that of such a reference
pub record IsReferenceWord (maps : Maps) (s : State) (word : ℕ) : Type 0 where
  pub reference : words.Ref
  pub in_range : IsRef reference
  pub is : word ≡ ref_word reference
  pub stands : MayStand maps s reference

-- a register holds nothing, or the address of an object without the stale bit
abbrev pub MayHold : Maps → State → ℕ → Type 0
MayHold maps s address = (address ≡ 0) ⊎ (IsNamed maps address × IsFresh s address)

-- The home word of an object of so many words: its home lies before the end. A live scion names both, or, exactly where
-- a forwarding word does, the scion is 0.
pub record HasHome (s : State) (address words home scion : ℕ) : Type 0 where
  pub in_range : IsHomeAndScion (record { home = home; scion = scion })
  pub is : s.word (address + 1) ≡ home_word (Some (record { home = home; scion = scion }))
  pub within : home + words ≤ s.base.end
  pub forwarded : (scion ≡ 0) ↔ Forwards s home address
  pub live : scion ≢ 0 → s.base.scion scion ≡ Some (record { home = home; address = address })

-- no home, or one
abbrev pub IsHomeWord : State → ℕ → ℕ → Type 0
IsHomeWord s address words = (s.word (address + 1) ≡ 0)
    ⊎ ((home : ℕ) × (scion : ℕ) × HasHome s address words home scion)

-- a live scion is that in the home word of the object at its address
pub record ScionStands (maps : Maps) (s : State) (scion : ℕ) (x : Scion) : Type 0 where
  pub first : 1 ≤ scion
  pub small : scion < 2 ^ 30
  pub named : IsNamed maps x.address
  pub home_word : s.word (x.address + 1) ≡ home_word (Some (record { home = x.home; scion = scion }))

-- what a forwarding word that sends the home to the address says of them
pub record ForwardStands (maps : Maps) (s : State) (home address : ℕ) : Type 0 where
  pub named : IsNamed maps address
  pub home_word : s.word (address + 1) ≡ home_word (Some (record { home = home; scion = 0 }))
  pub fresh : IsFresh s address

-- a forwarding word is 0, or sends a home to an object without the stale bit
abbrev pub ForwardMayStand : Maps → State → ℕ → Type 0
ForwardMayStand maps s word = (word ≡ 0)
    ⊎ ((home : ℕ) × (address : ℕ) × Sends word home address × ForwardStands maps s home address)

-- What holds of the words whatever a disk gave, registers aside. Objects start at the addresses of the map, and do not
-- overlap; each word that is to be a reference is one; a clean address, and one that a forwarding word names, is that
-- of an object without the stale bit; home words, scions and forwarding words name each other.
pub record FormedWords (maps : Maps) (s : State) : Type 0 where
  pub small : s.base.size < 2 ^ 30
  pub first_end : 1 ≤ s.base.end
  pub small_end : s.base.end ≤ 2 ^ 32
  pub objects : (address n : ℕ) → maps.address address ≡ Some n → (header : Header) × ObjectAt s address header
  pub apart : (a b n m : ℕ) (header : Header) → maps.address a ≡ Some n → maps.address b ≡ Some m → HeaderAt s a header
      → a < b → a + cost_of header.shape ≤ b
  pub slots : (address n i : ℕ) (header : Header) → maps.address address ≡ Some n → HeaderAt s address header
      → i < header.shape.refs → IsReferenceWord maps s (s.word (address + 2 + i))
  pub home_words : (address n : ℕ) (header : Header) → maps.address address ≡ Some n → HeaderAt s address header
      → IsHomeWord s address (cost_of header.shape)
  pub globals : (g : ℕ) → g < s.base.globals → IsReferenceWord maps s (s.global g)
  pub scions : (k : ℕ) (x : Scion) → s.base.scion k ≡ Some x → ScionStands maps s k x
  pub forwards : (p : ℕ) → p < s.base.forwards → ForwardMayStand maps s (s.forward p)
  pub one_forward : (p q home a b : ℕ) → p < s.base.forwards → q < s.base.forwards → Sends (s.forward p) home a
      → Sends (s.forward q) home b → p ≡ q

-- and of the registers
pub record Formed (maps : Maps) (s : State) : Type 0 where
  pub words : FormedWords maps s
  pub registers : (t r : ℕ) → MayHold maps s (s.register t r)

-- the record at a home has this head
abbrev pub HeadIs : Base → ℕ → Head → Type 0
HeadIs b home head = IsHead home b.end (b.image home) (b.image (home + 1)) head

-- The home is a Body: the object has no address, and the record holds its last values.
pub record IsBody (h : List Entry) (maps : Maps) (b : Base) (home n : ℕ) (z : Shape) : Type 0 where
  pub nowhere : (address : ℕ) → maps.address address ≢ Some n
  pub head : HeadIs b home (record { shape = z; kind = Body })
  pub slots : (i : ℕ) → i < z.refs → Stands maps (b.image (home + 2 + i)) (last h (Field n i))
  pub are_slots : (i : ℕ) → i < z.refs → IsSlotWord b.end (b.image (home + 2 + i))
  pub numbers : (j : ℕ) → j < z.nums → Num (b.image (home + 2 + z.refs + j)) ≡ last h (Cell n j)

-- It is a Stub: its scion is live, and names the home and the address of the object.
pub record IsStub (maps : Maps) (b : Base) (home n : ℕ) (z : Shape) : Type 0 where
  pub scion : ℕ
  pub address : ℕ
  pub head : HeadIs b home (record { shape = z; kind = Stub scion })
  pub live : b.scion scion ≡ Some (record { home = home; address = address })
  pub named : maps.address address ≡ Some n

-- It is forwarded: a forwarding word sends it to the address of the object. The home word there has the scion 0, so
-- that no home is two of the three.
pub record IsForwarded (maps : Maps) (s : State) (home n : ℕ) : Type 0 where
  pub address : ℕ
  pub forwards : Forwards s home address
  pub named : maps.address address ≡ Some n

-- the home of an object was reserved for its shape, and is one of the three
pub record HomeStands (h : List Entry) (maps : Maps) (s : State) (home n : ℕ) : Type 0 where
  pub reserved_for : Shape
  pub reserved : IsReserved s.base.homes home reserved_for
  pub shape_is : shape h n ≡ Some (record { refs = reserved_for.refs; nums = reserved_for.nums })
  pub is : IsBody h maps s.base home n reserved_for
      ⊎ (IsStub maps s.base home n reserved_for ⊎ IsForwarded maps s home n)

-- a free home has the head of a record of its cost
pub record IsFreeHome (b : Base) (home : ℕ) : Type 0 where
  pub reserved_for : Shape
  pub reserved : IsReserved b.homes home reserved_for
  pub head : Head
  pub stands : HeadIs b home head
  pub cost : cost_of head.shape ≡ cost_of reserved_for

-- the home was reserved, and is not free
pub record IsTaken (b : Base) (home : ℕ) : Type 0 where
  pub reserved_for : Shape
  pub reserved : IsReserved b.homes home reserved_for
  pub not_free : Contains b.free_homes home → ⊥

-- What the words say of a history, registers aside.
pub record Tells (h : List Entry) (maps : Maps) (s : State) : Type 0 where
  pub one_address : (a b n : ℕ) → maps.address a ≡ Some n → maps.address b ≡ Some n → a ≡ b
  pub one_home : (a b n : ℕ) → maps.home a ≡ Some n → maps.home b ≡ Some n → a ≡ b
  pub homes_follow : Follow 1 s.base.homes s.base.end
  pub taken : (home : ℕ) → HasObject maps home ↔ IsTaken s.base home
  pub free_homes : (home : ℕ) → Contains s.base.free_homes home → IsFreeHome s.base home
  pub shapes : (address n : ℕ) (header : Header) → maps.address address ≡ Some n → HeaderAt s address header
      → shape h n ≡ Some (record { refs = header.shape.refs; nums = header.shape.nums })
  pub slots : (address n i : ℕ) (header : Header) → maps.address address ≡ Some n → HeaderAt s address header
      → i < header.shape.refs → Stands maps (s.word (address + 2 + i)) (last h (Field n i))
  pub numbers : (address n j : ℕ) (header : Header) → maps.address address ≡ Some n → HeaderAt s address header
      → j < header.shape.nums → Num (s.word (address + 2 + header.shape.refs + j)) ≡ last h (Cell n j)
  pub globals : (g : ℕ) → g < s.base.globals → Stands maps (s.global g) (last h (Global g))
  pub homes : (home n : ℕ) → maps.home home ≡ Some n → HomeStands h maps s home n
  pub home_words : (address n home : ℕ) → maps.address address ≡ Some n → maps.home home ≡ Some n
      → (scion : ℕ) × (s.word (address + 1) ≡ home_word (Some (record { home = home; scion = scion })))
  pub named_homes : (address n home scion : ℕ) → maps.address address ≡ Some n
      → IsHomeAndScion (record { home = home; scion = scion })
      → s.word (address + 1) ≡ home_word (Some (record { home = home; scion = scion })) → maps.home home ≡ Some n
  pub stubs : (k : ℕ) (x : Scion) → s.base.scion k ≡ Some x → (n : ℕ) × (z : Shape) × (maps.home x.home ≡ Some n)
      × HeadIs s.base x.home (record { shape = z; kind = Stub k })

-- Between two events of an epoch: the words are well formed, a search for a home ends at the first empty forwarding
-- word, and where the disk tells its words, all of them stand for the history.
pub record Holds (told : Bool) (h : List Entry) (maps : Maps) (s : State) : Type 0 where
  pub formed : FormedWords maps s
  pub no_gaps : NoGaps s
  pub tells : told ≡ true → Tells h maps s

-- the value that an address in a register stands for
abbrev pub value_at : Maps → ℕ → Option Value
value_at maps zero = Some Nil
value_at maps (suc address) = option_map Ref (maps.address (suc address))

-- The state stands for the history, and the registers for these values, by thread and number.
pub record Placed (h : List Entry) (value : ℕ → ℕ → Value) (maps : Maps) (s : State) : Type 0 where
  pub formed : Formed maps s
  pub tells : Tells h maps s
  pub registers : (t r : ℕ) → value_at maps (s.register t r) ≡ Some (value t r)
