-- What is read of the record of a home.
use Rattle.std.specs.Prelude.{◌≡◌, ◌≢◌, ◌⊎◌, ℕ, ◌+◌, true, List, length, take, slice_index}
use Rattle.std.specs.Prelude.{Option, Some, IfSome, Result, Ok, Err}
use Rattle.melt_word.specs.Words.{IsShape}
use Rattle.melt_word.specs.declared.header.Shape.{Shape}
use Rattle.melt_record.specs.Records.{AreSlots, IsHead, IsHeadDamage, IsSlotDamage}
use Rattle.melt_record.specs.declared.damage.Damaged.{Damaged}
use Rattle.melt_record.specs.declared.head.Head.{Head}
use Rattle.melt_record.specs.declared.head.Kind.TheVariants.{Body}
use Rattle.melt_io.specs.Outside.{Rose, words_at}
use Rattle.melt_scion.specs.Commits.{HasBody, HasRecord}
use Rattle.melt_scion.specs.Heaps.{scion_in}
use Rattle.melt_scion.specs.Scions.{Scions}
use Rattle.melt_core.specs.Advances.{NamesNoScion}
use Rattle.melt_core.specs.declared.answer.Refusal.{Refusal}
use Rattle.melt_core.specs.declared.answer.Refusal.TheVariants as refusal
use Rattle.melt_rule.specs.Shown.{base_at}
use Rattle.melt_rule.specs.declared.began.Began.{Began}
use Rattle.melt_epoch.specs.declared.fetch.Fetched.{Fetched}
use Rattle.melt_epoch.specs.declared.fetch.Fetched.TheVariants as fetched

-- The epoch began with a disk that ends at this word. Where the epoch is told, the reader tells the words of the disk.
pub record OfDisk (b : Began) (image : Option (List ℕ)) (end : ℕ) : Type 0 where
  pub ends : b.end ≡ end
  pub tells : b.told ≡ true → image ≡ Some b.image

-- so many words from this one on were read, which are those that the reader tells
abbrev pub WasRead : Option (List ℕ) → ℕ → ℕ → List ℕ → Type 0
WasRead image at n words = IfSome image (λ told. words ≡ words_at told at n)

-- A head was read.
pub record HeadRead (image : Option (List ℕ)) (end home : ℕ) (head : Head) : Type 0 where
  pub words : List ℕ
  pub read : WasRead image home 2 words
  pub is : IsHead home end (slice_index words 0) (slice_index words 1) head

-- Two words were read that spell no head.
pub record HeadBroken (image : Option (List ℕ)) (end home : ℕ) (damaged : Damaged) : Type 0 where
  pub words : List ℕ
  pub read : WasRead image home 2 words
  pub breaks : IsHeadDamage home end (slice_index words 0) (slice_index words 1) damaged

abbrev pub ReadsHead : Option (List ℕ) → ℕ → ℕ → ℕ → ℕ → Result Head Refusal → Type 0
ReadsHead image end home before after (Ok head) = HeadRead image end home head
ReadsHead image end home before after (Err refusal.DiskFault) = Rose before after
ReadsHead image end home before after (Err (refusal.Damaged damaged)) = HeadBroken image end home damaged
ReadsHead image end home before after (Err (refusal.Pause pause)) = ⊥

-- how many words a Body has after its head
abbrev pub rest_size : Shape → ℕ
rest_size z = z.refs + z.nums

-- The words of a Body after its head were read, in front of others.
pub record RestRead (image : Option (List ℕ)) (end home : ℕ) (z : Shape) (rest : List ℕ) : Type 0 where
  pub size : length rest ≡ 124
  pub read : WasRead image (home + 2) (rest_size z) (take (rest_size z) rest)
  pub slots : AreSlots end z.refs (take (rest_size z) rest)

-- A slot was read that is none.
pub record RestBroken (image : Option (List ℕ)) (end home : ℕ) (z : Shape) (damaged : Damaged) : Type 0 where
  pub words : List ℕ
  pub read : WasRead image (home + 2) (rest_size z) words
  pub breaks : IsSlotDamage home end z.refs words damaged

abbrev pub ReadsRest : Option (List ℕ) → ℕ → ℕ → Shape → ℕ → ℕ → Result (List ℕ) Refusal → Type 0
ReadsRest image end home z before after (Ok rest) = RestRead image end home z rest
ReadsRest image end home z before after (Err refusal.DiskFault) = Rose before after
ReadsRest image end home z before after (Err (refusal.Damaged damaged)) = RestBroken image end home z damaged
ReadsRest image end home z before after (Err (refusal.Pause pause)) = ⊥

-- no live scion of this number is of the home
pub record IsDead (scions : Scions) (home scion : ℕ) (damaged : Damaged) : Type 0 where
  pub dead : (address : ℕ) → scion_in scions scion ≢ Some (record { home = home; address = address })
  pub is : damaged ≡ record { home = home; at = 1; word = scion }

-- A Body was read: its shape, and the words after its head in front of others.
pub record BodyFetched (image : Option (List ℕ)) (end home : ℕ) (z : Shape) (rest : List ℕ) : Type 0 where
  pub small : IsShape z
  pub size : length rest ≡ 124
  pub has : (b : Began) → OfDisk b image end → HasBody b.told (base_at b) home z (take (rest_size z) rest)

-- Two words were read that spell no head, or that of a Stub which names no scion of the home.
pub record HeadDamage (image : Option (List ℕ)) (scions : Scions) (end home : ℕ) (damaged : Damaged) : Type 0 where
  pub words : List ℕ
  pub read : WasRead image home 2 words
  pub breaks : IsHeadDamage home end (slice_index words 0) (slice_index words 1) damaged
      ⊎ NamesNoScion scions home end (slice_index words 0) (slice_index words 1) damaged

-- The head of a Body was read, and a slot after it that is none.
pub record RestDamage (image : Option (List ℕ)) (end home : ℕ) (damaged : Damaged) : Type 0 where
  pub shape : Shape
  pub head : HeadRead image end home (record { shape = shape; kind = Body })
  pub rest : RestBroken image end home shape damaged

abbrev pub IsDamage : Option (List ℕ) → Scions → ℕ → ℕ → Damaged → Type 0
IsDamage image scions end home damaged = HeadDamage image scions end home damaged ⊎ RestDamage image end home damaged

-- A record is damaged: what was read is none. So it is not where the epoch is told, and has a record there.
pub record IsDamaged (image : Option (List ℕ)) (scions : Scions) (end home : ℕ) (damaged : Damaged) : Type 0 where
  pub breaks : IsDamage image scions end home damaged
  pub untold : (b : Began) → OfDisk b image end → b.scions ≡ scions → b.told ≡ true → HasRecord (base_at b) home → ⊥

-- why no record was read: the reader failed, in this call, or the record is none
abbrev pub IsUnread : Option (List ℕ) → Scions → ℕ → ℕ → ℕ → ℕ → Refusal → Type 0
IsUnread image scions end home before after refusal.DiskFault = Rose before after
IsUnread image scions end home before after (refusal.Damaged damaged) = IsDamaged image scions end home damaged
IsUnread image scions end home before after (refusal.Pause pause) = ⊥

-- what a record that was read tells
abbrev pub Fetches : Option (List ℕ) → Scions → ℕ → ℕ → ℕ → ℕ → Result Fetched Refusal → Type 0
Fetches image scions end home before after (Ok (fetched.Stub scion target)) =
    scion_in scions scion ≡ Some (record { home = home; address = target })
Fetches image scions end home before after (Ok (fetched.Body shape rest)) = BodyFetched image end home shape rest
Fetches image scions end home before after (Err refusal) = IsUnread image scions end home before after refusal
