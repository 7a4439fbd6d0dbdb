-- What was read of a record is what stands on the disk with which an epoch began, where that is told.
use Rattle.std.proofs.Common.{◌≡◌, ℕ, ◌+◌, ◌-◌, ◌^◌, ◌<◌, ◌≤◌, true, inl, inr, Err, List, ◌++◌, take, drop, replicate}
use Rattle.std.proofs.Common.{sym, ◌∙◌, ap, subst, arith}
use Rattle.std.proofs.lemmas.Bool.{cases_lt}
use Rattle.std.proofs.lemmas.List.{get_or-drop, get_or-take}
use Rattle.std.specs.Prelude.{Option, Some, slice_index}
use Rattle.melt_word.specs.Words.{IsDiskHome, cost_of}
use Rattle.melt_word.specs.declared.header.Shape.{Shape}
use Rattle.melt_record.specs.Records.{AreSlots, IsHead, IsHeadDamage, IsSlotDamage}
use Rattle.melt_record.specs.declared.damage.Damaged.{Damaged}
use Rattle.melt_record.specs.declared.head.Head.{Head}
use Rattle.melt_record.specs.declared.head.Kind.{Kind}
use Rattle.melt_record.specs.declared.head.Kind.TheVariants.{Body, Stub}
use Rattle.melt_io.proofs.WordBytes.{get_or-padded}
use Rattle.melt_io.specs.Outside.{Rose, words_at}
use Rattle.melt_scion.proofs.Searching.{no_head_damage, no_slot_damage, stub_live}
use Rattle.melt_scion.specs.Commits.{HasBody, HasRecord}
use Rattle.melt_scion.specs.Heaps.{scion_in}
use Rattle.melt_scion.specs.Placed.{HeadIs}
use Rattle.melt_scion.specs.Scions.{Scions}
use Rattle.melt_core.specs.declared.answer.Refusal.{Refusal}
use Rattle.melt_core.specs.declared.answer.Refusal.TheVariants as refusal
use Rattle.melt_rule.specs.Shown.{base_at}
use Rattle.melt_rule.specs.declared.began.Began.{Began}
use Rattle.melt_epoch.specs.Fetching.{BodyFetched, HeadBroken, HeadDamage, HeadRead, IsDamage, IsDamaged, IsDead}
use Rattle.melt_epoch.specs.Fetching.{OfDisk}
use Rattle.melt_epoch.specs.Fetching.{IsUnread, ReadsRest, RestBroken, RestDamage, RestRead, WasRead}
use Rattle.melt_epoch.specs.Fetching.{rest_size}

-- words that were read are those of the disk, where the epoch is told
read_told : (b : Began) (image : Option (List ℕ)) (at n : ℕ) (words : List ℕ) → image ≡ Some b.image
    → WasRead image at n words → (i : ℕ) → i < n → slice_index words i ≡ slice_index b.image (at + i)
read_told b image at n words is read i below =
    let same : words ≡ words_at b.image at n = subst (λ (m : Option (List ℕ)). WasRead m at n words) is read in
    ap (λ (ws : List ℕ). slice_index ws i) same
    ∙ (get_or-take n (drop at b.image ++ replicate n 0) i 0 below
    ∙ (get_or-padded (drop at b.image) n i ∙ get_or-drop at b.image i 0))

module _ (b : Began) (image : Option (List ℕ)) (end home : ℕ) (of : OfDisk b image end) where
  first_told : (words : List ℕ) → b.told ≡ true → WasRead image home 2 words
      → slice_index words 0 ≡ (base_at b).image home
  first_told words told read =
      read_told b image home 2 words (of.tells told) read 0 (omega arith)
      ∙ ap (slice_index b.image) (let e : home + 0 ≡ home = omega arith in e)

  second_told : (words : List ℕ) → b.told ≡ true → WasRead image home 2 words
      → slice_index words 1 ≡ (base_at b).image (home + 1)
  second_told words told read = read_told b image home 2 words (of.tells told) read 1 (omega arith)

  -- the head that was read is that on disk
  head_stands : (words : List ℕ) (head : Head) → b.told ≡ true → WasRead image home 2 words
      → IsHead home end (slice_index words 0) (slice_index words 1) head → HeadIs (base_at b) home head
  head_stands words head told read is =
      subst (λ (e : ℕ). IsHead home e (slice_index b.image home) (slice_index b.image (home + 1)) head) (sym of.ends)
      (subst (λ (x : ℕ). IsHead home end x (slice_index b.image (home + 1)) head) (first_told words told read)
      (subst (λ (y : ℕ). IsHead home end (slice_index words 0) y head) (second_told words told read) is))

  body_here : (z : Shape) (rest : List ℕ) → IsDiskHome home
      → HeadRead image end home (record { shape = z; kind = Body }) → RestRead image end home z rest
      → HasBody b.told (base_at b) home z (take (rest_size z) rest)
  body_here z rest range head read = record {
    head = record {
      in_range = range;
      small = head.is.first_word.in_range;
      within = subst (λ (e : ℕ). home + cost_of z ≤ e) (sym of.ends) head.is.first_word.within;
      on_disk = λ told. head_stands head.words (record { shape = z; kind = Body }) told head.read head.is;
    };
    slots = subst (λ (e : ℕ). AreSlots e z.refs (take (rest_size z) rest)) (sym of.ends) read.slots;
    on_disk = λ told i below. read_told b image (home + 2) (rest_size z) (take (rest_size z) rest)
        (of.tells told) read.read i below;
  }

  -- where there is a record, no head of it is damaged
  head_sound : (scions : Scions) (damaged : Damaged) → HeadDamage image scions end home damaged → b.scions ≡ scions
      → b.told ≡ true → HasRecord (base_at b) home → ⊥
  head_sound scions damaged bad same told has = elim bad.breaks [
    | inl breaks ↦ no_head_damage (base_at b) home has (slice_index bad.words 0) (slice_index bad.words 1) damaged
        (first_told bad.words told bad.read)
        (second_told bad.words told bad.read)
        (subst (λ (e : ℕ). IsHeadDamage home e (slice_index bad.words 0) (slice_index bad.words 1) damaged)
        (sym of.ends) breaks)
    | inr none ↦
        let live = stub_live (base_at b) home has none.shape none.scion
        (head_stands bad.words (record { shape = none.shape; kind = Stub none.scion }) told bad.read none.head) in
        none.dead live.0 (ap (λ (s : Scions). scion_in s none.scion) (sym same) ∙ live.1)
  ]

  -- and no slot
  rest_sound : (damaged : Damaged) → RestDamage image end home damaged → b.told ≡ true → HasRecord (base_at b) home → ⊥
  rest_sound damaged bad told has =
      no_slot_damage (base_at b) home has bad.shape bad.rest.words damaged
      (head_stands bad.head.words (record { shape = bad.shape; kind = Body }) told bad.head.read bad.head.is)
      (λ i below. read_told b image (home + 2) (rest_size bad.shape) bad.rest.words (of.tells told) bad.rest.read i
      (omega arith))
      (subst (λ (e : ℕ). IsSlotDamage home e bad.shape.refs bad.rest.words damaged) (sym of.ends) bad.rest.breaks)

pub is_damaged : (image : Option (List ℕ)) (scions : Scions) (end home : ℕ) (damaged : Damaged)
    → IsDamage image scions end home damaged → IsDamaged image scions end home damaged
is_damaged image scions end home damaged (inl bad) = record {
  breaks = inl bad;
  untold = λ b of same told has. head_sound b image end home of scions damaged bad same told has;
}
is_damaged image scions end home damaged (inr bad) = record {
  breaks = inr bad;
  untold = λ b of same told has. rest_sound b image end home of damaged bad told has;
}

pub body_fetched : (image : Option (List ℕ)) (end home : ℕ) (z : Shape) (rest : List ℕ) → IsDiskHome home
    → HeadRead image end home (record { shape = z; kind = Body }) → RestRead image end home z rest
    → BodyFetched image end home z rest
body_fetched image end home z rest range head read = record {
  small = head.is.first_word.in_range;
  size = read.size;
  has = λ b of. body_here b image end home of z rest range head read;
}

-- the words of a head spell none
pub head_broken : (image : Option (List ℕ)) (scions : Scions) (end home : ℕ) (damaged : Damaged)
    → HeadBroken image end home damaged → IsDamaged image scions end home damaged
head_broken image scions end home damaged bad =
    is_damaged image scions end home damaged (inl (record {
      words = bad.words;
      read = bad.read;
      breaks = inl bad.breaks;
    }))

-- or a Stub that names no scion of the home
pub stub_dead : {image : Option (List ℕ)} {scions : Scions} {end home scion : ℕ} (z : Shape) {damaged : Damaged}
    → HeadRead image end home (record { shape = z; kind = Stub scion }) → IsDead scions home scion damaged
    → IsDamaged image scions end home damaged
stub_dead {image} {scions} {end} {home} {scion} z {damaged} head dead =
    is_damaged image scions end home damaged (inl (record {
      words = head.words;
      read = head.read;
      breaks = inr (record {
        shape = z;
        scion = scion;
        head = head.is;
        dead = dead.dead;
        is = dead.is ∙ ap (λ (w : ℕ). record { home = home; at = 1; word = w }) (sym head.is.second_word.1);
      });
    }))

-- or a slot after it is none
pub rest_broken : (image : Option (List ℕ)) (scions : Scions) (end home : ℕ) (z : Shape) (damaged : Damaged)
    → HeadRead image end home (record { shape = z; kind = Body }) → RestBroken image end home z damaged
    → IsDamaged image scions end home damaged
rest_broken image scions end home z damaged head bad =
    is_damaged image scions end home damaged (inr (record { shape = z; head = head; rest = bad }))

pub rose_before : (before between after : ℕ) → before ≤ between → between ≤ after → Rose between after
    → Rose before after
rose_before before between after first more rose small = elim (cases_lt between (2 ^ 64 - 1)) [
  | inl below ↦ (let up = rose below in omega arith)
  | inr past ↦ omega arith
]

-- a head was read, and not the words after it, so no record
pub rest_unread : {image : Option (List ℕ)} (scions : Scions) {end home : ℕ} (before between after : ℕ) (z : Shape)
    (refusal : Refusal) → before ≤ between → between ≤ after
    → HeadRead image end home (record { shape = z; kind = Body })
    → ReadsRest image end home z between after (Err refusal) → IsUnread image scions end home before after refusal
rest_unread {image} scions {end} {home} before between after z refusal.DiskFault first more head rose =
    rose_before before between after first more rose
rest_unread {image} scions {end} {home} before between after z (refusal.Damaged damaged) first more head bad =
    rest_broken image scions end home z damaged head bad
rest_unread {image} scions {end} {home} before between after z (refusal.Pause pause) first more head none = none

-- a head of this kind
pub head_of_kind : (image : Option (List ℕ)) (end home : ℕ) (head : Head) (kind : Kind) → head.kind ≡ kind
    → HeadRead image end home head → HeadRead image end home (record { shape = head.shape; kind = kind })
head_of_kind image end home head kind is read =
    subst (λ (k : Kind). HeadRead image end home (record { shape = head.shape; kind = k })) is read
