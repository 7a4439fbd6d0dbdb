-- The object of a home comes into use: by a word that sends the home, by a Stub, or by a copy.
use Rattle.std.proofs.Common.{◌≡◌, ℕ, ◌+◌, ◌*◌, ◌-◌, ◌≤◌, Bool, true, inl, inr, List, Ok, Err}
use Rattle.std.proofs.Common.{refl, sym, ◌∙◌, ap, subst, arith}
use Rattle.std.specs.Prelude.{Option, Some, Result}
use Rattle.atomic_table.specs.declared.shared.Seat.{Seat}
use Rattle.melt_word.specs.declared.header.Shape.{Shape}
use Rattle.melt_scion.specs.Commits.{HasRecord}
use Rattle.melt_scion.specs.GhostMaps.{named}
use Rattle.melt_scion.specs.Scions.{Scions}
use Rattle.melt_scion.specs.declared.heap.Heap.{Heap}
use Rattle.melt_core.specs.declared.answer.Refusal.{Refusal}
use Rattle.melt_core.specs.declared.answer.Refusal.TheVariants as refusal
use Rattle.melt_core.specs.declared.call.Search.{Search}
use Rattle.melt_rule.specs.Coming.{HomeHas}
use Rattle.melt_rule.specs.Rule.{is_bound}
use Rattle.melt_rule.specs.Seats.{EpochWords, IsSeat, knows_of}
use Rattle.melt_rule.specs.Shown.{base_at}
use Rattle.melt_rule.specs.Tells.{FitsIn, Reaches}
use Rattle.melt_rule.specs.declared.began.Began.{Began}
use Rattle.melt_rule.specs.declared.view.Doing.{Doing}
use Rattle.melt_rule.specs.declared.view.Doing.TheVariants.{Missed}
use Rattle.melt_rule.specs.declared.view.View.{View}
use Rattle.melt_epoch.proofs.Following.{counts_most}
use Rattle.melt_epoch.proofs.Toward.{Toward, goes_then, goes_toward, toward_full, toward_goes, toward_itself}
use Rattle.melt_epoch.proofs.Toward.{toward_lacked}
use Rattle.melt_epoch.specs.Bringing.{Brings, Brought, IsLost, LacksEither, LacksRoomForCopy, Misses, Seeks, Stays}
use Rattle.melt_epoch.specs.Bringing.{in_use_at, tried_to}
use Rattle.melt_epoch.specs.Epochs.{Fits}
use Rattle.melt_epoch.specs.Fetching.{BodyFetched, Fetches, IsUnread, OfDisk}
use Rattle.melt_epoch.specs.declared.fetch.Fetched.{Fetched}
use Rattle.melt_epoch.specs.declared.fetch.Fetched.TheVariants as fetched
use Rattle.melt_epoch.specs.declared.bring.Sought.TheVariants as sought
use Rattle.melt_record.specs.declared.head.Kind.TheVariants.{Body}
use Rattle.melt_scion.specs.Placed.{HeadIs}

-- what a seat knows of a home that it missed
pub missed_fits : (words : EpochWords) (seat : Seat ℕ View) (search : Search) → IsSeat words seat
    → (knows_of seat).doing ≡ Some (Missed search) → FitsIn words.start.began (Some (Missed search))
missed_fits words seat search is_seat at =
    subst (λ (b : Began). FitsIn b (Some (Missed search))) is_seat.began
    (subst (λ (d : Option Doing). FitsIn (knows_of seat).began d) at is_seat.within.doing)

-- the disk of the epoch is that of the reader
pub of_disk : (words : EpochWords) (heap : Heap) (image : Option (List ℕ)) (end : ℕ) → Fits words heap end
    → (words.start.began.told ≡ true → image ≡ Some words.start.began.image) → OfDisk words.start.began image end
of_disk words heap image end fits tells = record { ends = sym fits.ends; tells = tells }

-- no record is damaged where the epoch is told
pub unread_lost : {words : EpochWords} {heap : Heap} (image : Option (List ℕ)) {end : ℕ} (home before after : ℕ)
    (why : Refusal) → Fits words heap end → (words.start.began.told ≡ true → image ≡ Some words.start.began.image)
    → (words.start.began.told ≡ true → HasRecord (base_at words.start.began) home)
    → IsUnread image heap.scions end home before after why
    → IsLost words.start.began.told image heap.scions end home before after why
unread_lost {words} {heap} image {end} home before after refusal.DiskFault fits tells has rose = rose
unread_lost {words} {heap} image {end} home before after (refusal.Damaged damaged) fits tells has bad = (
  bad.breaks,
  λ told. bad.untold words.start.began (of_disk words heap image end fits tells) (sym fits.scions) told (has told),
)
unread_lost {words} {heap} image {end} home before after (refusal.Pause pause) fits tells has none = none

-- what is known after a search was known before
home_has_here : (v w : View) (home : ℕ) (z : Shape) (u : View) → w.began ≡ v.began → HomeHas w u.seen home z
    → HomeHas v u.seen home z
home_has_here v w home z u began has told =
    let had = has (ap (λ (b : Began). b.told) began ∙ told) in (
      subst (λ (b : Began). HeadIs (base_at b) home (record { shape = z; kind = Body })) began had.0,
      λ n at. had.1 n (ap (λ (b : Began). named b.maps.homes home) began ∙ at),
    )

pub lacks_on : {v w u : View} (search : Search) (tried : ℕ) {m n : ℕ} (k : ℕ) {why : Refusal} → m + n ≤ k
    → Toward v w 0 0 m → LacksRoomForCopy w u (tried_to search tried) n why → LacksRoomForCopy v u search k why
lacks_on {v} {w} {u} search tried k le toward lacks = record {
  shape = lacks.shape;
  small = lacks.small;
  object = home_has_here v w search.home lacks.shape u toward.counts.began lacks.object;
  is = lacks.is;
  sees = toward.on u.seen lacks.sees;
  lacked = toward_lacked k le toward lacks.lacked;
  over = lacks.over;
}

-- the Body that was fetched
pub body_of : {image : Option (List ℕ)} (scions : Scions) {end : ℕ} (home before after : ℕ) {found : Fetched}
    (z : Shape) (rest : List ℕ) → found ≡ fetched.Body z rest → Fetches image scions end home before after (Ok found)
    → BodyFetched image end home z rest
body_of {image} scions {end} home before after z rest is fetches =
    subst (λ (f : Fetched). Fetches image scions end home before after (Ok f)) is fetches

-- a Stub leads to the object
pub stub_brings : (v w : View) (search : Search) (target most : ℕ) → 1 ≤ most
    → Reaches v w (Some (in_use_at search target)) → Brought v w search most target
stub_brings v w search target most some_ clears = record {
  words = 0;
  wins = 0;
  goes = toward_goes most some_ (toward_itself v) clears;
  claims = inl (refl, refl);
}

pub paused_on : {v w : View} (u : View) (search : Search) (tried : ℕ) {m : ℕ} (n k : ℕ) (why : Refusal) → m + n ≤ k
    → Toward v w 0 0 m → search.tried ≤ tried → v.steps + (tried - search.tried) ≤ w.steps
    → LacksEither w u (tried_to search tried) n why → LacksEither v u search k why
paused_on {v} {w} u search tried n k why le toward from read (inl found) = inl (record {
  words = found.words;
  full = toward_full k (omega arith) le toward found.full;
  read =
      let began = ap (λ (b : Began). b.forwards) toward.counts.began in
      let all = found.read in
      omega arith;
  claims = elim found.claims [
    | inl none ↦ inl none
    | inr some_ ↦ inr (
      some_.0,
      some_.1,
      home_has_here v w search.home some_.0 u toward.counts.began some_.2,
    )
  ];
})
paused_on {v} {w} u search tried n k why le toward from read (inr lacks) =
    inr (lacks_on search tried k le toward lacks)

pub brought_on : {v w u : View} (search : Search) (tried : ℕ) {m n : ℕ} (k : ℕ) {address : ℕ} → m + n ≤ k
    → Toward v w 0 0 m → Brought w u (tried_to search tried) n address → Brought v u search k address
brought_on {v} {w} {u} search tried k le toward brought = record {
  words = brought.words;
  wins = brought.wins;
  goes = goes_then k le toward brought.goes;
  claims = elim brought.claims [
    | inl none ↦ inl none
    | inr some_ ↦ inr (
      some_.0,
      some_.1,
      some_.2,
      home_has_here v w search.home some_.0 u toward.counts.began some_.3,
    )
  ];
}

module _ (told : Bool) (image : Option (List ℕ)) (scions : Scions) (end before after : ℕ) where
  -- all forwarding words send other homes than that of a search
  pub sought_full : (v w : View) (search : Search) {forwards : ℕ} (why : Refusal) → search.tried ≡ 0
      → forwards ≡ v.began.forwards → Seeks v w search forwards (Err why)
      → Brings told image scions end before after v w search (2 * forwards + 130) (Err why)
  sought_full v w search {forwards} why first same full = inl (inl (record {
    words = 0;
    full = toward_full (2 * forwards + 130) (omega arith) (omega arith) (toward_itself v) full.0;
    read = let all = full.1 in omega arith;
    claims = inl refl;
  }))

  -- a home that a search missed was brought, or was not
  pub missed_brings : {v w : View} (u : View) (search : Search) {missed : Search} (forwards : ℕ)
      (result : Result ℕ Refusal) → search.tried ≡ 0 → Seeks v w search forwards (Ok (sought.Missed missed))
      → Misses told image scions end before after w u missed (128 + 2 * (forwards - missed.tried)) result
      → Brings told image scions end before after v u search (2 * forwards + 130) result
  missed_brings {v} {w} u search {missed} forwards result first seeks misses =
      brings result (subst (λ (s : Search). Misses told image scions end before after w u s most result) seeks.3 misses)
    where
      most : ℕ
      most = 128 + 2 * (forwards - missed.tried)

      toward : Toward v w 0 0 (missed.tried + 1 - search.tried)
      toward = goes_toward v w 0 0 (missed.tried + 1 - search.tried) (Missed missed) seeks.0

      few : (missed.tried + 1 - search.tried) + (128 + 2 * (forwards - missed.tried)) ≤ 2 * forwards + 130
      few = let below = seeks.2 in omega arith

      brings : (result : Result ℕ Refusal)
          → Misses told image scions end before after w u (tried_to search missed.tried)
          (128 + 2 * (forwards - missed.tried)) result
          → Brings told image scions end before after v u search (2 * forwards + 130) result
      brings (Ok address) brought =
          brought_on search missed.tried (2 * forwards + 130) few toward brought
      brings (Err why) (inl paused) =
          inl (paused_on u search missed.tried (128 + 2 * (forwards - missed.tried)) (2 * forwards + 130) why few toward
          seeks.1 (let read = seeks.4 in let from = seeks.1 in omega arith) paused)
      brings (Err why) (inr lost) = inr (
        subst (λ (x : View). Stays v x (2 * forwards + 130)) (sym lost.0) (record {
          sees = seeks.0.sees;
          counts = counts_most v w 0 0 (missed.tried + 1 - search.tried) (2 * forwards + 130)
              (let below = seeks.2 in omega arith) seeks.0.counts;
          goes_on = ap is_bound seeks.0.at;
        }),
        lost.1,
      )
