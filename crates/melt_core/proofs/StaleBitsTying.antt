-- What an event owes to the stale bit, and that it stays tied to the history by it.
use Rattle.std.proofs.Common.{◌≡◌, ◌≢◌, ◌⊎◌, ℕ, ◌<◌, ◌≤◌, inl, inr, List, [], ◌∷◌}
use Rattle.std.proofs.Common.{length, take, refl, sym, ◌∙◌, ap, subst, arith, length-append}
use Rattle.std.proofs.lemmas.Bool.Decides.{eqb_tells}
use Rattle.std.proofs.lemmas.List.{take-append-le}
use Rattle.std.specs.Prelude.{true, false, slice_get, Option, None, Some, IfSome}
use Rattle.std.specs.Option.{option_map}
use Rattle.melt_model.specs.History.{last, given}
use Rattle.melt_model.specs.declared.history.Value.{Value}
use Rattle.melt_model.specs.declared.history.Value.TheVariants as value
use Rattle.melt_model.specs.declared.history.Slot.{Slot}
use Rattle.melt_model.specs.declared.history.Act.{Act}
use Rattle.melt_model.specs.declared.history.Entry.{Entry}
use Rattle.melt_model.proofs.Histories.{last_place}
use Rattle.melt_word.specs.declared.header.Header.{Header}
use Rattle.melt_word.specs.declared.reference.Ref.{Ref}
use Rattle.melt_word.specs.declared.reference.Ref.TheVariants.{Null, Clean, Stale, Disk}
use Rattle.melt_word.proofs.OneToOne.{same_header}
use Rattle.melt_scion.specs.Placed.{Maps, value_of}
use Rattle.melt_core.specs.declared.call.Place.{Place}
use Rattle.melt_core.specs.declared.call.Place.TheVariants.{Field, Global}
use Rattle.melt_core.specs.Answering.{entry, with_entry}
use Rattle.melt_core.specs.Known.{SlotAt}
use Rattle.melt_core.specs.Views.{InUse}
use Rattle.melt_core.specs.StaleBits.{Used, Passed, Sight, HasBit, HasNoBit, Look, look_of, pending, Pending}
use Rattle.melt_core.specs.StaleBits.{Watched, Tied, BitsTold}
use Rattle.melt_core.proofs.StaleBitsPassing.{passed_grows, used_last, gives_within}

-- An event of a thread, with the act of its entry, if it has one: what it leaves, and what it owes for each bit that it
-- clears, each object that appears by it, and each that its entry gives.
pub record Touches (q t : ℕ) (act : Option Act) (s w : Sight) : Type 0 where
  pub log : w.log ≡ with_entry t s.log act
  pub others : (x : ℕ) → x ≢ t → w.stage x ≡ s.stage x
  pub names : (a n : ℕ) → s.maps.address a ≡ Some n → w.maps.address a ≡ Some n
  pub homes : (home : ℕ) → w.maps.home home ≡ s.maps.home home
  pub watched : IfSome (look_of (w.stage t)) (Watched q w t)
  pub fresh : (n : ℕ) → HasNoBit s n → HasNoBit w n
  pub stale : (n : ℕ) → HasBit w n → HasBit s n
  pub clears : (n : ℕ) → HasNoBit w n → HasNoBit s n ⊎ (Passed w.log q n ⊎ Pending w n)
  pub in_use : (n : ℕ) → InUse w.maps n → InUse s.maps n ⊎ HasNoBit w n
  pub exchanges : (a n : ℕ) → pending (s.stage t) ≡ Some a → s.maps.address a ≡ Some n → Passed w.log q n
  pub gives : (n : ℕ) (x : Act) → act ≡ Some x → given s.log x ≡ Some (value.Ref n) → HasNoBit w n

-- an object has the bit or not
pub one_bit : (s : Sight) (n : ℕ)
    → ((a b : ℕ) → s.maps.address a ≡ Some n → s.maps.address b ≡ Some n → a ≡ b) → HasNoBit s n → HasBit s n → ⊥
one_bit s n one fresh stale =
    let same : fresh.address ≡ stale.address = one fresh.address stale.address fresh.named stale.named in
    let header : Header = record { shape = fresh.shape; stale = false } in
    let other : Header = record { shape = stale.shape; stale = true } in
    let one_header : header ≡ other = same_header header other fresh.small stale.small
    (sym fresh.word ∙ (ap s.word same ∙ stale.word)) in
    let bits : false ≡ true = ap (λ (h : Header). h.stale) one_header in
    cc

longer : (t : ℕ) (h : List Entry) (act : Option Act) → length h ≤ length (with_entry t h act)
longer t h None = omega arith
longer t h (Some act) = omega (arith, length-append h (entry t act ∷ []))

passed_on : (t : ℕ) (h : List Entry) (act : Option Act) (q n : ℕ) → Passed h q n → Passed (with_entry t h act) q n
passed_on t h None q n passed = passed
passed_on t h (Some act) q n passed = passed_grows h (entry t act ∷ []) q n passed

used_before : (t : ℕ) (h : List Entry) (act : Option Act) (q n : ℕ) → Used (with_entry t h act) q n
    → Used h q n ⊎ ((x : Act) × (act ≡ Some x) × (given h x ≡ Some (value.Ref n)))
used_before t h None q n used = inl used
used_before t h (Some act) q n used = elim (used_last h (entry t act) q n used) [
  | inl old ↦ inl old
  | inr new ↦ inr (act, refl, new)
]

module _ (old new : Maps) (names : (a n : ℕ) → old.address a ≡ Some n → new.address a ≡ Some n) where
  slot_stays : (place : Place) (slot : Slot) → SlotAt old place slot → SlotAt new place slot
  slot_stays (Field object i) slot at = (at.0, names object at.0 at.1, at.2)
  slot_stays (Global g) slot at = at

  mapped_stays : (a : ℕ) (v : Value) → option_map value.Ref (old.address a) ≡ Some v
      → option_map value.Ref (new.address a) ≡ Some v
  mapped_stays a v is = by_name (old.address a) v is (names a)
    where
      by_name : (name : Option ℕ) (v : Value) → option_map value.Ref name ≡ Some v
          → ((n : ℕ) → name ≡ Some n → new.address a ≡ Some n) → option_map value.Ref (new.address a) ≡ Some v
      by_name None v is stays = absurd (cc)
      by_name (Some n) v is stays = ap (option_map value.Ref) (stays n refl) ∙ is

  value_stays : ((home : ℕ) → new.home home ≡ old.home home) → (r : Ref) (v : Value) → value_of old r ≡ Some v
      → value_of new r ≡ Some v
  value_stays homes Null v is = is
  value_stays homes (Clean a) v is = mapped_stays a v is
  value_stays homes (Stale a) v is = mapped_stays a v is
  value_stays homes (Disk home) v is = ap (option_map value.Ref) (homes home) ∙ is

-- no entry of the thread came in between
after_stays : (t : ℕ) {x : ℕ} (k moment : ℕ) (h : List Entry) (act : Option Act) {e : Entry} → (x ≢ t) ⊎ (act ≡ None)
    → ((j : ℕ) (y : Entry) → slice_get h j ≡ Some y → y.thread ≡ x → j < moment)
    → slice_get (with_entry t h act) k ≡ Some e → e.thread ≡ x → k < moment
after_stays t k moment h None {e} other after at own = after k e at own
after_stays t k moment h (Some act) {e} other after at own = elim (last_place h (entry t act) k e at) [
  | inl old ↦ after k e old.1 own
  | inr new ↦ elim other [
    | inl differs ↦ absurd (differs (sym own ∙ sym (ap (λ (y : Entry). y.thread) new.1)))
    | inr none ↦ absurd (cc)
  ]
]

taken_stays : (t moment : ℕ) (h : List Entry) (act : Option Act) → moment ≤ length h
    → take moment (with_entry t h act) ≡ take moment h
taken_stays t moment h None to = refl
taken_stays t moment h (Some act) to = take-append-le moment h (entry t act ∷ []) to

-- what was watched for a thread stays so, where the thread has no entry
watched_stays : {q : ℕ} (t : ℕ) {x : ℕ} (act : Option Act) {s : Sight} (w : Sight) {look : Look}
    → w.log ≡ with_entry t s.log act → ((a n : ℕ) → s.maps.address a ≡ Some n → w.maps.address a ≡ Some n)
    → ((home : ℕ) → w.maps.home home ≡ s.maps.home home) → (x ≢ t) ⊎ (act ≡ None) → Watched q s x look
    → Watched q w x look
watched_stays t act {s} w {look} log names homes other is =
    let to : is.moment ≤ length s.log = is.to in
    record {
      number = is.number;
      stands_for = value_stays s.maps w.maps names homes look.found (value.Ref is.number) is.stands_for;
      slot = is.slot;
      at = slot_stays s.maps w.maps names look.place is.slot is.at;
      moment = is.moment;
      from = is.from;
      to = omega (arith, to, longer t s.log act, ap length log);
      after = λ k e at own. after_stays t k is.moment s.log act other is.after
          (subst (λ (h : List Entry). slice_get h k ≡ Some e) log at) own;
      held = ap (λ (h : List Entry). last (take is.moment h) is.slot) log
          ∙ (ap (λ (h : List Entry). last h is.slot) (taken_stays t is.moment s.log act to) ∙ is.held);
    }

pub look_stays : (q t x : ℕ) {act : Option Act} (s w : Sight) (look : Option Look) → w.log ≡ with_entry t s.log act
    → ((a n : ℕ) → s.maps.address a ≡ Some n → w.maps.address a ≡ Some n)
    → ((home : ℕ) → w.maps.home home ≡ s.maps.home home) → (x ≢ t) ⊎ (act ≡ None) → IfSome look (Watched q s x)
    → IfSome look (Watched q w x)
look_stays q t x {act} s w None log names homes other is = tt
look_stays q t x {act} s w (Some look) log names homes other is =
    watched_stays t act w log names homes other is

module _ (t : ℕ) (act : Option Act) (u s w : Sight) (touches : Touches (length u.log) t act s w) (tied : Tied u s) where
  grown : (n : ℕ) → Passed s.log (length u.log) n → Passed w.log (length u.log) n
  grown n passed = subst (λ (h : List Entry). Passed h (length u.log) n) (sym touches.log)
      (passed_on t s.log act (length u.log) n passed)

  watched_later : (x : ℕ) → IfSome (look_of (w.stage x)) (Watched (length u.log) w x)
  watched_later x = elim (eqb_tells x t) [
    | inl same ↦ subst (λ (k : ℕ). IfSome (look_of (w.stage k)) (Watched (length u.log) w k)) (sym same.1)
        touches.watched
    | inr other ↦
        let stage = touches.others x other.1 in
        subst (λ (g : Option Look). IfSome g (Watched (length u.log) w x)) (ap look_of (sym stage))
        (look_stays (length u.log) t x {act = act} s w (look_of (s.stage x)) touches.log touches.names touches.homes
        (inl other.1) (tied.watched x))
  ]

  address_stays : (n : ℕ) → InUse s.maps n → InUse w.maps n
  address_stays n is = (is.0, touches.names is.0 n is.1)

  -- a call that was about to pass the object passed it, or is still about to
  pending_later : (n : ℕ) → Pending s n → Passed w.log (length u.log) n ⊎ Pending w n
  pending_later n is = elim (eqb_tells is.thread t) [
    | inl same ↦ inl (touches.exchanges is.address n (ap (λ (x : ℕ). pending (s.stage x)) (sym same.1)
        ∙ is.is) is.named)
    | inr other ↦ inr (record {
      thread = is.thread;
      address = is.address;
      is = ap pending (touches.others is.thread other.1) ∙ is.is;
      named = touches.names is.address n is.named;
    })
  ]

  cleared_later : (n : ℕ) → HasNoBit w n → HasNoBit u n ⊎ (Passed w.log (length u.log) n ⊎ Pending w n)
  cleared_later n fresh = elim (touches.clears n fresh) [
    | inr since ↦ inr since
    | inl before ↦ elim (tied.cleared n before) [
      | inl first ↦ inl first
      | inr since ↦ inr (elim since [ inl passed ↦ inl (grown n passed) | inr waits ↦ pending_later n waits ])
    ]
  ]

  used_later : (n : ℕ) → InUse w.maps n → Used w.log (length u.log) n → HasNoBit w n
  used_later n in_use used =
      elim (used_before t s.log act (length u.log) n (subst (λ (h : List Entry). Used h (length u.log) n) touches.log
      used)) [
        | inr now ↦ touches.gives n now.0 now.1 now.2
        | inl before ↦ elim (touches.in_use n in_use) [
          | inr appeared ↦ appeared
          | inl was ↦ touches.fresh n (tied.used n was before)
        ]
      ]

  -- what the entry gives has a header, and what was in use keeps its address
  in_use_later : (n : ℕ) → Used w.log (length u.log) n → InUse w.maps n
  in_use_later n used =
      elim (used_before t s.log act (length u.log) n (subst (λ (h : List Entry). Used h (length u.log) n) touches.log
      used)) [
        | inl before ↦ address_stays n (tied.in_use n before)
        | inr now ↦ let given = touches.gives n now.0 now.1 now.2 in (given.address, given.named)
      ]

  -- an event that owes no more keeps the bit tied
  pub tied_later : Tied u w
  tied_later = record {
    since = (let since : length u.log ≤ length s.log = tied.since in
        omega (arith, since, longer t s.log act, ap length touches.log));
    watched = watched_later;
    cleared = cleared_later;
    stale = λ n stale. tied.stale n (touches.stale n stale);
    used = used_later;
    in_use = in_use_later;
    stays = λ n first. address_stays n (tied.stays n first);
    homes = λ home. touches.homes home ∙ tied.homes home;
  }

-- as it begins
pub tied_first : (u : Sight) → ((t : ℕ) → u.stage t ≡ None) → Tied u u
tied_first u quiet = record {
  since = omega arith;
  watched = λ t. subst (λ (g : Option Look). IfSome g (Watched (length u.log) u t)) (sym (ap look_of (quiet t))) tt;
  cleared = λ n fresh. inl fresh;
  stale = λ n stale. stale;
  used = λ n in_use used. absurd (none_used n used);
  in_use = λ n used. absurd (none_used n used);
  stays = λ n is. is;
  homes = λ home. refl;
}
  where
    none_used : (n : ℕ) → Used u.log (length u.log) n → ⊥
    none_used n used =
        let below : used.place < length u.log = gives_within u.log used.place n used.gives in
        let from : length u.log ≤ used.place = used.from in
        omega arith

-- as it ends, with no call in flight
pub tied_tells : (u s : Sight)
    → ((a b n : ℕ) → u.maps.address a ≡ Some n → u.maps.address b ≡ Some n → a ≡ b)
    → ((t : ℕ) → s.stage t ≡ None) → Tied u s → BitsTold u s
tied_tells u s one quiet tied = record {
  since = since;
  passed = λ n fresh was. elim (since n fresh) [
    | inr passed ↦ passed
    | inl first ↦ absurd (elim was [
      | inl stale ↦ one_bit u n (λ a b. one a b n) first stale
      | inr nowhere ↦ nowhere (first.address, first.named)
    ])
  ];
  stale = tied.stale;
  used = tied.used;
  in_use = tied.in_use;
  stays = tied.stays;
  homes = tied.homes;
}
  where
    since : (n : ℕ) → HasNoBit s n → HasNoBit u n ⊎ Passed s.log (length u.log) n
    since n fresh = elim (tied.cleared n fresh) [
      | inl first ↦ inl first
      | inr later ↦ inr (elim later [
        | inl passed ↦ passed
        | inr waits ↦ absurd (
            let none : pending (s.stage waits.thread) ≡ None = ap pending (quiet waits.thread) in
            let some : pending (s.stage waits.thread) ≡ Some waits.address = waits.is in
            cc)
      ])
    ]
