-- The answers of a load after its look, by what its steps told.
use Rattle.std.proofs.Common.{◌≡◌, ◌⊎◌, ℕ, ◌+◌, ◌<◌, ◌≤◌, Bool, true, false, inl, inr, List, [], ◌∷◌, ◌++◌, Ok, Err}
use Rattle.std.proofs.Common.{refl, sym, ◌∙◌, ap, subst, arith, append_assoc}
use Rattle.std.proofs.lemmas.List.{append_cancel_right}
use Rattle.std.specs.Prelude.{Option, None, Some, Result}
use Rattle.atomic_table.specs.declared.shared.Seat.{Seat}
use Rattle.melt_model.specs.History.{Shape as History, shape}
use Rattle.melt_model.specs.declared.history.Act.{Act}
use Rattle.melt_model.specs.declared.history.Act.TheVariants.{Read}
use Rattle.melt_model.specs.declared.history.Entry.{Entry}
use Rattle.melt_model.specs.declared.history.Slot.{Slot}
use Rattle.melt_model.specs.declared.history.Slot.TheVariants as slot
use Rattle.melt_model.specs.declared.history.Value.{Value}
use Rattle.melt_model.specs.declared.operations.Op.TheVariants.{GLoad}
use Rattle.melt_word.specs.Words.{cost_of}
use Rattle.melt_word.specs.declared.header.Shape.{Shape}
use Rattle.melt_word.specs.declared.reference.Ref as word
use Rattle.melt_word.specs.declared.reference.Ref.TheVariants.{Clean, Disk, Null, Stale}
use Rattle.melt_scion.specs.GhostMaps.{named}
use Rattle.melt_scion.specs.Scions.{Scions}
use Rattle.melt_scion.specs.declared.heap.Heap.{Heap}
use Rattle.melt_core.specs.Answering.{entry}
use Rattle.melt_core.specs.declared.answer.Pause.TheVariants.{Asked}
use Rattle.melt_core.specs.declared.answer.Refusal.{Refusal}
use Rattle.melt_core.specs.declared.answer.Refusal.TheVariants.{Pause}
use Rattle.melt_core.specs.declared.call.Search.{Search}
use Rattle.melt_core.specs.declared.call.Place.{Place}
use Rattle.melt_core.specs.declared.call.Place.TheVariants.{Field, Global}
use Rattle.melt_rule.specs.Coming.{HomeHas}
use Rattle.melt_rule.specs.Rule.{Begins, Has, has_cause, is_bound}
use Rattle.melt_rule.specs.Seats.{EpochWords, IsSeat, MayGoOn, knows_of}
use Rattle.melt_rule.specs.Tells.{FitsIn, SearchFits, Adds, Finds, HasAll, Looks, Polls, Reads, Reaches, Sees}
use Rattle.melt_rule.specs.Tells.{search_for}
use Rattle.melt_rule.specs.declared.began.Began.{Began}
use Rattle.melt_rule.specs.declared.began.Pair.{Pair}
use Rattle.melt_rule.specs.declared.view.Doing.{Doing}
use Rattle.melt_rule.specs.declared.view.Doing.TheVariants.{Searching}
use Rattle.melt_rule.specs.declared.view.View.{View}
use Rattle.melt_epoch.proofs.Copies.{home_has_on}
use Rattle.melt_epoch.proofs.Following.{Way, adds_on, counts_most, counts_on, sees_on, shape_stays, sound_adds}
use Rattle.melt_epoch.proofs.Following.{sound_sees}
use Rattle.melt_epoch.proofs.Following.{step_counts}
use Rattle.melt_epoch.proofs.Plainly.{Opened, asked_plain, headed_way}
use Rattle.melt_epoch.proofs.Toward.{Toward, goes_then, toward_counts, toward_full, toward_itself, toward_lacked}
use Rattle.melt_epoch.proofs.Toward.{toward_on}
use Rattle.melt_epoch.specs.Bringing.{Brings, Brought}
use Rattle.melt_epoch.specs.Calls.{Counts}
use Rattle.melt_epoch.specs.Epochs.{Fits}
use Rattle.melt_epoch.specs.Loading.{HeldHas, IsBefore, LoadAsked, LoadRefused, Loads, LoadsFrom, LoadsGlobal}
use Rattle.melt_epoch.specs.Loading.{LacksSlot, Resolves, KnownSlot}
use Rattle.melt_epoch.specs.Mutators.{IsIdle}
use Rattle.melt_record.specs.declared.head.Kind.TheVariants.{Body}
use Rattle.melt_scion.specs.Placed.{HeadIs}
use Rattle.melt_rule.specs.Shown.{base_at}

-- what is known of a place stays known
pub slot_more : (old new : List Pair) (place : Place) (s : Slot) → HasAll old new → KnownSlot old place s
    → KnownSlot new place s
slot_more old new (Field object i) s more at = (at.0, more object at.0 at.1, at.2)
slot_more old new (Global g) s more at = at

begins_then : (f g h : List Entry) → Begins f g → Begins g h → Begins f h
begins_then f g h first more = (
  first.0 ++ more.0,
  sym (append_assoc f first.0 more.0) ∙ (ap (λ (l : List Entry). l ++ more.0) first.1 ∙ more.1),
)

begins_adds : (u : View) (h : List Entry) (act : Act) → Adds u h act → Begins u.seen h
begins_adds u h act adds = (
  adds.between ++ entry u.thread act ∷ [],
  sym (append_assoc u.seen adds.between (entry u.thread act ∷ [])) ∙ sym adds.seen,
)

-- an entry after a way
loads_after : {v u x : View} {s : Slot} {words wins m : ℕ} (most : ℕ) {address : ℕ} → m + 1 ≤ most → Sees v u.seen
    → Counts v u words wins m → Reads u x s address
    → ((words ≡ 0) × (wins ≡ 0)) ⊎ ((z : Shape) × (words ≡ cost_of z) × (wins ≤ 1) × HeldHas v x s z)
    → Loads v x s most address
loads_after {v} {u} {x} {s} {words} {wins} {m} most le sees counts reads claims = record {
  value = reads.value;
  adds = adds_on v u x.seen (Read s reads.value) sees counts.thread counts.began reads.adds;
  names = reads.names;
  words = words;
  wins = wins;
  counts = subst (λ (c : ℕ). Counts v x c wins most) (let e : words + 0 ≡ words = omega arith in e)
      (subst (λ (d : ℕ). Counts v x (words + 0) d most) (let e : wins + 0 ≡ wins = omega arith in e)
      (counts_most v x (words + 0) (wins + 0) (m + 1) most le
      (counts_on counts (step_counts u x x.known None reads.more reads.is))));
  claims = claims;
  over = ap (λ (y : View). y.doing) reads.is;
}

-- the look read a reference without a tag
pub look_loads : (v w : View) (s : Slot) (most address : ℕ) → 1 ≤ most → Reads v w s address → Loads v w s most address
look_loads v w s most address some_ reads = record {
  value = reads.value;
  adds = reads.adds;
  names = reads.names;
  words = 0;
  wins = 0;
  counts = counts_most v w 0 0 1 most some_ (step_counts v w w.known None reads.more reads.is);
  claims = inl (refl, refl);
  over = ap (λ (y : View). y.doing) reads.is;
}

-- in so many steps, or more
pub loads_most : (v w : View) (s : Slot) (m most address : ℕ) → m ≤ most → Loads v w s m address
    → Loads v w s most address
loads_most v w s m most address le loads = record {
  value = loads.value;
  adds = loads.adds;
  names = loads.names;
  words = loads.words;
  wins = loads.wins;
  counts = counts_most v w loads.words loads.wins m most le loads.counts;
  claims = loads.claims;
  over = loads.over;
}

-- or it found an object, whose stale bit was cleared
pub stale_loads : {v w u x : View} {s : Slot} {looked cleared : Doing} (most : ℕ) {address : ℕ} → 3 ≤ most
    → Reaches v w (Some looked) → Reaches w u (Some cleared) → Reads u x s address → Loads v x s most address
stale_loads {v} {w} {u} most few looks clears reads =
    let first : Toward v w 0 0 1 = toward_on 1 (omega arith) (toward_itself v) looks in
    let then_ : Toward v u 0 0 2 = toward_on 2 (omega arith) first clears in
    loads_after most few (first.on u.seen clears.sees) then_.counts reads (inl (refl, refl))

pub stale_slot : {v w u : View} (place : Place) (s : Slot) {looked cleared : Doing} → Reaches v w (Some looked)
    → Reaches w u (Some cleared) → KnownSlot v.known place s → KnownSlot u.known place s
stale_slot {v} {u} place s looks clears =
    slot_more v.known u.known place s
    (λ a n has. subst (λ (y : View). Has y.known a n) (sym clears.is)
    (subst (λ (y : View). Has y.known a n) (sym looks.is) has))

-- the object that a home stands for was in the slot
held_has : {v w : View} (x : View) {s : Slot} {place : Place} {home : ℕ} (z : Shape) → Finds v w s place home
    → w.began ≡ v.began → Begins w.seen x.seen → HomeHas w x.seen home z → HeldHas v x s z
held_has {w} x {home} z finds began begins has told =
    let held = finds.held told in
    let had = has (ap (λ (b : Began). b.told) began ∙ told) in
    record {
      then_ = w.seen;
      object = held.0;
      home = home;
      of = held.1;
      body = subst (λ (b : Began). HeadIs (base_at b) home (record { shape = z; kind = Body })) began had.0;
      from = finds.reaches.sees.begins;
      until = begins;
      held = held.2;
      shaped = had.1 held.0 (ap (λ (b : Began). named b.maps.homes home) began ∙ held.1);
    }

module _ (v w : View) (s : Slot) (place : Place) (home : ℕ) (finds : Finds v w s place home) where
  looked_toward : Toward v w 0 0 1
  looked_toward =
      toward_on 1 (omega arith) (toward_itself v) finds.reaches

  pub home_slot : (u : View) (n target : ℕ) → Brought w u (search_for place home) n target → KnownSlot v.known place s
      → KnownSlot u.known place s
  home_slot u n target brought =
      slot_more v.known u.known place s
      (λ a m has. brought.goes.counts.known a m (looked_toward.counts.known a m has))

  -- it found a home, whose object was brought
  pub home_loads : (u x : View) (n most target address : ℕ) → n + 2 ≤ most
      → Brought w u (search_for place home) n target
      → Reads u x s address → Loads v x s most address
  home_loads u x n most target address few brought reads =
      let goes = goes_then (n + 1) (omega arith) looked_toward brought.goes in
      let last_ : Begins u.seen x.seen = begins_adds u x.seen (Read s reads.value) reads.adds in
      let all : Begins w.seen x.seen = begins_then w.seen u.seen x.seen brought.goes.sees.begins last_ in
      loads_after most (omega arith) goes.sees goes.counts reads (elim brought.claims [
        | inl none ↦ inl none
        | inr some_ ↦ inr (
          some_.0,
          some_.1,
          some_.2,
          held_has x some_.0 finds looked_toward.counts.began all
              (home_has_on w w u.seen x.seen home some_.0 refl last_ some_.3),
        )
      ])

  -- or was not
  pub home_refused : {told : Bool} {image : Option (List ℕ)} {scions : Scions} {end before after : ℕ} (u : View)
      (n most : ℕ) (why : Refusal) → home < end → n + 1 ≤ most
      → Brings told image scions end before after w u (search_for place home) n (Err why)
      → Resolves told image scions end before after v u s most (Err why)
  home_refused u n most why below few (inl (inl found)) = inl (record {
    words = found.words;
    full = toward_full most (omega arith) (omega arith) looked_toward found.full;
    read =
        let began = ap (λ (b : Began). b.forwards) looked_toward.counts.began in
        let look = ap (λ (x : View). x.steps) finds.reaches.is in
        let all = found.read in
        omega arith;
    claims = elim found.claims [
      | inl none ↦ inl none
      | inr some_ ↦ inr (
        some_.0,
        some_.1,
        held_has u some_.0 finds looked_toward.counts.began found.full.sees.begins some_.2,
      )
    ];
  })
  home_refused u n most why below few (inl (inr lacks)) = inr (inl (record {
    shape = lacks.shape;
    small = lacks.small;
    held = held_has u lacks.shape finds looked_toward.counts.began lacks.sees.begins lacks.object;
    is = lacks.is;
    sees = looked_toward.on u.seen lacks.sees;
    lacked = toward_lacked most (omega arith) looked_toward lacks.lacked;
    over = lacks.over;
  }))
  home_refused u n most why below few (inr lost) = inr (inr (record {
    home = home;
    below = below;
    stays = record {
      sees = looked_toward.on u.seen lost.0.sees;
      counts = subst (λ (c : ℕ). Counts v u c 0 most) (let e : 0 + 0 ≡ 0 = omega arith in e)
          (subst (λ (d : ℕ). Counts v u (0 + 0) d most) (let e : 0 + 0 ≡ 0 = omega arith in e)
          (toward_counts most (omega arith) looked_toward lost.0.counts));
      goes_on = lost.0.goes_on;
    };
    lost = lost.1;
  }))

-- a look leaves the causes
pub looks_cause : (v w : View) (s : Slot) (place : Place) (found : word.Ref) → Looks v w s place found
    → has_cause w ≡ has_cause v
looks_cause v w s place Null reads = ap has_cause reads.is
looks_cause v w s place (Clean address) reads = ap has_cause reads.is
looks_cause v w s place (Stale address) reaches = ap has_cause reaches.is
looks_cause v w s place (Disk home) finds = ap has_cause finds.reaches.is

-- a load after a way
module _ (v u x : View) (s : Slot) (m n k : ℕ) (le : m + n ≤ k) (way : Way v u 0 0 m) where
  toward_way : Toward v u 0 0 m
  toward_way = record {
    on = λ h sees. sees_on v u h way.sees way.counts.thread way.counts.began sees;
    counts = way.counts;
  }

  held_on : (z : Shape) → HeldHas u x s z → HeldHas v x s z
  held_on z has told =
      let held = has (ap (λ (b : Began). b.told) way.counts.began ∙ told) in
      record {
        then_ = held.then_;
        object = held.object;
        home = held.home;
        of = ap (λ (b : Began). named b.maps.homes held.home) (sym way.counts.began) ∙ held.of;
        body = subst (λ (b : Began). HeadIs (base_at b) held.home (record { shape = z; kind = Body })) way.counts.began
            held.body;
        from = begins_then v.seen u.seen held.then_ way.sees.begins held.from;
        until = held.until;
        held = held.held;
        shaped = held.shaped;
      }

  counts_all : (a b : ℕ) → Counts u x a b n → Counts v x a b k
  counts_all a b counts =
      subst (λ (c : ℕ). Counts v x c b k) (let e : 0 + a ≡ a = omega arith in e)
      (subst (λ (d : ℕ). Counts v x (0 + a) d k) (let e : 0 + b ≡ b = omega arith in e)
      (toward_counts k le toward_way counts))

  pub loads_on : (address : ℕ) → Loads u x s n address → Loads v x s k address
  loads_on address loads = record {
    value = loads.value;
    adds = adds_on v u x.seen (Read s loads.value) way.sees way.counts.thread way.counts.began loads.adds;
    names = loads.names;
    words = loads.words;
    wins = loads.wins;
    counts = counts_all loads.words loads.wins loads.counts;
    claims = elim loads.claims [
      | inl none ↦ inl none
      | inr some_ ↦ inr (some_.0, some_.1, some_.2, held_on some_.0 some_.3)
    ];
    over = loads.over;
  }

  pub refused_on : {told : Bool} {image : Option (List ℕ)} {scions : Scions} {end before after : ℕ} {why : Refusal}
      → LoadRefused told image scions end before after u x s n why
      → LoadRefused told image scions end before after v x s k why
  refused_on (inl full) = inl (record {
    words = full.words;
    full = toward_full k (omega arith) le toward_way full.full;
    read =
        let began = ap (λ (b : Began). b.forwards) way.counts.began in
        let before = way.counts.counted in
        let all = full.read in
        omega arith;
    claims = elim full.claims [
      | inl none ↦ inl none
      | inr some_ ↦ inr (some_.0, some_.1, held_on some_.0 some_.2)
    ];
  })
  refused_on (inr (inl lacks)) = inr (inl (record {
    shape = lacks.shape;
    small = lacks.small;
    held = held_on lacks.shape lacks.held;
    is = lacks.is;
    sees = toward_way.on x.seen lacks.sees;
    lacked = toward_lacked k le toward_way lacks.lacked;
    over = lacks.over;
  }))
  refused_on (inr (inr lost)) = inr (inr (record {
    home = lost.home;
    below = lost.below;
    stays = record {
      sees = toward_way.on x.seen lost.stays.sees;
      counts = counts_all 0 0 lost.stays.counts;
      goes_on = lost.stays.goes_on;
    };
    lost = lost.lost;
  }))

-- the seat after a load
module _ (words : EpochWords) (v : View) (seat : Seat ℕ View) (s : Slot) (k : ℕ) (is_seat : IsSeat words seat)
    (own : (knows_of seat).mine ≡ (knows_of seat).seen) where
  idle_by : MayGoOn (knows_of seat) → Sees (knows_of seat) (knows_of seat).seen → IsIdle words seat
  idle_by goes_on sound = record { is_seat = is_seat; goes_on = goes_on; sound = sound; own = own }

  module _ (told : Bool) (image : Option (List ℕ)) (scions : Scions) (end before after : ℕ) where
    pub resolved_idle : (result : Result ℕ Refusal)
        → Resolves told image scions end before after v (knows_of seat) s k result → IsIdle words seat
    resolved_idle (Ok address) loads =
        idle_by (ap is_bound loads.over)
        (sound_adds v (knows_of seat) (Read s loads.value) loads.adds loads.counts.began)
    resolved_idle (Err why) (inl full) =
        idle_by (ap is_bound full.full.over) (sound_sees v (knows_of seat) full.full.sees full.full.filled.began)
    resolved_idle (Err why) (inr (inl lacks)) =
        idle_by (ap is_bound lacks.over) (sound_sees v (knows_of seat) lacks.sees lacks.lacked.began)
    resolved_idle (Err why) (inr (inr lost)) =
        idle_by lost.stays.goes_on (sound_sees v (knows_of seat) lost.stays.sees lost.stays.counts.began)

-- the stop word was set
pub asked_load : (v w : View) (k : ℕ) → 1 ≤ k → Polls v w true → LoadAsked v w k (Pause Asked)
asked_load v w k some_ polls = record {
  was = (refl, polls);
  stays = record {
    sees = polls.0;
    counts = (asked_plain v w [] (GLoad 0 0) k some_ polls tt).counts;
    goes_on = ap is_bound (ap (λ (x : View). x.doing) polls.1);
  };
}

module _ (told : Bool) (image : Option (List ℕ)) (scions : Scions) (end before after : ℕ) where
  -- what a global was read as
  pub global_loads : {v u : View} (x : View) (g : ℕ) {m : ℕ} (n : ℕ) {k : ℕ} (result : Result ℕ Refusal) → m + n ≤ k
      → Way v u 0 0 m → Resolves told image scions end before after u x (slot.Global g) n result
      → LoadsGlobal told image scions end before after v x g k result
  global_loads {v} {u} x g {m} n {k} (Ok address) le way loads =
      loads_on v u x (slot.Global g) m n k le way address loads
  global_loads {v} {u} x g {m} n {k} (Err why) le way refused =
      inr (refused_on v u x (slot.Global g) m n k le way refused)

-- a home that a call found lies before the end of the disk
home_before : (words : EpochWords) (seat : Seat ℕ View) (search : Search) → IsSeat words seat
    → (knows_of seat).doing ≡ Some (Searching search) → search.home < words.start.began.end
home_before words seat search is_seat at =
    let fits : SearchFits (knows_of seat).began search =
    subst (FitsIn (knows_of seat).began) at is_seat.within.doing in
    subst (λ (b : Began). search.home < b.end) is_seat.began fits.before

pub found_before : {words : EpochWords} (v : View) {seat : Seat ℕ View} (s : Slot) (place : Place) (found : word.Ref)
    {heap : Heap} {end : ℕ} → Fits words heap end → IsSeat words seat → Looks v (knows_of seat) s place found
    → IsBefore end found
found_before {words} v {seat} s place Null fits is_seat looks = tt
found_before {words} v {seat} s place (Clean address) fits is_seat looks = tt
found_before {words} v {seat} s place (Stale address) fits is_seat looks = tt
found_before {words} v {seat} s place (Disk home) fits is_seat finds =
    subst (λ (e : ℕ). home < e) (sym fits.ends)
    (home_before words seat (search_for place home) is_seat (ap (λ (x : View). x.doing) finds.reaches.is))

-- a shape that was loaded before an entry stood before it
shaped_before : {v u : View} (x : View) {act : Act} (n : ℕ) {z : History} (all : Adds v x.seen act)
    (last_ : Adds u x.seen act) → u.thread ≡ v.thread → shape u.seen n ≡ Some z
    → shape (v.seen ++ all.between) n ≡ Some z
shaped_before {v} {u} x {act} n {z} all last_ thread at =
    shape_stays u.seen (v.seen ++ all.between) last_.between n z
    (append_cancel_right (u.seen ++ last_.between) (v.seen ++ all.between) (entry v.thread act ∷ [])
    (ap (λ (t : ℕ). (u.seen ++ last_.between) ++ entry t act ∷ []) (sym thread) ∙ (sym last_.seen ∙ all.seen)))
    at

-- a load of a slot, after the header of its object
module _ {v w u : View} {address : ℕ} {z : Shape} {value : Value} (h : Opened v w u address z value) where
  opened_way : Way v u 0 0 2
  opened_way = headed_way v w u address h.object z h.sound h.polls h.heads

  shaped_here : v.began.told ≡ true → shape u.seen h.object ≡ Some (record { refs = z.refs; nums = z.nums })
  shaped_here told = h.heads.shaped (ap (λ (x : View). x.began.told) h.polls.0.is ∙ told)

  pub no_slot : (i k : ℕ) → 2 ≤ k → z.refs ≤ i → LacksSlot v u h.object i k
  no_slot i k few none = record {
    z = z;
    few = none;
    shaped = shaped_here;
    stays = record {
      sees = opened_way.sees;
      counts = counts_most v u 0 0 2 k few opened_way.counts;
      goes_on = ap is_bound (ap (λ (x : View). x.doing) h.heads.reaches.is);
    };
  }

  pub slot_loads : (x : View) (i m k target : ℕ) → m + 2 ≤ k → i < z.refs → Loads u x (slot.Field h.object i) m target
      → LoadsFrom v x h.object i k target
  unfolding loads_on
  slot_loads x i m k target le below loads =
      let all = loads_on v u x (slot.Field h.object i) 2 m k (omega arith) opened_way target loads in
      record {
        z = z;
        below = below;
        loads = all;
        shaped = λ told. shaped_before x h.object all.adds loads.adds opened_way.counts.thread (shaped_here told);
      }

  pub slot_refused : {told : Bool} {image : Option (List ℕ)} {scions : Scions} {end before after : ℕ} (x : View)
      (i m k : ℕ) {why : Refusal} → m + 2 ≤ k
      → LoadRefused told image scions end before after u x (slot.Field h.object i) m why
      → LoadRefused told image scions end before after v x (slot.Field h.object i) k why
  slot_refused x i m k le refused = refused_on v u x (slot.Field h.object i) 2 m k (omega arith) opened_way refused

  -- what a look asks and leaves
  pub slot_cause : (x : View) (s : Slot) (place : Place) (found : word.Ref) → Looks u x s place found
      → has_cause x ≡ false
  slot_cause x s place found looks =
      looks_cause u x s place found looks ∙ (ap has_cause h.heads.reaches.is ∙ (ap has_cause h.polls.0.is ∙ h.polls.1))
