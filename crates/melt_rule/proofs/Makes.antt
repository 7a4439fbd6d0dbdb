-- A claim, a store into the own region and the store of its header keep the rule.
use Rattle.std.proofs.Common.{◌≡◌, ◌≢◌, ◌⊎◌, ℕ, suc, ◌+◌, ◌-◌, ◌*◌, ◌^◌, ◌<◌, ◌≤◌, Bool, true, false}
use Rattle.std.proofs.Common.{List, [], ◌∷◌, ◌++◌, length, get_or, refl, sym, ◌∙◌, ap, subst, arith, inl, inr, eq-eqb}
use Rattle.std.proofs.Common.{ne_eqb}
use Rattle.std.proofs.Math.ListN.{set, length-set}
use Rattle.std.proofs.lemmas.Bool.{cases_lt, cases_eq}
use Rattle.std.proofs.lemmas.List.{get_or-set_other, append_cancel_right}
use Rattle.std.proofs.lemmas.List.Sums.{sum_by-cons}
use Rattle.std.proofs.lemmas.Option.{same_Some}
use Rattle.std.specs.List.{sum_by}
use Rattle.std.specs.Option.{option_map}
use Rattle.std.specs.Prelude.{Option, None, Some, ◌==◌, ◌||◌, if◌then◌else◌}
use lib.ListN.{get_elem?}
use mathlib.Core.Option.{some}
use Rattle.melt_model.specs.History.{made, given}
use Rattle.melt_model.specs.declared.history.Act.{Act}
use Rattle.melt_model.specs.declared.history.Act.TheVariants.{Make}
use Rattle.melt_model.specs.declared.history.Entry.{Entry}
use Rattle.melt_model.specs.declared.history.Value.TheVariants.{Ref as Object}
use Rattle.melt_word.specs.Words.{IsShape, cost_of, header_word}
use Rattle.melt_word.specs.declared.header.Header.{Header}
use Rattle.melt_word.specs.declared.header.Shape.{Shape}
use Rattle.melt_scion.proofs.Geometry.{one_header}
use Rattle.melt_scion.specs.Changes.{WordChanges, FreeMoves, NameAppears}
use Rattle.melt_scion.specs.Placed.{Maps, FormedWords}
use Rattle.melt_scion.specs.Regions.{Region, no_region, Apart, Owns, HasStored}
use Rattle.melt_scion.specs.State.{Base, State, IsFresh}
use Rattle.melt_core.proofs.Evolving.{evolves_event}
use Rattle.melt_core.proofs.Regions.{apart_sym, no_region_apart, claimed_owned, claimed_apart}
use Rattle.melt_core.proofs.Staying.{fresh_stays, headers_were}
use Rattle.melt_core.proofs.Storing.{none_stored, stored_more}
use Rattle.melt_core.specs.Answering.{entry, with_entry}
use Rattle.melt_core.specs.Events.{Event}
use Rattle.melt_core.specs.Events.Event.{claims, stores, publishes}
use Rattle.melt_core.specs.Known.{Evolves, region}
use Rattle.melt_rule.proofs.Claiming.{found_first}
use Rattle.melt_rule.proofs.Keeping.{IsStep, LookGoes, adds, sees, still_bits}
use Rattle.melt_rule.proofs.Loads.{snoc_old, snoc_new, snoc_here}
use Rattle.melt_rule.proofs.Leaving.{OnlyObjects, leaves, leaves_same, only_space}
use Rattle.melt_rule.proofs.Showing.{free_moves, word_changes, filled_same}
use Rattle.melt_rule.specs.Making.{Claims, Lacks, Makes}
use Rattle.melt_rule.specs.Rule.{Has, SeatStands, Kept, has_cause, is_lacking, is_reading}
use Rattle.melt_rule.specs.Shown.{shows, Knows, owned, free_place, globals_from, word_place}
use Rattle.melt_rule.specs.Tells.{Adds, view_after, Reaches}
use Rattle.melt_rule.specs.declared.began.Began.{Began}
use Rattle.melt_rule.specs.declared.began.Pair.{Pair}
use Rattle.melt_rule.specs.declared.began.Start.{Start}
use Rattle.melt_rule.specs.declared.view.Doing.{Doing}
use Rattle.melt_rule.specs.declared.view.Doing.TheVariants.{Claimed, Lacking, Copying, Copied, Retrying}
use Rattle.melt_rule.specs.declared.view.View.{View}

-- some shape has the cost
pub shape_of_cost : (cost : ℕ) → 2 ≤ cost → cost ≤ 126 → (z : Shape) × IsShape z × (cost_of z ≡ cost)
shape_of_cost cost low high = elim (cases_lt cost 64) [
  | inl small ↦
      (record { refs = cost - 2; nums = 0 }, record { refs = omega arith; nums = omega arith }, omega arith)
  | inr large ↦
      (record { refs = 62; nums = cost - 64 }, record { refs = omega arith; nums = omega arith }, omega arith)
]

-- a sum of numbers is at most that of others, where each is at most the other
sum_below : (f g : View → ℕ) (views : List View) → ((i : ℕ) (u : View) → get_elem? views i ≡ some u → f u ≤ g u)
    → sum_by f views ≤ sum_by g views
sum_below f g [] each = omega arith
sum_below f g (u ∷ us) each =
    let rest = sum_below f g us (λ i v is. each (suc i) v is) in
    omega (arith, sum_by-cons f u us, sum_by-cons g u us, each 0 u refl, rest)

-- a lack of words is a cause to stop
spaced_causes : (asked spaced forwarded : Bool) → spaced ≡ true → asked || (spaced || forwarded) ≡ true
spaced_causes true spaced forwarded is = refl
spaced_causes false true forwarded is = refl
spaced_causes false false forwarded is = absurd (cc)

-- a region is apart from that of no words
apart_none : (r : Region) → Apart r no_region
apart_none r = apart_sym no_region r (no_region_apart r)

-- words from the first free place on are apart from those that a call owns
free_apart_from : (maps : Maps) (s : State) (words : ℕ) (r : Region) → Owns maps s r
    → Apart (record { at = s.free; words = words }) r
free_apart_from maps s words r owns =
    apart_sym r (record { at = s.free; words = words }) (claimed_apart maps s words r owns)

pub free_apart : (told : Bool) (maps : Maps) (s : State) (rest : List ℕ) (words : ℕ) (doing : Option Doing)
    → Knows told maps s rest doing → Apart (record { at = s.free; words = words }) (owned doing)
free_apart told maps s rest words None knows = apart_none (record { at = s.free; words = words })
free_apart told maps s rest words (Some (Claimed address shape stored)) knows =
    free_apart_from maps s words (region address shape) knows.1.owns
free_apart told maps s rest words (Some (Copying a stored)) knows =
    free_apart_from maps s words (region a.address a.shape)
    knows.1.owns
free_apart told maps s rest words (Some (Copied a)) knows = free_apart_from maps s words (region a.address a.shape)
    knows.0.copy.owns
free_apart told maps s rest words (Some (Retrying a)) knows = free_apart_from maps s words (region a.address a.shape)
    knows.copy.owns
free_apart told maps s rest words (Some doing) knows = apart_none (record { at = s.free; words = words })

-- the view after the entry of a new object
abbrev pub made_view : View → List Entry → ℕ → Shape → View
made_view v h address z = view_after v (with_entry v.thread h (Some (Make z.refs z.nums)))
    (v.known ++ record { address = address; object = made h } ∷ []) None

-- the object has the number that comes next
told_makes : (v : View) (h : List Entry) (address : ℕ) (z : Shape)
    → Adds v (made_view v h address z).seen (Make z.refs z.nums) → Makes v (made_view v h address z) address z
told_makes v h address z told =
    let front : h ≡ v.seen ++ told.between =
    append_cancel_right h (v.seen ++ told.between) (entry v.thread (Make z.refs z.nums) ∷ []) told.seen in
    let view : ℕ → View =
    λ n. view_after v (made_view v h address z).seen (v.known ++ record { address = address; object = n } ∷ []) None in
    record { adds = told; is = ap view (ap made front) }

-- a thread owns its words after a change of another word
pub owns_still : (maps : Maps) (s t : State) (r : Region) → FormedWords maps s → Evolves maps maps s t 0 → Owns maps s r
    → Owns maps t r
owns_still maps s t r formed evolves owns = record {
  first = owns.first;
  below =
      let below : r.at + r.words ≤ s.free = owns.below in
      let later : s.free ≤ t.free = evolves.free in
      omega arith;
  within = subst (λ (b : Base). r.at + r.words ≤ b.size + 1) (sym evolves.base) owns.within;
  outside = λ b n header named starts.
      let was = headers_were maps maps s t 0 formed evolves b n header named starts in
      subst (λ (z : Shape). Apart (record { at = b; words = cost_of z }) r) was.2 (owns.outside b n was.0 named was.1);
}

module _ (start : Start) (words : List ℕ) (views : List View) (kept : Kept start words views) (id : ℕ) (v : View)
    (at : get_elem? views id ≡ some v) (live : 0 < v.parts) where
  abbrev old : State
  old = shows start.began words

  stood : SeatStands start.began kept.maps old kept.history v
  stood = kept.seats id v at live

  abbrev pub free : ℕ
  free = get_or words free_place 0

  pub sizes : length words ≡ globals_from + start.began.globals + start.began.forwards + start.began.size
  sizes = kept.size

  -- the first free place stays so small that no claim wraps
  pub claim_small : (cost : ℕ) → cost ≤ 126 → free + cost < 2 ^ 64
  claim_small cost small =
      let size : start.began.size < 1073741824 = kept.holds.formed.small in
      let bound : free ≤ start.began.size + 1 + 126 * sum_by (λ (u : View). u.over) views = kept.sums.bound in
      let over : sum_by (λ (u : View). u.over) views ≤ sum_by (λ (u : View). u.parts) views =
      sum_below (λ (u : View). u.over) (λ (u : View). u.parts) views kept.sums.over in
      let parts : sum_by (λ (u : View). u.parts) views ≡ length start.began.threads = kept.sums.parts in
      let few : length start.began.threads ≤ 8 = kept.few in
      let wide : free + cost < 18446744073709551616 = omega arith in
      wide

  -- the words after a claim of so many
  abbrev pub claimed_words : ℕ → List ℕ
  claimed_words cost = set words free_place (free + cost)

  moves : (cost : ℕ) → FreeMoves old (shows start.began (claimed_words cost)) (free + cost)
  moves cost = free_moves start.began words (free + cost) (let size = sizes in omega arith)

  -- so an event it is to claim so many words
  pub claim_evolves : (cost : ℕ) → Evolves kept.maps kept.maps old (shows start.began (claimed_words cost)) 0
  claim_evolves cost =
      evolves_event start.began.told kept.history kept.maps kept.maps old (shows start.began (claimed_words cost))
      no_region 0 None kept.holds.formed
      (claims cost refl (moves cost))

  -- the view after a claim of so many words, by a call that knows these words of a record
  abbrev pub claimed : List ℕ → ℕ → ℕ → Bool → Doing → View
  claimed rest cost over spaced doing = record (view_after v kept.history v.known (Some doing)) {
    rest = rest;
    claimed = v.claimed + cost;
    over = over;
    spaced = spaced;
  }

  -- What a claim shows of its call and its counts.
  pub record Counts (rest : List ℕ) (cost over : ℕ) (lacked : Bool) (doing : Doing) : Type 0 where
    pub knows : Knows start.began.told kept.maps (shows start.began (claimed_words cost)) rest (Some doing)
    pub apart : (i : ℕ) (u : View) → i ≢ id → get_elem? views i ≡ some u → 0 < u.parts
        → Apart (owned (Some doing)) (owned u.doing)
    pub below : over ≤ v.parts
    pub bound : (free + cost + 126 * v.over ≤ free + 126 * over) ⊎ (free + cost ≤ start.began.size + 1)
    pub spaced : lacked ≡ true → start.began.size + 1 < free + cost
    pub lacks : over ≢ 0 → lacked ≡ true
    pub caused : (is_lacking (Some doing) ≡ true) ⊎ (lacked ≡ v.spaced)
    pub look : LookGoes start words (claimed_words cost) views kept id v at live None (Some doing)
    pub left : is_reading v.doing ≡ false

  pub moved : (rest : List ℕ) (cost over : ℕ) (spaced : Bool) (doing : Doing) → has_cause v ≡ false
      → Counts rest cost over spaced doing
      → (step : IsStep start words (claimed_words cost) views kept id v at live (claimed rest cost over spaced doing))
      × (step.act ≡ None)
  moved rest cost over spaced doing no_cause counts =
      let new : State = shows start.began (claimed_words cost) in
      let moves : FreeMoves old new (free + cost) = moves cost in
      let is : new.free ≡ free + cost = moves.is in
      let event : Event start.began.told kept.history kept.maps kept.maps old new no_region 0 None =
      claims cost refl moves in
      let evolves : Evolves kept.maps kept.maps old new 0 = claim_evolves cost in
      let stop : get_or (claimed_words cost) 0 0 ≡ get_or words 0 0 =
      get_or-set_other words free_place 0 (free + cost) 0 (λ same. omega arith) in (
        record {
          maps = kept.maps;
          mine = no_region;
          cleared = 0;
          act = None;
          event = event;
          mine_apart = λ i u other is alive. no_region_apart (owned u.doing);
          size = length-set words free_place (free + cost);
          names = λ a n named. inl named;
          parts = refl;
          thread = refl;
          began = refl;
          away = refl;
          seen = refl;
          own_seen = refl;
          more = λ a n has. has;
          known = stood.known;
          fresh = λ a n has. fresh_stays kept.maps kept.maps old new 0 kept.holds.formed evolves a
              (n, stood.known a n has)
              (stood.fresh a n has);
          doing = counts.knows;
          apart = counts.apart;
          sums = record {
            free = omega arith;
            bound = elim counts.bound [ inl few ↦ inl (omega arith) | inr fits ↦ inr (omega arith) ];
            over = counts.below;
            won = ap (λ (k : ℕ). k + v.won)
                (filled_same old.forward new.forward start.began.forwards (λ p below. moves.forward p));
          };
          stops = record {
            bit = inl stop;
            causes = λ cause. let e : false ≡ true = sym no_cause ∙ cause in absurd (cc);
            stopped = λ found. stop ∙ kept.stop.stopped id v at found;
            spaced = λ lacks. let past = counts.spaced lacks in omega arith;
            lacks = counts.lacks;
            sets = λ cause goes. elim counts.caused [
              | inl lacking ↦ let e : false ≡ true = sym goes ∙ lacking in absurd (cc)
              | inr same ↦
                  let e : false ≡ true = sym no_cause
                  ∙ (ap (λ (b : Bool). v.asked || (b || v.forwarded)) (sym same) ∙ cause) in
                  absurd (cc)
            ];
            forwarded = λ found p below empty. kept.stop.forwarded id v at found p below (sym (moves.forward p)
                ∙ empty);
          };
          bits = still_bits start words (claimed_words cost) views kept id v at live v.known (Some doing) counts.look
              counts.left;
        },
        refl,
      )

  pub began_size : v.began.size ≡ start.began.size
  began_size = ap (λ (b : Began). b.size) stood.began

  -- the words of an object, claimed within the space
  claimed_region : (z : Shape) → free + cost_of z ≤ start.began.size + 1
      → Owns kept.maps (shows start.began (claimed_words (cost_of z))) (region free z)
  claimed_region z fits =
      let first : 1 ≤ free =
      let begun = kept.first in
      let sum = kept.sums.free in
      omega arith in
      claimed_owned kept.maps old (shows start.began (claimed_words (cost_of z))) (cost_of z) kept.holds.formed first
      fits
      (moves (cost_of z))

  -- what such a claim shows, where the call has those words from then on
  pub claim_fits : (rest : List ℕ) (z : Shape) (doing : Doing) → free + cost_of z ≤ start.began.size + 1
      → owned (Some doing) ≡ region free z
      → (Owns kept.maps (shows start.began (claimed_words (cost_of z))) (region free z)
      → Knows start.began.told kept.maps (shows start.began (claimed_words (cost_of z))) rest (Some doing))
      → LookGoes start words (claimed_words (cost_of z)) views kept id v at live None (Some doing)
      → is_reading v.doing ≡ false → Counts rest (cost_of z) v.over v.spaced doing
  claim_fits rest z doing fits is knows look left = record {
    knows = knows (claimed_region z fits);
    apart = λ i u other there alive. subst (λ (r : Region). Apart r (owned u.doing)) (sym is)
        (free_apart start.began.told kept.maps old u.rest (cost_of z) u.doing (kept.seats i u there alive).doing);
    below = kept.sums.over id v at;
    bound = inr fits;
    spaced = λ found. let past = kept.stop.spaced id v at found in omega arith;
    lacks = kept.stop.lacks id v at;
    caused = inr refl;
    look = look;
    left = left;
  }

  -- and one that ends past the last word
  pub claim_lacks : (rest : List ℕ) (cost : ℕ) (doing : Doing) → has_cause v ≡ false
      → start.began.size + 1 < free + cost
      → is_lacking (Some doing) ≡ true → owned (Some doing) ≡ no_region
      → (start.began.size + 1 < (shows start.began (claimed_words cost)).free
      → Knows start.began.told kept.maps (shows start.began (claimed_words cost)) rest (Some doing))
      → cost ≤ 126 → LookGoes start words (claimed_words cost) views kept id v at live None (Some doing)
      → is_reading v.doing ≡ false → Counts rest cost (v.over + 1) true doing
  claim_lacks rest cost doing no_cause past lacks none knows small look left =
      let moves : FreeMoves old (shows start.began (claimed_words cost)) (free + cost) = moves cost in
      let over : v.over ≡ 0 = elim (cases_eq v.over 0) [
        | inl none ↦ none
        | inr few ↦
            let cause : has_cause v ≡ true =
            spaced_causes v.asked v.spaced v.forwarded (kept.stop.lacks id v at few) in
            let e : false ≡ true = sym no_cause ∙ cause in
            absurd (cc)
      ] in
      record {
        knows = knows (let is = moves.is in omega arith);
        apart = λ i u other there alive. subst (λ (r : Region). Apart r (owned u.doing)) (sym none)
            (no_region_apart (owned u.doing));
        below = omega arith;
        bound = inl (omega arith);
        spaced = λ is. past;
        lacks = λ some. refl;
        caused = inl lacks;
        look = look;
        left = left;
      }

  -- words are claimed that lie within the space
  pub claiming : (z : Shape) → IsShape z → has_cause v ≡ false → is_reading v.doing ≡ false
      → free + cost_of z ≤ start.began.size + 1
      → let w : View = claimed v.rest (cost_of z) v.over v.spaced (Claimed free z 0) in
      IsStep start words (claimed_words (cost_of z)) views kept id v at live w × Claims v w free (cost_of z)
  claiming z small no_cause left fits =
      let w : View = claimed v.rest (cost_of z) v.over v.spaced (Claimed free z 0) in
      let new : State = shows start.began (claimed_words (cost_of z)) in
      let step = moved v.rest (cost_of z) v.over v.spaced (Claimed free z 0) no_cause
      (claim_fits v.rest z (Claimed free z 0) fits refl
      (λ owns. (small, none_stored kept.maps new free z (λ k. 0) owns))
      (inl refl)
      left) in (
        step.0,
        record {
          sees = sees start words (claimed_words (cost_of z)) views kept id v at live w step.0 step.1;
          first = found_first start words views kept id v at live;
          fits = let size = began_size in omega arith;
          shape = z;
          small = small;
          costs = refl;
          is = refl;
        },
      )

  -- and they end past its last word
  pub lacking : (cost : ℕ) → cost ≤ 126 → has_cause v ≡ false → is_reading v.doing ≡ false
      → start.began.size + 1 < free + cost
      → let w : View = claimed v.rest cost (v.over + 1) true (Lacking cost) in
      IsStep start words (claimed_words cost) views kept id v at live w × Lacks v w cost
  lacking cost small no_cause left past =
      let w : View = claimed v.rest cost (v.over + 1) true (Lacking cost) in
      let step = moved v.rest cost (v.over + 1) true (Lacking cost) no_cause
      (claim_lacks v.rest cost (Lacking cost) no_cause past refl refl (λ above. above) small (inl refl)
      left) in (
        step.0,
        record {
          sees = sees start words (claimed_words cost) views kept id v at live w step.0 step.1;
          found = free;
          first = found_first start words views kept id v at live;
          past = let size = began_size in omega arith;
          is = refl;
        },
      )

  -- the words where one of the space is set
  abbrev pub with_word : ℕ → ℕ → List ℕ
  with_word address word = set words (word_place start.began address) word

  pub only_word : (address word : ℕ) → 1 ≤ address → address ≤ start.began.size
      → OnlyObjects start words (with_word address word)
  only_word address word first last = only_space start words address word first (let size = sizes in omega arith)

  claimed_goes_on : (address k : ℕ) (z : Shape) → v.doing ≡ Some (Claimed address z k) → is_lacking v.doing ≡ false
  claimed_goes_on address k z is = ap is_lacking is

  -- the region of the call
  mine_is : (address k : ℕ) (z : Shape) → v.doing ≡ Some (Claimed address z k)
      → IsShape z × HasStored kept.maps old (region address z) (λ i. 0) k
  mine_is address k z is = subst (Knows start.began.told kept.maps old v.rest) is stood.doing

  mine_apart : (address k : ℕ) (z : Shape) → v.doing ≡ Some (Claimed address z k) → (i : ℕ) (u : View) → i ≢ id
      → get_elem? views i ≡ some u → 0 < u.parts → Apart (region address z) (owned u.doing)
  mine_apart address k z is i u other there alive =
      subst (λ (d : Option Doing). Apart (owned d) (owned u.doing)) is
      (kept.apart id i v u (λ same. other (sym same)) at there live alive)

  -- the next word of the own region is 0
  pub filling : (address k : ℕ) (z : Shape) → v.doing ≡ Some (Claimed address z k) → k + 1 < cost_of z
      → let doing : Option Doing = Some (Claimed address z (k + 1)) in
      let w : View = view_after v kept.history v.known doing in
      IsStep start words (with_word (address + 1 + k) 0) views kept id v at live w × Reaches v w doing
  filling address k z is few =
      let doing : Option Doing = Some (Claimed address z (k + 1)) in
      let w : View = view_after v kept.history v.known doing in
      let mine = mine_is address k z is in
      let place : ℕ = address + 1 + k in
      let after : List ℕ = with_word place 0 in
      let new : State = shows start.began after in
      let first : 1 ≤ address = mine.1.owns.first in
      let last : address + cost_of z ≤ start.began.size + 1 = mine.1.owns.within in
      let changes : WordChanges old new place 0 =
      word_changes start.began words place 0 (omega arith) (let size = sizes in omega arith) in
      let event : Event start.began.told kept.history kept.maps kept.maps old new (region address z) 0 None =
      stores (region address z) place 0 refl mine.1.owns (omega arith) (omega arith) changes in
      let evolves : Evolves kept.maps kept.maps old new 0 =
      evolves_event start.began.told kept.history kept.maps kept.maps old new (region address z) 0 None
      kept.holds.formed event in
      let step =
      leaves_same start words after views kept id v at live (claimed_goes_on address k z is)
      (only_word place 0 (omega arith) (omega arith))
      (region address z)
      0
      None
      doing
      event
      (mine_apart address k z is)
      (inl (let mine_is : owned v.doing ≡ region address z = ap owned is in sym mine_is)) (
        mine.0,
        stored_more mine.1 (owns_still kept.maps old new (region address z) kept.holds.formed evolves mine.1.owns)
            (omega arith) refl few changes,
      )
      (still_bits start words after views kept id v at live v.known doing (inl refl) (ap is_reading is)) in
      (step.0, record { sees = sees start words after views kept id v at live w step.0 step.1; is = refl })

  -- the maps with one address more
  abbrev pub with_name : ℕ → ℕ → Maps
  with_name address n = record {
    address = λ a. if a == address then Some n else kept.maps.address a;
    home = kept.maps.home;
  }

  pub appears : (address n : ℕ) → NameAppears kept.maps (with_name address n) address n
  appears address n = record {
    here = rw (eq-eqb address address refl) refl;
    others = λ a other. rw (ne_eqb a address other) refl;
    home = λ home. refl;
  }

  -- a region is one for any shape of its cost
  region_by : (address : ℕ) (y z : Shape) → cost_of y ≡ cost_of z → region address y ≡ region address z
  region_by address y z cost = ap (λ (n : ℕ). let r : Region = record { at = address; words = n } in r) cost

  -- the own region becomes an object
  pub publishing : (address k : ℕ) (y z : Shape) → v.doing ≡ Some (Claimed address y k) → k + 1 ≡ cost_of y
      → cost_of y ≡ cost_of z → IsShape z
      → let word : ℕ = header_word (record { shape = z; stale = false }) in
      let w : View = made_view v kept.history address z in
      IsStep start words (with_word address word) views kept id v at live w × Makes v w address z
  publishing address k y z is all cost small =
      let header : Header = record { shape = z; stale = false } in
      let word : ℕ = header_word header in
      let n : ℕ = made kept.history in
      let pair : Pair = record { address = address; object = n } in
      let known : List Pair = v.known ++ pair ∷ [] in
      let act : Act = Make z.refs z.nums in
      let w : View = made_view v kept.history address z in
      let mine : HasStored kept.maps old (region address z) (λ i. 0) k =
      subst (λ (r : Region). HasStored kept.maps old r (λ i. 0) k) (region_by address y z cost)
      (mine_is address k y is).1 in
      let after : List ℕ = with_word address word in
      let new : State = shows start.began after in
      let maps : Maps = with_name address n in
      let first : 1 ≤ address = mine.owns.first in
      let last : address + cost_of z ≤ start.began.size + 1 = mine.owns.within in
      let changes : WordChanges old new address word =
      word_changes start.began words address word first (let size = sizes in omega arith) in
      let event : Event start.began.told kept.history kept.maps maps old new (region address z) 0 (Some act) =
      publishes address k z small mine (omega arith) changes (appears address n) in
      let evolves : Evolves kept.maps maps old new 0 =
      evolves_event start.began.told kept.history kept.maps maps old new (region address z) 0 (Some act)
      kept.holds.formed event in
      let fresh_here : IsFresh new address =
      λ other starts. ap (λ (h : Header). h.stale)
      (one_header new address other header starts (record { in_range = small; word = changes.here })) in
      let step =
      leaves start words after views kept id v at live (claimed_goes_on address k y is)
      (only_word address word first (omega arith))
      maps
      (region address z)
      0
      (Some act)
      known
      None
      (record {
        event = event;
        apart = λ i u other there alive. subst (λ (r : Region). Apart r (owned u.doing)) (region_by address y z cost)
            (mine_apart address k y is i u other there alive);
        owns = inr refl;
        names = λ a m named. elim (cases_eq a address) [
          | inl same ↦
              let number : n ≡ m =
              let e : Some n ≡ Some m = sym (appears address n).here ∙ (ap maps.address (sym same) ∙ named) in cc in
              inr (subst (λ (b : ℕ). Has known b m) (sym same)
              (subst (λ (j : ℕ). Has known address j) number (snoc_here v.known pair)))
          | inr other ↦ inl (sym ((appears address n).others a other) ∙ named)
        ];
        more = snoc_old v.known pair;
        named = λ a m has. elim (snoc_new v.known pair a m has) [
          | inl before ↦ evolves.names a m (stood.known a m before)
          | inr this ↦ subst (λ (p : Pair). maps.address p.address ≡ Some p.object) this (appears address n).here
        ];
        fresh = λ a m has. elim (snoc_new v.known pair a m has) [
          | inl before ↦ fresh_stays kept.maps maps old new 0 kept.holds.formed evolves a
              (m, stood.known a m before)
              (stood.fresh a m before)
          | inr this ↦ subst (λ (p : Pair). IsFresh new p.address) this fresh_here
        ];
        knows = tt;
        bits = record {
          look = inl refl;
          reads = inl (ap is_reading is);
          clears = λ some_. absurd (some_ refl);
          brings = λ a m named. elim (cases_eq a address) [
            | inl same ↦ inr (inl (
              act,
              refl,
              ap (option_map Object) (sym (appears address n).here ∙ (ap maps.address (sym same) ∙ named)),
            ))
            | inr other ↦ inl (sym ((appears address n).others a other) ∙ named)
          ];
          gives = λ m gives. (
            address,
            (let same_act : act ≡ gives.0 = same_Some act gives.0 gives.1 in
                let e : Object n ≡ Object m =
                same_Some (Object n) (Object m) (ap (given kept.history) same_act ∙ gives.2) in
                let number : n ≡ m = cc in
                subst (λ (j : ℕ). Has known address j) number (snoc_here v.known pair)),
          );
        };
      }) in (
        step.0,
        told_makes v kept.history address z (adds start words after views kept id v at live w step.0 act step.1),
      )
