-- A copy of a Body: the claim of its words and the stores into them keep the rule, and tell what they tell.
use Rattle.std.proofs.Common.{Bool, ◌≡◌, ◌≢◌, ℕ, ◌+◌, ◌^◌, ◌%◌, ◌<◌, ◌≤◌, true, false, List, get_or}
use Rattle.std.proofs.Common.{refl, sym, ◌∙◌, ap, subst, arith, inl, inr, mod-eq_of_lt}
use Rattle.std.proofs.Math.ListN.{set}
use Rattle.std.proofs.lemmas.Bool.{cases_lt, cases_eq}
use Rattle.std.proofs.lemmas.Option.{slice_get_within}
use Rattle.std.specs.Prelude.{Option, None, Some}
use lib.ListN.{get_elem?}
use mathlib.Core.Option.{some, none}
use Rattle.atomic_table.specs.Table.{Me, Allows, step}
use Rattle.atomic_table.specs.declared.shared.Seat.{Seat}
use Rattle.melt_model.proofs.Histories.{shape-append}
use Rattle.melt_model.specs.History.{shape, shapes, made}
use Rattle.melt_model.specs.declared.history.Entry.{Entry}
use Rattle.melt_model.specs.History as model
use Rattle.melt_word.specs.Words.{cost_of, header_word}
use Rattle.melt_word.specs.declared.header.Shape.{Shape}
use Rattle.melt_scion.specs.Changes.{WordChanges}
use Rattle.melt_scion.specs.Commits.{HasBody, copy_word}
use Rattle.melt_scion.specs.GhostMaps.{named}
use Rattle.melt_scion.specs.Regions.{Region, Apart, Owns, HasStored}
use Rattle.melt_scion.specs.State.{State}
use Rattle.melt_core.proofs.Evolving.{evolves_event}
use Rattle.melt_core.proofs.Staying.{fetches_stays, misses_stays}
use Rattle.melt_core.proofs.Storing.{none_stored, stored_more}
use Rattle.melt_core.specs.Events.{Event}
use Rattle.melt_core.specs.Events.Event.{stores}
use Rattle.melt_core.specs.StaleBits.{home_look, look_of}
use Rattle.melt_core.specs.Known.{Evolves, Fetches, Misses, region}
use Rattle.melt_core.specs.declared.call.Activation.{Activation}
use Rattle.melt_core.specs.declared.call.Search.{Search}
use Rattle.melt_rule.proofs.Claiming.{found_first}
use Rattle.melt_rule.proofs.Keeping.{IsStep, sees, still_bits}
use Rattle.melt_rule.proofs.Leaving.{leaves_same}
use Rattle.melt_rule.proofs.Makes.{began_size, claim_evolves, claim_fits, claim_lacks, claim_small, claimed}
use Rattle.melt_rule.proofs.Makes.{claimed_words, free, moved, only_word, owns_still, sizes, with_word}
use Rattle.melt_rule.proofs.Seating.{seated}
use Rattle.melt_rule.proofs.Showing.{word_changes}
use Rattle.melt_rule.proofs.Within.{allowed}
use Rattle.melt_rule.specs.Coming.{HomeHas, ClaimsCopy, LacksCopy, CopyPlay, FillCopyPlay, HeadCopyPlay}
use Rattle.melt_rule.specs.Plays.{Stays}
use Rattle.melt_rule.specs.Rule.{Begins, SeatStands, Kept, Rule, has_cause, is_lacking, is_reading}
use Rattle.melt_rule.specs.Seats.{EpochWords, IsSeat, knows_of}
use Rattle.melt_rule.specs.Shown.{base_at, shows, Knows, owned, staged, free_place, word_place}
use Rattle.melt_rule.specs.Tells.{IsWithin, view_after, Reaches}
use Rattle.melt_rule.specs.declared.began.Began.{Began}
use Rattle.melt_rule.specs.declared.began.Start.{Start}
use Rattle.melt_rule.specs.declared.view.Doing.{Doing}
use Rattle.melt_rule.specs.declared.view.Doing.TheVariants.{Missed, Copying, Copied, LackingCopy}
use Rattle.melt_rule.specs.declared.view.View.{View}
use Rattle.melt_record.specs.declared.head.Kind.TheVariants.{Body}
use Rattle.melt_scion.specs.Placed.{HeadIs}

-- an object that has a shape has it later
shape_later : (g h : List Entry) (n : ℕ) (z : model.Shape) → Begins g h → shape g n ≡ Some z → shape h n ≡ Some z
shape_later g h n z begins is =
    let below : n < made g = slice_get_within (shapes g) n z is in
    ap (λ (l : List Entry). shape l n) (sym begins.1) ∙ (shape-append g begins.0 n below ∙ is)

module _ (start : Start) (words : List ℕ) (views : List View) (kept : Kept start words views) (id : ℕ) (v : View)
    (at : get_elem? views id ≡ some v) (live : 0 < v.parts) where
  abbrev old : State
  old = shows start.began words

  stood : SeatStands start.began kept.maps old kept.history v
  stood = kept.seats id v at live

  abbrev first_free : ℕ
  first_free = free start words views kept id v at live

  -- the words after a claim of so many, and the view
  abbrev after_claim : ℕ → List ℕ
  after_claim = claimed_words start words views kept id v at live

  abbrev claim_view : List ℕ → ℕ → ℕ → Bool → Doing → View
  claim_view = claimed start words views kept id v at live

  -- the Body at the home was read, of this shape and with these words after its head
  abbrev Reads : Search → Shape → List ℕ → Type 0
  Reads search z rest = HasBody start.began.told (base_at start.began) search.home z rest

  -- it tells the shape of the object of the home
  home_has : (search : Search) (z : Shape) (rest : List ℕ) → Reads search z rest → HomeHas v kept.history search.home z
  home_has search z rest body =
      subst (λ (b : Began). b.told ≡ true → HeadIs (base_at b) search.home (record { shape = z; kind = Body })
      × ((n : ℕ) → named b.maps.homes search.home ≡ Some n
      → shape kept.history n ≡ Some (record { refs = z.refs; nums = z.nums }))) (sym stood.began) (λ told. (
        body.head.on_disk told,
        λ n is. shape_later start.began.history kept.history n (record { refs = z.refs; nums = z.nums }) kept.since
            (kept.bodies told search.home n z is (body.head.on_disk told)),
      ))

  -- the search came to a word that was empty
  misses : (search : Search) → v.doing ≡ Some (Missed search) → Misses start.began.told kept.maps old search
  misses search is = (subst (Knows start.began.told kept.maps old v.rest) is stood.doing).0

  -- what a call knows after the claim of so many words
  missed_on : (search : Search) (cost : ℕ) → v.doing ≡ Some (Missed search)
      → Misses start.began.told kept.maps (shows start.began (after_claim cost)) search
  missed_on search cost is =
      misses_stays kept.maps kept.maps old (shows start.began (after_claim cost)) 0 kept.holds.formed
      (claim_evolves start words views kept id v at live cost)
      start.began.told
      search
      (misses search is)

  -- and the call keeps its look
  missed_look : (search : Search) → v.doing ≡ Some (Missed search)
      → look_of (staged v.doing) ≡ Some (home_look search)
  missed_look search is = ap (λ (doing : Option Doing). look_of (staged doing)) is

  -- the words for a copy are claimed, and lie within the space
  pub copying : (search : Search) (z : Shape) (rest : List ℕ) → v.doing ≡ Some (Missed search) → has_cause v ≡ false
      → Reads search z rest → first_free + cost_of z ≤ start.began.size + 1
      → let doing : Doing = Copying (record { search = search; address = first_free; shape = z }) 0 in
      let w : View = claim_view rest (cost_of z) v.over v.spaced doing in
      IsStep start words (after_claim (cost_of z)) views kept id v at live w
      × ClaimsCopy v w search z rest first_free
  copying search z rest is no_cause body fits =
      let doing : Doing = Copying (record { search = search; address = first_free; shape = z }) 0 in
      let after : List ℕ = after_claim (cost_of z) in
      let w : View = claim_view rest (cost_of z) v.over v.spaced doing in
      let step = moved start words views kept id v at live rest (cost_of z) v.over v.spaced doing no_cause
      (claim_fits start words views kept id v at live rest z doing fits refl
      (λ owns. (
        record { misses = missed_on search (cost_of z) is; body = body },
        none_stored kept.maps (shows start.began after) first_free z (copy_word search.home z rest) owns,
      ))
      (inr (refl, inl (sym (missed_look search is))))
      (ap is_reading is)) in (
        step.0,
        record {
          sees = sees start words after views kept id v at live w step.0 step.1;
          object = home_has search z rest body;
          first = found_first start words views kept id v at live;
          fits = let size = began_size start words views kept id v at live in omega arith;
          is = refl;
        },
      )

  -- or end past its last word
  pub lacking_copy : (search : Search) (z : Shape) (rest : List ℕ) → v.doing ≡ Some (Missed search)
      → has_cause v ≡ false → Reads search z rest → start.began.size + 1 < first_free + cost_of z
      → let w : View = claim_view v.rest (cost_of z) (v.over + 1) true (LackingCopy search z) in
      IsStep start words (after_claim (cost_of z)) views kept id v at live w
      × LacksCopy v w search z
  lacking_copy search z rest is no_cause body past =
      let doing : Doing = LackingCopy search z in
      let after : List ℕ = after_claim (cost_of z) in
      let w : View = claim_view v.rest (cost_of z) (v.over + 1) true doing in
      let refs : z.refs ≤ 62 = body.head.small.refs in
      let nums : z.nums ≤ 62 = body.head.small.nums in
      let step = moved start words views kept id v at live v.rest (cost_of z) (v.over + 1) true doing no_cause
      (claim_lacks start words views kept id v at live v.rest (cost_of z) doing no_cause past refl refl
      (λ above. (above, missed_on search (cost_of z) is, body.head))
      (omega arith)
      (inr (refl, inl (sym (missed_look search is))))
      (ap is_reading is)) in (
        step.0,
        record {
          sees = sees start words after views kept id v at live w step.0 step.1;
          object = home_has search z rest body;
          found = first_free;
          first = found_first start words views kept id v at live;
          past = let size = began_size start words views kept id v at live in omega arith;
          is = refl;
        },
      )

  -- what a call knows that stores a copy
  copies : (a : Activation) (k : ℕ) → v.doing ≡ Some (Copying a k)
      → Fetches start.began.told kept.maps old v.rest a.search a.shape
      × HasStored kept.maps old (region a.address a.shape) (copy_word a.search.home a.shape v.rest) k
  copies a k is = subst (Knows start.began.told kept.maps old v.rest) is stood.doing

  -- its words belong to no other call
  copy_apart : (a : Activation) (k : ℕ) → v.doing ≡ Some (Copying a k) → (i : ℕ) (u : View) → i ≢ id
      → get_elem? views i ≡ some u → 0 < u.parts → Apart (region a.address a.shape) (owned u.doing)
  copy_apart a k is i u other there alive =
      subst (λ (d : Option Doing). Apart (owned d) (owned u.doing)) is
      (kept.apart id i v u (λ same. other (sym same)) at there live alive)

  abbrev stored_at : ℕ → ℕ → List ℕ
  stored_at = with_word start words views kept id v at live

  -- a store into a word of the copy is this step
  module _ (a : Activation) (k : ℕ) (is : v.doing ≡ Some (Copying a k)) (place word : ℕ) (from : a.address ≤ place)
      (to : place < a.address + cost_of a.shape) where
    abbrev after : List ℕ
    after = stored_at place word

    abbrev new : State
    new = shows start.began after

    abbrev mine : Region
    mine = region a.address a.shape

    inside : (1 ≤ place) × (place ≤ start.began.size)
    inside =
        let first : 1 ≤ a.address = (copies a k is).1.owns.first in
        let last : a.address + cost_of a.shape ≤ start.began.size + 1 = (copies a k is).1.owns.within in
        (omega arith, omega arith)

    changes : WordChanges old new place word
    changes =
        let size = sizes start words views kept id v at live in
        word_changes start.began words place word inside.0 (let last = inside.1 in omega arith)

    event : Event start.began.told kept.history kept.maps kept.maps old new mine 0 None
    event = stores mine place word refl (copies a k is).1.owns from to changes

    evolves : Evolves kept.maps kept.maps old new 0
    evolves = evolves_event start.began.told kept.history kept.maps kept.maps old new mine 0 None
        kept.holds.formed
        event

    -- the words stay those of the call, and the Body stays read
    still : Fetches start.began.told kept.maps new v.rest a.search a.shape × Owns kept.maps new mine
    still = (
      fetches_stays kept.maps kept.maps old new 0 kept.holds.formed evolves start.began.told v.rest a.search a.shape
          (copies a k is).0,
      owns_still kept.maps old new mine kept.holds.formed evolves (copies a k is).1.owns,
    )

    storing : (doing : Option Doing) → owned doing ≡ mine
        → Knows start.began.told kept.maps new v.rest doing → look_of (staged doing) ≡ Some (home_look a.search)
        → let w : View = view_after v kept.history v.known doing in
        IsStep start words after views kept id v at live w × Reaches v w doing
    storing doing owns knows look =
        let w : View = view_after v kept.history v.known doing in
        let step =
        leaves_same start words after views kept id v at live (ap is_lacking is)
        (only_word start words views kept id v at live place word inside.0 inside.1)
        mine
        0
        None
        doing
        event
        (copy_apart a k is)
        (inl (owns ∙ sym (let mine_is : owned v.doing ≡ mine = ap owned is in mine_is)))
        knows
        (still_bits start words after views kept id v at live v.known doing
        (inr (refl, inl (look ∙ sym (ap (λ (before : Option Doing). look_of (staged before)) is))))
        (ap is_reading is)) in
        (step.0, record { sees = sees start words after views kept id v at live w step.0 step.1; is = refl })

  -- the next word of the copy is stored
  pub filling_copy : (a : Activation) (k word : ℕ) → v.doing ≡ Some (Copying a k) → k + 1 < cost_of a.shape
      → word ≡ copy_word a.search.home a.shape v.rest (k + 1)
      → let doing : Option Doing = Some (Copying a (k + 1)) in
      let w : View = view_after v kept.history v.known doing in
      IsStep start words (stored_at (a.address + 1 + k) word) views kept id v at live w × Reaches v w doing
  filling_copy a k word is few stored =
      let place : ℕ = a.address + 1 + k in
      let from : a.address ≤ place = omega arith in
      let to : place < a.address + cost_of a.shape = omega arith in
      let stays = still a k is place word from to in
      storing a k is place word from to (Some (Copying a (k + 1))) refl (
        stays.0,
        stored_more (copies a k is).1 stays.1 (omega arith) stored few (changes a k is place word from to),
      )
      refl

  -- the copy is whole once its header is stored
  pub heading_copy : (a : Activation) (k : ℕ) → v.doing ≡ Some (Copying a k) → k + 1 ≡ cost_of a.shape
      → let doing : Option Doing = Some (Copied a) in
      let w : View = view_after v kept.history v.known doing in
      let word : ℕ = header_word (record { shape = a.shape; stale = false }) in
      IsStep start words (stored_at a.address word) views kept id v at live w × Reaches v w doing
  heading_copy a k is all =
      let word : ℕ = header_word (record { shape = a.shape; stale = false }) in
      let from : a.address ≤ a.address = omega arith in
      let to : a.address < a.address + cost_of a.shape = omega arith in
      let stays = still a k is a.address word from to in
      let new : State = shows start.began (stored_at a.address word) in
      let changed : WordChanges old new a.address word = changes a k is a.address word from to in
      let holds : ℕ → ℕ = copy_word a.search.home a.shape v.rest in
      let stored = (copies a k is).1 in
      storing a k is a.address word from to (Some (Copied a)) refl (
        record {
          searches = stays.0.misses.searches;
          body = stays.0.body;
          copy = record {
            owns = stays.1;
            are = λ j below. elim (cases_eq j 0) [
              | inl first ↦ subst (λ (i : ℕ). new.word (a.address + i) ≡ holds i) (sym first)
                  (ap new.word (let e : a.address + 0 ≡ a.address = omega arith in e) ∙ changed.here)
              | inr other ↦ changed.others (a.address + j) (λ e. other (omega (arith, e)))
                  ∙ stored.are j (omega arith) (omega arith)
            ];
          };
        },
        stays.0.misses.within,
      )
      refl

pub copies_at : {start : Start} {slots : ℕ} (id : ℕ) {cost : ℕ} {search : Search} {z : Shape} {rest : List ℕ}
    {me : Me ℕ View} → 0 < me.0.parts → has_cause me.0 ≡ false → me.0.doing ≡ Some (Missed search)
    → HasBody start.began.told (base_at start.began) search.home z rest → cost ≡ cost_of z
    → Allows (Rule start) slots id me free_place (λ n. (n + cost) % 2 ^ 64)
    (CopyPlay z rest (step slots free_place cost 0 none) me)
copies_at {start} {slots} id {cost} {search} {z} {rest} {me} live no_cause is body is_cost =
    allowed slots id free_place me (λ n. (n + cost) % 2 ^ 64) (CopyPlay z rest (step slots free_place cost 0 none) me)
    live (λ words views kept at alive small.
    let refs : z.refs ≤ 62 = body.head.small.refs in
    let nums : z.nums ≤ 62 = body.head.small.nums in
    let first_free : ℕ = get_or words free_place 0 in
    let wide : first_free + cost < 2 ^ 64 = claim_small start words views kept id me.0 at alive cost (omega arith) in
    let whole : (first_free + cost) % 2 ^ 64 ≡ first_free + cost_of z =
    mod-eq_of_lt wide ∙ ap (λ (n : ℕ). first_free + n) is_cost in
    let size : me.0.began.size ≡ start.began.size = ap (λ (b : Began). b.size) (kept.seats id me.0 at alive).began in
    elim (cases_lt (start.began.size + 1) (first_free + cost_of z)) [
      | inl past ↦
          let w : View =
          claimed start words views kept id me.0 at alive me.0.rest (cost_of z) (me.0.over + 1) true
          (LackingCopy search z) in
          let r : IsStep start words (set words free_place (first_free + cost_of z)) views kept id me.0 at alive w
          × LacksCopy me.0 w search z =
          lacking_copy start words views kept id me.0 at alive search z rest is no_cause body past in (
            w,
            subst (λ (n : ℕ). IsStep start words (set words free_place n) views kept id me.0 at alive w)
                (sym whole) r.0,
            λ inside. (
              (refl, inside),
              wide,
              λ other also.
                  let both : Some (Missed search) ≡ Some (Missed other) = sym is ∙ also in
                  let same : search ≡ other = cc in
                  ((λ fits. absurd (omega arith)), (λ over. subst (λ (x : Search). LacksCopy me.0 w x z) same r.1)),
            ),
          )
      | inr fits ↦
          let doing : Doing = Copying (record { search = search; address = first_free; shape = z }) 0 in
          let w : View = claimed start words views kept id me.0 at alive rest (cost_of z) me.0.over me.0.spaced doing in
          let r : IsStep start words (set words free_place (first_free + cost_of z)) views kept id me.0 at alive w
          × ClaimsCopy me.0 w search z rest first_free =
          copying start words views kept id me.0 at alive search z rest is no_cause body (omega arith) in (
            w,
            subst (λ (n : ℕ). IsStep start words (set words free_place n) views kept id me.0 at alive w)
                (sym whole) r.0,
            λ inside. (
              (refl, inside),
              wide,
              λ other also.
                  let both : Some (Missed search) ≡ Some (Missed other) = sym is ∙ also in
                  let same : search ≡ other = cc in (
                    (λ within. subst (λ (x : Search). ClaimsCopy me.0 w x z rest first_free) same r.1),
                    (λ past. absurd (omega arith)),
                  ),
            ),
          )
    ])

pub fills_copy_at : {start : Start} {slots : ℕ} (id : ℕ) {i k word : ℕ} {a : Activation} {me : Me ℕ View}
    → 0 < me.0.parts → me.0.doing ≡ Some (Copying a k) → k + 1 < cost_of a.shape
    → word ≡ copy_word a.search.home a.shape me.0.rest (k + 1) → i ≡ word_place me.0.began (a.address + 1 + k)
    → Allows (Rule start) slots id me i (λ n. word) (λ n. FillCopyPlay (step slots i word 0 none) me word)
fills_copy_at {start} {slots} id {i} {k} {word} {a} {me} live is few stored placed =
    allowed slots id i me (λ n. word) (λ n. FillCopyPlay (step slots i word 0 none) me word) live
    (λ words views kept at alive small.
    let place : ℕ = a.address + 1 + k in
    let there : i ≡ word_place start.began place =
    placed ∙ ap (λ (b : Began). word_place b place) (kept.seats id me.0 at alive).began in
    let w : View = view_after me.0 kept.history me.0.known (Some (Copying a (k + 1))) in
    let r = filling_copy start words views kept id me.0 at alive a k word is few stored in (
      w,
      subst (λ (j : ℕ). IsStep start words (set words j word) views kept id me.0 at alive w) (sym there) r.0,
      λ inside. (
        (refl, inside),
        λ b j other.
            let same : Some (Copying a k) ≡ Some (Copying b j) = sym is ∙ other in
            let doing : Some (Copying a (k + 1)) ≡ Some (Copying b (j + 1)) = cc in
            subst (Reaches me.0 w) doing r.1,
      ),
    ))

pub heads_copy_at : {start : Start} {slots : ℕ} (id : ℕ) {i k word : ℕ} {a : Activation} {me : Me ℕ View}
    → 0 < me.0.parts → me.0.doing ≡ Some (Copying a k) → k + 1 ≡ cost_of a.shape
    → i ≡ word_place me.0.began a.address → word ≡ header_word (record { shape = a.shape; stale = false })
    → Allows (Rule start) slots id me i (λ n. word) (λ n. HeadCopyPlay (step slots i word 0 none) me word)
heads_copy_at {start} {slots} id {i} {k} {word} {a} {me} live is all placed is_word =
    allowed slots id i me (λ n. word) (λ n. HeadCopyPlay (step slots i word 0 none) me word) live
    (λ words views kept at alive small.
    let there : i ≡ word_place start.began a.address =
    placed ∙ ap (λ (b : Began). word_place b a.address) (kept.seats id me.0 at alive).began in
    let w : View = view_after me.0 kept.history me.0.known (Some (Copied a)) in
    let r = heading_copy start words views kept id me.0 at alive a k is all in (
      w,
      subst (λ (j : ℕ). IsStep start words (set words j word) views kept id me.0 at alive w) (sym there)
          (subst (λ (x : ℕ). IsStep start words (set words (word_place start.began a.address) x) views kept id me.0 at
          alive w) (sym is_word) r.0),
      λ inside. (
        (refl, inside),
        λ b j other.
            let same : Some (Copying a k) ≡ Some (Copying b j) = sym is ∙ other in
            let doing : Some (Copied a) ≡ Some (Copied b) = cc in
            subst (Reaches me.0 w) doing r.1,
      ),
    ))

-- a copy lies within the space
pub copying_within : {v : View} {a : Activation} {k : ℕ} → IsWithin v → v.doing ≡ Some (Copying a k)
    → a.address + cost_of a.shape ≤ v.began.size + 1
copying_within inside is = (rw is at inside.doing).0.within

-- a seat after a claim of words past the last one
pub seated_lacking : {words : EpochWords} {old new : Seat ℕ View} {search : Search} {z : Shape} → IsSeat words old
    → new.table_id ≡ old.table_id → Stays old.me new.me → LacksCopy (knows_of old) (knows_of new) search z
    → IsSeat words new
seated_lacking seat table stays lacks = seated seat table stays lacks.is refl refl
