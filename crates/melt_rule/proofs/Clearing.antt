-- The stale bit of an object is cleared by one fetch-and-and on its header, and the rule stays.
use Rattle.std.proofs.Common.{◌≡◌, ℕ, ◌+◌, ◌*◌, ◌^◌, ◌<◌, ◌≤◌, Bool, true, false, List, length, get_or, refl, sym, ◌∙◌}
use Rattle.std.proofs.Common.{ap}
use Rattle.std.proofs.Common.{subst, arith, inl, inr}
use Rattle.std.proofs.Math.ListN.{set}
use Rattle.std.proofs.lemmas.Nat.{and-not, and_block, and_comm}
use Rattle.std.specs.Int.Bits.{and_zero_l}
use Rattle.std.specs.Prelude.{Option, None, Some, bit_and}
use lib.ListN.{get_elem?}
use mathlib.Core.Option.{some, none}
use Rattle.atomic_table.specs.Table.{Me, Allows, step}
use Rattle.melt_word.specs.Words.{IsDiskHome, IsHeader, bit, header_word}
use Rattle.melt_word.specs.declared.header.Header.{Header}
use Rattle.melt_word.specs.declared.reference.Ref.{Ref}
use Rattle.melt_word.specs.declared.reference.Ref.TheVariants.{Disk}
use Rattle.melt_scion.proofs.Geometry.{one_header}
use Rattle.melt_scion.proofs.Searching.{scion_named, scion_same}
use Rattle.melt_scion.specs.Changes.{WordChanges}
use Rattle.melt_scion.specs.Heaps.{scion_in}
use Rattle.melt_scion.specs.Placed.{IsNamed}
use Rattle.melt_scion.specs.Regions.{no_region}
use Rattle.melt_scion.specs.State.{State, HeaderAt}
use Rattle.melt_core.proofs.Keeping.{event_keeps}
use Rattle.melt_core.proofs.Regions.{no_region_apart}
use Rattle.melt_core.proofs.Staying.{known_stays}
use Rattle.melt_core.specs.Events.Event.{clears}
use Rattle.melt_core.specs.StaleBits.{look_of}
use Rattle.melt_core.specs.declared.call.Place.{Place}
use Rattle.melt_core.specs.declared.call.Search.{Search}
use Rattle.melt_rule.proofs.Keeping.{IsStep, sees}
use Rattle.melt_rule.proofs.Showing.{word_is, word_changes}
use Rattle.melt_rule.proofs.Leaving.{OnlyObjects, leaves_none, only_space}
use Rattle.melt_rule.proofs.Within.{allowed}
use Rattle.melt_rule.specs.Barriers.{stale_mask, ClearPlay}
use Rattle.melt_rule.specs.Coming.{ClearStubPlay}
use Rattle.melt_rule.specs.Rule.{SeatStands, Kept, Rule, is_lacking, is_reading}
use Rattle.melt_rule.specs.Shown.{shows, word_place, Knows, core_stage, staged}
use Rattle.melt_rule.specs.Tells.{IsWithin, view_after, Reaches}
use Rattle.melt_rule.specs.declared.began.Began.{Began}
use Rattle.melt_rule.specs.declared.began.Start.{Start}
use Rattle.melt_rule.specs.declared.view.Doing.{Doing}
use Rattle.melt_rule.specs.declared.view.Doing.TheVariants.{Looked, Cleared, Missed}
use Rattle.melt_rule.specs.declared.view.View.{View}

low_bits : (b : Bool) → bit_and 2 (1 + 2 * bit b) ≡ 2 * bit b
low_bits true = refl
low_bits false = refl

bit_small : (b : Bool) → bit b ≤ 1
bit_small true = omega arith
bit_small false = omega arith

-- the stale bit of a header, alone
stale_bit : (h : Header) → bit_and 2 (header_word h) ≡ 2 * bit h.stale
stale_bit h =
    let q : ℕ = 64 * h.shape.refs + 16384 * h.shape.nums in
    let r : ℕ = 1 + 2 * bit h.stale in
    let most = bit_small h.stale in
    let small : r < 2 ^ 2 = omega arith in
    let whole : header_word h ≡ q * 2 ^ 2 + r = omega arith in
    let two : 2 < 2 ^ 2 = omega arith in
    ap (bit_and 2) whole
    ∙ (and_block 2 0 q 2 r two small
    ∙ (ap (λ (x : ℕ). x * 2 ^ 2 + bit_and 2 r) (and_zero_l q)
    ∙ (let e : 0 * 4 + bit_and 2 r ≡ bit_and 2 r = omega arith in e ∙ low_bits h.stale)))

-- a header without its stale bit
cleared_word : (h : Header) → IsHeader h
    → bit_and (header_word h) stale_mask ≡ header_word (record { shape = h.shape; stale = false })
cleared_word h is =
    let refs : h.shape.refs ≤ 62 = is.refs in
    let nums : h.shape.nums ≤ 62 = is.nums in
    let b = bit_small h.stale in
    let n : ℕ = header_word h in
    let wide : n < 2 ^ 64 = omega arith in
    let both : bit_and stale_mask n + bit_and 2 n ≡ n = and-not 64 2 n (omega arith) wide in
    let one : bit_and 2 n ≡ 2 * bit h.stale = stale_bit h in
    and_comm n stale_mask ∙ omega arith

module _ (start : Start) (words after : List ℕ) (views : List View) (kept : Kept start words views) (id : ℕ) (v : View)
    (at : get_elem? views id ≡ some v) (live : 0 < v.parts) (goes_on : is_lacking v.doing ≡ false) (place : Place)
    (found : Ref) (target : ℕ)
    (knows : Knows start.began.told kept.maps (shows start.began words) v.rest (Some (Looked place found target)))
    (looked : look_of (staged v.doing) ≡ Some (record { place = place; found = found }))
    (left : is_reading v.doing ≡ false) (only : OnlyObjects start words after) where
  abbrev old : State
  old = shows start.began words

  abbrev new : State
  new = shows start.began after

  stood : SeatStands start.began kept.maps old kept.history v
  stood = kept.seats id v at live

  -- the view after it
  abbrev pub cleared : View
  cleared = view_after v kept.history v.known (Some (Cleared place found target))

  pub clearing : (header : Header) → HeaderAt old target header
      → WordChanges old new target (header_word (record { shape = header.shape; stale = false }))
      → IsStep start words after views kept id v at live cleared × Reaches v cleared (Some (Cleared place found target))
  clearing header starts changes =
      let named : IsNamed kept.maps target = knows.1.named in
      let event = clears target header refl named starts changes in
      let keeps = event_keeps start.began.told v.thread kept.history kept.maps kept.maps old new no_region target None
      kept.legal kept.holds event in
      let bare : Header = record { shape = header.shape; stale = false } in
      let stays = known_stays kept.maps kept.maps old new target kept.holds.formed keeps.evolves start.began.told v.rest
      (core_stage (Looked place found target))
      (λ owns. keeps.regions no_region owns (no_region_apart no_region))
      knows in
      let is_step =
      leaves_none start words after views kept id v at live goes_on only target None
      (Some (Cleared place found target))
      event
      (inr refl) (
        stays.0,
        stays.1,
        λ other begins. ap (λ (h : Header). h.stale)
            (one_header new target other bare begins (keeps.evolves.clears named.0 header named.1 starts)),
      ) (record {
        look = inr (refl, inl (sym looked));
        reads = inl left;
        clears = λ some_. refl;
        brings = λ a n is. inl is;
        gives = λ n gives. absurd (let e : None ≡ Some gives.0 = gives.1 in cc);
      }) in (
        is_step.0,
        record {
          sees = sees start words after views kept id v at live cleared is_step.0 is_step.1;
          is = refl;
        },
      )

-- A seat that knows of the object at the target clears its bit, and is told this.
clears_known : {start : Start} (slots id : ℕ) {i target : ℕ} (place : Place) (found : Ref) (me : Me ℕ View)
    (tells : ℕ → Me ℕ View → Type 0) → 0 < me.0.parts → is_lacking me.0.doing ≡ false → i ≡ word_place me.0.began target
    → ((words : List ℕ) (views : List View) (kept : Kept start words views) → get_elem? views id ≡ some me.0 → Knows
    start.began.told kept.maps (shows start.began words) me.0.rest (Some (Looked place found target)))
    → look_of (staged me.0.doing) ≡ Some (record { place = place; found = found }) → is_reading me.0.doing ≡ false
    → ((n : ℕ) (w : View) → IsWithin w → Reaches me.0 w (Some (Cleared place found target)) → tells n (w, me.1))
    → Allows (Rule start) slots id me i (λ n. bit_and n stale_mask) tells
clears_known {start} slots id {i} {target} place found me tells live goes_on at_i known looked left tell =
    allowed slots id i me (λ n. bit_and n stale_mask) tells live (λ words views kept at alive small.
    let now : State = shows start.began words in
    let known_ = known words views kept at in
    let object = kept.holds.formed.objects target known_.1.named.0 known_.1.named.1 in
    let header : Header = object.0 in
    let x : ℕ = bit_and (get_or words i 0) stale_mask in
    let within_ : target ≤ start.began.size = let w = object.1.within in omega arith in
    let place_is : i ≡ word_place start.began target =
    at_i ∙ ap (λ (b : Began). word_place b target) (kept.seats id me.0 at alive).began in
    let in_words : word_place start.began target < length words = let size = kept.size in omega arith in
    let word : get_or words i 0 ≡ header_word header =
    ap (λ (k : ℕ). get_or words k 0) place_is
    ∙ (sym (word_is start.began words target object.1.first) ∙ object.1.starts.word) in
    let bare : x ≡ header_word (record { shape = header.shape; stale = false }) =
    ap (λ (k : ℕ). bit_and k stale_mask) word ∙ cleared_word header object.1.starts.in_range in
    let changed : WordChanges now (shows start.began (set words i x)) target x =
    subst (λ (p : ℕ). WordChanges now (shows start.began (set words p x)) target x) (sym place_is)
    (word_changes start.began words target x object.1.first in_words) in
    let only : OnlyObjects start words (set words i x) =
    subst (λ (p : ℕ). OnlyObjects start words (set words p x)) (sym place_is)
    (only_space start words target x object.1.first in_words) in
    let r = clearing start words (set words i x) views kept id me.0 at alive goes_on place found target known_ looked
    left
    only header
    object.1.starts
    (subst (λ (y : ℕ). WordChanges now (shows start.began (set words i x)) target y) bare changed) in
    let w : View = view_after me.0 kept.history me.0.known (Some (Cleared place found target)) in
    (w, r.0, λ inside. tell (get_or words i 0) w inside r.1))

pub clears_at : {start : Start} {slots : ℕ} (id : ℕ) {i target : ℕ} {place : Place} {found : Ref} {me : Me ℕ View}
    → 0 < me.0.parts → me.0.doing ≡ Some (Looked place found target) → i ≡ word_place me.0.began target
    → Allows (Rule start) slots id me i (λ n. bit_and n stale_mask) (ClearPlay (step slots i stale_mask 0 none) me)
clears_at {start} {slots} id {i} {target} {place} {found} {me} live looked at_i =
    clears_known slots id place found me (ClearPlay (step slots i stale_mask 0 none) me) live (ap is_lacking looked)
    at_i (λ words views kept at. subst (Knows start.began.told kept.maps (shows start.began words) me.0.rest) looked
    (kept.seats id me.0 at live).doing) (ap (λ (doing : Option Doing). look_of (staged doing)) looked)
    (ap is_reading looked) (λ n w inside reaches. (
      (refl, inside),
      λ p f t also.
          let both : Some (Looked place found target) ≡ Some (Looked p f t) = sym looked ∙ also in
          let P : Place → Ref → ℕ → Type 0 = λ q g u. Reaches me.0 w (Some (Cleared q g u)) in
          let at_p : place ≡ p = cc in
          let is_f : found ≡ f = cc in
          let is_t : target ≡ t = cc in
          subst (λ (q : Place). P q f t) at_p
          (subst (λ (g : Ref). P place g t) is_f (subst (λ (u : ℕ). P place found u) is_t reaches)),
    ))

-- the object to which the live scion of a Stub leads
pub stub_clears_at : {start : Start} {slots : ℕ} (id : ℕ) {i : ℕ} (scion : ℕ) {target : ℕ} {search : Search}
    {me : Me ℕ View} → 0 < me.0.parts → me.0.doing ≡ Some (Missed search)
    → scion_in me.0.began.scions scion ≡ Some (record { home = search.home; address = target })
    → i ≡ word_place me.0.began target
    → Allows (Rule start) slots id me i (λ n. bit_and n stale_mask)
    (ClearStubPlay (step slots i stale_mask 0 none) me)
stub_clears_at {start} {slots} id {i} scion {target} {search} {me} live missed scion_live at_i =
    clears_known slots id search.place (Disk search.home) me (ClearStubPlay (step slots i stale_mask 0 none) me) live
    (ap is_lacking missed) at_i (λ words views kept at.
    let now : State = shows start.began words in
    let stood_ = kept.seats id me.0 at live in
    let misses = (subst (Knows start.began.told kept.maps now me.0.rest) missed stood_.doing).0 in
    let range : IsDiskHome search.home = misses.searches.looked.in_range in
    let is_live : scion_in start.began.scions scion ≡ Some (record { home = search.home; address = target }) =
    subst (λ (b : Began). scion_in b.scions scion ≡ Some (record { home = search.home; address = target })) stood_.began
    scion_live in (
      misses.searches.looked,
      record {
        named = scion_named kept.maps now kept.holds.formed scion search.home target is_live;
        same = λ told. scion_same kept.maps now kept.holds.formed kept.history (kept.holds.tells told) scion search.home
            target range is_live;
      },
    )) (ap (λ (doing : Option Doing). look_of (staged doing)) missed) (ap is_reading missed) (λ n w inside reaches. (
      (refl, inside),
      λ other k t also also_live there.
          let both : Some (Missed search) ≡ Some (Missed other) = sym missed ∙ also in
          let at_search : search ≡ other = cc in
          let is_t : target ≡ t = omega arith in
          subst (λ (s : Search). Reaches me.0 w (Some (Cleared s.place (Disk s.home) t))) at_search
          (subst (λ (u : ℕ). Reaches me.0 w (Some (Cleared search.place (Disk search.home) u))) is_t reaches),
    ))
