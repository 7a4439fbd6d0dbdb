-- An object comes back from disk: a copy of a Body becomes an object by one store to an empty forwarding word.
use Rattle.std.proofs.Common.{◌≡◌, ◌≢◌, ℕ, suc, ◌+◌, ◌*◌, ◌<◌, ◌≤◌, refl, sym, ◌∙◌, ap, subst, arith}
use Rattle.std.proofs.Common.{inl, inr, List}
use Rattle.std.proofs.lemmas.Bool.{cases_eq, cases_lt}
use Rattle.std.specs.Prelude.{Bool, true, false, ◌^◌, Some, slice_index}
use Rattle.melt_model.specs.History.{shape, last}
use Rattle.melt_model.specs.declared.history.Entry.{Entry}
use Rattle.melt_model.specs.declared.history.Value.TheVariants.{Num}
use Rattle.melt_model.specs.declared.history.Slot.TheVariants.{Field}
use Rattle.melt_word.specs.Words.{IsAddress, IsHomeAndScion, header_word, home_word, cost_of}
use Rattle.melt_word.specs.declared.header.Shape.{Shape}
use Rattle.melt_word.specs.declared.header.Header.{Header}
use Rattle.melt_word.specs.declared.reference.Ref.TheVariants.{Null, Disk}
use Rattle.melt_record.specs.declared.head.Head.{Head}
use Rattle.melt_record.specs.declared.head.Kind.TheVariants.{Body}
use Rattle.melt_record.specs.Records.{IsSlotWord}
use Rattle.melt_record.proofs.Heads.{same_head}
use Rattle.melt_forward.specs.Forwarding.{Sends, probe, forward_word}
use Rattle.melt_forward.proofs.Pairs.{one_pair, one_home, forward_word-filled}
use Rattle.melt_forward.proofs.Probing.{each_place_once, probe_within}
use Rattle.melt_scion.specs.State.{Base, State, IsFresh, Forwards, NoGaps, IsReserved}
use Rattle.melt_scion.specs.Placed.{Maps, IsReferenceWord, ForwardMayStand, HomeStands, IsBody, Stands}
use Rattle.melt_scion.specs.Placed.{FormedWords, Tells}
use Rattle.melt_scion.specs.Changes.{ForwardChanges, NameAppears}
use Rattle.melt_scion.specs.Commits.{Probed, HasCopy, MayCommit}
use Rattle.melt_scion.proofs.Geometry.{one_header}
use Rattle.melt_scion.proofs.Keeping.{KeepsObjects, ForwardMayStand_stays, Stands_stays}
use Rattle.melt_scion.proofs.Following.{same_history}
use Rattle.melt_scion.proofs.Entering.{ObjectAppears, NewWords, keeps_appears, Formed_enters}
use Rattle.melt_scion.proofs.EnteringTells.{Tells_enters}

-- where the search for a home read other homes alone, and then an empty word, no word sends it
pub none_sends : (s : State) (home tried : ℕ) → NoGaps s → Probed s home tried → tried < s.base.forwards
    → s.forward (probe home s.base.forwards tried) ≡ 0 → (a : ℕ) → Forwards s home a → ⊥
none_sends s home tried gaps probed within empty a is =
    let once = each_place_once home s.base.forwards is.place is.within in
    let k : ℕ = once.0 in
    let sends : Sends (s.forward (probe home s.base.forwards k)) home a =
    subst (λ (p : ℕ). Sends (s.forward p) home a) (sym once.1.here) is.sends in
    elim (cases_lt k tried) [
      | inl before ↦
          let other = probed.others k before in
          other.2 (one_home (s.forward (probe home s.base.forwards k)) other.0 other.1 home a other.3 sends)
      | inr after ↦ elim (cases_eq k tried) [
        | inl same ↦
            let filled : s.forward (probe home s.base.forwards k) ≡ forward_word home a = sends.is in
            forward_word-filled home a sends.home_in_range
            (sym filled ∙ (ap (λ (j : ℕ). s.forward (probe home s.base.forwards j)) same ∙ empty))
        | inr other ↦ gaps.filled home a k tried once.1.in_range sends (omega arith) empty
      ]
    ]

-- the first word of a copy is the header of an object without the stale bit
pub copy_header : (maps : Maps) (s : State) (address home : ℕ) (z : Shape) (rest : List ℕ)
    → HasCopy maps s address home z rest → s.word address ≡ header_word (record { shape = z; stale = false })
copy_header maps s address home z rest copy =
    ap s.word (let e : address ≡ address + 0 = omega arith in e) ∙ copy.are 0 (omega arith)

module _ (maps new : Maps) (s t : State) (home tried p n address : ℕ) (z : Shape) (rest : List ℕ)
    (formed : FormedWords maps s) (gaps : NoGaps s) (told : Bool)
    (may : MayCommit told maps s home tried p n address z rest)
    (changes : ForwardChanges s t p (forward_word home address)) (appears : NameAppears maps new address n) where
  empty_there : s.forward (probe home s.base.forwards tried) ≡ 0
  empty_there = ap s.forward (sym may.place) ∙ may.empty

  below : p < s.base.forwards
  below = subst (λ (q : ℕ). q < s.base.forwards) (sym may.place) (probe_within home s.base.forwards tried may.within)

  none_before : (a : ℕ) → Forwards s home a → ⊥
  none_before = none_sends s home tried gaps may.probed may.within empty_there

  same_count : t.base.forwards ≡ s.base.forwards
  same_count = ap (λ (b : Base). b.forwards) changes.base

  was_within : (q : ℕ) → q < t.base.forwards → q < s.base.forwards
  was_within q less = omega (arith, less, same_count)

  copy_small : IsAddress address
  copy_small = record {
    not_null = let first : 1 ≤ address = may.copy.owns.first in omega arith;
    small = let small : s.base.size < 2 ^ 30 = formed.small in
        let inside : address + cost_of z ≤ s.base.size + 1 = may.copy.owns.within in omega arith;
  }

  new_sends : Sends (t.forward p) home address
  new_sends = record { home_in_range = may.body.head.in_range; address_in_range = copy_small; is = changes.here }

  -- a word that sent a home is another one
  filled : (q k a : ℕ) → Sends (s.forward q) k a → q ≢ p
  filled q k a sends same =
      forward_word-filled k a sends.home_in_range (sym sends.is ∙ (ap s.forward same ∙ may.empty))

  sends_on : (q k a : ℕ) → q ≢ p → Sends (s.forward q) k a → Sends (t.forward q) k a
  sends_on q k a other sends = subst (λ (w : ℕ). Sends w k a) (sym (changes.others q other)) sends

  sent_before : (q k a : ℕ) → q ≢ p → Sends (t.forward q) k a → Sends (s.forward q) k a
  sent_before q k a other sends = subst (λ (w : ℕ). Sends w k a) (changes.others q other) sends

  -- what the new word sends
  new_pair : (q k a : ℕ) → q ≡ p → Sends (t.forward q) k a → (k ≡ home) × (a ≡ address)
  new_pair q k a same sends =
      one_pair (t.forward p) k a home address (subst (λ (j : ℕ). Sends (t.forward j) k a) same sends) new_sends

  forwards_on : (k a : ℕ) → Forwards s k a → Forwards t k a
  forwards_on k a is = record {
    place = is.place;
    within = omega (arith, is.within, same_count);
    sends = sends_on is.place k a (filled is.place k a is.sends) is.sends;
  }

  forwards_back : (k a : ℕ) → a ≢ address → Forwards t k a → Forwards s k a
  forwards_back k a other is = record {
    place = is.place;
    within = was_within is.place is.within;
    sends = sent_before is.place k a (λ same. other (new_pair is.place k a same is.sends).1) is.sends;
  }

  forwards_here : Forwards t home address
  forwards_here = record { place = p; within = omega (arith, below, same_count); sends = new_sends }

  -- no object was at the address
  not_there : (a m : ℕ) → maps.address a ≡ Some m → a ≢ address
  not_there a m named same =
      let object = formed.objects a m named in
      (may.copy.owns.outside a m object.0 named object.1.starts).differ (omega arith) (omega arith) same

  header_there : t.word address ≡ header_word (record { shape = z; stale = false })
  header_there = changes.word_stays address ∙ copy_header maps s address home z rest may.copy

  pub object_appears : ObjectAppears maps new s t address n z
  object_appears = record {
    owns = may.copy.owns;
    named = appears;
    base = changes.base;
    free = let e : t.free ≡ s.free = changes.free in omega arith;
    small = may.body.head.small;
    header = header_there;
    others = λ k outside. changes.word_stays k;
    global = changes.global;
    forwards = λ k a m named. (forwards_on k a, forwards_back k a (not_there a m named));
  }

  keeps : KeepsObjects maps new s t
  keeps = keeps_appears maps new s t address n z formed object_appears

  rest_there : (i : ℕ) → 2 + i < cost_of z → t.word (address + 2 + i) ≡ slice_index rest i
  rest_there i less =
      changes.word_stays (address + 2 + i)
      ∙ (ap s.word (let e : address + 2 + i ≡ address + suc (suc i) = omega arith in e) ∙ may.copy.are (suc (suc i))
      (omega arith))

  home_there : t.word (address + 1) ≡ home_word (Some (record { home = home; scion = 0 }))
  home_there = changes.word_stays (address + 1) ∙ may.copy.are 1 (omega arith)

  home_range : IsHomeAndScion (record { home = home; scion = 0 })
  home_range = record { home = may.body.head.in_range; scion = omega arith }

  slot_may : (w : ℕ) → IsSlotWord s.base.end w → IsReferenceWord new t w
  slot_may w (inl nothing) = record { reference = Null; in_range = tt; is = nothing; stands = tt }
  slot_may w (inr slot) =
      let small : s.base.end ≤ 2 ^ 32 = formed.small_end in
      let less : slot.0 < s.base.end = slot.2 in
      record {
        reference = Disk slot.0;
        in_range = record { not_null = slot.1; small = omega arith };
        is = slot.3;
        stands = (slot.1, subst (λ (b : Base). slot.0 < b.end) (sym changes.base) less);
      }

  fresh_here : IsFresh t address
  fresh_here header starts =
      ap (λ (x : Header). x.stale)
      (one_header t address header (record { shape = z; stale = false }) starts
      (record { in_range = may.body.head.small; word = header_there }))

  not_home_before : (q k a : ℕ) → q < s.base.forwards → q ≢ p → Sends (t.forward q) k a → k ≡ home → ⊥
  not_home_before q k a less other sends same =
      none_before a (record {
        place = q;
        within = less;
        sends = subst (λ (j : ℕ). Sends (s.forward q) j a) same (sent_before q k a other sends);
      })

  one_forward : (q r k a b : ℕ) → q < t.base.forwards → r < t.base.forwards → Sends (t.forward q) k a
      → Sends (t.forward r) k b → q ≡ r
  one_forward q r k a b q_less r_less first second = elim (cases_eq q p) [
    | inl here ↦ elim (cases_eq r p) [
      | inl also ↦ here ∙ sym also
      | inr other ↦ absurd (not_home_before r k b (was_within r r_less) other second (new_pair q k a here first).0)
    ]
    | inr other ↦ elim (cases_eq r p) [
      | inl here ↦ absurd (not_home_before q k a (was_within q q_less) other first (new_pair r k b here second).0)
      | inr also ↦
          formed.one_forward q r k a b (was_within q q_less) (was_within r r_less) (sent_before q k a other first)
          (sent_before r k b also second)
    ]
  ]

  forward_may : (q : ℕ) → q < t.base.forwards → ForwardMayStand new t (t.forward q)
  forward_may q less = elim (cases_eq q p) [
    | inl here ↦ inr (
      home,
      address,
      subst (λ (j : ℕ). Sends (t.forward j) home address) (sym here) new_sends,
      record { named = (n, appears.here); home_word = home_there; fresh = fresh_here },
    )
    | inr other ↦
        ForwardMayStand_stays maps new s t keeps (t.forward q)
        (subst (ForwardMayStand maps s) (sym (changes.others q other)) (formed.forwards q (was_within q less)))
  ]

  new_words : NewWords new t address z
  new_words = record {
    slots = λ i less.
        subst (IsReferenceWord new t) (sym (rest_there i (omega arith)))
        (slot_may (slice_index rest i) (may.body.slots i less));
    home_word = inr (
      home,
      0,
      record {
        in_range = home_range;
        is = home_there;
        within = subst (λ (b : Base). home + cost_of z ≤ b.end) (sym changes.base) may.body.head.within;
        forwarded = (λ none. forwards_here, λ is. refl);
        live = λ some. absurd (some refl);
      },
    );
    forwards = forward_may;
    one_forward = one_forward;
  }

  -- the words with the object that came back are well formed
  pub Formed_committed : FormedWords new t
  Formed_committed = Formed_enters maps new s t address n z formed object_appears new_words

  -- a search for a home ends at the first empty forwarding word
  pub NoGaps_committed : NoGaps t
  NoGaps_committed = record {
    filled = λ k a j i less sends before gap.
        let at : (l : ℕ) → probe k t.base.forwards l ≡ probe k s.base.forwards l = λ l. ap (λ (c : ℕ). probe k c l)
        same_count in
        let sent : Sends (t.forward (probe k s.base.forwards j)) k a =
        subst (λ (q : ℕ). Sends (t.forward q) k a) (at j) sends in
        let gone : t.forward (probe k s.base.forwards i) ≡ 0 = ap t.forward (sym (at i)) ∙ gap in
        let less_s : j < s.base.forwards = omega (arith, less, same_count) in
        elim (cases_eq (probe k s.base.forwards i) p) [
          | inl here ↦ forward_word-filled home address may.body.head.in_range
              (sym changes.here ∙ (ap t.forward (sym here) ∙ gone))
          | inr other ↦
              let was_gap : s.forward (probe k s.base.forwards i) ≡ 0 =
              sym (changes.others (probe k s.base.forwards i) other) ∙ gone in
              elim (cases_eq (probe k s.base.forwards j) p) [
                | inl here ↦
                    let same : k ≡ home = (new_pair (probe k s.base.forwards j) k a here sent).0 in
                    let once = each_place_once home s.base.forwards p below in
                    let j_once : j ≡ once.0 =
                    once.1.once j less_s (ap (λ (h : ℕ). probe h s.base.forwards j) (sym same) ∙ here) in
                    let tried_once : tried ≡ once.0 = once.1.once tried may.within (sym may.place) in
                    let other_home = may.probed.others i (omega (arith, j_once, tried_once, before)) in
                    forward_word-filled other_home.0 other_home.1 other_home.3.home_in_range
                    (sym other_home.3.is
                    ∙ (ap (λ (h : ℕ). s.forward (probe h s.base.forwards i)) (sym same) ∙ was_gap))
                | inr also ↦
                    gaps.filled k a j i less_s (sent_before (probe k s.base.forwards j) k a also sent) before was_gap
              ]
        ];
  }

  module _ (h : List Entry) (tells : Tells h maps s) (is_told : told ≡ true) where
    number : maps.home home ≡ Some n
    number = may.number is_told

    stood : HomeStands h maps s home n
    stood = tells.homes home n number

    body_head : Head
    body_head = record { shape = z; kind = Body }

    -- the home was that of a Body of this shape
    was_body : IsBody h maps s.base home n z × (stood.reserved_for ≡ z)
    was_body = elim stood.is [
      | inl is ↦
          let same : stood.reserved_for ≡ z = ap (λ (x : Head). x.shape)
          (same_head is.head (may.body.head.on_disk is_told)).1 in
          (subst (λ (y : Shape). IsBody h maps s.base home n y) same is, same)
      | inr (inl is) ↦ absurd (let first : 0 < is.scion = is.head.second_word.0.not_null in
          let some : s.base.image (home + 1) ≡ is.scion = is.head.second_word.1 in
          let none : s.base.image (home + 1) ≡ 0 = (may.body.head.on_disk is_told).second_word in
          omega arith)
      | inr (inr is) ↦ absurd (none_before is.address is.forwards)
    ]

    -- what the words tell with the object that came back
    pub Tells_committed : Tells h new t
    Tells_committed =
        let was : IsBody h maps s.base home n z = was_body.0 in
        let one : (k : ℕ) → new.home k ≡ Some n → k ≡ home =
        λ k has. tells.one_home k home n (sym (appears.home k) ∙ has) number in
        Tells_enters h h maps new s t address n z formed object_appears (same_history h) tells was.nowhere (record {
          shape_is = subst (λ (y : Shape). shape h n ≡ Some (record { refs = y.refs; nums = y.nums })) was_body.1
              stood.shape_is;
          slots = λ i less.
              subst (λ (w : ℕ). Stands new w (last h (Field n i)))
              (sym (rest_there i (omega arith) ∙ may.body.on_disk is_told i (omega arith)))
              (Stands_stays maps new s t keeps (s.base.image (home + 2 + i)) (last h (Field n i)) (was.slots i less));
          numbers = λ j less.
              ap Num (ap t.word (let e : address + 2 + z.refs + j ≡ address + 2 + (z.refs + j) = omega arith in e)
              ∙ (rest_there (z.refs + j) (omega arith) ∙ (may.body.on_disk is_told (z.refs + j) (omega arith)
              ∙ ap s.base.image (let e : home + 2 + (z.refs + j) ≡ home + 2 + z.refs + j = omega arith in e))))
              ∙ was.numbers j less;
          homes = λ k has. subst (λ (j : ℕ). HomeStands h new t j n) (sym (one k has)) (record {
            reserved_for = stood.reserved_for;
            reserved = subst (λ (b : Base). IsReserved b.homes home stood.reserved_for) (sym changes.base)
                stood.reserved;
            shape_is = stood.shape_is;
            is = inr (inr (record { address = address; forwards = forwards_here; named = appears.here }));
          });
          home_words = λ k has. (
            0,
            subst (λ (j : ℕ). t.word (address + 1) ≡ home_word (Some (record { home = j; scion = 0 })))
                (sym (one k has))
                home_there,
          );
          named_homes = λ k scion range is.
              let small : scion < 2 ^ 30 = range.scion in
              let e : 4294967296 * k + 4 * scion ≡ 4294967296 * home + 4 * 0 = sym is ∙ home_there in
              let same : k ≡ home = omega arith in
              appears.home k ∙ (ap maps.home same ∙ number);
        })
