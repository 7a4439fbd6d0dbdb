-- A forwarded object gets a scion: the words stay well formed.
use Rattle.std.proofs.Common.{◌≡◌, ◌≢◌, ℕ, ◌+◌, ◌*◌, ◌<◌, ◌≤◌, sym, ◌∙◌, ap, subst, arith, inl, inr}
use Rattle.std.specs.Prelude.{None, Some}
use Rattle.std.proofs.lemmas.Bool.{cases_eq}
use Rattle.std.proofs.lemmas.Option.{same_Some}
use Rattle.melt_word.specs.Words.{cost_of}
use Rattle.melt_word.specs.declared.header.Header.{Header}
use Rattle.melt_forward.specs.Forwarding.{Sends}
use Rattle.melt_forward.proofs.Pairs.{one_address, forward_word-filled}
use Rattle.melt_scion.specs.State.{Scion, State, HeaderAt, Forwards}
use Rattle.melt_scion.specs.Placed.{Maps, IsHomeWord, ScionStands, ForwardStands, ForwardMayStand}
use Rattle.melt_scion.specs.Placed.{FormedWords, Formed}
use Rattle.melt_scion.specs.Settles.{SettlesOne}
use Rattle.melt_scion.proofs.Parts.{home_part, parts_differ}
use Rattle.melt_scion.proofs.SameObjects.{SameObjects, NamesMatch, header_was, words_on, registers_on}
use Rattle.melt_scion.proofs.SameObjects.{forward_within, home_word_on, scion_on, forward_on}
use Rattle.melt_scion.proofs.Forwarded.{forward_stands, no_scion_there}

module _ (maps : Maps) (s t : State) (place home address scion : ℕ)
    (settles : SettlesOne s t place home address scion) (formed : FormedWords maps s) where
  -- the object was forwarded
  pub was_forwarded : Forwards s home address
  was_forwarded = record { place = place; within = settles.within; sends = settles.sends }

  -- so its home word had the scion 0
  abbrev pub object_stood : ForwardStands maps s home address
  object_stood = forward_stands maps s home address formed was_forwarded

  -- the home word of another object stays
  pub home_word_same : (a : ℕ) → a ≢ address → t.word (a + 1) ≡ s.word (a + 1)
  home_word_same a other = settles.other_words (a + 1) (omega arith)

  -- of objects only the one home word changes
  pub settle_same : SameObjects maps s t
  settle_same = record {
    sizes = settles.sizes;
    homes = settles.same_homes;
    free = settles.free;
    part = λ a n p x header part other.
        let named = object_stood.named in
        let object = formed.objects address named.0 named.1 in
        settles.other_words x
        (parts_differ maps s formed (home_part maps s address named.0 object.0 named.1 object.1.starts) part other);
    global = settles.global;
  }

  within : (p : ℕ) → p < t.base.forwards → p < s.base.forwards
  within = forward_within maps s t formed settle_same

  -- a forwarding word that sends a home then is another, and did so before
  sent_before : (p k a : ℕ) → Sends (t.forward p) k a → (p ≢ place) × Sends (s.forward p) k a
  sent_before p k a sends =
      let other : p ≢ place = λ same.
      forward_word-filled k a sends.home_in_range (sym sends.is ∙ (ap t.forward same ∙ settles.empty)) in
      (other, subst (λ w. Sends w k a) (settles.other_forwards p other) sends)

  -- so what is forwarded then was
  pub forwarded_before : (k a : ℕ) → Forwards t k a → Forwards s k a
  forwarded_before k a is = record {
    place = is.place;
    within = within is.place is.within;
    sends = (sent_before is.place k a is.sends).1;
  }

  -- no forwarding word sends the home then
  home_unsent : (a : ℕ) → Forwards t home a → ⊥
  home_unsent a is =
      let was = sent_before is.place home a is.sends in
      was.0
      (formed.one_forward is.place place home a address (within is.place is.within) settles.within was.1
      settles.sends)

  -- the home of another object is forwarded on
  pub forwarded_on : (k a : ℕ) → a ≢ address → Forwards s k a → Forwards t k a
  forwarded_on k a other is =
      let differ : is.place ≢ place = λ same.
      other (one_address (s.forward is.place) k a home address is.sends
      (subst (λ (p : ℕ). Sends (s.forward p) home address) (sym same) settles.sends)) in
      record {
        place = is.place;
        within = let count : t.base.forwards ≡ s.base.forwards = settles.sizes.forwards in
            let below : is.place < s.base.forwards = is.within in
            omega arith;
        sends = subst (λ w. Sends w k a) (sym (settles.other_forwards is.place differ)) is.sends;
      }

  -- a scion that was live is another
  pub other_scion : (k : ℕ) (x : Scion) → s.base.scion k ≡ Some x → k ≢ scion
  other_scion k x live same =
      let dead : s.base.scion k ≡ None = ap s.base.scion same ∙ settles.not_live in
      let both : None ≡ Some x = sym dead ∙ live in
      absurd (cc)

  -- so it stays live
  pub live_on : (k : ℕ) (x : Scion) → s.base.scion k ≡ Some x → t.base.scion k ≡ Some x
  live_on k x live = settles.other_scions k (other_scion k x live) ∙ live

  -- another object keeps its home
  other_home_word : (a cost : ℕ) → a ≢ address → IsHomeWord s a cost → IsHomeWord t a cost
  other_home_word a cost other word =
      home_word_on maps s t formed settle_same a cost (home_word_same a other)
      (λ k. (forwarded_on k a other, forwarded_before k a)) live_on word

  -- the home of the object lies before the end, as it did
  home_within : (cost : ℕ) → IsHomeWord s address cost → home + cost ≤ t.base.end
  home_within cost word =
      let is : s.word (address + 1) ≡ 4294967296 * home + 4 * 0 = object_stood.home_word in
      let end : t.base.end ≡ s.base.end = settles.same_homes.end in
      let first : 0 < home = settles.sends.home_in_range.not_null in
      elim word [
        | inl none ↦ absurd (omega arith)
        | inr has ↦
            let also : s.word (address + 1) ≡ 4294967296 * has.0 + 4 * has.1 = has.2.is in
            let small : has.1 < 1073741824 = has.2.in_range.scion in
            let within : has.0 + cost ≤ s.base.end = has.2.within in
            omega arith
      ]

  -- it has its home by the scion then
  this_home_word : (cost : ℕ) → IsHomeWord s address cost → IsHomeWord t address cost
  this_home_word cost word =
      let first : 1 ≤ scion = settles.first in
      inr (
        home,
        scion,
        record {
          in_range = record { home = settles.sends.home_in_range; scion = settles.small };
          is = settles.home_word_is;
          within = home_within cost word;
          forwarded = (λ none. absurd (omega arith), λ is. absurd (home_unsent address is));
          live = λ some. settles.live;
        },
      )

  -- so all home words are well formed
  home_words_on : (a n : ℕ) (header : Header) → maps.address a ≡ Some n → HeaderAt t a header →
      IsHomeWord t a (cost_of header.shape)
  home_words_on a n header named starts =
      let was = formed.home_words a n header named (header_was maps s t formed settle_same a n header named starts) in
      elim (cases_eq a address) [
        | inl same ↦
            subst (λ (b : ℕ). IsHomeWord t b (cost_of header.shape)) (sym same)
            (this_home_word (cost_of header.shape)
            (subst (λ (b : ℕ). IsHomeWord s b (cost_of header.shape)) same was))
        | inr other ↦ other_home_word a (cost_of header.shape) other was
      ]

  -- a scion that was live is not that of the object
  scion_elsewhere : (k : ℕ) (x : Scion) → ScionStands maps s k x → x.address ≢ address
  scion_elsewhere k x is same =
      no_scion_there maps s home address formed was_forwarded x.home k is.first is.small
      (ap (λ (a : ℕ). s.word (a + 1)) (sym same) ∙ is.home_word)

  -- a scion that is live is this one, or was live
  pub live_before : (k : ℕ) (x : Scion) → k ≢ scion → t.base.scion k ≡ Some x → s.base.scion k ≡ Some x
  live_before k x other live = sym (settles.other_scions k other) ∙ live

  -- and this one names the object
  pub this_scion : (k : ℕ) (x : Scion) → k ≡ scion → t.base.scion k ≡ Some x →
      record { home = home; address = address } ≡ x
  this_scion k x same live =
      same_Some (record { home = home; address = address }) x (sym settles.live ∙ (ap t.base.scion (sym same) ∙ live))

  -- so all scions stand
  scions_on : (k : ℕ) (x : Scion) → t.base.scion k ≡ Some x → ScionStands maps t k x
  scions_on k x live = elim (cases_eq k scion) [
    | inl same ↦
        let stands : ScionStands maps t scion (record { home = home; address = address }) = record {
          first = settles.first;
          small = settles.small;
          named = object_stood.named;
          home_word = settles.home_word_is;
        } in
        subst (λ (j : ℕ). ScionStands maps t j x) (sym same)
        (subst (ScionStands maps t scion) (this_scion k x same live) stands)
    | inr other ↦
        let was = formed.scions k x (live_before k x other live) in
        scion_on maps s t formed settle_same k x (home_word_same x.address (scion_elsewhere k x was)) was
  ]

  -- another forwarding word names another object
  forward_elsewhere : (p k a : ℕ) → p < s.base.forwards → p ≢ place → Sends (s.forward p) k a →
      ForwardStands maps s k a → a ≢ address
  forward_elsewhere p k a below other sends stands same =
      let word : s.word (address + 1) ≡ 4294967296 * k + 4 * 0 =
      ap (λ (b : ℕ). s.word (b + 1)) (sym same) ∙ stands.home_word in
      let also : s.word (address + 1) ≡ 4294967296 * home + 4 * 0 = object_stood.home_word in
      let one : k ≡ home = omega arith in
      other (formed.one_forward p place home a address below settles.within
      (subst (λ (j : ℕ). Sends (s.forward p) j a) one sends) settles.sends)

  -- and stands as it stood
  other_forward : (p : ℕ) → p < s.base.forwards → p ≢ place → ForwardMayStand maps t (s.forward p)
  other_forward p below other =
      forward_on maps s t formed settle_same (s.forward p)
      (λ k a sends stands. home_word_same a (forward_elsewhere p k a below other sends stands))
      (formed.forwards p below)

  -- home words, scions and forwarding words name each other
  names_match : NamesMatch maps t
  names_match = record {
    home_words = home_words_on;
    scions = scions_on;
    forwards = λ p below. elim (cases_eq p place) [
      | inl same ↦ inl (ap t.forward same ∙ settles.empty)
      | inr other ↦
          let was = within p below in
          subst (ForwardMayStand maps t) (sym (settles.other_forwards p other))
          (other_forward p was other)
    ];
    one_forward = λ p q k a b below also first second.
        formed.one_forward p q k a b (within p below) (within q also) (sent_before p k a first).1
        (sent_before q k b second).1;
  }

  -- so the words stay well formed
  pub settle_formed : FormedWords maps t
  settle_formed = words_on maps s t formed settle_same names_match

module _ (maps : Maps) (s t : State) (place home address scion : ℕ)
    (settles : SettlesOne s t place home address scion) where
  -- and with them the registers
  pub settle_registers : ((u r : ℕ) → t.register u r ≡ s.register u r) → Formed maps s → Formed maps t
  settle_registers stay formed = record {
    words = settle_formed maps s t place home address scion settles formed.words;
    registers = registers_on maps s t formed.words
        (settle_same maps s t place home address scion settles formed.words) stay formed.registers;
  }
