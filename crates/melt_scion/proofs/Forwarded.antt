-- The home of a forwarded object: what the home word there says, and that it is neither free nor that of a scion.
use Rattle.std.proofs.Common.{◌≡◌, ◌≢◌, ℕ, ◌+◌, ◌*◌, ◌<◌, ◌≤◌, sym, ◌∙◌, ap, subst, arith, inl, inr, List}
use Rattle.std.specs.Prelude.{Some, Contains}
use Rattle.melt_model.specs.declared.history.Entry.{Entry}
use Rattle.melt_word.specs.Words.{IsDiskHome, IsHomeAndScion, home_word}
use Rattle.melt_forward.proofs.Pairs.{one_pair, forward_word-filled}
use Rattle.melt_scion.specs.State.{Scion, State, Forwards}
use Rattle.melt_scion.specs.Placed.{Maps, ForwardStands, FormedWords, Tells}

module _ (maps : Maps) (s : State) (home address : ℕ) (formed : FormedWords maps s)
    (forwards : Forwards s home address) where
  -- what the forwarding word says of home and address
  pub forward_stands : ForwardStands maps s home address
  forward_stands = elim (formed.forwards forwards.place forwards.within) [
    | inl none ↦
        absurd (forward_word-filled home address forwards.sends.home_in_range (sym forwards.sends.is ∙ none))
    | inr is ↦
        let same = one_pair (s.forward forwards.place) is.0 is.1 home address is.2 forwards.sends in
        subst (λ (a : ℕ). ForwardStands maps s home a) same.1
        (subst (λ (k : ℕ). ForwardStands maps s k is.1) same.0 is.3)
  ]

  -- a home word with a scion is not there
  pub no_scion_there : (k scion : ℕ) → 1 ≤ scion → scion < 1073741824 →
      s.word (address + 1) ≢ home_word (Some (record { home = k; scion = scion }))
  no_scion_there k scion first small is =
      let word : s.word (address + 1) ≡ 4294967296 * home + 4 * 0 = forward_stands.home_word in
      omega arith

  module _ (h : List Entry) (tells : Tells h maps s) where
    -- the home has the number of the object at the address
    pub forwarded_object : maps.home home ≡ Some forward_stands.named.0
    forwarded_object =
        tells.named_homes address forward_stands.named.0 home 0 forward_stands.named.1
        (record { home = forwards.sends.home_in_range; scion = omega arith }) forward_stands.home_word

    pub forwarded_named : (n : ℕ) → maps.home home ≡ Some n → maps.address address ≡ Some n
    forwarded_named n has = forward_stands.named.1 ∙ (sym forwarded_object ∙ has)

    -- it is not free
    pub forwarded_not_free : (k : ℕ) → Contains s.base.free_homes k → k ≢ home
    forwarded_not_free k free same =
        ((tells.taken home).0 (forward_stands.named.0, forwarded_object)).not_free
        (subst (λ (j : ℕ). Contains s.base.free_homes j) same free)

    -- and no live scion names it
    pub forwarded_no_scion : (k : ℕ) (x : Scion) → s.base.scion k ≡ Some x → x.home ≢ home
    forwarded_no_scion k x live same =
        let stands = formed.scions k x live in
        let range : IsHomeAndScion (record { home = x.home; scion = k }) =
        record { home = subst IsDiskHome (sym same) forwards.sends.home_in_range; scion = stands.small } in
        let has = tells.named_homes x.address stands.named.0 x.home k stands.named.1 range stands.home_word in
        let at : x.address ≡ address =
        tells.one_address x.address address stands.named.0 stands.named.1
        (forwarded_named stands.named.0 (ap maps.home (sym same) ∙ has)) in
        no_scion_there x.home k stands.first stands.small (ap (λ (a : ℕ). s.word (a + 1)) (sym at) ∙ stands.home_word)
