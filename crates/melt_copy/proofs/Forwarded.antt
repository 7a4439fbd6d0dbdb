-- What stands in the place of a header tells where the object went, or that it was not found yet.
use Rattle.std.proofs.Common.{◌≡◌, ◌≢◌, ℕ, ◌+◌, sym, ap, ◌∙◌, subst, arith, inl, inr}
use Rattle.std.specs.Prelude.{Option, None, Some}
use Rattle.std.proofs.lemmas.Bool.{cases_eq}
use Rattle.std.proofs.lemmas.Option.{same_Some}
use Rattle.melt_word.specs.Words.{IsAddress, StandsAsHeader, IsHeader, IsRef, header_word, ref_word}
use Rattle.melt_word.specs.declared.reference.Ref.{Ref}
use Rattle.melt_word.specs.declared.reference.Ref.TheVariants.{Clean}
use Rattle.melt_word.specs.declared.header.Header.{Header}
use Rattle.melt_space.specs.Space.{SpaceWords, word_at}
use Rattle.melt_scion.specs.State.{address_in}
use Rattle.melt_copy.specs.declared.to_space.ToSpace.{ToSpace}
use Rattle.melt_copy.specs.Evacuating.{Collection, Evacuates, EvacuatesAt, EvacuatesFor, place_of}
use Rattle.melt_copy.proofs.Evacuated.{used_below, words_fit}
use Rattle.melt_copy.proofs.Places.{place_below}

-- the place of an object that was found is an address
pub place_address : {c : Collection} {space : SpaceWords} (to : ToSpace) {done : ℕ} (a : ℕ) → Evacuates c space to done
    → place_of to.moves a ≢ 0 → IsAddress (place_of to.moves a)
place_address {c} to a it known =
    let move = it.holds.only a known in
    let is : place_of to.moves a ≡ move.1.to =
    ap (place_of to.moves) (sym move.3) ∙ it.holds.found move.0 move.1 move.2 in
    let place = place_below c.state (place_of to.moves) to.moves (to.next + 1) move.0 move.1 it.holds
    move.2 in
    record {
      not_null = omega (arith, is, place.0);
      small = omega (arith, is, place.1, words_fit to it, (used_below it).0);
    }

module _ {c : Collection} {space : SpaceWords} {to : ToSpace} {done address : ℕ}
    (at : EvacuatesAt c space to done address) {word : ℕ} (is : word ≡ word_at space address) where
  -- the header of an object that was not found
  header_stays : place_of to.moves address ≡ 0 → (h : Header) × IsHeader h × (word ≡ header_word h)
  header_stays none =
      let object = at.evacuates.whole.objects address at.reached in (
        object.0,
        object.1.starts.in_range,
        is ∙ (at.evacuates.kept address none ∙ object.1.starts.word),
      )

  copy_there : place_of to.moves address ≢ 0 → word ≡ ref_word (Clean (place_of to.moves address))
  copy_there known = is ∙ at.evacuates.forwarded address known

  pub forwarding_word : StandsAsHeader word
  forwarding_word = elim (cases_eq (place_of to.moves address) 0) [
    | inl none ↦ inl (header_stays none)
    | inr known ↦ inr (place_of to.moves address, place_address to address at.evacuates known, copy_there known)
  ]

  module _ {told : Option ℕ} (stays : (h : Header) → IsHeader h → word ≡ header_word h → told ≡ None)
      (moves : (a : ℕ) → IsAddress a → word ≡ ref_word (Clean a) → told ≡ Some a) where
    pub not_found : told ≡ None → place_of to.moves address ≡ 0
    not_found nothing = elim (cases_eq (place_of to.moves address) 0) [
      | inl none ↦ none
      | inr known ↦
          let some : told ≡ Some (place_of to.moves address) =
          moves (place_of to.moves address) (place_address to address at.evacuates known) (copy_there known) in
          absurd (cc)
    ]

    pub found_there : {place : ℕ} → told ≡ Some place → (place_of to.moves address ≡ place) × IsAddress place
    found_there {place} there = elim (cases_eq (place_of to.moves address) 0) [
      | inl none ↦
          let header = header_stays none in
          let nothing : told ≡ None = stays header.0 header.1 header.2 in
          absurd (cc)
      | inr known ↦
          let address_is = place_address to address at.evacuates known in
          let same : place_of to.moves address ≡ place =
          same_Some _ _ (sym (moves (place_of to.moves address) address_is (copy_there known)) ∙ there) in
          (same, subst IsAddress same address_is)
    ]

-- the object to which a word refers can be found
pub referred_at : {c : Collection} {space : SpaceWords} {to : ToSpace} {done word : ℕ} {address : ℕ} (r : Ref) → IsRef r
    → word ≡ ref_word r → address_in r ≡ Some address → EvacuatesFor c space to done word
    → EvacuatesAt c space to done address
referred_at {address} r in_range is at for = record {
  evacuates = for.evacuates;
  reached = for.reached address (record { reference = r; in_range = in_range; is = is; at = at });
}
