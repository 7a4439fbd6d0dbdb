-- While objects are found, those that were found before keep their new addresses.
use Rattle.std.proofs.Common.{◌≡◌, ◌≢◌, ℕ, eqb, List, [], ◌∷◌, ◌++◌, refl, sym, ◌∙◌, ap, arith}
use Rattle.std.proofs.Common.{append_assoc, inl, inr}
use Rattle.std.specs.Prelude.{slice_get, Some}
use Rattle.std.proofs.lemmas.Bool.{cases_eq, eq-eqb, ne_eqb, cond-true, cond-false}
use Rattle.std.proofs.lemmas.List.{append-nil}
use Rattle.std.proofs.lemmas.Option.{slice_get_within}
use Rattle.melt_model.proofs.Histories.{slice_get-append_left}
use Rattle.melt_model.specs.declared.reports.Phase.{Phase}
use Rattle.melt_word.specs.Words.{ref_word}
use Rattle.melt_word.specs.declared.reference.Ref.{Ref}
use Rattle.melt_word.specs.declared.reference.Ref.TheVariants.{Null, Clean, Stale, Disk}
use Rattle.melt_space.specs.Space.{SpaceWords}
use Rattle.melt_scion.specs.Moves.{kept_tag}
use Rattle.melt_copy.specs.declared.forwarding.Relocation.{Relocation}
use Rattle.melt_copy.specs.declared.to_space.ToSpace.{ToSpace}
use Rattle.melt_copy.specs.Evacuating.{Collection, Evacuates, FindsMore, place_of}
use Rattle.melt_copy.specs.Moving.{WordMoves, IsFound, moved}

pub more-start : (moves : List Relocation) → FindsMore moves moves
more-start moves = record { rest = []; is = sym (append-nil moves) }

pub more-then : (a b c : List Relocation) → FindsMore a b → FindsMore b c → FindsMore a c
more-then a b c first then_ = record {
  rest = first.rest ++ then_.rest;
  is = then_.is ∙ (ap (λ (ms : List Relocation). ms ++ then_.rest) first.is ∙ append_assoc a first.rest then_.rest);
}

-- a move that is there stays where it is
pub stays_at : (old new : List Relocation) (k : ℕ) (m : Relocation) → FindsMore old new → slice_get old k ≡ Some m
    → slice_get new k ≡ Some m
stays_at old new k m more at = ap (λ (ms : List Relocation). slice_get ms k) more.is
    ∙ (slice_get-append_left old more.rest k (slice_get_within old k m at) ∙ at)

-- further moves change no place that is there
place_append : (old rest : List Relocation) (a : ℕ) → place_of old a ≢ 0 → place_of (old ++ rest) a ≡ place_of old a
place_append [] rest a known = absurd (known refl)
place_append (m ∷ old) rest a known =
    elim (cases_eq m.from a) [
      | inl same ↦ cond-true (eqb m.from a) m.to (place_of (old ++ rest) a) (eq-eqb m.from a same)
          ∙ sym (cond-true (eqb m.from a) m.to (place_of old a) (eq-eqb m.from a same))
      | inr other ↦
          let before : place_of (m ∷ old) a ≡ place_of old a =
          cond-false (eqb m.from a) m.to (place_of old a) (ne_eqb m.from a other) in
          cond-false (eqb m.from a) m.to (place_of (old ++ rest) a) (ne_eqb m.from a other)
          ∙ (place_append old rest a (λ (nought : place_of old a ≡ 0). known (before ∙ nought)) ∙ sym before)
    ]

pub place_more : (old new : List Relocation) (a : ℕ) → FindsMore old new → place_of old a ≢ 0
    → place_of new a ≡ place_of old a
place_more old new a more known =
    ap (λ (ms : List Relocation). place_of ms a) more.is ∙ place_append old more.rest a known

pub still_placed : (old new : List Relocation) (a : ℕ) → FindsMore old new → place_of old a ≢ 0 → place_of new a ≢ 0
still_placed old new a more known =
    λ (nought : place_of new a ≡ 0). known (sym (place_more old new a more known) ∙ nought)

same_moved : (phase : Phase) (old new : List Relocation) (r : Ref) → FindsMore old new → IsFound (place_of old) r
    → moved phase (place_of new) r ≡ moved phase (place_of old) r
same_moved phase old new Null more found = refl
same_moved phase old new (Clean a) more found = ap (kept_tag phase) (place_more old new a more found)
same_moved phase old new (Stale a) more found = ap Stale (place_more old new a more found)
same_moved phase old new (Disk home) more found = refl

still_referred : (old new : List Relocation) (r : Ref) → FindsMore old new → IsFound (place_of old) r
    → IsFound (place_of new) r
still_referred old new Null more found = tt
still_referred old new (Clean a) more found = still_placed old new a more found
still_referred old new (Stale a) more found = still_placed old new a more found
still_referred old new (Disk home) more found = tt

-- a word that moved is as further moves leave it, too
pub word_more : {phase : Phase} (old new : List Relocation) (was is : ℕ) → FindsMore old new
    → WordMoves phase (place_of old) was is → WordMoves phase (place_of new) was is
word_more {phase} old new was is more moves = record {
  reference = moves.reference;
  in_range = moves.in_range;
  was = moves.was;
  found = still_referred old new moves.reference more moves.found;
  is = moves.is ∙ ap ref_word (sym (same_moved phase old new moves.reference more moves.found));
}

-- no object is at address 0, so none moved from there
pub nothing_at_0 : {c : Collection} {space : SpaceWords} {to : ToSpace} {done : ℕ} → Evacuates c space to done
    → place_of to.moves 0 ≡ 0
nothing_at_0 {c} {to} evacuates =
    elim (cases_eq (place_of to.moves 0) 0) [
      | inl none ↦ none
      | inr known ↦
          let move = evacuates.holds.only 0 known in
          let relocation = evacuates.holds.whole move.0 move.1 move.2 in
          let object = evacuates.whole.objects move.1.from relocation.reached in
          absurd (omega (arith, object.1.first, move.3))
    ]
