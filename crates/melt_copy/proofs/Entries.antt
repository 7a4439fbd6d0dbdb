-- The table of new addresses: what its entries tell, of which there is one for each two addresses.
use Rattle.std.proofs.Common.{◌≡◌, ◌≢◌, ℕ, ◌+◌, ◌*◌, ◌/◌, ◌%◌, ◌<◌, ◌≤◌, List, length, replicate, sym, ap, ◌∙◌, arith}
use Rattle.std.proofs.Common.{eq-eqb, get_or-set_same, get_or-set_other, inl, inr}
use Rattle.std.proofs.lemmas.Bool.{cond-true, cond-false, ne_eqb}
use Rattle.std.proofs.lemmas.List.{get_or_past}
use Rattle.std.proofs.lemmas.Bool.Decides.{eqb_tells}
use Rattle.std.specs.Prelude.{slice_index, slice_set, ◌==◌}
use Rattle.melt_scion.proofs.Starting.{nothing_at}
use Rattle.melt_copy.specs.Tracking.{entry_of, target_of, looked_up}

-- the entry is for this address
target_here : (entry address : ℕ) → entry % 2 ≡ address % 2 → target_of entry address ≡ entry / 2
target_here entry address same =
    cond-true (entry % 2 == address % 2) (entry / 2) 0 (eq-eqb (entry % 2) (address % 2) same)

-- the entry is for the other address of the two
target_other : (entry address : ℕ) → entry % 2 ≢ address % 2 → target_of entry address ≡ 0
target_other entry address differ =
    cond-false (entry % 2 == address % 2) (entry / 2) 0 (ne_eqb (entry % 2) (address % 2) differ)

-- an entry tells its new address, or 0
target_small : (entry address : ℕ) → entry / 2 ≡ 0 → target_of entry address ≡ 0
target_small entry address none = elim (eqb_tells (entry % 2) (address % 2)) [
  | inl same ↦ target_here entry address same.1 ∙ none
  | inr differ ↦ target_other entry address differ.1
]

-- a table of zeros sends no address
pub nothing_looked_up : (count address : ℕ) → looked_up (replicate count 0) address ≡ 0
unfolding looked_up
nothing_looked_up count address =
    ap (λ (entry : ℕ). target_of entry address) (nothing_at count (address / 2)) ∙ target_small 0 address (omega arith)

-- no address after the table is sent
pub nothing_after : (entries : List ℕ) (address : ℕ) → length entries ≤ address / 2 → looked_up entries address ≡ 0
unfolding looked_up
nothing_after entries address after =
    ap (λ (entry : ℕ). target_of entry address) (get_or_past entries (address / 2) 0 after)
    ∙ target_small 0 address (omega arith)

-- an entry without a new address sends neither of its two
pub unknown_both : (entries : List ℕ) (address : ℕ) → slice_index entries (address / 2) / 2 ≡ 0
    → looked_up entries address ≡ 0
unfolding looked_up
unknown_both entries address none = target_small (slice_index entries (address / 2)) address none

-- An entry with a new address sends one of its two. So where the other is not sent, it is that of this address.
pub known_here : (entries : List ℕ) (address : ℕ)
    → ((a : ℕ) → a ≢ address → a / 2 ≡ address / 2 → looked_up entries a ≡ 0)
    → slice_index entries (address / 2) / 2 ≢ 0
    → looked_up entries address ≡ slice_index entries (address / 2) / 2
unfolding looked_up
known_here entries address alone known =
    let entry = slice_index entries (address / 2) in
    elim (eqb_tells (entry % 2) (address % 2)) [
      | inl same ↦ target_here entry address same.1
      | inr differ ↦
          let other : ℕ = 2 * (address / 2) + entry % 2 in
          let pair : other / 2 ≡ address / 2 = omega arith in
          let parity : entry % 2 ≡ other % 2 = omega arith in
          let apart : other ≢ address = λ (is : other ≡ address). differ.1 (parity ∙ ap (λ (n : ℕ). n % 2) is) in
          let there : looked_up entries other ≡ entry / 2 =
          ap (λ (n : ℕ). target_of (slice_index entries n) other) pair ∙ target_here entry other parity in
          absurd (known (sym there ∙ alone other apart pair))
    ]

-- what was written is told
pub written_here : (entries : List ℕ) (address to : ℕ) → address / 2 < length entries
    → looked_up (slice_set entries (address / 2) (entry_of address to)) address ≡ to
unfolding looked_up
written_here entries address to within =
    let parity : entry_of address to % 2 ≡ address % 2 = omega arith in
    let half : entry_of address to / 2 ≡ to = omega arith in
    ap (λ (entry : ℕ). target_of entry address)
    (get_or-set_same entries (address / 2) (entry_of address to) 0 within)
    ∙ (target_here (entry_of address to) address parity ∙ half)

-- All other addresses are sent as before, if the other one of the two was not sent.
pub written_others : (entries : List ℕ) (address to a : ℕ) → address / 2 < length entries
    → ((b : ℕ) → b ≢ address → b / 2 ≡ address / 2 → looked_up entries b ≡ 0) → a ≢ address
    → looked_up (slice_set entries (address / 2) (entry_of address to)) a ≡ looked_up entries a
unfolding looked_up
written_others entries address to a within alone other = elim (eqb_tells (a / 2) (address / 2)) [
  | inl pair ↦
      let differ : entry_of address to % 2 ≢ a % 2 = omega (arith, pair.1, other) in
      ap (λ (n : ℕ). target_of (slice_index (slice_set entries (address / 2) (entry_of address to)) n) a) pair.1
      ∙ (ap (λ (entry : ℕ). target_of entry a)
      (get_or-set_same entries (address / 2) (entry_of address to) 0 within)
      ∙ (target_other (entry_of address to) a differ ∙ sym (alone a other pair.1)))
  | inr apart ↦
      ap (λ (entry : ℕ). target_of entry a)
      (get_or-set_other entries (address / 2) (a / 2) (entry_of address to) 0 apart.1)
]
