-- What is known of a heap before a Move collection decides.
use Rattle.std.proofs.Common.{◌≡◌, inl, inr, ℕ, ◌+◌, ◌*◌, ◌≤◌, List, refl, sym, ◌∙◌, ap, subst}
use Rattle.std.proofs.Common.{arith}
use Rattle.std.specs.Prelude.{Some}
use Rattle.std.proofs.lemmas.Bool.{cases_eq}
use Rattle.melt_word.specs.Words.{home_word}
use Rattle.melt_forward.specs.Forwarding.{forward_word}
use Rattle.melt_scion.specs.State.{Scion, State, Forwards, Reached, at_scion}
use Rattle.melt_scion.specs.Placed.{Maps, Formed}
use Rattle.melt_scion.specs.Heaps.{OnDisk, state_of, IsSettled}
use Rattle.melt_scion.specs.declared.registers.Registers.{Registers}
use Rattle.melt_scion.specs.declared.heap.Heap.{Heap}
use Rattle.melt_scion.proofs.Geometry.{one_header}
use Rattle.melt_scion.proofs.NobodyLeaves.{parts_of_word}
use Rattle.melt_scion.proofs.Reaching.{reached_named}
use Rattle.melt_copy.specs.declared.live.LiveSet.{LiveSet}
use Rattle.melt_copy.specs.Reaching.{IsLiveSet}
use Rattle.melt_copy.specs.Moving.{words_in}
use Rattle.melt_move.specs.declared.choice.Choice.{Choice}
use Rattle.melt_move.specs.declared.homes.NewHomes.{NewHomes}
use Rattle.melt_move.specs.Plans.{IsSeen, IsChoice, GivesNew, OldHome, HasOldHome, ScionIs, IsDecision}

module _ (maps : Maps) (s : State) (formed : Formed maps s) (settled : (p : ℕ) → s.forward p ≡ 0) where
  -- no forwarding word sends a home
  not_sent : {home address : ℕ} → Forwards s home address → ⊥
  not_sent {home} {address} is =
      let word : s.forward is.place ≡ forward_word home address = is.sends.is in
      omega (arith, word, settled is.place, is.sends.home_in_range.not_null)

  -- so an object that is reached has no home, or one with a live scion
  pub old_home_of : (a : ℕ) → Reached s a → HasOldHome s a
  old_home_of a reached =
      let named = reached_named maps s a formed reached in
      let object = formed.words.objects a named.0 named.1 in
      elim (formed.words.home_words a named.0 object.0 named.1 object.1.starts) [
        | inl none ↦ inl none
        | inr has ↦ elim (cases_eq has.1 0) [
          | inl nought ↦ absurd (not_sent (has.2.forwarded.0 nought))
          | inr some ↦ inr (
            has.0,
            has.1,
            record {
              in_range = has.2.in_range;
              some = omega (arith, some);
              is = has.2.is;
              live = has.2.live some;
              within = λ header starts. subst (λ h. has.0 + Rattle.melt_word.specs.Words.cost_of h.shape ≤ s.base.end)
                  (one_header s a object.0 header object.1.starts starts) has.2.within;
            },
          )
        ]
      ]

  -- and each live scion is one of these
  pub scion_is : (k : ℕ) (x : Scion) → s.base.scion k ≡ Some x → ScionIs s k x
  scion_is k x live = record {
    reached = at_scion k x live;
    home = elim (old_home_of x.address (at_scion k x live)) [
      | inl none ↦
          let stands = formed.words.scions k x live in
          let word : s.word (x.address + 1) ≡ 4294967296 * x.home + 4 * k = stands.home_word in
          absurd (omega (arith, none, word, stands.first))
      | inr old ↦
          let stands = formed.words.scions k x live in
          let mine = parts_of_word (s.word (x.address + 1)) x.home k stands.small stands.home_word in
          let its = parts_of_word (s.word (x.address + 1)) old.0 old.1 old.2.in_range.scion old.2.is in
          subst (λ (home : ℕ). OldHome s x.address home k) (sym its.0 ∙ mine.0)
          (subst (λ (scion : ℕ). OldHome s x.address old.0 scion) (sym its.1 ∙ mine.1) old.2)
    ];
  }

-- the words of a space are seen where all that can be reached was found
pub seen_live : (heap : Heap) (held : List Registers) (disk : OnDisk) (live : LiveSet)
    → IsLiveSet (state_of heap held disk) live → IsSeen heap.space (state_of heap held disk)
seen_live heap held disk live is = record { whole = is.whole; word = λ k. refl; size = refl; free = refl }

pub is_decision : {maps : Maps} (heap : Heap) (held : List Registers) (disk : OnDisk) {live : LiveSet} {choice : Choice}
    {homes : NewHomes} → IsSettled heap → Formed maps (state_of heap held disk)
    → IsLiveSet (state_of heap held disk) live → IsChoice (state_of heap held disk) live choice
    → GivesNew (state_of heap held disk) homes → homes.first ≡ disk.end
    → IsDecision heap.space (state_of heap held disk)
    (record { choice = choice; homes = homes; held_count = live.held_count; held_words = live.held_words })
is_decision {maps} heap held disk {live} {choice} {homes} settled formed is chosen gives first = record {
  seen = seen_live heap held disk live is;
  live = live;
  held_count = refl;
  held_words = is.held_words ∙ ap words_in (sym chosen.first);
  choice = chosen;
  homes = gives;
  first = first;
  old_homes = old_home_of maps (state_of heap held disk) formed settled;
  scions = scion_is maps (state_of heap held disk) formed settled;
  first_end = formed.words.first_end;
}
