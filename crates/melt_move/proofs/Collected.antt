-- A decision that was carried out is a Move collection.
use Rattle.std.proofs.Common.{◌≡◌, ◌≢◌, ℕ, ◌+◌, ◌<◌, ◌≤◌, List, length, refl, sym, ◌∙◌, subst, arith}
use Rattle.std.specs.Prelude.{Option}
use Rattle.melt_model.specs.declared.reports.Phase.TheVariants.{Move}
use Rattle.melt_model.specs.declared.reports.Journal.{Journal}
use Rattle.melt_scion.specs.State.{State}
use Rattle.melt_scion.specs.Placed.{Maps, IsNamed, Formed}
use Rattle.melt_scion.specs.Heaps.{OnDisk}
use Rattle.melt_scion.specs.Heaps.{state_of}
use Rattle.melt_scion.specs.Moves.{Leaves, MovesNames}
use Rattle.melt_scion.specs.Collected.{Collected, CountsWords, HeldAt, Taken}
use Rattle.melt_scion.specs.declared.registers.Registers.{Registers}
use Rattle.melt_scion.specs.declared.heap.Heap.{Heap}
use Rattle.melt_scion.proofs.Moving.{moves_formed}
use Rattle.melt_scion.proofs.MovingTells.{moves_placed}
use Rattle.melt_copy.specs.Moving.{maps_after, words_in}
use Rattle.melt_copy.proofs.Carried.{carried_names, word_taken}
use Rattle.melt_copy.proofs.Counted.{live_words, held_words}
use Rattle.melt_move.specs.declared.decision.Decision.{Decision}
use Rattle.melt_move.specs.Plans.{IsDecision, WantsHome, home_by, need_for}
use Rattle.melt_move.specs.GivenScions.{given_count}
use Rattle.melt_move.specs.Collecting.{CarriesOut, Counts, HasMoved}
use Rattle.melt_move.specs.Collecting.{disk_after}
use Rattle.melt_move.proofs.Moves.{to_by, scion_by, move_carries, move_words}
use Rattle.melt_move.proofs.MovesDisk.{move_disk, names_given}
use Rattle.melt_move.proofs.Numbers.{needs_counted, stubs_counted, bodies_counted}

-- words that are counted for one kind are counted for another that has the same members
same_count : (s : State) (Is Other : ℕ → Type 0) (total : ℕ) → ((a : ℕ) → Is a → Other a) → ((a : ℕ) → Other a → Is a)
    → CountsWords s Is total → CountsWords s Other total
same_count s Is Other total to from counts = record {
  members = counts.members;
  cost = counts.cost;
  costs = counts.costs;
  once = counts.once;
  all = λ a. (λ other. (counts.all a).0 (from a other), λ there. to a ((counts.all a).1 there));
  adds_up = counts.adds_up;
}

module _ (maps : Maps) (disk : OnDisk) (old new : Heap) (held after : List Registers) (decision : Decision) (end : ℕ)
    (told : Option (List ℕ)) (decided : IsDecision old.space (state_of old held disk) decision)
    (formed : Formed maps (state_of old held disk)) (out : CarriesOut maps disk old new held after decision end told)
  where
    abbrev s : State
    s = state_of old held disk

    abbrev t : State
    t = state_of new after (disk_after disk decision end out.image)

    abbrev home : ℕ → ℕ
    home = home_by s.word decision

    named_there : (a : ℕ) → IsNamed (maps_after maps decision.choice.stay.moves.items) a → IsNamed out.after a
    named_there a named = (named.0, out.addresses a ∙ named.1)

    named_before : (a : ℕ) → IsNamed out.after a → IsNamed (maps_after maps decision.choice.stay.moves.items) a
    named_before a named = (named.0, sym (out.addresses a) ∙ named.1)

    names : MovesNames maps out.after (to_by decision)
    names =
        let carried = carried_names Move maps s t (to_by decision) decision.choice.stay.moves.items decision.held_count
        (move_carries maps s t out.live decision formed out.is) in
        record {
          names = λ a some. out.addresses (to_by decision a) ∙ carried.names a some;
          only = λ b n named. carried.only b n (sym (out.addresses b) ∙ named);
        }

    taken : (at : ℕ) → 1 ≤ at → at < t.free → Taken out.after t at
    taken at first below =
        let is = word_taken Move maps s t (to_by decision) decision.choice.stay.moves.items decision.held_count
        (move_carries maps s t out.live decision formed out.is) formed at first below in
        record {
          address = is.address;
          header = is.header;
          named = named_there is.address is.named;
          starts = is.starts;
          from = is.from;
          to = is.to;
        }

    collected : Collected Move maps out.after s t (to_by decision) home (scion_by t decision)
    collected =
        let words = move_words maps s t out.live decision formed out.is in
        record {
          formed = moves_formed Move maps out.after s t (to_by decision) home (scion_by t decision) formed words names;
          placed = λ h value placed.
              moves_placed Move maps out.after s t (to_by decision) home (scion_by t decision) words names
              (names_given maps s t out.live decision formed out.is out.after out.homes h placed.tells)
              (move_disk maps s t out.live decision formed out.is h placed.tells) h value placed;
          words = words;
          names = names;
          homes = λ h tells. names_given maps s t out.live decision formed out.is out.after out.homes h tells;
          disk = λ h tells. move_disk maps s t out.live decision formed out.is h tells;
          no_gaps = taken;
        }

    some_first : 1 ≤ decision.homes.first
    some_first = let first = decided.first in let some = decided.first_end in omega (arith, first, some)

    pub has_moved : (journal : Journal) → journal.live ≡ new.space.used → journal.held ≡ decision.held_words
        → journal.bodies ≡ length decision.choice.leaving.items
        → journal.stubs ≡ given_count decision.homes decision.choice.stay.moves.items
        → end ≡ disk.end + need_for decision.homes.given.items → HasMoved maps disk old new held after end told journal
    has_moved journal live held_is bodies stubs grows =
        let moves = decision.choice.stay.moves.items in
        let carries = move_carries maps s t out.live decision formed out.is in
        let words : journal.live ≡ words_in moves =
        (let free = out.is.free in let beyond = decided.choice.stay.after in omega (arith, live, free, beyond)) in
        record {
          after = out.after;
          later = disk_after disk decision end out.image;
          to = to_by decision;
          home = home;
          scion = scion_by t decision;
          end_is = refl;
          shows = out.shows;
          names = out.names;
          collected = collected;
          live =
              subst (CountsWords t (IsNamed out.after)) (sym words)
              (same_count t (IsNamed (maps_after maps moves)) (IsNamed out.after) (words_in moves) named_there
              named_before
              (live_words Move maps s t (to_by decision) moves decision.held_count carries formed));
          held_words =
              subst (CountsWords s (HeldAt s)) (sym (held_is ∙ decided.held_words))
              (held_words Move maps s t (to_by decision) moves decision.held_count carries);
          bodies =
              subst (Counts (Leaves Move s)) (sym bodies)
              (bodies_counted s decision.choice.leaving.items decided.choice.leave);
          stubs =
              subst (Counts (λ a. WantsHome s a × (to_by decision a ≢ 0))) (sym stubs)
              (stubs_counted s decision decided.homes some_first decided.live decided.choice);
          need = need_for decision.homes.given.items;
          needs = needs_counted s decision decided.homes some_first;
          grows = grows;
        }
