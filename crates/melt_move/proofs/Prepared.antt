-- What is known of a heap for which all was decided.
use Rattle.std.proofs.Common.{◌≡◌, ℕ, ◌≤◌, List, [], ◌∷◌, length, sym, ◌∙◌, ap, subst, arith}
use Rattle.std.specs.Prelude.{Option}
use Rattle.melt_space.specs.Space.{SpaceWords}
use Rattle.melt_scion.specs.State.{State, in_global}
use Rattle.melt_scion.specs.Placed.{Maps, Formed}
use Rattle.melt_scion.specs.Heaps.{OnDisk, state_of}
use Rattle.melt_scion.specs.declared.registers.Registers.{Registers}
use Rattle.melt_scion.specs.declared.heap.Names.{Names}
use Rattle.melt_scion.specs.declared.heap.Heap.{Heap}
use Rattle.melt_move.specs.declared.homes.Given.{Given}
use Rattle.melt_move.specs.declared.decision.Decision.{Decision}
use Rattle.melt_move.specs.Plans.{HasRoom, IsDecision, need_for}
use Rattle.melt_move.specs.declared.commit.Copied.{Copied}
use Rattle.melt_move.specs.Staying.{AreSources, StandIn, WordsStay}
use Rattle.melt_move.specs.Collecting.{IsFormedOn, Decides, CopiesOut}
use Rattle.melt_move.proofs.Needs.{need-cons}

-- each home takes a word at least
pub count_need : (given : List Given) → length given ≤ need_for given
count_need [] = omega arith
count_need (g ∷ given) = let rest = count_need given in omega (arith, rest, need-cons g given)

-- the globals are references to what can be reached
pub global_sources : (heap : Heap) (held : List Registers) (disk : OnDisk) (decision : Decision)
    → IsDecision heap.space (state_of heap held disk) decision → HasRoom decision
    → AreSources heap.space (state_of heap held disk) decision heap.globals
global_sources heap held disk decision decided room = record {
  decided = decided;
  room = room;
  references = λ g below. decided.seen.whole.globals g below;
  reached = λ g address below refers. in_global g address below refers;
}

-- another room for copies, and room for more names, change nothing of what was decided
pub decides_still : (heap : Heap) (space : SpaceWords) (names : Option Names) (held : List Registers)
    (decision : Decision) → space ≡ heap.space → Decides heap held decision
    → Decides (record heap { space = space; names = names }) held decision
decides_still heap space names held decision same decides =
    subst (λ (s : SpaceWords). Decides (record heap { space = s; names = names }) held decision) (sym same) decides

-- A heap as the code sees its parts, which is the heap as it is; and words that are its globals.
module _ (inside now : Heap) (held : List Registers) (is : inside ≡ now) (decision : Decision)
    (decides : Decides now held decision) (room : HasRoom decision) (words : List ℕ)
    (same : words ≡ inside.globals) where
  decided_inside : (maps : Maps) (disk : OnDisk) → disk.end ≡ decision.homes.first
      → Formed maps (state_of now held disk)
      → IsDecision inside.space (state_of now held disk) decision
  decided_inside maps disk end formed =
      subst (λ (heap : Heap). IsDecision heap.space (state_of now held disk) decision) (sym is)
      (decides maps disk end formed)

  sources_inside : (maps : Maps) (disk : OnDisk) → disk.end ≡ decision.homes.first
      → Formed maps (state_of now held disk)
      → AreSources inside.space (state_of now held disk) decision words
  sources_inside maps disk end formed =
      subst (AreSources inside.space (state_of now held disk) decision)
      (sym (same ∙ ap (λ (heap : Heap). heap.globals) is))
      (subst (λ (heap : Heap). AreSources heap.space (state_of now held disk) decision now.globals) (sym is)
      (global_sources now held disk decision (decides maps disk end formed) room))

  -- a state that the heap shows, for which all was decided
  pub may_copy : IsFormedOn now held decision.homes.first → (s : State) × IsDecision inside.space s decision
  may_copy formed = (state_of now held formed.disk, decided_inside formed.maps formed.disk formed.end_is formed.formed)

  -- and for which the globals can be copied
  pub may_copy_globals : IsFormedOn now held decision.homes.first
      → (s : State) × AreSources inside.space s decision words
  may_copy_globals formed =
      (state_of now held formed.disk, sources_inside formed.maps formed.disk formed.end_is formed.formed)

  pub copies_out : (copied : Copied)
      → ((s : State) → IsDecision inside.space s decision → StandIn s decision copied.words.items)
      → ((s : State) → AreSources inside.space s decision words → WordsStay s decision words copied.globals.items)
      → CopiesOut now held decision copied
  copies_out copied stand stay = record {
    words = λ maps disk end formed. stand (state_of now held disk) (decided_inside maps disk end formed);
    globals = λ maps disk end formed.
        subst (λ (old : List ℕ). WordsStay (state_of now held disk) decision old copied.globals.items)
        (same ∙ ap (λ (heap : Heap). heap.globals) is)
        (stay (state_of now held disk) (sources_inside maps disk end formed));
  }
