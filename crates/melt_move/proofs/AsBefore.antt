-- A heap that is as before, but that there may be room for more names, shows the same states.
use Rattle.std.proofs.Common.{◌≡◌, ◌≢◌, ℕ, List, [], length, sym, ◌∙◌, ap, subst}
use Rattle.std.specs.Prelude.{Option, None, Some}
use Rattle.std.specs.Ordering.{nat_cmp}
use Rattle.std.specs.FinMap.{FinMap, get}
use Rattle.melt_space.specs.Space.{SpaceWords}
use Rattle.melt_scion.specs.State.{State}
use Rattle.melt_scion.specs.Scions.{Scions}
use Rattle.melt_scion.specs.Placed.{Maps, Formed}
use Rattle.melt_scion.specs.GhostMaps.{NamePairs}
use Rattle.melt_scion.specs.Names.{name_at}
use Rattle.melt_scion.specs.Heaps.{OnDisk, AreScionsFor, HasNames, NamesMade, KeepsTables}
use Rattle.melt_scion.specs.Heaps.{KeepsNames}
use Rattle.melt_scion.specs.Heaps.{state_of}
use Rattle.melt_scion.specs.declared.registers.Registers.{Registers}
use Rattle.melt_scion.specs.declared.heap.Names.{Names}
use Rattle.melt_scion.specs.declared.heap.Heap.{Heap}
use Rattle.melt_scion.specs.Moves.{Leaves}
use Rattle.melt_scion.specs.Collected.{Collected, CountsWords, HeldAt}
use Rattle.melt_model.specs.declared.reports.Phase.TheVariants.{Move}
use Rattle.melt_move.specs.Plans.{WantsHome}
use Rattle.melt_move.specs.Collecting.{IsFormedOn, IsAsBefore, SameNames, HasMoved, Counts}
use Rattle.melt_model.specs.declared.reports.Journal.{Journal}

-- the state of these parts of a heap
abbrev state_with : SpaceWords → Scions → List ℕ → List ℕ → List Registers → OnDisk → State
state_with space scions globals forward held disk =
    state_of (record {
      space = space;
      scions = scions;
      globals = globals;
      forward = forward;
      names = None;
      maps = record { addresses = []; homes = [] };
    }) held disk

module _ (old new : Heap) (is : IsAsBefore old new) where
  pub state_same : (held : List Registers) (disk : OnDisk) → state_of new held disk ≡ state_of old held disk
  state_same held disk =
      ap (λ (space : SpaceWords). state_with space new.scions new.globals new.forward held disk) is.space
      ∙ (ap (λ (scions : Scions). state_with old.space scions new.globals new.forward held disk) is.scions
      ∙ (ap (λ (globals : List ℕ). state_with old.space old.scions globals new.forward held disk) is.globals
      ∙ ap (λ (forward : List ℕ). state_with old.space old.scions old.globals forward held disk) is.forward))

  names_same : (a b : Option Names) (pairs : NamePairs) (maps : Maps) → SameNames a b → HasNames a pairs maps
      → HasNames b pairs maps
  names_same None None pairs maps same has = has
  names_same (Some a) (Some b) pairs maps same has = (
    λ k. has.0 k ∙ ap (λ (names : List (Option ℕ)). name_at names k) (sym same.0),
    λ k. has.1 k ∙ ap (λ (homes : FinMap nat_cmp ℕ). get homes k) (sym same.1),
  )
  names_same None (Some b) pairs maps same has = absurd same
  names_same (Some a) None pairs maps same has = absurd same

  made_same : (words : ℕ) (a b : Option Names) → SameNames a b → NamesMade words a → NamesMade words b
  made_same words None None same made = tt
  made_same words (Some a) (Some b) same made = ap length same.0 ∙ made
  made_same words None (Some b) same made = absurd same
  made_same words (Some a) None same made = absurd same

  pub maps_same : (maps : Maps) → HasNames old.names old.maps maps → HasNames new.names new.maps maps
  maps_same maps has =
      names_same old.names new.names new.maps maps is.names
      (subst (λ (pairs : NamePairs). HasNames old.names pairs maps) (sym is.maps) has)

  pub formed_same : (maps : Maps) (held : List Registers) (disk : OnDisk) → Formed maps (state_of old held disk)
      → Formed maps (state_of new held disk)
  formed_same maps held disk = subst (Formed maps) (sym (state_same held disk))

  pub formed_on : (held : List Registers) (end : ℕ) → IsFormedOn old held end → IsFormedOn new held end
  formed_on held end formed =
      let size : length new.space.list ≡ length old.space.list =
      ap (λ (space : SpaceWords). length space.list) is.space in
      record {
        maps = formed.maps;
        disk = formed.disk;
        end_is = formed.end_is;
        names = maps_same formed.maps formed.names;
        made = record {
          scions =
              subst (λ (scions : Scions). AreScionsFor (length new.space.list) scions) (sym is.scions)
              (subst (λ (words : ℕ). AreScionsFor words old.scions) (sym size) formed.made.scions);
          names = made_same (length new.space.list) old.names new.names is.names
              (subst (λ (words : ℕ). NamesMade words old.names) (sym size) formed.made.names);
        };
        formed = formed_same formed.maps held formed.disk formed.formed;
      }

  keeps_more : (a b c : Option Names) → SameNames a b → KeepsNames b c → KeepsNames a c
  keeps_more None None None same keeps = tt
  keeps_more (Some a) (Some b) (Some c) same keeps = keeps ∙ ap length same.0
  keeps_more None None (Some c) same keeps = absurd keeps
  keeps_more (Some a) (Some b) None same keeps = absurd keeps
  keeps_more None (Some b) c same keeps = absurd same
  keeps_more (Some a) None c same keeps = absurd same

  pub tables_same : (last : Heap) → KeepsTables new last → KeepsTables old last
  tables_same last keeps = record {
    scions = record {
      is_table = keeps.scions.is_table;
      size = keeps.scions.size ∙ ap (λ (scions : Scions). length scions.pairs) is.scions;
    };
    forwards = keeps.forwards ∙ ap length is.forward;
    names = keeps_more old.names new.names last.names is.names keeps.names;
  }

  -- what was made of the one was made of the other
  pub moved_same : {maps : Maps} {disk : OnDisk} {last : Heap} {held after : List Registers} {end : ℕ}
      {told : Option (List ℕ)} {journal : Journal} → HasMoved maps disk new last held after end told journal
      → HasMoved maps disk old last held after end told journal
  moved_same {maps} {disk} {last} {held} {after} {journal} has =
      let same = state_same held disk in
      record {
        after = has.after;
        later = has.later;
        to = has.to;
        home = has.home;
        scion = has.scion;
        end_is = has.end_is;
        shows = has.shows;
        names = has.names;
        collected =
            subst (λ (s : State). Collected Move maps has.after s (state_of last after has.later) has.to has.home
            has.scion)
            same has.collected;
        live = has.live;
        held_words = subst (λ (s : State). CountsWords s (HeldAt s) journal.held) same has.held_words;
        bodies = subst (λ (s : State). Counts (Leaves Move s) journal.bodies) same has.bodies;
        stubs = subst (λ (s : State). Counts (λ a. WantsHome s a × (has.to a ≢ 0)) journal.stubs) same has.stubs;
        need = has.need;
        needs = subst (λ (s : State). CountsWords s (WantsHome s) has.need) same has.needs;
        grows = has.grows;
      }
