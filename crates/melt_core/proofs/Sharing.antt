-- The laws of events for plain words that threads share.
use Rattle.std.proofs.Common.{ℕ, ◌+◌, ◌*◌, refl, arith}
use Rattle.std.specs.Prelude.{Bool, List}
use Rattle.melt_model.specs.declared.history.Entry.{Entry}
use Rattle.melt_word.specs.declared.reference.Ref.TheVariants.{Stale}
use Rattle.melt_scion.specs.State.{Base}
use Rattle.melt_scion.specs.Placed.{Maps}
use Rattle.melt_scion.specs.Regions.{no_region}
use Rattle.melt_forward.specs.Forwarding.{forward_word}
use Rattle.melt_scion.specs.Changes.{WordChanges, ForwardChanges, FreeMoves}
use Rattle.melt_core.specs.declared.call.Place.TheVariants.{Field}
use Rattle.melt_core.specs.Known.{region}
use Rattle.melt_core.specs.Events.{Event}
use Rattle.melt_core.specs.Shared.{Table, shown, Replaces, ReplacesForward, SharedLaws}
use Rattle.melt_core.proofs.Keeping.{event_keeps}
use Rattle.melt_core.proofs.Regions.{claimed_owned}

module _ (base : Base) (old new : Table) where
  word_changes : (at word : ℕ) → Replaces old new (2 + at) word → WordChanges (shown base old) (shown base new) at word
  word_changes at word replaces = record {
    base = refl;
    free = replaces.others 1 (λ same. omega arith);
    here = replaces.here;
    others = λ k other. replaces.others (2 + k) (λ same. other (omega arith));
    global = replaces.globals;
    forward = replaces.forwards;
  }

  free_moves : (free : ℕ) → Replaces old new 1 free → FreeMoves (shown base old) (shown base new) free
  free_moves free replaces = record {
    base = refl;
    is = replaces.here;
    word = λ k. replaces.others (2 + k) (λ same. omega arith);
    global = replaces.globals;
    forward = replaces.forwards;
  }

forward_changes : (base : Base) (old new : Table) (at word : ℕ) → ReplacesForward old new at word →
    ForwardChanges (shown base old) (shown base new) at word
forward_changes base old new at word replaces = record {
  base = refl;
  free = replaces.words 1;
  word_stays = λ k. replaces.words (2 + k);
  global = replaces.globals;
  here = replaces.here;
  others = replaces.others;
}

pub shared_laws : {told : Bool} {thread : ℕ} {h : List Entry} {maps : Maps} (base : Base) (old new : Table)
    → SharedLaws told thread h maps base old new
shared_laws {told} {thread} {h} {maps} base old new = record {
  stores_slot = λ object i address at value before is where_at may value_is replaces.
      event_keeps told thread h maps maps (shown base old) (shown base new) no_region 0 _ before.legal before.holds
      (Event.writes_place (Field object i) at address value refl is where_at may value_is
      (word_changes base old new (object + 2 + i) (4 * address) replaces));
  claims = λ words before first within replaces.
      let moves = free_moves base old new (old.words 1 + words) replaces in (
        event_keeps told thread h maps maps (shown base old) (shown base new) no_region 0 _ before.legal before.holds
            (Event.claims words refl moves),
        claimed_owned maps (shown base old) (shown base new) words before.holds.formed first within moves,
      );
  publishes = λ later address stored shape before small stores all replaces appears.
      event_keeps told thread h maps later (shown base old) (shown base new) (region address shape) 0 _ before.legal
      before.holds
      (Event.publishes address stored shape small stores all (word_changes base old new address _ replaces) appears);
  untags = λ object i target at value before is in_range word named fresh last replaces.
      event_keeps told thread h maps maps (shown base old) (shown base new) no_region 0 _ before.legal before.holds
      (Event.untags (Field object i) at (Stale target) target value refl is in_range word named fresh (λ tell. refl)
      last (word_changes base old new (object + 2 + i) _ replaces));
  commits = λ later home tried p n address shape rest before may replaces appears.
      event_keeps told thread h maps later (shown base old) (shown base new) (region address shape) 0 _ before.legal
      before.holds
      (Event.commits home tried p n address shape rest may
      (forward_changes base old new p (forward_word home address) replaces) appears);
}
