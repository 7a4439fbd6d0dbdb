-- The names after a Move collection: those of addresses go with their objects, and new homes have theirs.
use Rattle.std.proofs.Common.{◌≡◌, ℕ, List, refl, sym, ◌∙◌, ap}
use Rattle.std.specs.Prelude.{Option, None, Some}
use Rattle.melt_scion.specs.GhostMaps.{NamePairs, named}
use Rattle.melt_scion.specs.HomeNames.{home_name}
use Rattle.melt_scion.specs.Names.{name_at}
use Rattle.melt_scion.specs.Placed.{Maps}
use Rattle.melt_scion.specs.Heaps.{HasNames}
use Rattle.melt_scion.specs.declared.heap.Names.{Names}
use Rattle.melt_copy.specs.declared.forwarding.Relocation.{Relocation}
use Rattle.melt_copy.specs.Copied.{AreRenamed, PlacesApart}
use Rattle.melt_copy.specs.Moving.{maps_after, name_after}
use Rattle.melt_copy.proofs.Collects.{has_names}
use Rattle.melt_move.specs.declared.homes.NewHomes.{NewHomes}
use Rattle.melt_move.specs.NamedHomes.{NamesGiven, NamesHomesOf}

-- the names that these stand for
pub record NamesOut (homes : NewHomes) (moves : List Relocation) (maps : Maps) (final : Option Names)
    (pairs : NamePairs) : Type 0 where
  pub after : Maps
  pub names : HasNames final pairs after
  pub addresses : (k : ℕ) → after.address k ≡ name_after maps.address moves k
  pub given : NamesGiven homes maps.address maps.home after.home

-- the numbers and the names from before under other names
given_same : (homes : NewHomes) (number other old before new : ℕ → Option ℕ) → ((a : ℕ) → number a ≡ other a)
    → ((h : ℕ) → old h ≡ before h) → NamesGiven homes other before new → NamesGiven homes number old new
given_same homes number other old before new numbers olds is = record {
  each = λ k n g at has. is.each k n g at (sym (numbers g.from) ∙ has);
  others = λ home free. is.others home free ∙ sym (olds home);
}

pub names_out : {homes : NewHomes} {moves : List Relocation} {maps : Maps} (old mid final : Option Names)
    (pairs mid_pairs final_pairs : NamePairs) → PlacesApart moves → HasNames old pairs maps
    → NamesHomesOf homes old pairs mid mid_pairs → AreRenamed mid mid_pairs final final_pairs moves
    → NamesOut homes moves maps final final_pairs
names_out {homes} {moves} {maps} None None final pairs mid_pairs final_pairs apart has is renamed =
    let between : Maps = record { address = maps.address; home = named mid_pairs.homes } in
    let had : HasNames None mid_pairs between = (
      λ a. has.0 a ∙ ap (λ (p : List (ℕ × ℕ)). named p a) (sym is.1),
      λ h. refl,
    ) in
    record {
      after = maps_after between moves;
      names = has_names between None final mid_pairs final_pairs moves apart had renamed;
      addresses = λ k. refl;
      given = given_same homes maps.address (named pairs.addresses) maps.home (named pairs.homes)
          (named mid_pairs.homes)
          has.0 has.1 is.0;
    }
names_out {homes} {moves} {maps} (Some old) (Some mid) final pairs mid_pairs final_pairs apart has is renamed =
    let between : Maps = record { address = maps.address; home = home_name mid.homes } in
    let had : HasNames (Some mid) mid_pairs between = (
      λ a. has.0 a ∙ ap (λ (p : List (Option ℕ)). name_at p a) (sym is.1),
      λ h. refl,
    ) in
    record {
      after = maps_after between moves;
      names = has_names between (Some mid) final mid_pairs final_pairs moves apart had renamed;
      addresses = λ k. refl;
      given = given_same homes maps.address (name_at old.addresses) maps.home (home_name old.homes)
          (home_name mid.homes)
          has.0 has.1 is.0;
    }
names_out {homes} {moves} {maps} None (Some mid) final pairs mid_pairs final_pairs apart has is renamed = absurd is
names_out {homes} {moves} {maps} (Some old) None final pairs mid_pairs final_pairs apart has is renamed = absurd is
