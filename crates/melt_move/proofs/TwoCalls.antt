-- Two calls in a row: their writes add up, and what each of them keeps of the disk both keep.
use Rattle.std.proofs.Common.{◌≡◌, ℕ, zero, suc, ◌+◌, ◌≤◌, List, refl, sym, ◌∙◌, ap, subst, arith}
use Rattle.std.specs.Prelude.{Option}
use Rattle.melt_io.specs.Outside.{counted}
use Rattle.melt_disk.specs.Homes.{Stale}
use Rattle.melt_copy.specs.Settling.{RisesBy, StillTold}
use Rattle.melt_move.specs.KeptDisk.{KeepsDisk}

pub rises_both : (one two before now after : ℕ) → RisesBy one before now → RisesBy two now after
    → RisesBy (one + two) before after
rises_both zero two before now after first second =
    let all : two ≡ zero + two = omega arith in
    subst (λ (n : ℕ). RisesBy n before after) all (subst (λ (b : ℕ). RisesBy two b after) first second)
rises_both (suc one) zero before now after first second =
    let all : suc one ≡ suc one + zero = omega arith in
    subst (λ (n : ℕ). RisesBy n before after) all (second ∙ first)
rises_both (suc one) (suc two) before now after first second =
    let all : suc (one + suc two) ≡ suc one + suc two = omega arith in
    let counts : after ≡ counted before (suc (one + suc two)) = omega (arith, first, second) in
    subst (λ (n : ℕ). RisesBy n before after) all counts

module _ {Disk : Type 0} (image : Disk → Option (List ℕ)) (faults read_faults lends : Disk → ℕ) where
  -- a call that leaves the disk as it is
  pub keeps_disk_same : (old new : Stale Disk) → new.disk.now ≡ old.disk.now → new.limit ≡ old.limit
      → new.disk.ghost_name ≡ old.disk.ghost_name → KeepsDisk image faults read_faults lends old new
  keeps_disk_same old new now limit name = record {
    tells = subst (λ (d : Disk). StillTold (image old.disk.now) (image d)) (sym now) (λ told. told);
    count = subst (λ (d : Disk). faults old.disk.now ≤ faults d) (sym now) (omega arith);
    read_faults = ap read_faults now;
    lends = ap lends now;
    limit = limit;
    same_disk = name;
  }

  pub keeps_disk_none : (space : Stale Disk) → KeepsDisk image faults read_faults lends space space
  keeps_disk_none space = keeps_disk_same space space refl refl refl

  pub keeps_disk_both : (old now new : Stale Disk) → KeepsDisk image faults read_faults lends old now
      → KeepsDisk image faults read_faults lends now new → KeepsDisk image faults read_faults lends old new
  keeps_disk_both old now new one two = record {
    tells = λ told. two.tells (one.tells told);
    count = omega (arith, one.count, two.count);
    read_faults = two.read_faults ∙ one.read_faults;
    lends = two.lends ∙ one.lends;
    limit = two.limit ∙ one.limit;
    same_disk = two.same_disk ∙ one.same_disk;
  }
