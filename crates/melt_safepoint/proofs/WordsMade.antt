-- What a run makes stays within what the heap has, once more than there are collections.
use Rattle.std.proofs.Common.{◌≡◌, ℕ, ◌+◌, ◌*◌, ◌≤◌, List, [], ◌∷◌, ◌++◌, length, sym, ap, subst, arith}
use Rattle.std.proofs.Common.{length-append, inl, inr}
use Rattle.std.specs.Prelude.{Bool, true}
use Rattle.melt_model.specs.Alive.{words_of, CostsSum}
use Rattle.melt_model.specs.declared.config.Config.{Config}
use Rattle.melt_model.specs.declared.history.Entry.{Entry}
use Rattle.melt_model.specs.declared.reports.Journal.{Journal}
use Rattle.melt_model.proofs.Sums.{CostsSum-one}
use Rattle.melt_scion.specs.Placed.{Maps}
use Rattle.melt_core.specs.Changed.{stopped}
use Rattle.melt_core.specs.Epochs.{HasDropped}
use Rattle.melt_core.specs.Made.{made_words, HasMade, KeepsMade}
use Rattle.melt_core.specs.Views.{View, Counts, InUse, maps, maps_of}
use Rattle.melt_trace.specs.Script.{Script}
use Rattle.melt_safepoint.specs.declared.thread.Mode.{Mode}
use Rattle.melt_safepoint.specs.Made.{MakesWithin}
use Rattle.melt_safepoint.specs.Shown.{Shown}
use Rattle.melt_safepoint.specs.Collections.{MadeSoFar}
use Rattle.melt_safepoint.specs.Rows.{StandsBut, Row}
use Rattle.melt_safepoint.specs.Tables.{DropsIfEnded}
use Rattle.melt_safepoint.proofs.TableModes.{drop_cases}

-- the same history, and the same objects in use
pub made_same : (past : ℕ) (v w : View) → w.names ≡ v.names → w.log ≡ v.log → HasMade past v → HasMade past w
made_same past v w names log had = record {
  in_use = had.in_use;
  adds_up = subst (λ (m : Maps). CostsSum (words_of w.log) (InUse m) had.in_use) (sym (ap maps_of names))
      (subst (λ (h : List Entry). CostsSum (words_of h) (InUse (maps v)) had.in_use) (sym log) had.adds_up);
  within =
      let same : made_words w.log ≡ made_words v.log = ap made_words log in
      let few : made_words v.log ≤ past + had.in_use = had.within in
      omega (arith, same, few);
}

-- the stop word is set
pub made_stopped : (v w : View) → w ≡ stopped v → KeepsMade v w
made_stopped v w is past had =
    made_same past v w (ap (λ (x : View). x.names) is) (ap (λ (x : View). x.log) is) had

-- a thread drops its registers
pub made_dropped : (v w : View) (t : ℕ) → HasDropped v w t → KeepsMade v w
made_dropped v w t drops past had =
    made_same past v w (ap (λ (x : View). x.names) drops.only) (ap (λ (x : View). x.log) drops.only) had

-- and so where it does that if it has ended
pub made_ended : (v w : View) (t : ℕ) (mode : Mode) → DropsIfEnded v w t mode → KeepsMade v w
made_ended v w t mode drops past had = elim (drop_cases v w t mode drops) [
  | inl ended ↦ made_dropped v w t ended.1 past had
  | inr goes ↦ subst (HasMade past) (sym goes.1) had
]

one_more : (k count : ℕ) → k * (count + 1) ≡ k * count + k
one_more k count = grind arith

-- what is in use is within the heap
pub made_within : (config : Config) (v : View) (journal : List Journal) → Counts v → length v.space.list ≡ config.heap
    → MadeSoFar config v journal → MakesWithin config v.log journal
made_within config v journal counts words had =
    let same : had.in_use ≡ counts.in_use =
    CostsSum-one (words_of v.log) (InUse (maps v)) had.in_use counts.in_use had.adds_up counts.adds_up in
    let once : config.heap * (length journal + 1) ≡ config.heap * length journal + config.heap =
    one_more config.heap (length journal) in
    omega (arith, had.within, same, words, counts.within, once)

-- so a collection may leave out of use whatever it will
pub made_collected : (config : Config) (v w : View) (journal : List Journal) (entry : Journal) → Counts v → Counts w
    → length v.space.list ≡ config.heap → w.log ≡ v.log → MadeSoFar config v journal
    → MadeSoFar config w (journal ++ entry ∷ [])
made_collected config v w journal entry before after words log had =
    let few : made_words v.log ≤ config.heap * (length journal + 1) = made_within config v journal before words had in
    let more : length (journal ++ entry ∷ []) ≡ length journal + 1 = length-append journal (entry ∷ []) in
    let times : config.heap * length (journal ++ entry ∷ []) ≡ config.heap * (length journal + 1) =
    ap (λ (n : ℕ). config.heap * n) more in
    record {
      in_use = after.in_use;
      adds_up = after.adds_up;
      within = omega (arith, few, times, ap made_words log);
    }

-- nothing was made yet
pub made_nothing : (config : Config) (v : View) (journal : List Journal) → Counts v → v.log ≡ []
    → MadeSoFar config v journal
made_nothing config v journal counts log = record {
  in_use = counts.in_use;
  adds_up = counts.adds_up;
  within = let none : made_words v.log ≡ 0 = ap made_words log in omega (arith, none);
}

-- and so in a run
pub run_within : {unpaid : ℕ} {told : Bool} {script : Script} {config : Config} {shown : Shown} {run : Row}
    → told ≡ true → StandsBut unpaid told script config shown run
    → MakesWithin config run.view.log run.collector.journal.items
run_within {unpaid} {told} {script} {config} {shown} {run} is stands =
    made_within config run.view run.collector.journal.items (stands.table.stands.counts is) stands.table.words
    (stands.made is)
