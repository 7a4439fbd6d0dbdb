-- What the tests of epochs need of mutators.
use Rattle.std.specs.Prelude.{◌≡◌, ℕ, ◌^◌, ◌<◌, List, [], ◌∷◌, Option, map, All}
use Rattle.melt_rule.specs.Seats.{EpochWords}
use Rattle.melt_rule.specs.declared.began.Start.{Start}
use Rattle.melt_epoch.specs.Ends.{MayEnd, MutatorBegins, MutatorsBegin}
use Rattle.melt_epoch.specs.Mutators.{HasReader, IsSeated}
use Rattle.melt_epoch.specs.declared.mutator.Mutator.{Mutator}

-- The mutator may begin any epoch over a disk that has no words.
abbrev pub MayStart : {R : Type 0} → (R → Option (List ℕ)) → Mutator R → Type 0
MayStart image m = (start : Start) → start.began.image ≡ [] → MutatorBegins image start m

-- All of them may begin one of their threads.
abbrev pub AllMayStart : {R : Type 0} → (R → Option (List ℕ)) → List (Mutator R) → Type 0
AllMayStart {R} image ms = (start : Start) → start.began.image ≡ []
    → map (λ (m : Mutator R). m.thread) ms ≡ start.began.threads → MutatorsBegin image start ms

-- the threads of eight mutators
abbrev pub eight : List ℕ
eight = 0 ∷ 1 ∷ 2 ∷ 3 ∷ 4 ∷ 5 ∷ 6 ∷ 7 ∷ []

-- small enough for any epoch
abbrev pub HasSizes : ℕ → ℕ → ℕ → Type 0
HasSizes words globals forwards = (words < 2 ^ 30) × (globals < 256) × (forwards < 256)

-- The mutator may make each call: it has a seat and a reader.
abbrev pub MayCall : {R : Type 0} → (R → Option (List ℕ)) → EpochWords → Mutator R → Type 0
MayCall image words m = IsSeated words m × HasReader image words m

-- All mutators of the epoch are there, and each may make calls.
abbrev pub HasBegun : {R : Type 0} → (R → Option (List ℕ)) → EpochWords → List (Mutator R) → Type 0
HasBegun image words ms = MayEnd words ms × All (HasReader image words) ms
