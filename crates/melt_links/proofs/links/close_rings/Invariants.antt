use Rattle.std.specs.Prelude.{◌≡◌, ℕ, ◌<◌, ◌≤◌, length}
use Rattle.melt_links.specs.Links.{next_of, prev_of, place_at}
use Rattle.melt_links.proofs.links.close_rings.Given as goal

abbrev pub invariant-loop-root : goal.invariant-loop-root
invariant-loop-root l = record {
  size : length l.places ≡ length l.fn.places;
  roots : (k : ℕ) → l.fn.nodes ≤ k → k < l.root → (next_of l.places k ≡ k) × (prev_of l.places k ≡ k);
  lists : (k : ℕ) → (place_at l.places k).list ≡ (place_at l.fn.places k).list;
}
