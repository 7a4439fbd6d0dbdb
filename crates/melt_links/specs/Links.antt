-- Lists of nodes. A node is a number.
use Rattle.std.specs.Prelude.{◌≡◌, ◌≢◌, ◌↔◌, ℕ, ◌+◌, ◌<◌, ◌≤◌, List, [], ◌∷◌, length, map, not, replicate, nat_eq}
use Rattle.std.specs.Prelude.{slice_index_or, slice_set, Option, None, Some, if◌then◌else◌, nat_lt}
use Rattle.std.specs.List.{AllPairs, Contains, filter}
use Rattle.melt_links.specs.declared.links.Place.{Place}

pub record NodeLists : Type 0 where
  -- how many nodes there are: they are numbered from 0 on
  pub nodes : ℕ
  pub lists : List (List ℕ)

-- the nodes of a list, from its first on
abbrev pub list_at : NodeLists → ℕ → List ℕ
list_at all list = slice_index_or all.lists list []

-- so many lists, and no node stands in one of them
abbrev pub empty_lists : ℕ → ℕ → NodeLists
empty_lists nodes lists = record { nodes = nodes; lists = replicate lists [] }

-- the node stands in none of the lists
abbrev pub StandsNowhere : NodeLists → ℕ → Type 0
StandsNowhere all node = (list : ℕ) → Contains (list_at all list) node → ⊥

-- the node stands in one of the lists
abbrev pub Stands : NodeLists → ℕ → Type 0
Stands all node = (list : ℕ) × Contains (list_at all list) node

-- the node is the first of a list now
abbrev pub pushed : NodeLists → ℕ → ℕ → NodeLists
pushed all list node =
    record { nodes = all.nodes; lists = slice_set all.lists list (node ∷ list_at all list) }

-- the others of a list, in their order
abbrev pub without : ℕ → List ℕ → List ℕ
without node nodes = filter (λ other. not (nat_eq other node)) nodes

-- the node stands in no list now
abbrev pub unlinked : NodeLists → ℕ → NodeLists
unlinked all node = record { nodes = all.nodes; lists = map (without node) all.lists }

-- How this crate keeps the lists. Nothing above it names what follows.

-- The nodes stand after a and before z: the next place of each is the one after it, and each way back is as well.
abbrev pub Chain : (ℕ → ℕ) → (ℕ → ℕ) → ℕ → List ℕ → ℕ → Type 0
Chain next prev a [] z = (next a ≡ z) × (prev z ≡ a)
Chain next prev a (x ∷ xs) z = (next a ≡ x) × (prev x ≡ a) × Chain next prev x xs z

abbrev pub place_at : List Place → ℕ → Place
place_at places k = slice_index_or places k (record { next = 0; prev = 0; list = 0 })

abbrev pub next_of : List Place → ℕ → ℕ
next_of places k = (place_at places k).next

abbrev pub prev_of : List Place → ℕ → ℕ
prev_of places k = (place_at places k).prev

-- the node at a place, which may be that of a list
abbrev pub node_of : ℕ → ℕ → Option ℕ
node_of nodes place = if nat_lt place nodes then Some place else None

-- The places after those of the nodes are rings of none.
pub record ClosesRings (nodes : ℕ) (old new : List Place) : Type 0 where
  pub size : length new ≡ length old
  pub roots : (k : ℕ) → nodes ≤ k → k < length new → (next_of new k ≡ k) × (prev_of new k ≡ k)
  pub lists : (k : ℕ) → (place_at new k).list ≡ (place_at old k).list

-- Each list is a ring of its nodes and of one place more, after those of all nodes.
pub record AreRings (places : List Place) (all : NodeLists) : Type 0 where
  pub size : length places ≡ all.nodes + length all.lists
  pub ring : (list : ℕ) → list < length all.lists
      → Chain (next_of places) (prev_of places) (all.nodes + list) (list_at all list) (all.nodes + list)
  pub nodes : (list node : ℕ) → Contains (list_at all list) node → node < all.nodes
  pub once : (list : ℕ) → AllPairs (λ x y. x ≢ y) (list_at all list)
  pub listed : (list node : ℕ) → node < all.nodes
      → ((list < length all.lists) × ((place_at places node).list ≡ list)) ↔ Contains (list_at all list) node

-- What is kept: rings, and how many nodes and lists there are.
pub record AreKept (places : List Place) (nodes lists : ℕ) (all : NodeLists) : Type 0 where
  pub rings : AreRings places all
  pub small : length places < 4294967296
  pub nodes_are : nodes ≡ all.nodes
  pub lists_are : lists ≡ length all.lists
