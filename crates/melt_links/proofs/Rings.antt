-- Rings stay rings, whatever node is put into one or taken out.
use Rattle.std.proofs.Common.{◌≡◌, inl, inr, ℕ, zero, suc, ◌+◌, ◌<◌, ◌≤◌, List, [], ◌∷◌, ◌++◌, length}
use Rattle.std.proofs.Common.{None, Some, Bool, sym, ◌∙◌, ap, subst, arith, slice_index_or}
use Rattle.std.specs.Prelude.{slice_get, nat_lt, if◌then◌else◌, ◌↔◌}
use Rattle.std.specs.Bool.{then_some}
use Rattle.std.specs.List.{Contains}
use Rattle.std.proofs.lemmas.Bool.Decides.{nat_tests}
use Rattle.std.proofs.lemmas.Option.{slice_get_within, get_or_from_slice_get}
use Rattle.melt_links.specs.declared.links.Place.{Place}
use Rattle.melt_links.specs.Links.{NodeLists, list_at, Chain, AreRings, next_of, prev_of}
use Rattle.melt_links.specs.Links.{node_of}
use Rattle.melt_links.proofs.Numbers.{IsSplit, split_at, contains_here, contains_more, contains_cases}
use Rattle.melt_links.proofs.Numbers.{contains_none}
use Rattle.melt_links.proofs.Chains.{cut_front, cut_back, prev_in, next_in, end_cases}
use Rattle.melt_links.proofs.Places.{list_of}

-- a place of a node is that node, and another none
node_is : (nodes place : ℕ) → place < nodes → node_of nodes place ≡ Some place
node_is nodes place below =
    let test : nat_lt place nodes ≡ Bool.true = grind (arith, nat_tests) in
    ap (λ (b : Bool). if b then Some place else None) test

no_node : (nodes place : ℕ) → nodes ≤ place → node_of nodes place ≡ None
no_node nodes place above =
    let test : nat_lt place nodes ≡ Bool.false = grind (arith, nat_tests) in
    ap (λ (b : Bool). if b then Some place else None) test

some_then : (at count list : ℕ) → then_some (nat_lt at count) at ≡ Some list → (list < count) × (at ≡ list)
some_then at count list is = grind (arith, nat_tests)

then_is : (at count list : ℕ) → list < count → at ≡ list → then_some (nat_lt at count) at ≡ Some list
then_is at count list below same = grind (arith, nat_tests)

-- an element is contained
pub got : (xs : List ℕ) (at node : ℕ) → slice_get xs at ≡ Some node → Contains xs node
got xs at node is = (at, slice_get_within xs at node is, get_or_from_slice_get xs at node node is)

-- what is after the front of a chain, and after each of its nodes
chain_first : (next prev : ℕ → ℕ) (nodes a : ℕ) (xs : List ℕ) (z : ℕ) → ((k : ℕ) → Contains xs k → k < nodes)
    → nodes ≤ z → Chain next prev a xs z → node_of nodes (next a) ≡ slice_get xs 0
chain_first next prev nodes a [] z within beyond chain = ap (node_of nodes) chain.0 ∙ no_node nodes z beyond
chain_first next prev nodes a (x ∷ xs) z within beyond chain =
    ap (node_of nodes) chain.0 ∙ node_is nodes x (within x (contains_here x xs))

chain_next : (next prev : ℕ → ℕ) (nodes a : ℕ) (xs : List ℕ) (z at node : ℕ)
    → ((k : ℕ) → Contains xs k → k < nodes) → nodes ≤ z → Chain next prev a xs z → slice_get xs at ≡ Some node
    → node_of nodes (next node) ≡ slice_get xs (suc at)
chain_next next prev nodes a [] z at node within beyond chain is =
    absurd (let below = slice_get_within [] at node is in omega arith)
chain_next next prev nodes a (x ∷ xs) z zero node within beyond chain is =
    let same : x ≡ node = cc in
    subst (λ (k : ℕ). node_of nodes (next k) ≡ slice_get xs 0) same
    (chain_first next prev nodes x xs z (λ k there. within k (contains_more x k xs there)) beyond chain.2)
chain_next next prev nodes a (x ∷ xs) z (suc at) node within beyond chain is =
    chain_next next prev nodes x xs z at node (λ k there. within k (contains_more x k xs there)) beyond chain.2 is

-- only a list that there is has nodes
pub list_within : (lists : List (List ℕ)) (list node : ℕ) → Contains (slice_index_or lists list []) node
    → list < length lists
list_within [] list node there = absurd (contains_none node there)
list_within (xs ∷ lists) zero node there = omega arith
list_within (xs ∷ lists) (suc list) node there = let below = list_within lists list node there in omega arith

pub first_is : {places : List Place} {all : NodeLists} (list : ℕ) → AreRings places all → list < length all.lists
    → node_of all.nodes (next_of places (all.nodes + list)) ≡ slice_get (list_at all list) 0
first_is {places} {all} list rings below =
    chain_first (next_of places) (prev_of places) all.nodes (all.nodes + list) (list_at all list) (all.nodes + list)
    (rings.nodes list) (omega arith) (rings.ring list below)

pub next_is : {places : List Place} {all : NodeLists} (list at node : ℕ) → AreRings places all
    → slice_get (list_at all list) at ≡ Some node
    → node_of all.nodes (next_of places node) ≡ slice_get (list_at all list) (suc at)
next_is {places} {all} list at node rings is =
    let below = list_within all.lists list node (got (list_at all list) at node is) in
    chain_next (next_of places) (prev_of places) all.nodes (all.nodes + list) (list_at all list) (all.nodes + list) at
    node (rings.nodes list) (omega arith) (rings.ring list below) is

-- which list a node stands in
pub listed_is : {places : List Place} {all : NodeLists} (node list : ℕ) → AreRings places all → node < all.nodes
    → (then_some (nat_lt (list_of places node) (length all.lists)) (list_of places node) ≡ Some list)
    ↔ Contains (list_at all list) node
listed_is {places} {all} node list rings below = (
  (λ is. (rings.listed list node below).0 (some_then (list_of places node) (length all.lists) list is)),
  (λ there. let at = (rings.listed list node below).1 there in
      then_is (list_of places node) (length all.lists) list at.0 at.1),
)

-- no place stands in two rings
pub apart : {places : List Place} {all : NodeLists} (l m k : ℕ) → AreRings places all
    → Contains ((all.nodes + l) ∷ list_at all l) k → Contains ((all.nodes + m) ∷ list_at all m) k → l ≡ m
apart {places} {all} l m k rings here there =
    elim (contains_cases (all.nodes + l) k (list_at all l) here) [
      | inl root ↦ elim (contains_cases (all.nodes + m) k (list_at all m) there) [
        | inl other ↦ omega arith
        | inr node ↦ absurd (let below = rings.nodes m k node in omega arith)
      ]
      | inr node ↦
          let below = rings.nodes l k node in
          elim (contains_cases (all.nodes + m) k (list_at all m) there) [
            | inl other ↦ absurd (omega arith)
            | inr also ↦
                sym ((rings.listed l k below).1 node).1 ∙ ((rings.listed m k below).1 also).1
          ]
    ]

-- what stands after a ring's front stands in the ring
pub in_ring : (root : ℕ) (xs : List ℕ) (k : ℕ) → Contains (xs ++ root ∷ []) k → Contains (root ∷ xs) k
in_ring root xs k there =
    end_cases root k xs (λ last. subst (Contains (root ∷ xs)) last (contains_here root xs))
    (λ among. contains_more root k xs among) there

-- a place of a ring is one of all places
pub ring_within : {places : List Place} {all : NodeLists} (list k : ℕ) → AreRings places all → list < length all.lists
    → Contains ((all.nodes + list) ∷ list_at all list) k → k < length places
ring_within {places} {all} list k rings below there =
    let size = rings.size in
    elim (contains_cases (all.nodes + list) k (list_at all list) there) [
      | inl root ↦ omega arith
      | inr node ↦ let under = rings.nodes list k node in omega arith
    ]

pub first_within : {places : List Place} {all : NodeLists} (list : ℕ) → AreRings places all
    → list < length all.lists → next_of places (all.nodes + list) < length places
first_within {places} {all} list rings below =
    ring_within list _ rings below (in_ring (all.nodes + list) (list_at all list) _
    (next_in (next_of places) (prev_of places) _ _ _ (rings.ring list below)))

-- the neighbours of a node stand in its ring
pub record Between (places : List Place) (all : NodeLists) (list node : ℕ) : Type 0 where
  pub split : IsSplit node (list_at all list)
  pub below : list < length all.lists
  pub before : Contains ((all.nodes + list) ∷ split.front) (prev_of places node)
  pub after : Contains (split.back ++ (all.nodes + list) ∷ []) (next_of places node)

pub between : {places : List Place} {all : NodeLists} (list node : ℕ) → AreRings places all
    → Contains (list_at all list) node → Between places all list node
between {places} {all} list node rings there =
    let split = split_at node (list_at all list) there in
    let below = list_within all.lists list node there in
    let root : ℕ = all.nodes + list in
    let next : (ℕ → ℕ) = next_of places in
    let prev : (ℕ → ℕ) = prev_of places in
    let ring : Chain next prev root (split.front ++ node ∷ split.back) root =
    subst (λ (xs : List ℕ). Chain next prev root xs root) split.is (rings.ring list below) in
    record {
      split = split;
      below = below;
      before = prev_in next prev root split.front node (cut_front next prev root split.front node split.back root ring);
      after = next_in next prev node split.back root (cut_back next prev root split.front node split.back root ring);
    }
