-- What the links show, from what is kept.
use Rattle.std.proofs.Common.{◌≡◌, ℕ, suc, ◌+◌, ◌<◌, List, length, Option, Some, sym, ◌∙◌, ap, subst, arith, slice_index_or}
use Rattle.std.specs.Prelude.{slice_get, nat_lt, ◌↔◌}
use Rattle.std.specs.Bool.{then_some}
use Rattle.std.specs.List.{Contains}
use Rattle.melt_links.specs.declared.links.Place.{Place}
use Rattle.melt_links.specs.Links.{NodeLists, list_at, AreKept, Stands, next_of, node_of}
use Rattle.melt_links.proofs.Places.{list_of, read}
use Rattle.melt_links.proofs.Rings.{first_is, first_within, next_is, listed_is, got}
use Rattle.melt_links.proofs.Standing.{near}

pub shows_first : {places : List Place} {all : NodeLists} {nodes lists : ℕ} (list : ℕ) (at : Place)
    (result : Option ℕ) → AreKept places nodes lists all → list < length all.lists
    → at ≡ slice_index_or places (nodes + list) at → result ≡ node_of nodes at.next
    → result ≡ slice_get (list_at all list) 0
shows_first {places} {all} {nodes} {lists} list at result kept below at_is is =
    let rings = kept.rings in
    let size = rings.size in
    let nodes_are = kept.nodes_are in
    let place = read places (nodes + list) at (omega arith) at_is in
    let next : next_of places (all.nodes + list) ≡ at.next =
    subst (λ (n : ℕ). next_of places (n + list) ≡ at.next) nodes_are (ap (λ (p : Place). p.next) place) in
    is ∙ (ap (λ (n : ℕ). node_of n at.next) nodes_are
    ∙ (ap (node_of all.nodes) (sym next) ∙ first_is list rings below))

-- a node that stands in a list has a place
pub has_place : {places : List Place} {all : NodeLists} {nodes lists : ℕ} (node : ℕ)
    → AreKept places nodes lists all → Stands all node → node < length places
has_place node kept (list, there) =
    let rings = kept.rings in
    let size = rings.size in
    let below = rings.nodes list node there in
    omega arith

pub shows_next : {places : List Place} {all : NodeLists} {nodes lists : ℕ} (list at node : ℕ) (here : Place)
    (result : Option ℕ) → AreKept places nodes lists all → here ≡ slice_index_or places node here
    → result ≡ node_of nodes here.next → slice_get (list_at all list) at ≡ Some node
    → result ≡ slice_get (list_at all list) (suc at)
shows_next {places} {all} {nodes} {lists} list at node here result kept here_is is stands =
    let rings = kept.rings in
    let there : Stands all node = (list, got (list_at all list) at node stands) in
    let within : node < length places = has_place node kept there in
    let place = read places node here within here_is in
    is ∙ (ap (λ (n : ℕ). node_of n here.next) kept.nodes_are
    ∙ (ap (node_of all.nodes) (sym (ap (λ (p : Place). p.next) place)) ∙ next_is list at node rings stands))

pub shows_list : {places : List Place} {all : NodeLists} {nodes lists : ℕ} (node list : ℕ) (at : Place)
    (result : Option ℕ) → AreKept places nodes lists all → node < all.nodes → at ≡ slice_index_or places node at
    → result ≡ then_some (nat_lt at.list lists) at.list
    → (result ≡ Some list) ↔ Contains (list_at all list) node
shows_list {places} {all} {nodes} {lists} node list at result kept below at_is is =
    let rings = kept.rings in
    let size = rings.size in
    let place = read places node at (omega arith) at_is in
    let same : then_some (nat_lt (list_of places node) (length all.lists)) (list_of places node) ≡ result =
    ap (λ (p : Place). then_some (nat_lt p.list (length all.lists)) p.list) place
    ∙ (ap (λ (n : ℕ). then_some (nat_lt at.list n) at.list) (sym kept.lists_are) ∙ sym is) in
    subst (λ (r : Option ℕ). (r ≡ Some list) ↔ Contains (list_at all list) node) same (listed_is node list rings below)

-- and so do its neighbours
pub has_neighbours : {places : List Place} {all : NodeLists} {nodes lists : ℕ} (node : ℕ) (at : Place)
    → AreKept places nodes lists all → Stands all node → at ≡ slice_index_or places node at
    → (at.prev < length places) × (at.next < length places)
has_neighbours node at kept (list, there) at_is =
    let bounds = near list node at kept there at_is in (bounds.prev_within, bounds.next_within)

-- and what is after the place of a list
pub has_first : {places : List Place} {all : NodeLists} {nodes lists : ℕ} (list : ℕ) (at : Place)
    → AreKept places nodes lists all → list < length all.lists → at ≡ slice_index_or places (nodes + list) at
    → at.next < length places
has_first {places} {all} {nodes} list at kept below at_is =
    let rings = kept.rings in
    let size = rings.size in
    let nodes_are = kept.nodes_are in
    let place = read places (nodes + list) at (omega arith) at_is in
    subst (λ (k : ℕ). k < length places)
    (subst (λ (n : ℕ). next_of places (n + list) ≡ at.next) nodes_are (ap (λ (p : Place). p.next) place))
    (first_within list rings below)
