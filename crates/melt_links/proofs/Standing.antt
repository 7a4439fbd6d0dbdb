-- A node is put into a list, and taken out.
use Rattle.std.proofs.Common.{◌≡◌, ◌≢◌, ◌⊎◌, inl, inr, ℕ, ◌+◌, ◌<◌, List, [], ◌∷◌, ◌++◌, length, map}
use Rattle.std.proofs.Common.{refl, sym, ◌∙◌, ap, subst, arith, slice_set, slice_index_or, get_or-set_same, get_or-set_other}
use Rattle.std.specs.List.{Contains}
use Rattle.std.proofs.Math.ListN.{get_or-map}
use Rattle.std.proofs.lemmas.Bool.{cases_eq}
use Rattle.std.proofs.lemmas.List.{length-set, length-map}
use Rattle.std.proofs.lemmas.List.Elements.{Contains-append_left, Contains-append_right}
use Rattle.melt_links.specs.declared.links.Place.{Place}
use Rattle.melt_links.specs.Links.{NodeLists, list_at, Chain, AreRings, AreKept, StandsNowhere, Stands, next_of, prev_of}
use Rattle.melt_links.specs.Links.{place_at, pushed, unlinked, without}
use Rattle.melt_links.proofs.Numbers.{EachOnce, contains_here, contains_more, contains_cases, once_more}
use Rattle.melt_links.proofs.Numbers.{without_has, without_only, without_once, without_absent, without_split}
use Rattle.melt_links.proofs.Chains.{next_in, chain_lasts, bridged, put_first}
use Rattle.melt_links.proofs.Places.{list_of, sets_next, sets_prev, sets_list, read}
use Rattle.melt_links.proofs.Rings.{list_within, in_ring, apart, ring_within, first_within, between}

abbrev no_nodes : List ℕ
no_nodes = []

-- the lists without a node
pub unlinked_at : (all : NodeLists) (node list : ℕ) → list_at (unlinked all node) list ≡ without node (list_at all list)
unlinked_at all node list = get_or-map (without node) all.lists list no_nodes

-- what changes when a node is taken out
record Bridges (old new : List Place) (node none : ℕ) : Type 0 where
  size : length new ≡ length old
  over : next_of new (prev_of old node) ≡ next_of old node
  back_over : prev_of new (next_of old node) ≡ prev_of old node
  nexts : (k : ℕ) → k ≢ prev_of old node → next_of new k ≡ next_of old k
  prevs : (k : ℕ) → k ≢ next_of old node → prev_of new k ≡ prev_of old k
  listed : list_of new node ≡ none
  lists : (k : ℕ) → k ≢ node → list_of new k ≡ list_of old k

-- what is after a node of a ring stands in the ring
after_in : (root node : ℕ) (front back xs : List ℕ) (k : ℕ) → xs ≡ front ++ node ∷ back
    → Contains (back ++ root ∷ []) k → Contains (root ∷ xs) k
after_in root node front back xs k is there =
    elim (contains_cases root k back (in_ring root back k there)) [
      | inl same ↦ subst (Contains (root ∷ xs)) same (contains_here root xs)
      | inr among ↦ contains_more root k xs
          (subst (λ (ks : List ℕ). Contains ks k) (sym is)
          (Contains-append_right front (node ∷ back) k (contains_more node k back among)))
    ]

unlinked_ring : {places after : List Place} {all : NodeLists} (list node none m : ℕ) → AreRings places all
    → Contains (list_at all list) node → Bridges places after node none → m < length all.lists
    → Chain (next_of after) (prev_of after) (all.nodes + m) (without node (list_at all m)) (all.nodes + m)
unlinked_ring {places} {after} {all} list node none m rings there bridges below =
    let root : ℕ = all.nodes + m in
    let xs : List ℕ = list_at all m in
    let next : (ℕ → ℕ) = next_of places in
    let prev : (ℕ → ℕ) = prev_of places in
    let next' : (ℕ → ℕ) = next_of after in
    let prev' : (ℕ → ℕ) = prev_of after in
    let no_root : Contains xs root → ⊥ = λ has. let low = rings.nodes m root has in omega arith in
    elim (cases_eq m list) [
      | inl same ↦
          let here : Contains xs node = subst (λ (l : ℕ). Contains (list_at all l) node) (sym same) there in
          let b = between m node rings here in
          let front : List ℕ = b.split.front in
          let back : List ℕ = b.split.back in
          let once : EachOnce (front ++ node ∷ back) = subst EachOnce b.split.is (rings.once m) in
          let absent : Contains (front ++ node ∷ back) root → ⊥ =
          λ has. no_root (subst (λ (ks : List ℕ). Contains ks root) (sym b.split.is) has) in
          let ring = subst (λ (ks : List ℕ). Chain next prev root ks root) b.split.is (rings.ring m below) in
          let joined = bridged root front node back root (once_more root (front ++ node ∷ back) absent once) absent
          bridges.over bridges.back_over bridges.nexts bridges.prevs ring in
          let left : without node xs ≡ front ++ back =
          ap (without node) b.split.is ∙ without_split node front back once in
          subst (λ (ks : List ℕ). Chain next' prev' root ks root) (sym left) joined
      | inr differ ↦
          let b = between list node rings there in
          let before : Contains ((all.nodes + list) ∷ list_at all list) (prev node) =
          subst (λ (ks : List ℕ). Contains ((all.nodes + list) ∷ ks) (prev node)) (sym b.split.is)
          (Contains-append_left ((all.nodes + list) ∷ b.split.front) (node ∷ b.split.back) (prev node) b.before) in
          let later : Contains ((all.nodes + list) ∷ list_at all list) (next node) =
          after_in (all.nodes + list) node b.split.front b.split.back (list_at all list) (next node) b.split.is b.after
          in
          let absent : Contains xs node → ⊥ = λ has. differ
          (sym ((rings.listed m node (rings.nodes m node has)).1 has).1
          ∙ ((rings.listed list node (rings.nodes m node has)).1 there).1) in
          let lasts = chain_lasts root xs root
          (λ k has. bridges.nexts k (λ e. differ
          (apart m list k rings has (subst (Contains ((all.nodes + list) ∷ list_at all list)) (sym e) before))))
          (λ k has. bridges.prevs k (λ e. differ
          (apart m list k rings (in_ring root xs k has)
          (subst (Contains ((all.nodes + list) ∷ list_at all list)) (sym e) later))))
          (rings.ring m below) in
          subst (λ (ks : List ℕ). Chain next' prev' root ks root) (sym (without_absent node xs absent)) lasts
    ]

unlinked_rings : {places after : List Place} {all : NodeLists} (list node none : ℕ) → AreRings places all
    → Contains (list_at all list) node → Bridges places after node none → none ≡ length all.lists
    → AreRings after (unlinked all node)
unlinked_rings {places} {after} {all} list node none rings there bridges none_is =
    let same_lists : length (map (without node) all.lists) ≡ length all.lists = length-map all.lists (without node) in
    record {
      size = (let size = rings.size in let same = bridges.size in omega (arith, size, same, same_lists));
      ring = λ m below.
          subst (λ (ks : List ℕ). Chain (next_of after) (prev_of after) (all.nodes + m) ks (all.nodes + m))
          (sym (unlinked_at all node m))
          (unlinked_ring list node none m rings there bridges (omega (arith, below, same_lists)));
      nodes = λ m k has.
          rings.nodes m k
          (without_only node k (list_at all m) (subst (λ (ks : List ℕ). Contains ks k) (unlinked_at all node m) has)).1;
      once = λ m.
          subst EachOnce (sym (unlinked_at all node m)) (without_once node (list_at all m) (rings.once m));
      listed = λ m k below. (
        (λ at. elim (cases_eq k node) [
          | inl same ↦ absurd
              (let a = at.0 in let b = at.1 in
              let c : list_of after node ≡ m = subst (λ (j : ℕ). list_of after j ≡ m) same b in
              let d = bridges.listed in omega (arith, a, c, d, none_is, same_lists))
          | inr differ ↦
              let was = (rings.listed m k below).0
              (omega (arith, at.0, same_lists), sym (bridges.lists k differ) ∙ at.1) in
              subst (λ (ks : List ℕ). Contains ks k) (sym (unlinked_at all node m))
              (without_has node k (list_at all m) differ was)
        ]),
        (λ has.
            let only = without_only node k (list_at all m)
            (subst (λ (ks : List ℕ). Contains ks k) (unlinked_at all node m) has) in
            let at = (rings.listed m k below).1 only.1 in
            (omega (arith, at.0, same_lists), bridges.lists k only.0 ∙ at.1)),
      );
    }

-- what changes when a node is put before the others of a list
record PutsFirst (old new : List Place) (root node list : ℕ) : Type 0 where
  size : length new ≡ length old
  here : next_of new root ≡ node
  on : next_of new node ≡ next_of old root
  back : prev_of new node ≡ root
  back_on : prev_of new (next_of old root) ≡ node
  nexts : (k : ℕ) → k ≢ root → k ≢ node → next_of new k ≡ next_of old k
  prevs : (k : ℕ) → k ≢ node → k ≢ next_of old root → prev_of new k ≡ prev_of old k
  listed : list_of new node ≡ list
  lists : (k : ℕ) → k ≢ node → list_of new k ≡ list_of old k

-- the lists with one node more
pub pushed_here : (all : NodeLists) (list node : ℕ) → list < length all.lists
    → list_at (pushed all list node) list ≡ node ∷ list_at all list
pushed_here all list node below = get_or-set_same all.lists list (node ∷ list_at all list) no_nodes below

pub pushed_other : (all : NodeLists) (list node m : ℕ) → m ≢ list
    → list_at (pushed all list node) m ≡ list_at all m
pushed_other all list node m differ = get_or-set_other all.lists list m (node ∷ list_at all list) no_nodes differ

-- a node that stands in no list is no place of a ring
outside : {places : List Place} (all : NodeLists) (root node m k : ℕ) → AreRings places all → node < all.nodes
    → StandsNowhere all node → root ≡ all.nodes + m → Contains (root ∷ list_at all m) k → k ≢ node
outside all root node m k rings is_node alone root_is has same =
    elim (contains_cases root k (list_at all m) has) [
      | inl at_root ↦ absurd (omega arith)
      | inr among ↦ alone m (subst (Contains (list_at all m)) same among)
    ]

pushed_ring : {places after : List Place} {all : NodeLists} (list node m : ℕ) → AreRings places all
    → list < length all.lists → node < all.nodes → StandsNowhere all node
    → PutsFirst places after (all.nodes + list) node list → m < length all.lists
    → Chain (next_of after) (prev_of after) (all.nodes + m) (list_at (pushed all list node) m) (all.nodes + m)
pushed_ring {places} {after} {all} list node m rings in_range is_node alone puts below =
    let root : ℕ = all.nodes + m in
    let xs : List ℕ = list_at all m in
    let next' : (ℕ → ℕ) = next_of after in
    let prev' : (ℕ → ℕ) = prev_of after in
    let no_root : Contains xs root → ⊥ = λ has. let low = rings.nodes m root has in omega arith in
    elim (cases_eq m list) [
      | inl same ↦
          let puts_here : PutsFirst places after root node list =
          subst (λ (l : ℕ). PutsFirst places after (all.nodes + l) node list) (sym same) puts in
          let put = put_first root xs node (omega arith) (rings.once m) no_root (alone m) puts_here.here puts_here.on
          puts_here.back puts_here.back_on puts_here.nexts puts_here.prevs (rings.ring m below) in
          let left : list_at (pushed all list node) m ≡ node ∷ xs =
          subst (λ (l : ℕ). list_at (pushed all list node) l ≡ node ∷ list_at all l) (sym same)
          (pushed_here all list node in_range) in
          subst (λ (ks : List ℕ). Chain next' prev' root ks root) (sym left) put
      | inr differ ↦
          let front = in_ring (all.nodes + list) (list_at all list) _
          (next_in (next_of places) (prev_of places) _ _ _ (rings.ring list in_range)) in
          let lasts = chain_lasts root xs root
          (λ k has. puts.nexts k
          (λ e. differ (apart m list k rings has
          (subst (Contains ((all.nodes + list) ∷ list_at all list)) (sym e)
          (contains_here (all.nodes + list) (list_at all list)))))
          (λ e. outside all root node m k rings is_node alone refl has e))
          (λ k has. puts.prevs k
          (λ e. outside all root node m k rings is_node alone refl (in_ring root xs k has) e)
          (λ e. differ (apart m list k rings (in_ring root xs k has)
          (subst (Contains ((all.nodes + list) ∷ list_at all list)) (sym e) front))))
          (rings.ring m below) in
          subst (λ (ks : List ℕ). Chain next' prev' root ks root) (sym (pushed_other all list node m differ)) lasts
    ]

pushed_rings : {places after : List Place} {all : NodeLists} (list node : ℕ) → AreRings places all
    → list < length all.lists → node < all.nodes → StandsNowhere all node
    → PutsFirst places after (all.nodes + list) node list → AreRings after (pushed all list node)
pushed_rings {places} {after} {all} list node rings in_range is_node alone puts =
    let same_lists = length-set all.lists list (node ∷ list_at all list) in
    let cases : (m : ℕ) → list_at (pushed all list node) m ≡ list_at all m ⊎ (m ≡ list) × (list_at (pushed all list node) m ≡ node ∷ list_at all m) = λ m.
    elim (cases_eq m list) [
      | inl same ↦ inr (
        same,
        subst (λ (l : ℕ). list_at (pushed all list node) l ≡ node ∷ list_at all l) (sym same)
            (pushed_here all list node in_range),
      )
      | inr differ ↦ inl (pushed_other all list node m differ)
    ] in
    record {
      size = (let size = rings.size in let same = puts.size in omega (arith, size, same, same_lists));
      ring = λ m below. pushed_ring list node m rings in_range is_node alone puts (omega (arith, below, same_lists));
      nodes = λ m k has. elim (cases m) [
        | inl same ↦ rings.nodes m k (subst (λ (ks : List ℕ). Contains ks k) same has)
        | inr (_, put) ↦
            elim (contains_cases node k (list_at all m) (subst (λ (ks : List ℕ). Contains ks k) put has)) [
              | inl here ↦ omega arith
              | inr more ↦ rings.nodes m k more
            ]
      ];
      once = λ m. elim (cases m) [
        | inl same ↦ subst EachOnce (sym same) (rings.once m)
        | inr (_, put) ↦ subst EachOnce (sym put) (once_more node (list_at all m) (alone m) (rings.once m))
      ];
      listed = λ m k below. (
        (λ at. elim (cases_eq k node) [
          | inl same ↦
              let is : m ≡ list = sym at.1 ∙ (ap (list_of after) same ∙ puts.listed) in
              subst (λ (l : ℕ). Contains (list_at (pushed all list node) l) k) (sym is)
              (subst (λ (ks : List ℕ). Contains ks k) (sym (pushed_here all list node in_range))
              (subst (Contains (node ∷ list_at all list)) (sym same) (contains_here node (list_at all list))))
          | inr differ ↦
              let was = (rings.listed m k below).0
              (omega (arith, at.0, same_lists), sym (puts.lists k differ) ∙ at.1) in
              elim (cases m) [
                | inl same ↦ subst (λ (ks : List ℕ). Contains ks k) (sym same) was
                | inr (_, put) ↦ subst (λ (ks : List ℕ). Contains ks k) (sym put)
                    (contains_more node k (list_at all m) was)
              ]
        ]),
        (λ has. elim (cases_eq k node) [
          | inl same ↦ elim (cases m) [
            | inl as_was ↦ absurd (alone m
                (subst (Contains (list_at all m)) same (subst (λ (ks : List ℕ). Contains ks k) as_was has)))
            | inr (is, _) ↦ (omega (arith, in_range, is, same_lists), ap (list_of after) same ∙ (puts.listed ∙ sym is))
          ]
          | inr differ ↦
              let was : Contains (list_at all m) k = elim (cases m) [
                | inl as_was ↦ subst (λ (ks : List ℕ). Contains ks k) as_was has
                | inr (_, put) ↦ elim (contains_cases node k (list_at all m) (subst (λ (ks : List ℕ). Contains ks k) put has)) [
                  | inl here ↦ absurd (differ (sym here))
                  | inr more ↦ more
                ]
              ] in
              let at = (rings.listed m k below).1 was in
              (omega (arith, at.0, same_lists), puts.lists k differ ∙ at.1)
        ]),
      );
    }

-- A node that stands in a list, and its neighbours, have places.
pub record Near (places : List Place) (node : ℕ) (at : Place) : Type 0 where
  pub within : node < length places
  pub prev_within : at.prev < length places
  pub next_within : at.next < length places
  pub next_is : next_of places node ≡ at.next
  pub prev_is : prev_of places node ≡ at.prev

pub near : {places : List Place} {all : NodeLists} {nodes lists : ℕ} (list node : ℕ) (at : Place)
    → AreKept places nodes lists all → Contains (list_at all list) node → at ≡ slice_index_or places node at
    → Near places node at
near {places} {all} list node at kept there at_is =
    let rings = kept.rings in
    let below = list_within all.lists list node there in
    let size = rings.size in
    let is_node = rings.nodes list node there in
    let within : node < length places = omega arith in
    let is = read places node at within at_is in
    let next_is : next_of places node ≡ at.next = ap (λ (p : Place). p.next) is in
    let prev_is : prev_of places node ≡ at.prev = ap (λ (p : Place). p.prev) is in
    let b = between list node rings there in
    let before : Contains ((all.nodes + list) ∷ list_at all list) (prev_of places node) =
    subst (λ (ks : List ℕ). Contains ((all.nodes + list) ∷ ks) (prev_of places node)) (sym b.split.is)
    (Contains-append_left ((all.nodes + list) ∷ b.split.front) (node ∷ b.split.back) (prev_of places node) b.before) in
    let later : Contains ((all.nodes + list) ∷ list_at all list) (next_of places node) =
    after_in (all.nodes + list) node b.split.front b.split.back (list_at all list) (next_of places node) b.split.is
    b.after in
    record {
      within = within;
      prev_within = subst (λ (k : ℕ). k < length places) prev_is (ring_within list _ rings below before);
      next_within = subst (λ (k : ℕ). k < length places) next_is (ring_within list _ rings below later);
      next_is = next_is;
      prev_is = prev_is;
    }

-- What is kept when a node is put first.
pub pushes : {places : List Place} {all : NodeLists} {nodes lists : ℕ} (root list node : ℕ) (at later front : Place)
    → AreKept places nodes lists all → list < length all.lists → node < all.nodes → StandsNowhere all node
    → (standing : List (List ℕ)) → standing ≡ (pushed all list node).lists → root ≡ nodes + list
    → at ≡ slice_index_or places root at
    → front
    ≡ slice_index_or (slice_set places node (record { next = at.next; prev = root; list = list })) root front
    → later ≡ slice_index_or (slice_set (slice_set places node (record { next = at.next; prev = root; list = list }))
    root (record { next = node; prev = front.prev; list = front.list })) at.next later
    → AreKept (slice_set (slice_set (slice_set places node (record { next = at.next; prev = root; list = list })) root
    (record { next = node; prev = front.prev; list = front.list })) at.next
    (record { next = later.next; prev = node; list = later.list })) nodes lists
    (record { nodes = all.nodes; lists = standing })
pushes {places} {all} {nodes} {lists} root list node at later front kept in_range is_node alone standing
    standing_is root_is at_is front_is after_is =
    let rings = kept.rings in
    let size = rings.size in
    let there : root ≡ all.nodes + list = omega (arith, root_is, kept.nodes_are) in
    let root_below : root < length places = omega arith in
    let node_below : node < length places = omega arith in
    let apart_from : node ≢ root = omega arith in
    let is = read places root at root_below at_is in
    let next_is : next_of places root ≡ at.next = ap (λ (p : Place). p.next) is in
    let on_below : at.next < length places =
    subst (λ (k : ℕ). k < length places) (subst (λ (k : ℕ). next_of places k ≡ at.next) there next_is)
    (first_within list rings in_range) in
    let p : Place = record { next = at.next; prev = root; list = list } in
    let one : List Place = slice_set places node p in
    let size_one : length one ≡ length places = length-set places node p in
    let here = get_or-set_same places node p (record { next = 0; prev = 0; list = 0 }) node_below in
    let others : ((k : ℕ) → k ≢ node → place_at one k ≡ place_at places k) =
    λ k differ. get_or-set_other places node k p (record { next = 0; prev = 0; list = 0 }) differ in
    let two = sets_next one root node front (omega arith) front_is in
    let size_two = two.size in
    let three = sets_prev _ at.next node later (omega (arith, size_two, size_one, on_below)) after_is in
    let size_three = three.size in
    let after : List Place = slice_set (slice_set one root (record { next = node; prev = front.prev; list = front.list }))
    at.next (record { next = later.next; prev = node; list = later.list }) in
    let not_next : node ≢ at.next = λ e. outside all (all.nodes + list) node list (next_of places (all.nodes + list)) rings
    is_node alone refl (in_ring (all.nodes + list) (list_at all list) _
    (next_in (next_of places) (prev_of places) _ _ _ (rings.ring list in_range)))
    (subst (λ (k : ℕ). next_of places k ≡ node) there (next_is ∙ sym e)) in
    let puts : PutsFirst places after root node list =
    record {
      size = three.size ∙ (two.size ∙ size_one);
      here = three.nexts root ∙ two.here;
      on = three.nexts node ∙ (two.nexts node apart_from ∙ (ap (λ (q : Place). q.next) here ∙ sym next_is));
      back = three.prevs node not_next ∙ (two.prevs node ∙ ap (λ (q : Place). q.prev) here);
      back_on = subst (λ (k : ℕ). prev_of after k ≡ node) (sym next_is) three.here;
      nexts = λ k no_root differ. three.nexts k
          ∙ (two.nexts k no_root ∙ ap (λ (q : Place). q.next) (others k differ));
      prevs = λ k differ not_on. three.prevs k (λ e. not_on (e ∙ sym next_is))
          ∙ (two.prevs k ∙ ap (λ (q : Place). q.prev) (others k differ));
      listed = three.lists node ∙ (two.lists node ∙ ap (λ (q : Place). q.list) here);
      lists = λ k differ. three.lists k ∙ (two.lists k ∙ ap (λ (q : Place). q.list) (others k differ));
    } in
    subst (λ (ls : List (List ℕ)). AreKept after nodes lists (record { nodes = all.nodes; lists = ls }))
    (sym standing_is) (record {
      rings = pushed_rings list node rings in_range is_node alone
          (subst (λ (k : ℕ). PutsFirst places after k node list) there puts);
      small = (let small = kept.small in omega (arith, small, size_three, size_two, size_one));
      nodes_are = kept.nodes_are;
      lists_are = kept.lists_are ∙ sym (length-set all.lists list (node ∷ list_at all list));
    })

-- What is kept when a node is taken out.
pub unlinks : {places : List Place} {all : NodeLists} {nodes lists : ℕ} (node : ℕ) (at before later out : Place)
    → AreKept places nodes lists all → Stands all node → (standing : List (List ℕ))
    → standing ≡ (unlinked all node).lists → at ≡ slice_index_or places node at
    → before ≡ slice_index_or places at.prev before
    → later ≡ slice_index_or (slice_set places at.prev
    (record { next = at.next; prev = before.prev; list = before.list })) at.next later
    → out ≡ slice_index_or (slice_set (slice_set places at.prev
    (record { next = at.next; prev = before.prev; list = before.list })) at.next
    (record { next = later.next; prev = at.prev; list = later.list })) node out
    → AreKept (slice_set (slice_set (slice_set places at.prev
    (record { next = at.next; prev = before.prev; list = before.list })) at.next
    (record { next = later.next; prev = at.prev; list = later.list })) node
    (record { next = out.next; prev = out.prev; list = lists })) nodes lists
    (record { nodes = all.nodes; lists = standing })
unlinks {places} {all} {nodes} {lists} node at before later out kept (list, there) standing
    standing_is at_is before_is after_is out_is =
    let rings = kept.rings in
    let size = rings.size in
    let bounds = near list node at kept there at_is in
    let next_is : next_of places node ≡ at.next = bounds.next_is in
    let prev_is : prev_of places node ≡ at.prev = bounds.prev_is in
    let one = sets_next places at.prev at.next before bounds.prev_within before_is in
    let size_one = one.size in
    let two = sets_prev _ at.next at.prev later (omega (arith, size_one, bounds.next_within)) after_is in
    let size_two = two.size in
    let three = sets_list _ node lists out (omega (arith, size_one, size_two, bounds.within)) out_is in
    let after : List Place = slice_set (slice_set (slice_set places at.prev
    (record { next = at.next; prev = before.prev; list = before.list })) at.next
    (record { next = later.next; prev = at.prev; list = later.list })) node
    (record { next = out.next; prev = out.prev; list = lists }) in
    let bridges : Bridges places after node lists =
    record {
      size = three.size ∙ (two.size ∙ one.size);
      over = subst (λ (k : ℕ). next_of after k ≡ next_of places node) (sym prev_is)
          (three.nexts at.prev ∙ (two.nexts at.prev ∙ (one.here ∙ sym next_is)));
      back_over = subst (λ (k : ℕ). prev_of after k ≡ prev_of places node) (sym next_is)
          (three.prevs at.next ∙ (two.here ∙ sym prev_is));
      nexts = λ k differ. three.nexts k ∙ (two.nexts k ∙ one.nexts k (λ e. differ (e ∙ sym prev_is)));
      prevs = λ k differ. three.prevs k ∙ (two.prevs k (λ e. differ (e ∙ sym next_is)) ∙ one.prevs k);
      listed = three.here;
      lists = λ k differ. three.lists k differ ∙ (two.lists k ∙ one.lists k);
    } in
    subst (λ (ls : List (List ℕ)). AreKept after nodes lists (record { nodes = all.nodes; lists = ls }))
    (sym standing_is) (record {
      rings = unlinked_rings list node lists rings there bridges kept.lists_are;
      small = (let small = kept.small in let size_three = three.size in
          omega (arith, small, size_three, size_two, size_one));
      nodes_are = kept.nodes_are;
      lists_are = kept.lists_are ∙ sym (length-map all.lists (without node));
    })
