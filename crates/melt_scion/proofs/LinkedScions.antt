-- The table that links show, in which node k is the number k + 1.
use Rattle.std.proofs.Common.{◌≡◌, ◌≢◌, inl, inr, ℕ, zero, suc, ◌+◌, ◌-◌, ◌<◌, ◌≤◌, List, [], ◌∷◌, length, map}
use Rattle.std.proofs.Common.{replicate, Option, None, Some, Bool, refl, sym, ◌∙◌, ap, subst, arith, slice_index_or}
use Rattle.std.proofs.Common.{slice_set, if◌then◌else◌}
use Rattle.std.specs.Prelude.{IsSome, slice_get, nat_eq}
use Rattle.std.specs.Option.{option_map}
use Rattle.std.specs.List.{Contains, range_with_len}
use Rattle.std.proofs.lemmas.List.{length-set, length-map, length-replicate, get_or_default}
use Rattle.std.proofs.lemmas.Option.{slice_get_within, slice_get-get_or}
use Rattle.std.proofs.lemmas.Bool.{cases_eq}
use Rattle.melt_links.specs.Links.{NodeLists, list_at, pushed, unlinked, without, Stands, StandsNowhere}
use Rattle.melt_links.proofs.Numbers.{without_here, without_other, without_absent, without_only}
use Rattle.melt_links.proofs.Rings.{got}
use Rattle.melt_links.proofs.Standing.{unlinked_at, pushed_here, pushed_other}
use Rattle.melt_scion.specs.Scions.{Scions, EachOnce, IsTable, IsLive, IsKept, Adds, Frees, SetsAddress, table_of}
use Rattle.melt_scion.specs.Scions.{empty_table, first_of, next_after}
use Rattle.melt_scion.proofs.Numbers.{contains_none, contains_here, contains_more, contains_cases, once_first, once_rest}
use Rattle.melt_scion.proofs.Numbers.{same_test, other_test}
use Rattle.melt_scion.proofs.ScionTables.{Pairs, with_pair, live_index, live_or_unused, adds, frees, moves}
use Rattle.melt_scion.proofs.ScionTables.{empty_is_table, range_only}

-- the numbers of nodes
pub has_number : (nodes : List ℕ) (node : ℕ) → Contains nodes node → Contains (map suc nodes) (suc node)
has_number [] node there = absurd (contains_none node there)
has_number (x ∷ xs) node there =
    elim (contains_cases x node xs there) [
      | inl same ↦ subst (λ (k : ℕ). Contains (map suc (x ∷ xs)) (suc k)) same (contains_here (suc x) (map suc xs))
      | inr more ↦ contains_more (suc x) (suc node) (map suc xs) (has_number xs node more)
    ]

pub has_node : (nodes : List ℕ) (node : ℕ) → Contains (map suc nodes) (suc node) → Contains nodes node
has_node [] node there = absurd (contains_none (suc node) there)
has_node (x ∷ xs) node there =
    elim (contains_cases (suc x) (suc node) (map suc xs) there) [
      | inl same ↦ let here : x ≡ node = omega arith in subst (Contains (x ∷ xs)) here (contains_here x xs)
      | inr more ↦ contains_more x node xs (has_node xs node more)
    ]

numbers_without : (node : ℕ) (nodes : List ℕ) → map suc (without node nodes) ≡ without (suc node) (map suc nodes)
numbers_without node [] = refl
numbers_without node (x ∷ xs) =
    elim (cases_eq x node) [
      | inl same ↦ subst (λ (k : ℕ). map suc (without node (k ∷ xs)) ≡ without (suc node) (suc k ∷ map suc xs)) (sym same)
          (ap (map suc) (without_here node xs)
          ∙ (numbers_without node xs ∙ sym (without_here (suc node) (map suc xs))))
      | inr differ ↦ ap (map suc) (without_other node x xs differ)
          ∙ (ap (λ (ks : List ℕ). suc x ∷ ks) (numbers_without node xs)
          ∙ sym (without_other (suc node) (suc x) (map suc xs) (λ e. differ (omega arith))))
    ]

-- a walk by nodes
pub first_number : (nodes : List ℕ) → first_of (map suc nodes) ≡ option_map suc (slice_get nodes 0)
first_number [] = refl
first_number (x ∷ xs) = refl

pub number_after : (nodes : List ℕ) (at node : ℕ) → EachOnce (map suc nodes) → slice_get nodes at ≡ Some node
    → next_after (map suc nodes) (suc node) ≡ option_map suc (slice_get nodes (suc at))
number_after [] at node once is = absurd (let below = slice_get_within [] at node is in omega arith)
number_after (x ∷ xs) zero node once is =
    let same : x ≡ node = cc in
    let test : nat_eq (suc x) (suc node) ≡ Bool.true =
    subst (λ (k : ℕ). nat_eq (suc x) (suc k) ≡ Bool.true) same (same_test (suc x)) in
    ap (λ (b : Bool). if b then first_of (map suc xs) else next_after (map suc xs) (suc node)) test ∙ first_number xs
number_after (x ∷ xs) (suc at) node once is =
    let there = has_number xs node (got xs at node is) in
    let differ : suc x ≢ suc node =
    λ e. once_first (suc x) (map suc xs) once (subst (Contains (map suc xs)) (sym e) there) in
    ap (λ (b : Bool). if b then first_of (map suc xs) else next_after (map suc xs) (suc node))
    (other_test (suc x) (suc node) differ)
    ∙ number_after xs at node (once_rest (suc x) (map suc xs) once) is

-- two lists in which a node changes from the one to the other
record Changes (old new : NodeLists) (from to node : ℕ) : Type 0 where
  from_is : list_at new from ≡ without node (list_at old from)
  to_is : list_at new to ≡ node ∷ without node (list_at old to)
  count : length new.lists ≡ length old.lists

changes : (links : NodeLists) (from to node : ℕ) → from ≢ to → to < length links.lists
    → Changes links (pushed (unlinked links node) to node) from to node
changes links from to node differ below =
    let size : length (map (without node) links.lists) ≡ length links.lists = length-map links.lists (without node) in
    record {
      from_is = pushed_other (unlinked links node) to node from differ ∙ unlinked_at links node from;
      to_is = pushed_here (unlinked links node) to node (omega (arith, below, size))
          ∙ ap (λ (ks : List ℕ). node ∷ ks) (unlinked_at links node to);
      count = length-set (unlinked links node).lists to (node ∷ list_at (unlinked links node) to) ∙ size;
    }

-- a node that was taken out stands nowhere
pub stands_nowhere : (links : NodeLists) (node : ℕ) → StandsNowhere (unlinked links node) node
stands_nowhere links node list there =
    (without_only node node (list_at links list)
    (subst (λ (ks : List ℕ). Contains ks node) (unlinked_at links node list) there)).0 refl

pub two_lists : (links : NodeLists) (node : ℕ) → length links.lists ≡ 2 → length (unlinked links node).lists ≡ 2
two_lists links node two = length-map links.lists (without node) ∙ two

-- the numbers that are not live begin with that of the first node
given : (nodes : List ℕ) (node : ℕ) → slice_get nodes 0 ≡ Some node → EachOnce (map suc nodes)
    → map suc nodes ≡ suc node ∷ map suc (without node nodes)
given [] node is once = absurd (let below = slice_get_within [] 0 node is in omega arith)
given (x ∷ xs) node is once =
    let same : x ≡ node = cc in
    let absent : Contains xs x → ⊥ = λ there. once_first (suc x) (map suc xs) once (has_number xs x there) in
    let left : without node (x ∷ xs) ≡ xs =
    subst (λ (k : ℕ). without k (x ∷ xs) ≡ xs) same (without_here x xs ∙ without_absent x xs absent) in
    ap (λ (k : ℕ). suc k ∷ map suc xs) same ∙ ap (λ (ks : List ℕ). suc node ∷ map suc ks) (sym left)

some_front : (nodes : List ℕ) → 0 < length nodes → IsSome (slice_get nodes 0)
some_front [] some = absurd (omega arith)
some_front (x ∷ xs) some = refl

table_is : (pairs : Pairs) (links : NodeLists) (unused live : List ℕ) → map suc (list_at links 0) ≡ unused
    → map suc (list_at links 1) ≡ live → table_of pairs links ≡ record { pairs = pairs; unused = unused; live = live }
table_is pairs links unused live unused_is live_is =
    let both : Scions = record { pairs = pairs; unused = unused; live = map suc (list_at links 1) } in
    let first : table_of pairs links ≡ both =
    ap (λ (ks : List ℕ). record { pairs = pairs; unused = ks; live = map suc (list_at links 1) }) unused_is in
    first ∙ ap (λ (ks : List ℕ). record { pairs = pairs; unused = unused; live = ks }) live_is

still_kept : (pairs : Pairs) (links after : NodeLists) (node : ℕ) (pair : Option (ℕ × ℕ)) → IsKept pairs links
    → IsTable (table_of (slice_set pairs node pair) after) → length after.lists ≡ length links.lists
    → after.nodes ≡ links.nodes → IsKept (slice_set pairs node pair) after
still_kept pairs links after node pair kept table count nodes =
    let size = length-set pairs node pair in
    record {
      table = table;
      small = (let small = kept.small in omega (arith, small, size));
      nodes = nodes ∙ (kept.nodes ∙ sym size);
      lists = count ∙ kept.lists;
    }

-- what is kept says of the node that is given next
pub record IsNext (pairs : Pairs) (links : NodeLists) (node : ℕ) : Type 0 where
  pub stands : Stands links node
  pub in_range : node < length pairs
  pub unused : Contains (map suc (list_at links 0)) (suc node)

pub next_given : {pairs : Pairs} {links : NodeLists} (node : ℕ) → IsKept pairs links
    → slice_get (list_at links 0) 0 ≡ Some node → IsNext pairs links node
next_given {pairs} {links} node kept is =
    let there = got (list_at links 0) 0 node is in
    let unused = has_number (list_at links 0) node there in
    let free = (kept.table.unused (suc node)).0 unused in
    record { stands = (0, there); in_range = (let last = free.in_range in omega arith); unused = unused }

-- where not all are live there is one to be given
pub some_given : {pairs : Pairs} {links : NodeLists} → IsKept pairs links
    → length (table_of pairs links).live < length pairs → IsSome (slice_get (list_at links 0) 0)
some_given {pairs} {links} kept few = some_front (list_at links 0)
    (let all = kept.table.all in
    let size : length (map suc (list_at links 0)) ≡ length (list_at links 0) = length-map (list_at links 0) suc in
    omega arith)

pub added : {pairs : Pairs} {links : NodeLists} (node home address : ℕ) → IsKept pairs links
    → slice_get (list_at links 0) 0 ≡ Some node
    → Adds (table_of pairs links)
    (table_of (slice_set pairs node (Some (home, address))) (pushed (unlinked links node) 1 node)) home address (node + 1)
    × IsKept (slice_set pairs node (Some (home, address))) (pushed (unlinked links node) 1 node)
added {pairs} {links} node home address kept is =
    let table : Scions = table_of pairs links in
    let after : NodeLists = pushed (unlinked links node) 1 node in
    let pair : Option (ℕ × ℕ) = Some (home, address) in
    let less : Pairs = slice_set pairs node pair in
    let next = next_given node kept is in
    let change = changes links 0 1 node (omega arith) (let two = kept.lists in omega arith) in
    let absent : Contains (list_at links 1) node → ⊥ = λ there.
    live_or_unused table (suc node) kept.table (has_number (list_at links 1) node there) next.unused in
    let done = adds table node home address (given (list_at links 0) node is kept.table.unused_once) kept.table in
    let rest : List ℕ = map suc (without node (list_at links 0)) in
    let unused_is : map suc (list_at after 0) ≡ rest = ap (map suc) change.from_is in
    let live_is : map suc (list_at after 1) ≡ suc node ∷ map suc (list_at links 1) =
    ap (map suc) (change.to_is ∙ ap (λ (ks : List ℕ). node ∷ ks) (without_absent node (list_at links 1) absent)) in
    let new_is : with_pair table node pair rest (suc node ∷ map suc (list_at links 1)) ≡ table_of less after =
    sym (table_is less after _ _ unused_is live_is) in
    let next_number : suc node ≡ node + 1 = omega arith in
    let both : Adds table (table_of less after) home address (suc node) × IsTable (table_of less after) =
    subst (λ (t : Scions). Adds table t home address (suc node) × IsTable t) new_is done in (
      subst (λ (k : ℕ). Adds table (table_of less after) home address k) next_number both.0,
      still_kept pairs links after node pair kept both.1 change.count refl,
    )

freed_node : {pairs : Pairs} {links : NodeLists} (node : ℕ) → IsKept pairs links
    → IsLive (table_of pairs links) (suc node)
    → Frees (table_of pairs links)
    (table_of (slice_set pairs node None) (pushed (unlinked links node) 0 node)) (suc node)
    × IsKept (slice_set pairs node None) (pushed (unlinked links node) 0 node)
freed_node {pairs} {links} node kept live =
    let table : Scions = table_of pairs links in
    let after : NodeLists = pushed (unlinked links node) 0 node in
    let less : Pairs = slice_set pairs node None in
    let change = changes links 1 0 node (omega arith) (let two = kept.lists in omega arith) in
    let there = (kept.table.live (suc node)).1 live in
    let absent : Contains (list_at links 0) node → ⊥ = λ unused.
    live_or_unused table (suc node) kept.table there (has_number (list_at links 0) node unused) in
    let done = frees table node live kept.table in
    let unused_is : map suc (list_at after 0) ≡ suc node ∷ map suc (list_at links 0) =
    ap (map suc) (change.to_is ∙ ap (λ (ks : List ℕ). node ∷ ks) (without_absent node (list_at links 0) absent)) in
    let live_is : map suc (list_at after 1) ≡ without (suc node) (map suc (list_at links 1)) =
    ap (map suc) change.from_is ∙ numbers_without node (list_at links 1) in
    let new_is : with_pair table node None (suc node ∷ map suc (list_at links 0))
    (without (suc node) (map suc (list_at links 1))) ≡ table_of less after =
    sym (table_is less after _ _ unused_is live_is) in
    let both : Frees table (table_of less after) (suc node) × IsTable (table_of less after) =
    subst (λ (t : Scions). Frees table t (suc node) × IsTable t) new_is done in
    (both.0, still_kept pairs links after node None kept both.1 change.count refl)

pub freed : {pairs : Pairs} {links : NodeLists} (scion node : ℕ) → scion ≡ suc node → IsKept pairs links
    → IsLive (table_of pairs links) scion
    → Frees (table_of pairs links) (table_of (slice_set pairs node None) (pushed (unlinked links node) 0 node)) scion
    × IsKept (slice_set pairs node None) (pushed (unlinked links node) 0 node)
freed {pairs} {links} scion node is kept live =
    let done = freed_node node kept (subst (IsLive (table_of pairs links)) is live) in
    let after : Scions = table_of (slice_set pairs node None) (pushed (unlinked links node) 0 node) in
    (subst (Frees (table_of pairs links) after) (sym is) done.0, done.1)

-- a live scion is the number of a node that stands in a list
pub record IsPlaced (pairs : Pairs) (links : NodeLists) (scion : ℕ) : Type 0 where
  pub from_1 : 1 ≤ scion
  pub next : scion ≡ suc (scion - 1)
  pub in_range : scion ≤ length pairs
  pub stands : Contains (list_at links 1) (scion - 1)

pub placed : {pairs : Pairs} {links : NodeLists} (scion : ℕ) → IsKept pairs links → IsLive (table_of pairs links) scion
    → IsPlaced pairs links scion
placed {pairs} {links} zero kept live = absurd (cc)
placed {pairs} {links} (suc node) kept live =
    let below = live_index pairs node live in
    let there = has_node (list_at links 1) node ((kept.table.live (suc node)).1 live) in
    let is : node ≡ suc node - 1 = omega arith in
    record {
      from_1 = omega arith;
      next = omega arith;
      in_range = omega arith;
      stands = subst (Contains (list_at links 1)) is there;
    }

pub moved : {pairs : Pairs} {links : NodeLists} (scion node : ℕ) {home : ℕ} (address : ℕ) {was : ℕ}
    → scion ≡ suc node → IsKept pairs links → slice_index_or pairs node None ≡ Some (home, was)
    → SetsAddress (table_of pairs links) (table_of (slice_set pairs node (Some (home, address))) links) scion address
    × IsKept (slice_set pairs node (Some (home, address))) links
moved {pairs} {links} scion node {home} address scion_is kept is =
    let done = moves (table_of pairs links) node address is kept.table in
    let after : Scions = table_of (slice_set pairs node (Some (home, address))) links in (
      subst (λ (k : ℕ). SetsAddress (table_of pairs links) after k address) (sym scion_is) done.0,
      still_kept pairs links links node (Some (home, address)) kept done.1 refl refl,
    )

-- the first scion of a walk, and the one after a live one
pub first_live : (nodes : List ℕ) (node : ℕ) → slice_get nodes 0 ≡ Some node
    → first_of (map suc nodes) ≡ Some (node + 1)
first_live nodes node is =
    let next : suc node ≡ node + 1 = omega arith in
    first_number nodes ∙ (ap (option_map suc) is ∙ ap Some next)

-- The links as a table begins: those of the numbers that were put before each other so far.
abbrev pub filled : ℕ → ℕ → NodeLists
filled n count = record { nodes = n; lists = range_with_len (n - count) count ∷ [] ∷ [] }

pub filled_more : (n count : ℕ) → count < n → pushed (filled n count) 0 (n - 1 - count) ≡ filled n (count + 1)
filled_more n count below =
    let front : n - 1 - count ≡ n - suc count = omega arith in
    let rest : n - count ≡ (n - suc count) + 1 = omega arith in
    let more : suc count ≡ count + 1 = omega arith in
    ap (λ (nodes : List ℕ). record { nodes = n; lists = nodes ∷ [] ∷ [] })
    (ap (λ (k : ℕ). k ∷ range_with_len (n - count) count) front
    ∙ (ap (λ (k : ℕ). (n - suc count) ∷ range_with_len k count) rest ∙ ap (λ (k : ℕ). range_with_len (n - k) k) more))

pub not_filled : (n count : ℕ) → count < n → StandsNowhere (filled n count) (n - 1 - count)
not_filled n count below zero there =
    let within = range_only (n - count) count (n - 1 - count) there in let low = within.0 in omega arith
not_filled n count below (suc zero) there = contains_none (n - 1 - count) there
not_filled n count below (suc (suc list)) there = contains_none (n - 1 - count) there

range_numbers : (first count : ℕ) → map suc (range_with_len first count) ≡ range_with_len (suc first) count
range_numbers first zero = refl
range_numbers first (suc count) =
    let next : suc (first + 1) ≡ suc first + 1 = omega arith in
    ap (λ (ks : List ℕ). suc first ∷ ks)
    (range_numbers (first + 1) count ∙ ap (λ (k : ℕ). range_with_len k count) next)

abbrev no_pair : Option (ℕ × ℕ)
no_pair = None

pub made : (n : ℕ) → n < 4294967296
    → (table_of (replicate n None) (filled n n) ≡ empty_table n) × IsKept (replicate n None) (filled n n)
made n few =
    let none : n - n ≡ 0 = omega arith in
    let is : table_of (replicate n None) (filled n n) ≡ empty_table n =
    table_is (replicate n None) (filled n n) (range_with_len 1 n) []
    (ap (λ (k : ℕ). map suc (range_with_len k n)) none ∙ range_numbers 0 n) refl in
    let size = length-replicate n no_pair in (
      is,
      record {
        table = subst IsTable (sym is) (empty_is_table n);
        small = (omega (arith, size, few));
        nodes = sym size;
        lists = refl;
      },
    )

-- a table as it is made
pub all_filled : {pairs : Pairs} {links : NodeLists} (n count : ℕ) → pairs ≡ replicate n None → links ≡ filled n count
    → n < 4294967296 → count ≡ n → (table_of pairs links ≡ empty_table n) × IsKept pairs links
all_filled {pairs} {links} n count pairs_are links_are few all =
    let links_full : links ≡ filled n n = links_are ∙ ap (filled n) all in
    subst (λ (ps : Pairs). (table_of ps links ≡ empty_table n) × IsKept ps links) (sym pairs_are)
    (subst (λ (ls : NodeLists). (table_of (replicate n None) ls ≡ empty_table n) × IsKept (replicate n None) ls)
    (sym links_full) (made n few))

-- a node in the list of the live ones is below the number of pairs
pub live_below : {pairs : Pairs} {links : NodeLists} (at node : ℕ) → IsKept pairs links
    → slice_get (list_at links 1) at ≡ Some node → node < length pairs
live_below {pairs} {links} at node kept is =
    let there = has_number (list_at links 1) node (got (list_at links 1) at node is) in
    live_index pairs node ((kept.table.live (suc node)).0 there)

-- the pair that is read there
pub read_pair : {pairs : Pairs} {links : NodeLists} (scion : ℕ) (read : Option (ℕ × ℕ)) → IsKept pairs links
    → IsLive (table_of pairs links) scion → read ≡ slice_index_or pairs (scion - 1) read
    → slice_index_or pairs (scion - 1) None ≡ read
read_pair {pairs} scion read kept live is =
    let place = placed scion kept live in
    get_or_default pairs (scion - 1) None read (omega (arith, place.from_1, place.in_range)) ∙ sym is

-- what is after a live scion in a walk
pub after_live : {pairs : Pairs} {links : NodeLists} (scion : ℕ) (result : Option ℕ) → IsKept pairs links
    → IsLive (table_of pairs links) scion
    → ((list at : ℕ) → slice_get (list_at links list) at ≡ Some (scion - 1)
    → result ≡ slice_get (list_at links list) (suc at))
    → next_after (table_of pairs links).live scion ≡ option_map suc result
after_live {pairs} {links} scion result kept live tells =
    let place = placed scion kept live in
    let nodes : List ℕ = list_at links 1 in
    let at : ℕ = place.stands.0 in
    let is : slice_get nodes at ≡ Some (scion - 1) =
    slice_get-get_or nodes at (scion - 1) place.stands.1 ∙ ap Some place.stands.2 in
    ap (next_after (map suc nodes)) place.next
    ∙ (number_after nodes at (scion - 1) kept.table.live_once is ∙ ap (option_map suc) (sym (tells 1 at is)))

-- the number after it is that of a node
pub after_below : {pairs : Pairs} {links : NodeLists} (scion node : ℕ) (result : Option ℕ) → IsKept pairs links
    → IsLive (table_of pairs links) scion
    → ((list at : ℕ) → slice_get (list_at links list) at ≡ Some (scion - 1)
    → result ≡ slice_get (list_at links list) (suc at))
    → result ≡ Some node → node < length pairs
after_below {pairs} {links} scion node result kept live tells is =
    let place = placed scion kept live in
    let nodes : List ℕ = list_at links 1 in
    let at : ℕ = place.stands.0 in
    let here : slice_get nodes at ≡ Some (scion - 1) =
    slice_get-get_or nodes at (scion - 1) place.stands.1 ∙ ap Some place.stands.2 in
    live_below (suc at) node kept (sym (tells 1 at here) ∙ is)
