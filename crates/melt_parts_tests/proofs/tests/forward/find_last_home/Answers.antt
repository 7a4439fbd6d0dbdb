use Rattle.std.proofs.Common.{◌≡◌, refl, sym, subst, lit≤}
use Rattle.std.specs.Prelude.{slice_set}
use Rattle.melt_forward.specs.Forwarding.{AreForwarding, HaveNoGaps, IsForwarding, Sends, probe, start}
use Rattle.melt_forward.proofs.Probing.{probe_by_test}
use Rattle.melt_parts_tests.proofs.Gaps.{first_set, rest_are_forwarding, rest_without_gaps}
use Rattle.melt_parts_tests.proofs.tests.forward.find_last_home.Goals as goal

filled_sends : Sends 207296596541444 48265 1
filled_sends = record {
  home_in_range = record { not_null = lit≤ tt; small = lit≤ tt };
  address_in_range = record { not_null = lit≤ tt; small = lit≤ tt };
  is = refl;
}

-- the search for its home comes to place 0 last
ends : probe 48265 65536 65535 ≡ 0
unfolding start
ends = sym ((probe_by_test 48265 65536 65535 (lit≤ tt)).1 (lit≤ tt))

pub find-requires-clause-words : goal.find-requires-clause-words
find-requires-clause-words c =
    let made = c.in_ok-words.ensures.items_if_clones_equal (λ y is. is) in
    let has = first_set c.in_ok-words.words.items 65536 207296596541444 c.args.first made (lit≤ tt) in
    let d = c.deref.ensures.value in
    let e = c.index_mut.ensures.writes_back in
    let f = c.index_mut.ensures.value in
    let is : slice_set c.in_ok-words.words.items 0 c.args.first ≡ c.deref.result.now = cc in
    subst AreForwarding is
    (rest_are_forwarding _ 65536 207296596541444 48265 1 has.0 filled_sends (subst IsForwarding (sym has.1) c.requires))

pub find-requires-clause-no_gaps : goal.find-requires-clause-no_gaps
find-requires-clause-no_gaps c =
    let made = c.in_ok-words.ensures.items_if_clones_equal (λ y is. is) in
    let has = first_set c.in_ok-words.words.items 65536 207296596541444 c.args.first made (lit≤ tt) in
    let d = c.deref.ensures.value in
    let e = c.index_mut.ensures.writes_back in
    let f = c.index_mut.ensures.value in
    let is : slice_set c.in_ok-words.words.items 0 c.args.first ≡ c.deref.result.now = cc in
    subst HaveNoGaps is (rest_without_gaps _ 65536 207296596541444 48265 1 has.0 filled_sends ends)
