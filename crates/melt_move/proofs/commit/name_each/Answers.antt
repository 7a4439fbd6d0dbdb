use Rattle.std.proofs.Common.{arith, sym, ◌∙◌, ap, subst, ◌≡◌, ◌+◌, ℕ, length}
use Rattle.std.specs.Prelude.{slice_get, slice_index_or, Option, Some}
use Rattle.melt_scion.specs.HomeNames.{NamedHomes, home_name}
use Rattle.melt_scion.specs.Names.{name_at}
use Rattle.melt_scion.proofs.HomeNumbers.{home_set, home_set_others}
use Rattle.melt_move.specs.NamedHomes.{home_at}
use Rattle.melt_move.proofs.Elements.{read_at}
use Rattle.melt_move.proofs.Naming.{home_at-next, spare_falls, NamesFirst, names_more, names_same, names_all}
use Rattle.melt_move.proofs.Needs.{need-front}
use Rattle.melt_move.proofs.commit.name_each.Given.{Over}
use Rattle.melt_move.proofs.commit.name_each.Goals as goal
use Rattle.melt_move.proofs.commit.name_each.Goals.{After-get, in-Some, in_default}

-- the object of this turn
turn_is : (g : Over) (c : After-get g)
    → slice_get c.args.homes.now.given.items c.loop-g.g-index
    ≡ Some (slice_index_or c.deref-g-items.result.now c.loop-g.g-index (record {
      from = 0;
      shape = record { refs = 0; nums = 0 };
    }))
turn_is g c =
    read_at c.deref-g-items.result.now c.args.homes.now.given.items c.loop-g.g-index _
    c.deref-g-items.ensures.value c.loop-g-test.true

pub overflow_cast-home : goal.overflow_cast-home
overflow_cast-home g c =
    let at = turn_is g (goal.at.overflow_cast-home g c).After-get in
    let front = need-front c.args.homes.now.given.items c.loop-g.g-index _ at in
    omega (arith, front, c.loop-g.invariant.home_is, c.requires.room)

pub overflow_add-home : goal.overflow_add-home
overflow_add-home g c =
    let at = turn_is g (goal.at.overflow_add-home g c).After-get in
    let front = need-front c.args.homes.now.given.items c.loop-g.g-index _ at in
    omega (
      arith,
      front,
      c.loop-g.invariant.home_is,
      c.requires.room,
      c.from-home-in-loop-g.ensures,
      c.cost.ensures,
    )

pub loop-g-preserved : goal.loop-g-preserved
loop-g-preserved g c =
    let homes = c.args.homes.now in
    let i = c.loop-g.g-index in
    let at = turn_is g (goal.at.loop-g-preserved g c).After-get in
    let next : c.loop-g.home + c.from-home-in-loop-g.result ≡ home_at homes (i + 1) =
    omega (
      arith,
      home_at-next homes i _ at,
      c.loop-g.invariant.home_is,
      c.from-home-in-loop-g.ensures,
      c.cost.ensures,
    ) in
    let number : ℕ → Option ℕ = name_at c.args.addresses.now in
    let old : ℕ → Option ℕ = home_name c.args.names.now in
    elim c.match-get.branch [
      | in-Some w ↦
          let now : NamedHomes = w.set.new.self in
          let there : c.loop-g.home ≡ home_at homes i = c.loop-g.invariant.home_is in
          let here : home_name now (home_at homes i) ≡ Some w.in-Some.number =
          subst (λ (home : ℕ). home_name now home ≡ Some w.in-Some.number) there
          (home_set c.loop-g.names now c.loop-g.home w.in-Some.number w.set.ensures.names) in
          let more : NamesFirst homes (i + 1) number old (home_name now) =
          names_more (home_name now) at c.loop-g.invariant.names c.get.ensures w.in-Some.is here
          (λ q other. home_set_others c.loop-g.names now c.loop-g.home w.in-Some.number q w.set.ensures.names
          (λ same. other (same ∙ there))) in
          let falls = spare_falls _ c.loop-g.names.spare now.spare w.set.ensures.spare in
          record {
            home_is = next;
            names = subst (λ (n : NamedHomes). NamesFirst homes (i + 1) number old (home_name n)) (sym w.names-is) more;
            spare = (let same = ap (λ (n : NamedHomes). n.spare) w.names-is in
                omega (arith, falls, same, c.loop-g.invariant.spare));
            visits = omega (arith, c.loop-g.invariant.visits, c.tick.ensures);
          }
      | in_default w ↦
          let same : NamesFirst homes (i + 1) number old (home_name c.loop-g.names) =
          names_same at c.loop-g.invariant.names c.get.ensures w.in_default.is in
          record {
            home_is = next;
            names = subst (λ (n : NamedHomes). NamesFirst homes (i + 1) number old (home_name n)) (sym w.names-is) same;
            spare = (let kept = ap (λ (n : NamedHomes). n.spare) w.names-is in
                omega (arith, kept, c.loop-g.invariant.spare));
            visits = omega (arith, c.loop-g.invariant.visits, c.tick.ensures);
          }
    ]

pub returns-clause-names : goal.returns-clause-names
returns-clause-names g c =
    let whole = ap length c.deref-g-items.ensures.value in
    names_all c.args.homes.now _ _ _ _ (omega (arith, whole, c.loop-g-test.false, c.loop-g.auto.g-index-end))
    c.loop-g.invariant.names
