use Rattle.std.proofs.Common.{◌≡◌, ◌≤◌, ◌<◌, ◌-◌, ℕ, List, Bool, Result, Ok, Err, IsOk, OnOk, Some, if◌then◌else◌, refl}
use Rattle.std.proofs.Common.{ap, sym, subst, ◌∙◌, arith}
use Rattle.std.specs.Prelude.{IsSome, nat_eq}
use Rattle.std.specs.Map.{lookup}
use Rattle.std.specs.HashMap as hash
use Rattle.std.specs.Ordering.{nat_cmp}
use Rattle.std.specs.FinMap.{insert, contains_key, from_entries}
use Rattle.melt_scion.specs.HomeNames.{NamedHomes, home_name}
use Rattle.melt_scion.proofs.HomeNumbers.{name_is, name_set, named, not_named}
use Rattle.melt_scion.proofs.home_names.HomeNames.set.Goals as goal

ok_says : {T E P : Type 0} (r : Result T E) → IsOk r → OnOk r P → P
ok_says (Ok x) is says = says
ok_says (Err e) is says = absurd (cc)

pub returns-in-Some-clause-names : goal.returns-in-Some-clause-names
returns-in-Some-clause-names c =
    let entries = c.self.inside.numbers.entries in
    let known : Some c.in-Some.known.now ≡ lookup (nat_eq c.args.home) entries = c.in-Some.ensures.value in
    let updates = (c.get_mut.follows.holds c.args.number).3 (subst IsSome known refl) in
    name_set entries (c.get_mut.follows.lender c.args.number).entries c.args.home c.args.number updates.0
    ∙ ap (λ (homes : NamedHomes). insert homes.names c.args.home c.args.number) c.self.view_is

pub returns-in-Some-clause-spare : goal.returns-in-Some-clause-spare
returns-in-Some-clause-spare c =
    let has = named c.self.inside.numbers.entries c.args.home c.in-Some.known.now (sym c.in-Some.ensures.value) in
    let there = ap (λ (homes : NamedHomes). contains_key homes.names c.args.home) (sym c.self.view_is) ∙ has in
    let spare = c.args.self.now.spare in
    ap (λ (homes : NamedHomes). homes.spare) c.self.view_is
    ∙ sym (ap (λ (b : Bool). if b then spare else spare - 1) there)

pub overflow_sub-self : goal.overflow_sub-self
overflow_sub-self c =
    let entries = c.self.inside.numbers.entries in
    let none = name_is entries c.args.home ∙ sym c.in_default.ensures.value in
    let room = c.requires.room (ap (λ (homes : NamedHomes). home_name homes c.args.home) (sym c.self.view_is) ∙ none) in
    subst (λ (homes : NamedHomes). 1 ≤ homes.spare) (sym c.self.view_is) room

pub returns-clause-names : goal.returns-clause-names
returns-clause-names c =
    let kept = c.get_mut.follows.holds-at-none in
    let entries = c.get_mut.follows.lender-at-none.entries in
    let none = name_is c.self.inside.numbers.entries c.args.home ∙ sym c.in_default.ensures.value in
    let asked = c.requires.room
    (ap (λ (homes : NamedHomes). home_name homes c.args.home) (sym c.self.view_is) ∙ none) in
    let spare = ap (λ (homes : NamedHomes). homes.spare) c.self.view_is in
    let room : 0 < hash.spare c.get_mut.follows.lender-at-none =
    rw kept (omega (arith, c.self.invariant, asked, spare)) in
    let updates = ok_says c.insert-added.result (c.insert-added.ensures.succeeds room) c.insert-added.ensures.updates in
    name_set entries c.insert-added.new.self.entries c.args.home c.args.number updates.0
    ∙ (ap (λ (es : List (ℕ × ℕ)). insert (from_entries {R = nat_cmp} es) c.args.home c.args.number)
    (ap (λ m. m.entries) kept)
    ∙ ap (λ (homes : NamedHomes). insert homes.names c.args.home c.args.number) c.self.view_is)

pub returns-clause-spare : goal.returns-clause-spare
returns-clause-spare c =
    let lacks = not_named c.self.inside.numbers.entries c.args.home (sym c.in_default.ensures.value) in
    let there = ap (λ (homes : NamedHomes). contains_key homes.names c.args.home) (sym c.self.view_is) ∙ lacks in
    let spare = c.args.self.now.spare in
    ap (λ (homes : NamedHomes). homes.spare - 1) c.self.view_is
    ∙ sym (ap (λ (b : Bool). if b then spare else spare - 1) there)
