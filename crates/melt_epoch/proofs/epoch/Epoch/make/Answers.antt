use Rattle.std.proofs.Common.{◌≡◌, ℕ, ◌++◌, Ok, refl, sym, ◌∙◌, ap, subst, inl, inr}
use Rattle.std.specs.Prelude.{Some, slice_set}
use Rattle.melt_core.proofs.Answers.{new_answers}
use Rattle.melt_core.specs.Answering.{entry}
use Rattle.melt_model.specs.History.{made}
use Rattle.melt_model.specs.declared.history.Act.TheVariants.{Make}
use Rattle.melt_model.specs.declared.history.Value.TheVariants.{Ref}
use Rattle.melt_model.specs.declared.operations.Op.TheVariants.{New}
use Rattle.melt_model.specs.declared.operations.Reply.TheVariants as reply
use Rattle.melt_word.specs.declared.header.Shape.{Shape}
use Rattle.melt_rule.specs.Seats.{knows_of}
use Rattle.melt_rule.specs.declared.view.View.{View}
use Rattle.melt_epoch.proofs.Holding.{holds_only, last_given-push}
use Rattle.melt_epoch.proofs.Plainly.{adds_replies}
use Rattle.melt_epoch.proofs.Seated.{by_seats, seated_by, seated_held}
use Rattle.melt_epoch.specs.Calls.{Made, MakesFor}
use Rattle.melt_epoch.specs.Mutators.{IsSeated, last_given}
use Rattle.melt_epoch.specs.declared.mutator.Mutator.{Mutator}
use Rattle.melt_epoch.proofs.epoch.Epoch.make.Goals as goal

-- the value of a new object is what its entry gives
value_made : (v w : View) (z : Shape) (address : ℕ) (is : Made v w z address)
    → last_given w.seen ≡ Ref (made (v.seen ++ is.adds.between))
value_made v w z address is =
    ap last_given is.adds.seen ∙ last_given-push (v.seen ++ is.adds.between) (entry v.thread (Make z.refs z.nums))

pub returns-in_err-address-clause-seated : goal.returns-in_err-address-clause-seated
returns-in_err-address-clause-seated g c =
    let words = c.args.self.now.words in
    let m = c.args.m.now in
    let seat = c.in-Some.seat.now in
    let new = c.make_object.new.seat in
    let idle = c.in_err-address.ensures.seat in
    elim c.in_err-address.ensures.makes [
      | inl asks ↦ seated_by words m c.requires.seated seat c.in-Some.ensures.value new idle asks.counts.thread
          asks.counts.parts asks.counts.away asks.counts.known
      | inr lacks ↦ seated_by words m c.requires.seated seat c.in-Some.ensures.value new idle lacks.lacked.thread
          lacks.lacked.parts lacks.lacked.away lacks.lacked.known
    ]

pub returns-clause-seated : goal.returns-clause-seated
returns-clause-seated g c =
    let words = c.args.self.now.words in
    let m = c.args.m.now in
    let seat = c.in-Some.seat.now in
    let new = c.make_object.new.seat in
    let z : Shape = record { refs = c.args.refs; nums = c.args.nums } in
    let is = c.in_ok-address.ensures.makes in
    let value = last_given (knows_of new).seen in
    subst (IsSeated words) (sym c.hold.ensures.holds)
    (seated_held words m c.requires.seated seat c.in-Some.ensures.value c.args.dst c.in_ok-address.address value
    c.in_ok-address.ensures.seat is.counts c.hold.ensures.sixteen c.requires.register (inr (
      made ((knows_of seat).seen ++ is.adds.between),
      value_made (knows_of seat) (knows_of new) z
          c.in_ok-address.address is,
      is.names,
    )))

pub returns-clause-made : goal.returns-clause-made
returns-clause-made g c = (
  ap (λ (x : Mutator _). x.thread) c.hold.ensures.holds,
  ap (λ (x : Mutator _). x.reader) c.hold.ensures.holds,
  λ s t at_s at_t.
      let m = c.args.m.now in
      let seat = c.in-Some.seat.now in
      let new = c.make_object.new.seat in
      let z : Shape = record { refs = c.args.refs; nums = c.args.nums } in
      let is = c.in_ok-address.ensures.makes in
      let o = New c.args.dst c.args.refs c.args.nums in
      let there : c.hold.new.self.seat ≡ Some new = ap (λ (x : Mutator _). x.seat) c.hold.ensures.holds in
      let values : c.hold.new.self.values ≡ slice_set m.values c.args.dst
      (Ref (made ((knows_of seat).seen ++ is.adds.between))) =
      ap (λ (x : Mutator _). x.values) c.hold.ensures.holds
      ∙ ap (slice_set m.values c.args.dst) (value_made (knows_of seat) (knows_of new) z c.in_ok-address.address is) in
      by_seats (λ (v w : View). MakesFor v w m.values c.hold.new.self.values o z (Ok reply.Done))
      c.in-Some.ensures.value there at_s at_t (
        adds_replies (knows_of new) m.values c.hold.new.self.values o reply.Done is.adds
            (λ told. new_answers (knows_of seat).thread ((knows_of seat).seen ++ is.adds.between) m.values c.args.dst
            c.args.refs c.args.nums refl values refl),
        is.counts,
      ),
)

pub returns-clause-holds : goal.returns-clause-holds
returns-clause-holds g c =
    let m = c.args.m.now in
    let new = c.make_object.new.seat in
    let value = last_given (knows_of new).seen in (
      c.in_ok-address.address,
      value,
      holds_only m (Some new) m.reader c.args.dst c.in_ok-address.address value c.hold.ensures.holds,
    )
