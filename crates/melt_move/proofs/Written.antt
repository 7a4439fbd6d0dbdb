-- Bodies that were written one after the other.
use Rattle.std.proofs.Common.{◌≡◌, ℕ, ◌+◌, ◌<◌, ◌≤◌, List, length, refl, sym, subst, ap, ◌∙◌, arith}
use Rattle.std.proofs.Common.{inl, inr, suc, get_or, Option, Result, Ok, Err, OnOk}
use Rattle.std.specs.Prelude.{slice_get, slice_index, Some}
use Rattle.std.proofs.lemmas.Bool.Decides.{eqb_tells}
use Rattle.std.proofs.lemmas.Option.{same_Some, slice_get-get_or}
use Rattle.melt_io.specs.Outside.{Writes}
use Rattle.melt_word.specs.Words.{IsShape, cost_of}
use Rattle.melt_record.specs.Records.{IsHead, body_words}
use Rattle.melt_record.specs.declared.head.Kind.TheVariants.{Body}
use Rattle.melt_record.specs.declared.head.Head.{Head}
use Rattle.melt_disk.specs.Homes.{LiesIn}
use Rattle.melt_space.specs.Space.{SpaceWords, word_at}
use Rattle.melt_scion.specs.State.{State}
use Rattle.melt_scion.specs.Heaps.{Shows}
use Rattle.melt_scion.specs.Moves.{WordBecomes, body_ref}
use Rattle.melt_move.specs.declared.choice.Departure.{Departure}
use Rattle.melt_move.specs.declared.decision.Decision.{Decision}
use Rattle.melt_move.specs.Plans.{IsDecision, HasRoom, home_by, need_for}
use Rattle.melt_move.specs.Bodies.{Departs, EncodesSlots, HasBody, WritesBodies, WritesBody}
use Rattle.melt_move.proofs.HomeBy.{HomeLies, home_lies}
use Rattle.melt_move.proofs.KeptWords.{home_by_seen}
use Rattle.melt_move.proofs.Showing.{Puts, ShowsWrite, write_shows}

-- the home of an object that leaves
departs_home : (space : SpaceWords) (s : State) (decision : Decision) (d : Departure) → Departs space s decision d
    → HomeLies s decision d.from (home_by s.word decision d.from)
departs_home space s decision d departs =
    home_lies space s decision d.from departs.decided departs.room departs.leaves.0
    (λ had_none. record { why = inl departs.leaves; had_none = had_none })

-- the shape of an object that leaves
pub departs_shape : (space : SpaceWords) (s : State) (decision : Decision) (d : Departure)
    → Departs space s decision d → IsShape d.shape
departs_shape space s decision d departs = subst IsShape departs.shaped.is departs.shaped.starts.in_range

-- it lies between word 1 and the end of all homes
body_within : (space : SpaceWords) (s : State) (decision : Decision) (d : Departure) (end : ℕ)
    → Departs space s decision d → end ≡ decision.homes.first + need_for decision.homes.given.items
    → home_by s.word decision d.from + cost_of d.shape ≤ end
body_within space s decision d end departs is =
    let within = (departs_home space s decision d departs).within departs.shaped.header departs.shaped.starts in
    omega (arith, is, within, ap cost_of departs.shaped.is)

pub body_lies : (space : SpaceWords) (s : State) (decision : Decision) (d : Departure) (end home : ℕ)
    → Departs space s decision d → end ≡ decision.homes.first + need_for decision.homes.given.items
    → home ≡ home_by (word_at space) decision d.from → LiesIn 1 end (record { at = home; shape = d.shape })
body_lies space s decision d end home departs is at =
    let same : home ≡ home_by s.word decision d.from =
    at ∙ sym (home_by_seen space s decision d.from departs.decided) in
    record {
      begins = omega (arith, same, (departs_home space s decision d departs).first);
      shape = departs_shape space s decision d departs;
      ends = omega (arith, same, body_within space s decision d end departs is);
    }

-- the words of a Body stand in an image
body_stands : {space : SpaceWords} {s : State} {decision : Decision} {d : Departure} {end : ℕ} {slots : List ℕ}
    {old new : ℕ → ℕ} → Departs space s decision d → end ≡ decision.homes.first + need_for decision.homes.given.items
    → EncodesSlots s decision d slots → length slots ≡ d.shape.refs + d.shape.nums
    → Puts old (home_by s.word decision d.from) (body_words (home_by s.word decision d.from) d.shape slots) new
    → WritesBody s (home_by s.word decision) end d old new
body_stands {space} {s} {decision} {d} {end} {slots} {new} departs is encodes size puts =
    let home : ℕ = home_by s.word decision d.from in
    let words : List ℕ = body_words home d.shape slots in
    let count : length words ≡ cost_of d.shape = omega (arith, size) in
    let slot : (i : ℕ) → i < d.shape.refs + d.shape.nums → new (home + 2 + i) ≡ slice_index slots i =
    λ i below.
    let place : home + 2 + i ≡ home + (2 + i) = omega arith in
    let later : 2 + i ≡ suc (suc i) = omega arith in
    let next : slice_index words (2 + i) ≡ slice_index slots i = ap (slice_index words) later in
    ap new place ∙ (puts.here (2 + i) (omega (arith, below, count)) ∙ next) in
    record {
      body = record {
        head = record {
          first_word = record {
            in_range = departs_shape space s decision d departs;
            within = body_within space s decision d end departs is;
            spelled = ap new (let none : home ≡ home + 0 = omega arith in none) ∙ puts.here 0 (omega (arith, count));
          };
          second_word = puts.here 1 (omega (arith, count));
        };
        slots = λ i below.
            subst (WordBecomes (body_ref (home_by s.word decision)) (s.word (d.from + 2 + i)))
            (sym (slot i (omega (arith, below)))) (encodes.references i below);
        numbers = λ j below.
            ap new (let sum : home + 2 + d.shape.refs + j ≡ home + 2 + (d.shape.refs + j) = omega arith in sum)
            ∙ (slot (d.shape.refs + j) (omega (arith, below)) ∙ encodes.numbers j below);
      };
      others = λ at outside. puts.others at (elim outside [
        | inl before ↦ inl before
        | inr later ↦ inr (omega (arith, later, count))
      ]);
    }

-- the Body of an object that leaves was written, where the write ended well
pub body_shown : {E : Type 0} (result : Result Unit E) {space : SpaceWords} (decision : Decision) (d : Departure)
    {end home : ℕ} (slots : List ℕ) (old new : Option (List ℕ))
    → end ≡ decision.homes.first + need_for decision.homes.given.items → home ≡ home_by (word_at space) decision d.from
    → length slots ≡ d.shape.refs + d.shape.nums
    → ((s : State) → Departs space s decision d → EncodesSlots s decision d slots)
    → OnOk result (Writes old home (body_words home d.shape slots) new)
    → OnOk result ((s : State) (image : ℕ → ℕ) → Departs space s decision d → Shows old image → (after : ℕ → ℕ) × Shows
    new after × WritesBody s (home_by s.word decision) end d image after)
body_shown (Err failed) {space} decision d {home} slots old new is at size encodes writes = tt
body_shown (Ok done) {space} decision d {home} slots old new is at size encodes writes =
    λ s image departs shows.
    let same : home ≡ home_by s.word decision d.from =
    at ∙ sym (home_by_seen space s decision d.from departs.decided) in
    let shown : ShowsWrite new image home (body_words home d.shape slots) =
    write_shows old home (body_words home d.shape slots) new image shows writes in
    let puts = subst (λ (h : ℕ). Puts image h (body_words h d.shape slots) shown.after) same shown.puts in (
      shown.after,
      shown.shows,
      body_stands departs is (encodes s departs) size puts,
    )

-- an object of the list leaves
pub departs_in : (space : SpaceWords) (s : State) (decision : Decision) (list : List Departure) (k : ℕ) (d : Departure)
    → IsDecision space s decision → HasRoom decision → list ≡ decision.choice.leaving.items → k < length list
    → Departs space s decision (get_or list k d)
departs_in space s decision list k d decided room is below =
    let at : slice_get decision.choice.leaving.items k ≡ Some (get_or list k d) =
    ap (λ (l : List Departure). slice_get l k) (sym is) ∙ slice_get-get_or list k d below in
    let leaves = decided.choice.leave.each k (get_or list k d) at in
    record { decided = decided; room = room; leaves = leaves.0; shaped = leaves.1 }

-- a Body stays where its words do
body_stays : (s : State) (home : ℕ → ℕ) (end : ℕ) (old new : ℕ → ℕ) (d : Departure) → HasBody s home end old d
    → ((at : ℕ) → home d.from ≤ at → at < home d.from + cost_of d.shape → new at ≡ old at) → HasBody s home end new d
body_stays s home end old new d body same =
    let head : Head = record { shape = d.shape; kind = Body } in
    record {
      head =
          subst (λ (w : ℕ). IsHead (home d.from) end w (new (home d.from + 1)) head)
          (sym (same (home d.from) (omega arith) (omega arith)))
          (subst (λ (w : ℕ). IsHead (home d.from) end (old (home d.from)) w head)
          (sym (same (home d.from + 1) (omega arith) (omega arith))) body.head);
      slots = λ i below.
          subst (WordBecomes (body_ref home) (s.word (d.from + 2 + i)))
          (sym (same (home d.from + 2 + i) (omega arith) (omega (arith, below)))) (body.slots i below);
      numbers = λ j below. same (home d.from + 2 + d.shape.refs + j) (omega arith) (omega (arith, below))
          ∙ body.numbers j below;
    }

-- no Body was written yet
pub bodies_none : (s : State) (home : ℕ → ℕ) (end : ℕ) (leaving : List Departure) (image : ℕ → ℕ)
    → WritesBodies s home end leaving 0 image image
bodies_none s home end leaving image =
    record { bodies = λ apart k d below at. absurd (omega (arith, below)); others = λ at outside. refl }

-- one Body more
pub bodies_more : {s : State} {home : ℕ → ℕ} {end : ℕ} {leaving list : List Departure} {n : ℕ} (d : Departure)
    {image mid after : ℕ → ℕ} → list ≡ leaving → n < length list → WritesBodies s home end leaving n image mid
    → WritesBody s home end (get_or list n d) mid after → WritesBodies s home end leaving (n + 1) image after
bodies_more {s} {home} {end} {leaving} {list} {n} d {mid} {after} is within before more =
    let here : Departure = get_or list n d in
    let at_n : slice_get leaving n ≡ Some here =
    ap (λ (l : List Departure). slice_get l n) (sym is) ∙ slice_get-get_or list n d within in
    record {
      bodies = λ apart k e below at. elim (eqb_tells k n) [
        | inl same ↦
            let one : here ≡ e = same_Some here e (sym at_n ∙ (ap (slice_get leaving) (sym same.1) ∙ at)) in
            subst (HasBody s home end after) one more.body
        | inr other ↦
            let lower : k < n = omega (arith, below, other.1) in
            body_stays s home end mid after e (before.bodies apart k e lower at)
            (λ word first last. more.others word (elim (apart k n e here at at_n lower) [
              | inl front ↦ inl (omega (arith, last, front))
              | inr later ↦ inr (omega (arith, first, later))
            ]))
      ];
      others = λ word outside. more.others word (outside n here at_n)
          ∙ before.others word outside;
    }

-- an image after one Body more
pub bodies_shown : {s : State} {home : ℕ → ℕ} {end now : ℕ} {leaving list : List Departure} {n : ℕ} (d : Departure)
    (told next : Option (List ℕ)) {image : ℕ → ℕ} → list ≡ leaving → n < length list → now ≡ end
    → (mid : ℕ → ℕ) × Shows told mid × WritesBodies s home end leaving n image mid → ((mid : ℕ → ℕ) → Shows told mid →
    (after : ℕ → ℕ) × Shows next after × WritesBody s home now (get_or list n d) mid after)
    → (after : ℕ → ℕ) × Shows next after × WritesBodies s home end leaving (n + 1) image after
bodies_shown {s} {home} {list} {n} d told next is within same before write =
    let more = write before.0 before.1 in
    let body = subst (λ (e : ℕ). WritesBody s home e (get_or list n d) before.0 more.0) same more.2 in
    (more.0, more.1, bodies_more d is within before.2 body)
