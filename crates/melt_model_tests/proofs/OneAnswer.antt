-- One operation of a transcript.
use Rattle.std.proofs.Common.{◌≡◌, ◌↔◌, ℕ, ◌+◌, ◌<◌, ◌≤◌, List, [], ◌∷◌, length, drop, get_or, refl, sym, subst}
use Rattle.std.proofs.Common.{add-one}
use Rattle.std.proofs.Math.Seq.{drop-cons}
use Rattle.std.proofs.Math.ListN.{drop_of_length-le}
use Rattle.melt_model.specs.Thread.{Deed, Thread, deed, places_left, Takes, Answered}
use Rattle.melt_model.specs.declared.history.Entry.{Entry}
use Rattle.melt_model.specs.declared.operations.Op.{Op}
use Rattle.melt_model.specs.declared.operations.Reply.{Reply}

drop_more : {A : Type 0} (xs : List A) (k : ℕ) (x d : A) → k < length xs → x ≡ get_or xs k d
    → drop k xs ≡ x ∷ drop (k + 1) xs
drop_more xs k x d below is = cc (drop-cons xs k d below, is, add-one k)

answered_more : (h : List Entry) (a : Thread) (o : Op) (ops : List Op) (replies : List Reply) (d : Deed)
    → d ≡ deed h a o → Takes h d.act a.places → Answered h a (o ∷ ops) (d.reply ∷ replies)
    ↔ Answered h (record { registers = d.registers; places = places_left d.act a.places }) ops replies
answered_more h a o ops replies d is takes =
    let P : Deed → Type 0 = λ e. Answered h a (o ∷ ops) (e.reply ∷ replies)
    ↔ Answered h (record { registers = e.registers; places = places_left e.act a.places }) ops replies in
    let same : Takes h (deed h a o).act a.places = subst (λ (e : Deed). Takes h e.act a.places) is takes in
    let here : P (deed h a o) = (λ answered. answered.2, λ answered. (refl, same, answered)) in
    subst P (sym is) here

-- an operation that got its reply, and the thread after it
pub answered_drop : (h : List Entry) (a : Thread) (ops : List Op) (replies : List Reply) (k : ℕ) {o : Op} (r : Reply)
    {d : Deed} {left : List ℕ} → k < length ops → k < length replies → o ≡ get_or ops k o → d ≡ deed h a o
    → d.reply ≡ get_or replies k r → Takes h d.act a.places → left ≡ places_left d.act a.places
    → Answered h a (drop k ops) (drop k replies)
    ↔ Answered h (record { registers = d.registers; places = left }) (drop (k + 1) ops) (drop (k + 1) replies)
answered_drop h a ops replies k {o} r {d} {left} in_ops in_replies op_is is told takes left_is =
    let P : List Op → List Reply → List ℕ → Type 0 = λ os rs ps. Answered h a os rs
    ↔ Answered h (record { registers = d.registers; places = ps }) (drop (k + 1) ops) (drop (k + 1) replies) in
    subst (λ (os : List Op). P os (drop k replies) left) (sym (drop_more ops k o o in_ops op_is))
    (subst (λ (rs : List Reply). P (o ∷ drop (k + 1) ops) rs left) (sym (drop_more replies k d.reply r in_replies told))
    (subst (λ (ps : List ℕ). P (o ∷ drop (k + 1) ops) (d.reply ∷ drop (k + 1) replies) ps) (sym left_is)
    (answered_more h a o (drop (k + 1) ops) (drop (k + 1) replies) d is takes)))

-- more replies than operations
pub unasked : (h : List Entry) (a : Thread) (ops : List Op) (replies : List Reply) (k : ℕ) (r : Reply) → length ops ≤ k
    → k < length replies → Answered h a (drop k ops) (drop k replies) → ⊥
unasked h a ops replies k r past below answered =
    let none : drop k ops ≡ [] = drop_of_length-le ops past in
    let P : List Reply → Type 0 = λ rs. Answered h a [] rs in
    subst P (drop-cons replies k r below) (subst (λ (os : List Op). Answered h a os (drop k replies)) none answered)
