use Rattle.std.proofs.Common.{◌≡◌, ℕ, ◌+◌, ◌-◌, List, [], ◌∷◌, ◌≤◌, length, slice_set, arith, rules, drop}
use Rattle.std.proofs.lemmas.List.{append-nil, drop_all}
use borrow.Rule.Slice.PartMut.{put_mid}
use Rattle.melt_record.proofs.encode.encode_body.Goals as goal

-- the two words of the head are set, and the rest is put after them
written : (first n : ℕ) (out rest slots : List ℕ) → length out ≡ 2 + length slots → n ≡ length out - 2 → rest ≡ slots
    → put_mid 2 n (slice_set (slice_set out 0 first) 1 0) rest ≡ first ∷ 0 ∷ slots
written first n [] rest slots long size same = absurd (omega arith)
written first n (x ∷ []) rest slots long size same = absurd (omega arith)
written first n (x ∷ y ∷ out) rest slots long size same =
    let all : length out ≤ n = omega arith in
    let none : drop n out ≡ [] = drop_all n out all in
    simp (none, append-nil, same)

pub returns : goal.returns
returns c = search (rules, written)
