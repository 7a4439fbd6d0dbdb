-- One more round, and one more draw.
use Rattle.std.proofs.Common.{◌≡◌, ℕ, suc, ◌+◌, List, [], ◌∷◌, ◌++◌, map, sym, ap, ◌∙◌, arith, append_assoc, append-nil}
use Rattle.std.proofs.lemmas.List.{map-append}
use Rattle.rand_xoshiro.specs.SplitMix64.{mix_u64}
use Rattle.melt_model.specs.declared.operations.Op.{Op}
use Rattle.melt_trace.specs.declared.script.Item.{Item}
use Rattle.melt_trace.specs.declared.script.Item.TheVariants as item
use Rattle.melt_gen.specs.Workloads.{drawn, rounds, state_after}

-- a lemma of functions at suc k, where the code counts to k + 1
pub next_round : (round : ℕ → List Op) (k : ℕ) → rounds round (k + 1) ≡ rounds round k ++ round k
next_round round k = let on : k + 1 ≡ suc k = omega arith in ap (rounds round) on

-- the lines of operations stand after those of others
pub written_after : (start new old : List Item) (before ops : List Op) → new ≡ old ++ map item.Op ops
    → old ≡ start ++ map item.Op before → new ≡ start ++ map item.Op (before ++ ops)
written_after start new old before ops e f =
    e ∙ ap (λ (lines : List Item). lines ++ map item.Op ops) f
    ∙ append_assoc start (map item.Op before) (map item.Op ops)
    ∙ ap (λ (lines : List Item). start ++ lines) (sym (map-append item.Op before ops))

pub draw_is : (seed n state word next : ℕ) → (word, next) ≡ mix_u64 state → state ≡ state_after seed n
    → word ≡ drawn seed n
unfolding drawn
draw_is seed n state word next e f = ap (λ p. p.0) e ∙ ap (λ (s : ℕ). (mix_u64 s).0) f

pub next_state_is : (seed n state word next : ℕ) → (word, next) ≡ mix_u64 state → state ≡ state_after seed n
    → next ≡ state_after seed (n + 1)
next_state_is seed n state word next e f =
    let on : suc n ≡ n + 1 = omega arith in
    ap (λ p. p.1) e ∙ ap (λ (s : ℕ). (mix_u64 s).1) f ∙ ap (state_after seed) on

-- the lines of one more round
pub round_written : (start : List Item) (first : List Op) (round : ℕ → List Op) (k : ℕ) {new old : List Item}
    {ops : List Op} → new ≡ old ++ map item.Op ops → ops ≡ round k
    → old ≡ start ++ map item.Op (first ++ rounds round k) → new ≡ start ++ map item.Op (first ++ rounds round (k + 1))
round_written start first round k {new} {old} {ops} e f g =
    written_after start new old (first ++ rounds round k) ops e g
    ∙ ap (λ (more : List Op). start ++ map item.Op ((first ++ rounds round k) ++ more)) f
    ∙ ap (λ (all : List Op). start ++ map item.Op all)
    (append_assoc first (rounds round k) (round k)
    ∙ ap (λ (more : List Op). first ++ more) (sym (next_round round k)))

-- what was written is what the operations are
pub same_lines : (new old : List Item) (ops wanted : List Op) → ops ≡ wanted → new ≡ old ++ map item.Op ops
    → new ≡ old ++ map item.Op wanted
same_lines new old ops wanted same e = e ∙ ap (λ (more : List Op). old ++ map item.Op more) same

pub nothing_written : (old : List Item) (wanted : List Op) → wanted ≡ [] → old ≡ old ++ map item.Op wanted
nothing_written old wanted none = sym (append-nil old) ∙ ap (λ (more : List Op). old ++ map item.Op more) (sym none)

-- the first operation of those that were left
pub first_written : (new old : List Item) (first : Op) (rest all : List Op)
    → new ≡ old ++ map item.Op (first ∷ []) → all ≡ first ∷ rest
    → new ++ map item.Op rest ≡ old ++ map item.Op all
first_written new old first rest all e f =
    ap (λ (lines : List Item). lines ++ map item.Op rest) e
    ∙ append_assoc old (item.Op first ∷ []) (map item.Op rest)
    ∙ ap (λ (ops : List Op). old ++ map item.Op ops) (sym f)
