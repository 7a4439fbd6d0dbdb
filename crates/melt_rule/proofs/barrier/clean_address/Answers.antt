use Rattle.std.proofs.Common.{◌≡◌, ℕ, zero, suc, ◌*◌, ◌^◌, ◌<◌, arith}
use Rattle.melt_word.specs.Words.{IsRef, ref_word}
use Rattle.melt_word.specs.declared.reference.Ref.{Ref}
use Rattle.melt_word.specs.declared.reference.Ref.TheVariants.{Null, Clean}
use Rattle.melt_rule.proofs.barrier.clean_address.Goals as goal

-- four times an address is the word of a clean reference, or of none
clean_word : (word address : ℕ) → address < 2 ^ 30 → word ≡ 4 * address → ((r : Ref) → IsRef r → word ≡ ref_word r → ⊥)
    → ⊥
clean_word word zero small is none = none Null tt (omega arith)
clean_word word (suc a) small is none = none (Clean (suc a)) (record { not_null = omega arith; small = small }) is

pub unreachable-requires : goal.unreachable-requires
unreachable-requires c = clean_word c.args.word c.requires.0 c.requires.1.0 c.requires.1.1 c.in_default.ensures.err
