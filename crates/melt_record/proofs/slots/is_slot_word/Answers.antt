use Rattle.std.proofs.Common.{◌≢◌, ℕ, ◌^◌, ◌<◌, inl, inr, arith}
use Rattle.melt_word.specs.Words.{IsRef, ref_word}
use Rattle.melt_word.specs.declared.reference.Ref.{Ref}
use Rattle.melt_word.specs.declared.reference.Ref.TheVariants.{Null, Disk}
use Rattle.melt_record.specs.Records.{IsSlotWord}
use Rattle.melt_record.proofs.slots.is_slot_word.Goals as goal

-- what is the word of no reference is no slot word
no_slot : (end word : ℕ) → end < 2 ^ 32 → ((r : Ref) → IsRef r → word ≢ ref_word r) → ¬ IsSlotWord end word
no_slot end word small none (inl null) = none Null tt null
no_slot end word small none (inr (home, above, below, same)) =
    none (Disk home) (record { not_null = above; small = omega arith }) same

pub returns-in-Err : goal.returns-in-Err
returns-in-Err c = (
  λ false_is_true. absurd (cc),
  λ slot. absurd (no_slot c.args.end c.args.word (omega arith) c.in-Err.ensures.err slot),
)
