-- Heads: the kind that a first word tells, that two words spell one head, and that what is written is read.
use Rattle.std.proofs.Common.{◌≡◌, ℕ, ◌+◌, ◌%◌, ◌≤◌, ◌⊎◌, List, inl, inr, refl, arith}
use Rattle.melt_word.specs.Words.{IsShape, cost_of}
use Rattle.melt_word.specs.declared.header.Shape.{Shape}
use Rattle.melt_record.specs.Records.{AreSlots, BodyIsRead, IsFirstWord, IsHead, IsScion, StubIsRead, body_words}
use Rattle.melt_record.specs.Records.{head_word, kind_number, stub_words}
use Rattle.melt_record.specs.declared.head.Head.{Head}
use Rattle.melt_record.specs.declared.head.Kind.{Kind}
use Rattle.melt_record.specs.declared.head.Kind.TheVariants.{Body, Stub}

-- the lowest byte of a first word is the number of its kind
pub kind_number-first : (home end word : ℕ) (kind : Kind) (shape : Shape) → IsFirstWord home end word kind shape
    → kind_number kind ≡ word % 256
kind_number-first home end word Body shape p = omega (arith, p.spelled)
kind_number-first home end word (Stub scion) shape p = omega (arith, p.spelled)

-- what is spelled with the number of a kind is a first word of some kind
pub some_first : (home end word : ℕ) (shape : Shape) → (word % 256 ≡ 1) ⊎ (word % 256 ≡ 2) → IsShape shape
    → home + cost_of shape ≤ end → word ≡ head_word (word % 256) shape home
    → (kind : Kind) × (s : Shape) × IsFirstWord home end word kind s
some_first home end word shape (inl one) p h e =
    (Body, shape, record { in_range = p; within = h; spelled = omega arith })
some_first home end word shape (inr two) p h e =
    (Stub 1, shape, record { in_range = p; within = h; spelled = omega arith })

-- two words spell one head at most, at one home
pub same_head : {home end other until first second : ℕ} {head k : Head} → IsHead home end first second head
    → IsHead other until first second k → (home ≡ other) × (head ≡ k)
same_head p q = grind arith

-- what is written is read
pub body_is_read : (home end : ℕ) (shape : Shape) (slots : List ℕ) → IsShape shape → home + cost_of shape ≤ end
    → AreSlots end shape.refs slots → BodyIsRead home end shape (body_words home shape slots)
body_is_read home end shape slots p within q =
    record {
      head = record {
        first_word = record { in_range = p; within = within; spelled = refl };
        second_word = refl;
      };
      slots = q;
    }

pub stub_is_read : (home end : ℕ) (shape : Shape) (scion : ℕ) → IsShape shape → home + cost_of shape ≤ end
    → IsScion scion → StubIsRead home end shape scion (stub_words home shape scion)
stub_is_read home end shape scion p within q =
    record { first_word = record { in_range = p; within = within; spelled = refl }; second_word = (q, refl) }
