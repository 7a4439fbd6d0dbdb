use Rattle.std.proofs.Common.{inr, refl, slice_index}
use Rattle.melt_record.proofs.Heads.{kind_number-first, some_first}
use Rattle.melt_record.proofs.head.decode_head.Goals as goal

pub returns-in_default-kind_of-clause-err : goal.returns-in_default-kind_of-clause-err
returns-in_default-kind_of-clause-err c =
    record {
      home_is = refl;
      place = inr (record {
        at = refl;
        word = refl;
        good = some_first c.args.home c.args.end (slice_index c.args.words 0) c.in-Some.shape c.in-Some.ensures.number
            c.in-Some.ensures.shape.0 c.in-Some.ensures.shape.1 c.in-Some.ensures.word;
        bad = λ head p. c.in_default-kind_of.ensures.none head.kind (kind_number-first _ _ _ _ _ p.first_word)
            p.second_word;
      });
    }
