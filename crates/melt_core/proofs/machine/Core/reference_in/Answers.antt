use Rattle.std.proofs.Common.{◌∙◌, sym}
use Rattle.melt_core.specs.Views.{view}
use Rattle.melt_core.proofs.Objects.{place_word}
use Rattle.melt_core.proofs.machine.Core.reference_in.Goals as goal

pub reference-requires : goal.reference-requires
reference-requires c =
    let disk = c.requires.disk in
    let word = place_word disk (view c.args.self.now) c.args.place c.requires.formed c.requires.there in
    (word.reference, record { in_range = word.in_range; is = c.word_in.ensures disk ∙ word.is })

pub returns : goal.returns
returns c = λ disk. record {
  in_range = c.reference.ensures.in_range;
  is = sym (c.word_in.ensures disk) ∙
      c.reference.ensures.is;
}
