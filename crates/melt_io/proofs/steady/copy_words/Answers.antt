use Rattle.std.proofs.Common.{arith, length-drop, ap, drop, ◌++◌, ◌∙◌, ◌≡◌, ◌-◌, length, min}
use Rattle.melt_io.proofs.Images.{copied_words}
use Rattle.melt_io.proofs.steady.copy_words.Goals as goal

pub returns : goal.returns
returns c =
    let start = c.min.result in
    let count : c.min-n.result ≡ min (length c.args.words.now) (length c.args.image.now - start) =
    omega (arith, length-drop start c.args.image.now) in
    ap (λ zeros. c.copy_from_slice.new.self ++ drop c.min-n.result zeros) (c.fill.ensures.after (λ y e. e))
    ∙ copied_words c.args.image.now c.args.at start (length c.args.words.now) c.min-n.result c.copy_from_slice.new.self
    c.min.ensures count c.copy_from_slice.ensures.after
