use Rattle.std.proofs.Common.{rules, ◌≡◌, ◌++◌, ◌∙◌, OnOk, subst}
use Rattle.melt_stats.specs.Rows.{written}
use Rattle.melt_stats.proofs.Plain.{collection_row}
use Rattle.melt_stats.proofs.text.write_collection.Goals as goal

pub returns-clause-text : goal.returns-clause-text
returns-clause-text c =
    let row = collection_row c.args.number c.args.collection.now (c.as_bytes.ensures.value ∙ c.format.ensures.text)
    c.name.ensures (c.as_bytes-2.ensures.value ∙ c.format-2.ensures.text)
    (c.as_bytes-3.ensures.value ∙ c.format-3.ensures.text) (c.as_bytes-4.ensures.value ∙ c.format-4.ensures.text)
    (c.as_bytes-5.ensures.value ∙ c.format-5.ensures.text) (c.as_bytes-6.ensures.value ∙ c.format-6.ensures.text)
    (search rules) (search rules) (search rules) (search rules) (search rules) (search rules) in
    let out = written c.write_row.new.writer in
    subst (λ text. OnOk c.write_row.result (out ≡ written c.args.writer.now ++ text)) row c.write_row.ensures.text
