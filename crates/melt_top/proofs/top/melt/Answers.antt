use Rattle.std.proofs.Common.{inl, inr}
use Rattle.melt_top.proofs.Completing.{is_complete}
use Rattle.melt_top.proofs.TopLaws.{disk_fault_rose, due_built, never_damaged, no_write_fault, read_fault_rose}
use Rattle.melt_top.proofs.TopLaws.{refused_words, usage_due, wrote_all}
use Rattle.melt_top.proofs.top.melt.Goals as goal

pub returns-in-Ok-write_all-clause-headline : goal.returns-in-Ok-write_all-clause-headline
returns-in-Ok-write_all-clause-headline g c =
    wrote_all _ _ _ _ c.in-Ok.answer.status c.in-Ok.ensures.due c.deref.ensures.value c.in-Ok-write_all.ensures.all

pub returns-in-Ok-write_all-clause-no_others : goal.returns-in-Ok-write_all-clause-no_others
returns-in-Ok-write_all-clause-no_others g c =
    due_built _ _ _ c.in-Ok.answer.status c.in-Ok.answer.text.items c.in-Ok.ensures.due

pub returns-in-Ok-write_all-clause-usage : goal.returns-in-Ok-write_all-clause-usage
returns-in-Ok-write_all-clause-usage g c =
    refused_words _ _ _ c.in-Ok.answer.status c.in-Ok.answer.text.items c.in-Ok.ensures.due

pub returns-in-Ok-write_all-clause-refused : goal.returns-in-Ok-write_all-clause-refused
returns-in-Ok-write_all-clause-refused g c =
    λ refused. inl (usage_due _ _ _ c.in-Ok.answer.status c.in-Ok.answer.text.items c.in-Ok.ensures.due refused)

pub returns-in-Ok-write_all-clause-read_fault : goal.returns-in-Ok-write_all-clause-read_fault
returns-in-Ok-write_all-clause-read_fault g c =
    λ e. read_fault_rose _ _ _ c.in-Ok.answer.status c.in-Ok.answer.text.items c.in-Ok.ensures.due e

pub returns-in-Ok-write_all-clause-write_fault : goal.returns-in-Ok-write_all-clause-write_fault
returns-in-Ok-write_all-clause-write_fault g c =
    λ e. absurd (no_write_fault _ _ _ c.in-Ok.answer.status c.in-Ok.answer.text.items c.in-Ok.ensures.due e)

pub returns-in-Ok-write_all-clause-disk_fault : goal.returns-in-Ok-write_all-clause-disk_fault
returns-in-Ok-write_all-clause-disk_fault g c =
    λ e. disk_fault_rose _ _ _ c.in-Ok.answer.status c.in-Ok.answer.text.items c.in-Ok.ensures.due e

pub returns-in-Ok-write_all-clause-damaged : goal.returns-in-Ok-write_all-clause-damaged
returns-in-Ok-write_all-clause-damaged g c =
    λ e. never_damaged _ _ _ c.in-Ok.answer.status c.in-Ok.answer.text.items c.in-Ok.ensures.due e

pub returns-in-Ok-write_all-clause-complete : goal.returns-in-Ok-write_all-clause-complete
returns-in-Ok-write_all-clause-complete g c =
    λ good well. inr (is_complete _ _ _ c.in-Ok.answer.status c.in-Ok.answer.text.items c.in-Ok.ensures.due good
    well.reading well.disk_serves)
