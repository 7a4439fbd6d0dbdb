use Rattle.std.proofs.Common.{◌≡◌, ◌≤◌, ◌++◌, List, [], ◌∷◌, length, arith, cond, eqb, sym, ap, subst, ◌∙◌}
use Rattle.melt_trace.specs.declared.script.Item.{Item}
use Rattle.melt_trace.specs.declared.language.Expected.TheVariants as stage
use Rattle.melt_trace.specs.Script.{expand}
use Rattle.melt_trace.specs.Language.{operation_count}
use Rattle.melt_trace.specs.Drafts.{place_of, blocks_of, programs_so_far, capped, IsTallied}
use Rattle.melt_trace.proofs.Tally.{tallied_none, tallied_done}
use Rattle.melt_trace.proofs.Steps.{no_blocks, too_many, few_enough, place_after_done}
use Rattle.melt_trace.proofs.parser.draft.Draft.done.Goals as goal

pub returns-then-total-gt-MAX_OPERATIONS : goal.returns-then-total-gt-MAX_OPERATIONS
returns-then-total-gt-MAX_OPERATIONS c =
    let draft = c.args.self.now in
    let whole = subst (IsTallied draft.items.items draft.count)
    (no_blocks draft.count draft.blocks.items c.requires.closed) c.requires.sound.tallied in
    too_many (place_of draft) draft.total draft.count c.requires.sound.total c.requires.sound.few whole
    (rw (← c.saturating_add-total.ensures) c.if-total-gt-MAX_OPERATIONS.true)

pub returns : goal.returns
returns c =
    let draft = c.args.self.now in
    let new = c.push.new.self.items in
    let closed : draft.blocks.items ≡ [] = no_blocks draft.count draft.blocks.items c.requires.closed in
    let whole = subst (IsTallied draft.items.items draft.count) closed c.requires.sound.tallied in
    let few : c.saturating_add-total.result ≤ 1048576 = c.if-total-gt-MAX_OPERATIONS.false in
    let step = few_enough (place_of draft) draft.total draft.count c.requires.sound.total c.requires.sound.few whole
    (rw (← c.saturating_add-total.ensures) few) in
    let pushed : new ≡ programs_so_far draft ++ draft.items.items ∷ [] =
    c.in_ok-push.ensures.items ∙ ap (λ (p : List Item). programs_so_far draft ++ p ∷ []) (c.new-2.ensures
    ∙ ap (λ v. v.items) c.replace-items.ensures.value)
    in
    let none : c.replace-items.new.dest.items ≡ [] = ap (λ v. v.items) c.replace-items.ensures.after
    ∙ c.new.ensures.items in
    let many : c.len.result ≡ length (programs_so_far draft ++ draft.items.items ∷ []) =
    c.len.ensures ∙ c.push.new.self.ok.0 ∙ ap length pushed
    in
    let next = c.expected_after-self.ensures ∙ ap (λ n. cond (eqb n draft.threads) stage.Over stage.Between) many in (
      step.1 ∙ place_after_done draft.threads draft.globals draft.orders.items next pushed none (ap (blocks_of 0)
          closed),
      record {
        globals = c.requires.sound.globals;
        tallied = rw (none, closed) tallied_none;
        total = c.saturating_add-total.ensures ∙ step.0 ∙ ap operation_count (sym pushed);
        few = few;
      },
    )

pub new-requires-2 : goal.new-requires-2
new-requires-2 c =
    let draft = c.args.self.now in
    let whole = subst (IsTallied draft.items.items draft.count)
    (no_blocks draft.count draft.blocks.items c.requires.closed) c.requires.sound.tallied in
    let exact : draft.count ≡ capped (length (expand draft.items.items)) =
    tallied_done draft.items.items draft.count whole in
    let few : draft.count ≤ 1048576 =
    omega (arith, c.if-total-gt-MAX_OPERATIONS.false, c.saturating_add-total.ensures) in
    let same : draft.count ≡ length (expand draft.items.items) = omega (arith, exact, few) in
    c.from.ensures ∙ same ∙ ap (λ v. length (expand v.items)) (sym c.replace-items.ensures.value)
