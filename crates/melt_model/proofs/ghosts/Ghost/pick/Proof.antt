-- `pick` makes a value of no bytes, whose ghost field is what the caller picked. It reads nothing that it was passed.
use mathlib.Core.Path.{refl}
use mathlib.Core.List.{List, [], ◌∷◌, ◌++◌}
use mir.Syntax.{Fn, a_type}
use mir.Val.{Val, vptr, vstruct, vcons, vnil}
use mir.MapTy.{inst_fn}
use base.Logic.{SProp}
use base.Fml.{Fml}
use prog.Wp.{WpFn}
use contract.Running.{tables}
use types.Kit.{‵, raw, prop, ◌⊛◌, ◌$◌, ◌∵◌, !, qed, split, move, keep, suffices, regoal, use0, fjoin, join, done}
use types.Run.{no_more, and_then, returns, enter}
use types.Part.{agg}
use types.ByLocal.{alloc_all, pass_all, free_all, look_at, get, sets}
use denote.RattleType.{owns}
use denote.Builtin.{RefOf}
use denote.Exit.{yes}
use denote.Param.{param, layouts}
use denote.Shadow.{makes_shadow}
use denote.Signature.{Slot, types_at, type_at, plain}
use denote.Steps.{nothing}
use denote.Triple.Entry.{alive, Res}
use denote.Triple.Walked.{Stays, stay_dropped, Goes-dropped, walk_of, ends_at, says}
use Rattle.std.proofs.raw_atomic.Walks.{proved_at}
use Rattle.melt_model.specs.contracts.ghosts.Ghost.pick.{ended, clauses}
use Rattle.melt_model.specs.contracts.ghosts.Ghost.pick.Key.{name as #self}
use Rattle.melt_model.proofs.ghosts.Ghost.pick.Statement.{statement}
use Rattle.melt_model.proofs.ghosts.Ghost.pick.Code as compiled

pub pick_spec : {M : Type 1} → statement M
pick_spec 𝓤 𝓛 𝓜 𝓡 wired T U Tlaws Ulaws =
    let H = 𝓛.H in
    let E = ended T U in
    let c = clauses T U 𝓛 𝓜.mem 𝓡.returns in
    let inst = layouts (a_type ∷ a_type ∷ []) (T, (U, tt)) in
    let fn : Fn = inst_fn inst compiled.function in
    let from : Slot 3 = RefOf (0 ∷ []) tt (plain (λ _. param 1 U)) (λ _. tt) in
    let stays : Stays E.signature.params E.kept = (stay_dropped from yes, tt) in
    let C = (tables 𝓤 H 𝓜 𝓡 𝓡.env).C in
    let Λ = (tables 𝓤 H 𝓜 𝓡 𝓡.env).Λ in
    proved_at 𝓛 E stays c 𝓜 𝓡 (Goes-dropped 𝓛 3 from yes (λ κs x f. refl), tt) (#self inst) fn
    (compiled.unfolded 𝓤 H 𝓜 𝓡 wired (T, (U, tt))) (λ z are.
    let Post : Val → SProp 𝓤 = (walk_of 𝓛 E stays c).post z in
    let passed : Val = vptr z.0.3.0.ref_ptr.0 z.0.3.0.ref_ptr.1 in
    let made : Val = vstruct (vcons (vstruct vnil) vnil) in
    let r : Res E.signature z.0.0 = z.1 in
    let owned : Fml = (type_at E.signature.result z.0.0).own_val r (made ∷ []) in
    let at_entry = raw (alive 𝓛 E.signature z.0.0 z.0.1) ⊛ ‵ (owns (types_at E.signature.params z.0.0) z.0.3 z.0.4) in
    qed 𝓛 (at_entry ∷ raw ((c z.0.0 z.0.3).requires z.1) ∷ []) ∵
    split ! $ keep ! (0 ∷ []) $
    regoal ! (λ (us : List Val). prop (WpFn 𝓤 H C Λ fn us Post)) (λ i. are.0.0 i ++ []) refl $
    enter ! C Λ fn (passed ∷ []) Post $ alloc_all ! (λ l. pass_all ! refl ((tt, tt), tt) $
    sets ! (agg ! (no_more !)) refl (tt, tt) $
    sets ! (agg ! (and_then ! (get ! refl) (no_more !))) refl (tt, (tt, tt)) $
    returns ! (look_at ! 0 refl) $ free_all ! refl $
    use0 𝓛 (‵ owned) (makes_shadow 𝓛 owned (λ x. (((λ vss. (tt, ((λ uss. (tt, tt)), tt))), tt), tt)) (
      (record { marker = record {}; value = z.1 }, (refl, tt)),
      ((((vstruct vnil ∷ [], tt), (refl, ((tt, (refl, tt)), tt))), tt), tt),
    )) $
    suffices ! _ (ends_at 𝓛 E stays c z made r (tt, tt) (tt, tt)) $ says ! refl $
    nothing ! $ nothing ! $ fjoin ! $ join ! $ move ! (1 ∷ 0 ∷ []) $ join ! $ done !))
