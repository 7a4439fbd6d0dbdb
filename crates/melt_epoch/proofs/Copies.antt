-- A copy of a Body on its way into use.
use Rattle.std.proofs.Common.{◌≡◌, ℕ, ◌+◌, ◌*◌, ◌-◌, ◌||◌, inl, Ok, Err, Bool, true, false, List, refl, sym, ◌∙◌, ap}
use Rattle.std.proofs.Common.{subst, arith}
use Rattle.std.specs.Prelude.{None, Result, Some}
use Rattle.melt_model.specs.declared.history.Entry.{Entry}
use Rattle.melt_word.specs.Words.{IsShape, cost_of}
use Rattle.melt_word.specs.declared.header.Shape.{Shape}
use Rattle.melt_scion.specs.GhostMaps.{named}
use Rattle.melt_core.specs.declared.answer.Pause.TheVariants.{Space}
use Rattle.melt_core.specs.declared.answer.Refusal.{Refusal}
use Rattle.melt_core.specs.declared.answer.Refusal.TheVariants.{Pause}
use Rattle.melt_core.specs.declared.call.Activation.{Activation}
use Rattle.melt_core.specs.declared.call.Search.{Search}
use Rattle.melt_rule.specs.Coming.{ClaimsCopy, HomeHas, LacksCopy}
use Rattle.melt_rule.specs.Rule.{Begins, Has, has_cause}
use Rattle.melt_rule.specs.Tells.{Reaches, Sees}
use Rattle.melt_rule.specs.declared.began.Began.{Began}
use Rattle.melt_rule.specs.declared.view.Doing.TheVariants.{Copied, Copying}
use Rattle.melt_rule.specs.declared.view.View.{View}
use Rattle.melt_epoch.proofs.Following.{sees_on, shape_stays}
use Rattle.melt_epoch.proofs.Toward.{Toward, goes_toward, toward_both, toward_full, toward_on, toward_then}
use Rattle.melt_epoch.specs.Bringing.{Copies, IsFilled, LacksRoomForCopy, SettlesCopy}
use Rattle.melt_record.specs.declared.head.Kind.TheVariants.{Body}
use Rattle.melt_scion.specs.Placed.{HeadIs}
use Rattle.melt_rule.specs.Shown.{base_at}

-- the shape of a home's object stays, however the history grows
pub home_has_on : (v w : View) (g h : List Entry) (home : ℕ) (z : Shape) → w.began ≡ v.began → Begins g h
    → HomeHas w g home z → HomeHas v h home z
home_has_on v w g h home z began begins has told =
    let had = has (ap (λ (b : Began). b.told) began ∙ told) in (
      subst (λ (b : Began). HeadIs (base_at b) home (record { shape = z; kind = Body })) began had.0,
      λ n at. shape_stays g h begins.0 n (record { refs = z.refs; nums = z.nums }) begins.1
          (had.1 n (ap (λ (b : Began). named b.maps.homes home) began ∙ at)),
    )

spaced_cause : (asked forwarded : Bool) → (asked || (true || forwarded)) ≡ true
spaced_cause true forwarded = refl
spaced_cause false forwarded = refl

-- who lacks words has a cause to stop
pub lacks_cause : (v w : View) (search : Search) (z : Shape) → LacksCopy v w search z → has_cause w ≡ true
lacks_cause v w search z lacks = ap has_cause lacks.is ∙ spaced_cause v.asked v.forwarded

-- and then it was refused
pub lacks_room : (v w u : View) (search : Search) (z : Shape) → IsShape z → LacksCopy v w search z
    → Reaches w u None → LacksRoomForCopy v u search 2 (Pause (Space (cost_of z)))
lacks_room v w u search z small lacks stops =
    let is = lacks.is in
    let then_ = stops.is in
    let began : w.began ≡ v.began = ap (λ (x : View). x.began) is in
    record {
      shape = z;
      small = small;
      object = home_has_on v v w.seen u.seen search.home z refl stops.sees.begins lacks.object;
      is = refl;
      sees = sees_on v w u.seen lacks.sees (ap (λ (x : View). x.thread) is) began stops.sees;
      lacked = record {
        thread = ap (λ (x : View). x.thread) then_ ∙ ap (λ (x : View). x.thread) is;
        parts = ap (λ (x : View). x.parts) then_ ∙ ap (λ (x : View). x.parts) is;
        away = ap (λ (x : View). x.away) then_ ∙ ap (λ (x : View). x.away) is;
        began = ap (λ (x : View). x.began) then_ ∙ began;
        known = λ x n has. subst (λ (y : View). Has y.known x n) (sym then_)
            (subst (λ (y : View). Has y.known x n) (sym is) has);
        asked = ap (λ (x : View). x.asked) then_ ∙ ap (λ (x : View). x.asked) is;
        spaced = ap (λ (x : View). x.spaced) then_ ∙ ap (λ (x : View). x.spaced) is;
        forwarded = ap (λ (x : View). x.forwarded) then_ ∙ ap (λ (x : View). x.forwarded) is;
        claimed = ap (λ (x : View). x.claimed) then_ ∙ ap (λ (x : View). x.claimed) is;
        over = ap (λ (x : View). x.over) then_ ∙ ap (λ (x : View). x.over) is;
        won = ap (λ (x : View). x.won) then_ ∙ ap (λ (x : View). x.won) is;
        steps = let e = ap (λ (x : View). x.steps) then_ in let s = ap (λ (x : View). x.steps) is in omega arith;
        counted = let e = ap (λ (x : View). x.steps) then_ in let s = ap (λ (x : View). x.steps) is in omega arith;
        found = lacks.found;
        first = lacks.first;
        past = lacks.past;
      };
      over = ap (λ (x : View). x.doing) then_;
    }

-- words were claimed
pub claimed_toward : (v w : View) (search : Search) (z : Shape) (rest : List ℕ) (address : ℕ)
    → ClaimsCopy v w search z rest address → Toward v w (cost_of z) 0 1
claimed_toward v w search z rest address claims =
    let is = claims.is in
    let thread : w.thread ≡ v.thread = ap (λ (x : View). x.thread) is in
    let began : w.began ≡ v.began = ap (λ (x : View). x.began) is in
    record {
      on = λ h sees. sees_on v w h claims.sees thread began sees;
      counts = record {
        thread = thread;
        parts = ap (λ (x : View). x.parts) is;
        away = ap (λ (x : View). x.away) is;
        began = began;
        known = λ x n has. subst (λ (y : View). Has y.known x n) (sym is) has;
        asked = ap (λ (x : View). x.asked) is;
        spaced = ap (λ (x : View). x.spaced) is;
        forwarded = ap (λ (x : View). x.forwarded) is;
        claimed = ap (λ (x : View). x.claimed) is;
        over = ap (λ (x : View). x.over) is;
        won = let e = ap (λ (x : View). x.won) is in omega arith;
        steps = let e = ap (λ (x : View). x.steps) is in omega arith;
        counted = let e = ap (λ (x : View). x.steps) is in omega arith;
      };
    }

-- and filled, and the copy became the object of its home, or did not
module _ (v w u x y : View) (search : Search) (z : Shape) (rest : List ℕ) (address forwards : ℕ)
    (claims : ClaimsCopy v w search z rest address)
    (filled : IsFilled w u (record { search = search; address = address; shape = z }))
    (heads : Reaches u x (Some (Copied (record { search = search; address = address; shape = z })))) where
  abbrev copy : Activation
  copy = record { search = search; address = address; shape = z }

  after_claim : Toward w x 0 0 (cost_of z)
  after_claim =
      let all = filled.all in
      toward_on (cost_of z) (omega arith) (goes_toward w u 0 0 filled.stored (Copying copy filled.stored) filled.goes)
      heads

  to_copy : Toward v x (cost_of z) 0 (cost_of z + 1)
  to_copy =
      toward_both (cost_of z + 1) (omega arith) (claimed_toward v w search z rest address claims) after_claim

  shape_here : Sees x y.seen → HomeHas v y.seen search.home z
  shape_here sees =
      home_has_on v v w.seen y.seen search.home z refl (after_claim.on y.seen sees).begins claims.object

  pub copy_settles : (result : Result ℕ Refusal) → SettlesCopy x y copy forwards result
      → Copies v y search z forwards result
  copy_settles (Ok found) settled = record {
    wins = settled.wins;
    one = settled.one;
    object = shape_here settled.goes.sees;
    goes = toward_then (cost_of z + 1 + 2 * (forwards - search.tried)) (omega arith) to_copy settled.goes;
  }
  copy_settles (Err refusal) full = inl (record {
    object = shape_here full.0.sees;
    full = toward_full (cost_of z + 2 + 2 * (forwards - search.tried)) (omega arith) (omega arith) to_copy full.0;
    read = let before = to_copy.counts.counted in let all = full.1 in omega arith;
  })
