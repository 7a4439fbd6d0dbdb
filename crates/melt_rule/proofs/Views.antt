-- Lists of views, of which one is replaced, and histories that grow by an entry.
use Rattle.std.proofs.Common.{◌≡◌, ◌≢◌, ℕ, zero, suc, ◌+◌, ◌<◌, List, [], ◌∷◌, ◌++◌, length, get_or}
use Rattle.std.proofs.Common.{refl, sym, ◌∙◌, ap, arith, append_assoc, append-nil, inl, inr, ◌⊎◌}
use Rattle.std.proofs.Math.ListN.{set}
use Rattle.std.proofs.lemmas.List.Sums.{sum_by-set}
use Rattle.std.specs.List.{sum_by}
use Rattle.std.specs.Prelude.{Option, None, Some}
use lib.ListN.{get_elem?}
use mathlib.Core.Option.{some, some-injective, some-ne-none}
use Rattle.melt_model.proofs.Histories.{own-push_other}
use Rattle.melt_model.specs.Thread.{own}
use Rattle.melt_model.specs.declared.history.Act.{Act}
use Rattle.melt_model.specs.declared.history.Entry.{Entry}
use Rattle.melt_core.specs.Answering.{entry, with_entry}
use Rattle.melt_rule.specs.Rule.{Begins, Saw}
use Rattle.melt_rule.specs.declared.view.View.{View}

pub cases_zero : (n : ℕ) → (n ≡ 0) ⊎ (0 < n)
cases_zero zero = inl refl
cases_zero (suc n) = inr (omega arith)

pub in_range : {A : Type 0} (l : List A) (i : ℕ) (v : A) → get_elem? l i ≡ some v → i < length l
in_range [] i v e = absurd (some-ne-none v (sym e))
in_range (x ∷ l) zero v e = omega arith
in_range (x ∷ l) (suc i) v e = let r = in_range l i v e in omega arith

at_get : {A : Type 0} (l : List A) (i : ℕ) (v d : A) → get_elem? l i ≡ some v → get_or l i d ≡ v
at_get [] i v d e = absurd (some-ne-none v (sym e))
at_get (x ∷ l) zero v d e = some-injective x v e
at_get (x ∷ l) (suc i) v d e = at_get l i v d e

-- a sum over the views, where one is replaced
pub sum_set : (f : View → ℕ) (views : List View) (id : ℕ) (v w : View) → get_elem? views id ≡ some v
    → sum_by f (set views id w) + f v ≡ sum_by f views + f w
sum_set f views id v w at =
    ap (λ (u : View). sum_by f (set views id w) + f u) (sym (at_get views id v v at))
    ∙ sum_by-set f views id w v (in_range views id v at)

pub begins_self : (h : List Entry) → Begins h h
begins_self h = ([], append-nil h)

begins_push : (g h : List Entry) (e : Entry) → Begins g h → Begins g (h ++ e ∷ [])
begins_push g h e b = (
  b.0 ++ e ∷ [],
  sym (append_assoc g b.0 (e ∷ [])) ∙ ap (λ (z : List Entry). z ++ e ∷ []) b.1,
)

pub begins_on : (t : ℕ) (g h : List Entry) (act : Option Act) → Begins g h → Begins g (with_entry t h act)
begins_on t g h None b = b
begins_on t g h (Some act) b = begins_push g h (entry t act) b

-- the entries of another thread stay
pub own_other : (t u : ℕ) (h : List Entry) (act : Option Act) → t ≢ u → own (with_entry t h act) u ≡ own h u
own_other t u h None differ = refl
own_other t u h (Some act) differ = own-push_other h (entry t act) u differ

pub saw_other : (t u : ℕ) (h seen : List Entry) (act : Option Act) → t ≢ u → Saw h u seen
    → Saw (with_entry t h act) u seen
saw_other t u h seen act differ saw = record {
  begins = begins_on t seen h act saw.begins;
  own_same = own_other t u h act differ ∙ saw.own_same;
}

pub saw_all : (h : List Entry) (t : ℕ) (seen : List Entry) → seen ≡ h → Saw h t seen
saw_all h t seen is = record {
  begins = ([], append-nil seen ∙ is);
  own_same = ap (λ (z : List Entry). own z t) (sym is);
}
