-- The homes on a disk are told by the names of homes and the history.
use Rattle.std.proofs.Common.{◌≡◌, ℕ, zero, suc, ◌+◌, ◌≤◌, List, [], ◌∷◌, length, map, refl, sym, ◌∙◌, ap, subst, arith}
use Rattle.std.specs.Prelude.{Option, None, Some, slice_get, Contains}
use Rattle.std.specs.Option.{option_map, option_map_or, option_and_then}
use Rattle.melt_model.specs.History.{shape}
use Rattle.melt_model.specs.History as model
use Rattle.melt_model.specs.declared.history.Entry.{Entry}
use Rattle.melt_word.specs.Words.{cost_of}
use Rattle.melt_word.specs.declared.header.Shape.{Shape}
use Rattle.melt_scion.specs.GhostMaps.{named}
use Rattle.melt_scion.specs.Placed.{HomeStands, Maps, Tells}
use Rattle.melt_scion.specs.State.{Follow, Home, IsReserved, State}
use Rattle.melt_scion.proofs.HomesApart.{reserved_once, reserved_within}
use Rattle.melt_rule.specs.Shown.{home_of}
use Rattle.melt_pool.specs.Beginning.{homes_along, shape_at}

-- homes that follow each other are no more than the words that they take
few_homes : (from end : ℕ) (homes : List Home) → Follow from homes end → from + length homes ≤ end
few_homes from end [] follows = omega (arith, follows)
few_homes from end (x ∷ homes) follows =
    let rest = few_homes (from + cost_of x.shape) end homes follows.1 in omega (arith, rest)

module _ (h : List Entry) (names : List (ℕ × ℕ)) where
  -- from a word on where the first home has no object, there is none
  none_from : (most from : ℕ) → shape_at h names from ≡ None → homes_along h names most from ≡ []
  none_from zero from none = refl
  none_from (suc most) from none =
      ap (λ (o : Option Shape).
      option_map_or (λ (z : Shape). (from, z) ∷ homes_along h names most (from + cost_of z)) o []) none

  -- from one on where it has one, that is the first
  first_from : (most from : ℕ) (z : Shape) → shape_at h names from ≡ Some z
      → homes_along h names (suc most) from ≡ (from, z) ∷ homes_along h names most (from + cost_of z)
  first_from most from z is =
      ap (λ (o : Option Shape).
      option_map_or (λ (y : Shape). (from, y) ∷ homes_along h names most (from + cost_of y)) o []) is

  -- so homes that follow each other are found, where each has its object and the end has none
  along_are : (most from end : ℕ) (homes : List Home) → Follow from homes end → length homes ≤ most
      → ((k : ℕ) (x : Home) → slice_get homes k ≡ Some x → shape_at h names x.at ≡ Some x.shape)
      → shape_at h names end ≡ None → map home_of (homes_along h names most from) ≡ homes
  along_are most from end [] follows few each last =
      ap (map home_of) (none_from most from (ap (shape_at h names) follows ∙ last))
  along_are zero from end (x ∷ homes) follows few each last = absurd (omega (arith, few))
  along_are (suc most) from end (x ∷ homes) follows few each last =
      let first : shape_at h names from ≡ Some x.shape =
      ap (shape_at h names) (sym follows.0) ∙ each 0 x refl in
      ap (map home_of) (first_from most from x.shape first)
      ∙ (ap (λ (xs : List Home). let y : Home = record { at = from; shape = x.shape } in y ∷ xs)
      (along_are most (from + cost_of x.shape) end homes follows.1 (omega (arith, few)) (λ k y at. each (suc k) y at)
      last)
      ∙ ap (λ (n : ℕ). let y : Home = record { at = n; shape = x.shape } in y ∷ homes) (sym follows.0))

module _ (h : List Entry) (maps : Maps) (s : State) (names : List (ℕ × ℕ)) (tells : Tells h maps s)
    (none_free : s.base.free_homes ≡ []) (named_so : (home : ℕ) → maps.home home ≡ named names home) where
  abbrev shape_by : Option ℕ → Option Shape
  shape_by o = option_map (λ (z : model.Shape). record { refs = z.refs; nums = z.nums }) (option_and_then (shape h) o)

  nobody : (home : ℕ) → Contains [] home → ⊥
  nobody home is = omega (arith, is.1)

  -- a home that was reserved has an object, whose shape is that of the home
  has_shape : (home : ℕ) (z : Shape) → IsReserved s.base.homes home z → shape_at h names home ≡ Some z
  has_shape home z reserved =
      let free : Contains s.base.free_homes home → ⊥ =
      λ is. let no : Contains [] home = subst (λ (l : List ℕ). Contains l home) none_free is in nobody home no in
      let object = (tells.taken home).1 (record { reserved_for = z; reserved = reserved; not_free = free }) in
      let stands : HomeStands h maps s home object.0 = tells.homes home object.0 object.1 in
      let same : stands.reserved_for ≡ z =
      reserved_once s.base.homes s.base.end tells.homes_follow home stands.reserved_for z stands.reserved reserved in
      ap shape_by (sym (named_so home) ∙ object.1)
      ∙ (ap (option_map (λ (y : model.Shape). record { refs = y.refs; nums = y.nums })) stands.shape_is
      ∙ ap (λ (y : Shape). Some y) same)

  -- no home begins at the end
  none_last : shape_at h names s.base.end ≡ None
  none_last = by_name (named names s.base.end) refl
    where
      by_name : (o : Option ℕ) → named names s.base.end ≡ o → shape_at h names s.base.end ≡ None
      by_name None is = ap shape_by is
      by_name (Some n) is =
          let taken = (tells.taken s.base.end).0 (n, named_so s.base.end ∙ is) in
          let within = reserved_within s.base.homes s.base.end tells.homes_follow s.base.end taken.reserved_for
          taken.reserved in
          let past : s.base.end + cost_of taken.reserved_for ≤ s.base.end = within.1 in
          absurd (omega (arith, past))

  pub homes_are : map home_of (homes_along h names s.base.end 1) ≡ s.base.homes
  homes_are =
      let few = few_homes 1 s.base.end s.base.homes tells.homes_follow in
      along_are h names s.base.end 1 s.base.end s.base.homes tells.homes_follow (omega (arith, few))
      (λ k x at. has_shape x.at x.shape (record { index = k; is = at })) none_last
