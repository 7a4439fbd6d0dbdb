-- Lists of mutators of which one more is changed.
use Rattle.std.proofs.Common.{◌≡◌, ◌≢◌, ℕ, zero, suc, ◌+◌, ◌<◌, ◌≤◌, List}
use Rattle.std.proofs.Common.{[], ◌∷◌, ◌++◌, length, map, drop, take, get_or}
use Rattle.std.proofs.Common.{refl, sym, ◌∙◌, ap, subst, arith, inl, inr}
use Rattle.std.proofs.Math.ListN.{set}
use Rattle.std.proofs.lemmas.Bool.{cases_eq}

module _ {M : Type 0} where
  pub get_set_here : (l : List M) (k : ℕ) (d x : M) → k < length l → get_or (set l k x) k d ≡ x
  get_set_here [] k d x below = absurd (omega arith)
  get_set_here (y ∷ l) zero d x below = refl
  get_set_here (y ∷ l) (suc k) d x below = get_set_here l k d x (omega arith)

  pub get_set_else : (l : List M) (k i : ℕ) (d x : M) → i ≢ k → get_or (set l k x) i d ≡ get_or l i d
  get_set_else [] k i d x other = refl
  get_set_else (y ∷ l) zero zero d x other = absurd (other refl)
  get_set_else (y ∷ l) zero (suc i) d x other = refl
  get_set_else (y ∷ l) (suc k) zero d x other = refl
  get_set_else (y ∷ l) (suc k) (suc i) d x other = get_set_else l k i d x (λ e. other (ap suc e))

  pub get_map : {B : Type 0} (f : M → B) (l : List M) (k : ℕ) (d : M) (e : B) → k < length l
      → get_or (map f l) k e ≡ f (get_or l k d)
  get_map f [] k d e below = absurd (omega arith)
  get_map f (x ∷ l) zero d e below = refl
  get_map f (x ∷ l) (suc k) d e below = get_map f l k d e (omega arith)

  -- what a map forgets may be changed
  pub map_set : {B : Type 0} (f : M → B) (l : List M) (k : ℕ) (d x : M) → f x ≡ f (get_or l k d)
      → map f (set l k x) ≡ map f l
  map_set f [] k d x same = refl
  map_set {B} f (y ∷ l) zero d x same = ap (λ (z : B). z ∷ map f l) same
  map_set {B} f (y ∷ l) (suc k) d x same = ap (λ (z : List B). f y ∷ z) (map_set f l k d x same)

  pub drop_map : {B : Type 0} (f : M → B) (l : List M) (k : ℕ) (d : M) → k < length l
      → drop k (map f l) ≡ f (get_or l k d) ∷ drop (suc k) (map f l)
  drop_map f [] k d below = absurd (omega arith)
  drop_map f (x ∷ l) zero d below = refl
  drop_map f (x ∷ l) (suc k) d below = drop_map f l k d (omega arith)

  pub map_drop : {B : Type 0} (f : M → B) (l : List M) (k : ℕ) (d : M) → k < length l
      → map f (drop k l) ≡ f (get_or l k d) ∷ map f (drop (suc k) l)
  map_drop f [] k d below = absurd (omega arith)
  map_drop f (x ∷ l) zero d below = refl
  map_drop f (x ∷ l) (suc k) d below = map_drop f l k d (omega arith)

  -- of those before the k-th each was changed
  pub get_half : (f : M → M) (l : List M) (k : ℕ) (d : M) → k < length l
      → get_or (map f (take k l) ++ drop k l) k d ≡ get_or l k d
  get_half f [] k d below = absurd (omega arith)
  get_half f (x ∷ l) zero d below = refl
  get_half f (x ∷ l) (suc k) d below = get_half f l k d (omega arith)

  pub set_half : (f : M → M) (l : List M) (k : ℕ) (d x : M) → k < length l → x ≡ f (get_or l k d)
      → set (map f (take k l) ++ drop k l) k x ≡ map f (take (suc k) l) ++ drop (suc k) l
  set_half f [] k d x below is = absurd (omega arith)
  set_half f (y ∷ l) zero d x below is = ap (λ (z : M). z ∷ l) is
  set_half f (y ∷ l) (suc k) d x below is = ap (λ (z : List M). f y ∷ z) (set_half f l k d x (omega arith) is)

  -- what holds from the i-th on before the k-th, and of x, holds of it too where x stands there
  pub one_more : (P : M → Type 0) (l : List M) {low : ℕ} (k : ℕ) (x : M) → k < length l
      → ((i : ℕ) (d : M) → low ≤ i → i < k → P (get_or l i d)) → P x → (i : ℕ) (d : M) → low ≤ i → i < k + 1
      → P (get_or (set l k x) i d)
  one_more P l k x there below here i d from to = elim (cases_eq i k) [
    | inl same ↦ subst P (sym (ap (λ (j : ℕ). get_or (set l k x) j d) same ∙ get_set_here l k d x there)) here
    | inr other ↦ subst P (sym (get_set_else l k i d x other)) (below i d from (omega arith))
  ]

  -- and with the first all are done
  pub first_too : (P : M → Type 0) (l : List M) (x : M) → 1 ≤ length l
      → ((i : ℕ) (d : M) → 1 ≤ i → i < length l → P (get_or l i d)) → P x
      → (i : ℕ) (d : M) → i < length l → P (get_or (set l 0 x) i d)
  first_too P l x there below here i d to = elim (cases_eq i 0) [
    | inl same ↦ subst P (sym (ap (λ (j : ℕ). get_or (set l 0 x) j d) same ∙ get_set_here l 0 d x (omega arith))) here
    | inr other ↦ subst P (sym (get_set_else l 0 i d x other)) (below i d (omega arith) to)
  ]
