-- What is seen of a disk.
use Rattle.std.specs.Prelude.{Bool, Option, None, Some, IsSome, slice_index}
use Rattle.std.proofs.Common.{◌≡◌, ℕ, true, false, List, [], refl, sym, ◌∙◌, ap}
use Rattle.melt_scion.specs.Heaps.{OnDisk}
use Rattle.melt_safepoint.specs.Shown.{Underlies, Shown}

-- the words of an image that tells them; else they may be any
abbrev image_in : Option (List ℕ) → ℕ → ℕ
image_in None k = 0
image_in (Some words) k = slice_index words k

-- a disk without homes that has these words
abbrev pub bare : Option (List ℕ) → OnDisk
bare image = record { end = 1; homes = []; free_homes = []; image = image_in image }

-- it has no free homes
pub bare_none_free : (image : Option (List ℕ)) → (bare image).free_homes ≡ []
bare_none_free image = refl

-- it is seen so
pub bare_shown : (told : Bool) (image : Option (List ℕ)) (finish : ℕ) → finish ≡ 1 → (told ≡ true → IsSome image)
    → Underlies told finish image (bare image)
bare_shown told None finish is some =
    let none : Option (List ℕ) = None in
    record { ends = sym is; tells = λ t. absurd (let wrong : IsSome none = some t in cc) }
bare_shown told (Some words) finish is some = record { ends = sym is; tells = λ t. (refl, λ k. refl) }

-- what is not told is seen of each disk with this end
pub under_untold : (finish : ℕ) (image : Option (List ℕ)) (disk : OnDisk) → disk.end ≡ finish
    → Underlies false finish image disk
under_untold finish image disk ends =
    record { ends = ends; tells = λ told. absurd (let e : false ≡ true = told in cc) }

-- what is seen of a disk is told by its parts
pub shown_is : (a b : Shown) → a.end ≡ b.end → a.limit ≡ b.limit → a.image ≡ b.image → a ≡ b
shown_is a b ends limits images =
    let by : ℕ → ℕ → Option (List ℕ) → Shown = λ n m i. record { end = n; limit = m; image = i } in
    ap (λ (n : ℕ). by n a.limit a.image) ends
    ∙ (ap (λ (m : ℕ). by b.end m a.image) limits ∙ ap (λ (i : Option (List ℕ)). by b.end b.limit i) images)
