-- The words of objects in use and of regions, added up.
use Rattle.std.proofs.Common.{◌≡◌, ℕ, ◌+◌, ◌<◌, ◌≤◌, ◌⊎◌, inl, inr, arith}
use Rattle.std.proofs.Common.{List, [], ◌∷◌, ◌++◌, length, get_or, refl, sym, ◌∙◌, ap, subst}
use Rattle.std.proofs.Math.ListN.{set}
use Rattle.std.proofs.lemmas.Bool.Decides.{eqb_tells}
use Rattle.std.proofs.lemmas.List.Sums.{sum-map, sum_by-set}
use Rattle.std.specs.Prelude.{◌↔◌, true, false, [], Option, None, Some}
use Rattle.std.specs.Option.{option_map_or}
use Rattle.melt_model.specs.History.{Shape as ModelShape, made as makes}
use Rattle.melt_model.specs.Alive.{words_of, CostsSum}
use Rattle.melt_model.specs.declared.history.Act.TheVariants.{Make}
use Rattle.melt_model.specs.declared.history.Entry.{Entry}
use Rattle.melt_model.proofs.Histories.{shape-append}
use Rattle.melt_model.proofs.Sums.{CostsSum-same, CostsSum-cost, CostsSum-more}
use Rattle.melt_word.specs.Words.{cost_of}
use Rattle.melt_word.specs.declared.header.Shape.{Shape}
use Rattle.melt_scion.specs.Changes.{NameAppears}
use Rattle.melt_scion.specs.State.{HeaderAt}
use Rattle.melt_scion.specs.Placed.{Maps, Tells}
use Rattle.melt_scion.proofs.Entries.{made_shape}
use Rattle.melt_scion.specs.Heaps.{OnDisk}
use Rattle.melt_core.specs.declared.call.Call.{Call}
use Rattle.melt_core.specs.declared.call.Stage.{Stage}
use Rattle.melt_core.specs.declared.call.Stage.TheVariants.{Claimed}
use Rattle.melt_scion.specs.Regions.{Owns, HasStored}
use Rattle.melt_word.specs.Words.{IsShape}
use Rattle.melt_core.specs.Known.{Known, region, region_of}
use Rattle.melt_core.specs.Views.{View, Standing, Counts, InUse, maps, maps_of, state}
use Rattle.melt_core.specs.Views.{call_of, rest_of, claimed_in, claimed}
use Rattle.melt_core.specs.Advances.{HasRoom}
use Rattle.melt_core.proofs.Values.{named_made}
use Rattle.melt_core.proofs.Alive.{alive_sum}
use Rattle.melt_core.proofs.OnDiskCosts.{alive_within}

-- what the regions of all calls take when one call is replaced
claimed-set : (calls : List (Option Call)) (t : ℕ) (call : Option Call) → t < length calls
    → claimed (set calls t call) + claimed_in (get_or calls t None) ≡ claimed calls + claimed_in call
claimed-set calls t call within =
    omega (
      arith,
      sum_by-set claimed_in calls t call None within,
      sum-map claimed_in calls,
      sum-map claimed_in
          (set calls t call),
    )

-- and so in a view
claimed_after : (disk : OnDisk) (v w : View) (t : ℕ) (call : Option Call) → Standing true disk v → t < length v.held
    → w.calls ≡ set v.calls t call → claimed w.calls + claimed_in (call_of v t) ≡ claimed v.calls + claimed_in call
claimed_after disk v w t call s within calls =
    let inside : t < length v.calls = let each : length v.calls ≡ length v.held = s.each in omega arith in
    ap (λ (cs : List (Option Call)). claimed cs + claimed_in (call_of v t)) calls ∙ claimed-set v.calls t call inside

-- a call in this stage owns so many words
pub claimed_at : (v : View) (t : ℕ) {address stored dst : ℕ} {c : Call} {shape : Shape} → call_of v t ≡ Some c
    → c.stage ≡ Claimed address shape stored dst → claimed_in (call_of v t) ≡ cost_of shape
claimed_at v t at stage = ap claimed_in at ∙ ap (λ (g : Stage). (region_of g).words) stage

-- whatever is in use was made
pub in_use_made : (disk : OnDisk) (v : View) (n : ℕ) → Standing true disk v → InUse (maps v) n → n < makes v.log
in_use_made disk v n s is = named_made v.log (maps v) (state disk v) is.0 n s.holds.formed (s.holds.tells refl) is.1

-- the words of objects that were made stay when the history grows
words_stay : (h : List Entry) (e : Entry) (n : ℕ) → n < makes h → words_of h n ≡ words_of (h ++ e ∷ []) n
words_stay h e n below = ap (λ (z : Option ModelShape). option_map_or (λ (x : ModelShape). 2 + x.refs + x.nums) z 0)
    (sym (shape-append h (e ∷ []) n below))

-- how many words the object that the entry made takes
pub new_words : (h : List Entry) (e : Entry) (refs nums : ℕ) → e.act ≡ Make refs nums
    → words_of (h ++ e ∷ []) (makes h) ≡ 2 + refs + nums
new_words h e refs nums act =
    ap (λ (z : Option ModelShape). option_map_or (λ (x : ModelShape). 2 + x.refs + x.nums) z 0)
    (made_shape h e refs nums act)

-- the words of what is in use, by the history with one entry more
pub in_use_later : (disk : OnDisk) (v : View) (e : Entry) → (s : Standing true disk v)
    → CostsSum (words_of (v.log ++ e ∷ [])) (InUse (maps v)) (s.counts refl).in_use
in_use_later disk v e s =
    CostsSum-cost (words_of v.log) (words_of (v.log ++ e ∷ [])) (InUse (maps v)) (s.counts refl).in_use
    (λ n is. words_stay v.log e n (in_use_made disk v n s is)) (s.counts refl).adds_up

-- the same words of the same objects
same_use : (v w : View) (total : ℕ) → w.names ≡ v.names → CostsSum (words_of w.log) (InUse (maps v)) total
    → CostsSum (words_of w.log) (InUse (maps w)) total
same_use v w total names adds =
    subst (λ (m : Maps). CostsSum (words_of w.log) (InUse m) total) (sym (ap maps_of names)) adds

-- What an event shows of the words that no object takes, where it makes none: the region of its call has room.
pub record Claims (v w : View) (t : ℕ) (call : Option Call) : Type 0 where
  pub names : w.names ≡ v.names
  pub words : length w.space.list ≡ length v.space.list
  pub calls : w.calls ≡ set v.calls t call
  pub below : v.free + claimed_in call ≤ w.free + claimed_in (call_of v t)
  pub within : (claimed_in call ≤ claimed_in (call_of v t)) ⊎ (v.free + claimed_in call ≤ length v.space.list + 1)

counts_by : (disk : OnDisk) (v w : View) (t : ℕ) (call : Option Call) → (s : Standing true disk v) → t < length v.held
    → CostsSum (words_of w.log) (InUse (maps v)) (s.counts refl).in_use → Claims v w t call → Counts w
counts_by disk v w t call s within sum is =
    let after = claimed_after disk v w t call s within is.calls in
    let below = (s.counts refl).below in
    let fits = (s.counts refl).within in
    record {
      in_use = (s.counts refl).in_use;
      adds_up = same_use v w (s.counts refl).in_use is.names sum;
      below = omega (arith, is.below);
      within = elim is.within [ inl fewer ↦ omega (arith, is.words) | inr room ↦ omega (arith, is.words) ];
    }

-- the history has no entry more
pub Counts_same : (disk : OnDisk) (v w : View) (t : ℕ) (call : Option Call) → Standing true disk v → t < length v.held
    → w.log ≡ v.log
    → Claims v w t call → Counts w
Counts_same disk v w t call s within log is =
    counts_by disk v w t call s within
    (subst (λ (h : List Entry). CostsSum (words_of h) (InUse (maps v)) (s.counts refl).in_use) (sym log)
    (s.counts refl).adds_up) is

-- and where it has one
pub Counts_entry : (disk : OnDisk) (v w : View) (t : ℕ) (call : Option Call) (e : Entry) → Standing true disk v
    → t < length v.held
    → w.log ≡ v.log ++ e ∷ [] → Claims v w t call → Counts w
Counts_entry disk v w t call e s within log is =
    counts_by disk v w t call s within
    (subst (λ (h : List Entry). CostsSum (words_of h) (InUse (maps v)) (s.counts refl).in_use) (sym log)
    (in_use_later disk v e s)) is

-- no object stands where a region begins
owned_free : (disk : OnDisk) (v : View) (address n : ℕ) (shape : Shape) → Standing true disk v
    → Owns (maps v) (state disk v) (region address shape) → (b : ℕ) → (maps v).address b ≡ Some n → b ≡ address → ⊥
owned_free disk v address n shape s owns b named same =
    let object = s.holds.formed.objects b n named in
    (owns.outside b n object.0 named object.1.starts).differ (omega arith) (omega arith) same

region_free : {disk : OnDisk} {v : View} (t : ℕ) {address stored dst n : ℕ} {c : Call} {shape : Shape}
    → Standing true disk v → call_of v t ≡ Some c → c.stage ≡ Claimed address shape stored dst → (b : ℕ)
    → (maps v).address b ≡ Some n → b ≡ address → ⊥
region_free {disk} {v} t {address} {stored} {n} {c} {shape} s at stage =
    let flight : IsShape shape × HasStored (maps v) (state disk v) (region address shape) (λ k. 0) stored =
    subst (Known true (maps v) (state disk v) (rest_of v t)) stage (s.known t c at) in
    owned_free disk v address n shape s flight.1.owns

-- what is in use after one name more
in_use_more : (old new : Maps) (address n m : ℕ) → ((b : ℕ) → old.address b ≡ Some m → b ≡ address → ⊥)
    → NameAppears old new address n → (InUse old m ⊎ (m ≡ n)) ↔ InUse new m
in_use_more old new address n m unused appears = (
  λ is. elim is [
    | inl before ↦ (before.0, appears.others before.0 (unused before.0 before.1) ∙ before.1)
    | inr same ↦ (address, appears.here ∙ ap Some (sym same))
  ],
  λ is. elim (eqb_tells is.0 address) [
    | inl same ↦ inr (let e : Some m ≡ Some n = sym is.1 ∙ (ap new.address same.1 ∙ appears.here) in cc)
    | inr other ↦ inl (is.0, sym (appears.others is.0 other.1) ∙ is.1)
  ],
)

-- What an event shows by which the region of its call becomes the object of this number.
record Enters (disk : OnDisk) (v w : View) (t address n : ℕ) (shape : Shape) (after : Option Call)
    (s : Standing true disk v) : Type 0 where
  -- the objects that were in use take as many words as before
  sum : CostsSum (words_of w.log) (InUse (maps v)) (s.counts refl).in_use
  cost : words_of w.log n ≡ cost_of shape
  unused : InUse (maps v) n → ⊥
  unnamed : (b m : ℕ) → (maps v).address b ≡ Some m → b ≡ address → ⊥
  appears : NameAppears (maps v) (maps w) address n
  owned : claimed_in (call_of v t) ≡ cost_of shape
  owns : claimed_in after ≡ 0
  free : w.free ≡ v.free
  words : length w.space.list ≡ length v.space.list
  calls : w.calls ≡ set v.calls t after

-- a region becomes an object
counts_entered : {disk : OnDisk} {v w : View} {t address n : ℕ} {shape : Shape} {after : Option Call}
    → (s : Standing true disk v) → t < length v.held → Enters disk v w t address n shape after s → Counts w
counts_entered {disk} {v} {w} {t} {address} {n} {shape} {after} s within is =
    let total : ℕ = (s.counts refl).in_use in
    let claims : claimed w.calls + claimed_in (call_of v t) ≡ claimed v.calls + claimed_in after =
    claimed_after disk v w t after s within is.calls in
    let below = (s.counts refl).below in
    let fits = (s.counts refl).within in
    let more : CostsSum (words_of w.log) (λ m. InUse (maps v) m ⊎ (m ≡ n)) (total + words_of w.log n) =
    CostsSum-more (words_of w.log) (InUse (maps v)) n total is.unused is.sum in
    record {
      in_use = total + cost_of shape;
      adds_up = subst (λ (k : ℕ). CostsSum (words_of w.log) (InUse (maps w)) (total + k)) is.cost
          (CostsSum-same (words_of w.log) (λ m. InUse (maps v) m ⊎ (m ≡ n)) (InUse (maps w))
          (total + words_of w.log n)
          (λ m. in_use_more (maps v) (maps w) address n m (λ b. is.unnamed b m) is.appears) more);
      below = omega (arith, is.owned, is.owns, is.free);
      within = omega (arith, is.owned, is.owns, is.words);
    }

-- that of an object that was made
pub Counts_published : {disk : OnDisk} {v : View} (w : View) (t : ℕ) {address stored dst : ℕ} {c : Call} {shape : Shape}
    (e : Entry) → Standing true disk v → t < length v.held → call_of v t ≡ Some c
    → c.stage ≡ Claimed address shape stored dst → NameAppears (maps v) (maps w) address (makes v.log)
    → e.act ≡ Make shape.refs shape.nums → w.log ≡ v.log ++ e ∷ [] → w.free ≡ v.free
    → length w.space.list ≡ length v.space.list → w.calls ≡ set v.calls t None → Counts w
Counts_published {disk} {v} w t {shape} e s within at stage named act log free words calls =
    let h : List Entry = v.log ++ e ∷ [] in
    counts_entered s within (record {
      sum = subst (λ (k : List Entry). CostsSum (words_of k) (InUse (maps v)) (s.counts refl).in_use) (sym log)
          (in_use_later disk v e s);
      cost = ap (λ (k : List Entry). words_of k (makes v.log)) log ∙ new_words v.log e shape.refs shape.nums act;
      unused = λ is. let less : makes v.log < makes v.log = in_use_made disk v (makes v.log) s is in omega arith;
      unnamed = λ b m. region_free t {n = m} s at stage b;
      appears = named;
      owned = claimed_at v t at stage;
      owns = refl;
      free = free;
      words = words;
      calls = calls;
    })

-- What a commit shows: the call owned the region, and the words after it stand for the history, with an object of the
-- shape there.
pub record Commits (disk : OnDisk) (v w : View) (t address n : ℕ) (shape : Shape) (after : Option Call) : Type 0 where
  pub tells : Tells w.log (maps w) (state disk w)
  pub header : HeaderAt (state disk w) address (record { shape = shape; stale = false })
  pub log : w.log ≡ v.log
  pub owns : Owns (maps v) (state disk v) (region address shape)
  pub appears : NameAppears (maps v) (maps w) address n
  pub owned : claimed_in (call_of v t) ≡ cost_of shape
  pub unclaimed : claimed_in after ≡ 0
  pub free : w.free ≡ v.free
  pub words : length w.space.list ≡ length v.space.list
  pub calls : w.calls ≡ set v.calls t after

-- that of one that came back: no address had its number before, or two would have it now
pub Counts_committed : {disk : OnDisk} {v w : View} {t address n : ℕ} {shape : Shape} {after : Option Call}
    → Standing true disk v → t < length v.held → Commits disk v w t address n shape after → Counts w
Counts_committed {disk} {v} {address} {n} {shape} s within is =
    let unnamed : (b m : ℕ) → (maps v).address b ≡ Some m → b ≡ address → ⊥ =
    λ b m named. owned_free disk v address m shape s is.owns b named in
    counts_entered s within (record {
      sum = subst (λ (h : List Entry). CostsSum (words_of h) (InUse (maps v)) (s.counts refl).in_use) (sym is.log)
          (s.counts refl).adds_up;
      cost = ap (λ (z : Option ModelShape). option_map_or (λ (x : ModelShape). 2 + x.refs + x.nums) z 0)
          (is.tells.shapes address n (record { shape = shape; stale = false }) is.appears.here is.header);
      unused = λ used. unnamed used.0 n used.1
          (is.tells.one_address used.0 address n
          (is.appears.others used.0 (unnamed used.0 n used.1) ∙ used.1) is.appears.here);
      unnamed = unnamed;
      appears = is.appears;
      owned = is.owned;
      owns = is.unclaimed;
      free = is.free;
      words = is.words;
      calls = is.calls;
    })

-- what was made had room beside all that is alive: its region and the objects in use
-- lie in the heap, the others on disk
pub room_for : {disk : OnDisk} {v : View} (t : ℕ) {address stored dst : ℕ} {c : Call} {shape : Shape}
    → Standing true disk v → t < length v.held → call_of v t ≡ Some c → c.stage ≡ Claimed address shape stored dst
    → HasRoom disk.end v (2 + shape.refs + shape.nums)
room_for {disk} {v} t {shape} s within at stage =
    let inside : t < length v.calls = let each : length v.calls ≡ length v.held = s.each in omega arith in
    let without : claimed (set v.calls t None) + claimed_in (call_of v t) ≡ claimed v.calls + 0 =
    claimed-set v.calls t None inside in
    let owned : claimed_in (call_of v t) ≡ cost_of shape = claimed_at v t at stage in
    let fits : (s.counts refl).in_use + claimed v.calls ≤ length v.space.list = (s.counts refl).within in
    let sum = alive_sum disk v s in
    let few : sum.0 + 1 ≤ (s.counts refl).in_use + disk.end =
    alive_within disk v s (s.counts refl).in_use sum.0 (s.counts refl).adds_up sum.1 in
    record { alive = sum.0; adds_up = sum.1; fits = omega arith }
