-- Of two histories that begin one, the longer one begins it, and has no fewer entries of a thread.
use Rattle.std.proofs.Common.{◌≡◌, ℕ, ◌+◌, ◌<◌, ◌≤◌, List, [], ◌∷◌, ◌++◌, length, refl, sym, ◌∙◌, ap, arith}
use Rattle.std.proofs.Common.{Bool, true, false, append-nil, length-append}
use Rattle.std.proofs.lemmas.Bool.Decides.{nat_tests}
use Rattle.std.specs.Prelude.{nat_lt, if◌then◌else◌}
use Rattle.melt_model.proofs.Histories.{own_from-append}
use Rattle.melt_model.specs.Thread.{own, own_from}
use Rattle.melt_model.specs.declared.history.Entry.{Entry}
use Rattle.melt_rule.specs.Giving.{longer}
use Rattle.melt_rule.specs.Rule.{Begins, Saw}

begins_length : (g h : List Entry) → Begins g h → length g ≤ length h
begins_length g h b = let e = ap length b.1 in omega (arith, length-append g b.0)

nothing_more : (g more h : List Entry) → length h ≤ length g → g ++ more ≡ h → g ≡ h
nothing_more g [] h le e = sym (append-nil g) ∙ e
nothing_more g (x ∷ more) h le e = let l = ap length e in absurd (omega (arith, length-append g (x ∷ more)))

begins_whole : (g h : List Entry) → Begins g h → length h ≤ length g → g ≡ h
begins_whole g h b le = nothing_more g b.0 h le b.1

-- where the first is the whole history, the longer one is
pub longer_first : (a b h : List Entry) → a ≡ h → Begins b h → longer a b ≡ h
longer_first a b h e bb = go (nat_lt (length a) (length b)) refl
  where
    go : (c : Bool) → nat_lt (length a) (length b) ≡ c → (if c then b else a) ≡ h
    go true t = let l = begins_length b h bb in let m = ap length e in absurd (grind (arith, nat_tests))
    go false t = e

-- and where the second is
pub longer_second : (a b h : List Entry) → b ≡ h → Begins a h → longer a b ≡ h
longer_second a b h e ba = go (nat_lt (length a) (length b)) refl
  where
    go : (c : Bool) → nat_lt (length a) (length b) ≡ c → (if c then b else a) ≡ h
    go true t = e
    go false t = begins_whole a h ba (let m = ap length e in grind (arith, nat_tests))

-- of two beginnings of one history, the shorter begins the longer
begins_between : (a b h : List Entry) → Begins a h → Begins b h → length a ≤ length b → Begins a b
begins_between [] b h x y le = (b, refl)
begins_between (e ∷ a) [] h x y le = absurd (omega arith)
begins_between (e ∷ a) (f ∷ b) [] x y le = let l = ap length x.1 in absurd (omega arith)
begins_between (e ∷ a) (f ∷ b) (g ∷ h) x y le =
    let one : e ≡ g = let z : e ∷ (a ++ x.0) ≡ g ∷ h = x.1 in cc in
    let rest_a : a ++ x.0 ≡ h = let z : e ∷ (a ++ x.0) ≡ g ∷ h = x.1 in cc in
    let two : f ≡ g = let z : f ∷ (b ++ y.0) ≡ g ∷ h = y.1 in cc in
    let rest_b : b ++ y.0 ≡ h = let z : f ∷ (b ++ y.0) ≡ g ∷ h = y.1 in cc in
    let r = begins_between a b h (x.0, rest_a) (y.0, rest_b) (omega arith) in
    (r.0, ap (λ (z : Entry). z ∷ (a ++ r.0)) (one ∙ sym two) ∙ ap (λ (l : List Entry). f ∷ l) r.1)

nothing_of : (l : List ℕ) → length l ≡ 0 → l ≡ []
nothing_of [] e = refl
nothing_of (x ∷ l) e = absurd (omega arith)

own_more : (g more : List Entry) (t : ℕ) → own (g ++ more) t ≡ own g t ++ own_from (length g) more t
own_more g more t =
    own_from-append 0 g more t
    ∙ ap (λ (p : ℕ). own g t ++ own_from p more t) (let same : 0 + length g ≡ length g = omega arith in same)

-- a beginning between has the thread's entries where the shorter has them all
own_between : (a b h : List Entry) (t : ℕ) → Begins a b → Begins b h → own h t ≡ own a t → own h t ≡ own b t
own_between a b h t x y same =
    let front : own b t ≡ own a t ++ own_from (length a) x.0 t =
    ap (λ (l : List Entry). own l t) (sym x.1) ∙ own_more a x.0 t in
    let whole : own h t ≡ own b t ++ own_from (length b) y.0 t =
    ap (λ (l : List Entry). own l t) (sym y.1) ∙ own_more b y.0 t in
    let of_front : length (own b t) ≡ length (own a t) + length (own_from (length a) x.0 t) =
    ap length front ∙ length-append (own a t) (own_from (length a) x.0 t) in
    let of_whole : length (own h t) ≡ length (own b t) + length (own_from (length b) y.0 t) =
    ap length whole ∙ length-append (own b t) (own_from (length b) y.0 t) in
    let as_many : length (own h t) ≡ length (own a t) = ap length same in
    whole
    ∙ (ap (λ (l : List ℕ). own b t ++ l) (nothing_of (own_from (length b) y.0 t) (omega arith)) ∙ append-nil (own b t))

-- a thread that saw one of them saw the longer one
pub saw_longer : (h : List Entry) (t : ℕ) (a b : List Entry) → Saw h t a → Begins b h → Saw h t (longer a b)
saw_longer h t a b saw also = go (nat_lt (length a) (length b)) refl
  where
    go : (c : Bool) → nat_lt (length a) (length b) ≡ c → Saw h t (if c then b else a)
    go true e =
        let less : length a < length b = grind (arith, nat_tests) in
        let shorter = begins_between a b h saw.begins also (omega arith) in
        record { begins = also; own_same = own_between a b h t shorter also saw.own_same }
    go false e = saw
