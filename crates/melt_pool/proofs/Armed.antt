-- Mutators are made ready one by one, from the first or from the last one on, and so all of them are.
use Rattle.std.proofs.Common.{◌≡◌, ℕ, zero, suc, ◌+◌, ◌-◌, ◌^◌, ◌<◌, ◌≤◌, List, [], ◌∷◌, ◌++◌, length, get_or}
use Rattle.std.proofs.Common.{length-append, map, take, refl, sym, ◌∙◌, ap, subst, arith, inl, inr}
use Rattle.std.proofs.Math.ListN.{set, length-set}
use Rattle.std.proofs.lemmas.Bool.{cases_eq, cases_lt}
use Rattle.std.proofs.lemmas.List.Sums.{sum-map, sum_by-cons}
use Rattle.std.proofs.lemmas.Option.{same_Some, slice_get_within, slice_get-get_or}
use Rattle.std.specs.Prelude.{Option, None, Some, slice_get, sum}
use Rattle.melt_io.specs.Outside.{Rose, counted}
use Rattle.melt_scion.specs.declared.registers.Registers.{Registers}
use Rattle.melt_core.specs.Views.{View}
use Rattle.melt_epoch.specs.declared.mutator.Mutator.{Mutator}
use Rattle.melt_safepoint.specs.Lends.{LendsAtMost}
use Rattle.melt_safepoint.specs.Losses.{open_faults}
use Rattle.melt_safepoint.specs.declared.thread.ThreadState.{ThreadState}
use Rattle.melt_safepoint.proofs.Threads.{get_set_other, get_set_same}
use Rattle.melt_pool.specs.Arming.{AllWork, AreHanded, AreLent, CountsReaders, IsHanded, IsLent, faults_in}
use Rattle.melt_pool.specs.Machines.{AreArmed, AreDisarmed, IsArmed}
use Rattle.melt_pool.specs.Parts.{AreAway, IsAway}
use Rattle.melt_pool.specs.Workers.{Brings, faults_of}
use Rattle.melt_pool.specs.declared.worker.Worker.{Worker}
use Rattle.melt_core.proofs.Nameless.{is_none}

-- The elements before this one are done, and the others are as before.
pub record DoneBelow {A : Type 0} (P : ℕ → A → A → Type 0) (k : ℕ) (olds news : List A) : Type 0 where
  pub count : length news ≡ length olds
  pub done : (t : ℕ) (m n : A) → t < k → slice_get olds t ≡ Some m → slice_get news t ≡ Some n → P t m n
  pub left : (t : ℕ) → k ≤ t → slice_get news t ≡ slice_get olds t

-- Those from this one on are done.
pub record DoneFrom {A : Type 0} (P : ℕ → A → A → Type 0) (k : ℕ) (olds news : List A) : Type 0 where
  pub count : length news ≡ length olds
  pub done : (t : ℕ) (m n : A) → k ≤ t → slice_get olds t ≡ Some m → slice_get news t ≡ Some n → P t m n
  pub left : (t : ℕ) → t < k → slice_get news t ≡ slice_get olds t

module _ {A : Type 0} (P : ℕ → A → A → Type 0) where
  pub none_below : (olds : List A) → DoneBelow P 0 olds olds
  none_below olds = record {
    count = refl;
    done = λ t m n below was is. absurd (omega (arith, below));
    left = λ t past. refl;
  }

  pub none_from : (k : ℕ) (olds : List A) → length olds ≤ k → DoneFrom P k olds olds
  none_from k olds all = record {
    count = refl;
    done = λ t m n from was is.
        absurd (let within : t < length olds = slice_get_within olds t m was in omega (arith, within, from, all));
    left = λ t below. refl;
  }

  -- the element that was set here
  here_done : {k t : ℕ} (olds news : List A) {m : A} (n : A) {x y : A} → slice_get olds k ≡ Some m
      → slice_get news k ≡ Some m → P k m n → t ≡ k → slice_get olds t ≡ Some x → slice_get (set news k n) t ≡ Some y
      → P t x y
  here_done {k} olds news {m} n {x} {y} at there here same was is =
      let old : slice_get olds k ≡ Some x = subst (λ (j : ℕ). slice_get olds j ≡ Some x) same was in
      let new : slice_get (set news k n) k ≡ Some y =
      subst (λ (j : ℕ). slice_get (set news k n) j ≡ Some y) same is in
      let one : m ≡ x = same_Some m x (sym at ∙ old) in
      let other : n ≡ y = same_Some n y (sym (get_set_same news k m n there) ∙ new) in
      subst (λ (j : ℕ). P j x y) (sym same) (subst (λ (z : A). P k z y) one (subst (λ (z : A). P k m z) other here))

  -- one more is done
  pub one_below : (k : ℕ) (olds news : List A) (m n : A) → DoneBelow P k olds news → slice_get olds k ≡ Some m
      → P k m n → DoneBelow P (k + 1) olds (set news k n)
  one_below k olds news m n so at here = record {
    count = length-set news k n ∙ so.count;
    done = λ t x y below was is. elim (cases_eq t k) [
      | inl same ↦ here_done olds news n at (so.left k (omega arith) ∙ at) here same was is
      | inr other ↦ so.done t x y (omega (arith, below, other)) was (sym (get_set_other news k t n other) ∙ is)
    ];
    left = λ t past.
        get_set_other news k t n (λ (same : t ≡ k). omega (arith, same, past)) ∙ so.left t (omega (arith, past));
  }

  pub one_from : (k next : ℕ) (olds news : List A) (m n : A) → next ≡ k + 1 → DoneFrom P next olds news
      → slice_get olds k ≡ Some m → P k m n → DoneFrom P k olds (set news k n)
  one_from k next olds news m n is_next so at here = record {
    count = length-set news k n ∙ so.count;
    done = λ t x y from was is. elim (cases_eq t k) [
      | inl same ↦
          here_done olds news n at (so.left k (omega (arith, is_next)) ∙ at) here same was is
      | inr other ↦ so.done t x y (omega (arith, from, other, is_next)) was
          (sym (get_set_other news k t n other) ∙ is)
    ];
    left = λ t below.
        get_set_other news k t n (λ (same : t ≡ k). omega (arith, same, below))
        ∙ so.left t (omega (arith, below, is_next));
  }

  -- the next one is as it was
  pub next_below : (k : ℕ) (olds news : List A) (d : A) → DoneBelow P k olds news → k < length olds
      → slice_get olds k ≡ Some (get_or news k d)
  next_below k olds news d so within =
      let count : length news ≡ length olds = so.count in
      sym (so.left k (omega arith)) ∙ slice_get-get_or news k d (omega (arith, within, count))

  pub next_from : (k next : ℕ) (olds news : List A) (d : A) → DoneFrom P next olds news → k < next
      → next ≤ length olds → slice_get olds k ≡ Some (get_or news k d)
  next_from k next olds news d so below within =
      let count : length news ≡ length olds = so.count in
      sym (so.left k below) ∙ slice_get-get_or news k d (omega (arith, below, within, count))

  -- and in the end all are
  pub all_below : (k : ℕ) (olds news : List A) → DoneBelow P k olds news → length olds ≤ k → (t : ℕ) (m n : A)
      → slice_get olds t ≡ Some m → slice_get news t ≡ Some n → P t m n
  all_below k olds news so all t m n was is =
      so.done t m n (let within : t < length olds = slice_get_within olds t m was in omega (arith, within, all)) was is

-- the element at a place
got : {A : Type 0} (xs : List A) (t : ℕ) → t < length xs → (x : A) × (slice_get xs t ≡ Some x)
got [] t below = absurd (omega (arith, below))
got (x ∷ xs) zero below = (x, refl)
got (x ∷ xs) (suc t) below = got xs t (omega (arith, below))

-- the last of elements, and those before it
pub last_got : {A : Type 0} (xs : List A) (x : A) → slice_get (xs ++ x ∷ []) (length xs) ≡ Some x
last_got [] x = refl
last_got (y ∷ xs) x = last_got xs x

pub front_got : {A : Type 0} (xs ys : List A) (t : ℕ) → t < length xs → slice_get (xs ++ ys) t ≡ slice_get xs t
front_got [] ys t below = absurd (omega (arith, below))
front_got (x ∷ xs) ys zero below = refl
front_got (x ∷ xs) ys (suc t) below = front_got xs ys t (omega (arith, below))

-- what a mutator got that was lent a reader
abbrev pub LentAt : {R : Type 0} → (R → Option (List ℕ)) → (R → ℕ) → Option (List ℕ) → List Registers → ℕ
    → Mutator (Worker R) → Mutator (Worker R) → Type 0
LentAt image faults words registers t m n =
    (r : Registers) → slice_get registers t ≡ Some r → IsLent image faults words r m n

-- and one that was given its operations
abbrev pub HandedAt : {R : Type 0} → List ThreadState → ℕ → Mutator (Worker R) → Mutator (Worker R) → Type 0
HandedAt states t m n = (s : ThreadState) → slice_get states t ≡ Some s → IsHanded s m n

-- what was taken from it, and its registers
abbrev pub TakenAt : {R : Type 0} → ℕ → Mutator (Worker R) → Mutator (Worker R) → Type 0
TakenAt t m n = n ≡ record m { reader = None }

abbrev pub HeldAt : {R : Type 0} → List (Mutator (Worker R)) → ℕ → Registers → Registers → Type 0
HeldAt {R} ms t r q =
    ((m : Mutator (Worker R)) → slice_get ms t ≡ Some m → q ≡ m.registers) × (length q.regs ≡ 16)

-- each brings its operations, and so does one more
pub one_brought : {R : Type 0} (olds : List (Mutator (Worker R))) (states : List ThreadState) {after : List ThreadState}
    {k : ℕ} {m : Mutator (Worker R)} {state : ThreadState} → ((t : ℕ) (x : Mutator (Worker R)) (s : ThreadState) →
    slice_get olds t ≡ Some x → slice_get states t ≡ Some s → Brings x s) → length states ≡ k
    → after ≡ states ++ state ∷ [] → slice_get olds k ≡ Some m → Brings m state → (t : ℕ) (x : Mutator (Worker R))
    (s : ThreadState) → slice_get olds t ≡ Some x → slice_get after t ≡ Some s → Brings x s
one_brought {R} olds states {k} {m} {state} so many is at brings t x s at_x at_s =
    let got : slice_get (states ++ state ∷ []) t ≡ Some s =
    subst (λ (xs : List ThreadState). slice_get xs t ≡ Some s) is at_s in
    elim (cases_eq t k) [
      | inl same ↦
          let last : state ≡ s = same_Some state s (sym (last_got states state)
          ∙ subst (λ (j : ℕ). slice_get (states ++ state ∷ []) j ≡ Some s) (same ∙ sym many) got) in
          let one : m ≡ x = same_Some m x (sym at
          ∙ subst (λ (j : ℕ). slice_get olds j ≡ Some x) same at_x) in
          subst (λ (y : Mutator (Worker R)). Brings y s) one (subst (Brings m) last brings)
      | inr other ↦
          let within : t < length (states ++ state ∷ []) = slice_get_within (states ++ state ∷ []) t s got in
          let below : t < length states =
          omega (arith, within, other, many, length-append states (state ∷ [])) in
          so t x s at_x (sym (front_got states (state ∷ []) t below) ∙ got)
    ]

-- the count of lends, by one more
pub lends_one : (k before mid after : ℕ) → LendsAtMost k before mid → after ≡ counted mid 1
    → LendsAtMost (k + 1) before after
lends_one k before mid after so is = record {
  few = omega (arith, so.few, is);
  rises = elim so.rises [
    | inl up ↦ elim (cases_lt (mid + 1) (2 ^ 64 - 1)) [
      | inl low ↦ inl (omega (arith, up, low, is))
      | inr high ↦ inr (omega (arith, high, is))
    ]
    | inr full ↦ inr (omega (arith, full, is))
  ];
}

-- a count that rose at last has risen
pub rose_later : (before mid after : ℕ) → before ≤ mid → mid ≤ after → Rose mid after → Rose before after
rose_later before mid after first then rose low = elim (cases_lt mid (2 ^ 64 - 1)) [
  | inl below ↦ let more : mid < after = rose below in omega (arith, first, more)
  | inr full ↦ omega (arith, full, low, then)
]

-- a sum over one element more
sum_more : {A : Type 0} (f : A → ℕ) (xs : List A) (k : ℕ) (x : A) → slice_get xs k ≡ Some x
    → sum (map f (take (suc k) xs)) ≡ sum (map f (take k xs)) + f x
sum_more f [] k x at = absurd (cc)
sum_more f (z ∷ xs) zero x at = let e : f z ≡ f x = ap f (same_Some z x at) in omega (arith, e)
sum_more f (z ∷ xs) (suc k) x at =
    let rest : sum (map f (take (suc k) xs)) ≡ sum (map f (take k xs)) + f x = sum_more f xs k x at in
    omega (
      arith,
      rest,
      sum-map f (take (suc k) xs),
      sum-map f (take k xs),
      sum-map f (z ∷ take (suc k) xs),
      sum-map f (z ∷ take k xs),
      sum_by-cons f z (take (suc k) xs),
      sum_by-cons f z (take k xs),
    )

pub take_whole : {A : Type 0} (n : ℕ) (xs : List A) → length xs ≤ n → take n xs ≡ xs
take_whole zero [] all = refl
take_whole (suc n) [] all = refl
take_whole zero (x ∷ xs) all = absurd (omega (arith, all))
take_whole (suc n) (x ∷ xs) all = ap (λ (ys : List _). x ∷ ys) (take_whole n xs (omega (arith, all)))

-- the reads that failed, with those of one reader more
pub reads_one : {R : Type 0} {faults : R → ℕ} (ms : List (Mutator (Worker R))) (k : ℕ) {before mid after : ℕ}
    {m : Mutator (Worker R)} {worker : Worker R} → CountsReaders faults (take k ms) before mid → slice_get ms k ≡ Some m
    → m.reader ≡ Some worker → after ≡ counted mid (faults worker.reader)
    → CountsReaders faults (take (k + 1) ms) before after
reads_one {R} {faults} ms k {mid} {m} {worker} so at there is =
    let f : Mutator (Worker R) → ℕ = λ x. open_faults (faults_of faults) x.reader in
    let one : f m ≡ faults worker.reader = ap (open_faults (faults_of faults)) there in
    let next : suc k ≡ k + 1 = omega arith in
    let more : faults_in faults (take (k + 1) ms) ≡ faults_in faults (take k ms) + f m =
    subst (λ (j : ℕ). sum (map f (take j ms)) ≡ sum (map f (take k ms)) + f m) next (sum_more f ms k m at) in
    record {
      counted = elim so.counted [
        | inl up ↦ elim (cases_lt (mid + faults worker.reader) (2 ^ 64 - 1)) [
          | inl low ↦ inl (omega (arith, up, low, is, more, one))
          | inr high ↦ inr (omega (arith, high, is))
        ]
        | inr full ↦ inr (omega (arith, full, is))
      ];
      rises = elim so.rises [
        | inl up ↦ elim (cases_lt (mid + faults worker.reader) (2 ^ 64 - 1)) [
          | inl low ↦ inl (omega (arith, up, low, is))
          | inr high ↦ inr (omega (arith, high, is))
        ]
        | inr full ↦ inr (omega (arith, full, is))
      ];
    }

-- Mutators that were lent readers have workers.
pub lent_work : {R : Type 0} (image : R → Option (List ℕ)) (faults : R → ℕ) (words : Option (List ℕ))
    (registers : List Registers) (ms ns : List (Mutator (Worker R))) → AreLent image faults words registers ms ns
    → length registers ≡ length ms → AllWork ns
lent_work {R} image faults words registers ms ns lent many t n at =
    let within : t < length ns = slice_get_within ns t n at in
    let count : length ns ≡ length ms = lent.count in
    let none : Registers = record { regs = [] } in
    let is = lent.each t (get_or registers t none) (get_or ms t n) n
    (slice_get-get_or registers t none (omega (arith, within, count, many)))
    (slice_get-get_or ms t n (omega (arith, within, count))) at in
    (record { reader = is.reader; state = None }, ap (λ (x : Mutator (Worker R)). x.reader) is.is)

-- one that was lent a reader and given its operations is ready
armed_one : {R : Type 0} {image : R → Option (List ℕ)} {faults : R → ℕ} {words : Option (List ℕ)} {v : View} {t : ℕ}
    {s : ThreadState} {r : Registers} {m x n : Mutator (Worker R)} → IsAway v t m → IsLent image faults words r m x
    → IsHanded s x n → IsArmed image faults words v t s r n
armed_one {R} {image} {faults} {words} {v} {t} {s} {r} {m} {x} {n} away lent handed =
    let first : Worker R = record { reader = lent.reader; state = None } in
    let worker : Worker R = record { reader = lent.reader; state = Some s } in
    let whole : Mutator (Worker R) = record m { registers = r; reader = Some worker } in
    let same : handed.worker ≡ first = same_Some handed.worker first
    (sym handed.there ∙ ap (λ (y : Mutator (Worker R)). y.reader) lent.is) in
    let is : n ≡ whole = handed.is
    ∙ (ap (λ (w : Worker R). let y : Mutator (Worker R) = record x { reader = Some (record w { state = Some s }) } in y)
    same
    ∙ ap (λ (y : Mutator (Worker R)). let z : Mutator (Worker R) = record y { reader = Some worker } in z) lent.is) in
    subst (λ (y : Mutator (Worker R)). IsArmed image faults words v t s r y) (sym is)
    (record {
      thread = away.thread;
      no_seat = is_none m.seat away.no_seat;
      size = away.size;
      values = away.values;
      holds = refl;
      brings = record { worker = worker; there = refl; state = refl };
      tells = lent.tells;
      unfailed = lent.unfailed;
    })

-- and so are all
pub armed : {R : Type 0} {image : R → Option (List ℕ)} {faults : R → ℕ} {words : Option (List ℕ)} {v : View}
    {states : List ThreadState} {registers : List Registers} {ms xs ns : List (Mutator (Worker R))}
    → AreAway v registers ms → length states ≡ length ms → AreLent image faults words registers ms xs
    → AreHanded states xs ns → AreArmed image faults words v states registers ns
armed {R} {ms} {xs} {ns} away many lent handed =
    let one : length xs ≡ length ms = lent.count in
    let two : length ns ≡ length xs = handed.count in
    record {
      count = two ∙ (one ∙ sym many);
      as_many = sym away.count ∙ sym many;
      each = λ t s r n at_s at_r at_n.
          let within : t < length ns = slice_get_within ns t n at_n in
          let m : Mutator (Worker R) = get_or ms t n in
          let x : Mutator (Worker R) = get_or xs t n in
          let at_m : slice_get ms t ≡ Some m = slice_get-get_or ms t n (omega (arith, within, one, two)) in
          let at_x : slice_get xs t ≡ Some x = slice_get-get_or xs t n (omega (arith, within, two)) in
          armed_one (away.each t m at_m) (lent.each t r m x at_r at_m at_x) (handed.each t s x n at_s at_x at_n);
    }

-- Those from which all was taken are as they were before.
pub disarmed : {R : Type 0} (k : ℕ) (ns ms : List (Mutator (Worker R))) (states : List ThreadState)
    (before registers : List Registers) → length ns ≤ k → k ≤ length ns → length states ≡ k
    → length before ≡ length ns → DoneBelow TakenAt k ns ms → DoneBelow (HeldAt ns) k before registers
    → ((t : ℕ) (n : Mutator (Worker R)) (s : ThreadState) → slice_get ns t ≡ Some n → slice_get states t ≡ Some s
    → Brings n s) → AreDisarmed ns states registers ms
disarmed {R} k ns ms states before registers all most many as_many taken held brought =
    let still_many : length registers ≡ length before = held.count in
    record {
      count = taken.count;
      as_many = omega (arith, all, most, many);
      too = still_many ∙ as_many;
      each = λ t n s r m at_n at_s at_r at_m.
          let within : t < length ns = slice_get_within ns t n at_n in
          let below : t < k = omega (arith, within, all) in
          record {
            brings = brought t n s at_n at_s;
            registers = (held.done t (get_or before t r) r below
                (slice_get-get_or before t r (omega (arith, within, as_many))) at_r).0 n at_n;
            size = (held.done t (get_or before t r) r below
                (slice_get-get_or before t r (omega (arith, within, as_many))) at_r).1;
            left = taken.done t n m below at_n at_m;
          };
    }

-- each thread has 16 registers
abbrev pub AllSized : List Registers → Type 0
AllSized registers = (t : ℕ) (r : Registers) → slice_get registers t ≡ Some r → length r.regs ≡ 16

-- so it was found when they were given to the mutators
pub lent_sized : {R : Type 0} (image : R → Option (List ℕ)) (faults : R → ℕ) (words : Option (List ℕ))
    (registers : List Registers) (ms ns : List (Mutator (Worker R))) → AreLent image faults words registers ms ns
    → length registers ≡ length ms → AllSized registers
lent_sized {R} image faults words registers ms ns lent many t r at =
    let within : t < length registers = slice_get_within registers t r at in
    let m = got ms t (omega (arith, within, many)) in
    let n = got ns t (omega (arith, within, many, lent.count)) in
    (lent.each t r m.0 n.0 at m.1 n.1).size

-- and when they were taken from them
pub disarmed_sized : {R : Type 0} (ns : List (Mutator (Worker R))) (states : List ThreadState)
    (registers : List Registers) (ms : List (Mutator (Worker R))) → AreDisarmed ns states registers ms
    → AllSized registers
disarmed_sized {R} ns states registers ms disarmed t r at =
    let within : t < length registers = slice_get_within registers t r at in
    let n = got ns t (omega (arith, within, disarmed.too)) in
    let s = got states t (omega (arith, within, disarmed.too, disarmed.as_many)) in
    let m = got ms t (omega (arith, within, disarmed.too, disarmed.count)) in
    (disarmed.each t n.0 s.0 r m.0 n.1 s.1 at m.1).size
