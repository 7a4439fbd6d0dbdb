-- Runs of words that are written and read one after another, where the bytes are known.
use Rattle.std.proofs.Common.{◌≡◌, ℕ, ◌+◌, ◌-◌, ◌*◌, ◌<◌, ◌≤◌, List, [], ◌∷◌, ◌++◌, length, take, drop, replicate}
use Rattle.std.proofs.Common.{Option, None, Some, IfSome, append_assoc, length-append, length-drop, length-take, arith}
use Rattle.std.proofs.Common.{inl, inr, refl, sym, ◌∙◌, ap, subst}
use Rattle.std.proofs.lemmas.Bool.{cases_lt}
use Rattle.std.proofs.lemmas.Grind.{flat_map-append}
use Rattle.std.proofs.lemmas.List.{append-nil, take-append-drop, drop-drop, drop_all, length-take-le, take-append-le}
use Rattle.std.proofs.lemmas.List.{take_all, take_at}
use Rattle.std.proofs.Math.Seq.{drop-append-add, take-add, take-append-add}
use Rattle.byteorder.specs.Endian.{little_bytes}
use Rattle.byteorder.specs.Numbers.{length-bytes_low_first}
use Rattle.melt_io.specs.Outside.{KeepsOthers, SameOutside, Writes, with_words}
use Rattle.melt_io.specs.Words.{word_bytes, words_in_bytes}
use Rattle.melt_io.proofs.Images.{length-front, with_words-outside}
use Rattle.melt_io.proofs.WordBytes.{words_in_bytes-append, words_in_bytes-front, words_in_bytes-padded}

pub length-word_bytes : (words : List ℕ) → length (word_bytes words) ≡ 8 * length words
length-word_bytes [] = refl
length-word_bytes (word ∷ words) =
    let here : length (little_bytes 8 word) ≡ 8 = length-bytes_low_first 0 8 word in
    omega (arith, length-append (little_bytes 8 word) (word_bytes words), here, length-word_bytes words)

-- a piece, and then the one after it
pub with_words-append : (image : List ℕ) (at : ℕ) (first second : List ℕ)
    → with_words (with_words image at first) (at + length first) second ≡ with_words image at (first ++ second)
with_words-append image at first second =
    let front : List ℕ = take at (image ++ replicate at 0) in
    let end : ℕ = at + length first in
    let rest : List ℕ = drop end image in
    let mid : List ℕ = front ++ first ++ rest in
    let len : length (front ++ first) ≡ end = length-append front first
    ∙ ap (λ n. n + length first) (length-front image at) in
    let before : take end (mid ++ replicate end 0) ≡ front ++ first
    = ap (λ bytes. take end bytes) (append_assoc (front ++ first) rest (replicate end 0))
    ∙ take_at (front ++ first) (rest ++ replicate end 0) end len in
    let past : drop (end + length second) mid ≡ drop (end + length second) image
    = ap (λ n. drop (n + length second) mid) (sym len) ∙ drop-append-add (front ++ first) rest (length second)
    ∙ drop-drop (length second) end image in
    let whole : end + length second ≡ at + length (first ++ second) = omega (arith, length-append first second) in
    ap (λ bytes. bytes ++ second ++ drop (end + length second) mid) before
    ∙ ap (λ bytes. front ++ first ++ second ++ bytes) past
    ∙ ap (λ bytes. bytes ++ drop (end + length second) image) (append_assoc front first second)
    ∙ ap (λ n. front ++ (first ++ second) ++ drop n image) whole

-- The bytes that are written so far. Before the first run nothing has changed.
abbrev pub WritesSoFar : Option (List ℕ) → ℕ → List ℕ → Option (List ℕ) → Type 0
WritesSoFar old at [] new = new ≡ old
WritesSoFar old at (byte ∷ bytes) new = Writes old at (byte ∷ bytes) new

pub writes-so_far : (old new : Option (List ℕ)) (at : ℕ) (bytes : List ℕ) → 0 < length bytes → Writes old at bytes new
    → WritesSoFar old at bytes new
writes-so_far old new at [] some told = absurd (omega arith)
writes-so_far old new at (byte ∷ bytes) some told = told

pub so_far-writes : (old new : Option (List ℕ)) (at : ℕ) (bytes : List ℕ) → 0 < length bytes
    → WritesSoFar old at bytes new → Writes old at bytes new
so_far-writes old new at [] some told = absurd (omega arith)
so_far-writes old new at (byte ∷ bytes) some told = told

Writes-append : (old mid new : Option (List ℕ)) (at : ℕ) (first second : List ℕ) → Writes old at first mid
    → Writes mid (at + length first) second new → Writes old at (first ++ second) new
Writes-append None None None at first second one two = tt
Writes-append None None (Some new) at first second one two = elim two [ ]
Writes-append None (Some mid) new at first second one two = elim one [ ]
Writes-append (Some old) None new at first second one two = elim one [ ]
Writes-append (Some old) (Some mid) None at first second one two = elim two [ ]
Writes-append (Some old) (Some mid) (Some new) at first second one two =
    two ∙ ap (λ bytes. with_words bytes (at + length first) second) one ∙ with_words-append old at first second

writes-after : (old mid new : Option (List ℕ)) (at : ℕ) (first second : List ℕ) → WritesSoFar old at first mid
    → Writes mid (at + length first) second new → Writes old at (first ++ second) new
writes-after old mid new at [] second one two =
    let start : at + 0 ≡ at = omega arith in
    let P : ℕ → Type 0 = λ n. Writes mid n second new in
    let there : Writes mid at second new = subst P start two in
    let Q : Option (List ℕ) → Type 0 = λ told. Writes told at second new in
    subst Q one there
writes-after old mid new at (byte ∷ bytes) second one two = Writes-append old mid new at (byte ∷ bytes) second one two

-- the words up to `end`, after those up to `done`
pub writes-run : (old mid new : Option (List ℕ)) (at : ℕ) (words : List ℕ) {done : ℕ} (end : ℕ) → done < end
    → end ≤ length words → WritesSoFar old (8 * at) (word_bytes (take done words)) mid
    → Writes mid (8 * (at + done)) (word_bytes (take (end - done) (drop done words))) new
    → WritesSoFar old (8 * at) (word_bytes (take end words)) new
writes-run old mid new at words {done} end more fits one two =
    let first : List ℕ = word_bytes (take done words) in
    let second : List ℕ = word_bytes (take (end - done) (drop done words)) in
    let len : length first ≡ 8 * done = length-word_bytes (take done words)
    ∙ ap (λ n. 8 * n) (length-take-le done words (omega arith)) in
    let place : 8 * (at + done) ≡ 8 * at + length first = omega arith in
    let there : Writes mid (8 * at + length first) second new = let P : ℕ → Type 0 =
    λ n. Writes mid n second new in subst P place two in
    let after : done + (end - done) ≡ end = omega arith in
    let whole : first ++ second ≡ word_bytes (take end words)
    = sym (flat_map-append (little_bytes 8) (take done words) (take (end - done) (drop done words)))
    ∙ ap word_bytes (sym (take-add done (end - done) words) ∙ ap (λ n. take n words) after) in
    let count : length (word_bytes (take end words)) ≡ 8 * end =
    length-word_bytes (take end words) ∙ ap (λ n. 8 * n) (length-take-le end words fits) in
    let P : List ℕ → Type 0 = λ bytes. Writes old (8 * at) bytes new in
    writes-so_far old new (8 * at) (word_bytes (take end words)) (omega arith)
    (subst P whole (writes-after old mid new (8 * at) first second one there))

SameOutside-append : {old mid new : List ℕ} {at m n : ℕ} (all : ℕ) → m + n ≤ all → SameOutside old at m mid
    → SameOutside mid (at + m) n new → SameOutside old at all new
SameOutside-append all fits one two = record {
  before = λ k h. two.before k (omega arith) ∙ one.before k h;
  after = λ k h. two.after k (omega arith) ∙ one.after k (omega arith);
}

SameOutside-nothing : (old : List ℕ) (at : ℕ) → SameOutside old at 0 old
SameOutside-nothing old at = record { before = λ k h. refl; after = λ k h. refl }

-- a piece that was written, and one after it of which the writing failed
keeps-after : (old mid new : Option (List ℕ)) (at : ℕ) (first : List ℕ) (n : ℕ) {all : ℕ} → length first + n ≤ all
    → WritesSoFar old at first mid → KeepsOthers mid (at + length first) n new → KeepsOthers old at all new
keeps-after None None None at first n {all} fits one two = tt
keeps-after None None (Some new) at first n {all} fits one two = elim two [ ]
keeps-after None (Some mid) new at [] n {all} fits one two = cc
keeps-after None (Some mid) new at (byte ∷ first) n {all} fits one two = elim one [ ]
keeps-after (Some old) None new at [] n {all} fits one two = cc
keeps-after (Some old) None new at (byte ∷ first) n {all} fits one two = elim one [ ]
keeps-after (Some old) (Some mid) None at first n {all} fits one two = elim two [ ]
keeps-after (Some old) (Some mid) (Some new) at [] n {all} fits one two =
    let same : mid ≡ old = cc in
    SameOutside-append all fits (rw same (SameOutside-nothing old at)) two
keeps-after (Some old) (Some mid) (Some new) at (byte ∷ first) n {all} fits one two =
    let written : SameOutside old at (length (byte ∷ first)) mid = rw one (with_words-outside old at (byte ∷ first)) in
    SameOutside-append all fits written two

-- a run of words that failed after the first `done`
pub keeps-run : (old mid new : Option (List ℕ)) (at : ℕ) (first : List ℕ) (n : ℕ) {done all : ℕ} → length first ≡ done
    → done + n ≤ all → WritesSoFar old (8 * at) (word_bytes first) mid → KeepsOthers mid (8 * (at + done)) (8 * n) new
    → KeepsOthers old (8 * at) (8 * all) new
keeps-run old mid new at first n {done} count fits one two =
    let len : length (word_bytes first) ≡ 8 * done = length-word_bytes first ∙ ap (λ n. 8 * n) count in
    let place : 8 * (at + done) ≡ 8 * at + length (word_bytes first) = omega arith in
    let P : ℕ → Type 0 = λ at. KeepsOthers mid at (8 * n) new in
    keeps-after old mid new (8 * at) (word_bytes first) (8 * n) (omega arith) one (subst P place two)

-- n bytes more, after the first `filled`
pub reads-on : (told : Option (List ℕ)) (bytes buf after : List ℕ) (at : ℕ) {filled : ℕ} (n : ℕ)
    → filled ≤ length bytes → n ≤ length buf → IfSome told (λ all. take filled bytes ≡ take filled (drop at all))
    → IfSome told (λ all. take n buf ≡ take n (drop (at + filled) all))
    → IfSome told (λ all. take (filled + n) (take filled bytes ++ (buf ++ after)) ≡ take (filled + n) (drop at all))
reads-on None bytes buf after at {filled} n within fits one two = tt
reads-on (Some all) bytes buf after at {filled} n within fits one two =
    let len : length (take filled bytes) ≡ filled = length-take-le filled bytes within in
    let next : drop (at + filled) all ≡ drop filled (drop at all) = sym (drop-drop filled at all) in
    ap (λ m. take (m + n) (take filled bytes ++ (buf ++ after))) (sym len)
    ∙ take-append-add (take filled bytes) (buf ++ after) n
    ∙ ap (λ read. take filled bytes ++ read) (take-append-le n buf after fits ∙ two ∙ ap (λ left. take n left) next)
    ∙ ap (λ front. front ++ take n (drop filled (drop at all))) one
    ∙ sym (take-add filled n (drop at all))

-- what is written over a part keeps the length
pub length-overwritten : (bytes part : List ℕ) (at n : ℕ) → at + n ≤ length bytes → length part ≡ n
    → length (take at bytes ++ (part ++ drop (at + n) bytes)) ≡ length bytes
length-overwritten bytes part at n h len =
    simp (length-append, length-take, length-drop) (omega arith)

-- what a run gives: a front of what is there, and zeros where that ends
words_in_bytes-filled : (there : List ℕ) (k n z : ℕ) → n ≤ 8 * k → length (take n there) ≡ n
    → (n < 8 * k → length there ≤ n)
    → words_in_bytes k (take n there ++ replicate z 0) ≡ words_in_bytes k there
words_in_bytes-filled there k n z fits len ended =
    words_in_bytes-padded k z (take n there)
    ∙ elim (cases_lt n (8 * k)) [
      | inl short ↦ ap (λ bytes. words_in_bytes k bytes) (take_all n there (ended short))
      | inr full ↦
          let whole : take n there ++ drop n there ≡ there = take-append-drop n there in
          sym (words_in_bytes-front k (take n there) (drop n there) (omega arith))
          ∙ ap (λ bytes. words_in_bytes k bytes) whole
    ]

pub reads-filled : (told : Option (List ℕ)) (at : ℕ) (bytes : List ℕ) {zeros words : List ℕ} (n z k : ℕ)
    → n ≤ length bytes → length bytes ≡ 8 * k → IfSome told (λ all. take n bytes ≡ take n (drop at all))
    → (n < length bytes → IfSome told (λ all. length all ≤ at + n)) → zeros ≡ replicate z 0
    → words ≡ words_in_bytes k (take n bytes ++ (zeros ++ drop (length bytes - n) (drop n bytes)))
    → IfSome told (λ all. words ≡ words_in_bytes k (drop at all))
reads-filled None at bytes {zeros} n z k fits len taken ended zero e = tt
reads-filled (Some all) at bytes {zeros} n z k fits len taken ended zero e =
    let there : List ℕ = drop at all in
    let after : List ℕ = drop (length bytes - n) (drop n bytes) in
    let nothing : after ≡ [] = drop_all (length bytes - n) (drop n bytes) (omega (arith, length-drop n bytes)) in
    let padded : zeros ++ after ≡ replicate z 0 = ap (λ rest. zeros ++ rest) nothing ∙ append-nil zeros ∙ zero in
    let front : length (take n there) ≡ n = ap length (sym taken) ∙ length-take-le n bytes fits in
    e ∙ ap (λ rest. words_in_bytes k (take n bytes ++ rest)) padded
    ∙ ap (λ front. words_in_bytes k (front ++ replicate z 0)) taken
    ∙ words_in_bytes-filled there k n z (omega arith) front
    (λ h. let past : length all ≤ at + n = ended (omega arith) in
    omega (arith, length-drop at all))

-- the words up to `end`, after those up to `done`
pub reads-more : (told : Option (List ℕ)) (at : ℕ) (words run after : List ℕ) {done : ℕ} (end : ℕ) → done ≤ end
    → done ≤ length words → length run ≡ end - done
    → IfSome told (λ all. take done words ≡ words_in_bytes done (drop (8 * at) all))
    → IfSome told (λ all. run ≡ words_in_bytes (length run) (drop (8 * (at + done)) all))
    → IfSome told (λ all. take end (take done words ++ (run ++ after)) ≡ words_in_bytes end (drop (8 * at) all))
reads-more None at words run after {done} end h within len one two = tt
reads-more (Some all) at words run after {done} end h within len one two =
    let there : List ℕ = drop (8 * at) all in
    let front : length (take done words) ≡ done = length-take-le done words within in
    let count : done + length run ≡ end = omega arith in
    let both : length (take done words ++ run) ≡ end = length-append (take done words) run ∙ omega arith in
    let place : 8 * at + 8 * done ≡ 8 * (at + done) = omega arith in
    let next : drop (8 * done) there ≡ drop (8 * (at + done)) all =
    drop-drop (8 * done) (8 * at) all ∙ ap (λ n. drop n all) place in
    ap (λ read. take end read) (sym (append_assoc (take done words) run after))
    ∙ take_at (take done words ++ run) after end both
    ∙ ap (λ words. words ++ run) one
    ∙ ap (λ words. words_in_bytes done there ++ words)
    (two ∙ ap (λ bytes. words_in_bytes (length run) bytes) (sym next))
    ∙ sym (words_in_bytes-append done (length run) there)
    ∙ ap (λ n. words_in_bytes n there) count
