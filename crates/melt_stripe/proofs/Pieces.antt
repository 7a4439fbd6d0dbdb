-- Runs of words that are written one after the other, where the words are known.
use Rattle.std.proofs.Common.{◌≡◌, ℕ, ◌+◌, ◌-◌, ◌<◌, ◌≤◌, List, [], ◌∷◌, ◌++◌, length, take, drop, replicate}
use Rattle.std.proofs.Common.{Option, None, Some}
use Rattle.std.proofs.Common.{IfSome, append_assoc, length-append, arith, refl, sym, ◌∙◌, ap, subst}
use Rattle.std.proofs.lemmas.List.{drop-drop, length-take-le, take_at}
use Rattle.std.proofs.Math.Seq.{drop-append-add, take-add}
use Rattle.melt_io.specs.Outside.{KeepsOthers, SameOutside, Writes, with_words, words_at}
use Rattle.melt_io.proofs.Images.{length-front, with_words-outside}
use Rattle.melt_io.proofs.Runs.{WritesSoFar, with_words-append, writes-so_far}
use Rattle.melt_stripe.proofs.Reading.{words_at-append}

-- a piece, and then the one after it
writes_append : (old mid new : Option (List ℕ)) (at : ℕ) (first second : List ℕ) → Writes old at first mid
    → Writes mid (at + length first) second new → Writes old at (first ++ second) new
writes_append None None None at first second one two = tt
writes_append None None (Some new) at first second one two = elim two [ ]
writes_append None (Some mid) new at first second one two = elim one [ ]
writes_append (Some old) None new at first second one two = elim one [ ]
writes_append (Some old) (Some mid) None at first second one two = elim two [ ]
writes_append (Some old) (Some mid) (Some new) at first second one two =
    two ∙ ap (λ words. with_words words (at + length first) second) one ∙ with_words-append old at first second

writes_after : (old mid new : Option (List ℕ)) (at : ℕ) (first second : List ℕ) → WritesSoFar old at first mid
    → Writes mid (at + length first) second new → Writes old at (first ++ second) new
writes_after old mid new at [] second one two =
    let start : at + 0 ≡ at = omega arith in
    let P : ℕ → Type 0 = λ n. Writes mid n second new in
    let there : Writes mid at second new = subst P start two in
    let Q : Option (List ℕ) → Type 0 = λ told. Writes told at second new in
    subst Q one there
writes_after old mid new at (word ∷ words) second one two = writes_append old mid new at (word ∷ words) second one two

-- the words up to `end`, after those up to `done`
pub writes_on : (old mid new : Option (List ℕ)) (at : ℕ) (words : List ℕ) {done : ℕ} (end : ℕ) → done < end
    → end ≤ length words → WritesSoFar old at (take done words) mid
    → Writes mid (at + done) (take (end - done) (drop done words)) new → WritesSoFar old at (take end words) new
writes_on old mid new at words {done} end more fits one two =
    let first : List ℕ = take done words in
    let second : List ℕ = take (end - done) (drop done words) in
    let len : length first ≡ done = length-take-le done words (omega arith) in
    let there : Writes mid (at + length first) second new = rw len two in
    let after : done + (end - done) ≡ end = omega arith in
    let whole : first ++ second ≡ take end words = sym (take-add done (end - done) words)
    ∙ ap (λ n. take n words) after in
    let count : length (take end words) ≡ end = length-take-le end words fits in
    let P : List ℕ → Type 0 = λ all. Writes old at all new in
    writes-so_far old new at (take end words) (omega arith)
    (subst P whole (writes_after old mid new at first second one there))

same_on : {old mid new : List ℕ} {at m n : ℕ} (all : ℕ) → m + n ≤ all → SameOutside old at m mid
    → SameOutside mid (at + m) n new → SameOutside old at all new
same_on all fits one two = record {
  before = λ k h. two.before k (omega arith) ∙ one.before k h;
  after = λ k h. two.after k (omega arith) ∙ one.after k (omega arith);
}

same_nothing : (old : List ℕ) (at : ℕ) → SameOutside old at 0 old
same_nothing old at = record { before = λ k h. refl; after = λ k h. refl }

-- a piece that was written, and one after it of which the writing failed
pub keeps_on : (old mid new : Option (List ℕ)) (at : ℕ) (first : List ℕ) (n : ℕ) {done all : ℕ} → length first ≡ done
    → done + n ≤ all → WritesSoFar old at first mid → KeepsOthers mid (at + done) n new → KeepsOthers old at all new
keeps_on None None None at first n {done} {all} count fits one two = tt
keeps_on None None (Some new) at first n {done} {all} count fits one two = elim two [ ]
keeps_on None (Some mid) new at [] n {done} {all} count fits one two = cc
keeps_on None (Some mid) new at (word ∷ first) n {done} {all} count fits one two = elim one [ ]
keeps_on (Some old) None new at [] n {done} {all} count fits one two = cc
keeps_on (Some old) None new at (word ∷ first) n {done} {all} count fits one two = elim one [ ]
keeps_on (Some old) (Some mid) None at first n {done} {all} count fits one two = elim two [ ]
keeps_on (Some old) (Some mid) (Some new) at [] n {done} {all} count fits one two =
    let same : mid ≡ old = cc in
    let start : SameOutside old at done mid = rw (same, ← count) (same_nothing old at) in
    same_on all fits start two
keeps_on (Some old) (Some mid) (Some new) at (word ∷ first) n {done} {all} count fits one two =
    let written : SameOutside old at (length (word ∷ first)) mid = rw one (with_words-outside old at (word ∷ first)) in
    let start : SameOutside old at done mid = rw count at written in
    same_on all fits start two

-- the words up to `end` are read, after those up to `done`
pub reads_on : (told : Option (List ℕ)) (at : ℕ) (words run after : List ℕ) {done : ℕ} (end : ℕ) → done ≤ end
    → done ≤ length words → length run ≡ end - done
    → IfSome told (λ image. take done words ≡ words_at image at done)
    → IfSome told (λ image. run ≡ words_at image (at + done) (end - done))
    → IfSome told (λ image. take end (take done words ++ (run ++ after)) ≡ words_at image at end)
reads_on None at words run after {done} end h within len one two = tt
reads_on (Some image) at words run after {done} end h within len one two =
    let front : length (take done words) ≡ done = length-take-le done words within in
    let both : length (take done words ++ run) ≡ end = length-append (take done words) run ∙ omega arith in
    let whole : done + (end - done) ≡ end = omega arith in
    ap (λ read. take end read) (sym (append_assoc (take done words) run after))
    ∙ take_at (take done words ++ run) after end both
    ∙ ap (λ words. words ++ run) one ∙ ap (λ run. words_at image at done ++ run) two
    ∙ words_at-append image at done (end - done) ∙ ap (λ n. words_at image at n) whole
