-- The tables beside the words of a heap: those of a new one, and of one that kept them.
use Rattle.std.proofs.Common.{◌≡◌, ℕ, suc, List, [], ◌∷◌, ◌++◌, length, inl, inr, ◌∙◌, ap, sym, subst}
use Rattle.std.proofs.lemmas.Bool.{cases_eq}
use Rattle.std.proofs.lemmas.List.{length-replicate, ext_get_or}
use Rattle.std.proofs.lemmas.List.Elements.{Contains-append_right}
use Rattle.std.specs.Prelude.{◌/◌, Option, None, Some}
use Rattle.std.specs.List.{Contains}
use Rattle.melt_scion.specs.Scions.{Scions, IsTable, EachOnce, Adds, Frees, scion_at, empty_table}
use Rattle.melt_scion.specs.Heaps.{AreScionsFor, KeepsScions, KeepsNames, KeepsTables, NamesMade, TablesMade}
use Rattle.melt_scion.specs.declared.heap.Names as heap
use Rattle.melt_scion.specs.declared.heap.Heap.{Heap}
use Rattle.melt_scion.proofs.Numbers.{contains_here, once_first, once_rest}
use Rattle.melt_scion.proofs.ScionTables.{empty_is_table}

-- a table without live scions that was made for so many words
pub scions_made : (words : ℕ) (scions : Scions) → scions ≡ empty_table (words / 2) → AreScionsFor words scions
scions_made words scions is = subst (AreScionsFor words) (sym is) (record {
  is_table = empty_is_table (words / 2);
  size = length-replicate {A = Option (ℕ × ℕ)} (words / 2) None;
})

-- the table is still for half as many scions as there are words, which are as many as before
pub scions_kept : (words more : ℕ) (old new : Scions) → KeepsScions old new → more ≡ words → AreScionsFor words old
    → AreScionsFor more new
scions_kept words more old new keeps same made = record {
  is_table = keeps.is_table;
  size = keeps.size ∙ (made.size ∙ ap (λ (n : ℕ). n / 2) (sym same));
}

-- names are still for all words, which are as many as before
pub names_kept : (words more : ℕ) (old new : Option heap.Names) → KeepsNames old new → more ≡ words
    → NamesMade words old → NamesMade more new
names_kept words more None None keeps same made = tt
names_kept words more (Some old) (Some new) keeps same made = keeps ∙ (made ∙ sym same)
names_kept words more None (Some new) keeps same made = absurd keeps
names_kept words more (Some old) None keeps same made = absurd keeps

-- a heap that keeps its tables and the number of its words still has what was made for these
pub tables_kept : (old new : Heap) → KeepsTables old new → length new.space.list ≡ length old.space.list
    → TablesMade old → TablesMade new
tables_kept old new keeps same made = record {
  scions = scions_kept (length old.space.list) (length new.space.list) old.scions new.scions keeps.scions same
      made.scions;
  names = names_kept (length old.space.list) (length new.space.list) old.names new.names keeps.names same made.names;
}

-- a list from which the one place of a number is taken is one list
without_place : (x : ℕ) (front back other rest : List ℕ) → EachOnce (front ++ x ∷ back)
    → front ++ x ∷ back ≡ other ++ x ∷ rest → front ++ back ≡ other ++ rest
without_place x [] back [] rest once same = cc
without_place x [] back (y ∷ other) rest once same =
    let tail : back ≡ other ++ x ∷ rest = cc in
    absurd (once_first x back once (subst (λ (xs : List ℕ). Contains xs x) (sym tail)
    (Contains-append_right other (x ∷ rest) x (contains_here x rest))))
without_place x (y ∷ front) back [] rest once same =
    let head : y ≡ x = cc in
    absurd (once_first y (front ++ x ∷ back) once (subst (Contains (front ++ x ∷ back)) (sym head)
    (Contains-append_right front (x ∷ back) x (contains_here x back))))
without_place x (y ∷ front) back (z ∷ other) rest once same =
    let head : y ≡ z = cc in
    let tail : front ++ x ∷ back ≡ other ++ x ∷ rest = cc in
    let less : front ++ back ≡ other ++ rest =
    without_place x front back other rest (once_rest y (front ++ x ∷ back) once) tail in
    cc

-- A number that is given and taken back leaves the table as it was.
pub taken_back : (old more new : Scions) (home address scion : ℕ) → Adds old more home address scion → IsTable more
    → Frees more new scion → new ≡ old
taken_back old more new home address scion adds table frees =
    let at : (k : ℕ) → scion_at new k ≡ scion_at old k = λ k. elim (cases_eq k scion) [
      | inl same ↦ ap (scion_at new) same ∙ (frees.gone ∙ (sym adds.was_unused ∙ ap (scion_at old) (sym same)))
      | inr other ↦ frees.others k other ∙ adds.others k other
    ] in
    let pairs : new.pairs ≡ old.pairs =
    ext_get_or None new.pairs old.pairs (frees.size ∙ adds.size) (λ i below. at (suc i)) in
    let unused : new.unused ≡ old.unused = frees.taken ∙ sym adds.given in
    let live : new.live ≡ old.live =
    frees.order.less_is
    ∙ (without_place scion frees.order.front frees.order.back adds.order.front adds.order.back
    (subst EachOnce frees.order.more_is table.live_once) (sym frees.order.more_is ∙ adds.order.more_is)
    ∙ sym adds.order.less_is) in
    ap (λ (xs : List (Option (ℕ × ℕ))).
    let t : Scions = record { pairs = xs; unused = new.unused; live = new.live } in t) pairs
    ∙ (ap (λ (xs : List ℕ). let t : Scions = record { pairs = old.pairs; unused = xs; live = new.live } in t) unused
    ∙ ap (λ (xs : List ℕ). let t : Scions = record { pairs = old.pairs; unused = old.unused; live = xs } in t) live)
