-- One field of a place is written. The two others, and all other places, are as they were.
use Rattle.std.proofs.Common.{◌≡◌, ◌≢◌, inl, inr, ℕ, ◌<◌, List, length, refl, sym, ◌∙◌, ap, slice_index_or, slice_set}
use Rattle.std.proofs.Common.{get_or-set_same, get_or-set_other}
use Rattle.std.proofs.lemmas.Bool.{cases_eq}
use Rattle.std.proofs.lemmas.List.{length-set, get_or_default}
use Rattle.melt_links.specs.declared.links.Place.{Place}
use Rattle.melt_links.specs.Links.{place_at, next_of, prev_of}

abbrev pub list_of : List Place → ℕ → ℕ
list_of places k = (place_at places k).list

abbrev none : Place
none = record { next = 0; prev = 0; list = 0 }

-- what is read at a place
pub read : (places : List Place) (k : ℕ) (p : Place) → k < length places → p ≡ slice_index_or places k p
    → place_at places k ≡ p
read places k p below is = get_or_default places k none p below ∙ sym is

-- the other places are as they were
others : (places : List Place) (k : ℕ) (q : Place) (j : ℕ) → j ≢ k
    → place_at (slice_set places k q) j ≡ place_at places j
others places k q j differ = get_or-set_other places k j q none differ

-- and so is a field, everywhere, that the new place has of the old one
kept : (field : Place → ℕ) (places : List Place) (k : ℕ) (p q : Place) → k < length places
    → p ≡ slice_index_or places k p → field q ≡ field p
    → (j : ℕ) → field (place_at (slice_set places k q) j) ≡ field (place_at places j)
kept field places k p q below is same j =
    elim (cases_eq j k) [
      | inl here ↦ rw here (ap field (get_or-set_same places k q none below) ∙ same
          ∙ sym (ap field (read places k p below is)))
      | inr differ ↦ ap field (others places k q j differ)
    ]

pub record SetsNext (old new : List Place) (k n : ℕ) : Type 0 where
  pub size : length new ≡ length old
  pub here : next_of new k ≡ n
  pub nexts : (j : ℕ) → j ≢ k → next_of new j ≡ next_of old j
  pub prevs : (j : ℕ) → prev_of new j ≡ prev_of old j
  pub lists : (j : ℕ) → list_of new j ≡ list_of old j

pub sets_next : (places : List Place) (k n : ℕ) (p : Place) → k < length places → p ≡ slice_index_or places k p
    → SetsNext places (slice_set places k (record { next = n; prev = p.prev; list = p.list })) k n
sets_next places k n p below is =
    let q : Place = record { next = n; prev = p.prev; list = p.list } in
    record {
      size = length-set places k q;
      here = ap (λ (x : Place). x.next) (get_or-set_same places k q none below);
      nexts = λ j differ. ap (λ (x : Place). x.next) (others places k q j differ);
      prevs = kept (λ (x : Place). x.prev) places k p q below is refl;
      lists = kept (λ (x : Place). x.list) places k p q below is refl;
    }

pub record SetsPrev (old new : List Place) (k n : ℕ) : Type 0 where
  pub size : length new ≡ length old
  pub here : prev_of new k ≡ n
  pub prevs : (j : ℕ) → j ≢ k → prev_of new j ≡ prev_of old j
  pub nexts : (j : ℕ) → next_of new j ≡ next_of old j
  pub lists : (j : ℕ) → list_of new j ≡ list_of old j

pub sets_prev : (places : List Place) (k n : ℕ) (p : Place) → k < length places → p ≡ slice_index_or places k p
    → SetsPrev places (slice_set places k (record { next = p.next; prev = n; list = p.list })) k n
sets_prev places k n p below is =
    let q : Place = record { next = p.next; prev = n; list = p.list } in
    record {
      size = length-set places k q;
      here = ap (λ (x : Place). x.prev) (get_or-set_same places k q none below);
      prevs = λ j differ. ap (λ (x : Place). x.prev) (others places k q j differ);
      nexts = kept (λ (x : Place). x.next) places k p q below is refl;
      lists = kept (λ (x : Place). x.list) places k p q below is refl;
    }

pub record SetsList (old new : List Place) (k n : ℕ) : Type 0 where
  pub size : length new ≡ length old
  pub here : list_of new k ≡ n
  pub lists : (j : ℕ) → j ≢ k → list_of new j ≡ list_of old j
  pub nexts : (j : ℕ) → next_of new j ≡ next_of old j
  pub prevs : (j : ℕ) → prev_of new j ≡ prev_of old j

pub sets_list : (places : List Place) (k n : ℕ) (p : Place) → k < length places → p ≡ slice_index_or places k p
    → SetsList places (slice_set places k (record { next = p.next; prev = p.prev; list = n })) k n
sets_list places k n p below is =
    let q : Place = record { next = p.next; prev = p.prev; list = n } in
    record {
      size = length-set places k q;
      here = ap (λ (x : Place). x.list) (get_or-set_same places k q none below);
      lists = λ j differ. ap (λ (x : Place). x.list) (others places k q j differ);
      nexts = kept (λ (x : Place). x.next) places k p q below is refl;
      prevs = kept (λ (x : Place). x.prev) places k p q below is refl;
    }
