-- Chains: cut at a node, joined, and left as they were by what changes elsewhere.
use Rattle.std.proofs.Common.{◌≡◌, ◌≢◌, inl, inr, ℕ, List, [], ◌∷◌, ◌++◌, sym, ◌∙◌, subst}
use Rattle.std.specs.List.{Contains}
use Rattle.std.proofs.lemmas.List.Elements.{Contains-append_right, Contains-append_left}
use Rattle.melt_links.specs.Links.{Chain}
use Rattle.melt_links.proofs.Numbers.{EachOnce, contains_here, contains_more, contains_cases, contains_none}
use Rattle.melt_links.proofs.Numbers.{once_first, once_rest}

-- a chain lasts where each of its places has the neighbours that it had
pub chain_lasts : {next prev next' prev' : ℕ → ℕ} (a : ℕ) (xs : List ℕ) (z : ℕ)
    → ((k : ℕ) → Contains (a ∷ xs) k → next' k ≡ next k)
    → ((k : ℕ) → Contains (xs ++ z ∷ []) k → prev' k ≡ prev k)
    → Chain next prev a xs z → Chain next' prev' a xs z
chain_lasts a [] z nexts prevs chain =
    (nexts a (contains_here a []) ∙ chain.0, prevs z (contains_here z []) ∙ chain.1)
chain_lasts a (x ∷ xs) z nexts prevs chain = (
  nexts a (contains_here a (x ∷ xs)) ∙ chain.0,
  prevs x (contains_here x (xs ++ z ∷ [])) ∙ chain.1,
  chain_lasts x xs z (λ k there. nexts k (contains_more a k (x ∷ xs) there))
      (λ k there. prevs k (contains_more x k (xs ++ z ∷ []) there)) chain.2,
)

pub cut_front : (next prev : ℕ → ℕ) (a : ℕ) (front : List ℕ) (x : ℕ) (back : List ℕ) (z : ℕ)
    → Chain next prev a (front ++ x ∷ back) z → Chain next prev a front x
cut_front next prev a [] x back z chain = (chain.0, chain.1)
cut_front next prev a (y ∷ front) x back z chain = (chain.0, chain.1, cut_front next prev y front x back z chain.2)

pub cut_back : (next prev : ℕ → ℕ) (a : ℕ) (front : List ℕ) (x : ℕ) (back : List ℕ) (z : ℕ)
    → Chain next prev a (front ++ x ∷ back) z → Chain next prev x back z
cut_back next prev a [] x back z chain = chain.2
cut_back next prev a (y ∷ front) x back z chain = cut_back next prev y front x back z chain.2

-- the neighbours of the ends of a chain stand in it
pub prev_in : (next prev : ℕ → ℕ) (a : ℕ) (xs : List ℕ) (z : ℕ) → Chain next prev a xs z
    → Contains (a ∷ xs) (prev z)
prev_in next prev a [] z chain = subst (Contains (a ∷ [])) (sym chain.1) (contains_here a [])
prev_in next prev a (x ∷ xs) z chain = contains_more a (prev z) (x ∷ xs) (prev_in next prev x xs z chain.2)

pub next_in : (next prev : ℕ → ℕ) (a : ℕ) (xs : List ℕ) (z : ℕ) → Chain next prev a xs z
    → Contains (xs ++ z ∷ []) (next a)
next_in next prev a [] z chain = subst (Contains (z ∷ [])) (sym chain.0) (contains_here z [])
next_in next prev a (x ∷ xs) z chain =
    subst (Contains (x ∷ xs ++ z ∷ [])) (sym chain.0) (contains_here x (xs ++ z ∷ []))

-- a number in a list with one more at its end is the last or in the list
pub end_cases : {P : Type 0} (z k : ℕ) (xs : List ℕ) → (z ≡ k → P) → (Contains xs k → P) → Contains (xs ++ z ∷ []) k → P
end_cases z k [] last within there =
    elim (contains_cases z k [] there) [ inl same ↦ last same | inr none ↦ absurd (contains_none k none) ]
end_cases z k (x ∷ xs) last within there =
    elim (contains_cases x k (xs ++ z ∷ []) there) [
      | inl same ↦ within (subst (Contains (x ∷ xs)) same (contains_here x xs))
      | inr more ↦ end_cases z k xs last (λ among. within (contains_more x k xs among)) more
    ]

-- The neighbours of x, which was among others, are neighbours of each other now.
pub bridged : {next prev next' prev' : ℕ → ℕ} (a : ℕ) (front : List ℕ) (x : ℕ) (back : List ℕ) (z : ℕ)
    → EachOnce (a ∷ front ++ x ∷ back) → (Contains (front ++ x ∷ back) z → ⊥)
    → next' (prev x) ≡ next x → prev' (next x) ≡ prev x
    → ((k : ℕ) → k ≢ prev x → next' k ≡ next k) → ((k : ℕ) → k ≢ next x → prev' k ≡ prev k)
    → Chain next prev a (front ++ x ∷ back) z → Chain next' prev' a (front ++ back) z
bridged {next} {prev} {next'} {prev'} a [] x [] z once apart over back_over nexts prevs chain = (
  subst (λ (k : ℕ). next' k ≡ z) chain.1 (over ∙ chain.2.0),
  subst (λ (k : ℕ). prev' k ≡ a) chain.2.0 (back_over ∙ chain.1),
)
bridged {next} {prev} {next'} {prev'} a [] x (b ∷ back) z once apart over back_over nexts prevs chain =
    let after_x = once_rest a (x ∷ b ∷ back) once in
    let after_b = once_rest x (b ∷ back) after_x in (
      subst (λ (k : ℕ). next' k ≡ b) chain.1 (over ∙ chain.2.0),
      subst (λ (k : ℕ). prev' k ≡ a) chain.2.0 (back_over ∙ chain.1),
      chain_lasts b back z
          (λ k there. nexts k (λ same. once_first a (x ∷ b ∷ back) once
          (contains_more x a (b ∷ back) (subst (Contains (b ∷ back)) (same ∙ chain.1) there))))
          (λ k there. prevs k (λ same. end_cases z k back
          (λ last. apart (contains_more x z (b ∷ back)
          (subst (Contains (b ∷ back)) (sym (last ∙ (same ∙ chain.2.0))) (contains_here b back))))
          (λ among. once_first b back after_b (subst (Contains back) (same ∙ chain.2.0) among)) there))
          chain.2.2,
    )
bridged {next} {prev} {next'} {prev'} a (y ∷ front) x back z once apart over back_over nexts prevs chain =
    let rest : List ℕ = front ++ x ∷ back in
    let once_y = once_rest a (y ∷ rest) once in
    let before = prev_in next prev y front x (cut_front next prev y front x back z chain.2) in
    let after = next_in next prev x back z (cut_back next prev y front x back z chain.2) in
    let first : a ≢ prev x = λ same. once_first a (y ∷ rest) once
    (subst (Contains (y ∷ rest)) (sym same) (Contains-append_left (y ∷ front) (x ∷ back) (prev x) before)) in
    let other : y ≢ next x = λ same. end_cases z y back
    (λ last. apart (subst (Contains (y ∷ rest)) (sym last) (contains_here y rest)))
    (λ among. once_first y rest once_y (Contains-append_right front (x ∷ back) y (contains_more x y back among)))
    (subst (Contains (back ++ z ∷ [])) (sym same) after) in (
      nexts a first ∙ chain.0,
      prevs y other ∙ chain.1,
      bridged y front x back z once_y (λ there. apart (contains_more y z rest there)) over back_over nexts prevs chain.2,
    )

-- The node x stands before all others now.
pub put_first : {next prev next' prev' : ℕ → ℕ} (root : ℕ) (xs : List ℕ) (x : ℕ) → x ≢ root → EachOnce xs
    → (Contains xs root → ⊥) → (Contains xs x → ⊥)
    → next' root ≡ x → next' x ≡ next root → prev' x ≡ root → prev' (next root) ≡ x
    → ((k : ℕ) → k ≢ root → k ≢ x → next' k ≡ next k) → ((k : ℕ) → k ≢ x → k ≢ next root → prev' k ≡ prev k)
    → Chain next prev root xs root → Chain next' prev' root (x ∷ xs) root
put_first {next} {prev} {next'} {prev'} root [] x apart once no_root absent here on back back_on nexts prevs chain =
    (here, back, (on ∙ chain.0, subst (λ (k : ℕ). prev' k ≡ x) chain.0 back_on))
put_first {next} {prev} {next'} {prev'} root (b ∷ xs) x apart once no_root absent here on back back_on nexts prevs
    chain = (
      here,
      back,
      (
        on ∙ chain.0,
        subst (λ (k : ℕ). prev' k ≡ x) chain.0 back_on,
        chain_lasts b xs root
            (λ k there. nexts k (λ same. no_root (subst (Contains (b ∷ xs)) same there))
            (λ same. absent (subst (Contains (b ∷ xs)) same there)))
            (λ k there. prevs k
            (λ same. end_cases root k xs (λ last. apart (sym (last ∙ same)))
            (λ among. absent (contains_more b x xs (subst (Contains xs) same among))) there)
            (λ same. end_cases root k xs
            (λ last. no_root (subst (Contains (b ∷ xs)) (sym (last ∙ (same ∙ chain.0))) (contains_here b xs)))
            (λ among. once_first b xs once (subst (Contains xs) (same ∙ chain.0) among)) there))
            chain.2,
      ),
    )
