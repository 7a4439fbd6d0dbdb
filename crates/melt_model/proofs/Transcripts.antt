-- Laws of what one thread is told, while the history grows.
use Rattle.std.proofs.Common.{◌≡◌, ◌≢◌, ℕ, ◌+◌, ◌<◌, zero, suc, true, false, cond, eqb, length-append, List, [], ◌∷◌}
use Rattle.std.proofs.Common.{◌++◌, length, refl, sym, ◌∙◌, ap, subst, arith, append_assoc}
use Rattle.std.proofs.lemmas.Bool.{cond_both}
use Rattle.std.proofs.lemmas.List.{append-nil}
use Rattle.std.proofs.Math.Seq.{take-append_seam}
use Rattle.std.specs.Prelude.{fold, nat_lt, Option, None, Some, unwrap_or, replicate, if◌then◌else◌}
use Rattle.std.specs.Option.{option_map_or}
use Rattle.melt_model.specs.History.{Shape, shape, given, IsReference}
use Rattle.melt_model.specs.Thread.{own_from, own, given_at, Deed, unchanged, value_in, on_part, does, Thread}
use Rattle.melt_model.specs.Thread.{beginning, next_given, deed, places_left, thread_after, registers_after, Takes}
use Rattle.melt_model.specs.Thread.{Answered, Transcript}
use Rattle.melt_model.specs.Standing.{HoldReferences, Reaches, Stands}
use Rattle.melt_model.specs.declared.history.Value.{Value}
use Rattle.melt_model.specs.declared.history.Value.TheVariants.{Nil, Ref, Num}
use Rattle.melt_model.specs.declared.history.Act.{Act}
use Rattle.melt_model.specs.declared.history.Entry.{Entry}
use Rattle.melt_model.specs.declared.operations.Op.{Op}
use Rattle.melt_model.specs.declared.operations.Op.TheVariants as op
use Rattle.melt_model.specs.declared.operations.Reply.{Reply}
use Rattle.melt_model.specs.declared.operations.Reply.TheVariants as reply
use Rattle.melt_model.proofs.Histories.{shape-append, IsReference-append, own-push_own, own-push_other, act_at-append}
use Rattle.melt_model.proofs.Histories.{given_at-append, slice_get-append_seam}

-- all places are in the history
abbrev pub Within : List Entry → List ℕ → Type 0
Within h [] = Unit {0}
Within h (p ∷ places) = (p < length h) × Within h places

-- one operation more
Reaches-push : (h : List Entry) (a b : Thread) (ops : List Op) (replies : List Reply) (o : Op)
    → Reaches h a ops replies b → HoldReferences h b.registers → Takes h (deed h b o).act b.places
    → Reaches h a (ops ++ o ∷ []) (replies ++ (deed h b o).reply ∷ []) (thread_after h b o)
Reaches-push h a b [] [] o reached holds takes =
    let P : Thread → Type 0 = λ x. Reaches h x (o ∷ []) ((deed h b o).reply ∷ []) (thread_after h b o) in
    subst P (sym reached) (holds, refl, takes, refl)
Reaches-push h a b (p ∷ ops) (r ∷ replies) o reached holds takes =
    (reached.0, reached.1, reached.2, Reaches-push h (thread_after h a p) b ops replies o reached.3 holds takes)
Reaches-push h a b [] (r ∷ replies) o reached holds takes = absurd reached
Reaches-push h a b (p ∷ ops) [] o reached holds takes = absurd reached

-- operations that got their replies, when no place is left, with any others after them
Answered_from : (h : List Entry) (a b : Thread) (ops more : List Op) (replies : List Reply) → Reaches h a ops replies b
    → b.places ≡ [] → Answered h a (ops ++ more) replies
Answered_from h a b [] more [] reached none = ap (λ (x : Thread). x.places) reached ∙ none
Answered_from h a b (o ∷ ops) more (r ∷ replies) reached none =
    (reached.1, reached.2, Answered_from h (thread_after h a o) b ops more replies reached.3 none)
Answered_from h a b [] more (r ∷ replies) reached none = absurd reached
Answered_from h a b (o ∷ ops) more [] reached none = absurd reached

-- A part of an object: how many such parts an object of a shape has, and which of them it is.
pub record Part : Type 0 where
  pub parts : Shape → ℕ
  pub at : ℕ

abbrev pub reference_at : ℕ → Part
reference_at i = record { parts = λ z. z.refs; at = i }

abbrev pub number_at : ℕ → Part
number_at j = record { parts = λ z. z.nums; at = j }

-- What an operation on a part does is one of three deeds.
pub on_part_is : (R : Deed → Type 0) (p : Part) (h : List Entry) (registers : List Value) (v : Value) (f : ℕ → Deed)
    → ((r : Reply) → R (unchanged registers r)) → ((n : ℕ) → R (f n)) → R (on_part p.parts h registers v p.at f)
on_part_is R p h registers Nil f past there = past reply.Nil
on_part_is R p h registers (Num v) f past there = past reply.Nil
on_part_is R p h registers (Ref n) f past there =
    cond_both (nat_lt p.at (option_map_or p.parts (shape h n) 0)) (f n) (unchanged registers reply.Range) R
    (λ e. there n) (λ e. past reply.Range)

-- An operation does the same by a longer history.
on_part-append : (p : Part) (h k : List Entry) (registers : List Value) (v : Value) (f : ℕ → Deed) → IsReference h v
    → on_part p.parts (h ++ k) registers v p.at f ≡ on_part p.parts h registers v p.at f
on_part-append p h k registers Nil f known = refl
on_part-append p h k registers (Num v) f known = refl
on_part-append p h k registers (Ref n) f known =
    ap (λ (z : Option Shape).
    if nat_lt p.at (option_map_or p.parts z 0) then f n else unchanged registers reply.Range)
    (shape-append h k n known)

pub does-append : (h k : List Entry) (registers : List Value) (o : Op) (x : Value) → HoldReferences h registers
    → does (h ++ k) registers o x ≡ does h registers o x
does-append h k regs (op.New dst refs nums) x holds = refl
does-append h k regs (op.Load dst src i) x holds =
    on_part-append (reference_at i) h k regs (value_in regs src) _ (holds src)
does-append h k regs (op.Store obj i src) x holds =
    on_part-append (reference_at i) h k regs (value_in regs obj) _ (holds obj)
does-append h k regs (op.Get src j) x holds = on_part-append (number_at j) h k regs (value_in regs src) _ (holds src)
does-append h k regs (op.Put obj j v) x holds = on_part-append (number_at j) h k regs (value_in regs obj) _ (holds obj)
does-append h k regs (op.GLoad dst g) x holds = refl
does-append h k regs (op.GStore g src) x holds = refl
does-append h k regs (op.Same a b) x holds = refl
does-append h k regs (op.Copy dst src) x holds = refl
does-append h k regs (op.Drop r) x holds = refl
does-append h k regs op.Collect x holds = refl

-- an operation without an entry does not look at what an entry gives
on_part_local : (p : Part) (h : List Entry) (registers : List Value) (v : Value) (f g : ℕ → Deed)
    → ((n : ℕ) → (f n).act ≡ None → ⊥) → (on_part p.parts h registers v p.at f).act ≡ None
    → on_part p.parts h registers v p.at g ≡ on_part p.parts h registers v p.at f
on_part_local p h registers Nil f g has none = refl
on_part_local p h registers (Num v) f g has none = refl
on_part_local p h registers (Ref n) f g has nothing =
    (elim (nat_lt p.at (option_map_or p.parts (shape h n) 0)) as
    (λ b. (if b then f n else unchanged registers reply.Range).act ≡ None
    → (if b then g n else unchanged registers reply.Range) ≡ (if b then f n else unchanged registers reply.Range)) [
      | true ↦ λ none. absurd (has n none)
      | false ↦ λ none. refl
    ]) nothing

does_local : (h : List Entry) (registers : List Value) (o : Op) (x y : Value) → (does h registers o x).act ≡ None
    → does h registers o y ≡ does h registers o x
does_local h regs (op.New dst refs nums) x y none = absurd (cc)
does_local h regs (op.Load dst src i) x y none =
    on_part_local (reference_at i) h regs (value_in regs src) _ _ (λ n e. cc) none
does_local h regs (op.Store obj i src) x y none =
    on_part_local (reference_at i) h regs (value_in regs obj) _ _ (λ n e. cc) none
does_local h regs (op.Get src j) x y none = on_part_local (number_at j) h regs (value_in regs src) _ _ (λ n e. cc) none
does_local h regs (op.Put obj j v) x y none =
    on_part_local (number_at j) h regs (value_in regs obj) _ _ (λ n e. cc) none
does_local h regs (op.GLoad dst g) x y none = absurd (cc)
does_local h regs (op.GStore g src) x y none = absurd (cc)
does_local h regs (op.Same a b) x y none = refl
does_local h regs (op.Copy dst src) x y none = refl
does_local h regs (op.Drop r) x y none = refl
does_local h regs op.Collect x y none = refl

-- the thread with more places after its own
abbrev pub with_places : Thread → List ℕ → Thread
with_places a new = record { registers = a.registers; places = a.places ++ new }

Within_left : (h : List Entry) (act : Option Act) (places : List ℕ) → Within h places
    → Within h (places_left act places)
Within_left h None places within = within
Within_left h (Some act) [] within = within
Within_left h (Some act) (p ∷ places) within = within.1

takes_none : (h : List Entry) (act : Option Act) → Takes h act [] → act ≡ None
takes_none h None takes = refl
takes_none h (Some act) takes = absurd takes

same_deed : (h k : List Entry) (registers : List Value) (places new : List ℕ) (o : Op) → Within h places
    → Takes h (does h registers o (next_given h places)).act places
    → does h registers o (next_given (h ++ k) (places ++ new)) ≡ does h registers o (next_given h places)
same_deed h k registers [] new o within takes =
    does_local h registers o Nil (next_given (h ++ k) new) (takes_none h (does h registers o Nil).act takes)
same_deed h k registers (p ∷ places) new o within takes =
    ap (λ (v : Option Value). does h registers o (unwrap_or v Nil)) (given_at-append h k p within.0)

-- What an operation does is the same by a longer history, in which the thread has more places.
deed-append : (h k : List Entry) (a : Thread) (new : List ℕ) (o : Op) → HoldReferences h a.registers → Within h a.places
    → Takes h (deed h a o).act a.places → deed (h ++ k) (with_places a new) o ≡ deed h a o
deed-append h k a new o holds within takes =
    does-append h k a.registers o (next_given (h ++ k) (a.places ++ new)) holds
    ∙ same_deed h k a.registers a.places new o within takes

Takes-append : (h k : List Entry) (act : Option Act) (places new : List ℕ) → Within h places → Takes h act places
    → Takes (h ++ k) act (places ++ new)
Takes-append h k None places new within takes = tt
Takes-append h k (Some act) [] new within takes = absurd takes
Takes-append h k (Some act) (p ∷ places) new within takes = act_at-append h k p within.0 ∙ takes

places_left-append : (h : List Entry) (act : Option Act) (places new : List ℕ) → Takes h act places
    → places_left act (places ++ new) ≡ places_left act places ++ new
places_left-append h None places new takes = refl
places_left-append h (Some act) [] new takes = absurd takes
places_left-append h (Some act) (p ∷ places) new takes = refl

HoldReferences-append : (h k : List Entry) (registers : List Value) → HoldReferences h registers
    → HoldReferences (h ++ k) registers
HoldReferences-append h k registers holds r = IsReference-append h k (value_in registers r) (holds r)

-- What comes after a history, and after the places that a thread has in it.
pub record Later : Type 0 where
  pub entries : List Entry
  pub places : List ℕ

-- What a thread was told stays true when the history grows.
pub Reaches-append : (h : List Entry) (later : Later) (a b : Thread) (ops : List Op) (replies : List Reply)
    → Within h a.places → Reaches h a ops replies b
    → Reaches (h ++ later.entries) (with_places a later.places) ops replies (with_places b later.places)
Reaches-append h later a b [] [] within reached = ap (λ (x : Thread). with_places x later.places) reached
Reaches-append h later a b (o ∷ ops) (r ∷ replies) within reached =
    let k : List Entry = later.entries in
    let new : List ℕ = later.places in
    let same : deed (h ++ k) (with_places a new) o ≡ deed h a o = deed-append h k a new o reached.0 within reached.2 in
    let takes : Takes (h ++ k) (deed h a o).act (a.places ++ new) =
    Takes-append h k (deed h a o).act a.places new within reached.2 in
    let next : thread_after (h ++ k) (with_places a new) o ≡ with_places (thread_after h a o) new =
    ap (λ (d : Deed). let t : Thread = record {
      registers = d.registers;
      places = places_left d.act (a.places ++ new);
    } in t) same
    ∙ ap (λ (ps : List ℕ). let t : Thread = record { registers = (deed h a o).registers; places = ps } in
    t) (places_left-append h (deed h a o).act a.places new reached.2) in
    let rest : Reaches (h ++ k) (with_places (thread_after h a o) new) ops replies (with_places b new) =
    Reaches-append h later (thread_after h a o) b ops replies (Within_left h (deed h a o).act a.places within)
    reached.3 in (
      HoldReferences-append h k a.registers reached.0,
      ap (λ (d : Deed). d.reply) same ∙ reached.1,
      subst (λ (d : Deed). Takes (h ++ k) d.act (a.places ++ new)) (sym same) takes,
      subst (λ (t : Thread). Reaches (h ++ k) t ops replies (with_places b new)) (sym next) rest,
    )
Reaches-append h later a b [] (r ∷ replies) within reached = absurd reached
Reaches-append h later a b (o ∷ ops) [] within reached = absurd reached

-- the places of the later entries of a history lie in it
within_from : (h front rest : List Entry) (t : ℕ) → h ≡ front ++ rest → Within h (own_from (length front) rest t)
within_from h front [] t is = tt
within_from h front (e ∷ rest) t is =
    let below : length front < length h = omega (arith, ap length is, length-append front (e ∷ rest)) in
    let more : Within h (own_from (length (front ++ e ∷ [])) rest t) =
    within_from h (front ++ e ∷ []) rest t (is ∙ sym (append_assoc front (e ∷ []) rest)) in
    let rest_within : Within h (own_from (length front + 1) rest t) =
    subst (λ (n : ℕ). Within h (own_from n rest t)) (length-append front (e ∷ [])) more in
    elim (eqb e.thread t) as (λ b. Within h (cond b (length front ∷ own_from (length front + 1) rest t)
    (own_from (length front + 1) rest t))) [
      | true ↦ (below, rest_within)
      | false ↦ rest_within
    ]

Within-own : (h : List Entry) (t : ℕ) → Within h (own h t)
Within-own h t = within_from h [] h t refl

-- a list of Nil holds Nil everywhere
all_nil : (n : ℕ) (r : ℕ) → IsReference [] (value_in (replicate n Nil) r)
all_nil zero r = tt
all_nil (suc n) zero = tt
all_nil (suc n) (suc r) = all_nil n r

-- before the first operation
pub Stands_start : (t : ℕ) → Stands [] t [] [] (replicate 16 Nil)
Stands_start t = record { reached = refl; references = all_nil 16 }

no_places : (act : Option Act) → places_left act [] ≡ []
no_places None = refl
no_places (Some act) = refl

takes_no_place : (h : List Entry) (act : Option Act) → act ≡ None → Takes h act []
takes_no_place h act none = let P : Option Act → Type 0 = λ a. Takes h a [] in subst P (sym none) tt

-- one operation more, without an entry
pub Stands_local : (h : List Entry) (t : ℕ) (ops : List Op) (replies : List Reply) (registers : List Value) (o : Op)
    → Stands h t ops replies registers → (does h registers o Nil).act ≡ None
    → HoldReferences h (does h registers o Nil).registers
    → Stands h t (ops ++ o ∷ []) (replies ++ (does h registers o Nil).reply ∷ []) (does h registers o Nil).registers
Stands_local h t ops replies registers o stands none references =
    let b : Thread = record { registers = registers; places = [] } in
    let d : Deed = does h registers o Nil in
    let after : thread_after h b o ≡ (record { registers = d.registers; places = [] }) =
    ap (λ (ps : List ℕ). let x : Thread = record { registers = d.registers; places = ps } in x) (no_places d.act) in
    record {
      reached = subst (λ (x : Thread). Reaches h (beginning h t) (ops ++ o ∷ []) (replies ++ d.reply ∷ []) x) after
          (Reaches-push h (beginning h t) b ops replies o stands.reached stands.references
          (takes_no_place h d.act none));
      references = references;
    }

given_at-seam : (h : List Entry) (e : Entry) → given_at (h ++ e ∷ []) (length h) ≡ given h e.act
given_at-seam h e = rw (slice_get-append_seam, take-append_seam)

-- one operation more, whose entry is the new last one of the history
pub Stands_entry : {h : List Entry} {t : ℕ} {ops : List Op} {replies : List Reply} {registers : List Value} (o : Op)
    (e : Entry) → Stands h t ops replies registers → e.thread ≡ t
    → (does h registers o (unwrap_or (given h e.act) Nil)).act ≡ Some e.act
    → HoldReferences (h ++ e ∷ []) (does h registers o (unwrap_or (given h e.act) Nil)).registers
    → Stands (h ++ e ∷ []) t (ops ++ o ∷ [])
    (replies ++ (does h registers o (unwrap_or (given h e.act) Nil)).reply ∷ [])
    (does h registers o (unwrap_or (given h e.act) Nil)).registers
Stands_entry {h} {t} {ops} {replies} {registers} o e stands is act references =
    let k : List Entry = h ++ e ∷ [] in
    let d : Deed = does h registers o (unwrap_or (given h e.act) Nil) in
    let b : Thread = record { registers = registers; places = length h ∷ [] } in
    let start : beginning k t ≡ with_places (beginning h t) (length h ∷ []) =
    ap (λ (ps : List ℕ). let x : Thread = record { registers = replicate 16 Nil; places = ps } in
    x) (own-push_own h e t is) in
    let grown : Reaches k (with_places (beginning h t) (length h ∷ [])) ops replies b =
    Reaches-append h (record { entries = e ∷ []; places = length h ∷ [] }) (beginning h t)
    (record { registers = registers; places = [] }) ops replies (Within-own h t) stands.reached in
    let before : Reaches k (beginning k t) ops replies b =
    subst (λ (x : Thread). Reaches k x ops replies b) (sym start) grown in
    let same : deed k b o ≡ d =
    ap (λ (v : Option Value). does k registers o (unwrap_or v Nil)) (given_at-seam h e)
    ∙ does-append h (e ∷ []) registers o (unwrap_or (given h e.act) Nil) stands.references in
    let takes : Takes k d.act (length h ∷ []) =
    subst (λ (a : Option Act). Takes k a (length h ∷ [])) (sym act) (rw slice_get-append_seam refl) in
    let more : Reaches k (beginning k t) (ops ++ o ∷ []) (replies ++ (deed k b o).reply ∷ []) (thread_after k b o) =
    Reaches-push k (beginning k t) b ops replies o before (HoldReferences-append h (e ∷ []) registers stands.references)
    (subst (λ (x : Deed). Takes k x.act (length h ∷ [])) (sym same) takes) in
    let told : Reaches k (beginning k t) (ops ++ o ∷ []) (replies ++ d.reply ∷ [])
    (record { registers = d.registers; places = places_left d.act (length h ∷ []) }) =
    subst (λ (x : Deed). Reaches k (beginning k t) (ops ++ o ∷ []) (replies ++ x.reply ∷ [])
    (record { registers = x.registers; places = places_left x.act (length h ∷ []) })) same more in
    record {
      reached = subst (λ (a : Option Act). Reaches k (beginning k t) (ops ++ o ∷ []) (replies ++ d.reply ∷ [])
          (record { registers = d.registers; places = places_left a (length h ∷ []) })) act told;
      references = references;
    }

-- an entry of another thread
pub Stands_other : (h : List Entry) (t : ℕ) (ops : List Op) (replies : List Reply) (registers : List Value) (e : Entry)
    → Stands h t ops replies registers → e.thread ≢ t → Stands (h ++ e ∷ []) t ops replies registers
Stands_other h t ops replies registers e stands differs =
    let k : List Entry = h ++ e ∷ [] in
    let b : Thread = record { registers = registers; places = [] } in
    let start : beginning k t ≡ with_places (beginning h t) [] =
    ap (λ (ps : List ℕ). let x : Thread = record { registers = replicate 16 Nil; places = ps } in
    x) (own-push_other h e t differs ∙ sym (append-nil (own h t))) in
    record {
      reached = subst (λ (x : Thread). Reaches k x ops replies b) (sym start)
          (Reaches-append h (record { entries = e ∷ []; places = [] }) (beginning h t) b ops replies (Within-own h t)
          stands.reached);
      references = HoldReferences-append h (e ∷ []) registers stands.references;
    }

-- the replies so far are a transcript, whatever operations are still to come
pub Transcript_so_far : (h : List Entry) (t : ℕ) (ops more : List Op) (replies : List Reply) (registers : List Value)
    → Stands h t ops replies registers → Transcript h t (ops ++ more) replies
Transcript_so_far h t ops more replies registers stands =
    Answered_from h (beginning h t) (record { registers = registers; places = [] }) ops more replies stands.reached refl

-- the thread that was reached is that of the definition of registers
reached_thread : (h : List Entry) (a b : Thread) (ops : List Op) (replies : List Reply) → Reaches h a ops replies b
    → fold (thread_after h) a ops ≡ b
reached_thread h a b [] [] reached = reached
reached_thread h a b (o ∷ ops) (r ∷ replies) reached = reached_thread h (thread_after h a o) b ops replies reached.3
reached_thread h a b [] (r ∷ replies) reached = absurd reached
reached_thread h a b (o ∷ ops) [] reached = absurd reached

pub registers_so_far : (h : List Entry) (t : ℕ) (ops more : List Op) (replies : List Reply) (registers : List Value)
    → Stands h t ops replies registers → registers_after h t (ops ++ more) (length ops) ≡ registers
registers_so_far h t ops more replies registers stands =
    let b : Thread = record { registers = registers; places = [] } in
    ap (λ (os : List Op). (fold (thread_after h) (beginning h t) os).registers) (take-append_seam ops more)
    ∙ ap (λ (x : Thread). x.registers) (reached_thread h (beginning h t) b ops replies stands.reached)

-- each operation has one reply
replies_count : (h : List Entry) (a b : Thread) (ops : List Op) (replies : List Reply) → Reaches h a ops replies b
    → length replies ≡ length ops
replies_count h a b [] [] reached = refl
replies_count h a b (o ∷ ops) (r ∷ replies) reached =
    ap suc (replies_count h (thread_after h a o) b ops replies reached.3)
replies_count h a b [] (r ∷ replies) reached = absurd reached
replies_count h a b (o ∷ ops) [] reached = absurd reached

pub one_reply_each : (h : List Entry) (t : ℕ) (ops : List Op) (replies : List Reply) (registers : List Value)
    → Stands h t ops replies registers → length replies ≡ length ops
one_reply_each h t ops replies registers stands =
    replies_count h (beginning h t) (record { registers = registers; places = [] }) ops replies stands.reached
