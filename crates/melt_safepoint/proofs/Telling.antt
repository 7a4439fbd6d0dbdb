-- What a thread is told.
use Rattle.std.proofs.Common.{[], ◌≡◌, ◌≢◌, ℕ, ◌+◌, ◌<◌, ◌≤◌, List, ◌∷◌, ◌++◌, length, take, refl, sym}
use Rattle.std.proofs.Common.{subst, arith, length-append}
use Rattle.std.proofs.Math.ListN.{set}
use Rattle.std.proofs.Math.Seq.{take-append_seam}
use Rattle.std.proofs.lemmas.List.{append-nil}
use Rattle.std.proofs.lemmas.List.Elements.{All-push}
use Rattle.std.specs.Prelude.{Option, None, Some, All, slice_set}
use Rattle.melt_model.specs.History.{made, last, IsReference, MayFollow, Legal}
use Rattle.melt_model.specs.Standing.{HoldReferences, Stands}
use Rattle.melt_model.specs.Thread.{Deed, found, number, value_in, does}
use Rattle.melt_model.specs.declared.history.Act.{Act}
use Rattle.melt_model.specs.declared.history.Act.TheVariants.{Make, Read, Write}
use Rattle.melt_model.specs.declared.history.Entry.{Entry}
use Rattle.melt_model.specs.declared.history.Slot.{Slot}
use Rattle.melt_model.specs.declared.history.Slot.TheVariants.{Field, Cell, Global}
use Rattle.melt_model.specs.declared.history.Value.{Value}
use Rattle.melt_model.specs.declared.history.Value.TheVariants.{Nil, Ref, Num}
use Rattle.melt_model.specs.declared.operations.Op.{Op}
use Rattle.melt_model.specs.declared.operations.Op.TheVariants as op
use Rattle.melt_model.specs.declared.operations.Op.TheVariants.{New, Collect}
use Rattle.melt_model.specs.declared.operations.Reply.{Reply}
use Rattle.melt_model.specs.declared.operations.Reply.TheVariants as reply
use Rattle.melt_model.proofs.Histories.{slice_get-append_seam, made-append, IsReference-append, last_holds}
use Rattle.melt_model.proofs.Transcripts.{Stands_local, Stands_entry, Stands_other, number_at, on_part_is}
use Rattle.melt_model.proofs.Transcripts.{reference_at}
use Rattle.melt_core.specs.Answering.{entry, with_entry, gives, Answers}
use Rattle.melt_core.proofs.Values.{get_or_set_keeps}

-- What the registers hold after an operation are references where they were before.
abbrev KeepsReferences : List Entry → ℕ → ℕ → Value → Deed → Type 0
KeepsReferences h t globals x d = Legal (with_entry t h d.act) globals → gives h d.act ≡ x
    → HoldReferences (with_entry t h d.act) d.registers

-- registers that hold references do so by a longer history
hold_more : (h k : List Entry) (regs : List Value) → HoldReferences h regs → HoldReferences (h ++ k) regs
hold_more h k regs holds r = IsReference-append h k (value_in regs r) (holds r)

-- and where one of them is set to a reference
hold_set : (h : List Entry) (regs : List Value) (dst : ℕ) (x : Value) → IsReference h x → HoldReferences h regs
    → HoldReferences h (set regs dst x)
hold_set h regs dst x new holds r = get_or_set_keeps (IsReference h) regs dst x r Nil new (holds r)

-- what is read at a slot is what was written there last
read_last_here : (h : List Entry) (t globals : ℕ) (slot : Slot) (x : Value)
    → Legal (h ++ entry t (Read slot x) ∷ []) globals → x ≡ last h slot
read_last_here h t globals slot x legal =
    let e : Entry = entry t (Read slot x) in
    let follows : MayFollow (take (length h) (h ++ e ∷ [])) globals e.act =
    legal (length h) e (slice_get-append_seam h e []) in
    let here : MayFollow h globals e.act =
    subst (λ (k : List Entry). MayFollow k globals e.act) (take-append_seam h (e ∷ [])) follows in
    here.read_last

-- each operation keeps it that registers hold references
does_references : (h : List Entry) (t globals : ℕ) (regs : List Value) (o : Op) (x : Value) → Legal h globals
    → HoldReferences h regs → KeepsReferences h t globals x (does h regs o x)
does_references h t globals regs (op.New dst refs nums) x before holds = λ legal is.
    let e : Entry = entry t (Make refs nums) in
    let new : IsReference (h ++ e ∷ []) (Ref (made h)) = omega (arith, made-append h (e ∷ [])) in
    hold_set (h ++ e ∷ []) regs dst x (subst (IsReference (h ++ e ∷ [])) is new) (hold_more h (e ∷ []) regs holds)
does_references h t globals regs (op.Load dst src i) x before holds =
    on_part_is (KeepsReferences h t globals x) (reference_at i) h regs (value_in regs src)
    (λ (n : ℕ). record { act = Some (Read (Field n i) x); reply = found x; registers = slice_set regs dst x })
    (λ r legal is. holds)
    (λ n legal is.
    let e : Entry = entry t (Read (Field n i) x) in
    let reads : IsReference h x = subst (IsReference h) (sym (read_last_here h t globals (Field n i) x legal))
    (last_holds h globals before (Field n i)) in
    hold_set (h ++ e ∷ []) regs dst x (IsReference-append h (e ∷ []) x reads) (hold_more h (e ∷ []) regs holds))
does_references h t globals regs (op.Store obj i src) x before holds =
    on_part_is (KeepsReferences h t globals x) (reference_at i) h regs (value_in regs obj)
    (λ (n : ℕ). record { act = Some (Write (Field n i) (value_in regs src)); reply = reply.Done; registers = regs })
    (λ r legal is. holds)
    (λ n legal is. hold_more h (entry t (Write (Field n i) (value_in regs src)) ∷ []) regs holds)
does_references h t globals regs (op.Get src j) x before holds =
    on_part_is (KeepsReferences h t globals x) (number_at j) h regs (value_in regs src)
    (λ (n : ℕ). record {
      act = Some (Read (Cell n j) (Num (number x)));
      reply = reply.Num (number x);
      registers = regs;
    })
    (λ r legal is. holds)
    (λ n legal is. hold_more h (entry t (Read (Cell n j) (Num (number x))) ∷ []) regs holds)
does_references h t globals regs (op.Put obj j v) x before holds =
    on_part_is (KeepsReferences h t globals x) (number_at j) h regs (value_in regs obj)
    (λ (n : ℕ). record { act = Some (Write (Cell n j) (Num v)); reply = reply.Done; registers = regs })
    (λ r legal is. holds)
    (λ n legal is. hold_more h (entry t (Write (Cell n j) (Num v)) ∷ []) regs holds)
does_references h t globals regs (op.GLoad dst g) x before holds = λ legal is.
    let e : Entry = entry t (Read (Global g) x) in
    let reads : IsReference h x = subst (IsReference h) (sym (read_last_here h t globals (Global g) x legal))
    (last_holds h globals before (Global g)) in
    hold_set (h ++ e ∷ []) regs dst x (IsReference-append h (e ∷ []) x reads) (hold_more h (e ∷ []) regs holds)
does_references h t globals regs (op.GStore g src) x before holds =
    λ legal is. hold_more h (entry t (Write (Global g) (value_in regs src)) ∷ []) regs holds
does_references h t globals regs (op.Same a b) x before holds = λ legal is. holds
does_references h t globals regs (op.Copy dst src) x before holds =
    λ legal is. hold_set h regs dst (value_in regs src) (holds src) holds
does_references h t globals regs (op.Drop r) x before holds = λ legal is. let nothing : IsReference h Nil =
    tt in hold_set h regs r Nil nothing holds
does_references h t globals regs op.Collect x before holds = λ legal is. holds

-- what an entry more changes for the history
pub with_more : (h : List Entry) (t : ℕ) (act : Option Act) → (more : List Entry) × (with_entry t h act ≡ h ++ more)
with_more h t None = ([], sym (append-nil h))
with_more h t (Some act) = (entry t act ∷ [], refl)

-- there is one entry more at most
pub with_length : (h : List Entry) (t : ℕ) (act : Option Act) → length (with_entry t h act) ≤ length h + 1
with_length h t None = omega arith
with_length h t (Some act) = omega (arith, length-append h (entry t act ∷ []))

-- the new entry is of a thread of the script
pub with_own : (h : List Entry) (t threads : ℕ) (act : Option Act) → t < threads
    → All (λ (e : Entry). e.thread < threads) h → All (λ (e : Entry). e.thread < threads) (with_entry t h act)
with_own h t threads None within own = own
with_own h t threads (Some act) within own = All-push (λ (e : Entry). e.thread < threads) h (entry t act) own within

-- what another thread was told stays
pub told_with : {h : List Entry} (t : ℕ) {u : ℕ} {ops : List Op} {replies : List Reply} {registers : List Value}
    (act : Option Act) → u ≢ t → Stands h u ops replies registers → Stands (with_entry t h act) u ops replies registers
told_with {h} t {u} {ops} {replies} {registers} None differ told = told
told_with {h} t {u} {ops} {replies} {registers} (Some act) differ told =
    Stands_other h u ops replies registers (entry t act) told (λ same. differ (sym same))

-- the thread stands one operation further, where its entry is the new last one or there is none
stands_by : {h : List Entry} {t : ℕ} {ops : List Op} {replies : List Reply} {rs : List Value} (o : Op) {x : Value}
    (act : Option Act) → Stands h t ops replies rs → (does h rs o x).act ≡ act → gives h act ≡ x
    → HoldReferences (with_entry t h act) (does h rs o x).registers
    → Stands (with_entry t h act) t (ops ++ o ∷ []) (replies ++ (does h rs o x).reply ∷ []) (does h rs o x).registers
stands_by {h} {t} {ops} {replies} {rs} o None stands is given holds =
    let S : Value → Type 0 = λ v. (does h rs o v).act ≡ None → HoldReferences h (does h rs o v).registers
    → Stands h t (ops ++ o ∷ []) (replies ++ (does h rs o v).reply ∷ []) (does h rs o v).registers in
    let at_nil : S Nil = λ none references. Stands_local h t ops replies rs o stands none references in
    subst S given at_nil is holds
stands_by {h} {t} {ops} {replies} {rs} o (Some act) stands is given holds =
    let S : Value → Type 0 = λ v. (does h rs o v).act ≡ Some act
    → HoldReferences (h ++ entry t act ∷ []) (does h rs o v).registers
    → Stands (h ++ entry t act ∷ []) t (ops ++ o ∷ []) (replies ++ (does h rs o v).reply ∷ [])
    (does h rs o v).registers in
    let at_given : S (gives h (Some act)) =
    λ same references. Stands_entry o (entry t act) stands refl same references in
    subst S given at_given is holds

-- a thread that was answered stands one operation further
pub Stands_answers : {h h' : List Entry} {t : ℕ} (globals : ℕ) {ops : List Op} {replies : List Reply}
    {rs rs' : List Value} {o : Op} {r : Reply} → Legal h globals → Legal h' globals → Stands h t ops replies rs
    → Answers t h rs o r h' rs' → Stands h' t (ops ++ o ∷ []) (replies ++ r ∷ []) rs'
Stands_answers {h} {t} globals {ops} {replies} {rs} {rs'} {o} {r} before legal stands a =
    let d : Deed = does h rs o a.value in
    let held : HoldReferences (with_entry t h d.act) d.registers =
    does_references h t globals rs o a.value before stands.references
    (subst (λ (k : List Entry). Legal k globals) a.history legal) a.given in
    let next : Stands (with_entry t h d.act) t (ops ++ o ∷ []) (replies ++ d.reply ∷ []) d.registers =
    stands_by o d.act stands refl a.given held in
    let told : Stands (with_entry t h d.act) t (ops ++ o ∷ []) (replies ++ r ∷ []) d.registers =
    subst (λ (x : Reply). Stands (with_entry t h d.act) t (ops ++ o ∷ []) (replies ++ x ∷ []) d.registers) a.reply_is
    next in
    let registers : Stands (with_entry t h d.act) t (ops ++ o ∷ []) (replies ++ r ∷ []) rs' =
    subst (λ (xs : List Value). Stands (with_entry t h d.act) t (ops ++ o ∷ []) (replies ++ r ∷ []) xs)
    (sym a.registers) told in
    subst (λ (k : List Entry). Stands k t (ops ++ o ∷ []) (replies ++ r ∷ []) rs') (sym a.history) registers
