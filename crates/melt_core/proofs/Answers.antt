-- What an operation of a thread does, from the values and shapes that it found.
use Rattle.std.proofs.Common.{◌≡◌, ◌≢◌, ℕ, ◌<◌, ◌≤◌, Bool, false, List, [], ◌∷◌}
use Rattle.std.proofs.Common.{◌++◌, get_or, refl, sym, ◌∙◌, ap, arith, inl, inr}
use Rattle.std.proofs.lemmas.Bool.{lt-ltb, le-ltb, ne_eqb}
use Rattle.std.proofs.Math.ListN.{set}
use Rattle.std.specs.Prelude.{if◌then◌else◌, Option, Some}
use Rattle.std.specs.Option.{option_map_or}
use Rattle.melt_model.specs.History.{Shape, shape, made}
use Rattle.melt_model.specs.Thread.{Deed, unchanged, on_part, does, found, value_in, value_eq}
use Rattle.melt_model.specs.declared.operations.Op.{Op}
use Rattle.melt_model.specs.declared.operations.Op.TheVariants as op
use Rattle.melt_model.specs.declared.operations.Reply.{Reply}
use Rattle.melt_model.specs.declared.operations.Reply.TheVariants as reply
use Rattle.melt_model.specs.declared.history.Value.{Value}
use Rattle.melt_model.specs.declared.history.Value.TheVariants.{Nil, Ref, Num}
use Rattle.melt_model.specs.declared.history.Slot.TheVariants.{Field, Cell, Global}
use Rattle.melt_model.specs.declared.history.Act.TheVariants.{Make, Read, Write}
use Rattle.melt_model.specs.declared.history.Entry.{Entry}
use Rattle.melt_word.specs.declared.header.Shape as words
use Rattle.melt_scion.specs.State.{State}
use Rattle.melt_scion.specs.Placed.{MayHold}
use Rattle.melt_scion.specs.declared.heap.Names as heap
use Rattle.melt_core.specs.Answering.{entry, gives, with_entry, Answers}
use Rattle.melt_core.specs.Views.{maps_of, held_value, held_values}
use Rattle.melt_core.proofs.Values.{value_held, held_is, named_value}

-- an answer, by what the operation does
pub Answers_by : (t : ℕ) (h : List Entry) (rs : List Value) (o : Op) {x : Value} {d : Deed} {r : Reply}
    {h' : List Entry} {rs' : List Value} → does h rs o x ≡ d → gives h d.act ≡ x → d.reply ≡ r → rs' ≡ d.registers
    → h' ≡ with_entry t h d.act → Answers t h rs o r h' rs'
Answers_by t h rs o {x} is given told registers history = record {
  value = x;
  given = ap (λ (y : Deed). gives h y.act) is ∙ given;
  reply_is = ap (λ (y : Deed). y.reply) is ∙ told;
  registers = registers ∙ ap (λ (y : Deed). y.registers) (sym is);
  history = history ∙ ap (λ (y : Deed). with_entry t h y.act) (sym is);
}

-- an answer of an operation that changes nothing and has no entry
unchanged_answers : (t : ℕ) {h : List Entry} {rs : List Value} (o : Op) {q r : Reply} {h' : List Entry}
    {rs' : List Value} → does h rs o Nil ≡ unchanged rs q → q ≡ r → rs' ≡ rs → h' ≡ h → Answers t h rs o r h' rs'
unchanged_answers t {h} {rs} o is told registers history =
    Answers_by t h rs o is refl told registers history

-- the history's shape of an object
abbrev pub shape_of : words.Shape → Shape
shape_of z = record { refs = z.refs; nums = z.nums }

-- an operation on a part that the object in the register has
pub part_there : (parts : Shape → ℕ) (h : List Entry) (rs : List Value) {v : Value} {n : ℕ} (i : ℕ) {z : Shape}
    (f : ℕ → Deed) → v ≡ Ref n → shape h n ≡ Some z → i < parts z → on_part parts h rs v i f ≡ f n
part_there parts h rs {n} i {z} f is at below =
    let size : option_map_or parts (shape h n) 0 ≡ parts z = ap (λ (x : Option Shape). option_map_or parts x 0) at in
    ap (λ (x : Value). on_part parts h rs x i f) is
    ∙ ap (λ (b : Bool). if b then f n else unchanged rs reply.Range)
    (lt-ltb i (option_map_or parts (shape h n) 0) (omega arith))

-- an operation on a part that the object in the register lacks
pub part_past : (parts : Shape → ℕ) (h : List Entry) (rs : List Value) {v : Value} {n : ℕ} (i : ℕ) {z : Shape}
    (f : ℕ → Deed) → v ≡ Ref n → shape h n ≡ Some z → parts z ≤ i → on_part parts h rs v i f ≡ unchanged rs reply.Range
part_past parts h rs {n} i {z} f is at past =
    let size : option_map_or parts (shape h n) 0 ≡ parts z = ap (λ (x : Option Shape). option_map_or parts x 0) at in
    ap (λ (x : Value). on_part parts h rs x i f) is
    ∙ ap (λ (b : Bool). if b then f n else unchanged rs reply.Range)
    (le-ltb i (option_map_or parts (shape h n) 0) (omega arith))

-- an operation on a part where the register holds nothing
pub part_nil : (parts : Shape → ℕ) (h : List Entry) (rs : List Value) (v : Value) (i : ℕ) (f : ℕ → Deed) → v ≡ Nil
    → on_part parts h rs v i f ≡ unchanged rs reply.Nil
part_nil parts h rs v i f is = ap (λ (x : Value). on_part parts h rs x i f) is

-- an object was made
pub new_answers : (t : ℕ) (h : List Entry) (rs : List Value) (dst refs nums : ℕ) {r : Reply} {h' : List Entry}
    {rs' : List Value} → reply.Done ≡ r → rs' ≡ set rs dst (Ref (made h)) → h' ≡ h ++ entry t (Make refs nums) ∷ []
    → Answers t h rs (op.New dst refs nums) r h' rs'
new_answers t h rs dst refs nums told registers history =
    Answers_by t h rs (op.New dst refs nums) refl refl told registers history

-- a load that found the slot
pub load_answers : {t : ℕ} (h : List Entry) (rs : List Value) (dst src : ℕ) {i n : ℕ} (z : words.Shape) (v : Value)
    {r : Reply} {h' : List Entry} {rs' : List Value} → value_in rs src ≡ Ref n → shape h n ≡ Some (shape_of z)
    → i < z.refs → found v ≡ r → rs' ≡ set rs dst v → h' ≡ h ++ entry t (Read (Field n i) v) ∷ []
    → Answers t h rs (op.Load dst src i) r h' rs'
load_answers {t} h rs dst src {i} z v is at below told registers history =
    Answers_by t h rs (op.Load dst src i) (part_there (λ (x : Shape). x.refs) h rs i
    (λ m. record { act = Some (Read (Field m i) v); reply = found v; registers = set rs dst v }) is at below) refl told
    registers history

-- a store to a slot that is there
pub store_answers : (t : ℕ) (h : List Entry) {rs : List Value} (obj i src : ℕ) {n : ℕ} (z : words.Shape) {v : Value}
    {r : Reply} {h' : List Entry} {rs' : List Value} → value_in rs obj ≡ Ref n → shape h n ≡ Some (shape_of z)
    → i < z.refs → value_in rs src ≡ v → reply.Done ≡ r → rs' ≡ rs → h' ≡ h ++ entry t (Write (Field n i) v) ∷ []
    → Answers t h rs (op.Store obj i src) r h' rs'
store_answers t h {rs} obj i src {n} z is at below stored told registers history =
    Answers_by t h rs (op.Store obj i src) (part_there (λ (x : Shape). x.refs) h rs i
    (λ m. record { act = Some (Write (Field m i) (value_in rs src)); reply = reply.Done; registers = rs }) is at below)
    refl told registers (history ∙ ap (λ (x : Value). h ++ entry t (Write (Field n i) x) ∷ []) (sym stored))

-- a read of a number word that is there
pub get_answers : (t : ℕ) (h : List Entry) {rs : List Value} (src j : ℕ) {n : ℕ} (v : ℕ) (z : words.Shape) {r : Reply}
    {h' : List Entry} {rs' : List Value} → value_in rs src ≡ Ref n → shape h n ≡ Some (shape_of z) → j < z.nums
    → reply.Num v ≡ r → rs' ≡ rs → h' ≡ h ++ entry t (Read (Cell n j) (Num v)) ∷ []
    → Answers t h rs (op.Get src j) r h' rs'
get_answers t h {rs} src j v z is at below told registers history =
    Answers_by t h rs (op.Get src j) (part_there (λ (x : Shape). x.nums) h rs j
    (λ m. record { act = Some (Read (Cell m j) (Num v)); reply = reply.Num v; registers = rs }) is at below) refl told
    registers history

-- a write of a number word that is there
pub put_answers : (t : ℕ) (h : List Entry) {rs : List Value} (obj j v : ℕ) {n : ℕ} (z : words.Shape) {r : Reply}
    {h' : List Entry} {rs' : List Value} → value_in rs obj ≡ Ref n → shape h n ≡ Some (shape_of z) → j < z.nums
    → reply.Done ≡ r → rs' ≡ rs → h' ≡ h ++ entry t (Write (Cell n j) (Num v)) ∷ []
    → Answers t h rs (op.Put obj j v) r h' rs'
put_answers t h {rs} obj j v z is at below told registers history =
    Answers_by t h rs (op.Put obj j v) (part_there (λ (x : Shape). x.nums) h rs j
    (λ m. record { act = Some (Write (Cell m j) (Num v)); reply = reply.Done; registers = rs }) is at below) refl told
    registers history

-- a load of a global
pub gload_answers : (t : ℕ) (h : List Entry) (rs : List Value) (dst g : ℕ) (v : Value) {r : Reply} {h' : List Entry}
    {rs' : List Value} → found v ≡ r → rs' ≡ set rs dst v → h' ≡ h ++ entry t (Read (Global g) v) ∷ []
    → Answers t h rs (op.GLoad dst g) r h' rs'
gload_answers t h rs dst g v told registers history =
    Answers_by t h rs (op.GLoad dst g) refl refl told registers history

-- a store to a global
pub gstore_answers : (t : ℕ) (h : List Entry) {rs : List Value} (g src : ℕ) {v : Value} {r : Reply} {h' : List Entry}
    {rs' : List Value} → value_in rs src ≡ v → reply.Done ≡ r → rs' ≡ rs → h' ≡ h ++ entry t (Write (Global g) v) ∷ []
    → Answers t h rs (op.GStore g src) r h' rs'
gstore_answers t h {rs} g src stored told registers history =
    Answers_by t h rs (op.GStore g src) refl refl told registers
    (history ∙ ap (λ (x : Value). h ++ entry t (Write (Global g) x) ∷ []) (sym stored))

-- two addresses that may stand in registers are those of different values
pub values_differ : (names : Option heap.Names) (s : State) (a b : ℕ)
    → ((x y n : ℕ) → (maps_of names).address x ≡ Some n → (maps_of names).address y ≡ Some n → x ≡ y)
    → MayHold (maps_of names) s a → MayHold (maps_of names) s b → a ≢ b
    → value_eq (held_value names a) (held_value names b) ≡ false
values_differ names s a b one (inl no_a) (inl no_b) differ = absurd (differ (no_a ∙ sym no_b))
values_differ names s a b one (inl no_a) (inr is_b) differ =
    let at_a : held_value names a ≡ Nil = ap (held_value names) no_a in
    let at_b : held_value names b ≡ Ref is_b.0.0 =
    held_is names b (Ref is_b.0.0) (named_value names b is_b.0.0 is_b.0.1) in
    rw (at_a, at_b) refl
values_differ names s a b one (inr is_a) (inl no_b) differ =
    let at_a : held_value names a ≡ Ref is_a.0.0 =
    held_is names a (Ref is_a.0.0) (named_value names a is_a.0.0 is_a.0.1) in
    let at_b : held_value names b ≡ Nil = ap (held_value names) no_b in
    rw (at_a, at_b) refl
values_differ names s a b one (inr is_a) (inr is_b) differ =
    let at_a : held_value names a ≡ Ref is_a.0.0 =
    held_is names a (Ref is_a.0.0) (named_value names a is_a.0.0 is_a.0.1) in
    let at_b : held_value names b ≡ Ref is_b.0.0 =
    held_is names b (Ref is_b.0.0) (named_value names b is_b.0.0 is_b.0.1) in
    ap (λ (v : Value). value_eq v (held_value names b)) at_a
    ∙ (ap (value_eq (Ref is_a.0.0)) at_b
    ∙ ne_eqb is_a.0.0 is_b.0.0 (λ same. differ (one a b is_b.0.0 (is_a.0.1 ∙ ap Some same) is_b.0.1)))

-- the reply to a comparison of two registers
compared : (names : Option heap.Names) (regs : List ℕ) (h : List Entry) (a b : ℕ) (answer : Bool)
    → value_eq (held_value names (get_or regs a 0)) (held_value names (get_or regs b 0)) ≡ answer
    → does h (held_values names regs) (op.Same a b) Nil ≡ unchanged (held_values names regs)
    (if answer then reply.Yes else reply.No)
compared names regs h a b answer is =
    let rs : List Value = held_values names regs in
    let equal : value_eq (value_in rs a) (value_in rs b) ≡ answer =
    ap (λ (v : Value). value_eq v (value_in rs b)) (value_held names regs a)
    ∙ (ap (value_eq (held_value names (get_or regs a 0))) (value_held names regs b) ∙ is) in
    ap (λ (x : Bool). unchanged rs (if x then reply.Yes else reply.No)) equal

-- registers that hold different addresses hold different values
pub differ_answers : (t : ℕ) {h : List Entry} (names : Option heap.Names) (regs : List ℕ) (s : State) (a b : ℕ)
    {r : Reply} {h' : List Entry} {rs' : List Value}
    → ((x y n : ℕ) → (maps_of names).address x ≡ Some n → (maps_of names).address y ≡ Some n → x ≡ y)
    → MayHold (maps_of names) s (get_or regs a 0) → MayHold (maps_of names) s (get_or regs b 0)
    → get_or regs a 0 ≢ get_or regs b 0 → reply.No ≡ r → rs' ≡ held_values names regs → h' ≡ h
    → Answers t h (held_values names regs) (op.Same a b) r h' rs'
differ_answers t {h} names regs s a b one may_a may_b differ told registers history =
    unchanged_answers t (op.Same a b)
    (compared names regs h a b false (values_differ names s (get_or regs a 0) (get_or regs b 0) one may_a may_b differ))
    told registers history

-- a register took the value of another
pub copy_answers : (t : ℕ) {h : List Entry} (rs : List Value) (dst src : ℕ) {v : Value} {r : Reply} {h' : List Entry}
    {rs' : List Value} → value_in rs src ≡ v → reply.Done ≡ r → rs' ≡ set rs dst v → h' ≡ h
    → Answers t h rs (op.Copy dst src) r h' rs'
copy_answers t {h} rs dst src copied told registers history =
    Answers_by t h rs (op.Copy dst src) refl refl told (registers ∙ ap (set rs dst) (sym copied)) history

-- a register was cleared
pub drop_answers : (t : ℕ) {h : List Entry} (rs : List Value) (at : ℕ) {r : Reply} {h' : List Entry} {rs' : List Value}
    → reply.Done ≡ r → rs' ≡ set rs at Nil → h' ≡ h → Answers t h rs (op.Drop at) r h' rs'
drop_answers t {h} rs at told registers history =
    Answers_by t h rs (op.Drop at) refl refl told registers history

-- the operation is on a part of an object, and its register holds none
abbrev pub HoldsNil : List Value → Op → Type 0
HoldsNil rs (op.Load dst src i) = value_in rs src ≡ Nil
HoldsNil rs (op.Store obj i src) = value_in rs obj ≡ Nil
HoldsNil rs (op.Get src j) = value_in rs src ≡ Nil
HoldsNil rs (op.Put obj j v) = value_in rs obj ≡ Nil
HoldsNil rs o = ⊥

-- what such an operation does
does_nil : (h : List Entry) (rs : List Value) (o : Op) → HoldsNil rs o → does h rs o Nil ≡ unchanged rs reply.Nil
does_nil h rs (op.Load dst src i) is = part_nil _ h rs (value_in rs src) i _ is
does_nil h rs (op.Store obj i src) is = part_nil _ h rs (value_in rs obj) i _ is
does_nil h rs (op.Get src j) is = part_nil _ h rs (value_in rs src) j _ is
does_nil h rs (op.Put obj j v) is = part_nil _ h rs (value_in rs obj) j _ is
does_nil h rs o is = absurd is

-- its answer
pub nil_answers : (t : ℕ) {h : List Entry} {rs : List Value} (o : Op) {r : Reply} {h' : List Entry} {rs' : List Value}
    → HoldsNil rs o → reply.Nil ≡ r → rs' ≡ rs → h' ≡ h → Answers t h rs o r h' rs'
nil_answers t {h} {rs} o is told registers history =
    unchanged_answers t o (does_nil h rs o is) told registers history

-- the operation is on a part that the object of this number and shape, which stands in its register, lacks
abbrev pub LacksPart : List Value → Op → ℕ → words.Shape → Type 0
LacksPart rs (op.Load dst src i) n z = (value_in rs src ≡ Ref n) × (z.refs ≤ i)
LacksPart rs (op.Store obj i src) n z = (value_in rs obj ≡ Ref n) × (z.refs ≤ i)
LacksPart rs (op.Get src j) n z = (value_in rs src ≡ Ref n) × (z.nums ≤ j)
LacksPart rs (op.Put obj j v) n z = (value_in rs obj ≡ Ref n) × (z.nums ≤ j)
LacksPart rs o n z = ⊥

-- what such an operation does
does_range : (h : List Entry) (rs : List Value) (o : Op) (n : ℕ) (z : words.Shape) → LacksPart rs o n z
    → shape h n ≡ Some (shape_of z) → does h rs o Nil ≡ unchanged rs reply.Range
does_range h rs (op.Load dst src i) n z is at =
    part_past (λ (x : Shape). x.refs) h rs i _ is.0 at is.1
does_range h rs (op.Store obj i src) n z is at =
    part_past (λ (x : Shape). x.refs) h rs i _ is.0 at is.1
does_range h rs (op.Get src j) n z is at =
    part_past (λ (x : Shape). x.nums) h rs j _ is.0 at is.1
does_range h rs (op.Put obj j v) n z is at =
    part_past (λ (x : Shape). x.nums) h rs j _ is.0 at is.1
does_range h rs o n z is at = absurd is

-- its answer
pub range_answers : (t : ℕ) {h : List Entry} {rs : List Value} (o : Op) (n : ℕ) (z : words.Shape) {r : Reply}
    {h' : List Entry} {rs' : List Value} → LacksPart rs o n z → shape h n ≡ Some (shape_of z) → reply.Range ≡ r
    → rs' ≡ rs → h' ≡ h → Answers t h rs o r h' rs'
range_answers t {h} {rs} o n z is at told registers history =
    unchanged_answers t o (does_range h rs o n z is at) told registers history
