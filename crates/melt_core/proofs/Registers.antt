-- The registers of threads when one of them is set.
use Rattle.std.proofs.Common.{◌≡◌, ◌≢◌, ℕ, ◌<◌, List, [], length, get_or, sym, ◌∙◌, ap, subst, arith}
use Rattle.std.proofs.Math.ListN.{set, length-map, length-set}
use Rattle.std.proofs.lemmas.List.{get_or-set_same, get_or-set_other, map-set}
use Rattle.std.specs.Prelude.{map}
use Rattle.melt_scion.specs.Heaps.{register_in}
use Rattle.melt_scion.specs.declared.registers.Registers.{Registers}
use Rattle.melt_core.specs.Changed.{with_register}
use Rattle.melt_core.specs.Views.{View, registers_in, values_of, held_value, held_values}
use Rattle.melt_core.proofs.Values.{get_or_set_keeps, held_values-set}

pub registers_set : (held : List Registers) (t : ℕ) (regs : List ℕ) → t < length held
    → registers_in (set held t (record { regs = regs })) t ≡ regs
registers_set held t regs within =
    let each : List (List ℕ) = map (λ (x : Registers). x.regs) held in
    let size : length each ≡ length held = length-map held (λ (x : Registers). x.regs) in
    ap (λ (xs : List (List ℕ)). get_or xs t []) (map-set (λ (x : Registers). x.regs) held t (record { regs = regs }))
    ∙ get_or-set_same each t regs [] (omega arith)

-- those of the others stay
pub registers_other : (held : List Registers) (t u : ℕ) (regs : List ℕ) → u ≢ t
    → registers_in (set held t (record { regs = regs })) u ≡ registers_in held u
registers_other held t u regs other =
    ap (λ (xs : List (List ℕ)). get_or xs u []) (map-set (λ (x : Registers). x.regs) held t (record { regs = regs }))
    ∙ get_or-set_other (map (λ (x : Registers). x.regs) held) t u regs [] other

-- the register itself, and the others of the thread
pub register_other : (v : View) (t r address k : ℕ) → t < length v.held → k ≢ r
    → register_in (with_register v t r address).held t k ≡ register_in v.held t k
register_other v t r address k within other =
    ap (λ (regs : List ℕ). get_or regs k 0) (registers_set v.held t (set (registers_in v.held t) r address) within)
    ∙ get_or-set_other (registers_in v.held t) r k address 0 other

-- what holds of all registers of the thread, and of what the one gets, holds of them after
pub register_keeps : (P : ℕ → Type 0) (v : View) (t r address : ℕ) → t < length v.held → P address
    → ((k : ℕ) → P (register_in v.held t k)) → (k : ℕ) → P (register_in (with_register v t r address).held t k)
register_keeps P v t r address within new old k =
    subst (λ (regs : List ℕ). P (get_or regs k 0))
    (sym (registers_set v.held t (set (registers_in v.held t) r address) within))
    (get_or_set_keeps P (registers_in v.held t) r address k 0 new (old k))

pub values_set : (v : View) (t r address : ℕ) → t < length v.held
    → values_of (with_register v t r address) t ≡ set (values_of v t) r (held_value v.names address)
values_set v t r address within =
    ap (held_values v.names) (registers_set v.held t (set (registers_in v.held t) r address) within)
    ∙ held_values-set v.names (registers_in v.held t) r address

pub threads_set : (v : View) (t r address : ℕ) → length (with_register v t r address).held ≡ length v.held
threads_set v t r address = length-set v.held t (record { regs = set (registers_in v.held t) r address })
