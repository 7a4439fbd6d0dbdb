-- What an event does to the heap by addresses, said by the numbers of objects, as a history has it.
use Rattle.std.specs.Prelude.{ℕ, zero, suc, Option, unwrap_or}
use Rattle.melt_model.specs.declared.history.Act.{Act}
use Rattle.melt_model.specs.declared.history.Act.TheVariants as act
use Rattle.melt_model.specs.declared.history.Slot.{Slot}
use Rattle.melt_model.specs.declared.history.Slot.TheVariants as slot
use Rattle.melt_model.specs.declared.history.Value.{Value}
use Rattle.melt_model.specs.declared.history.Value.TheVariants as value
use Rattle.melt_model.specs.declared.operations.Reply.{Reply}
use Rattle.melt_model.specs.declared.operations.Reply.TheVariants as reply
use Rattle.melt_scion.specs.HomeNames.{home_name}
use Rattle.melt_scion.specs.Placed.{Maps, value_at}
use Rattle.melt_scion.specs.declared.heap.Names as heap
use Rattle.melt_core.specs.declared.call.Place.{Place}
use Rattle.melt_core.specs.declared.call.Place.TheVariants.{Field, Global}
use Rattle.melt_core.specs.declared.parts.Deed.{Deed}
use Rattle.melt_core.specs.declared.parts.Deed.TheVariants.{Make, Read, Write}
use Rattle.melt_core.specs.declared.parts.Naming.{Naming}
use Rattle.melt_core.specs.declared.parts.Naming.TheVariants.{Own, Home}
use Rattle.melt_core.specs.declared.parts.Touched.{Touched}
use Rattle.melt_core.specs.declared.parts.Touched.TheVariants.{Reference, Number}
use Rattle.melt_core.specs.Views.{homes_of}

-- the slot that a place is
abbrev pub slot_named : Maps → Place → Slot
slot_named maps (Field object i) = slot.Field (unwrap_or (maps.address object) 0) i
slot_named maps (Global g) = slot.Global g

-- the slot that is read or written, and the value in it
abbrev pub touched_slot : Maps → Touched → Slot
touched_slot maps (Reference place address) = slot_named maps place
touched_slot maps (Number object j number) = slot.Cell (unwrap_or (maps.address object) 0) j

abbrev pub touched_value : Maps → Touched → Value
touched_value maps (Reference place address) = unwrap_or (value_at maps address) value.Nil
touched_value maps (Number object j number) = value.Num number

abbrev pub act_named : Maps → Deed → Act
act_named maps (Make shape) = act.Make shape.refs shape.nums
act_named maps (Read touched) = act.Read (touched_slot maps touched) (touched_value maps touched)
act_named maps (Write touched) = act.Write (touched_slot maps touched) (touched_value maps touched)

-- the number that an object gets: its own, or that of the object of a home
abbrev pub number_given : Option heap.Names → Naming → ℕ
number_given names (Own number) = number
number_given names (Home home) = unwrap_or (home_name (homes_of names) home) 0

-- what a load that found the address replies
abbrev pub found_at : ℕ → Reply
found_at zero = reply.Null
found_at (suc address) = reply.Ref
