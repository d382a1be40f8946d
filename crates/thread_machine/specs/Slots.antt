-- Variables as a machine keeps them: as much of each value as can be seen.
use Rattle.std.specs.Prelude.{ℕ, zero, suc, ◌≡◌, ◌≤◌, Bool, length, if◌then◌else◌, List, [], ◌∷◌, Option, Some, None, bytes_eq, take}
use Rattle.spec_requests.specs.Words.{Value, Variables, empty_value, greatest_data, set_variable}

pub record Slot : Type 0 where
  pub name : List ℕ
  pub value : Value

-- no name and no value
abbrev pub empty_slot : Slot
empty_slot = record { name = []; value = empty_value }

-- the variables, and how many more can be set without memory
pub record Slots : Type 0 where
  pub set : List Slot
  pub spare : ℕ

-- an operand names no later descriptor of a variable than the 16th
unfoldable pub greatest_descriptors : ℕ
greatest_descriptors = 16

-- a name is at most so long
unfoldable pub greatest_name : ℕ
greatest_name = 16

-- as much of a value as a request can show
abbrev pub visible_value : Value → Value
visible_value value =
    record { bytes = take greatest_data value.bytes; descriptors = take greatest_descriptors value.descriptors }

abbrev pub slot_value : List Slot → Variables
slot_value [] name = empty_value
slot_value (slot ∷ slots) name = if bytes_eq name slot.name then slot.value else slot_value slots name

abbrev pub is_named : List ℕ → Slot → Bool
is_named name slot = bytes_eq slot.name name

-- the place of a name, or the place after all
abbrev pub place_of : List Slot → List ℕ → ℕ
place_of [] name = zero
place_of (slot ∷ slots) name = if bytes_eq name slot.name then zero else suc (place_of slots name)

-- every variable is held, as much of it as can be seen
abbrev pub Holds : List Slot → Variables → Type 0
Holds slots variables = (name : List ℕ) → slot_value slots name ≡ visible_value (variables name)

-- the variable of this number is set, if there is one
abbrev pub set_some : Variables → Option (List ℕ) → Value → Variables
set_some variables None value = variables
set_some variables (Some var) value = set_variable variables var value

abbrev pub IsShort : Option (List ℕ) → Type 0
IsShort None = Unit {0}
IsShort (Some name) = length name ≤ greatest_name
