-- Unreferenced notices (DOOR_UNREF, DOOR_UNREF_MULTI, door_create(3C)): where the last reference to a door but one goes, its server
-- is told. It is judged on the two ends of an event (this project's profile): more than one reference before it, and exactly one
-- after it, to a door that is valid after it. A door without DOOR_UNREF_MULTI has at most one notice ever.
use Rattle.std.specs.Prelude.{ℕ, ◌==◌, ◌&&◌, Option, Bool, false, if◌then◌else◌, Some, None, length, nat_lt, suc, zero}
use Rattle.spec_kernel.specs.Types.{Door}
use Rattle.dk_base.specs.declared.object.Obj.TheVariants as obj
use Rattle.spec_records.specs.Words.{has_notice, make_notice, may_take_notice}
use Rattle.spec_kernel.specs.State.{State, door_of, now}
use Rattle.spec_kernel.specs.References.{refs}

abbrev pub reference_count : State → ℕ → ℕ
reference_count m d = length (refs m (obj.Door d))

-- the references to a door fall to one, from the state before an event to the one after its act
abbrev pub falls_to_one : State → State → ℕ → Bool
falls_to_one before after d = nat_lt 1 (reference_count before d) && (reference_count after d == 1)

-- of the door of this number
abbrev pub may_have_notice : State → ℕ → Door → Bool
may_have_notice m d x = may_take_notice (has_notice m.notice_list d) x

abbrev pub is_due : State → State → ℕ → Option Door → Bool
is_due before after d None = false
is_due before after d (Some x) = may_have_notice after d x && falls_to_one before after d

abbrev pub make_one : State → State → ℕ → State
make_one before m d =
    if is_due before m d (door_of m d) then record m { notice_list = make_notice m.notice_list (now m) d } else m

-- of the doors 1 to n
abbrev pub make_each : State → State → ℕ → State
make_each before m zero = m
make_each before m (suc n) = make_one before (make_each before m n) (suc n)

abbrev pub make_notices : State → State → State
make_notices before m = make_each before m (length m.doors)
