-- Parameters: a door is made with the first value of each, and at every event each keeps its value, except where a SetParam that is done
-- gives it another.
use Rattle.std.specs.Prelude.{ℕ, ◌≡◌, ◌+◌, List, Option, if◌then◌else◌, Some, None, slice_get}
use Rattle.spec_kernel.specs.Types.{Door, Fd, Param}
use Rattle.dk_base.specs.declared.object.Obj.TheVariants as obj
use Rattle.dk_base.specs.declared.request.Param.TheVariants as param
use Rattle.dk_base.specs.declared.request.Request.TheVariants as request
use Rattle.dk_base.specs.declared.answer.Answer.TheVariants as answer
use Rattle.spec_kernel.specs.Words.{State, Turn, door_of, object_at, state_at}
use Rattle.law_places.specs.Counts.{has_attribute}
use Rattle.law_places.specs.Places.{answer_at, process_at}

-- a parameter of a door, 0 for no door
abbrev pub value_in : Param → Option Door → ℕ
value_in y None = 0
value_in param.DataMax (Some d) = d.data_max
value_in param.DataMin (Some d) = d.data_min
value_in param.DescMax (Some d) = d.desc_max

-- as a door is made: it takes every size, and any number of descriptors, but none with DOOR_REFUSE_DESC, 64
abbrev pub first_value : Param → Door → ℕ
first_value param.DataMax d = 18446744073709551615
first_value param.DataMin d = 0
first_value param.DescMax d = if has_attribute 64 d.attrs then 0 else 2147483647

-- the turn of place i sets a parameter of door d, which a descriptor of its thread's process names
pub record Sets (m : State) (xs : List Turn) (i : ℕ) (x : Turn) (d : ℕ) (y : Param) (value : ℕ) : Type 0 where
  pub fd : Fd
  pub asked : x.request ≡ Some (request.SetParam fd y value)
  pub named : object_at (state_at m xs i) (process_at m xs i x.thread) fd ≡ Some (obj.Door d)

-- the value of a parameter of door d before and after the turn of place i
pub data ParameterChange (m : State) (xs : List Turn) (i : ℕ) (x : Turn) (d : ℕ) (y : Param) : ℕ → ℕ → Type 0 where
  stays : {value : ℕ} → ParameterChange m xs i x d y value value
  sets : (old value : ℕ) → Sets m xs i x d y value → answer_at m xs i x ≡ answer.Done → ParameterChange m xs i x d y old value

-- the door of which the turn sets this parameter has the value
pub record IsSet (m : State) (xs : List Turn) (i : ℕ) (x : Turn) (y : Param) (value : ℕ) : Type 0 where
  pub door : ℕ
  pub sets : Sets m xs i x door y value
  pub has : value_in y (door_of (state_at m xs (i + 1)) door) ≡ value

pub record Parameters (m : State) (xs : List Turn) : Type 0 where
  pub first :
      (i d : ℕ) (x : Turn) (y : Param) (door : Door) → slice_get xs i ≡ Some x → door_of (state_at m xs i) d ≡ None →
      door_of (state_at m xs (i + 1)) d ≡ Some door → value_in y (Some door) ≡ first_value y door
  pub each :
      (i d : ℕ) (x : Turn) (y : Param) (door : Door) → slice_get xs i ≡ Some x → door_of (state_at m xs i) d ≡ Some door →
      ParameterChange m xs i x d y (value_in y (Some door)) (value_in y (door_of (state_at m xs (i + 1)) d))
  -- and each request that is done has its effect
  pub set :
      (i : ℕ) (x : Turn) (fd : Fd) (y : Param) (value : ℕ) → slice_get xs i ≡ Some x → x.request ≡ Some (request.SetParam fd y value) →
      answer_at m xs i x ≡ answer.Done → IsSet m xs i x y value
