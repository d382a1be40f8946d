-- What an event changed, as a kernel knows it: a pipe whose bytes may be others or whose end is newly watched, and the ends of pipes that
-- lost their references in it.
use Rattle.std.specs.Prelude.{◌≡◌, ℕ, ◌||◌, Bool, true, false, List, Option, Some, None, All, IfSome}
use Rattle.std.specs.List.{list_any}
use Rattle.dk_base.specs.declared.object.Obj.{Obj}
use Rattle.dk_base.specs.declared.object.Obj.TheVariants as obj
use Rattle.spec_records.specs.declared.association.Association.{Association}
use Rattle.spec_records.specs.Words.{Pipe, is_object, is_to_fire, ready_object}
use Rattle.kernel_ports.specs.declared.changed.Ends.{Ends}
use Rattle.kernel_ports.specs.Ready.{other_end}

-- the ends of a pipe have so many references

abbrev pub HasReferences : (Obj → ℕ) → Ends → Type 0
HasReferences refs e = (refs (obj.PipeIn e.pipe) ≡ e.readers) × (refs (obj.PipeOut e.pipe) ≡ e.writers)

abbrev pub HasAllReferences : (Obj → ℕ) → Option Ends → Type 0
HasAllReferences refs pipe = IfSome pipe (HasReferences refs)

-- an object is an end of this pipe, or the other end of it lost its references

abbrev pub is_end_of : ℕ → Obj → Bool
is_end_of p o = is_object (obj.PipeIn p) o || is_object (obj.PipeOut p) o

abbrev pub is_end_in : Option Ends → Obj → Bool
is_end_in None o = false
is_end_in (Some e) o = is_end_of e.pipe o

abbrev pub is_changed : Option Ends → List Obj → Obj → Bool
is_changed pipe gone o = is_end_in pipe o || list_any (is_object (other_end o)) gone

-- where objects have so many references: what is said of the pipe is so, those that lost theirs have none, and whatever is to fire
-- watches an object that is changed
pub record AreAllNamed (pipes : List Pipe) (refs : Obj → ℕ) (pipe : Option Ends) (gone : List Obj) (xs : List Association) : Type 0 where
  pub ends : HasAllReferences refs pipe
  pub none_left : (o : Obj) → list_any (is_object o) gone ≡ true → refs o ≡ 0
  pub fires : All (λ a. is_to_fire (ready_object pipes refs) a ≡ true → is_changed pipe gone a.object ≡ true) xs
