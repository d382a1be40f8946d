-- One-shot associations, by their numbers: one that is armed is not ready between two events; an event of it is queued, at its port,
-- exactly while it stands and is not armed; and no event is queued of one that does not stand.
use Rattle.std.specs.Prelude.{ℕ, ◌≡◌, ◌+◌, ◌≤◌, ◌==◌, ◌&&◌, List, [], ◌∷◌, Option, Bool, true, false, if◌then◌else◌, not, Some, None, bit_and, bit_or, length}
use Rattle.spec_kernel.specs.Types.{Obj, Queued}
use Rattle.dk_base.specs.declared.object.Obj.TheVariants as obj
use Rattle.dk_base.specs.declared.object.Src.TheVariants as source
use Rattle.spec_records.specs.declared.association.Association.{Association}
use Rattle.spec_records.specs.Words.{IsAscending, Port, association_number}
use Rattle.spec_kernel.specs.Words.{State, Turn, object_at, state_at}
use Rattle.law_places.specs.References.{readers_left, writers_left}
use Rattle.law_runs.specs.Channels.{pipe_under, port_under}
use Rattle.law_runs.specs.Entries.{holds_all, holds_none}

-- the association of a number, if it stands

abbrev pub under : ℕ → List Association → Option Association
under n [] = None
under n (a ∷ xs) = if a.number == n then Some a else under n xs

abbrev pub association_under : State → ℕ → Option Association
association_under m n = under n m.channels.associations.associations

-- What an object is ready for: in is 1, out 4, err 8 and hup 16. The reading end of a pipe is ready for in where bytes are held, and
-- for hup where the writing end has no reference; the writing end for out where there is room and the reading end has one, and for
-- err where it has none. Doors and ports are never ready.

abbrev pub ready_where : Bool → ℕ → ℕ
ready_where b events = if b then events else 0

abbrev pub ready_events : State → Obj → ℕ
ready_events m (obj.PipeIn n) = ready_where (not (holds_none (pipe_under m n))) 1 + ready_where (writers_left m n == 0) 16
ready_events m (obj.PipeOut n) =
    ready_where (not (holds_all (pipe_under m n)) && not (readers_left m n == 0)) 4 + ready_where (readers_left m n == 0) 8
ready_events m _ = 0

-- of these what an association asks for, and err and hup, asked for or not
abbrev pub due_events : State → Association → ℕ
due_events m a = bit_and (ready_events m a.object) (bit_or a.events.0 24)

abbrev pub is_due : State → Association → Bool
is_due m a = not (due_events m a == 0)

-- what an association queues by a state in which its object is ready
abbrev pub due_event : State → Association → Queued
due_event m a =
    record { rec = record { source = source.Fd; object = a.key.fd.0; events = due_events m a; user = a.user }; assoc = Some a.number; timer = None }

-- one that has not fired, or does not stand
abbrev pub is_unfired : Option Association → Bool
is_unfired None = true
is_unfired (Some a) = a.armed

-- how many events of an association stand in a queue

abbrev pub is_from : ℕ → Option ℕ → Bool
is_from n None = false
is_from n (Some k) = k == n

abbrev pub count_from : ℕ → List Queued → ℕ
count_from n [] = 0
count_from n (e ∷ es) = if is_from n e.assoc then 1 + count_from n es else count_from n es

abbrev pub queue_in : Option Port → List Queued
queue_in None = []
queue_in (Some x) = x.queue

-- an association stands that has queued its event at this port
abbrev pub has_queued_at : ℕ → Option Association → Bool
has_queued_at q None = false
has_queued_at q (Some a) = (a.key.port == q) && not a.armed

pub record OneShot (m : State) (xs : List Turn) : Type 0 where
  -- those that stand are kept in the order of their numbers
  pub in_order :
      (i : ℕ) → i ≤ length xs →
      IsAscending association_number 0 (state_at m xs i).channels.associations.made (state_at m xs i).channels.associations.associations
  -- the descriptor of one that stands names its object
  pub names :
      (i n : ℕ) (a : Association) → i ≤ length xs → association_under (state_at m xs i) n ≡ Some a →
      object_at (state_at m xs i) a.key.process.0 a.key.fd ≡ Some a.object
  -- so one fires at the first event of its life after which its object is ready, and at no other
  pub waits :
      (i n : ℕ) (a : Association) → i ≤ length xs → association_under (state_at m xs i) n ≡ Some a → a.armed ≡ true →
      is_due (state_at m xs i) a ≡ false
  -- one event at most is queued, at its port, and none once it has ended
  pub queued :
      (i n q : ℕ) → i ≤ length xs →
      count_from n (queue_in (port_under (state_at m xs i) q))
      ≡ (if has_queued_at q (association_under (state_at m xs i) n) then 1 else 0)
