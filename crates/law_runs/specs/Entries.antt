-- The table of refusals: the tests of each request in order, each with its error. Those of door_call(3C) and door_return(3C) have
-- tables of their own.
use Rattle.std.specs.Prelude.{ℕ, ◌==◌, ◌&&◌, ◌||◌, List, [], ◌∷◌, Option, Bool, true, false, if◌then◌else◌, not, Some, None, is_none, is_some, length, nat_lt, ◌+◌}
use Rattle.spec_kernel.specs.Types.{AlertMode, Call, CallStage, Door, Errno, Fd, Obj, Param, Queued, Request, Src}
use Rattle.dk_base.specs.declared.error.Errno.TheVariants.{EAGAIN, EBADF, EBADFD, EBUSY, EINVAL, EMFILE, ENOENT, ENOTSUP, EPERM, EPIPE, ETIME}
use Rattle.dk_base.specs.declared.object.Obj.TheVariants as obj
use Rattle.dk_base.specs.declared.object.Src.TheVariants as src
use Rattle.dk_base.specs.declared.request.AlertMode.TheVariants as mode
use Rattle.dk_base.specs.declared.request.Param.TheVariants as param
use Rattle.dk_base.specs.declared.request.Request.TheVariants as request
use Rattle.spec_records.specs.declared.association.Association.{Association}
use Rattle.spec_records.specs.declared.record.CallStage.TheVariants as stage
use Rattle.dk_base.specs.ByNumber.{at_number}
use Rattle.spec_records.specs.Words.{Pipe, Port}
use Rattle.spec_kernel.specs.Words.{State, bound_of, door_of, is_unborn_process, name_of, object_at}
use Rattle.law_places.specs.Counts.{free_descriptors, has_attribute, has_own_pool}
use Rattle.law_places.specs.References.{readers_left, writers_left}
use Rattle.law_runs.specs.Clock.{timer_with, timers_left}

-- what a descriptor names is no door, and the door that it is

abbrev pub is_no_door : Option Obj → Bool
is_no_door (Some (obj.Door d)) = false
is_no_door _ = true

abbrev pub door_behind : State → Option Obj → Option Door
door_behind m (Some (obj.Door d)) = door_of m d
door_behind m _ = None

-- a door is revoked, or its process has ended, or there is none; another process than p made it; it takes no descriptors

abbrev pub is_invalid : Option Door → Bool
is_invalid None = true
is_invalid (Some d) = d.revoked || d.owner_ended

abbrev pub is_of_another : ℕ → Option Door → Bool
is_of_another p None = true
is_of_another p (Some d) = not (d.owner.0 == p)

abbrev pub takes_no_descriptors : Option Door → Bool
takes_no_descriptors None = false
takes_no_descriptors (Some d) = has_attribute 64 d.attrs

-- the most descriptors of a door that takes none are set to a value that is not 0
abbrev pub sets_descriptors : Param → ℕ → Option Door → Bool
sets_descriptors param.DescMax value o = not (value == 0) && takes_no_descriptors o
sets_descriptors x value o = false

-- with this parameter at this value the least size would be above the greatest
abbrev pub leaves_no_size : Param → ℕ → Option Door → Bool
leaves_no_size x value None = false
leaves_no_size param.DataMax value (Some d) = nat_lt value d.data_min
leaves_no_size param.DataMin value (Some d) = nat_lt d.data_max value
leaves_no_size param.DescMax value (Some d) = nat_lt d.data_max d.data_min

-- what a descriptor names is no reading end, no writing end, no port

abbrev pub is_no_reading_end : Option Obj → Bool
is_no_reading_end (Some (obj.PipeIn n)) = false
is_no_reading_end _ = true

abbrev pub is_no_writing_end : Option Obj → Bool
is_no_writing_end (Some (obj.PipeOut n)) = false
is_no_writing_end _ = true

abbrev pub is_no_port : Option Obj → Bool
is_no_port (Some (obj.Port q)) = false
is_no_port _ = true

-- the pipe whose end it is, its other end having no reference, and the port that it is

abbrev pub pipe_behind : State → Option Obj → Option Pipe
pipe_behind m (Some (obj.PipeIn n)) = at_number m.channels.pipes n
pipe_behind m (Some (obj.PipeOut n)) = at_number m.channels.pipes n
pipe_behind m _ = None

abbrev pub has_no_reader : State → Option Obj → Bool
has_no_reader m (Some (obj.PipeOut n)) = readers_left m n == 0
has_no_reader m _ = true

abbrev pub has_no_writer : State → Option Obj → Bool
has_no_writer m (Some (obj.PipeIn n)) = writers_left m n == 0
has_no_writer m _ = true

abbrev pub port_behind : State → Option Obj → Option Port
port_behind m (Some (obj.Port q)) = at_number m.channels.ports q
port_behind m _ = None

-- a pipe holds its 4,096 bytes; it holds none

abbrev pub holds_all : Option Pipe → Bool
holds_all None = false
holds_all (Some x) = not (nat_lt (length x.bytes) 4096)

abbrev pub holds_none : Option Pipe → Bool
holds_none None = true
holds_none (Some x) = length x.bytes == 0

-- a port is in alert mode; it has fewer events than these; 1,024 events that were sent are queued at it

abbrev pub is_alerted : Option Port → Bool
is_alerted None = false
is_alerted (Some x) = is_some x.alert

abbrev pub has_fewer : Option Port → ℕ → Bool
has_fewer None n = nat_lt 0 n
has_fewer (Some x) n = nat_lt (length x.queue) n

abbrev pub is_sent : Src → Bool
is_sent src.User = true
is_sent _ = false

abbrev pub count_sent : List Queued → ℕ
count_sent [] = 0
count_sent (q ∷ qs) = if is_sent q.rec.source then 1 + count_sent qs else count_sent qs

abbrev pub takes_no_more : Option Port → Bool
takes_no_more None = false
takes_no_more (Some x) = not (nat_lt (count_sent x.queue) 1024)

-- a port has an association with this descriptor of process p

abbrev pub is_among : ℕ → ℕ → Fd → List Association → Bool
is_among q p fd [] = false
is_among q p fd (a ∷ xs) = (a.key.port == q) && ((a.key.process.0 == p) && (a.key.fd.0 == fd.0)) || is_among q p fd xs

abbrev pub is_associated : State → ℕ → Fd → Option Obj → Bool
is_associated m p fd (Some (obj.Port q)) = is_among q p fd m.channels.associations.associations
is_associated m p fd _ = false

-- modes of port_alert(3C)

abbrev pub is_no_mode : AlertMode → Bool
is_no_mode mode.Nothing = true
is_no_mode _ = false

abbrev pub is_of_update : AlertMode → Bool
is_of_update mode.Update = true
is_of_update _ = false

-- thread t has entered one of these calls, and its caller has not left it

abbrev pub is_in : ℕ → CallStage → Bool
is_in t (stage.Entered u) = u.0 == t
is_in t _ = false

abbrev pub has_client_among : ℕ → List Call → Bool
has_client_among t [] = false
has_client_among t (r ∷ rs) = not r.abandoned && is_in t r.stage || has_client_among t rs

-- an error, and whether there is reason for it
pub record Reason : Type 0 where
  pub error : Errno
  pub holds : Bool

abbrev pub where_so : Errno → Bool → Reason
where_so e b = record { error = e; holds = b }

abbrev pub first_reason : List Reason → Option Errno
first_reason [] = None
first_reason (x ∷ xs) = if x.holds then Some x.error else first_reason xs

-- the one reason of entries that only want a door
abbrev pub on_no_door : State → ℕ → Fd → List Reason
on_no_door m p fd = where_so EBADF (is_no_door (object_at m p fd)) ∷ []

-- and of those that want a port, whose reasons come before these
abbrev pub on_no_port : State → ℕ → Fd → List Reason → List Reason
on_no_port m p fd others = where_so EBADF (is_none (object_at m p fd)) ∷ where_so EBADFD (is_no_port (object_at m p fd)) ∷ others

-- and of those that want a binding
abbrev pub on_unbound : State → ℕ → List Reason
on_unbound m t = where_so EBADF (is_none (bound_of m t)) ∷ []

-- and of those that want a timer of the process
abbrev pub on_no_timer : State → ℕ → ℕ → List Reason
on_no_timer m p id = where_so EINVAL (is_none (timer_with m p id)) ∷ []

-- a thread is bound to none, or to a number that no door has

abbrev pub has_no_door : Option ℕ → Bool
has_no_door None = true
has_no_door (Some d) = d == 0

-- of an entry of thread t of process p
abbrev pub reasons : State → ℕ → ℕ → Request → List Reason
reasons m t p (request.Create entry cookie attrs) =
    where_so EINVAL (has_attribute 4 attrs || (has_attribute 8 attrs || has_attribute 32 attrs)) ∷ where_so EMFILE (free_descriptors m p == 0) ∷ []
reasons m t p (request.Revoke fd) =
    where_so EBADF (is_invalid (door_behind m (object_at m p fd))) ∷ where_so EPERM (is_of_another p (door_behind m (object_at m p fd))) ∷ []
reasons m t p (request.Bind fd) =
    where_so EBADF (is_invalid (door_behind m (object_at m p fd)))
    ∷ where_so EINVAL (not (has_own_pool (door_behind m (object_at m p fd))) || is_of_another p (door_behind m (object_at m p fd)))
    ∷ []
reasons m t p request.Unbind = on_unbound m t
reasons m t p (request.Info fd) = on_no_door m p fd
reasons m t p request.InfoQuery = where_so EBADF (has_no_door (bound_of m t)) ∷ []
reasons m t p (request.Fork child) = where_so EAGAIN (not (is_unborn_process m child.0)) ∷ []
reasons m t p (request.GetParam fd x) = on_no_door m p fd
reasons m t p (request.SetParam fd x value) =
    where_so EBADF (is_invalid (door_behind m (object_at m p fd)))
    ∷ where_so EPERM (is_of_another p (door_behind m (object_at m p fd)))
    ∷ where_so ENOTSUP (sets_descriptors x value (door_behind m (object_at m p fd)))
    ∷ where_so EINVAL (leaves_no_size x value (door_behind m (object_at m p fd)))
    ∷ []
reasons m t p request.Cred = where_so EINVAL (not (has_client_among t m.call_tree.calls)) ∷ []
reasons m t p (request.Close fd) = where_so EBADF (is_none (object_at m p fd)) ∷ []
reasons m t p (request.Dup fd) = where_so EBADF (is_none (object_at m p fd)) ∷ where_so EMFILE (free_descriptors m p == 0) ∷ []
reasons m t p (request.Attach fd path) =
    where_so EBADF (is_none (object_at m p fd))
    ∷ where_so EINVAL (is_no_door (object_at m p fd))
    ∷ where_so EBUSY (is_some (name_of m path))
    ∷ []
reasons m t p (request.Detach path) = where_so EINVAL (is_none (name_of m path)) ∷ []
reasons m t p (request.Open path) = where_so ENOENT (is_none (name_of m path)) ∷ where_so EMFILE (free_descriptors m p == 0) ∷ []
reasons m t p request.Pipe = where_so EMFILE (nat_lt (free_descriptors m p) 2) ∷ []
reasons m t p (request.Write fd bytes) =
    where_so EBADF (is_no_writing_end (object_at m p fd))
    ∷ where_so EPIPE (has_no_reader m (object_at m p fd))
    ∷ where_so EAGAIN (nat_lt 0 (length bytes) && holds_all (pipe_behind m (object_at m p fd)))
    ∷ []
reasons m t p (request.Read fd max) =
    where_so EBADF (is_no_reading_end (object_at m p fd))
    ∷ where_so EAGAIN (holds_none (pipe_behind m (object_at m p fd)) && not (has_no_writer m (object_at m p fd)))
    ∷ []
reasons m t p request.PortCreate = where_so EMFILE (free_descriptors m p == 0) ∷ []
reasons m t p (request.Get fd wait) =
    on_no_port m p fd
    (where_so ETIME (not wait && (not (is_alerted (port_behind m (object_at m p fd))) && has_fewer (port_behind m (object_at m p fd)) 1)) ∷ [])
reasons m t p (request.GetN fd max nget wait) =
    on_no_port m p fd
    (where_so EINVAL (not (max == 0) && nat_lt max nget)
    ∷ where_so ETIME
    (not wait
    && (not (max == 0) && (not (is_alerted (port_behind m (object_at m p fd))) && has_fewer (port_behind m (object_at m p fd)) nget)))
    ∷ [])
reasons m t p (request.Send fd events user) =
    on_no_port m p fd (where_so EAGAIN (takes_no_more (port_behind m (object_at m p fd))) ∷ [])
reasons m t p (request.Alert fd set events user) =
    on_no_port m p fd
    (where_so EINVAL (is_no_mode set)
    ∷ where_so EBUSY (is_of_update set && (not (events == 0) && is_alerted (port_behind m (object_at m p fd))))
    ∷ [])
reasons m t p (request.Associate fd object events user) = on_no_port m p fd (where_so EBADFD (is_none (object_at m p object)) ∷ [])
reasons m t p (request.Dissociate fd object) =
    on_no_port m p fd
    (where_so EBADFD (is_none (object_at m p object)) ∷ where_so ENOENT (not (is_associated m p object (object_at m p fd))) ∷ [])
reasons m t p (request.TimerCreate fd user) = on_no_port m p fd (where_so EAGAIN (not (nat_lt (timers_left m p) 32)) ∷ [])
reasons m t p (request.TimerSet id first interval) = on_no_timer m p id
reasons m t p (request.TimerDelete id) = on_no_timer m p id
reasons m t p r = []

-- the requests with a table of their own
abbrev pub is_message : Request → Bool
is_message (request.Call fd bytes pass rsize) = true
is_message (request.Return bytes pass) = true
is_message r = false
