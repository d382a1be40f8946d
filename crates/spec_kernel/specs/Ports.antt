-- The acts of event ports: port_create(3C), port_get(3C), port_getn(3C), port_send(3C), port_sendn(3C), port_alert(3C), and the end of
-- the wait that a get begins.
use Rattle.std.specs.Prelude.{ℕ, ◌+◌, ◌++◌, ◌==◌, List, [], ◌∷◌, Option, Bool, false, true, if◌then◌else◌, not, Some, None, is_none, length, map}
use Rattle.spec_kernel.specs.Types.{AlertMode, Answer, Errno, Fd, Obj, Queued, Request}
use Rattle.dk_base.specs.declared.error.Errno.TheVariants.{EBADF, EBADFD, EINTR, EMFILE}
use Rattle.dk_base.specs.declared.object.Obj.TheVariants as obj
use Rattle.dk_base.specs.declared.request.Request.TheVariants as request
use Rattle.dk_base.specs.declared.answer.Answer.TheVariants as answer
use Rattle.spec_records.specs.declared.record.ThreadState.TheVariants as is
use Rattle.spec_records.specs.Words.{Port, Test, alert_port, alert_tests, associations_of, events_found, first_found, first_refusal, get_tests, getn_tests, is_ready_for, lowest_free, make_port, port_of, records_of, refused_where, send_event, send_tests, take_events}
use Rattle.spec_records.specs.Words.{retrieve_associations}
use Rattle.spec_kernel.specs.State.{Channels, State, object_at, table_of, with_channels, with_ports, with_state}
use Rattle.spec_kernel.specs.References.{references_of}
use Rattle.spec_kernel.specs.Acts.{ActResult, no_act}
use Rattle.spec_kernel.specs.Descriptors.{insert_object}

abbrev pub is_port : Option Obj → Bool
is_port (Some (obj.Port n)) = true
is_port _ = false

-- the number of the port that is named, 0 for none
abbrev pub port_named : Option Obj → ℕ
port_named (Some (obj.Port n)) = n
port_named _ = 0

abbrev pub port_at : State → ℕ → Fd → ℕ
port_at m p fd = port_named (object_at m p fd)

-- a port by its number
abbrev pub port : State → ℕ → Port
port m q = port_of m.channels.ports q

abbrev pub has_port_references : State → ℕ → Bool
has_port_references m q = not (references_of m (obj.Port q) == 0)

-- EBADF for a descriptor that is not open, EBADFD for one that names no port
abbrev pub port_tests : Option Obj → List Test
port_tests o = refused_where (is_none o) EBADF ∷ refused_where (not (is_port o)) EBADFD ∷ []

-- port_create: EMFILE; a port under the next number, at the lowest descriptor that is free

abbrev pub create_port_tests : State → ℕ → List Test
create_port_tests m p = refused_where (is_none (lowest_free (table_of m p))) EMFILE ∷ []

abbrev pub create_port : State → ℕ → ActResult
create_port m p = insert_object (with_ports m (make_port m.channels.ports)) p (obj.Port (length m.channels.ports + 1))

-- getting: what a get of at most so many finds at a port leaves it, but for an alert, which stays

abbrev pub event_answer : Option Queued → Answer
event_answer None = answer.Done
event_answer (Some q) = answer.OneEvent q.rec

-- what is found is told: by port_get the first event, or the alert, by port_getn all of them
abbrev pub found_answer : State → ℕ → ℕ → Bool → Answer
found_answer m q max one =
    if one then event_answer (first_found (port m q)) else answer.Events (records_of (events_found max (port m q)))

-- it is taken, and an association ends whose event is taken
abbrev pub take_found : Channels → ℕ → ℕ → Channels
take_found c q max =
    record c {
      ports = take_events c.ports q max;
      associations = retrieve_associations c.associations (associations_of (events_found max (port_of c.ports q)));
    }

abbrev pub retrieve : State → ℕ → ℕ → Bool → ActResult
retrieve m q max one = record { state = with_channels m (take_found m.channels q max); answer = found_answer m q max one }

-- a thread waits for so many events, or an alert
abbrev pub wait_for : State → ℕ → ℕ → ℕ → ℕ → Bool → ActResult
wait_for m t q max nget one = record { state = with_state m t (is.Getting q max nget one false); answer = answer.Wait }

-- found where the port is ready for so many events, else waited for
abbrev pub get_from : State → ℕ → ℕ → ℕ → ℕ → Bool → ActResult
get_from m t q max nget one =
    if is_ready_for nget (port m q) then retrieve m q max one else wait_for m t q max nget one

-- port_get: EBADF, EBADFD, ETIME without a wait; the alert or the first event, or a wait for one

abbrev pub getting_tests : State → ℕ → Fd → Bool → List Test
getting_tests m p fd wait = port_tests (object_at m p fd) ++ get_tests wait (port m (port_at m p fd))

abbrev pub get : State → ℕ → ℕ → Fd → ActResult
get m t p fd = get_from m t (port_at m p fd) 1 1 true

-- port_getn: EBADF, EBADFD, EINVAL for more events than are taken, ETIME without a wait. With max 0 it tells how many are queued,
-- also in alert mode; else it gives the alert alone, or the first events, or waits for as many as it asks for.

abbrev pub getting_many_tests : State → ℕ → Fd → ℕ → ℕ → Bool → List Test
getting_many_tests m p fd max nget wait = port_tests (object_at m p fd) ++ getn_tests wait max nget (port m (port_at m p fd))

abbrev pub tell_queued : State → ℕ → ActResult
tell_queued m q = record { state = m; answer = answer.Available (length (port m q).queue) }

abbrev pub get_many : State → ℕ → ℕ → Fd → ℕ → ℕ → ActResult
get_many m t p fd max nget =
    if max == 0 then tell_queued m (port_at m p fd) else get_from m t (port_at m p fd) max nget false

-- the end of that wait: EINTR where the thread was interrupted, EBADF where nothing refers to the port any more, else what is found
abbrev pub end_getting : State → ℕ → ℕ → ℕ → Bool → Bool → ActResult
end_getting m t q max one interrupted =
    if interrupted
    then record { state = with_state m t is.Running; answer = answer.Failure EINTR }
    else (
    if has_port_references m q
    then retrieve (with_state m t is.Running) q max one
    else record { state = with_state m t is.Running; answer = answer.Failure EBADF }
    )

-- port_send: EBADF, EBADFD, EAGAIN; a user event is queued

abbrev pub sending_tests : List Port → Option Obj → List Test
sending_tests ports o = port_tests o ++ send_tests (port_of ports (port_named o))

abbrev pub send : State → ℕ → Fd → ℕ → ℕ → ActResult
send m p fd events user =
    record { state = with_ports m (send_event m.channels.ports (port_at m p fd) events user); answer = answer.Done }

-- port_sendn: each is sent to in order, or has its error of port_send, by the ports as the earlier ones leave them

abbrev pub sending_error : List Port → Option Obj → Option Errno
sending_error ports o = first_refusal (sending_tests ports o)

abbrev pub after_sending : List Port → Option Obj → ℕ → ℕ → List Port
after_sending ports o events user =
    if is_none (sending_error ports o) then send_event ports (port_named o) events user else ports

abbrev pub after_sending_each : List Port → List (Option Obj) → ℕ → ℕ → List Port
after_sending_each ports [] events user = ports
after_sending_each ports (o ∷ os) events user = after_sending_each (after_sending ports o events user) os events user

abbrev pub errors_of_sending : List Port → List (Option Obj) → ℕ → ℕ → List (Option Errno)
errors_of_sending ports [] events user = []
errors_of_sending ports (o ∷ os) events user =
    sending_error ports o ∷ errors_of_sending (after_sending ports o events user) os events user

abbrev pub send_many : State → ℕ → List Fd → ℕ → ℕ → ActResult
send_many m p fds events user =
    record {
      state = with_ports m (after_sending_each m.channels.ports (map (object_at m p) fds) events user);
      answer = answer.Errors (errors_of_sending m.channels.ports (map (object_at m p) fds) events user);
    }

-- port_alert: EBADF, EBADFD, EINVAL for no mode, EBUSY; an alert in place of an earlier one, or the end of alert mode

abbrev pub alerting_tests : State → ℕ → Fd → AlertMode → ℕ → List Test
alerting_tests m p fd mode events = port_tests (object_at m p fd) ++ alert_tests mode events (port m (port_at m p fd))

abbrev pub alert : State → ℕ → Fd → ℕ → ℕ → ActResult
alert m p fd events user =
    record { state = with_ports m (alert_port m.channels.ports (port_at m p fd) events user); answer = answer.Done }

-- the tests and the effect of an entry of this file

abbrev pub tests_of_ports : State → ℕ → ℕ → Request → List Test
tests_of_ports m t p request.PortCreate = create_port_tests m p
tests_of_ports m t p (request.Get fd wait) = getting_tests m p fd wait
tests_of_ports m t p (request.GetN fd max nget wait) = getting_many_tests m p fd max nget wait
tests_of_ports m t p (request.Send fd events user) = sending_tests m.channels.ports (object_at m p fd)
tests_of_ports m t p (request.Alert fd mode events user) = alerting_tests m p fd mode events
tests_of_ports m t p _ = []

abbrev pub effect_of_ports : State → ℕ → ℕ → Request → ActResult
effect_of_ports m t p request.PortCreate = create_port m p
effect_of_ports m t p (request.Get fd wait) = get m t p fd
effect_of_ports m t p (request.GetN fd max nget wait) = get_many m t p fd max nget
effect_of_ports m t p (request.Send fd events user) = send m p fd events user
effect_of_ports m t p (request.SendN fds events user) = send_many m p fds events user
effect_of_ports m t p (request.Alert fd mode events user) = alert m p fd events user
effect_of_ports m t p _ = no_act m
