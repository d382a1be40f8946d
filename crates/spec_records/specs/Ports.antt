-- Event ports (port_create(3C)), numbered from 1 by their places: the events that are queued at each, and its alert. A number that no
-- port has reads as that of a port without either, and a writer at such a number changes nothing.
use Rattle.std.specs.Prelude.{ℕ, ◌+◌, ◌++◌, List, [], ◌∷◌, Option, Bool, true, false, ◌==◌, ◌&&◌, ◌||◌, not, if◌then◌else◌, Some, None, count_by, drop, filter, filter_map, is_none, is_some, length, map, nat_le, nat_lt, slice_get, take}
use Rattle.std.specs.List.{list_any}
use Rattle.dk_base.specs.declared.error.Errno.{Errno}
use Rattle.dk_base.specs.declared.error.Errno.TheVariants.{EAGAIN, EBUSY, EINVAL, ETIME}
use Rattle.dk_base.specs.declared.limits.TheConstants.{USER_EVENTS_MAX}
use Rattle.dk_base.specs.declared.object.EventRec.{EventRec}
use Rattle.dk_base.specs.declared.object.Src.{Src}
use Rattle.dk_base.specs.declared.object.Src.TheVariants as src
use Rattle.dk_base.specs.declared.request.AlertMode.{AlertMode}
use Rattle.dk_base.specs.declared.request.AlertMode.TheVariants as mode
use Rattle.dk_base.specs.ByNumber.{at_number}
use Rattle.spec_records.specs.declared.port.Alert.{Alert}
use Rattle.spec_records.specs.declared.port.Queued.{Queued}
use Rattle.spec_records.specs.Lists.{change_at_number, change_first}
use Rattle.spec_records.specs.Refusals.{Test, first_refusal, refused_where}

-- a port's number, its alert while it is in alert mode, and the events that are queued and not taken, the oldest first
pub record Port : Type 0 where
  pub number : ℕ
  pub alert : Option Alert
  pub queue : List Queued

-- as it is made
abbrev pub new_port : ℕ → Port
new_port n = record { number = n; alert = None; queue = [] }

-- port_create(3C): one port more, under the next number
abbrev pub make_port : List Port → List Port
make_port ports = ports ++ new_port (length ports + 1) ∷ []

abbrev pub port_in : Option Port → Port
port_in None = new_port 0
port_in (Some x) = x

abbrev pub port_of : List Port → ℕ → Port
port_of ports p = port_in (at_number ports p)

-- queueing

-- an event that port_send(3C) queues
abbrev pub user_event : ℕ → ℕ → Queued
user_event events user = record { rec = record { source = src.User; object = 0; events = events; user = user }; assoc = None; timer = None }

abbrev pub is_of_user : Src → Bool
is_of_user src.User = true
is_of_user _ = false

abbrev pub is_user_event : Queued → Bool
is_user_event q = is_of_user q.rec.source

-- how many user events are queued; other events do not count for EAGAIN
abbrev pub user_events : List Queued → ℕ
user_events queue = count_by is_user_event queue

abbrev pub is_full_port : Port → Bool
is_full_port x = nat_le USER_EVENTS_MAX (user_events x.queue)

-- the event stands last
abbrev pub with_event : Queued → Port → Port
with_event q x = record x { queue = x.queue ++ q ∷ [] }

abbrev pub post_event : List Port → ℕ → Queued → List Port
post_event ports p q = change_at_number ports p (with_event q)

-- port_send(3C): EAGAIN where the port is full
abbrev pub send_tests : Port → List Test
send_tests x = refused_where (is_full_port x) EAGAIN ∷ []

abbrev pub send_event : List Port → ℕ → ℕ → ℕ → List Port
send_event ports p events user = post_event ports p (user_event events user)

-- port_sendn(3C): each port in order is sent to, or answers its error

abbrev pub send_error : List Port → ℕ → Option Errno
send_error ports p = first_refusal (send_tests (port_of ports p))

abbrev pub send_if_allowed : List Port → ℕ → ℕ → ℕ → List Port
send_if_allowed ports p events user = if is_none (send_error ports p) then send_event ports p events user else ports

abbrev pub send_each : List Port → List ℕ → ℕ → ℕ → List Port
send_each ports [] events user = ports
send_each ports (p ∷ ps) events user = send_each (send_if_allowed ports p events user) ps events user

abbrev pub send_errors : List Port → List ℕ → ℕ → ℕ → List (Option Errno)
send_errors ports [] events user = []
send_errors ports (p ∷ ps) events user = send_error ports p ∷ send_errors (send_if_allowed ports p events user) ps events user

-- withdrawing: what an association queued leaves

abbrev pub is_number : ℕ → Option ℕ → Bool
is_number n None = false
is_number n (Some m) = m == n

abbrev pub is_event_of : ℕ → Queued → Bool
is_event_of assoc q = is_number assoc q.assoc

abbrev pub is_other_event : ℕ → Queued → Bool
is_other_event assoc q = not (is_event_of assoc q)

abbrev pub has_event_of : ℕ → Port → Bool
has_event_of assoc x = list_any (is_event_of assoc) x.queue

abbrev pub without_event : ℕ → Port → Port
without_event assoc x = record x { queue = filter (is_other_event assoc) x.queue }

abbrev pub withdraw_event : List Port → ℕ → ℕ → List Port
withdraw_event ports p assoc = change_at_number ports p (without_event assoc)

-- what a timer queued: its source, its id, how many moments it counts, and its user value

abbrev pub timer_event : ℕ → ℕ → ℕ → ℕ → Queued
timer_event timer id count user =
    record { rec = record { source = src.Timer; object = id; events = count; user = user }; assoc = None; timer = Some timer }

abbrev pub is_timer_event : ℕ → Queued → Bool
is_timer_event timer q = is_number timer q.timer

abbrev pub is_other_timer_event : ℕ → Queued → Bool
is_other_timer_event timer q = not (is_timer_event timer q)

abbrev pub has_timer_event : ℕ → Port → Bool
has_timer_event timer x = list_any (is_timer_event timer) x.queue

-- it leaves

abbrev pub without_timer_event : ℕ → Port → Port
without_timer_event timer x = record x { queue = filter (is_other_timer_event timer) x.queue }

abbrev pub withdraw_timer : List Port → ℕ → ℕ → List Port
withdraw_timer ports p timer = change_at_number ports p (without_timer_event timer)

-- it counts so many more, and keeps its place

abbrev pub grown_event : ℕ → Queued → Queued
grown_event by q = record q { rec = record q.rec { events = q.rec.events + by } }

abbrev pub with_grown_event : ℕ → ℕ → Port → Port
with_grown_event timer by x = record x { queue = change_first (is_timer_event timer) (grown_event by) x.queue }

abbrev pub grow_timer : List Port → ℕ → ℕ → ℕ → List Port
grow_timer ports p timer by = change_at_number ports p (with_grown_event timer by)

-- alert mode

abbrev pub is_of_nothing : AlertMode → Bool
is_of_nothing mode.Nothing = true
is_of_nothing _ = false

abbrev pub is_update : AlertMode → Bool
is_update mode.Update = true
is_update _ = false

-- port_alert(3C): EINVAL for no mode, EBUSY for an update with events while the port is in alert mode
abbrev pub alert_tests : AlertMode → ℕ → Port → List Test
alert_tests m events x =
    refused_where (is_of_nothing m) EINVAL ∷ refused_where (is_update m && (not (events == 0) && is_some x.alert)) EBUSY ∷ []

-- an alert in place of an earlier one; without events alert mode ends
abbrev pub alert_of : ℕ → ℕ → Option Alert
alert_of events user = if events == 0 then None else Some (record { events = events; user = user })

abbrev pub with_alert : ℕ → ℕ → Port → Port
with_alert events user x = record x { alert = alert_of events user }

abbrev pub alert_port : List Port → ℕ → ℕ → ℕ → List Port
alert_port ports p events user = change_at_number ports p (with_alert events user)

-- getting

-- the port is in alert mode, or has so many events
abbrev pub is_ready_for : ℕ → Port → Bool
is_ready_for nget x = is_some x.alert || nat_le nget (length x.queue)

-- an alert as it is retrieved
abbrev pub alert_event : Alert → Queued
alert_event a = record { rec = record { source = src.Alert; object = 0; events = a.events; user = a.user }; assoc = None; timer = None }

-- what a get of at most so many finds: the alert alone, or the first events
abbrev pub found_at : ℕ → Option Alert → List Queued → List Queued
found_at max None queue = take max queue
found_at max (Some a) queue = alert_event a ∷ []

abbrev pub events_found : ℕ → Port → List Queued
events_found max x = found_at max x.alert x.queue

-- what it leaves: an alert stays, and events are not taken then
abbrev pub left_at : ℕ → Option Alert → List Queued → List Queued
left_at max None queue = drop max queue
left_at max (Some a) queue = queue

abbrev pub without_found : ℕ → Port → Port
without_found max x = record x { queue = left_at max x.alert x.queue }

abbrev pub take_events : List Port → ℕ → ℕ → List Port
take_events ports p max = change_at_number ports p (without_found max)

-- as they are retrieved, and the numbers of the associations that queued them

abbrev pub record_of : Queued → EventRec
record_of q = q.rec

abbrev pub association_of : Queued → Option ℕ
association_of q = q.assoc

abbrev pub records_of : List Queued → List EventRec
records_of qs = map record_of qs

abbrev pub associations_of : List Queued → List ℕ
associations_of qs = filter_map association_of qs

-- port_get(3C), with a wait or without: ETIME without one where nothing is there; with one the thread waits then
abbrev pub get_tests : Bool → Port → List Test
get_tests wait x = refused_where (not wait && not (is_ready_for 1 x)) ETIME ∷ []

abbrev pub first_found : Port → Option Queued
first_found x = slice_get (events_found 1 x) 0

-- port_getn(3C). With max 0 it counts the queue, whatever nget is, takes nothing and never waits. Else EINVAL where nget is above max;
-- then ETIME without a wait where the port is not ready for nget (this project's profile); with one the thread waits.

abbrev pub has_bad_count : ℕ → ℕ → Bool
has_bad_count max nget = not (max == 0) && nat_lt max nget

abbrev pub must_wait : ℕ → ℕ → Port → Bool
must_wait max nget x = not (max == 0) && not (is_ready_for nget x)

abbrev pub getn_tests : Bool → ℕ → ℕ → Port → List Test
getn_tests wait max nget x = refused_where (has_bad_count max nget) EINVAL ∷ refused_where (not wait && must_wait max nget x) ETIME ∷ []

-- what it gives, and takes where it is no alert: nothing for max 0
abbrev pub events_given : ℕ → Port → List Queued
events_given max x = if max == 0 then [] else events_found max x

-- what it answers: how many are queued for max 0, else how many it gives
abbrev pub getn_count : ℕ → Port → ℕ
getn_count max x = if max == 0 then length x.queue else length (events_found max x)
