-- Events: a port is made without an event and without an alert, under the next number. What is sent stands last in its queue. A get, or
-- the end of a wait, tells the alert where there is one, which stays, and else the first events, which the queue holds no more. An
-- alert is set or ended by port_alert(3C). What an association or a timer has queued is withdrawn where it ends, or where the timer is set
-- again, and those associations that fire queue their events, in the order of their numbers. As the clock moves on, the event of a timer
-- that is queued counts the moments that came too; where none is queued and some came, one is, also in the order of the numbers. Nothing
-- else changes a port.
use Rattle.std.specs.Prelude.{ℕ, ◌≡◌, ◌+◌, ◌++◌, ◌<◌, ◌≤◌, ◌==◌, ◌&&◌, ◌||◌, List, [], ◌∷◌, Option, Bool, false, true, if◌then◌else◌, not, Some, None, filter, is_none, is_some, length, map, min, replicate, slice_get, suc, take, zero}
use Rattle.spec_kernel.specs.Types.{AlertMode, Answer, Errno, EventRec, Fd, Obj, Queued}
use Rattle.dk_base.specs.declared.error.Errno.TheVariants.{EAGAIN, EBADF, EBADFD}
use Rattle.dk_base.specs.declared.object.Obj.TheVariants as obj
use Rattle.dk_base.specs.declared.object.Src.TheVariants as src
use Rattle.dk_base.specs.declared.request.Request.TheVariants as request
use Rattle.dk_base.specs.declared.answer.Answer.TheVariants as answer
use Rattle.spec_records.specs.declared.association.Association.{Association}
use Rattle.spec_records.specs.declared.port.Alert.{Alert}
use Rattle.spec_records.specs.declared.record.ThreadState.TheVariants as is
use Rattle.spec_records.specs.declared.timer.Timer.{Timer}
use Rattle.spec_records.specs.Words.{Port}
use Rattle.spec_kernel.specs.Words.{State, Turn, object_at, state_at, state_of, timers_in}
use Rattle.law_places.specs.Places.{answer_at, process_at}
use Rattle.law_places.specs.References.{is_of_port}
use Rattle.law_runs.specs.Channels.{Names, port_under, told_alert}
use Rattle.law_runs.specs.Clock.{came, timer_under, timer_with}
use Rattle.law_runs.specs.Entries.{count_sent}
use Rattle.law_runs.specs.OneShot.{association_under, due_event, is_from, is_unfired}

-- an event of port_send(3C), as it stands in a queue
abbrev pub sent_event : ℕ → ℕ → Queued
sent_event events user =
    record { rec = record { source = src.User; object = 0; events = events; user = user }; assoc = None; timer = None }

-- what port_alert(3C) sets: no alert where it has no events
abbrev pub set_alert : ℕ → ℕ → Option Alert
set_alert zero user = None
set_alert (suc n) user = Some (record { events = suc n; user = user })

-- events of a queue, as they are told
abbrev pub told : List Queued → List EventRec
told qs = map (λ (q : Queued). q.rec) qs

-- The turn of place i asks port q for so many events, of which at most so many are taken: it is a port_get(3C), a port_getn(3C), or the
-- end of the wait that one of them began.
pub data AsksPort (m : State) (xs : List Turn) (i : ℕ) (x : Turn) (q : ℕ) : ℕ → ℕ → Type 0 where
  by_get : (fd : Fd) (wait : Bool) → x.request ≡ Some (request.Get fd wait) → Names m xs i x fd (obj.Port q) → AsksPort m xs i x q 1 1
  by_getn :
      (fd : Fd) (max nget : ℕ) (wait : Bool) → x.request ≡ Some (request.GetN fd max nget wait) → Names m xs i x fd (obj.Port q) →
      AsksPort m xs i x q max nget
  by_end_of_wait :
      (max nget : ℕ) (one interrupted : Bool) → x.request ≡ None → state_of (state_at m xs i) x.thread ≡ is.Getting q max nget one interrupted →
      AsksPort m xs i x q max nget

-- an answer of one event, or of several
pub data Tells : Answer → List EventRec → Type 0 where
  one : (r : EventRec) → Tells (answer.OneEvent r) (r ∷ [])
  several : (rs : List EventRec) → Tells (answer.Events rs) rs

-- What a port has before and after so many events were asked of it, of which at most so many are taken, and what is told: its alert
-- alone, which stays, as do its events; or as many of its first events as there are and may be taken, no fewer than were asked for.
pub data Found (max nget : ℕ) (before : Port) : List EventRec → Port → Type 0 where
  alert : (a : Alert) → before.alert ≡ Some a → Found max nget before (told_alert a ∷ []) before
  first :
      (taken rest : List Queued) → before.alert ≡ None → before.queue ≡ taken ++ rest → length taken ≡ min max (length before.queue) →
      nget ≤ length taken → Found max nget before (told taken) (record before { queue = rest })

pub record IsFound (m : State) (xs : List Turn) (i q max nget : ℕ) (rs : List EventRec) : Type 0 where
  pub before : Port
  pub there : port_under (state_at m xs i) q ≡ Some before
  pub after : Port
  pub there_after : port_under (state_at m xs (i + 1)) q ≡ Some after
  pub found : Found max nget before rs after

-- port_sendn(3C): each descriptor in order is answered as port_send(3C) would answer it, by what the ports have then

-- what a descriptor names is port q
abbrev pub is_named : ℕ → Option Obj → Bool
is_named q None = false
is_named q (Some o) = is_of_port q o

-- how many of these descriptors of process p name port q and have no error
abbrev pub sent_to : State → ℕ → ℕ → List Fd → List (Option Errno) → ℕ
sent_to m p q [] es = 0
sent_to m p q (fd ∷ fds) [] = 0
sent_to m p q (fd ∷ fds) (e ∷ es) =
    if is_none e && is_named q (object_at m p fd) then 1 + sent_to m p q fds es else sent_to m p q fds es

-- The error of descriptor fd of process p, where so many were sent to each port before: of a descriptor that is not open, of one that
-- names no port, and of one whose port has 1,024 events of port_send(3C).
pub data SendError (m : State) (p : ℕ) (before : ℕ → ℕ) (fd : Fd) : Option Errno → Type 0 where
  not_open : object_at m p fd ≡ None → SendError m p before fd (Some EBADF)
  no_port : (o : Obj) → object_at m p fd ≡ Some o → ((q : ℕ) → o ≡ obj.Port q → ⊥) → SendError m p before fd (Some EBADFD)
  full :
      (q : ℕ) (y : Port) → object_at m p fd ≡ Some (obj.Port q) → port_under m q ≡ Some y → 1024 ≤ count_sent y.queue + before q →
      SendError m p before fd (Some EAGAIN)
  none :
      (q : ℕ) (y : Port) → object_at m p fd ≡ Some (obj.Port q) → port_under m q ≡ Some y → count_sent y.queue + before q < 1024 →
      SendError m p before fd None

-- the error that stands at a place of these, and why
pub record IsAnsweredAt (m : State) (p : ℕ) (fds : List Fd) (errors : List (Option Errno)) (k : ℕ) (fd : Fd) : Type 0 where
  pub error : Option Errno
  pub there : slice_get errors k ≡ Some error
  pub why : SendError m p (λ q. sent_to m p q (take k fds) (take k errors)) fd error

-- what was sent, and the event of an association or of a timer that stands

abbrev pub stands : State → Option ℕ → Bool
stands m None = true
stands m (Some n) = is_some (association_under m n)

abbrev pub timer_stands : State → Option ℕ → Bool
timer_stands m None = true
timer_stands m (Some n) = is_some (timer_under m n)

abbrev pub is_left : State → Queued → Bool
is_left m e = stands m e.assoc && timer_stands m e.timer

-- an association that stands after an event, and has fired at it
abbrev pub has_fired : State → Association → Bool
has_fired before a = not a.armed && is_unfired (association_under before a.number)

-- what those of these have queued at port q that have fired
abbrev pub fired_at : State → State → ℕ → List Association → List Queued
fired_at before after q [] = []
fired_at before after q (a ∷ xs) =
    if (a.key.port == q) && has_fired before a then due_event after a ∷ fired_at before after q xs else fired_at before after q xs

-- a port that is told what ended and what fired
abbrev pub told_port : State → State → ℕ → Port → Port
told_port before after q p =
    record p { queue = filter (is_left after) p.queue ++ fired_at before after q after.channels.associations.associations }

-- what a timer queues that counts so many moments
abbrev pub tick_event : Timer → ℕ → Queued
tick_event t n =
    record { rec = record { source = src.Timer; object = t.id; events = n; user = t.user }; assoc = None; timer = Some t.number }

-- what was queued by another than timer n

abbrev pub is_of_other : ℕ → Queued → Bool
is_of_other n e = not (is_from n e.timer)

abbrev pub without_timer : ℕ → Port → Port
without_timer n p = record p { queue = filter (is_of_other n) p.queue }

-- what an event counts more when the clock has moved on: the moments of its timer that came

abbrev pub came_in : State → State → Option Timer → ℕ
came_in before after None = 0
came_in before after (Some t) = came before after t

abbrev pub came_for : State → State → Option ℕ → ℕ
came_for before after None = 0
came_for before after (Some n) = came_in before after (timer_under before n)

abbrev pub grown : State → State → Queued → Queued
grown before after e = record e { rec = record e.rec { events = e.rec.events + came_for before after e.timer } }

-- timer n has queued one of these
abbrev pub has_queued : ℕ → List Queued → Bool
has_queued n [] = false
has_queued n (e ∷ es) = is_from n e.timer || has_queued n es

-- and what those of these timers queue at port q that have none queued there, and of which moments came
abbrev pub ticks_at : State → State → ℕ → List Queued → List Timer → List Queued
ticks_at before after q es [] = []
ticks_at before after q es (t ∷ ts) =
    if (t.port == q) && (not (has_queued t.number es) && not (came before after t == 0))
    then tick_event t (came before after t) ∷ ticks_at before after q es ts
    else ticks_at before after q es ts

-- a port when the clock has moved on
abbrev pub ticked : State → State → ℕ → Port → Port
ticked before after q p =
    record p { queue = map (grown before after) p.queue ++ ticks_at before after q p.queue (timers_in before) }

-- the port of a number, before and after the turn of place i
pub data PortChange (m : State) (xs : List Turn) (i : ℕ) (x : Turn) (q : ℕ) : Option Port → Option Port → Type 0 where
  none : PortChange m xs i x q None None
  is_told : (p : Port) → PortChange m xs i x q (Some p) (Some (told_port (state_at m xs i) (state_at m xs (i + 1)) q p))
  made :
      (fd : Fd) → x.request ≡ Some request.PortCreate → answer_at m xs i x ≡ answer.NewFd fd →
      q ≡ length (state_at m xs i).channels.ports + 1 →
      PortChange m xs i x q None (Some (record { number = q; alert = None; queue = [] }))
  sent :
      (p : Port) (fd : Fd) (events user : ℕ) → x.request ≡ Some (request.Send fd events user) → Names m xs i x fd (obj.Port q) →
      answer_at m xs i x ≡ answer.Done → PortChange m xs i x q (Some p) (Some (record p { queue = p.queue ++ sent_event events user ∷ [] }))
  sent_each :
      (p : Port) (fds : List Fd) (events user : ℕ) (errors : List (Option Errno)) → x.request ≡ Some (request.SendN fds events user) →
      answer_at m xs i x ≡ answer.Errors errors →
      PortChange m xs i x q (Some p)
      (Some (record p { queue = p.queue ++ replicate (sent_to (state_at m xs i) (process_at m xs i x.thread) q fds errors) (sent_event events user) }))
  alerted :
      (p : Port) (fd : Fd) (mode : AlertMode) (events user : ℕ) → x.request ≡ Some (request.Alert fd mode events user) →
      Names m xs i x fd (obj.Port q) → answer_at m xs i x ≡ answer.Done →
      PortChange m xs i x q (Some p) (Some (record p { alert = set_alert events user }))
  retrieved :
      (p after : Port) (max nget : ℕ) (rs : List EventRec) → AsksPort m xs i x q max nget → Tells (answer_at m xs i x) rs →
      Found max nget p rs after → PortChange m xs i x q (Some p) (Some after)
  -- the timer that is set had it queued here, if anywhere
  timer_set :
      (p : Port) (id first interval : ℕ) (t : Timer) → x.request ≡ Some (request.TimerSet id first interval) → answer_at m xs i x ≡ answer.Done →
      timer_with (state_at m xs i) (process_at m xs i x.thread) id ≡ Some t → t.port ≡ q →
      PortChange m xs i x q (Some p) (Some (without_timer t.number p))
  advanced :
      (p : Port) (by : ℕ) → x.request ≡ Some (request.Advance by) → answer_at m xs i x ≡ answer.Done →
      PortChange m xs i x q (Some p) (Some (ticked (state_at m xs i) (state_at m xs (i + 1)) q p))

-- the port that a descriptor names, before the turn of place i, and what it is after it
pub record Becomes (m : State) (xs : List Turn) (i : ℕ) (x : Turn) (fd : Fd) (change : Port → Port) : Type 0 where
  pub number : ℕ
  pub port : Port
  pub names : Names m xs i x fd (obj.Port number)
  pub there : port_under (state_at m xs i) number ≡ Some port
  pub after : port_under (state_at m xs (i + 1)) number ≡ Some (change port)

-- how many events are queued at the port that a descriptor names
pub record Counts (m : State) (xs : List Turn) (i : ℕ) (x : Turn) (fd : Fd) (n : ℕ) : Type 0 where
  pub number : ℕ
  pub port : Port
  pub names : Names m xs i x fd (obj.Port number)
  pub there : port_under (state_at m xs i) number ≡ Some port
  pub counted : n ≡ length port.queue

pub record PortEvents (m : State) (xs : List Turn) : Type 0 where
  pub none_at_first : (q : ℕ) → port_under m q ≡ None
  pub each :
      (i q : ℕ) (x : Turn) → slice_get xs i ≡ Some x →
      PortChange m xs i x q (port_under (state_at m xs i) q) (port_under (state_at m xs (i + 1)) q)
  -- and each turn has its effect
  pub made :
      (i : ℕ) (x : Turn) (fd : Fd) → slice_get xs i ≡ Some x → x.request ≡ Some request.PortCreate → answer_at m xs i x ≡ answer.NewFd fd →
      port_under (state_at m xs (i + 1)) (length (state_at m xs i).channels.ports + 1)
      ≡ Some (record { number = length (state_at m xs i).channels.ports + 1; alert = None; queue = [] })
  pub found :
      (i q max nget : ℕ) (x : Turn) (rs : List EventRec) → slice_get xs i ≡ Some x → AsksPort m xs i x q max nget →
      Tells (answer_at m xs i x) rs → IsFound m xs i q max nget rs
  pub counted :
      (i : ℕ) (x : Turn) (fd : Fd) (max nget n : ℕ) (wait : Bool) → slice_get xs i ≡ Some x →
      x.request ≡ Some (request.GetN fd max nget wait) → answer_at m xs i x ≡ answer.Available n → Counts m xs i x fd n
  pub sent :
      (i : ℕ) (x : Turn) (fd : Fd) (events user : ℕ) → slice_get xs i ≡ Some x → x.request ≡ Some (request.Send fd events user) →
      answer_at m xs i x ≡ answer.Done → Becomes m xs i x fd (λ p. record p { queue = p.queue ++ sent_event events user ∷ [] })
  pub alerted :
      (i : ℕ) (x : Turn) (fd : Fd) (mode : AlertMode) (events user : ℕ) → slice_get xs i ≡ Some x →
      x.request ≡ Some (request.Alert fd mode events user) → answer_at m xs i x ≡ answer.Done →
      Becomes m xs i x fd (λ p. record p { alert = set_alert events user })
  pub sent_each :
      (i q : ℕ) (x : Turn) (fds : List Fd) (events user : ℕ) (errors : List (Option Errno)) (p : Port) → slice_get xs i ≡ Some x →
      x.request ≡ Some (request.SendN fds events user) → answer_at m xs i x ≡ answer.Errors errors → port_under (state_at m xs i) q ≡ Some p →
      port_under (state_at m xs (i + 1)) q
      ≡ Some (record p { queue = p.queue ++ replicate (sent_to (state_at m xs i) (process_at m xs i x.thread) q fds errors) (sent_event events user) })
  pub each_answered :
      (i k : ℕ) (x : Turn) (fds : List Fd) (fd : Fd) (events user : ℕ) (errors : List (Option Errno)) → slice_get xs i ≡ Some x →
      x.request ≡ Some (request.SendN fds events user) → answer_at m xs i x ≡ answer.Errors errors → slice_get fds k ≡ Some fd →
      IsAnsweredAt (state_at m xs i) (process_at m xs i x.thread) fds errors k fd
  pub timer_set :
      (i id first interval : ℕ) (x : Turn) (t : Timer) (p : Port) → slice_get xs i ≡ Some x →
      x.request ≡ Some (request.TimerSet id first interval) → answer_at m xs i x ≡ answer.Done →
      timer_with (state_at m xs i) (process_at m xs i x.thread) id ≡ Some t → port_under (state_at m xs i) t.port ≡ Some p →
      port_under (state_at m xs (i + 1)) t.port ≡ Some (without_timer t.number p)
  pub advanced :
      (i q by : ℕ) (x : Turn) (p : Port) → slice_get xs i ≡ Some x → x.request ≡ Some (request.Advance by) →
      port_under (state_at m xs i) q ≡ Some p →
      port_under (state_at m xs (i + 1)) q ≡ Some (ticked (state_at m xs i) (state_at m xs (i + 1)) q p)
