-- One event: the act of a thread, and what follows it.
use Rattle.std.specs.Prelude.{ℕ, ◌+◌, List, Option, Some, None}
use Rattle.spec_kernel.specs.Types.{Answer, Errno, Request, ThreadState, Tid, What}
use Rattle.dk_base.specs.declared.request.Request.TheVariants as request
use Rattle.dk_base.specs.declared.event.What.TheVariants as what
use Rattle.spec_records.specs.declared.record.ThreadState.TheVariants as is
use Rattle.spec_records.specs.Words.{Test, first_refusal}
use Rattle.spec_kernel.specs.State.{State, process_of, state_of}
use Rattle.spec_kernel.specs.Acts.{ActResult, no_act, unless_refused}
use Rattle.spec_kernel.specs.Subjects.{Subject, subject_of}
use Rattle.spec_kernel.specs.Doors.{accept, collect, effect_of_doors, tests_of_doors}
use Rattle.spec_kernel.specs.Descriptors.{effect_of_descriptors, end_await, tests_of_descriptors}
use Rattle.spec_kernel.specs.Binding.{effect_of_bindings, tests_of_bindings}
use Rattle.spec_kernel.specs.Information.{effect_of_information, tests_of_information}
use Rattle.spec_kernel.specs.Leaving.{effect_of_leaving, tests_of_leaving, wake}
use Rattle.spec_kernel.specs.Pipes.{effect_of_pipes, tests_of_pipes}
use Rattle.spec_kernel.specs.Ports.{effect_of_ports, end_getting, tests_of_ports}
use Rattle.spec_kernel.specs.Associations.{effect_of_associations, tests_of_associations}
use Rattle.spec_kernel.specs.Timers.{effect_of_timers, tests_of_timers}
use Rattle.spec_kernel.specs.Tasks.{effect_of_tasks, end_work, tests_of_tasks}
use Rattle.spec_kernel.specs.Settle.{settle}
use Rattle.spec_kernel.specs.Turns.{woken_threads}

-- what an entry of thread t of process p is tested for, in this order, in the file of its subject

abbrev pub tests_about : Subject → State → ℕ → ℕ → Request → List Test
tests_about Subject.doors m t p r = tests_of_doors m t p r
tests_about Subject.bindings m t p r = tests_of_bindings m t p r
tests_about Subject.information m t p r = tests_of_information m t p r
tests_about Subject.descriptors m t p r = tests_of_descriptors m t p r
tests_about Subject.leaving m t p r = tests_of_leaving m t p r
tests_about Subject.pipes m t p r = tests_of_pipes m t p r
tests_about Subject.ports m t p r = tests_of_ports m t p r
tests_about Subject.associations m t p r = tests_of_associations m t p r
tests_about Subject.timers m t p r = tests_of_timers m t p r
tests_about Subject.tasks m t p r = tests_of_tasks m t p r

abbrev pub tests_of : State → ℕ → ℕ → Request → List Test
tests_of m t p r = tests_about (subject_of r) m t p r

-- what an entry is refused with, if it is
abbrev pub refusal_of : State → ℕ → ℕ → Request → Option Errno
refusal_of m t p r = first_refusal (tests_of m t p r)

-- what an entry does that is not refused

abbrev pub effect_about : Subject → State → ℕ → ℕ → Request → ActResult
effect_about Subject.doors m t p r = effect_of_doors m t p r
effect_about Subject.bindings m t p r = effect_of_bindings m t p r
effect_about Subject.information m t p r = effect_of_information m t p r
effect_about Subject.descriptors m t p r = effect_of_descriptors m t p r
effect_about Subject.leaving m t p r = effect_of_leaving m t p r
effect_about Subject.pipes m t p r = effect_of_pipes m t p r
effect_about Subject.ports m t p r = effect_of_ports m t p r
effect_about Subject.associations m t p r = effect_of_associations m t p r
effect_about Subject.timers m t p r = effect_of_timers m t p r
effect_about Subject.tasks m t p r = effect_of_tasks m t p r

abbrev pub effect : State → ℕ → ℕ → Request → ActResult
effect m t p r = effect_about (subject_of r) m t p r

-- a kernel entry of thread t of process p
abbrev pub enter : State → ℕ → ℕ → Request → ActResult
enter m t p r = unless_refused m (refusal_of m t p r) (effect m t p r)

-- the end of a wait of thread t of process p, by what the thread waits for
abbrev pub go_on : State → ℕ → ℕ → ThreadState → ActResult
go_on m t p (is.Given item) = accept m t p item
go_on m t p (is.Calling c) = collect m t p c
go_on m t p (is.Getting port max nget one interrupted) = end_getting m t port max one interrupted
go_on m t p (is.Awaiting path) = end_await m t
go_on m t p (is.Working op input) = end_work m t
go_on m t p is.FailedReturn = wake m t
go_on m t p _ = no_act m

-- the act of a Running thread is its request; that of another thread is the end of its wait
abbrev pub act : State → ℕ → Option Request → ActResult
act m t (Some r) = enter m t (process_of m t) r
act m t None = go_on m t (process_of m t) (state_of m t)

abbrev pub with_event_counted : State → State
with_event_counted m = record m { events = m.events + 1 }

-- what one event gives
pub record Step : Type 0 where
  pub state : State
  pub answer : Answer
  pub woken : List Tid

abbrev pub step_after : State → ActResult → Step
step_after m a =
    record {
      state = with_event_counted (settle m a.state);
      answer = a.answer;
      woken = woken_threads m (with_event_counted (settle m a.state));
    }

unfoldable pub step : State → ℕ → Option Request → Step
step m t r = step_after m (act m t r)

abbrev pub what_of_entry : Request → What
what_of_entry (request.Create entry cookie attrs) = what.Create
what_of_entry (request.Call fd bytes pass rsize) = what.Call
what_of_entry (request.Return bytes pass) = what.Return
what_of_entry (request.Revoke fd) = what.Revoke
what_of_entry (request.Bind fd) = what.Bind
what_of_entry request.Unbind = what.Unbind
what_of_entry (request.Info fd) = what.Info
what_of_entry request.InfoQuery = what.Info
what_of_entry (request.GetParam fd param) = what.GetParam
what_of_entry (request.SetParam fd param value) = what.SetParam
what_of_entry request.Cred = what.Cred
what_of_entry request.TestCancel = what.TestCancel
what_of_entry (request.Close fd) = what.Close
what_of_entry (request.Dup fd) = what.Dup
what_of_entry (request.Attach fd path) = what.Attach
what_of_entry (request.Detach path) = what.Detach
what_of_entry (request.Open path) = what.Open
what_of_entry (request.Await path) = what.Await
what_of_entry request.Pipe = what.Pipe
what_of_entry (request.Write fd bytes) = what.Write
what_of_entry (request.Read fd max) = what.Read
what_of_entry request.PortCreate = what.PortCreate
what_of_entry (request.Associate port object events user) = what.Associate
what_of_entry (request.Dissociate port object) = what.Dissociate
what_of_entry (request.Get port wait) = what.Get
what_of_entry (request.GetN port max nget wait) = what.GetN
what_of_entry (request.Send port events user) = what.Send
what_of_entry (request.SendN ports events user) = what.SendN
what_of_entry (request.Alert port mode events user) = what.Alert
what_of_entry (request.TimerCreate port user) = what.TimerCreate
what_of_entry (request.TimerSet timer first interval) = what.TimerSet
what_of_entry (request.TimerDelete timer) = what.TimerDelete
what_of_entry (request.Advance by) = what.Advance
what_of_entry (request.Interrupt thread) = what.Interrupt
what_of_entry (request.Kill process) = what.Kill
what_of_entry request.Exit = what.Exit
what_of_entry (request.Fork child) = what.Fork
what_of_entry (request.Work op bytes) = what.Work
what_of_entry (request.Ncd line) = what.Ncd

abbrev pub what_of_wait : ThreadState → What
what_of_wait (is.Given item) = what.Accept
what_of_wait (is.Calling c) = what.Collect
what_of_wait (is.Getting port max nget one interrupted) = what.Got
what_of_wait (is.Awaiting path) = what.Found
what_of_wait (is.Working op input) = what.Done
what_of_wait _ = what.Woken

abbrev pub what_of : State → ℕ → Option Request → What
what_of m t (Some r) = what_of_entry r
what_of m t None = what_of_wait (state_of m t)
