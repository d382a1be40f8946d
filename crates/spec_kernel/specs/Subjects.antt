-- What an entry is about: the file of this folder that has its tests and its effect.
use Rattle.spec_kernel.specs.Types.{Request}
use Rattle.dk_base.specs.declared.request.Request.TheVariants as request

pub data Subject : Type 0 where
  doors : Subject
  bindings : Subject
  information : Subject
  descriptors : Subject
  leaving : Subject
  pipes : Subject
  ports : Subject
  associations : Subject
  timers : Subject
  tasks : Subject

abbrev pub subject_of : Request → Subject
subject_of (request.Create entry cookie attrs) = Subject.doors
subject_of (request.Call fd bytes pass rsize) = Subject.doors
subject_of (request.Return bytes pass) = Subject.doors
subject_of (request.Bind fd) = Subject.bindings
subject_of request.Unbind = Subject.bindings
subject_of request.InfoQuery = Subject.bindings
subject_of (request.Info fd) = Subject.information
subject_of (request.GetParam fd param) = Subject.information
subject_of (request.SetParam fd param value) = Subject.information
subject_of request.Cred = Subject.information
subject_of (request.Close fd) = Subject.descriptors
subject_of (request.Dup fd) = Subject.descriptors
subject_of (request.Attach fd path) = Subject.descriptors
subject_of (request.Detach path) = Subject.descriptors
subject_of (request.Open path) = Subject.descriptors
subject_of (request.Await path) = Subject.descriptors
subject_of (request.Revoke fd) = Subject.leaving
subject_of (request.Interrupt thread) = Subject.leaving
subject_of (request.Kill process) = Subject.leaving
subject_of request.Exit = Subject.leaving
subject_of (request.Fork child) = Subject.leaving
subject_of request.TestCancel = Subject.leaving
subject_of request.Pipe = Subject.pipes
subject_of (request.Write fd bytes) = Subject.pipes
subject_of (request.Read fd max) = Subject.pipes
subject_of request.PortCreate = Subject.ports
subject_of (request.Get port wait) = Subject.ports
subject_of (request.GetN port max nget wait) = Subject.ports
subject_of (request.Send port events user) = Subject.ports
subject_of (request.SendN fds events user) = Subject.ports
subject_of (request.Alert port mode events user) = Subject.ports
subject_of (request.Associate port object events user) = Subject.associations
subject_of (request.Dissociate port object) = Subject.associations
subject_of (request.TimerCreate port user) = Subject.timers
subject_of (request.TimerSet timer first interval) = Subject.timers
subject_of (request.TimerDelete timer) = Subject.timers
subject_of (request.Advance by) = Subject.timers
subject_of (request.Work op bytes) = Subject.tasks
subject_of (request.Ncd line) = Subject.tasks
