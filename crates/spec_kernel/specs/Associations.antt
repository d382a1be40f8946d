-- The acts of associations: port_associate(3C) and port_dissociate(3C). An association of a port with a descriptor of a process is
-- one-shot: it queues one event at most, and ends where that is taken, where another takes its place, or where its descriptor is
-- closed, in whatever way. What it queued and was not taken is withdrawn with it.
use Rattle.std.specs.Prelude.{ℕ, ◌++◌, List, [], Option, None, Some, filter}
use Rattle.spec_kernel.specs.Types.{Fd, Obj, Request}
use Rattle.dk_base.specs.declared.set.PollSet.{PollSet}
use Rattle.dk_base.specs.declared.object.Obj.TheVariants as obj
use Rattle.dk_base.specs.declared.request.Request.TheVariants as request
use Rattle.dk_base.specs.declared.answer.Answer.TheVariants as answer
use Rattle.spec_records.specs.declared.association.AssocKey.{AssocKey}
use Rattle.spec_records.specs.declared.association.Association.{Association}
use Rattle.spec_records.specs.Words.{Port, Test, pid}
use Rattle.spec_records.specs.Words.{associate as with_association, associate_tests, association_at, dissociate as without_association, dissociate_tests, has_key, withdraw_events}
use Rattle.spec_kernel.specs.State.{Channels, State, object_at, with_channels}
use Rattle.spec_kernel.specs.Acts.{ActResult, no_act}
use Rattle.spec_kernel.specs.Ports.{port_at, port_tests}

-- a port, and a descriptor of a process
abbrev pub key_at : State → ℕ → Fd → Fd → AssocKey
key_at m p port object = record { port = port_at m p port; process = pid p; fd = object }

abbrev pub association_of_key : State → AssocKey → Option Association
association_of_key m key = association_at m.channels.associations.associations key

-- the ports without what an association of this port and descriptor has queued
abbrev pub ports_without : Channels → AssocKey → List Port
ports_without c key = withdraw_events c.ports (filter (has_key key) c.associations.associations)

-- port_associate: EBADF, EBADFD; an association, armed, in place of one of the same port and descriptor

abbrev pub associating_tests : State → ℕ → Fd → Fd → List Test
associating_tests m p port object = port_tests (object_at m p port) ++ associate_tests (object_at m p object)

-- what is watched: a descriptor that is not open reads as one of no door
abbrev pub watched : Option Obj → Obj
watched None = obj.Door 0
watched (Some o) = o

abbrev pub associated : Channels → AssocKey → Obj → PollSet → ℕ → Channels
associated c key object events user =
    record c { ports = ports_without c key; associations = with_association c.associations key object events user }

abbrev pub associate : State → ℕ → Fd → Fd → PollSet → ℕ → ActResult
associate m p port object events user =
    record {
      state = with_channels m (associated m.channels (key_at m p port object) (watched (object_at m p object)) events user);
      answer = answer.Done;
    }

-- port_dissociate: EBADF, EBADFD, ENOENT; the association ends

abbrev pub dissociating_tests : State → ℕ → Fd → Fd → List Test
dissociating_tests m p port object =
    port_tests (object_at m p port) ++ dissociate_tests (object_at m p object) (association_of_key m (key_at m p port object))

abbrev pub dissociated : Channels → AssocKey → Channels
dissociated c key = record c { ports = ports_without c key; associations = without_association c.associations key }

abbrev pub dissociate : State → ℕ → Fd → Fd → ActResult
dissociate m p port object =
    record { state = with_channels m (dissociated m.channels (key_at m p port object)); answer = answer.Done }

-- the tests and the effect of an entry of this file

abbrev pub tests_of_associations : State → ℕ → ℕ → Request → List Test
tests_of_associations m t p (request.Associate port object events user) = associating_tests m p port object
tests_of_associations m t p (request.Dissociate port object) = dissociating_tests m p port object
tests_of_associations m t p _ = []

abbrev pub effect_of_associations : State → ℕ → ℕ → Request → ActResult
effect_of_associations m t p (request.Associate port object events user) = associate m p port object events user
effect_of_associations m t p (request.Dissociate port object) = dissociate m p port object
effect_of_associations m t p _ = no_act m
