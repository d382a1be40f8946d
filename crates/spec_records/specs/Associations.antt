-- Associations of objects with ports (port_associate(3C), port_dissociate(3C)). Each has a number, and queues one event at most. A
-- port has one at most for a descriptor of a process. Those that have not ended stand in the order of their numbers. No number is
-- used twice.
use Rattle.std.specs.Prelude.{ℕ, ◌+◌, ◌++◌, List, [], ◌∷◌, Option, Bool, false, true, ◌==◌, ◌&&◌, not, if◌then◌else◌, Some, None, bit_and, bit_or, count_by, filter, find, is_none, map, option_map}
use Rattle.dk_base.specs.declared.error.Errno.TheVariants.{EBADFD, ENOENT}
use Rattle.dk_base.specs.declared.number.Fd.{Fd}
use Rattle.dk_base.specs.declared.object.EventRec.{EventRec}
use Rattle.dk_base.specs.declared.object.Obj.{Obj}
use Rattle.dk_base.specs.declared.object.Obj.TheVariants as obj
use Rattle.dk_base.specs.declared.object.Src.TheVariants as src
use Rattle.dk_base.specs.declared.set.PollSet.{PollSet}
use Rattle.dk_base.specs.declared.set.TheConstants.PollSet.{ERR, HUP}
use Rattle.spec_records.specs.declared.association.AssocKey.{AssocKey}
use Rattle.spec_records.specs.declared.association.Association.{Association}
use Rattle.spec_records.specs.declared.association.Fired.{Fired}
use Rattle.spec_records.specs.declared.port.Queued.{Queued}
use Rattle.spec_records.specs.Lists.{change_first}
use Rattle.spec_records.specs.Pipes.{Pipe, bytes_of, ready_in, ready_out}
use Rattle.spec_records.specs.Ports.{Port, post_event, withdraw_event}
use Rattle.spec_records.specs.Refusals.{Test, refused_where}
use Rattle.spec_records.specs.Tables.{is_object, object_named, table_in}

-- how many were made, and those that have not ended
pub record AssociationList : Type 0 where
  pub made : ℕ
  pub associations : List Association

abbrev pub no_associations : AssociationList
no_associations = record { made = 0; associations = [] }

-- look-ups

abbrev pub association_number : Association → ℕ
association_number a = a.number

abbrev pub is_same_association_key : AssocKey → AssocKey → Bool
is_same_association_key k l = (k.port == l.port) && ((k.process.0 == l.process.0) && (k.fd.0 == l.fd.0))

abbrev pub has_key : AssocKey → Association → Bool
has_key key a = is_same_association_key key a.key

abbrev pub has_other_key : AssocKey → Association → Bool
has_other_key key a = not (has_key key a)

-- the association of a port with a descriptor of a process
abbrev pub association_at : List Association → AssocKey → Option Association
association_at xs key = find (has_key key) xs

abbrev pub number_in : Option Association → Option ℕ
number_in a = option_map association_number a

abbrev pub numbers_of : List Association → List ℕ
numbers_of xs = map association_number xs

abbrev pub association_port : Association → ℕ
association_port a = a.key.port

abbrev pub ports_of : List Association → List ℕ
ports_of xs = map association_port xs

abbrev pub is_armed_at : ℕ → Association → Bool
is_armed_at port a = a.armed && (a.key.port == port)

-- how many associations of a port are armed
abbrev pub armed_at : List Association → ℕ → ℕ
armed_at xs port = count_by (is_armed_at port) xs

-- port_associate(3C): EBADFD for a descriptor that is not open. The association is armed, has a new number, and stands last. One of
-- the same port and descriptor ends.

abbrev pub associate_tests : Option Obj → List Test
associate_tests o = refused_where (is_none o) EBADFD ∷ []

abbrev pub new_association : ℕ → AssocKey → Obj → PollSet → ℕ → Association
new_association number key object events user =
    record { number = number; key = key; object = object; events = events; user = user; armed = true }

abbrev pub associate : AssociationList → AssocKey → Obj → PollSet → ℕ → AssociationList
associate list key object events user =
    record {
      made = list.made + 1;
      associations = filter (has_other_key key) list.associations ++ new_association (list.made + 1) key object events user ∷ [];
    }

-- port_dissociate(3C): EBADFD for a descriptor that is not open, ENOENT where there is no such association. It ends.

abbrev pub dissociate_tests : Option Obj → Option Association → List Test
dissociate_tests o a = refused_where (is_none o) EBADFD ∷ refused_where (is_none a) ENOENT ∷ []

abbrev pub dissociate : AssociationList → AssocKey → AssociationList
dissociate list key = record list { associations = filter (has_other_key key) list.associations }

-- the closing of a descriptor of a process ends all that watch by it

abbrev pub is_of_row : ℕ → Fd → Association → Bool
is_of_row process fd a = (a.key.process.0 == process) && (a.key.fd.0 == fd.0)

abbrev pub is_of_other_row : ℕ → Fd → Association → Bool
is_of_other_row process fd a = not (is_of_row process fd a)

abbrev pub associations_of_row : List Association → ℕ → Fd → List Association
associations_of_row xs process fd = filter (is_of_row process fd) xs

abbrev pub end_row : AssociationList → ℕ → Fd → AssociationList
end_row list process fd = record list { associations = filter (is_of_other_row process fd) list.associations }

-- the end of a process ends all that are its own

abbrev pub is_of_process : ℕ → Association → Bool
is_of_process process a = a.key.process.0 == process

abbrev pub is_of_other_process : ℕ → Association → Bool
is_of_other_process process a = not (is_of_process process a)

abbrev pub associations_of_process : List Association → ℕ → List Association
associations_of_process xs process = filter (is_of_process process) xs

abbrev pub end_process_associations : AssociationList → ℕ → AssociationList
end_process_associations list process = record list { associations = filter (is_of_other_process process) list.associations }

-- The same for all ways of closing: what is left is what watches by a descriptor that still names its object.

abbrev pub is_this_object : Obj → Option Obj → Bool
is_this_object o None = false
is_this_object o (Some p) = is_object o p

abbrev pub names_its_object : List (List (Option Obj)) → Association → Bool
names_its_object tables a = is_this_object a.object (object_named (table_in tables a.key.process.0) a.key.fd)

abbrev pub has_lost_its_row : List (List (Option Obj)) → Association → Bool
has_lost_its_row tables a = not (names_its_object tables a)

abbrev pub associations_that_lost : List (List (Option Obj)) → List Association → List Association
associations_that_lost tables xs = filter (has_lost_its_row tables) xs

abbrev pub end_closed : List (List (Option Obj)) → AssociationList → AssociationList
end_closed tables list = record list { associations = filter (names_its_object tables) list.associations }

-- an association whose event is retrieved ends

abbrev pub has_number : ℕ → Association → Bool
has_number n a = a.number == n

abbrev pub has_other_number : ℕ → Association → Bool
has_other_number n a = not (has_number n a)

abbrev pub retrieve_association : AssociationList → ℕ → AssociationList
retrieve_association list n = record list { associations = filter (has_other_number n) list.associations }

abbrev pub retrieve_associations : AssociationList → List ℕ → AssociationList
retrieve_associations list [] = list
retrieve_associations list (n ∷ ns) = retrieve_associations (retrieve_association list n) ns

-- the events of those that end are withdrawn
abbrev pub withdraw_events : List Port → List Association → List Port
withdraw_events ports [] = ports
withdraw_events ports (a ∷ xs) = withdraw_events (withdraw_event ports a.key.port a.number) xs

-- what an object is ready for (poll(2)), where each object has so many references; doors and ports are never ready
abbrev pub ready_object : List Pipe → (Obj → ℕ) → Obj → PollSet
ready_object pipes refs (obj.PipeIn p) = ready_in (bytes_of pipes p) (refs (obj.PipeOut p))
ready_object pipes refs (obj.PipeOut p) = ready_out (bytes_of pipes p) (refs (obj.PipeIn p))
ready_object pipes refs _ = record { 0 = 0 }

-- what an association is told where its object is ready for these: those that it asked for, and err and hup, asked for or not
abbrev pub told_events : PollSet → PollSet → ℕ
told_events ready asked = bit_and ready.0 (bit_or asked.0 (bit_or ERR.0 HUP.0))

abbrev pub is_told : PollSet → Association → Bool
is_told ready a = not (told_events ready a.events == 0)

-- firing: an armed association whose object is ready for one of these queues one event, with those, its descriptor and its user
-- value, and is no longer armed

abbrev pub disarmed : Association → Association
disarmed a = record a { armed = false }

abbrev pub event_of : PollSet → Association → EventRec
event_of ready a = record { source = src.Fd; object = a.key.fd.0; events = told_events ready a.events; user = a.user }

abbrev pub queued_of : PollSet → Association → Queued
queued_of ready a = record { rec = event_of ready a; assoc = Some a.number; timer = None }

abbrev pub fired_of : PollSet → Association → Fired
fired_of ready a = record { port = a.key.port; queued = queued_of ready a }

-- the first of those that watch an object, where it is ready for these

abbrev pub watches : Obj → Association → Bool
watches object a = is_object object a.object

abbrev pub is_watcher : Obj → Association → Bool
is_watcher object a = a.armed && watches object a

abbrev pub is_fired_by : Obj → PollSet → Association → Bool
is_fired_by object ready a = is_watcher object a && is_told ready a

abbrev pub first_fired : Obj → PollSet → List Association → Option Fired
first_fired object ready xs = option_map (fired_of ready) (find (is_fired_by object ready) xs)

abbrev pub fire_first : AssociationList → Obj → PollSet → AssociationList
fire_first list object ready = record list { associations = change_first (is_fired_by object ready) disarmed list.associations }

-- all of them in order, where each object is ready for what is said of it

abbrev pub is_to_fire : (Obj → PollSet) → Association → Bool
is_to_fire ready a = a.armed && is_told (ready a.object) a

abbrev pub fired_where : (Obj → PollSet) → Association → Fired
fired_where ready a = fired_of (ready a.object) a

abbrev pub all_fired : (Obj → PollSet) → List Association → List Fired
all_fired ready xs = map (fired_where ready) (filter (is_to_fire ready) xs)

abbrev pub disarmed_where : (Obj → PollSet) → Association → Association
disarmed_where ready a = if is_to_fire ready a then disarmed a else a

abbrev pub fire_all : AssociationList → (Obj → PollSet) → AssociationList
fire_all list ready = record list { associations = map (disarmed_where ready) list.associations }

-- what fired is queued, each at its port
abbrev pub post_fired : List Port → List Fired → List Port
post_fired ports [] = ports
post_fired ports (f ∷ fs) = post_fired (post_event ports f.port f.queued) fs
