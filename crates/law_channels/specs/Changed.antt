-- What an act changes of what ports are told of: rows that were open, bytes of pipes, and associations. All of it is told before the
-- act, by its request.
use Rattle.std.specs.Prelude.{ℕ, ◌≡◌, ◌+◌, ◌++◌, ◌==◌, ◌&&◌, ◌||◌, List, Option, Bool, true, false, not, Some, None, map, Contains}
use Rattle.std.specs.List.{list_any}
use Rattle.std.specs.Option.{option_to_list}
use Rattle.spec_kernel.specs.Types.{Fd, Obj, Request}
use Rattle.dk_base.specs.declared.object.Obj.TheVariants as obj
use Rattle.dk_base.specs.declared.request.Request.TheVariants as request
use Rattle.dk_base.specs.declared.set.PollSet.{PollSet}
use Rattle.spec_records.specs.declared.association.Association.{Association}
use Rattle.spec_records.specs.Words.{is_number, is_object, is_this_object, new_association}
use Rattle.spec_kernel.specs.Words.{State, act, associations_in, held_in, is_live_process, is_unborn_process, key_at, object_at, pipe_at, process_of, references_of, refusal_of}
use Rattle.law_channels.specs.Closed.{closes}
use Rattle.law_channels.specs.Ends.{HasNoMore, is_end, other_end}

-- the pipe that a request of process p writes or reads, 0 for none: no other pipe's bytes change
abbrev pub touched_by : State → ℕ → Request → Option ℕ
touched_by m p (request.Write fd bytes) = Some (pipe_at m p fd)
touched_by m p (request.Read fd max) = Some (pipe_at m p fd)
touched_by m p _ = None

abbrev pub touched_pipe : State → ℕ → Option Request → Option ℕ
touched_pipe m t None = None
touched_pipe m t (Some r) = touched_by m (process_of m t) r

-- The object that is ready for more by a request, or that it associates: the reading end of a pipe that is written, the writing end of
-- one that is read.
abbrev pub readied_by : State → ℕ → Request → Option Obj
readied_by m p (request.Write fd bytes) = Some (obj.PipeIn (pipe_at m p fd))
readied_by m p (request.Read fd max) = Some (obj.PipeOut (pipe_at m p fd))
readied_by m p (request.Associate port object events user) = object_at m p object
readied_by m p _ = None

abbrev pub readied : State → ℕ → Option Request → Option Obj
readied m t None = None
readied m t (Some r) = readied_by m (process_of m t) r

-- an object had references, and has none
abbrev pub is_gone : State → State → Obj → Bool
is_gone before after o = not (references_of before o == 0) && (references_of after o == 0)

-- an object is the one that is readied, or the other end of its pipe has gone
abbrev pub is_changed : State → ℕ → Option Request → State → Obj → Bool
is_changed m t q after o = is_this_object o (readied m t q) || (is_end o && is_gone m after (other_end o))

-- these objects, where those ends of pipes have gone
abbrev pub changed_objects : State → ℕ → Option Request → List Obj → List Obj
changed_objects m t q gone = option_to_list (readied m t q) ++ map other_end gone

-- every end of a pipe that has gone is among these
abbrev pub ListsGone : State → State → List Obj → Type 0
ListsGone before after gone = (o : Obj) → is_end o ≡ true → is_gone before after o ≡ true → list_any (is_object o) gone ≡ true

-- a process that has not begun has no row, so that nothing of it is lost where it gets those of its parent
abbrev pub UnbornHaveNoRows : State → Type 0
UnbornHaveNoRows m = (p : ℕ) (fd : Fd) → is_unborn_process m p ≡ true → object_at m p fd ≡ None

-- only a process that lives has rows
abbrev pub OnlyLiveHaveRows : State → Type 0
OnlyLiveHaveRows m = (p : ℕ) (fd : Fd) → is_live_process m p ≡ false → object_at m p fd ≡ None

-- a state with the processes, the tables and the channels that an act leaves, as it is until ports are told
pub record IsAfterAct (m : State) (t : ℕ) (q : Option Request) (n : State) : Type 0 where
  pub processes : n.process_table.processes ≡ (act m t q).state.process_table.processes
  pub tables : n.tables ≡ (act m t q).state.tables
  pub channels : n.channels ≡ (act m t q).state.channels

pub record Changes (m : State) (t : ℕ) (q : Option Request) (n : State) : Type 0 where
  -- an open row names what it named, but for those that are closed
  pub kept : (p : ℕ) (fd : Fd) (o : Obj) → object_at m p fd ≡ Some o → closes m t q p fd ≡ false → object_at n p fd ≡ Some o
  pub gone : (p : ℕ) (fd : Fd) → closes m t q p fd ≡ true → object_at n p fd ≡ None
  -- so no row that is open before and after names another object
  pub same : (p : ℕ) (fd : Fd) (o x : Obj) → object_at m p fd ≡ Some o → object_at n p fd ≡ Some x → x ≡ o
  -- pipes hold what they held, but for the one that was touched
  pub bytes : (k : ℕ) → is_number k (touched_pipe m t q) ≡ false → held_in n k ≡ held_in m k
  -- no object but the readied one has more to read, or more room
  pub no_more : (o : Obj) → is_this_object o (readied m t q) ≡ false → HasNoMore m.channels.pipes n.channels.pipes o

-- the association that a port_associate(3C) makes
pub record IsMade (m : State) (t : ℕ) (q : Option Request) (a : Association) : Type 0 where
  pub port : Fd
  pub object : Fd
  pub events : PollSet
  pub user : ℕ
  pub asked : q ≡ Some (request.Associate port object events user)
  pub not_refused : refusal_of m t (process_of m t) (request.Associate port object events user) ≡ None
  pub names : object_at m (process_of m t) object ≡ Some a.object
  pub made : a ≡ new_association (m.channels.associations.made + 1) (key_at m (process_of m t) port object) a.object events user

-- an association after an act: it stood before, and is the same, or was made
pub data Stands (m : State) (t : ℕ) (q : Option Request) (a : Association) : Type 0 where
  stood : Contains (associations_in m) a → Stands m t q a
  is_new : IsMade m t q a → Stands m t q a
