-- Which requests a history has a line for.
use Rattle.std.specs.Prelude.{ℕ, Bool, true, false, ◌==◌, ◌&&◌, bit_and, nat_le, nat_lt, Option, None, Some, length, option_map, slice_get, unwrap_or}
use Rattle.dk_base.specs.declared.request.Request.TheVariants as request
use Rattle.history_text.specs.declared.limits.TheConstants.{PASSES_MAX, PORTS_MAX, REQUEST_DATA_MAX}
use Rattle.history_text.specs.Types.{NamedProcedure, PathId, Pid, Request}
use Rattle.history_text.specs.Names.{Names}
use Rattle.history_text.specs.Lookups.{parent_of}

-- each of these is there

abbrev pub is_thread : Names → ℕ → Bool
is_thread names t = nat_le 1 t && nat_le t (length names.threads)

abbrev pub is_process : Names → ℕ → Bool
is_process names p = nat_le 1 p && nat_le p (length names.processes)

abbrev pub is_path : Names → PathId → Bool
is_path names path = nat_lt path.0 (length names.paths)

abbrev pub is_same_process : ℕ → Option Pid → Bool
is_same_process process None = false
is_same_process process (Some other) = other.0 == process

-- a child of this process
abbrev pub is_child : Names → ℕ → ℕ → Bool
is_child names process child = is_same_process process (parent_of names child)

abbrev pub is_owned : ℕ → Option NamedProcedure → Bool
is_owned process None = false
is_owned process (Some procedure) = procedure.process == process

-- a procedure of this process
abbrev pub is_procedure : Names → ℕ → ℕ → Bool
is_procedure names process entry = is_owned process (slice_get names.procedures entry)

-- as many bytes, descriptors and ports as a line may have
abbrev pub is_message : ℕ → ℕ → Bool
is_message bytes passes = nat_le bytes REQUEST_DATA_MAX && nat_le passes PASSES_MAX

abbrev pub are_ports : ℕ → Bool
are_ports ports = nat_le 1 ports && nat_le ports PORTS_MAX

-- the events of a poll: `in`, `out`, `err` and `hup`
abbrev pub is_poll : ℕ → Bool
is_poll events = bit_and events 29 == events

-- What a request of a thread of this process names is declared, and it hands over no more than a line has. Of its other numbers the kernel asks more.
abbrev pub is_writable : Names → ℕ → Request → Bool
is_writable names of (request.Create entry cookie attrs) = is_procedure names of entry && nat_lt attrs.0 256
is_writable names of (request.Call door bytes pass rsize) = is_message (length bytes) (length pass)
is_writable names of (request.Return bytes pass) = is_message (length bytes) (length pass)
is_writable names of (request.Attach fd path) = is_path names path
is_writable names of (request.Detach path) = is_path names path
is_writable names of (request.Open path) = is_path names path
is_writable names of (request.Await path) = is_path names path
is_writable names of (request.Write fd bytes) = nat_le (length bytes) REQUEST_DATA_MAX
is_writable names of (request.Associate port object events user) = is_poll events.0
is_writable names of (request.SendN ports events user) = are_ports (length ports)
is_writable names of (request.Interrupt thread) = is_thread names thread.0
is_writable names of (request.Kill process) = is_process names process.0
is_writable names of (request.Fork child) = is_child names of child.0
is_writable names of (request.Work op bytes) = false
is_writable names of (request.Ncd line) = false
is_writable names of other = true
