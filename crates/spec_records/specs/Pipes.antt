-- Pipes (pipe(2)), numbered from 1 by their places: the bytes that each holds. They do not block (this project's profile). A number
-- that no pipe has reads as that of an empty pipe, and a writer at such a number changes nothing.
use Rattle.std.specs.Prelude.{ℕ, ◌+◌, ◌-◌, ◌++◌, List, [], ◌∷◌, Option, Bool, ◌==◌, ◌&&◌, not, if◌then◌else◌, Some, None, bit_or, drop, length, nat_le, nat_lt, take}
use Rattle.dk_base.specs.declared.error.Errno.TheVariants.{EAGAIN, EPIPE}
use Rattle.dk_base.specs.declared.limits.TheConstants.{PIPE_MAX}
use Rattle.dk_base.specs.declared.set.PollSet.{PollSet}
use Rattle.dk_base.specs.declared.set.TheConstants.PollSet.{IN, OUT, ERR, HUP}
use Rattle.dk_base.specs.ByNumber.{at_number}
use Rattle.spec_records.specs.Lists.{change_at_number}
use Rattle.spec_records.specs.Refusals.{Test, refused_where}

-- a pipe's number, and the bytes that it holds, the oldest first
pub record Pipe : Type 0 where
  pub number : ℕ
  pub bytes : List ℕ

-- as it is made
abbrev pub new_pipe : ℕ → Pipe
new_pipe n = record { number = n; bytes = [] }

-- pipe(2): one pipe more, under the next number
abbrev pub make_pipe : List Pipe → List Pipe
make_pipe pipes = pipes ++ new_pipe (length pipes + 1) ∷ []

abbrev pub bytes_in : Option Pipe → List ℕ
bytes_in None = []
bytes_in (Some x) = x.bytes

-- the bytes that a pipe holds
abbrev pub bytes_of : List Pipe → ℕ → List ℕ
bytes_of pipes p = bytes_in (at_number pipes p)

-- write(2), where the reading end has so many references: EPIPE without one, EAGAIN for some bytes where the pipe is full

abbrev pub is_full_of : List ℕ → Bool
is_full_of held = nat_le PIPE_MAX (length held)

abbrev pub write_tests : List ℕ → List ℕ → ℕ → List Test
write_tests held bytes readers =
    refused_where (readers == 0) EPIPE ∷ refused_where (nat_lt 0 (length bytes) && is_full_of held) EAGAIN ∷ []

-- as many of these bytes as fit, from the first on
abbrev pub fitting : List ℕ → List ℕ → List ℕ
fitting held bytes = take (PIPE_MAX - length held) bytes

abbrev pub written : List ℕ → Pipe → Pipe
written bytes x = record x { bytes = x.bytes ++ fitting x.bytes bytes }

abbrev pub write_pipe : List Pipe → ℕ → List ℕ → List Pipe
write_pipe pipes p bytes = change_at_number pipes p (written bytes)

-- read(2), where the writing end has so many references: EAGAIN where nothing is held and there is one; without one nothing is read,
-- which is the end

abbrev pub read_tests : List ℕ → ℕ → List Test
read_tests held writers = refused_where ((length held == 0) && nat_lt 0 writers) EAGAIN ∷ []

-- at most so many of the oldest bytes
abbrev pub oldest : List ℕ → ℕ → List ℕ
oldest held max = take max held

abbrev pub without_oldest : ℕ → Pipe → Pipe
without_oldest max x = record x { bytes = drop max x.bytes }

abbrev pub read_pipe : List Pipe → ℕ → ℕ → List Pipe
read_pipe pipes p max = change_at_number pipes p (without_oldest max)

-- what an end is ready for (poll(2)), where the other end has so many references

abbrev pub events_where : Bool → PollSet → ℕ
events_where holds events = if holds then events.0 else 0

-- the reading end: `in` where bytes are held, `hup` where the writing end has no reference
abbrev pub ready_in : List ℕ → ℕ → PollSet
ready_in held writers = record { 0 = bit_or (events_where (nat_lt 0 (length held)) IN) (events_where (writers == 0) HUP) }

-- the writing end: `out` where there is room and the reading end has a reference, `err` where it has none
abbrev pub ready_out : List ℕ → ℕ → PollSet
ready_out held readers = record { 0 = bit_or (events_where (not (is_full_of held) && nat_lt 0 readers) OUT) (events_where (readers == 0) ERR) }
