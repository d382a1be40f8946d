-- Associations end by the rows that a turn closes, row by row, and timers with their process: what they queued is withdrawn.
use Rattle.std.specs.Prelude.{ℕ, List, [], ◌∷◌, Option, Bool, if◌then◌else◌, filter, is_none}
use Rattle.spec_kernel.specs.Types.{Fd, Request}
use Rattle.spec_records.specs.Words.{associations_of_process, associations_of_row, end_process_associations, end_process_timers, end_row, timers_of, withdraw_events, withdraw_timers}
use Rattle.spec_kernel.specs.Words.{Channels, State, object_at}
use Rattle.law_channels.specs.Closed.{Closing, closed_rows, is_acting}

-- what a turn closes: nothing where it is refused
abbrev pub closing : State → ℕ → Option Request → Closing
closing m t q = if is_acting m t q then closed_rows m t q else Closing.nothing

-- The same, told after the turn without a look at its refusal: of the rows that its request names, those that name nothing. An entry
-- that closes all rows of a process is never refused.

abbrev pub is_empty_row : State → ℕ → Fd → Bool
is_empty_row n p fd = is_none (object_at n p fd)

abbrev pub empty_rows : State → Closing → Closing
empty_rows n Closing.nothing = Closing.nothing
empty_rows n (Closing.rows p fds) = Closing.rows p (filter (is_empty_row n p) fds)
empty_rows n (Closing.process p) = Closing.process p

abbrev pub row_ended : Channels → ℕ → Fd → Channels
row_ended c p fd =
    record c {
      ports = withdraw_events c.ports (associations_of_row c.associations.associations p fd);
      associations = end_row c.associations p fd;
    }

-- one row after the other
abbrev pub rows_ended : Channels → ℕ → List Fd → Channels
rows_ended c p [] = c
rows_ended c p (fd ∷ fds) = rows_ended (row_ended c p fd) p fds

abbrev pub process_ended : Channels → ℕ → Channels
process_ended c p =
    record c {
      ports = withdraw_events c.ports (associations_of_process c.associations.associations p);
      associations = end_process_associations c.associations p;
    }

abbrev pub ended_by : Channels → Closing → Channels
ended_by c Closing.nothing = c
ended_by c (Closing.rows p fds) = rows_ended c p fds
ended_by c (Closing.process p) = process_ended c p

-- the timers of a process end with it

abbrev pub timers_of_process_ended : Channels → ℕ → Channels
timers_of_process_ended c p =
    record c { ports = withdraw_timers c.ports (timers_of c.timers.timers p); timers = end_process_timers c.timers p }

abbrev pub timers_ended : Channels → Closing → Channels
timers_ended c Closing.nothing = c
timers_ended c (Closing.rows p fds) = c
timers_ended c (Closing.process p) = timers_of_process_ended c p
