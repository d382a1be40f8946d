-- The acts of pipes: pipe(2), write(2), read(2). They do not block (this project's profile). Who is left to read and to write is told
-- by the references to the ends.
use Rattle.std.specs.Prelude.{ℕ, ◌+◌, List, [], ◌∷◌, Option, Bool, false, true, not, Some, length, nat_lt}
use Rattle.spec_kernel.specs.Types.{Fd, Obj, Request}
use Rattle.dk_base.specs.declared.error.Errno.TheVariants.{EBADF, EMFILE}
use Rattle.dk_base.specs.declared.object.Obj.TheVariants as obj
use Rattle.dk_base.specs.declared.request.Request.TheVariants as request
use Rattle.dk_base.specs.declared.answer.Answer.TheVariants as answer
use Rattle.spec_records.specs.Words.{Test, bytes_of, descriptor, fitting, free_place, free_rows, insert_row, make_pipe, oldest, read_pipe, read_tests, refused_where, write_pipe, write_tests}
use Rattle.spec_kernel.specs.State.{State, object_at, table_of, with_pipes, with_table_of}
use Rattle.spec_kernel.specs.References.{references_of}
use Rattle.spec_kernel.specs.Acts.{ActResult, no_act}

abbrev pub is_reading_end : Option Obj → Bool
is_reading_end (Some (obj.PipeIn n)) = true
is_reading_end _ = false

abbrev pub is_writing_end : Option Obj → Bool
is_writing_end (Some (obj.PipeOut n)) = true
is_writing_end _ = false

-- the number of the pipe whose end is named, 0 for none
abbrev pub pipe_named : Option Obj → ℕ
pipe_named (Some (obj.PipeIn n)) = n
pipe_named (Some (obj.PipeOut n)) = n
pipe_named _ = 0

abbrev pub pipe_at : State → ℕ → Fd → ℕ
pipe_at m p fd = pipe_named (object_at m p fd)

-- the bytes that a pipe holds
abbrev pub held_in : State → ℕ → List ℕ
held_in m n = bytes_of m.channels.pipes n

-- references to the ends of a pipe

abbrev pub readers_of : State → ℕ → ℕ
readers_of m n = references_of m (obj.PipeIn n)

abbrev pub writers_of : State → ℕ → ℕ
writers_of m n = references_of m (obj.PipeOut n)

-- pipe: EMFILE where fewer than two descriptors are free; a pipe under the next number, its reading end at the lowest descriptor
-- that is free, its writing end at the next

abbrev pub pipe_tests : State → ℕ → List Test
pipe_tests m p = refused_where (nat_lt (free_rows (table_of m p)) 2) EMFILE ∷ []

-- the table of a process with the reading end of a pipe
abbrev pub table_with_reader : State → ℕ → ℕ → List (Option Obj)
table_with_reader m p n = insert_row (table_of m p) (obj.PipeIn n)

abbrev pub table_with_pipe : State → ℕ → ℕ → List (Option Obj)
table_with_pipe m p n = insert_row (table_with_reader m p n) (obj.PipeOut n)

abbrev pub pipe_numbered : State → ℕ → ℕ → ActResult
pipe_numbered m p n =
    record {
      state = with_table_of (with_pipes m (make_pipe m.channels.pipes)) p (table_with_pipe m p n);
      answer = answer.TwoFds (descriptor (free_place (table_of m p))) (descriptor (free_place (table_with_reader m p n)));
    }

abbrev pub pipe : State → ℕ → ActResult
pipe m p = pipe_numbered m p (length m.channels.pipes + 1)

-- write: EBADF for what is no writing end, EPIPE, EAGAIN; as many bytes as fit, and how many these are

abbrev pub writing_tests : State → ℕ → Fd → List ℕ → List Test
writing_tests m p fd bytes =
    refused_where (not (is_writing_end (object_at m p fd))) EBADF
    ∷ write_tests (held_in m (pipe_at m p fd)) bytes (readers_of m (pipe_at m p fd))

abbrev pub write : State → ℕ → Fd → List ℕ → ActResult
write m p fd bytes =
    record {
      state = with_pipes m (write_pipe m.channels.pipes (pipe_at m p fd) bytes);
      answer = answer.Count (length (fitting (held_in m (pipe_at m p fd)) bytes));
    }

-- read: EBADF for what is no reading end, EAGAIN; at most so many of the oldest bytes, none at the end

abbrev pub reading_tests : State → ℕ → Fd → List Test
reading_tests m p fd =
    refused_where (not (is_reading_end (object_at m p fd))) EBADF
    ∷ read_tests (held_in m (pipe_at m p fd)) (writers_of m (pipe_at m p fd))

abbrev pub read : State → ℕ → Fd → ℕ → ActResult
read m p fd max =
    record {
      state = with_pipes m (read_pipe m.channels.pipes (pipe_at m p fd) max);
      answer = answer.Data (oldest (held_in m (pipe_at m p fd)) max);
    }

-- the tests and the effect of an entry of this file

abbrev pub tests_of_pipes : State → ℕ → ℕ → Request → List Test
tests_of_pipes m t p request.Pipe = pipe_tests m p
tests_of_pipes m t p (request.Write fd bytes) = writing_tests m p fd bytes
tests_of_pipes m t p (request.Read fd max) = reading_tests m p fd
tests_of_pipes m t p _ = []

abbrev pub effect_of_pipes : State → ℕ → ℕ → Request → ActResult
effect_of_pipes m t p request.Pipe = pipe m p
effect_of_pipes m t p (request.Write fd bytes) = write m p fd bytes
effect_of_pipes m t p (request.Read fd max) = read m p fd max
effect_of_pipes m t p _ = no_act m
