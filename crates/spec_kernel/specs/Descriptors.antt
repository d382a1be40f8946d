-- The acts of descriptors and names: close(2), dup(2), fattach(3C), fdetach(3C), open(2) of an attached path, and the wait
-- for a path.
use Rattle.std.specs.Prelude.{ℕ, List, [], ◌∷◌, Option, Bool, false, true, not, Some, None, is_none, is_some}
use Rattle.spec_kernel.specs.Types.{Fd, Name, Obj, PathId, Request}
use Rattle.dk_base.specs.declared.error.Errno.TheVariants.{EBADF, EBUSY, EINVAL, EMFILE, ENOENT}
use Rattle.dk_base.specs.declared.object.Obj.TheVariants as obj
use Rattle.dk_base.specs.declared.request.Request.TheVariants as request
use Rattle.dk_base.specs.declared.answer.Answer.TheVariants as answer
use Rattle.spec_records.specs.declared.record.ThreadState.TheVariants as is
use Rattle.spec_records.specs.Words.{Test, close_row, descriptor, door_attached, free_place, insert_row, lowest_free, refused_where, with_name, with_row, without_name}
use Rattle.spec_kernel.specs.State.{State, object_at, name_of, table_of, with_state, with_table_of}
use Rattle.spec_kernel.specs.Acts.{ActResult, no_act}

abbrev pub is_door : Option Obj → Bool
is_door (Some (obj.Door d)) = true
is_door _ = false

-- the number of the door that is named, 0 for none
abbrev pub door_named : Option Obj → ℕ
door_named (Some (obj.Door d)) = d
door_named _ = 0

-- an object gets the lowest descriptor that is free, and the answer is that descriptor
abbrev pub insert_object : State → ℕ → Obj → ActResult
insert_object m p o =
    record {
      state = with_table_of m p (insert_row (table_of m p) o);
      answer = answer.NewFd (descriptor (free_place (table_of m p)));
    }

-- close: EBADF; the descriptor is free again

abbrev pub close_tests : State → ℕ → Fd → List Test
close_tests m p fd = refused_where (is_none (object_at m p fd)) EBADF ∷ []

abbrev pub close : State → ℕ → Fd → ActResult
close m p fd = record { state = with_table_of m p (close_row (table_of m p) fd.0); answer = answer.Done }

-- dup: EBADF, EMFILE; the same object at the lowest descriptor that is free

abbrev pub dup_tests : State → ℕ → Fd → List Test
dup_tests m p fd =
    refused_where (is_none (object_at m p fd)) EBADF ∷ refused_where (is_none (lowest_free (table_of m p))) EMFILE ∷ []

abbrev pub dup : State → ℕ → Fd → ActResult
dup m p fd =
    record {
      state = with_table_of m p (with_row (table_of m p) (free_place (table_of m p)) (object_at m p fd));
      answer = answer.NewFd (descriptor (free_place (table_of m p)));
    }

-- fattach: EBADF, EINVAL for what is no door, EBUSY

abbrev pub attach_tests : State → ℕ → Fd → PathId → List Test
attach_tests m p fd path =
    refused_where (is_none (object_at m p fd)) EBADF
    ∷ refused_where (not (is_door (object_at m p fd))) EINVAL
    ∷ refused_where (is_some (name_of m path)) EBUSY
    ∷ []

abbrev pub attach : State → ℕ → Fd → PathId → ActResult
attach m p fd path =
    record { state = record m { names = with_name m.names path (door_named (object_at m p fd)) }; answer = answer.Done }

-- fdetach: EINVAL; the path has no door

abbrev pub detach_tests : State → PathId → List Test
detach_tests m path = refused_where (is_none (name_of m path)) EINVAL ∷ []

abbrev pub detach : State → PathId → ActResult
detach m path = record { state = record m { names = without_name m.names path }; answer = answer.Done }

-- open: ENOENT, EMFILE; the door gets the lowest descriptor that is free

abbrev pub open_tests : State → ℕ → PathId → List Test
open_tests m p path =
    refused_where (is_none (name_of m path)) ENOENT ∷ refused_where (is_none (lowest_free (table_of m p))) EMFILE ∷ []

abbrev pub open_path : State → ℕ → PathId → ActResult
open_path m p path = insert_object m p (obj.Door (door_attached (name_of m path)))

-- await: done where the path is attached, else the thread waits until it is

abbrev pub await_name : State → ℕ → PathId → Option Name → ActResult
await_name m t path (Some n) = record { state = m; answer = answer.Done }
await_name m t path None = record { state = with_state m t (is.Awaiting path); answer = answer.Wait }

abbrev pub await : State → ℕ → PathId → ActResult
await m t path = await_name m t path (name_of m path)

-- the end of that wait
abbrev pub end_await : State → ℕ → ActResult
end_await m t = record { state = with_state m t is.Running; answer = answer.Done }

-- the tests and the effect of an entry of this file

abbrev pub tests_of_descriptors : State → ℕ → ℕ → Request → List Test
tests_of_descriptors m t p (request.Close fd) = close_tests m p fd
tests_of_descriptors m t p (request.Dup fd) = dup_tests m p fd
tests_of_descriptors m t p (request.Attach fd path) = attach_tests m p fd path
tests_of_descriptors m t p (request.Detach path) = detach_tests m path
tests_of_descriptors m t p (request.Open path) = open_tests m p path
tests_of_descriptors m t p _ = []

abbrev pub effect_of_descriptors : State → ℕ → ℕ → Request → ActResult
effect_of_descriptors m t p (request.Close fd) = close m p fd
effect_of_descriptors m t p (request.Dup fd) = dup m p fd
effect_of_descriptors m t p (request.Attach fd path) = attach m p fd path
effect_of_descriptors m t p (request.Detach path) = detach m path
effect_of_descriptors m t p (request.Open path) = open_path m p path
effect_of_descriptors m t p (request.Await path) = await m t path
effect_of_descriptors m t p _ = no_act m
