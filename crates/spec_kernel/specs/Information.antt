-- The acts that tell of a door, and that change its parameters: door_info(3C), door_getparam(3C), door_setparam(3C); and
-- the one that tells of a client: door_cred(3C).
use Rattle.std.specs.Prelude.{ℕ, List, [], ◌∷◌, Option, Some, None, is_none, length, not}
use Rattle.spec_kernel.specs.Types.{Call, Fd, Param, Request}
use Rattle.dk_base.specs.declared.error.Errno.TheVariants.{EBADF, EINVAL}
use Rattle.dk_base.specs.declared.object.Obj.TheVariants as obj
use Rattle.dk_base.specs.declared.request.Request.TheVariants as request
use Rattle.dk_base.specs.declared.answer.Answer.TheVariants as answer
use Rattle.spec_records.specs.Words.{Test, info_in, param_in, pid, refused_where, set_param, set_param_tests}
use Rattle.spec_kernel.specs.State.{State, client_call, door_of, object_at, process_of}
use Rattle.spec_kernel.specs.References.{refs}
use Rattle.spec_kernel.specs.Acts.{ActResult, no_act}
use Rattle.spec_kernel.specs.Descriptors.{door_named, is_door}

-- the number of the door that a descriptor names, 0 for none
abbrev pub door_at : State → ℕ → Fd → ℕ
door_at m p fd = door_named (object_at m p fd)

-- EBADF for a descriptor that names no door
abbrev pub door_tests : State → ℕ → Fd → List Test
door_tests m p fd = refused_where (not (is_door (object_at m p fd))) EBADF ∷ []

-- door_info: EBADF; what the process is told of the door, which depends on how many references it has

abbrev pub information_of : State → ℕ → ℕ → ActResult
information_of m p d =
    record { state = m; answer = answer.Info (info_in p (length (refs m (obj.Door d))) (door_of m d)) }

abbrev pub information : State → ℕ → Fd → ActResult
information m p fd = information_of m p (door_at m p fd)

-- door_getparam: EBADF

abbrev pub parameter : State → ℕ → Fd → Param → ActResult
parameter m p fd x = record { state = m; answer = answer.Param (param_in x (door_of m (door_at m p fd))) }

-- door_setparam: EBADF for no door or an invalid one, EPERM for another process's, ENOTSUP, EINVAL

abbrev pub set_parameter_tests : State → ℕ → Fd → Param → ℕ → List Test
set_parameter_tests m p fd x value = set_param_tests p (door_of m (door_at m p fd)) x value

abbrev pub set_parameter : State → ℕ → Fd → Param → ℕ → ActResult
set_parameter m p fd x value =
    record { state = record m { doors = set_param m.doors (door_at m p fd) x value }; answer = answer.Done }

-- door_cred: EINVAL without a client; the process of the client

abbrev pub credentials_tests : State → ℕ → List Test
credentials_tests m t = refused_where (is_none (client_call m t)) EINVAL ∷ []

-- the process of a call's caller, 0 for no call
abbrev pub client_process : State → Option Call → ℕ
client_process m None = 0
client_process m (Some r) = process_of m r.caller.0

abbrev pub credentials : State → ℕ → ActResult
credentials m t = record { state = m; answer = answer.Client (pid (client_process m (client_call m t))) }

-- the tests and the effect of an entry of this file

abbrev pub tests_of_information : State → ℕ → ℕ → Request → List Test
tests_of_information m t p (request.Info fd) = door_tests m p fd
tests_of_information m t p (request.GetParam fd x) = door_tests m p fd
tests_of_information m t p (request.SetParam fd x value) = set_parameter_tests m p fd x value
tests_of_information m t p request.Cred = credentials_tests m t
tests_of_information m t p _ = []

abbrev pub effect_of_information : State → ℕ → ℕ → Request → ActResult
effect_of_information m t p (request.Info fd) = information m p fd
effect_of_information m t p (request.GetParam fd x) = parameter m p fd x
effect_of_information m t p (request.SetParam fd x value) = set_parameter m p fd x value
effect_of_information m t p request.Cred = credentials m t
effect_of_information m t p _ = no_act m
