-- The acts of bindings: door_bind(3C), door_unbind(3C), and door_info(3C) of the door that a thread is bound to.
use Rattle.std.specs.Prelude.{ℕ, List, [], ◌∷◌, is_none, not, unwrap_or}
use Rattle.spec_kernel.specs.Types.{Fd, Request}
use Rattle.dk_base.specs.declared.error.Errno.TheVariants.{EBADF}
use Rattle.dk_base.specs.declared.request.Request.TheVariants as request
use Rattle.dk_base.specs.declared.answer.Answer.TheVariants as answer
use Rattle.spec_records.specs.Words.{Test, bind_tests, bind_thread, is_bound_to_some, refused_where, unbind_thread}
use Rattle.spec_kernel.specs.State.{State, bound_of, door_of}
use Rattle.spec_kernel.specs.Acts.{ActResult, no_act}
use Rattle.spec_kernel.specs.Information.{door_at, information_of}

-- door_bind: EBADF for no door or an invalid one, EINVAL for one that is not private or is another process's; the thread is
-- bound to the door, in place of an earlier one

abbrev pub binding_tests : State → ℕ → Fd → List Test
binding_tests m p fd = bind_tests p (door_of m (door_at m p fd))

abbrev pub bind : State → ℕ → ℕ → Fd → ActResult
bind m t p fd =
    record { state = record m { bindings = bind_thread m.bindings t (door_at m p fd) }; answer = answer.Done }

-- EBADF for a thread that is bound to no door
abbrev pub bound_tests : State → ℕ → List Test
bound_tests m t = refused_where (is_none (bound_of m t)) EBADF ∷ []

-- door_unbind: EBADF; the thread is bound to no door
abbrev pub unbind : State → ℕ → ActResult
unbind m t = record { state = record m { bindings = unbind_thread m.bindings t }; answer = answer.Done }

-- door_info of DOOR_QUERY: EBADF for a thread that is bound to no door, or to the lost one; what the process is told of the door that
-- the thread is bound to

abbrev pub queried_tests : State → ℕ → List Test
queried_tests m t = refused_where (not (is_bound_to_some (bound_of m t))) EBADF ∷ []

abbrev pub information_of_bound : State → ℕ → ℕ → ActResult
information_of_bound m t p = information_of m p (unwrap_or (bound_of m t) 0)

-- the tests and the effect of an entry of this file

abbrev pub tests_of_bindings : State → ℕ → ℕ → Request → List Test
tests_of_bindings m t p (request.Bind fd) = binding_tests m p fd
tests_of_bindings m t p request.Unbind = bound_tests m t
tests_of_bindings m t p request.InfoQuery = queried_tests m t
tests_of_bindings m t p _ = []

abbrev pub effect_of_bindings : State → ℕ → ℕ → Request → ActResult
effect_of_bindings m t p (request.Bind fd) = bind m t p fd
effect_of_bindings m t p request.Unbind = unbind m t
effect_of_bindings m t p request.InfoQuery = information_of_bound m t p
effect_of_bindings m t p _ = no_act m
