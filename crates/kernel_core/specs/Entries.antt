-- An entry as the file of its subject does it, and what is known of it before it is done.
use Rattle.std.specs.Prelude.{ℕ, ◌&&◌, Bool, true, false, if◌then◌else◌, not, Option, None, Some}
use Rattle.spec_kernel.specs.Types.{Answer, Pool, Request}
use Rattle.dk_base.specs.declared.answer.Answer.TheVariants as answer
use Rattle.dk_base.specs.declared.request.Request.TheVariants as request
use Rattle.spec_records.specs.declared.pool.Pool.TheVariants.{Private}
use Rattle.spec_records.specs.Words.{first_refusal, has_common_door, is_private}
use Rattle.spec_kernel.specs.Words.{ActResult, State, Subject, door_at, effect_about, process_of, tests_about, unless_refused}
use Rattle.law_pools.specs.Words.{pool_of_request}

-- refused by the first of the tests of its subject that holds, or done
abbrev pub entry_about : Subject → State → ℕ → ℕ → Request → ActResult
entry_about s m t p r = unless_refused m (first_refusal (tests_about s m t p r)) (effect_about s m t p r)

-- the pool that an act touches: of a revocation the one in which threads park that are bound to the door
abbrev pub touched_by : State → ℕ → Request → Pool
touched_by m t (request.Revoke fd) = Private (door_at m (process_of m t) fd)
touched_by m t r = pool_of_request m t r

-- a line for a name service cache
abbrev pub is_cache_line : Request → Bool
is_cache_line (request.Ncd line) = true
is_cache_line _ = false

-- the process of an entry that makes the first door that its common pool serves, if it is not refused
abbrev pub may_make_first : State → ℕ → Request → Option ℕ
may_make_first m p (request.Create entry cookie attrs) = if not (is_private attrs) && not (has_common_door m.doors p) then Some p else None
may_make_first m p _ = None

-- the same once it is answered
abbrev pub made_first : Answer → Option ℕ → Option ℕ
made_first (answer.Failure e) first = None
made_first _ first = first
