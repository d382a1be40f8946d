-- In which pools an event can find both a waiting call and an idle thread: in none before it, and in one at most after its act.
-- Of which process the act makes the first common door.
use Rattle.std.specs.Prelude.{ℕ, ◌≡◌, ◌⊎◌, ◌==◌, ◌&&◌, [], Bool, false, if◌then◌else◌, not, Option, Some, None, is_none}
use Rattle.spec_kernel.specs.Types.{Attrs, Pool, Request}
use Rattle.dk_base.specs.declared.request.Request.TheVariants as request
use Rattle.spec_records.specs.declared.pool.Pool.TheVariants.{Common, Private}
use Rattle.spec_records.specs.Words.{first_refusal, has_common_door, is_pool, is_private, pid}
use Rattle.spec_kernel.specs.Words.{State, bound_of, create_tests, door_named, object_at, pool_of, process_of}
use Rattle.server_pool.specs.Words.{PoolsValue, queue_in, stack_in}

-- no thread is parked in a pool, or no item waits there
abbrev pub IsGivenOutIn : PoolsValue → Pool → Type 0
IsGivenOutIn pools pool = (stack_in pools pool ≡ []) ⊎ (queue_in pools pool ≡ [])

abbrev pub IsGivenOut : PoolsValue → Type 0
IsGivenOut pools = (pool : Pool) → IsGivenOutIn pools pool

-- but for one pool
abbrev pub IsGivenOutBut : Pool → PoolsValue → Type 0
IsGivenOutBut touched pools = (pool : Pool) → is_pool touched pool ≡ false → IsGivenOutIn pools pool

-- the pool in which a thread of a process parks that is bound to a door, or to none; of the door that is lost there is no pool, and no
-- thread parks that is bound to it
abbrev pub pool_by : ℕ → Option ℕ → Pool
pool_by p None = Common (pid p)
pool_by p (Some d) = Private d

-- that of a thread
abbrev pub own_pool : State → ℕ → Pool
own_pool m t = pool_by (process_of m t) (bound_of m t)

-- the pool that the act of a turn touches: a Call queues in that of its door, all others park their own thread at most
abbrev pub pool_of_request : State → ℕ → Request → Pool
pool_of_request m t (request.Call fd bytes pass rsize) = pool_of m (door_named (object_at m (process_of m t) fd))
pool_of_request m t r = own_pool m t

-- Which processes start a spare: the one that gets its first door that its common pool serves, and the one whose common pool has
-- given its last idle thread.

-- a process is the one that is meant, where one is
abbrev pub is_this : ℕ → Option ℕ → Bool
is_this p None = false
is_this p (Some q) = q == p

-- a Create of process p with these attributes makes its first door that its common pool serves
abbrev pub makes_first_common : State → ℕ → Attrs → Bool
makes_first_common m p attrs =
    is_none (first_refusal (create_tests m p attrs)) && (not (is_private attrs) && not (has_common_door m.doors p))

-- the process of which a request of thread t makes the first such door
abbrev pub first_common_of : State → ℕ → Request → Option ℕ
first_common_of m t (request.Create entry cookie attrs) =
    if makes_first_common m (process_of m t) attrs then Some (process_of m t) else None
first_common_of m t r = None
