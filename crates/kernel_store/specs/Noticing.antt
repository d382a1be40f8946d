-- The room for items that each pool keeps for notices, whether or not it has any, and which pools may have less.
use Rattle.std.specs.Prelude.{◌≡◌, ◌+◌, ◌≤◌, ℕ, Bool, List, false, is_some, true}
use Rattle.std.specs.List.{list_any}
use Rattle.spec_records.specs.declared.pool.Pool.TheVariants.{Common, Private}
use Rattle.spec_records.specs.Words.{is_pool}
use Rattle.spec_kernel.specs.Types.{Pool}
use Rattle.server_pool.specs.Words.{PoolsValue, item_room_in, pool_at}
use Rattle.unref_notice.specs.declared.counts.TheConstants.{STEP_MAX}

-- a notice of each door that can fall in one event, and one more item: a private pool serves one door alone
abbrev pub items_for : Pool → ℕ
items_for (Common p) = STEP_MAX + 1
items_for (Private d) = 2

-- a pool has so much room, if it is there
abbrev pub HasItemRoom : PoolsValue → Pool → Type 0
HasItemRoom pools pool = is_some (pool_at pools pool) ≡ true → items_for pool ≤ item_room_in pools pool

abbrev pub is_listed : Pool → List Pool → Bool
is_listed pool pools = list_any (λ other. is_pool other pool) pools

-- all pools have it but those that are listed as short of it
abbrev pub HaveItemRoomBut : List Pool → PoolsValue → Type 0
HaveItemRoomBut short pools = (pool : Pool) → is_listed pool short ≡ false → HasItemRoom pools pool
