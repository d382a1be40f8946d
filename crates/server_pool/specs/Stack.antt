-- Parked threads in the order in which they parked, and which of them is picked.
use Rattle.std.specs.Prelude.{◌≡◌, ℕ, ◌<◌, ◌⊎◌, List, Option, Bool, ◌==◌, not, None, filter}
use Rattle.std.specs.List.{AllByRecursion, fold}
use Rattle.dk_base.specs.declared.number.Tid.{Tid}
use Rattle.spec_records.specs.declared.pool.Parked.{Parked}
use Rattle.spec_records.specs.Words.{later_parked}
use Rattle.server_pool.specs.Ordered.{IsOrderedBy}

-- x parked at an earlier event, or at the same event with a lower number
abbrev pub ParkedBefore : Parked → Parked → Type 0
ParkedBefore x y = (x.since < y.since) ⊎ ((x.since ≡ y.since) × (x.thread.0 < y.thread.0))

-- each parked before all above it
abbrev pub IsStack : List Parked → Type 0
IsStack = IsOrderedBy ParkedBefore

-- all of them parked before x
abbrev pub AllParkedBefore : List Parked → Parked → Type 0
AllParkedBefore parked x = AllByRecursion (λ y. ParkedBefore y x) parked

-- the thread that parked last; where several did at one event, the last of them in the list
abbrev pub pick_of : List Parked → Option Parked
pick_of parked = fold later_parked None parked

abbrev pub is_thread : ℕ → Parked → Bool
is_thread t x = x.thread.0 == t

abbrev pub is_another_thread : ℕ → Parked → Bool
is_another_thread t x = not (is_thread t x)

-- without every place of a thread
abbrev pub without_thread : ℕ → List Parked → List Parked
without_thread t parked = filter (is_another_thread t) parked

abbrev pub thread_of : Parked → Tid
thread_of x = x.thread
