-- A set of threads: thread n + 1 is in it where bit n of its word is 1.
use Rattle.std.specs.Prelude.{ℕ, zero, suc, ◌≡◌, ◌<◌, ◌==◌, Bool, true, false, List, if◌then◌else◌}
use Rattle.std.specs.Int.{bit_at}
use Rattle.dk_base.specs.declared.limits.TheConstants.{THREADS_MAX}
use Rattle.dk_base.specs.Numbers.{numbers_where}
use Rattle.dk_base.specs.declared.thread_set.ThreadSet.{ThreadSet}

-- a thread is in a set
abbrev pub has : ThreadSet → ℕ → Bool
has set zero = false
has set (suc n) = bit_at set.word n == 1

-- the threads of a set, in order
unfoldable pub members : ThreadSet → List ℕ
members set = numbers_where (has set) THREADS_MAX

-- whether a thread is in a set once this one was put in or taken out
abbrev pub with_thread : ThreadSet → ℕ → Bool → ℕ → Bool
with_thread set t here u = if u == t then here else has set u

-- a thread of a set, and none before it is
pub record IsFirst (set : ThreadSet) (t : ℕ) : Type 0 where
  pub here : has set t ≡ true
  pub before : (u : ℕ) → u < t → has set u ≡ false
