-- The moments of a timer, and which of them an advance of the clock reaches.
use Rattle.std.specs.Prelude.{ℕ, zero, suc, ◌+◌, ◌==◌, List, [], ◌∷◌, Option, None, Some, if◌then◌else◌, filter, length, nat_le, nat_lt}
use Rattle.spec_records.specs.declared.timer.Arming.{Arming}

-- the moments from m on, each `interval` after the one before, that are not above `until`: n at most, and one where the interval is 0
abbrev pub moments_from : ℕ → ℕ → ℕ → ℕ → List ℕ
moments_from zero m interval until = []
moments_from (suc n) m interval until =
    if nat_le m until
    then m ∷ (if interval == 0 then [] else moments_from n (m + interval) interval until)
    else []

-- the moments of an arming that are not above `until`: the first is `first` after the clock of the arming. Fewer than `until + 2` are
-- not above it.
unfoldable pub moments_until : ℕ → Arming → List ℕ
moments_until until a = moments_from (suc until) (a.clock + a.first) a.interval until

-- those of them that come after another clock
abbrev pub due_moments : ℕ → ℕ → Arming → List ℕ
due_moments after until a = filter (λ m. nat_lt after m) (moments_until until a)

-- how many they are; a timer that isn't armed has none
abbrev pub due_count : ℕ → ℕ → Option Arming → ℕ
due_count after until None = 0
due_count after until (Some a) = length (due_moments after until a)
