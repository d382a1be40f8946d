-- Which thread of a process that begins is its first.
use Rattle.std.specs.Prelude.{ℕ, ◌+◌, Option}
use Rattle.std.specs.Option.{option_map}
use Rattle.spec_records.specs.Words.{ProcessTable, first_place}

-- the number of the least thread of a process that is no spare, if it has one
abbrev pub first_number : ProcessTable → ℕ → Option ℕ
first_number table p = option_map (λ place. place + 1) (first_place table p)
