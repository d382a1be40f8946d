-- How many references objects have: now, and when the step began that an event is.
use Rattle.std.specs.Prelude.{ℕ, ◌==◌, ◌&&◌, Bool, List, count_by, nat_lt}
use Rattle.dk_base.specs.declared.object.Obj.{Obj}
use Rattle.dk_base.specs.declared.object.Obj.TheVariants as obj
use Rattle.unref_notice.specs.Counting.{ObjectCounts, count_of, is_pipe_end}

pub record CountsValue : Type 0 where
  pub counts : ObjectCounts
  -- when the step began
  pub opening : ObjectCounts
  -- to how many objects references came or went since
  pub touched : ℕ
  -- how often a reference may yet come or go in this step
  pub left : ℕ
  -- the doors that have fallen to one reference, as the end of a step told
  pub fallen : List ℕ

-- a door had more than one reference when the step began
abbrev pub was_shared : ObjectCounts → ℕ → Bool
was_shared opening d = nat_lt 1 (count_of opening (obj.Door d))

-- it had more than one, and has one
abbrev pub has_fallen : CountsValue → ℕ → Bool
has_fallen v d = was_shared v.opening d && (count_of v.counts (obj.Door d) == 1)

-- an object had references when the step began
abbrev pub was_referred_to : ObjectCounts → Obj → Bool
was_referred_to opening o = nat_lt 0 (count_of opening o)

-- an end of a pipe had references, and has none
abbrev pub has_gone : CountsValue → Obj → Bool
has_gone v o = is_pipe_end o && (was_referred_to v.opening o && (count_of v.counts o == 0))

-- how often a number stands in a list
abbrev pub how_many : ℕ → List ℕ → ℕ
how_many d xs = count_by (λ x. x == d) xs
