-- A walk over the threads of a set, in order of number.
use Rattle.std.specs.Prelude.{ℕ, ◌≡◌, ◌<◌, ◌&&◌, true, false, nat_lt}
use Rattle.proc_table.specs.declared.walk.Walk.{Walk}
use Rattle.dk_base.specs.declared.thread_set.ThreadSet.{ThreadSet}
use Rattle.dk_base.specs.Words.{has}

-- those of a set are still to come that are after the last that came
pub record Walks (set : ThreadSet) (walk : Walk) : Type 0 where
  pub rest : (u : ℕ) → has walk.rest u ≡ (nat_lt walk.done u && has set u)

-- the next thread of a set
pub record IsNext (set : ThreadSet) (t : ℕ) (before after : Walk) : Type 0 where
  pub here : has set t ≡ true
  pub later : before.done < t
  pub between : (u : ℕ) → before.done < u → u < t → has set u ≡ false
  pub done : after.done ≡ t
  pub walks : Walks set after
