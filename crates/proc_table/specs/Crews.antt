-- Which threads each process has.
use Rattle.std.specs.Prelude.{ℕ, ◌≡◌, ◌==◌, Bool, false, List, Option, Some, None, slice_get}
use Rattle.dk_base.specs.ByNumber.{at_number}
use Rattle.spec_records.specs.declared.record.Thread.{Thread}
use Rattle.proc_table.specs.declared.crews.Crews.{Crews}
use Rattle.dk_base.specs.declared.thread_set.ThreadSet.{ThreadSet}
use Rattle.dk_base.specs.Words.{has}

-- a thread that is there is one of process p
abbrev pub is_of : ℕ → Option Thread → Bool
is_of p None = false
is_of p (Some x) = x.process.0 == p

-- a thread is in a set, if there is one
abbrev pub has_in : Option ThreadSet → ℕ → Bool
has_in None t = false
has_in (Some set) t = has set t

-- the sets are those of the processes of these threads, and a thread's record has the number that it is found under
pub record AreCrews (crews : Crews) (threads : List Thread) : Type 0 where
  pub those : (p t : ℕ) → has_in (slice_get crews.sets p) t ≡ is_of p (at_number threads t)
  pub numbered : (t : ℕ) (x : Thread) → at_number threads t ≡ Some x → x.number ≡ t
