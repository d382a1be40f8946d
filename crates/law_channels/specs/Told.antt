-- What an act leaves to tell ports, where all was told before it.
use Rattle.std.specs.Prelude.{ℕ, ◌≡◌, List, Option, true, All}
use Rattle.std.specs.List.{list_any}
use Rattle.spec_kernel.specs.Types.{Obj, Request}
use Rattle.spec_records.specs.Words.{has_lost_its_row, is_to_fire, watches}
use Rattle.spec_kernel.specs.Words.{State, associations_in, end_lost, end_timers, ready_at, with_channels}
use Rattle.law_channels.specs.Closed.{closed_rows, closes}
use Rattle.law_channels.specs.Changed.{ListsGone, OnlyLiveHaveRows, Stands, changed_objects, is_changed}
use Rattle.law_channels.specs.Ended.{closing, empty_rows, ended_by, timers_ended}

pub record LeavesToTell (m : State) (t : ℕ) (q : Option Request) (n : State) : Type 0 where
  -- an association stood before the act, or is made by it
  pub stand : All (Stands m t q) (associations_in n)
  -- it has lost its row exactly where the act closed that; so one that is made has not
  pub lost : All (λ a. has_lost_its_row n.tables a ≡ closes m t q a.key.process.0 a.key.fd) (associations_in n)
  -- so those of the closed rows end, and no other; the closed rows are told by the refusal, or by what rows name after the act
  pub ended : end_lost n ≡ with_channels n (ended_by n.channels (closing m t q))
  pub ended_empty : end_lost n ≡ with_channels n (ended_by n.channels (empty_rows n (closed_rows m t q)))
  -- the timers end whose process ended, and no other, where only processes that live had rows
  pub timers : OnlyLiveHaveRows m → end_timers (end_lost n) ≡ with_channels n (timers_ended (end_lost n).channels (closed_rows m t q))
  -- one that is to fire watches what has changed
  pub fires : All (λ a. is_to_fire (ready_at n) a ≡ true → is_changed m t q n a.object ≡ true) (associations_in n)
  -- so, of those that have not ended, it watches one of these objects
  pub watch :
      (gone : List Obj) → ListsGone m n gone →
      All (λ a. is_to_fire (ready_at (end_lost n)) a ≡ true → list_any (λ o. watches o a) (changed_objects m t q gone) ≡ true) (associations_in (end_lost n))
