-- How a run stands at its end.
use Rattle.std.specs.Prelude.{List, [], ◌∷◌, Option, Some, None, ℕ}
use Rattle.spec_kernel.specs.Types.{Tid}
use Rattle.spec_kernel.specs.Words.{State, least_runnable, waiting_threads}
use Rattle.spec_requests.specs.declared.ending.Ending.{Ending}
use Rattle.spec_requests.specs.declared.ending.Ending.TheVariants.{Complete, Stalled, Budget}

abbrev pub ending_waiting : List Tid → Ending
ending_waiting [] = Complete
ending_waiting (t ∷ ts) = Stalled

abbrev pub ending_with : Option ℕ → List Tid → Ending
ending_with (Some t) waiting = Budget
ending_with None waiting = ending_waiting waiting

-- of the last state of a run that is over: some thread is runnable, so the budget is used up; or none is, and some or
-- none is Calling, Getting or Awaiting
abbrev pub ending_of : State → Ending
ending_of m = ending_with (least_runnable m) (waiting_threads m)
