-- What a recorder answers, in the words of histories.
use Rattle.std.specs.Prelude.{ℕ, ◌≡◌, ◌≤◌, ◌&&◌, Option, Some, None, false, not}
use Rattle.dk_base.specs.declared.limits.TheConstants.{EVENTS_MAX}
use Rattle.spec_kernel.specs.Types.{Request}
use Rattle.spec_kernel.specs.Words.{IsFit, MayTurn, State, is_runnable, is_running}
use Rattle.spec_histories.specs.Histories.{Entry}
use Rattle.kernel_handle.specs.declared.recorder.Refused.{Refused}
use Rattle.kernel_handle.specs.declared.recorder.Refused.TheVariants as why
use Rattle.kernel_handle.specs.declared.recorder.Told.{Told}

-- the entry that a turn of thread t told of
abbrev pub entry_told : ℕ → Option Request → Told → Entry
entry_told t q told =
    record {
      number = told.number;
      turn = record { thread = t; request = q };
      root = told.root.0;
      what = told.what;
      answer = told.stepped.answer;
      woken = told.stepped.woken;
    }

-- a turn of thread t in this state was refused for this; want of memory can refuse only a turn that may be taken
abbrev pub IsRefused : State → ℕ → Option Request → Refused → Type 0
IsRefused m t q why.Full = EVENTS_MAX ≤ m.events
IsRefused m t (Some r) why.NotRunning = is_running m t ≡ false
IsRefused m t None why.NotRunning = ⊥
IsRefused m t (Some r) why.NotReady = ⊥
IsRefused m t None why.NotReady = (is_runnable m t && not (is_running m t)) ≡ false
IsRefused m t (Some r) why.NotFit = ¬ IsFit m t r
IsRefused m t None why.NotFit = ⊥
IsRefused m t q why.NoMemory = MayTurn m t q
