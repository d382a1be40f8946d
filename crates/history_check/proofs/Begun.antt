-- A history that begins has had no event, and no time has passed.
use Rattle.std.proofs.Common.{◌≡◌, ℕ, ◌+◌, List, [], ◌∷◌, Option, Some, None, refl, ◌∙◌}
use Rattle.spec_kernel.specs.Types.{Pid}
use Rattle.spec_kernel.specs.Words.{State, no_process, opening, with_new_process, with_new_thread, with_processes}
use Rattle.std.specs.Prelude.{map}
use Rattle.spec_histories.specs.Openings.{limit_of, opening_of, with_children, with_parent, with_threads}
use Rattle.spec_histories.specs.declared.opening.OpeningProcess.{OpeningProcess}
use Rattle.spec_histories.specs.declared.opening.OpeningThread.{OpeningThread}

-- what no declaration changes
record SameClock (m n : State) : Type 0 where
  pub events : n.events ≡ m.events
  pub channels : n.channels ≡ m.channels

same : (m : State) → SameClock m m
same m = record { events = refl; channels = refl }

with_processes_same : (m : State) (limits : List ℕ) → SameClock m (with_processes m limits)
with_processes_same m [] = same m
with_processes_same m (limit ∷ limits) =
    let h : SameClock (with_new_process m limit) (with_processes (with_new_process m limit) limits) = with_processes_same (with_new_process m limit) limits in
    record { events = h.events; channels = h.channels }

with_parent_same : (m : State) (n : ℕ) (parent : Option Pid) → SameClock m (with_parent m n parent)
with_parent_same m n None = same m
with_parent_same m n (Some parent) = record { events = refl; channels = refl }

with_children_same : (m : State) (before : ℕ) (xs : List OpeningProcess) → SameClock m (with_children m before xs)
with_children_same m before [] = same m
with_children_same m before (x ∷ xs) =
    let first : SameClock m (with_parent m (before + 1) x.parent) = with_parent_same m (before + 1) x.parent in
    let rest : SameClock (with_parent m (before + 1) x.parent) (with_children (with_parent m (before + 1) x.parent) (before + 1) xs) =
    with_children_same (with_parent m (before + 1) x.parent) (before + 1) xs in
    record { events = rest.events ∙ first.events; channels = rest.channels ∙ first.channels }

with_threads_same : (m : State) (xs : List OpeningThread) → SameClock m (with_threads m xs)
with_threads_same m [] = same m
with_threads_same m (x ∷ xs) =
    let h : SameClock (with_new_thread m x.process.0 x.spare) (with_threads (with_new_thread m x.process.0 x.spare) xs) =
    with_threads_same (with_new_thread m x.process.0 x.spare) xs in
    record { events = h.events; channels = h.channels }

module _ (processes : List OpeningProcess) (threads : List OpeningThread) where
  limits : List ℕ
  limits = map limit_of processes

  opened : SameClock no_process (opening_of processes threads)
  unfolding limits
  opened =
      let first : SameClock no_process (opening limits) = with_processes_same no_process limits in
      let second : SameClock (opening limits) (with_children (opening limits) 0 processes) = with_children_same (opening limits) 0 processes in
      let third : SameClock (with_children (opening limits) 0 processes) (with_threads (with_children (opening limits) 0 processes) threads) =
      with_threads_same (with_children (opening limits) 0 processes) threads in
      record { events = third.events ∙ second.events ∙ first.events; channels = third.channels ∙ second.channels ∙ first.channels }

  pub no_event : (opening_of processes threads).events ≡ 0
  no_event = opened.events

  pub no_time : (opening_of processes threads).channels.timers.clock ≡ 0
  no_time = rw opened.channels refl
