-- The processes and threads of shapes: of each process its threads, and then its spares.
use Rattle.std.specs.Prelude.{ℕ, ◌+◌, ◌<◌, List, [], ◌∷◌, ◌++◌, Option, Some, None, Bool, true, false, replicate}
use Rattle.std.specs.Option.{option_map_or}
use Rattle.dk_base.specs.ByNumber.{at_number}
use Rattle.dk_base.specs.declared.limits.TheConstants.{THREADS_MAX}
use Rattle.spec_records.specs.Words.{pid}
use Rattle.spec_kernel.specs.Types.{Pid}
use Rattle.spec_histories.specs.declared.opening.OpeningProcess.{OpeningProcess}
use Rattle.spec_histories.specs.declared.opening.OpeningThread.{OpeningThread}
use Rattle.spec_histories.specs.Openings.{limit_of}
use Rattle.kernel_handle.specs.declared.opening.NotOpening.{NotOpening}
use Rattle.kernel_handle.specs.declared.opening.NotOpening.TheVariants as why
use Rattle.kernel_handle.specs.declared.shape.ProcessShape.{ProcessShape}

abbrev pub limit_after : List OpeningProcess → Option Pid → ℕ → ℕ
limit_after before None limit = limit
limit_after before (Some parent) limit = option_map_or limit_of (at_number before parent.0) limit

-- the limit of its parent, where that stands before it
abbrev pub limit_in : List OpeningProcess → ProcessShape → ℕ
limit_in before shape = limit_after before shape.parent shape.limit

abbrev pub process_in : List OpeningProcess → ProcessShape → OpeningProcess
process_in before shape = record { limit = limit_in before shape; parent = shape.parent }

abbrev pub processes_from : List OpeningProcess → List ProcessShape → List OpeningProcess
processes_from before [] = before
processes_from before (s ∷ ss) = processes_from (before ++ process_in before s ∷ []) ss

abbrev pub processes_of : List ProcessShape → List OpeningProcess
processes_of shapes = processes_from [] shapes

abbrev pub thread_in : ℕ → Bool → OpeningThread
thread_in p spare = record { process = pid p; spare = spare }

-- where so many processes stand before
abbrev pub threads_from : ℕ → List ProcessShape → List OpeningThread
threads_from before [] = []
threads_from before (s ∷ ss) =
    replicate s.threads (thread_in (before + 1) false) ++ replicate s.spares (thread_in (before + 1) true) ++ threads_from (before + 1) ss

abbrev pub threads_of : List ProcessShape → List OpeningThread
threads_of shapes = threads_from 0 shapes

-- so many threads were refused for this
abbrev pub AreTooMany : ℕ → NotOpening → Type 0
AreTooMany n why.ManyThreads = THREADS_MAX < n
AreTooMany n why.NoMemory = Unit {0}
AreTooMany n _ = ⊥
