-- With which processes and threads no history begins.
use Rattle.std.specs.Prelude.{ℕ, ◌≡◌, ◌<◌, ◌≤◌, List, Some, length, slice_get, take}
use Rattle.std.specs.Option.{option_map}
use Rattle.dk_base.specs.ByNumber.{at_number}
use Rattle.dk_base.specs.declared.limits.TheConstants.{DESCRIPTORS_MAX, PROCESSES_MAX, THREADS_MAX}
use Rattle.spec_kernel.specs.Types.{Pid}
use Rattle.spec_histories.specs.declared.opening.OpeningProcess.{OpeningProcess}
use Rattle.spec_histories.specs.declared.opening.OpeningThread.{OpeningThread}
use Rattle.spec_histories.specs.Openings.{limit_of}
use Rattle.kernel_handle.specs.declared.opening.NotOpening.{NotOpening}
use Rattle.kernel_handle.specs.declared.opening.NotOpening.TheVariants as why

-- a process is to have more descriptors than a process can
pub record HasWideProcess (processes : List OpeningProcess) : Type 0 where
  pub place : ℕ
  pub process : OpeningProcess
  pub there : slice_get processes place ≡ Some process
  pub wide : DESCRIPTORS_MAX < process.limit

-- a process is a child of what does not stand before it with the same limit
pub record HasWrongParent (processes : List OpeningProcess) : Type 0 where
  pub place : ℕ
  pub process : OpeningProcess
  pub parent : Pid
  pub there : slice_get processes place ≡ Some process
  pub child : process.parent ≡ Some parent
  pub wrong : ¬ (option_map limit_of (at_number (take place processes) parent.0) ≡ Some process.limit)

-- a thread is of a process that is not there
pub record HasStrayThread (processes : List OpeningProcess) (threads : List OpeningThread) : Type 0 where
  pub place : ℕ
  pub thread : OpeningThread
  pub there : slice_get threads place ≡ Some thread
  pub stray : ¬ ((1 ≤ thread.process.0) × (thread.process.0 ≤ length processes))

abbrev pub IsNoOpening : List OpeningProcess → List OpeningThread → NotOpening → Type 0
IsNoOpening processes threads why.ManyProcesses = PROCESSES_MAX < length processes
IsNoOpening processes threads why.ManyThreads = THREADS_MAX < length threads
IsNoOpening processes threads why.Limit = HasWideProcess processes
IsNoOpening processes threads why.Parent = HasWrongParent processes
IsNoOpening processes threads why.Process = HasStrayThread processes threads
IsNoOpening processes threads why.NoMemory = Unit {0}
