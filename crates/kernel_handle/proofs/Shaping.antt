-- How many processes and threads shapes have.
use Rattle.std.proofs.Common.{◌≡◌, ◌≤◌, ℕ, ◌+◌, List, [], ◌∷◌, ◌++◌, length, arith, length-append}
use Rattle.spec_histories.specs.declared.opening.OpeningProcess.{OpeningProcess}
use Rattle.spec_histories.specs.declared.opening.OpeningThread.{OpeningThread}
use Rattle.kernel_handle.specs.declared.opening.NotOpening.{NotOpening}
use Rattle.kernel_handle.specs.declared.opening.NotOpening.TheVariants as why
use Rattle.kernel_handle.specs.declared.shape.ProcessShape.{ProcessShape}
use Rattle.kernel_handle.specs.Openings.{IsNoOpening}
use Rattle.kernel_handle.specs.Shapes.{AreTooMany, process_in, processes_from, processes_of}

length-processes_from : (before : List OpeningProcess) (shapes : List ProcessShape) → length (processes_from before shapes) ≡ length before + length shapes
length-processes_from before [] = omega arith
length-processes_from before (s ∷ ss) =
    omega (arith, length-processes_from (before ++ process_in before s ∷ []) ss, length-append before (process_in before s ∷ []))

pub length-processes_of : (shapes : List ProcessShape) → length (processes_of shapes) ≡ length shapes
length-processes_of shapes = omega (arith, length-processes_from [] shapes)

pub more-too_many : (a b : ℕ) (why : NotOpening) → a ≤ b → AreTooMany a why → AreTooMany b why
more-too_many a b why.ManyThreads less many = omega arith
more-too_many a b why.NoMemory less many = tt
more-too_many a b why.ManyProcesses less many = many
more-too_many a b why.Limit less many = many
more-too_many a b why.Parent less many = many
more-too_many a b why.Process less many = many

pub no_opening-too_many : (processes : List OpeningProcess) (threads : List OpeningThread) (why : NotOpening) → AreTooMany (length threads) why → IsNoOpening processes threads why
no_opening-too_many processes threads why.ManyThreads many = many
no_opening-too_many processes threads why.NoMemory many = tt
no_opening-too_many processes threads why.ManyProcesses many = absurd many
no_opening-too_many processes threads why.Limit many = absurd many
no_opening-too_many processes threads why.Parent many = absurd many
no_opening-too_many processes threads why.Process many = absurd many
