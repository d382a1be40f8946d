-- Exit statuses, and what is said of them on the error stream.
use Rattle.std.specs.Prelude.{ℕ, List, Option, Some, None, codes}
use Rattle.history_check.specs.declared.verdict.Verdict.{Verdict}
use Rattle.history_check.specs.declared.verdict.Verdict.TheVariants as verdict
use Rattle.doorlab.specs.declared.status.Status.{Status}
use Rattle.doorlab.specs.declared.status.Status.TheVariants.{Done, Bad, Usage, Memory, NotOpened, ReadFault, WriteFault, Illegal}

abbrev pub status_code : Status → ℕ
status_code Done = 0
status_code Bad = 2
status_code Usage = 3
status_code Memory = 5
status_code NotOpened = 6
status_code ReadFault = 6
status_code WriteFault = 7
status_code Illegal = 9

abbrev pub status_message : Status → Option (List ℕ)
status_message Memory = Some (codes "doorlab: out of memory")
status_message NotOpened = Some (codes "doorlab: the file could not be opened")
status_message ReadFault = Some (codes "doorlab: the history could not be read")
status_message WriteFault = Some (codes "doorlab: the standard output could not be written")
status_message status = None

abbrev pub status_of_verdict : Verdict → Status
status_of_verdict (verdict.Legal events) = Done
status_of_verdict (verdict.Cut line) = Bad
status_of_verdict (verdict.Bad line reason) = Bad
status_of_verdict (verdict.Illegal line want have) = Illegal
