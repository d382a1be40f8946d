-- Exit statuses, and what is said of them on the error stream.
use Rattle.std.specs.Prelude.{ℕ, List, Option, Some, None, codes}
use Rattle.doors_top.specs.declared.status.Status.{Status}
use Rattle.doors_top.specs.declared.status.Status.TheVariants.{Complete, Stalled, Script, Usage, Budget, Memory, ReadFault, WriteFault, Turn, Illegal}
use Rattle.spec_requests.specs.declared.ending.Ending.{Ending}
use Rattle.spec_requests.specs.declared.ending.Ending.TheVariants as ending
use Rattle.spec_traces.specs.declared.verdict.Verdict.{Verdict}
use Rattle.spec_traces.specs.declared.verdict.Verdict.TheVariants.{Legal, Differs}

abbrev pub status_code : Status → ℕ
status_code Complete = 0
status_code Stalled = 1
status_code Script = 2
status_code Usage = 3
status_code Budget = 4
status_code Memory = 5
status_code ReadFault = 6
status_code WriteFault = 7
status_code Turn = 8
status_code Illegal = 9

abbrev pub status_message : Status → Option (List ℕ)
status_message Usage = Some (codes "doors: give one word, play, run, show or check, and a script as the input (check: a script, a line trace and a trace), or load and a number from 1 to 16000; read on in README.md")
status_message Memory = Some (codes "doors: out of memory")
status_message ReadFault = Some (codes "doors: the standard input could not be read")
status_message WriteFault = Some (codes "doors: the standard output could not be written")
status_message status = None

abbrev pub status_of_ending : Ending → Status
status_of_ending ending.Complete = Complete
status_of_ending ending.Stalled = Stalled
status_of_ending ending.Budget = Budget

abbrev pub status_of_verdict : Verdict → Status
status_of_verdict (Legal events) = Complete
status_of_verdict (Differs line want have) = Illegal
