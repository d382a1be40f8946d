-- The state in which a history begins, by the names that are declared before its first event.
use Rattle.std.specs.Prelude.{List, map}
use Rattle.spec_kernel.specs.Words.{State}
use Rattle.spec_histories.specs.Openings.{opening_of}
use Rattle.spec_histories.specs.declared.opening.OpeningProcess.{OpeningProcess}
use Rattle.spec_histories.specs.declared.opening.OpeningThread.{OpeningThread}
use Rattle.history_text.specs.declared.named.NamedProcess.{NamedProcess}
use Rattle.history_text.specs.declared.named.NamedThread.{NamedThread}
use Rattle.history_text.specs.Words.{Names}

abbrev pub opening_process : NamedProcess → OpeningProcess
opening_process process = record { limit = process.limit; parent = process.parent }

abbrev pub opening_thread : NamedThread → OpeningThread
opening_thread thread = record { process = record { 0 = thread.process }; spare = thread.spare }

abbrev pub opening_processes : Names → List OpeningProcess
opening_processes names = map opening_process names.processes

abbrev pub opening_threads : Names → List OpeningThread
opening_threads names = map opening_thread names.threads

-- that of a script which declares these processes, children and threads
abbrev pub opening_of_names : Names → State
opening_of_names names = opening_of (opening_processes names) (opening_threads names)
