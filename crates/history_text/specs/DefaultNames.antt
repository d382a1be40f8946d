-- What processes and threads are called before a line gives them other names.
use Rattle.std.specs.Prelude.{ℕ, ◌+◌, ◌==◌, false, List, [], ◌∷◌, None, codes, decimal, if◌then◌else◌}
use Rattle.spec_histories.specs.declared.opening.OpeningProcess.{OpeningProcess}
use Rattle.spec_histories.specs.declared.opening.OpeningThread.{OpeningThread}
use Rattle.history_text.specs.Types.{NamedProcess, NamedThread}
use Rattle.history_text.specs.Names.{Names}

-- the first is `init`, each other has its kind's letter and its number
abbrev pub default_name : ℕ → ℕ → List ℕ
default_name letter n = if n == 1 then codes "init" else letter ∷ decimal n

abbrev pub default_process : ℕ → OpeningProcess → NamedProcess
default_process n p = record { declared = default_name 112 n; given = None; limit = p.limit; parent = p.parent; mentioned = false }

abbrev pub default_thread : ℕ → OpeningThread → NamedThread
default_thread n t = record { declared = default_name 116 n; given = None; process = t.process.0; spare = t.spare }

-- where so many stand before them

abbrev pub default_processes : ℕ → List OpeningProcess → List NamedProcess
default_processes before [] = []
default_processes before (p ∷ ps) = default_process (before + 1) p ∷ default_processes (before + 1) ps

abbrev pub default_threads : ℕ → List OpeningThread → List NamedThread
default_threads before [] = []
default_threads before (t ∷ ts) = default_thread (before + 1) t ∷ default_threads (before + 1) ts

-- the names of an opening: pN and tN, but for the first process and the first thread
abbrev pub default_names : List OpeningProcess → List OpeningThread → Names
default_names ps ts = record { processes = default_processes 0 ps; threads = default_threads 0 ts; procedures = []; paths = []; texts = [] }
