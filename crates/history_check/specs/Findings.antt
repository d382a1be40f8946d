-- What the code finds at a line is what the definition finds there.
use Rattle.std.specs.Prelude.{◌≡◌, Bool, true, false, List, ℕ, Option, Some, None, Result, Ok, IsErr}
use Rattle.dk_base.specs.declared.error.NoMemory.{NoMemory}
use Rattle.line_reader.specs.declared.fault.Fault.{Fault}
use Rattle.line_reader.specs.declared.fault.Fault.TheVariants as fault
use Rattle.spec_histories.specs.Histories.{History, begun}
use Rattle.history_text.specs.declared.place.Stage.{Stage}
use Rattle.history_text.specs.Words.{Names}
use Rattle.history_check.specs.declared.finding.Finding.{Finding}
use Rattle.history_check.specs.declared.finding.Finding.TheVariants.{GoesOn, Bad, Illegal}
use Rattle.history_check.specs.Judging.{Found}
use Rattle.history_check.specs.Openings.{opening_of_names}
use Rattle.history_check.specs.Places.{Reached}

-- where the text goes on, the code has come to this
abbrev pub Finds : Found → Reached → Finding → Type 0
Finds found now GoesOn = found ≡ Found.GoesOn now
Finds found now (Bad reason) = found ≡ Found.IsBad reason
Finds found now (Illegal want) = found ≡ Found.IsIllegal want

-- whether the wanted line stands there
abbrev pub finding_of : Bool → List ℕ → Finding
finding_of true want = GoesOn
finding_of false want = Illegal want

abbrev pub reached : Names → Stage → History → Reached
reached names stage history = record { names = names; stage = stage; history = history }

-- the history of a kernel; while there is none, that which begins with the names
abbrev pub history_of : {K : Type 0} → (K → History) → Names → Option K → History
history_of history names None = begun (opening_of_names names)
history_of history names (Some kernel) = history kernel

-- where a line was not read, it is bad for the reader's reason, or memory lacked
abbrev pub IsFoundBy : Fault → Result Finding NoMemory → Type 0
IsFoundBy (fault.Bad reason) found = found ≡ Ok (Bad reason)
IsFoundBy fault.Memory found = IsErr found
