-- What the walk finds at a line.
use Rattle.std.specs.Prelude.{ℕ, ◌≡◌, List, ◌∷◌, Option, Some, None}
use Rattle.sys_run.specs.Words.{SysValue, history}
use Rattle.spec_traces.specs.declared.verdict.Verdict.{Verdict}
use Rattle.spec_traces.specs.Words.{verdict_from}

-- the line is that of the next event, which was made; or the verdict is found, whatever lines follow
abbrev pub ChecksLine : SysValue → SysValue → List ℕ → Option Verdict → Type 0
ChecksLine old new have None =
    (new.script ≡ old.script)
    × ((lines : List (List ℕ)) → verdict_from old.script (history old) (have ∷ lines) ≡ verdict_from old.script (history new) lines)
ChecksLine old new have (Some found) = (lines : List (List ℕ)) → verdict_from old.script (history old) (have ∷ lines) ≡ found
