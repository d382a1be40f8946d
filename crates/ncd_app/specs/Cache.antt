-- Lines with their answers, the last used first.
use Rattle.std.specs.Prelude.{◌≡◌, ℕ, List, [], Option, bytes_eq, take}
use Rattle.std.specs.List.{AllByRecursion}
use Rattle.std.specs.Map.{keys_of, lookup}
use Rattle.ncd_app.specs.Commands.{command_of}
use Rattle.ncd_app.specs.Definition.{Exchange, answer, asked, changes, different}
use Rattle.ncd_app.specs.declared.line.Change.{Change}
use Rattle.ncd_app.specs.declared.line.Command.TheVariants as command
use Rattle.ncd_app.specs.declared.line.Command.{Command}

abbrev pub answer_in : List (List ℕ × List ℕ) → List ℕ → Option (List ℕ)
answer_in es line = lookup (bytes_eq line) es

abbrev pub answer_by : List Change → Command → List ℕ
answer_by cs (command.Ask q) = answer cs q
answer_by cs (command.Change c) = []
answer_by cs command.Statistics = []
answer_by cs command.Bad = []

-- the answer to a line that asks
abbrev pub answered : List Change → List ℕ → List ℕ
answered cs line = answer_by cs (command_of line)

-- the 64 different lines that asked last, with their answers
pub record HoldsAnswers (es : List (List ℕ × List ℕ)) (past : List Exchange) : Type 0 where
  pub lines : keys_of es ≡ take 64 (different (asked past))
  pub answers : AllByRecursion (λ e. e.1 ≡ answered (changes past) e.0) es
