-- The scripts of an echo door and a client as values.
use Rattle.std.proofs.Common.{ℕ, List, [], ◌∷◌, None, false}
use Rattle.std.specs.Prelude.{codes}
use Rattle.spec_kernel.specs.Types.{Tid}
use Rattle.line_forms.specs.declared.line.FdArg.TheVariants.{Of as OfFd}
use Rattle.script_lang.specs.Types.{Line}
use Rattle.line_forms.specs.declared.line.Line.TheVariants as line
use Rattle.line_forms.specs.declared.line.Piece.TheVariants as piece
use Rattle.script_lang.specs.declared.script.Part.TheVariants as part
use Rattle.script_lang.specs.Words.{ScriptValue}

abbrev pub server_body : List Line
server_body =
    line.Create (codes "d") 0 7 (record { 0 = 0 })
    ∷ line.Attach (OfFd (codes "d") 0) (record { 0 = 0 })
    ∷ line.Serve
    ∷ []

abbrev pub client_body : ℕ → List Line
client_body room =
    line.Await (record { 0 = 0 })
    ∷ line.Open (codes "d") (record { 0 = 0 })
    ∷ line.Call (codes "r") (OfFd (codes "d") 0) (piece.Text (codes "hi") ∷ []) [] room
    ∷ []

-- with this budget, path, room for results, and schedule
abbrev pub echo_with : ℕ → List ℕ → ℕ → List Tid → ScriptValue
echo_with budget path room schedule =
    record {
      version = 1;
      budget = budget;
      processes = record { name = codes "srv"; limit = 256; parent = None } ∷ record { name = codes "cli"; limit = 256; parent = None } ∷ [];
      threads =
          record { name = codes "s"; process = record { 0 = 1 }; spare = false; body = server_body }
          ∷ record { name = codes "c"; process = record { 0 = 2 }; spare = false; body = client_body room } ∷ [];
      procedures =
          record { name = codes "echo"; process = record { 0 = 1 }; body = line.Return (piece.Of (codes "arg") ∷ []) [] ∷ [] }
          ∷ [];
      order = part.Process ∷ part.Thread ∷ part.Procedure ∷ part.Process ∷ part.Thread ∷ [];
      paths = path ∷ [];
      schedule = schedule;
    }
