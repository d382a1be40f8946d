-- The script of a load: a server whose procedure closes the descriptor that it was given and returns the bytes, and one to
-- four clients that make the calls.
use Rattle.std.specs.Prelude.{ℕ, ◌+◌, ◌-◌, ◌/◌, ◌==◌, not, Bool, true, false, List, [], ◌∷◌, None, map, filter, codes}
use Rattle.line_text.specs.Types.{Attrs, PathId}
use Rattle.script_lang.specs.Types.{FdArg, Line, PassArg}
use Rattle.line_forms.specs.declared.line.FdArg.TheVariants.{Of as OfVariable}
use Rattle.line_forms.specs.declared.line.Piece.TheVariants.{Text, Of}
use Rattle.line_forms.specs.declared.line.Line.TheVariants.{Create, Attach, Serve, Close, Return, Open, Repeat, Dup, Call, End}
use Rattle.script_lang.specs.declared.script.Part.{Part}
use Rattle.script_lang.specs.declared.script.Part.TheVariants.{Process as ProcessPart, Thread as ThreadPart, Procedure as ProcedurePart}
use Rattle.script_lang.specs.declared.script.Procedure.{Procedure as ScriptProcedure}
use Rattle.script_lang.specs.declared.script.ScriptProcess.{ScriptProcess}
use Rattle.script_lang.specs.declared.script.ScriptThread.{ScriptThread}
use Rattle.script_lang.specs.Words.{ScriptValue}
use Rattle.dk_base.specs.declared.limits.TheConstants.{BUDGET_MAX, DESCRIPTORS_MAX}

-- how many of n calls client i makes, of clients 1 to 4: the first ones make those that are left over
abbrev pub load_calls : ℕ → ℕ → ℕ
load_calls n i = (n + 4 - i) / 4

-- a client, and how many calls it makes
pub record Client : Type 0 where
  pub name : List ℕ
  pub calls : ℕ

abbrev pub client : List ℕ → ℕ → Client
client name calls = record { name = name; calls = calls }

abbrev pub has_calls : Client → Bool
has_calls c = not (c.calls == 0)

-- the four clients of n calls
abbrev pub four_clients : ℕ → List Client
four_clients n =
    client (codes "k1") (load_calls n 1)
    ∷ client (codes "k2") (load_calls n 2)
    ∷ client (codes "k3") (load_calls n 3)
    ∷ client (codes "k4") (load_calls n 4)
    ∷ []

-- those of them that make a call
abbrev pub clients_of : ℕ → List Client
clients_of n = filter has_calls (four_clients n)

-- operands

-- $NAME
abbrev pub variable : List ℕ → FdArg
variable name = OfVariable name 0

-- $NAME!
abbrev pub released : List ℕ → PassArg
released name = record { fd = variable name; release = true }

abbrev pub no_attributes : Attrs
no_attributes = record { 0 = 0 }

-- `load` is the only path
abbrev pub load_path : PathId
load_path = record { 0 = 0 }

-- bodies

-- `create d echo 0`, `attach $d load`, `serve`
abbrev pub server_body : List Line
server_body =
    Create (codes "d") 0 0 no_attributes
    ∷ Attach (variable (codes "d")) load_path
    ∷ Serve
    ∷ []

-- `close $arg`, `return $arg`
abbrev pub echo_body : List Line
echo_body = Close (variable (codes "arg")) ∷ Return (Of (codes "arg") ∷ []) [] ∷ []

-- `open d load`, and so often `dup e $d` and `call r $d "k" desc $e!`
abbrev pub client_body : ℕ → List Line
client_body calls =
    Open (codes "d") load_path
    ∷ Repeat calls
    ∷ Dup (codes "e") (variable (codes "d"))
    ∷ Call (codes "r") (variable (codes "d")) (Text (codes "k") ∷ []) (released (codes "e") ∷ []) 4096
    ∷ End
    ∷ []

-- the script

abbrev pub load_process : List ℕ → ScriptProcess
load_process name = record { name = name; limit = DESCRIPTORS_MAX; parent = None }

abbrev pub load_thread : ℕ → List ℕ → List Line → ScriptThread
load_thread process name body = record { name = name; process = record { 0 = process }; spare = false; body = body }

abbrev pub client_thread : Client → ScriptThread
client_thread c = load_thread 2 c.name (client_body c.calls)

abbrev pub echo : ScriptProcedure
echo = record { name = codes "echo"; process = record { 0 = 1 }; body = echo_body }

abbrev pub client_part : Client → Part
client_part c = ThreadPart

-- the server with these clients
abbrev pub script_with_clients : List Client → ScriptValue
script_with_clients clients =
    record {
      version = 1;
      budget = BUDGET_MAX;
      processes = load_process (codes "srv") ∷ load_process (codes "cli") ∷ [];
      threads = load_thread 1 (codes "s") server_body ∷ map client_thread clients;
      procedures = echo ∷ [];
      order = ProcessPart ∷ ThreadPart ∷ ProcedurePart ∷ ProcessPart ∷ map client_part clients;
      paths = codes "load" ∷ [];
      schedule = [];
    }

-- the script of the load of n calls
unfoldable pub load_script : ℕ → ScriptValue
load_script n = script_with_clients (clients_of n)
