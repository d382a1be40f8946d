-- A text that spells the script of a load.
use Rattle.std.specs.Prelude.{ℕ, ◌==◌, if◌then◌else◌, List, [], ◌∷◌, ◌++◌, codes, decimal}
use Rattle.line_text.specs.Words.{joined_words, text_of_lines}
use Rattle.load_gen.specs.Loads.{load_calls}

-- the lines of the server's process, and the first of the clients' process
abbrev pub first_lines : List (List ℕ)
first_lines =
    codes "doors script 1"
    ∷ codes "budget 100000"
    ∷ codes "process srv"
    ∷ codes "thread s"
    ∷ codes "create d echo 0"
    ∷ codes "attach $d load"
    ∷ codes "serve"
    ∷ codes "end"
    ∷ codes "proc echo"
    ∷ codes "close $arg"
    ∷ codes "return $arg"
    ∷ codes "end"
    ∷ codes "process cli"
    ∷ []

-- the lines of a client
abbrev pub client_lines : List ℕ → ℕ → List (List ℕ)
client_lines name calls =
    joined_words (codes "thread" ∷ name ∷ [])
    ∷ codes "open d load"
    ∷ joined_words (codes "repeat" ∷ decimal calls ∷ [])
    ∷ codes "dup e $d"
    ∷ codes "call r $d \"k\" desc $e!"
    ∷ codes "end"
    ∷ codes "end"
    ∷ []

-- a client that makes no call has none
abbrev pub client_text : List ℕ → ℕ → List ℕ
client_text name calls = if calls == 0 then [] else text_of_lines (client_lines name calls)

unfoldable pub load_text : ℕ → List ℕ
load_text n =
    text_of_lines first_lines
    ++ (client_text (codes "k1") (load_calls n 1)
    ++ (client_text (codes "k2") (load_calls n 2)
    ++ (client_text (codes "k3") (load_calls n 3)
    ++ client_text (codes "k4") (load_calls n 4))))
