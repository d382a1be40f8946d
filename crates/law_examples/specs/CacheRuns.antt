-- A run in which two processes ask lines of their name tables, with what its events show.
use Rattle.std.specs.Prelude.{List, [], ◌∷◌, codes, false}
use Rattle.dk_base.specs.declared.request.Request.TheVariants as request
use Rattle.dk_base.specs.declared.answer.Answer.TheVariants as answer
use Rattle.spec_kernel.specs.Types.{Answer}
use Rattle.spec_kernel.specs.Words.{State, Turn, opening, with_new_thread}
use Rattle.law_examples.specs.ForkRuns.{asks}

-- a thread each
abbrev pub cache_start : State
cache_start = with_new_thread (with_new_thread (opening (4 ∷ 4 ∷ [])) 1 false) 2 false

abbrev pub cache_turns : List Turn
cache_turns =
    asks 1 (request.Ncd (codes "set a b"))
    ∷ asks 2 (request.Ncd (codes "get a"))
    ∷ asks 1 (request.Ncd (codes "alias c a"))
    ∷ asks 1 (request.Ncd (codes "get c"))
    ∷ asks 1 (request.Ncd (codes "get c"))
    ∷ asks 1 (request.Ncd (codes "who b"))
    ∷ asks 1 (request.Ncd (codes "get  c"))
    ∷ asks 1 (request.Ncd (codes "stat"))
    ∷ asks 2 (request.Ncd (codes "stat"))
    ∷ asks 1 request.Exit
    ∷ asks 2 request.Exit
    ∷ []

abbrev pub cache_answers : List Answer
cache_answers =
    answer.Data (codes "ok")
    ∷ answer.Data (codes "none")
    ∷ answer.Data (codes "ok")
    ∷ answer.Data (codes "value b")
    ∷ answer.Data (codes "value b")
    ∷ answer.Data (codes "keys a")
    ∷ answer.Data (codes "bad")
    ∷ answer.Data (codes "hits 1 misses 2")
    ∷ answer.Data (codes "hits 0 misses 1")
    ∷ answer.Done
    ∷ answer.Done
    ∷ []
