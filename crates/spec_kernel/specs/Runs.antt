-- Runs: lists of turns, each a thread with its request, or with none where a wait of it ends.
use Rattle.std.specs.Prelude.{ℕ, List, [], ◌∷◌, Option, take}
use Rattle.spec_kernel.specs.Types.{Answer, Request}
use Rattle.spec_kernel.specs.State.{State}
use Rattle.spec_kernel.specs.Step.{step}
use Rattle.spec_kernel.specs.Legal.{MayTurn}

pub record Turn : Type 0 where
  pub thread : ℕ
  pub request : Option Request

-- the state after a turn
abbrev pub state_after_turn : State → Turn → State
state_after_turn m x = (step m x.thread x.request).state

-- the state after a list of turns
abbrev pub state_after : State → List Turn → State
state_after m [] = m
state_after m (x ∷ xs) = state_after (state_after_turn m x) xs

-- the state after the first i turns
abbrev pub state_at : State → List Turn → ℕ → State
state_at m xs i = state_after m (take i xs)

-- the answers of a list of turns
abbrev pub answers_of : State → List Turn → List Answer
answers_of m [] = []
answers_of m (x ∷ xs) = (step m x.thread x.request).answer ∷ answers_of (state_after_turn m x) xs

-- each turn is one that its thread may take
abbrev pub IsRun : State → List Turn → Type 0
IsRun m [] = Unit {0}
IsRun m (x ∷ xs) = MayTurn m x.thread x.request × IsRun (state_after_turn m x) xs
