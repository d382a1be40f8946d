-- Histories of a kernel's turns, and which of them are legal.
use Rattle.std.specs.Prelude.{ℕ, ◌≡◌, List, [], ◌∷◌, ◌++◌, Option, map}
use Rattle.spec_kernel.specs.Types.{Answer, Request, Tid, What}
use Rattle.spec_kernel.specs.Words.{IsOpening, MayTurn, StandsFor, State, Turn, now, root, state_after, state_after_turn, step, what_of}

-- one turn, and what the kernel gave for it
pub record Entry : Type 0 where
  pub number : ℕ
  pub turn : Turn
  -- the thread's root in the state before
  pub root : ℕ
  -- the word of the request, or of the end of a wait
  pub what : What
  pub answer : Answer
  -- in order, the threads that were not runnable before and are now
  pub woken : List Tid

-- what the written kernel gives for a turn in a state
abbrev pub entry_of : State → Turn → Entry
entry_of m x =
    record {
      number = now m;
      turn = x;
      root = root m x.thread;
      what = what_of m x.thread x.request;
      answer = (step m x.thread x.request).answer;
      woken = (step m x.thread x.request).woken;
    }

abbrev pub turn_of : Entry → Turn
turn_of e = e.turn

abbrev pub turns_of : List Entry → List Turn
turns_of es = map turn_of es

-- an entry may come in this state, and is the one that the written kernel gives there
pub record Follows (m : State) (e : Entry) : Type 0 where
  pub may : MayTurn m e.turn.thread e.turn.request
  pub is : e ≡ entry_of m e.turn

-- each entry follows at its place
abbrev pub IsLegal : State → List Entry → Type 0
IsLegal m [] = Unit {0}
IsLegal m (e ∷ es) = Follows m e × IsLegal (state_after_turn m e.turn) es

-- the state in which a history begins, and its entries
pub record History : Type 0 where
  pub opening : State
  pub entries : List Entry

-- a history is legal from an opening
pub record IsHistory (h : History) : Type 0 where
  pub opens : IsOpening h.opening
  pub legal : IsLegal h.opening h.entries

abbrev pub begun : State → History
begun m = record { opening = m; entries = [] }

-- the state at the end of a history
abbrev pub end : History → State
end h = state_after h.opening (turns_of h.entries)

-- the entry that comes next, where a thread takes this turn
abbrev pub next : History → ℕ → Option Request → Entry
next h t q = entry_of (end h) (record { thread = t; request = q })

abbrev pub grown : History → Entry → History
grown h e = record h { entries = h.entries ++ e ∷ [] }

-- a kernel stands for the state at the end of a legal history
pub record IsRecord (kernel : State) (h : History) : Type 0 where
  pub history : IsHistory h
  pub stands : StandsFor kernel (end h)
