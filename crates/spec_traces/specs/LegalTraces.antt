-- Which texts are traces of legal runs, with no walk over their lines.
use Rattle.std.specs.Prelude.{ℕ, ◌≡◌, ◌≤◌, ◌⊎◌, true, List, [], ◌∷◌, ◌++◌, Option, IfSome, length}
use Rattle.script_lang.specs.Words.{ScriptValue}
use Rattle.spec_requests.specs.Words.{tail_text}
use Rattle.spec_scripts.specs.Words.{IsAllowed, is_over, run, text_of_history}

-- the text is this one, or this one without its last line feed, which is 10
abbrev pub IsTextOf : List ℕ → List ℕ → Type 0
IsTextOf whole text = (text ≡ whole) ⊎ (text ++ 10 ∷ [] ≡ whole)

-- the text is the trace of the run in which these threads take turns, to its end
pub record IsTrace (script : ScriptValue) (text turns : List ℕ) : Type 0 where
  -- each thread is runnable at its turn, and the budget is not exceeded
  pub allowed : IsAllowed script turns
  -- no thread is runnable at the end, or the budget is used up
  pub over : is_over script (run script turns) ≡ true
  -- the number of the line `tail N`, where there is one: at most the number of events
  pub tail : Option ℕ
  pub small : IfSome tail (λ n. n ≤ length turns)
  pub written : IsTextOf (text_of_history script (run script turns) ++ tail_text tail) text

-- the text is the trace of a legal run of so many events
pub record IsLegal (script : ScriptValue) (text : List ℕ) (events : ℕ) : Type 0 where
  pub turns : List ℕ
  pub is_trace : IsTrace script text turns
  pub count : length turns ≡ events
