-- What `play` makes of a script: a whole run, or the turns before the one that is refused.
use Rattle.std.specs.Prelude.{ℕ, ◌≡◌, ◌≤◌, ◌-◌, List, [], ◌∷◌, Some, true, false, length, take, drop, slice_get}
use Rattle.spec_kernel.specs.Words.{is_runnable, least_runnable}
use Rattle.script_lang.specs.Words.{ScriptValue}
use Rattle.spec_scripts.specs.ScriptRuns.{History, history_after, run, IsAllowed, Refusal, scheduled_turns, turns_before, is_over}

-- each of these turns is that of the least runnable thread
abbrev pub AreLeastFrom : ScriptValue → History → List ℕ → Type 0
AreLeastFrom script h [] = Unit {0}
AreLeastFrom script h (t ∷ ts) = (least_runnable h.state ≡ Some t) × AreLeastFrom script (history_after script h t) ts

-- the turns of `play`, of which none is refused
pub record IsWholePlay (script : ScriptValue) (ts : List ℕ) : Type 0 where
  -- each thread is runnable at its turn, and the budget is not exceeded
  pub allowed : IsAllowed script ts
  -- no turn is left out: no thread is runnable then, or the budget is used up
  pub over : is_over script (run script ts) ≡ true
  -- the schedule's turns come first, as far as the budget reaches
  pub first : take (length (scheduled_turns script)) ts ≡ scheduled_turns script
  -- whoever is least comes then
  pub then : AreLeastFrom script (run script (scheduled_turns script)) (drop (length (scheduled_turns script)) ts)

-- the turn of the schedule that `play` refuses
pub record IsRefusedPlay (script : ScriptValue) (refused : Refusal) : Type 0 where
  -- the turns before it are taken
  pub allowed : IsAllowed script (turns_before script refused)
  -- it is one of the schedule's, counted from 1
  pub thread : slice_get (scheduled_turns script) (refused.turn - 1) ≡ Some refused.thread
  pub first : 1 ≤ refused.turn
  -- the budget reaches it
  pub within : refused.turn ≤ script.budget
  -- its thread cannot take it
  pub stuck : is_runnable (run script (turns_before script refused)).state refused.thread ≡ false
