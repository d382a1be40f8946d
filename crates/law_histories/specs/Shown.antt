-- What an entry shows of its event.
use Rattle.std.specs.Prelude.{ℕ, ◌≡◌, List, [], ◌∷◌, Option, Some, None, Bool, true, false}
use Rattle.dk_base.specs.declared.request.Request.TheVariants as request
use Rattle.spec_kernel.specs.Types.{Answer, Event, Request, What}
use Rattle.spec_kernel.specs.Words.{Turn}
use Rattle.spec_histories.specs.Histories.{Entry}

abbrev pub is_task : Option Request → Bool
is_task (Some (request.Work op bytes)) = true
is_task _ = false

-- no turn begins a task
abbrev pub HasNoTask : List Turn → Type 0
HasNoTask [] = Unit {0}
HasNoTask (x ∷ xs) = (is_task x.request ≡ false) × HasNoTask xs

-- all that an event has
pub record Shown : Type 0 where
  pub number : ℕ
  pub thread : ℕ
  pub root : ℕ
  pub what : What
  pub answer : Answer

abbrev pub event_told : Entry → Shown
event_told e = record { number = e.number; thread = e.turn.thread; root = e.root; what = e.what; answer = e.answer }

abbrev pub event_shown : Event → Shown
event_shown e = record { number = e.number; thread = e.thread.0; root = e.root.0; what = e.what; answer = e.answer }
