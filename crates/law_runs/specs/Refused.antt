-- Refused: an entry answers an error exactly where the table of its refusals has a reason, the first one, and changes nothing then; it
-- is an event, and so the state after it has one event more. A Return answers an error also where it has its effects, by a thread that
-- is bound to a door that is not valid.
use Rattle.std.specs.Prelude.{ℕ, ◌≡◌, ◌+◌, ◌↔◌, List, Some, false, slice_get}
use Rattle.spec_kernel.specs.Types.{Errno, Pass, Request}
use Rattle.dk_base.specs.declared.request.Request.TheVariants as request
use Rattle.dk_base.specs.declared.answer.Answer.TheVariants as answer
use Rattle.spec_kernel.specs.Words.{State, Turn, state_at, with_event_counted}
use Rattle.law_places.specs.Places.{IsReturn, IsReturnRefusedBy, answer_at, process_at}
use Rattle.law_runs.specs.Entries.{first_reason, is_message, reasons}

-- of all requests but Call and Return; of a Call the law of causes says the same
abbrev pub FailsByTable : State → List Turn → Type 0
FailsByTable m xs =
    (i : ℕ) (x : Turn) (r : Request) (e : Errno) → slice_get xs i ≡ Some x → x.request ≡ Some r → is_message r ≡ false →
    (answer_at m xs i x ≡ answer.Failure e) ↔ (first_reason (reasons (state_at m xs i) x.thread (process_at m xs i x.thread) r) ≡ Some e)

-- an entry that answers an error, and is no Return with its effects
abbrev pub FailedChangesNothing : State → List Turn → Type 0
FailedChangesNothing m xs =
    (i : ℕ) (x : Turn) (r : Request) (e : Errno) → slice_get xs i ≡ Some x → x.request ≡ Some r → answer_at m xs i x ≡ answer.Failure e →
    ((bytes : List ℕ) (pass : List Pass) → IsReturn m xs i x bytes pass → ⊥) → state_at m xs (i + 1) ≡ with_event_counted (state_at m xs i)

-- the turn of place i answers this error, and changes nothing
abbrev pub IsRefusedWith : State → List Turn → ℕ → Turn → Errno → Type 0
IsRefusedWith m xs i x e = (answer_at m xs i x ≡ answer.Failure e) × (state_at m xs (i + 1) ≡ with_event_counted (state_at m xs i))

-- a Return does so exactly where there is a refusal of it with this error
abbrev pub ReturnsByTable : State → List Turn → Type 0
ReturnsByTable m xs =
    (i : ℕ) (x : Turn) (bytes : List ℕ) (pass : List Pass) (e : Errno) → slice_get xs i ≡ Some x →
    x.request ≡ Some (request.Return bytes pass) → IsRefusedWith m xs i x e ↔ IsReturnRefusedBy m xs i x.thread bytes pass e

pub record Refused (m : State) (xs : List Turn) : Type 0 where
  pub by_table : FailsByTable m xs
  pub changes_nothing : FailedChangesNothing m xs
  pub returns_by_table : ReturnsByTable m xs
