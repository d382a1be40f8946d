-- Histories of calls by seats, and which of them are legal.
use Rattle.std.specs.Prelude.{ℕ, ◌≡◌, ◌==◌, List, [], ◌∷◌, ◌++◌, Bool, true, false, filter, length, map}
use Rattle.spec_kernel.specs.Words.{State, Turn}
use Rattle.spec_histories.specs.declared.call.SeatReply.{SeatReply}
use Rattle.spec_histories.specs.declared.call.SeatReply.TheVariants.{Answer}
pub use Rattle.spec_histories.specs.Replies.{IsFitAct, is_allowed, is_answered, refusal, reply_of, request_of, state_by}
use Rattle.seat_table.specs.Sums.{Every}
use Rattle.spec_histories.specs.declared.entry.SeatEntry.{SeatEntry}

-- the state after a history
abbrev pub state_after : State → List SeatEntry → State
state_after m [] = m
state_after m (e ∷ es) = state_after (state_by m e.thread.0 e.act) es

-- the entries of one seat
abbrev pub by : ℕ → List SeatEntry → List SeatEntry
by n es = filter (λ e. e.seat == n) es

-- the entry may come in this state, after these
pub record Follows (m : State) (before : List SeatEntry) (e : SeatEntry) : Type 0 where
  pub reply : e.reply ≡ reply_of m e.thread.0 e.act
  pub number : e.number ≡ length (by e.seat before)
  pub fit : IsFitAct m e.thread.0 e.act

-- the entries may follow these, which led to a state
abbrev pub IsLegalAfter : State → List SeatEntry → List SeatEntry → Type 0
IsLegalAfter m before [] = Unit {0}
IsLegalAfter m before (e ∷ es) = Follows m before e × IsLegalAfter (state_by m e.thread.0 e.act) (before ++ e ∷ []) es

-- each reply is the kernel's at its position, and within a seat the numbers run from 0 without a gap
abbrev pub IsLegal : State → List SeatEntry → Type 0
IsLegal opening es = IsLegalAfter opening [] es

-- histories as runs

abbrev pub is_answer : SeatReply → Bool
is_answer (Answer a) = true
is_answer _ = false

abbrev pub answered : List SeatEntry → List SeatEntry
answered es = filter (λ e. is_answer e.reply) es

-- all are answers
abbrev pub AreAnswers : List SeatEntry → Type 0
AreAnswers es = Every (λ e. is_answer e.reply ≡ true) es

abbrev pub replies : List SeatEntry → List SeatReply
replies es = map (λ e. e.reply) es

-- the turns that the calls are
abbrev pub turns : List SeatEntry → List Turn
turns es = map (λ e. record { thread = e.thread.0; request = request_of e.act }) es
