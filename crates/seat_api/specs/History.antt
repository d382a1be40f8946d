-- Histories of calls by seats, and which of them are legal, as the desk has them.
pub use Rattle.seat_desk.specs.History.{AreAnswers, Follows, IsFitAct, IsLegal, IsLegalAfter, answered, by, is_allowed, is_answer, is_answered, refusal, replies, reply_of, request_of, state_after, state_by, turns}
