use Rattle.std.proofs.Common.{ap, subst, sym, ◌∙◌}
use Rattle.spec_kernel.specs.Words.{StandsFor, step}
use Rattle.spec_histories.specs.declared.call.SeatReply.TheVariants.{Answer}
use Rattle.seat_desk.proofs.Answered.{answered_reply, answered_state}
use Rattle.seat_desk.proofs.replies.reply.Goals as goal

pub returns-in_ok-answer-clause-kept : goal.returns-in_ok-answer-clause-kept
returns-in_ok-answer-clause-kept g c =
    λ m h.
    answered_reply m c.args.thread.0 c.args.act c.in_ok-answer.field-0.answer
    (sym (c.is_answered.ensures.stands m h) ∙ c.if-is_answered.true)
    ((c.in_ok-answer.ensures.step m h).answer ∙ ap (λ q. (step m c.args.thread.0 q).answer) c.into_request.ensures)

pub returns-in_ok-answer-clause-state : goal.returns-in_ok-answer-clause-state
returns-in_ok-answer-clause-state g c =
    λ m h.
    answered_state (g.K.Answers.keeps c.turn.new.self) m c.args.thread.0 c.args.act
    (sym (c.is_answered.ensures.stands m h) ∙ c.if-is_answered.true)
    (subst (λ q. StandsFor (g.K.Answers.keeps c.turn.new.self) (step m c.args.thread.0 q).state) c.into_request.ensures
    (c.in_ok-answer.ensures.step m h).state)

pub returns-in_ok-answer-clause-told : goal.returns-in_ok-answer-clause-told
returns-in_ok-answer-clause-told g c = ap Answer c.fill.ensures
