-- Where the kernel answers, the reply and the state are those of the step.
use Rattle.std.proofs.Common.{◌≡◌, ℕ, true, if◌then◌else◌, ap, sym, subst, ◌∙◌}
use Rattle.spec_kernel.specs.Types.{Answer as AnswerValue}
use Rattle.spec_kernel.specs.Words.{StandsFor, State, step}
use Rattle.spec_histories.specs.declared.call.SeatAct.{SeatAct}
use Rattle.spec_histories.specs.declared.call.SeatReply.TheVariants.{Answer}
use Rattle.spec_histories.specs.Replies.{is_answered, refusal, reply_of, request_of, state_by}

pub answered_reply :
    (m : State) (t : ℕ) (a : SeatAct) (answer : AnswerValue) → is_answered m t a ≡ true → answer ≡ (step m t (request_of a)).answer →
    Answer answer ≡ reply_of m t a
answered_reply m t a answer can is =
    ap Answer is ∙ ap (λ c. if c then Answer (step m t (request_of a)).answer else refusal m t a) (sym can)

pub answered_state :
    (kernel m : State) (t : ℕ) (a : SeatAct) → is_answered m t a ≡ true → StandsFor kernel (step m t (request_of a)).state →
    StandsFor kernel (state_by m t a)
answered_state kernel m t a can =
    subst (λ b. StandsFor kernel (if b then (step m t (request_of a)).state else m)) (sym can)
