-- A run with tasks, one of which is interrupted, and one of which ends with its process.
use Rattle.std.specs.Prelude.{ℕ, List, [], ◌∷◌, false, None, Some}
use Rattle.dk_base.specs.declared.request.Op.TheVariants as op
use Rattle.dk_base.specs.declared.request.Request.TheVariants as request
use Rattle.dk_base.specs.declared.answer.Answer.TheVariants as answer
use Rattle.spec_kernel.specs.Types.{Answer}
use Rattle.spec_kernel.specs.Words.{State, Turn, opening, with_new_thread}

abbrev pub tasks_start : State
tasks_start = with_new_thread (with_new_thread (opening (256 ∷ 256 ∷ [])) 1 false) 2 false

-- abc, and azz
abbrev pub first_input : List ℕ
first_input = 97 ∷ 98 ∷ 99 ∷ []

abbrev pub second_input : List ℕ
second_input = 97 ∷ 122 ∷ 122 ∷ []

abbrev pub tasks_turns : List Turn
tasks_turns =
    record { thread = 1; request = Some (request.Work op.Reverse first_input) }
    ∷ record { thread = 2; request = Some (request.Interrupt (record { 0 = 1 })) }
    ∷ record { thread = 1; request = None }
    ∷ record { thread = 1; request = Some (request.Work op.Upper second_input) }
    ∷ record { thread = 2; request = Some (request.Kill (record { 0 = 1 })) }
    ∷ record { thread = 2; request = Some request.Exit }
    ∷ []

-- cba is what the first task tells
abbrev pub tasks_answers : List Answer
tasks_answers =
    answer.Wait
    ∷ answer.Done
    ∷ answer.Data (99 ∷ 98 ∷ 97 ∷ [])
    ∷ answer.Wait
    ∷ answer.Done
    ∷ answer.Done
    ∷ []
