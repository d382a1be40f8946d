-- The acts of tasks: a computation apart from the kernel, which other threads do not wait for. What an operation gives for an input
-- is said by its own words, not here. Nor is what the name service cache of a process replies to a line: the kernel knows none of it.
use Rattle.std.specs.Prelude.{ℕ, List, []}
use Rattle.spec_kernel.specs.Types.{Request}
use Rattle.dk_base.specs.declared.request.Op.{Op}
use Rattle.dk_base.specs.declared.request.Request.TheVariants as request
use Rattle.dk_base.specs.declared.answer.Answer.TheVariants as answer
use Rattle.spec_records.specs.declared.record.ThreadState.TheVariants as is
use Rattle.spec_records.specs.Words.{Test}
use Rattle.spec_kernel.specs.State.{State, with_state}
use Rattle.spec_kernel.specs.Acts.{ActResult, no_act}

-- the thread is at the task from then on; nothing is asked of it
abbrev pub start_work : State → ℕ → Op → List ℕ → ActResult
start_work m t op bytes = record { state = with_state m t (is.Working op bytes); answer = answer.Wait }

-- a task's answer has no bytes here: who runs the thread computes them from the task's input
abbrev pub end_work : State → ℕ → ActResult
end_work m t = record { state = with_state m t is.Running; answer = answer.Data [] }

-- a reply has no bytes here: who runs the process has its cache
abbrev pub reply_to_line : State → ActResult
reply_to_line m = record { state = m; answer = answer.Data [] }

-- the tests and the effect of an entry of this file

abbrev pub tests_of_tasks : State → ℕ → ℕ → Request → List Test
tests_of_tasks m t p r = []

abbrev pub effect_of_tasks : State → ℕ → ℕ → Request → ActResult
effect_of_tasks m t p (request.Work op bytes) = start_work m t op bytes
effect_of_tasks m t p (request.Ncd line) = reply_to_line m
effect_of_tasks m t p _ = no_act m
