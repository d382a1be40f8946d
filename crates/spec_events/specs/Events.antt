-- The events of a run: one a turn, with the answer of the step. Where a thread's task ends, the event has the bytes that the task made,
-- which the kernel does not know.
use Rattle.std.specs.Prelude.{ℕ, ◌+◌, List, [], ◌∷◌, Option, Some, None}
use Rattle.spec_kernel.specs.Types.{Answer, Event, Request, ThreadState}
use Rattle.dk_base.specs.declared.answer.Answer.TheVariants.{Data}
use Rattle.spec_records.specs.declared.record.ThreadState.TheVariants as is
use Rattle.spec_records.specs.Words.{tid}
use Rattle.work_ops.specs.Words.{output_of}
use Rattle.spec_kernel.specs.Words.{State, Turn, root, state_after_turn, state_of, step, what_of}

-- what a task computes, where a thread is at one
abbrev pub output_at : ThreadState → Option (List ℕ)
output_at (is.Working op input) = Some (output_of op input)
output_at _ = None

abbrev pub with_output : Option (List ℕ) → Answer → Answer
with_output None a = a
with_output (Some bytes) a = Data bytes

-- the answer that a turn's event shows: that of the step, with the bytes of a task
abbrev pub shown_answer : State → ℕ → Answer → Answer
shown_answer m t a = with_output (output_at (state_of m t)) a

-- the event of a turn, with the thread's root in the state before
abbrev pub event_of : State → ℕ → Option Request → Event
event_of m t r =
    record {
      number = m.events + 1;
      thread = tid t;
      root = tid (root m t);
      what = what_of m t r;
      answer = shown_answer m t (step m t r).answer;
    }

-- the events of a list of turns
abbrev pub events_of : State → List Turn → List Event
events_of m [] = []
events_of m (x ∷ xs) = event_of m x.thread x.request ∷ events_of (state_after_turn m x) xs
