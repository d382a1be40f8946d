-- What the name service caches of processes reply. Each process has one of its own. A reply goes by the lines that the threads of the
-- process asked it before, so the bytes of a reply are no part of what the kernel answers: a run has them.
use Rattle.std.specs.Prelude.{ℕ, ◌==◌, Bool, List, [], ◌∷◌, ◌++◌, Option, Some, None, filter, map}
use Rattle.spec_kernel.specs.Types.{Event, Request}
use Rattle.dk_base.specs.declared.request.Request.TheVariants.{Ncd}
use Rattle.spec_kernel.specs.Words.{State, Turn, process_of, state_after_turn}
use Rattle.ncd_app.specs.Words.{reply}
use Rattle.spec_events.specs.Events.{event_of, with_output}

-- a line that a process asked
pub record AskedLine : Type 0 where
  pub process : ℕ
  pub line : List ℕ

abbrev pub is_asked_by : ℕ → AskedLine → Bool
is_asked_by p x = x.process == p

abbrev pub line_asked : AskedLine → List ℕ
line_asked x = x.line

-- the lines that a process asked, in order
abbrev pub lines_of_process : ℕ → List AskedLine → List (List ℕ)
lines_of_process p asked = map line_asked (filter (is_asked_by p) asked)

-- the line that a request asks, if it asks one
abbrev pub line_in : Option Request → Option (List ℕ)
line_in (Some (Ncd line)) = Some line
line_in r = None

-- the lines with that of a request of process p
abbrev pub asked_with : List AskedLine → ℕ → Option (List ℕ) → List AskedLine
asked_with asked p None = asked
asked_with asked p (Some line) = asked ++ record { process = p; line = line } ∷ []

-- what is replied to a line of process p after these lines
unfoldable pub cache_reply : List AskedLine → ℕ → List ℕ → List ℕ
cache_reply asked p line = reply (lines_of_process p asked) line

abbrev pub reply_after : List AskedLine → ℕ → Option (List ℕ) → Option (List ℕ)
reply_after asked p None = None
reply_after asked p (Some line) = Some (cache_reply asked p line)

-- an event that shows the bytes of a reply, where there is one
abbrev pub with_reply : Option (List ℕ) → Event → Event
with_reply output e = record e { answer = with_output output e.answer }

-- the events of a list of turns with the bytes of replies, where these lines were asked before
abbrev pub events_with_replies : State → List AskedLine → List Turn → List Event
events_with_replies m asked [] = []
events_with_replies m asked (x ∷ xs) =
    with_reply (reply_after asked (process_of m x.thread) (line_in x.request)) (event_of m x.thread x.request)
    ∷ events_with_replies (state_after_turn m x) (asked_with asked (process_of m x.thread) (line_in x.request)) xs
