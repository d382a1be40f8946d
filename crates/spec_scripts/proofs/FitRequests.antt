-- What a frame's request needs, by the line that it is at.
use Rattle.std.proofs.Common.{◌≡◌, ℕ, ◌≤◌, List, [], ◌∷◌, Some, Bool, true, false, length}
use Rattle.std.proofs.lemmas.List.Elements.{All-head}
use Rattle.dk_base.specs.ByNumber.{at_number}
use Rattle.dk_base.specs.declared.limits.TheConstants.{CLOCK_MAX}
use Rattle.spec_kernel.specs.Types.{Pid}
use Rattle.spec_kernel.specs.Words.{IsFit, State, parent_of, process_of}
use Rattle.script_lang.specs.Types.{Line}
use Rattle.line_forms.specs.declared.line.Line.TheVariants as line
use Rattle.spec_requests.specs.Types.{ScriptProcess}
use Rattle.script_lang.specs.Words.{ScriptValue}
use Rattle.spec_requests.specs.Words.{BodyStep, Frame, IsFitLine, Variables, request_ahead, request_at, request_at_end, request_of}
use Rattle.spec_requests.specs.Steps.BodyStep.{Do, When}
use Rattle.spec_requests.proofs.SoundFrames.{IsStep, AreSteps, IsFrame}

-- a state has the script's processes and threads, and each child its parent
pub record HasThreads (script : ScriptValue) (m : State) : Type 0 where
  pub threads : length m.process_table.threads ≡ length script.threads
  pub processes : length m.process_table.processes ≡ length script.processes
  pub parents :
      (child : ℕ) (x : ScriptProcess) (parent : Pid) → at_number script.processes child ≡ Some x → x.parent ≡ Some parent →
      parent_of m child ≡ Some parent

-- what a line names is there, in a body of the thread's process

-- a clock from which it moves on
abbrev pub IsEarly : State → Type 0
IsEarly m = m.channels.timers.clock ≤ CLOCK_MAX

fit_at :
    (script : ScriptValue) (m : State) (t : ℕ) (variables : Variables) (x : Line) → HasThreads script m → IsEarly m →
    IsFitLine script (process_of m t) x → IsFit m t (request_at variables x)
fit_at script m t variables (line.Interrupt thread) has early fit = rw has.threads fit
fit_at script m t variables (line.Kill process) has early fit = rw has.processes fit
fit_at script m t variables (line.Fork child) has early fit = has.parents child.0 fit.process _ fit.there fit.of
fit_at script m t variables (line.Read var fd most) has early fit = fit
fit_at script m t variables (line.GetN port most least wait) has early fit = fit
fit_at script m t variables (line.TimerSet timer first interval) has early fit = fit
fit_at script m t variables (line.Advance by) has early fit = (fit.0, fit.1, early)
fit_at script m t variables x has early fit = tt

fit_at_end : (m : State) (t : ℕ) (procedure : Bool) → IsFit m t (request_at_end procedure)
fit_at_end m t true = tt
fit_at_end m t false = tt

fit_ahead :
    (script : ScriptValue) (m : State) (t : ℕ) (f : Frame) (steps : List BodyStep) → HasThreads script m → IsEarly m →
    AreSteps (IsFitLine script (process_of m t)) steps → IsFit m t (request_ahead f steps)
fit_ahead script m t f [] has early all = fit_at_end m t f.procedure
fit_ahead script m t f (When cond n ∷ steps) has early all = fit_at_end m t f.procedure
fit_ahead script m t f (Do x ∷ steps) has early all =
    let here = All-head (IsStep (IsFitLine script (process_of m t))) (Do x) steps all in fit_at script m t f.variables x has early here.1

-- every request of a frame whose lines are fit in the thread's process is fit
pub request-fit :
    (script : ScriptValue) (m : State) (t : ℕ) (f : Frame) → HasThreads script m → IsEarly m → IsFrame (IsFitLine script (process_of m t)) f →
    IsFit m t (request_of f)
request-fit script m t f has early h = fit_ahead script m t f f.steps has early h.steps
