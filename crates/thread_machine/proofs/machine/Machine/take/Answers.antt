use Rattle.std.proofs.Common.{sym, subst, Some}
use Rattle.script_lang.specs.Words.{canonical_text}
use Rattle.spec_requests.specs.Words.{Frame, set_each, steps_after, values_of, vars_ahead}
use Rattle.thread_machine.specs.Machines.{Stands}
use Rattle.thread_machine.proofs.Frames.{settled, enters-placed, frame_after_answer-ends}
use Rattle.thread_machine.proofs.ScriptBodies.{spelled-body}
use Rattle.thread_machine.proofs.machine.Machine.take.Goals as goal

pub settle-requires : goal.settle-requires
settle-requires c =
    enters-placed
    c.args.script.now
    c.args.self.now
    c.enter.new.self
    c.args.answer.now
    (sym c.in-BeginsFrame.ensures)
    c.requires.machine
    c.enter.ensures.thread
    c.enter.ensures.entered
    c.requires.declared
    (λ entry. spelled-body (canonical_text c.args.script.now) c.args.script.now 0 (Some entry) c.is_spelled.ensures.spelled)

pub returns-in-EndsCommand-clause-stands : goal.returns-in-EndsCommand-clause-stands
returns-in-EndsCommand-clause-stands c =
    λ f s. subst
    (λ (g : Frame). Stands c.args.script.now c.settle-in-EndsCommand.new.self g)
    (sym (frame_after_answer-ends c.args.script.now f c.args.answer.now (sym c.in-EndsCommand.ensures)))
    (settled
    c.args.script.now
    c.end.new.self
    c.settle-in-EndsCommand.new.self
    (steps_after f.steps)
    (set_each f.variables (vars_ahead f.steps) (values_of c.args.answer.now))
    c.args.answer.now
    f.notice
    f.procedure
    (c.end.ensures.ends f s)
    c.settle-in-EndsCommand.ensures)
