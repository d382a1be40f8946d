use Rattle.std.proofs.Common.{refl}
use Rattle.script_lang.specs.Words.{canonical_text}
use Rattle.thread_machine.specs.Machines.{machine_lines}
use Rattle.thread_machine.proofs.Frames.{ended-line, ended-placed}
use Rattle.thread_machine.proofs.Positions.{slice_get-seen}
use Rattle.thread_machine.proofs.ScriptBodies.{spelled-body, spelled-at}
use Rattle.thread_machine.proofs.machine.Machine.end.Goals as goal

pub answer-requires-clause-line : goal.answer-requires-clause-line
answer-requires-clause-line c =
    let body =
    spelled-body
    (canonical_text c.args.script.now)
    c.args.script.now
    c.args.self.now.thread.0
    c.args.self.now.entry
    c.is_spelled.ensures.spelled
    in spelled-at
    (machine_lines c.args.script.now c.args.self.now)
    c.args.self.now.place.position
    c.index-lines-self.result
    body.spelled
    (slice_get-seen
    c.machine_lines-lines.result.now
    (machine_lines c.args.script.now c.args.self.now)
    c.args.self.now.place.position
    c.index-lines-self.result
    c.machine_lines-lines.ensures
    c.if-self-lines.false
    c.index-lines-self.is)

pub returns-clause-ends : goal.returns-clause-ends
returns-clause-ends c =
    λ f s. ended-line
    c.args.script.now
    c.args.self.now
    _
    c.index-lines-self.result
    c.args.answer.now
    f
    c.requires.machine
    s
    (slice_get-seen
    c.machine_lines-lines.result.now
    (machine_lines c.args.script.now c.args.self.now)
    c.args.self.now.place.position
    c.index-lines-self.result
    c.machine_lines-lines.ensures
    c.if-self-lines.false
    c.index-lines-self.is)
    refl
    refl
    refl
    c.last_answer-self.ensures
    refl
    (c.answer.ensures f.variables s.variables)

pub returns-clause-placed : goal.returns-clause-placed
returns-clause-placed c =
    ended-placed
    c.args.script.now
    c.args.self.now
    _
    c.index-lines-self.result
    c.requires.machine
    (slice_get-seen
    c.machine_lines-lines.result.now
    (machine_lines c.args.script.now c.args.self.now)
    c.args.self.now.place.position
    c.index-lines-self.result
    c.machine_lines-lines.ensures
    c.if-self-lines.false
    c.index-lines-self.is)
    refl
    refl
    refl
