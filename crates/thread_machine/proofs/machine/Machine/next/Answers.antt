use Rattle.std.proofs.Common.{◌≡◌, ◌∙◌, ap, sym, Some, None}
use Rattle.std.specs.Prelude.{slice_get}
use Rattle.script_lang.specs.Words.{canonical_text}
use Rattle.spec_requests.specs.Words.{request_at_end}
use Rattle.thread_machine.specs.Machines.{machine_lines}
use Rattle.thread_machine.proofs.Frames.{next-command, next-end}
use Rattle.thread_machine.proofs.Positions.{slice_get-seen, slice_get-none}
use Rattle.thread_machine.proofs.ScriptBodies.{spelled-body, spelled-at}
use Rattle.thread_machine.proofs.machine.Machine.next.Goals as goal

pub returns-then-self-lines : goal.returns-then-self-lines
returns-then-self-lines c =
    λ f s. let there : slice_get (machine_lines c.args.script.now c.args.self.now) c.args.self.now.place.position ≡ Some c.index-lines-self.result =
    slice_get-seen
    c.machine_lines-lines.result.now
    (machine_lines c.args.script.now c.args.self.now)
    c.args.self.now.place.position
    c.index-lines-self.result
    c.machine_lines-lines.ensures
    c.if-self-lines.true
    c.index-lines-self.is
    in let body =
    spelled-body
    (canonical_text c.args.script.now)
    c.args.script.now
    c.args.self.now.thread.0
    c.args.self.now.entry
    c.is_spelled.ensures.spelled
    in c.in_ok-request.ensures
    ∙ next-command
    c.args.script.now
    c.args.self.now
    c.index-lines-self.result
    f
    c.requires
    s
    there
    (spelled-at
    (machine_lines c.args.script.now c.args.self.now)
    c.args.self.now.place.position
    c.index-lines-self.result
    body.spelled
    there)

pub returns-then-is_in_procedure : goal.returns-then-is_in_procedure
returns-then-is_in_procedure c =
    λ f s. let there : slice_get (machine_lines c.args.script.now c.args.self.now) c.args.self.now.place.position ≡ None =
    slice_get-none
    c.machine_lines-lines.result.now
    (machine_lines c.args.script.now c.args.self.now)
    c.args.self.now.place.position
    c.machine_lines-lines.ensures
    c.if-self-lines.false
    in rw (c.new.ensures, c.new-then-is_in_procedure.ensures)
    (ap request_at_end c.if-is_in_procedure.ensures
    ∙ sym (next-end c.args.script.now c.args.self.now f c.requires s there))

pub returns : goal.returns
returns c =
    λ f s. let there : slice_get (machine_lines c.args.script.now c.args.self.now) c.args.self.now.place.position ≡ None =
    slice_get-none
    c.machine_lines-lines.result.now
    (machine_lines c.args.script.now c.args.self.now)
    c.args.self.now.place.position
    c.machine_lines-lines.ensures
    c.if-self-lines.false
    in ap request_at_end c.if-is_in_procedure.ensures
    ∙ sym (next-end c.args.script.now c.args.self.now f c.requires s there)
