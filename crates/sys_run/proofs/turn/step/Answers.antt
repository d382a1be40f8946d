use Rattle.std.proofs.Common.{◌≡◌, false, sym, ◌∙◌}
use Rattle.spec_kernel.specs.Words.{is_running}
use Rattle.sys_run.proofs.Turning.{may_go_on-kept}
use Rattle.sys_run.proofs.turn.step.Goals as goal

pub go_on-requires : goal.go_on-requires
go_on-requires c =
    let may = c.requires.may
    in let waits : is_running may.state c.args.t.0 ≡ false = sym (c.is_running.ensures.stands may.state may.kernel_stands) ∙ c.if-is_running.false
    in may_go_on-kept _ may.state _ may.kernel_stands (rw waits at may.may)
