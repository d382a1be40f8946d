use Rattle.std.proofs.Common.{◌≡◌, IfOk, subst}
use Rattle.trace_check.proofs.Steps.{whole_verdict}
use Rattle.trace_check.proofs.walk.check.Goals as goal

pub returns : goal.returns
returns c = subst (λ v. IfOk c.check_lines.result (λ found. found ≡ v)) (whole_verdict _ _ c.args.trace.now c.in_ok-sys.ensures) c.check_lines.ensures
