use Rattle.std.proofs.Common.{ap}
use Rattle.sys_run.specs.Words.{SysValue}
use Rattle.doors_top.proofs.Loads.{load_laws, told_outcome}
use Rattle.doors_top.proofs.load.play_load.Goals as goal

pub returns-clause-made : goal.returns-clause-made
returns-clause-made c =
    told_outcome c.args.n _ _ _ _ c.in_ok-told.ensures (ap (λ (p : SysValue). p.script) c.requires) (c.loads.ensures.unscheduled c.args.n)
    c.in_ok-reply.ensures.status c.in_ok-reply.ensures.text

pub returns-clause-laws : goal.returns-clause-laws
returns-clause-laws c =
    load_laws c.args.n _ _ c.in_ok-told.ensures (ap (λ (p : SysValue). p.script) c.requires) (c.loads.ensures.unscheduled c.args.n)
