use Rattle.std.proofs.Common.{Some, None}
use Rattle.sys_run.proofs.Looks.{is_none-next}
use Rattle.sys_run.proofs.sys.Sys.over.Goals as goal

pub returns-in-Some : goal.returns-in-Some
returns-in-Some c = is_none-next _ (Some c.in-Some.field-0) c.in-Some.ensures

pub returns-in-None : goal.returns-in-None
returns-in-None c = is_none-next _ None c.in-None.ensures
