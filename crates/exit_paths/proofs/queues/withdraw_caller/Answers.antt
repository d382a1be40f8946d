use Rattle.std.proofs.Common.{ap}
use Rattle.exit_paths.specs.Words.{is_call_of}
use Rattle.exit_paths.proofs.ItemsLeft.{left_as, left_none}
use Rattle.exit_paths.proofs.queues.withdraw_caller.Goals as goal

pub returns-in_default : goal.returns-in_default
returns-in_default c = left_as (left_none c.args.pools.now) (λ q w. ap (λ o. is_call_of c.args.doors.now.items o q w) c.in_default.ensures)
