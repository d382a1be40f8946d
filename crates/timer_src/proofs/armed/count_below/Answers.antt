use Rattle.std.proofs.Common.{◌≡◌, rules}
use Rattle.std.proofs.lemmas.Fn.{always_returns_same}
use Rattle.timer_src.specs.Pending.{is_below}
use Rattle.timer_src.proofs.armed.count_below.Goals as goal

pub returns-clause-point : goal.returns-clause-point
returns-clause-point c = c.partition_point.ensures.partitioned (is_below c.args.number) (always_returns_same _ (λ a r. r ≡ is_below c.args.number a.0.now) _ (λ a r q k. search rules)) c.requires
