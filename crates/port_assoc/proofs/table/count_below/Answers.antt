use Rattle.std.proofs.Common.{◌≡◌, rules}
use Rattle.std.proofs.lemmas.Fn.{always_returns_same}
use Rattle.port_assoc.specs.Table.{is_entry_below}
use Rattle.port_assoc.proofs.table.count_below.Goals as goal

pub returns : goal.returns
returns c = c.partition_point.ensures.partitioned (is_entry_below c.args.n) (always_returns_same _ (λ a r. r ≡ is_entry_below c.args.n (a.0.now, a.1.0.now)) _ (λ a r q k. search rules)) c.requires
