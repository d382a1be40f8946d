use Rattle.std.proofs.Common.{map}
use Rattle.std.specs.Map.Iter.{deref_pair}
use Rattle.ncd_app.specs.Table.{IsTold, keys_with}
use Rattle.ncd_app.proofs.table.Table.owners.Given as goal

abbrev pub invariant-loop-key : goal.invariant-loop-key
invariant-loop-key l = IsTold l.text l.told (keys_with l.value (map deref_pair l.yielded))
