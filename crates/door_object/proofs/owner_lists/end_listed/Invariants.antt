use Rattle.std.proofs.Common.{◌≡◌}
use Rattle.door_object.proofs.OwnerLists.{IsListed, ended_from}
use Rattle.door_object.proofs.owner_lists.end_listed.Given as goal

abbrev pub invariant-loop-number : goal.invariant-loop-number
invariant-loop-number l = record { listed : IsListed l.initial.doors l.p.0 l.number; ended : l.doors ≡ ended_from l.p.0 l.number l.initial.doors }

abbrev pub decreases-loop-number : goal.decreases-loop-number
decreases-loop-number l = l.number
