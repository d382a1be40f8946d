use Rattle.std.proofs.Common.{◌≡◌, reverse}
use Rattle.door_object.proofs.OwnerLists.{IsListed, valid_from}
use Rattle.door_object.proofs.owner_lists.list_owned.Given as goal

abbrev pub invariant-loop-number : goal.invariant-loop-number
invariant-loop-number l = record { listed : IsListed l.doors l.p.0 l.number; owned : reverse l.owned.items ≡ valid_from l.p.0 l.number l.doors }

abbrev pub decreases-loop-number : goal.decreases-loop-number
decreases-loop-number l = l.number
