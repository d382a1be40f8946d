use Rattle.door_object.proofs.OwnerLists.{AreListed-none}
use Rattle.door_object.proofs.doors.Doors.new.Goals as goal

pub invariant_of-result : goal.invariant_of-result
invariant_of-result c = AreListed-none c.new.result.items c.new-2.result.items c.new-3.result.items c.new.ensures.items c.new-2.ensures.items c.new-3.ensures.items
