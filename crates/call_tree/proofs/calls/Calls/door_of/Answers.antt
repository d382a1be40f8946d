use Rattle.std.proofs.Common.{ap}
use Rattle.call_tree.specs.Words.{is_call}
use Rattle.call_tree.specs.Walks.{door_in}
use Rattle.call_tree.proofs.Keys.{finds, found, looked_up, of_number}
use Rattle.call_tree.proofs.calls.Calls.door_of.Goals as goal

pub returns : goal.returns
returns c =
    let o = of_number c.of_number.ensures.single c.args.c in
    let w = looked_up (is_call c.args.c) _ c.of_number.result c.known-key.result c.of_number.ensures.found c.known-key.ensures in
    let r = c.at.result.now in
    rw (← c.self.view_is) (ap door_in (finds o c.known-key.result r c.at.ensures.call (found o c.known-key.result r c.at.ensures.call w)))
