use Rattle.std.proofs.Common.{sym}
use Rattle.call_tree.proofs.Keys.{finds, found, of_number}
use Rattle.call_tree.proofs.calls.Calls.call.Goals as goal

pub returns-in-Some : goal.returns-in-Some
returns-in-Some c =
    let o = of_number c.at.ensures.single c.args.c in
    let r = c.at.result.now in
    rw (← c.self.view_is) (sym (finds o c.in-Some.key r c.at.ensures.call (found o c.in-Some.key r c.at.ensures.call c.in-Some.ensures.found)))
