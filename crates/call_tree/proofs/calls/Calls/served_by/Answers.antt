use Rattle.std.proofs.Common.{sym}
use Rattle.call_tree.proofs.Keys.{finds, found, of_server}
use Rattle.call_tree.proofs.calls.Calls.served_by.Goals as goal

pub returns-in-Some : goal.returns-in-Some
returns-in-Some c =
    let o = of_server c.at.ensures.single c.args.t.0 in
    let r = c.at.result.now in
    rw (← c.self.view_is) (sym (finds o c.in-Some.key r c.at.ensures.call (found o c.in-Some.key r c.at.ensures.call c.in-Some.ensures.found)))
