use Rattle.std.proofs.Common.{ap, sym}
use Rattle.call_tree.specs.Walks.{caller_in}
use Rattle.call_tree.proofs.Keys.{finds, found, of_server}
use Rattle.call_tree.proofs.calls.Calls.caller_of.Goals as goal

pub returns-in-Some : goal.returns-in-Some
returns-in-Some c =
    let o = of_server c.at.ensures.single c.args.u.0 in
    let r = c.at.result.now in
    rw (← c.self.view_is) (sym (ap caller_in (finds o c.in-Some.key r c.at.ensures.call (found o c.in-Some.key r c.at.ensures.call c.in-Some.ensures.found))))
