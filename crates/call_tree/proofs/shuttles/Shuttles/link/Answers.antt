use Rattle.call_tree.proofs.Linking.{linked}
use Rattle.call_tree.proofs.shuttles.Shuttles.link.Goals as goal

pub invariant_of-self : goal.invariant_of-self
invariant_of-self c =
    let q = rw (← c.self.view_is) at c.requires in
    let v = c.self.inside in
    rw c.other-root.ensures (linked v.top v.up v.down v.rank v.far c.args.a c.args.u c.args.c c.self.told c.self.invariant q.apart q.caller q.server q.idle q.later q.made q.caller_in q.server_in)
