use Rattle.std.proofs.Common.{sym, arith}
use Rattle.call_tree.proofs.Linking.{cut, spots}
use Rattle.call_tree.proofs.shuttles.Shuttles.unlink.Goals as goal

pub bounds-self-inside-root : goal.bounds-self-inside-root
bounds-self-inside-root c =
    let v = c.self.inside in
    let w = spots v.top v.up v.down v.rank v.far c.at-a.result c.args.u c.walk-lead.result c.other-root.result c.self.invariant (rw (← c.self.view_is) at c.requires.server) (sym c.at-a.ensures) (sym c.walk-lead.ensures) (sym c.other-root.ensures) in
    omega (arith, w.3)

pub bounds-self-inside-lead : goal.bounds-self-inside-lead
bounds-self-inside-lead c =
    let v = c.self.inside in
    let w = spots v.top v.up v.down v.rank v.far c.at-a.result c.args.u c.walk-lead.result c.other-root.result c.self.invariant (rw (← c.self.view_is) at c.requires.server) (sym c.at-a.ensures) (sym c.walk-lead.ensures) (sym c.other-root.ensures) in
    omega (arith, w.2)

pub invariant_of-self : goal.invariant_of-self
invariant_of-self c =
    let v = c.self.inside in
    cut v.top v.up v.down v.rank v.far c.at-a.result c.args.u c.walk-lead.result c.other-root.result c.self.told c.self.invariant (rw (← c.self.view_is) at c.requires.server) (sym c.at-a.ensures) (sym c.walk-lead.ensures) (sym c.other-root.ensures)
