use Rattle.slab.specs.Slab.{get}
use Rattle.call_tree.proofs.Keeping.{contained, finds}
use Rattle.call_tree.proofs.records.Records.at.Goals as goal

pub index-requires : goal.index-requires
index-requires c = contained (get c.self.inside.slab) c.args.key c.self.inside.order.items (rw (← c.self.view_is) at c.requires)

pub returns : goal.returns
returns c = rw (← c.self.view_is) (finds (get c.self.inside.slab) c.args.key c.self.inside.order.items c.index.result.now (rw (← c.self.view_is) at c.requires) c.index.ensures)
