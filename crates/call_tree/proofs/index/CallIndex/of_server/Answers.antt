use Rattle.std.proofs.Common.{arith}
use Rattle.call_tree.proofs.Whole.{single, server_none, server_some}
use Rattle.call_tree.proofs.index.CallIndex.of_server.Goals as goal

pub returns-in-0-clause-found : goal.returns-in-0-clause-found
returns-in-0-clause-found c = let e = c.place.ensures in rw (← c.self.view_is) (server_none c.self.invariant.0 c.args.t.0 (omega (arith, e)))

pub returns-in-0-clause-single : goal.returns-in-0-clause-single
returns-in-0-clause-single c = rw (← c.self.view_is) (single c.self.invariant.0)

pub returns-in_default-clause-found : goal.returns-in_default-clause-found
returns-in_default-clause-found c = let e = c.place.ensures in rw (← c.self.view_is) (server_some c.self.invariant.0 c.args.t.0 c.place.result e (omega arith))

pub returns-in_default-clause-single : goal.returns-in_default-clause-single
returns-in_default-clause-single c = rw (← c.self.view_is) (single c.self.invariant.0)
