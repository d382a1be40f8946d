use Rattle.std.proofs.Common.{rules, Some}
use Rattle.spec_records.specs.Words.{bind_thread}
use Rattle.kernel_store.proofs.Acts.{fills, bound, given_out_bound}
use Rattle.kernel_store.proofs.Short.{room_bound}
use Rattle.kernel_store.proofs.store.Store.bind.Goals as goal

pub invariant_of-self : goal.invariant_of-self
invariant_of-self c = (rw c.bind.ensures (bound c.self.invariant.0 c.self.view_is c.args.t.0 (Some c.args.d) c.requires), c.self.invariant.1, c.self.invariant.2, c.self.invariant.3, rw c.bind.ensures (room_bound c.self.inside.short.items c.self.inside.pools c.self.invariant.4 (bind_thread c.self.inside.pools.bindings c.args.t.0 c.args.d)), c.self.invariant.5)

pub returns-clause-keeps : goal.returns-clause-keeps
returns-clause-keeps c =
    fills
    (λ given. rw c.bind.ensures (given_out_bound c.self.view_is (bind_thread c.self.inside.pools.bindings c.args.t.0 c.args.d) given))
    (search rules) (search rules) (search rules) (search rules) (λ pool. search rules)
