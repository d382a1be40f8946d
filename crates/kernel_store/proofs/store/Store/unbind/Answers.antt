use Rattle.std.proofs.Common.{rules, None}
use Rattle.spec_records.specs.Words.{unbind_thread}
use Rattle.kernel_store.proofs.Acts.{fills, bound, given_out_bound}
use Rattle.kernel_store.proofs.Short.{room_bound}
use Rattle.kernel_store.proofs.store.Store.unbind.Goals as goal

pub invariant_of-self : goal.invariant_of-self
invariant_of-self c = (
  rw c.drop_binding.ensures
      (bound c.self.invariant.0 c.self.view_is c.args.t.0 None c.requires.running),
  c.self.invariant.1,
  c.self.invariant.2,
  c.self.invariant.3,
  rw c.drop_binding.ensures (room_bound c.self.inside.short.items c.self.inside.pools c.self.invariant.4 (unbind_thread c.self.inside.pools.bindings c.args.t.0)),
  c.self.invariant.5,
)

pub returns-clause-keeps : goal.returns-clause-keeps
returns-clause-keeps c =
    fills
    (λ given. rw c.drop_binding.ensures
    (given_out_bound c.self.view_is (unbind_thread c.self.inside.pools.bindings c.args.t.0) given))
    (search rules) (search rules) (search rules) (search rules) (λ pool. search rules)
