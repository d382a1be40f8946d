use Rattle.server_pool.proofs.Matched.{call_counted, calls_left, matched, stack_below}
use Rattle.server_pool.proofs.pool.ServerPool.match_next.Goals as goal

pub calls_without-self-inside-requires : goal.calls_without-self-inside-requires
calls_without-self-inside-requires c = call_counted c.self.inside.waiting.items c.pop_front.new.self.items c.in_ok-first.first c.self.inside.calls c.in_ok-first.ensures.items c.self.invariant.1

pub invariant_of-self-2 : goal.invariant_of-self-2
invariant_of-self-2 c = (
  stack_below c.self.inside.parked.items c.take_last-top.new.self.items c.take_last-top.result c.self.invariant.0 c.take_last-top.ensures.items,
  calls_left c.self.inside.waiting.items c.pop_front.new.self.items c.in_ok-first.first c.self.inside.calls _ c.in_ok-first.ensures.items c.self.invariant.1 c.calls_without-self-inside.ensures,
)

pub returns-clause-result : goal.returns-clause-result
returns-clause-result c =
    rw (← c.self.view_is) (matched c.self.inside.parked.items c.take_last-top.new.self.items c.take_last-top.result c.self.inside.waiting.items c.pop_front.new.self.items c.in_ok-first.first c.self.invariant.0 c.take_last-top.ensures.items c.in_ok-first.ensures.items)
