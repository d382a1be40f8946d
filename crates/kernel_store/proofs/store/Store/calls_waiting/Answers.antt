use Rattle.std.proofs.Common.{sym, ap, ◌∙◌}
use Rattle.spec_kernel.specs.Words.{calls_waiting}
use Rattle.law_pools.proofs.Queues.{queue_length_agrees}
use Rattle.kernel_store.specs.Stored.{StoreValue, stored_state}
use Rattle.kernel_store.proofs.store.Store.calls_waiting.Goals as goal

pub returns : goal.returns
returns c =
    c.calls_waiting.ensures
    ∙ sym (queue_length_agrees c.self.invariant.0 c.args.pool)
    ∙ ap (λ (v : StoreValue). calls_waiting (stored_state v) c.args.pool) c.self.view_is
