use Rattle.std.proofs.Common.{ap, ◌∙◌}
use Rattle.call_tree.specs.Words.{CallsValue, root_in}
use Rattle.kernel_store.specs.Words.{stored_state}
use Rattle.kernel_core.proofs.Readers.{root_walked}
use Rattle.kernel_core.proofs.turns.root.Goals as goal

pub returns : goal.returns
returns c =
    c.root_of.ensures
    ∙ ap (λ (calls : CallsValue). root_in calls.tree c.args.t.0) c.calls.ensures
    ∙ root_walked (stored_state c.args.store.now) c.args.t.0
