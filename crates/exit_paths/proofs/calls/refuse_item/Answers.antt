use Rattle.std.proofs.Common.{sym, ◌∙◌}
use Rattle.call_tree.specs.Words.{is_call}
use Rattle.exit_paths.proofs.CallsSoFar.{queued_there}
use Rattle.exit_paths.proofs.calls.refuse_item.Goals as goal

pub refuse-requires-clause-queued : goal.refuse-requires-clause-queued
refuse-requires-clause-queued c =
    queued_there c.args.calls.now.tree (is_call c.in-Call.c) c.in-Some.call.now c.are_sound.ensures (sym c.in-Some.ensures) (sym c.is_queued.ensures ∙ c.if-is_queued.true)
