use Rattle.std.proofs.Common.{◌∙◌}
use Rattle.call_tree.proofs.calls.Calls.ready.Goals as goal

pub returns : goal.returns
returns c = rw (← c.self.view_is) (c.has.ensures ∙ c.collecting.ensures c.args.caller.0)
