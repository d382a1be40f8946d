use Rattle.std.proofs.Common.{sym, ◌∙◌}
use Rattle.line_forms.proofs.PathSearch.{named_any}
use Rattle.history_text.proofs.table.Table.has.Goals as goal

pub returns : goal.returns
returns c = rw (← c.self.view_is) (c.contains.ensures ∙ sym (named_any c.args.key.now c.self.inside.keys.keys))
