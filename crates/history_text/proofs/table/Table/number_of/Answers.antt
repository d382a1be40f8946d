use Rattle.std.proofs.Common.{◌∙◌}
use Rattle.history_text.proofs.PlacesInTable.{place_in_table}
use Rattle.history_text.proofs.table.Table.number_of.Goals as goal

pub returns : goal.returns
returns c = rw (← c.self.view_is) (c.get_index_of.ensures.index ∙ place_in_table c.args.key.now c.self.inside.keys.keys)
