use Rattle.std.proofs.Common.{sym, ◌∙◌}
use Rattle.unref_notice.proofs.Items.{item_place, no_item}
use Rattle.unref_notice.proofs.change.place_of_item.Goals as goal

pub returns-in_err-n : goal.returns-in_err-n
returns-in_err-n c = c.from_residual.ensures ∙ no_item c.args.item c.args.notices.now.items (sym c.number_of.ensures ∙ c.in_err-n.was)

pub returns : goal.returns
returns c = c.place_of.ensures ∙ item_place c.args.item c.in_ok-n.n c.args.notices.now.items (sym c.number_of.ensures ∙ c.in_ok-n.was)
