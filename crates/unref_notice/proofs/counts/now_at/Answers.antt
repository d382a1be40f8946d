use Rattle.std.proofs.Common.{◌∙◌, ap, sym}
use Rattle.unref_notice.specs.declared.tally.Tally.{Tally}
use Rattle.unref_notice.proofs.Tallies.{count_kept}
use Rattle.unref_notice.proofs.counts.now_at.Goals as goal

pub returns : goal.returns
returns c = ap (λ (t : Tally). t.now) c.tally_at.ensures ∙ sym (count_kept c.args.tallies.now.entries c.args.key)
