use Rattle.std.proofs.Common.{arith}
use Rattle.dk_base.proofs.Fronts.{Appends-front}
use Rattle.dk_base.proofs.writing.write_all.Goals as goal

pub loop-at-preserved : goal.loop-at-preserved
loop-at-preserved g c = (
  omega (arith, c.in_ok-at.ensures.bound),
  omega (arith, c.in_ok-at.ensures.steady),
  Appends-front _ (g.O.Sink.held c.loop-at.sink) _ c.args.text.now c.loop-at.at c.in_ok-at.field-0 c.loop-at.invariant.2 c.in_ok-at.ensures.bytes,
)
