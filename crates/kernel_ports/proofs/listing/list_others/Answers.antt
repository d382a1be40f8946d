use Rattle.std.proofs.Common.{arith, length}
use Rattle.std.proofs.lemmas.List.{at_drop_more}
use Rattle.dk_base.specs.declared.object.Obj.TheVariants as obj
use Rattle.kernel_ports.proofs.Others.{next_none, next_watched}
use Rattle.kernel_ports.proofs.listing.list_others.Goals as goal

pub loop-object-preserved : goal.loop-object-preserved
loop-object-preserved c =
    let gone = c.args.gone.now in
    let i = c.loop-object.object-index in
    let before = c.loop-object.invariant in
    let listed = c.list_object.ensures in
    let fewer = at_drop_more length gone i (obj.Door 0) c.loop-object-test.true in record {
      said = λ refs none all. listed.said refs (next_none gone i _ c.other_end.result c.loop-object-test.true c.other_end.ensures refs none) (before.said refs none all);
      watched = λ a. next_watched gone i _ c.other_end.result c.loop-object-test.true c.other_end.ensures a.object _ _ _ (listed.watched a) (before.watched a);
      spare = omega (arith, fewer, before.spare, listed.spare);
    }
