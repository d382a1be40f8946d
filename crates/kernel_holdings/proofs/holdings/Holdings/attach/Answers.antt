use Rattle.std.proofs.Common.{ap, arith}
use Rattle.dk_base.specs.declared.object.Obj.TheVariants as obj
use Rattle.kernel_holdings.specs.Words.{HoldingsValue, references_to}
use Rattle.kernel_holdings.proofs.holdings.Holdings.attach.Goals as goal

pub up-requires-clause-few : goal.up-requires-clause-few
up-requires-clause-few c =
    let door = obj.Door c.args.door in
    omega (
      arith,
      c.self.invariant.0 door,
      c.are_few.ensures door,
      ap (λ (v : HoldingsValue). references_to v.tables v.names.names v.calls.tree.calls door) c.self.view_is,
    )
