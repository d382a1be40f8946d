use Rattle.std.proofs.Common.{ap, arith}
use Rattle.dk_base.specs.declared.error.Errno.TheVariants.{ENOENT}
use Rattle.name_space.specs.Words.{attached_door}
use Rattle.kernel_holdings.specs.Words.{HoldingsValue, references_of}
use Rattle.kernel_holdings.proofs.NameCounts.{attached_within, found_door}
use Rattle.kernel_holdings.proofs.Referring.{references_to-parts}
use Rattle.kernel_holdings.proofs.holdings.Holdings.door_attached.Goals as goal

pub returns-in-Ok-clause-held : goal.returns-in-Ok-clause-held
returns-in-Ok-clause-held c = λ there o.
    let h = c.self.inside in
    let within =
    attached_within o c.args.path c.in-Ok.door h.names.names (found_door (attached_door h.names.names c.args.path) ENOENT c.in-Ok.door c.in-Ok.ensures.door) in
    omega (arith, within, references_to-parts h.tables h.names.names h.calls.tree.calls o, ap (λ (v : HoldingsValue). references_of v o) c.self.view_is)
