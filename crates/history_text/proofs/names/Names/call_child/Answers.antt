use Rattle.std.proofs.Common.{◌≡◌, ◌-◌, sym, subst, true, arith}
use Rattle.history_text.specs.Types.{NamedProcess}
use Rattle.history_text.specs.NameLimits.{is_short_process}
use Rattle.history_text.proofs.ShortKept.{all_at, limited_set, short_called}
use Rattle.history_text.proofs.names.Names.call_child.Goals as goal

pub invariant_of-self : goal.invariant_of-self
invariant_of-self c =
    let x = c.index_mut.result.now in
    limited_set c.self.inside.processes.items c.self.inside.threads.items c.self.inside.procedures.items c.self.inside.paths (c.args.child.0 - 1) _ c.self.invariant
    (subst (λ (p : NamedProcess). is_short_process p ≡ true) (sym c.call_process.ensures)
    (short_called x c.args.name
    (subst (λ (p : NamedProcess). is_short_process p ≡ true) (sym c.index_mut.ensures.value)
    (all_at is_short_process c.self.inside.processes.items (c.args.child.0 - 1) x c.self.invariant.short_processes (omega (arith, c.if-child-ge1.true, c.if-child-len.true, c.len.ensures, c.self.inside.processes.ok))))
    c.requires))
