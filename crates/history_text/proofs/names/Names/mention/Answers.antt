use Rattle.std.proofs.Common.{◌≡◌, ◌-◌, sym, subst, true, arith}
use Rattle.history_text.specs.Types.{NamedProcess}
use Rattle.history_text.specs.NameLimits.{is_short_process}
use Rattle.history_text.proofs.ShortKept.{all_at, limited_set}
use Rattle.history_text.proofs.names.Names.mention.Goals as goal

pub invariant_of-self : goal.invariant_of-self
invariant_of-self c =
    let x = c.index_mut.result.now in
    limited_set c.self.inside.processes.items c.self.inside.threads.items c.self.inside.procedures.items c.self.inside.paths (c.args.process - 1) _ c.self.invariant
    (subst (λ (p : NamedProcess). is_short_process p ≡ true) (sym c.index_mut.ensures.value)
    (all_at is_short_process c.self.inside.processes.items (c.args.process - 1) x c.self.invariant.short_processes (omega (arith, c.if-process-ge1.true, c.if-process-len.true, c.len.ensures, c.self.inside.processes.ok))))
