use Rattle.std.proofs.Common.{◌≡◌, ◌<◌, ◌≤◌, ap, arith, false, length, subst, sym, ◌∙◌}
use Rattle.std.specs.List.{list_any}
use Rattle.spec_kernel.specs.Words.{State, is_thread_of, table_of}
use Rattle.kernel_core.specs.Within.{IsWithin}
use Rattle.kernel_store.specs.Words.{stored_state}
use Rattle.kernel_core.proofs.Kept.{child_kept, within_child}
use Rattle.kernel_core.proofs.kernel.Kernel.make_child.Goals as goal

pub invariant_of-self : goal.invariant_of-self
invariant_of-self c =
    let old = stored_state c.self.inside.parts.store in
    let new = stored_state c.make_child.new.self in
    let child = c.args.child.0 in
    let parent = c.args.parent.0 in
    let back = sym c.self.view_is in
    let opened : old.events ≡ 0 = ap (λ (k : State). k.events) c.self.view_is ∙ c.requires.opening in
    let rest = c.make_child.ensures.rest old.events c.self.invariant.2 in (
      child_kept old new child parent c.self.invariant.0 opened
          (subst (λ (k : State). (1 ≤ parent) × (parent < child) × (child ≤ length k.process_table.processes)) back c.requires.order)
          (subst (λ (k : State). length (table_of k child) ≡ length (table_of k parent)) back c.requires.limits)
          (subst (λ (k : State). list_any (is_thread_of child) k.process_table.threads ≡ false) back c.requires.no_thread)
          c.make_child.ensures.state,
      subst IsWithin (sym c.make_child.ensures.state) (within_child old child parent c.self.invariant.1),
      record { given_out = rest.given_out; latest = omega (arith, rest.latest, ap (λ (k : State). k.events) c.make_child.ensures.state) },
    )
