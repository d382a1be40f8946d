use Rattle.std.proofs.Common.{◌≡◌, ◌<◌, ap, arith, length, subst, sym, ◌∙◌}
use Rattle.dk_base.specs.declared.limits.TheConstants.{THREADS_MAX}
use Rattle.spec_records.specs.Words.{ProcessTable}
use Rattle.spec_kernel.specs.Words.{State}
use Rattle.spec_kernel.proofs.Opening.{IsDeclaredIn}
use Rattle.kernel_store.specs.Words.{stored_state}
use Rattle.kernel_core.proofs.Kept.{opening_stands, thread_result}
use Rattle.kernel_core.proofs.kernel.Kernel.add_thread.Goals as goal

pub invariant_of-self : goal.invariant_of-self
invariant_of-self c =
    let old = stored_state c.self.inside.parts.store in
    let there : IsDeclaredIn old c.args.process.0 = subst (λ k. IsDeclaredIn k c.args.process.0) (sym c.self.view_is) c.requires.declared in
    let many = ap (λ (table : ProcessTable). length table.threads) c.processes.ensures in
    let few : length old.process_table.threads < THREADS_MAX =
    omega (arith, many, c.thread_count.ensures.few, c.thread_count.ensures.count, c.if-thread_count-eq-THREADS_MAX.false) in
    let kept =
    thread_result old (stored_state c.add_thread.new.self) c.args.process.0 c.args.spare c.self.invariant.0 c.self.invariant.1
    (ap (λ (k : State). k.events) c.self.view_is ∙ c.requires.opening) there few c.add_thread.result c.add_thread.ensures.ok c.add_thread.ensures.err in
    let opened : old.events ≡ 0 = ap (λ (k : State). k.events) c.self.view_is ∙ c.requires.opening in
    let rest = c.add_thread.ensures.rest old.events c.self.invariant.2 in (
      kept.0,
      kept.1,
      record { given_out = rest.given_out; latest = omega (arith, rest.latest, opened) },
    )

pub add_thread-requires-clause-lives : goal.add_thread-requires-clause-lives
add_thread-requires-clause-lives c =
    let old = stored_state c.self.inside.parts.store in
    let there : IsDeclaredIn old c.args.process.0 = subst (λ k. IsDeclaredIn k c.args.process.0) (sym c.self.view_is) c.requires.declared in
    opening_stands old c.args.process.0 (c.self.invariant.0.opening (ap (λ (k : State). k.events) c.self.view_is ∙ c.requires.opening)) there
