use Rattle.std.proofs.Common.{◌≡◌, Bool, true, false, if◌then◌else◌, ap, sym, subst, ◌∙◌}
use Rattle.dk_base.specs.ByNumber.{at_number}
use Rattle.spec_records.specs.Words.{ProcessTable, is_live_in}
use Rattle.spec_kernel.specs.Words.{StandsFor, is_live_process, leave_process}
use Rattle.kernel_store.specs.Words.{stored_state}
use Rattle.kernel_core.proofs.Live.{live_state}
use Rattle.kernel_core.proofs.leaving.kill.Goals as goal

pub returns-clause-state : goal.returns-clause-state
returns-clause-state c =
    let m = stored_state c.args.store.now in
    let lives : is_live_process m c.args.p.0 ≡ true =
    ap (λ (table : ProcessTable). is_live_in (at_number table.processes c.args.p.0)) (sym c.processes.ensures) ∙ sym c.is_live.ensures ∙ c.if-not-is_live.false in
    subst (λ (b : Bool). StandsFor (stored_state c.leave_process.new.store) (if b then leave_process m c.args.p.0 else m)) (sym lives)
    c.in_ok-leave_process.ensures.state

pub returns-then-not-is_live-clause-state : goal.returns-then-not-is_live-clause-state
returns-then-not-is_live-clause-state c =
    let m = stored_state c.args.store.now in
    let ended : is_live_process m c.args.p.0 ≡ false =
    ap (λ (table : ProcessTable). is_live_in (at_number table.processes c.args.p.0)) (sym c.processes.ensures) ∙ sym c.is_live.ensures ∙ c.if-not-is_live.true in
    subst (λ (b : Bool). StandsFor m (if b then leave_process m c.args.p.0 else m)) (sym ended) (sym (live_state m c.requires.none_past))
