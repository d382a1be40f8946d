use Rattle.std.proofs.Common.{subst, sym}
use Rattle.kernel_store.specs.Words.{KeepsPools}
use Rattle.kernel_core.proofs.Sending.{keeps_same}
use Rattle.kernel_core.proofs.descriptors.enter.Goals as goal
use Rattle.kernel_core.proofs.descriptors.enter.Goals.{in-Close+in-Some, in-Close+in-None, in-Dup+in-Some-dup_refusal, in-Dup+in-None-dup_refusal, in-Attach+in-Some-attach_refusal, in-Attach+in-None-attach_refusal, in-Detach+in-Some-detach_refusal, in-Detach+in-None-detach_refusal, in-Open+in-Some-open_refusal, in-Open+in-None-open_refusal, in-Await, in_default}

pub returns-clause-keeps : goal.returns-clause-keeps
returns-clause-keeps c =
    let old = c.args.store.now in
    elim c.match-request.branch [
      | in-Close+in-Some w ↦ subst (KeepsPools old) (sym w.store-is) (keeps_same old)
      | in-Close+in-None w ↦ subst (KeepsPools old) (sym w.store-is) w.close.ensures.keeps
      | in-Dup+in-Some-dup_refusal w ↦ subst (KeepsPools old) (sym w.store-is) (keeps_same old)
      | in-Dup+in-None-dup_refusal w ↦ subst (KeepsPools old) (sym w.store-is) w.dup.ensures.keeps
      | in-Attach+in-Some-attach_refusal w ↦ subst (KeepsPools old) (sym w.store-is) (keeps_same old)
      | in-Attach+in-None-attach_refusal w ↦ subst (KeepsPools old) (sym w.store-is) w.attach.ensures.keeps
      | in-Detach+in-Some-detach_refusal w ↦ subst (KeepsPools old) (sym w.store-is) (keeps_same old)
      | in-Detach+in-None-detach_refusal w ↦ subst (KeepsPools old) (sym w.store-is) w.detach.ensures.keeps
      | in-Open+in-Some-open_refusal w ↦ subst (KeepsPools old) (sym w.store-is) (keeps_same old)
      | in-Open+in-None-open_refusal w ↦ subst (KeepsPools old) (sym w.store-is) w.open_path.ensures.keeps
      | in-Await w ↦ subst (KeepsPools old) (sym w.store-is) w.await_path.ensures.keeps
      | in_default w ↦ subst (KeepsPools old) (sym w.store-is) (keeps_same old)
    ]
