use Rattle.std.proofs.Common.{◌≡◌, ◌≤◌, ◌++◌, ap, arith, length, map, sym, ◌∙◌}
use Rattle.dk_base.specs.declared.limits.TheConstants.{THREADS_MAX}
use Rattle.spec_records.specs.Words.{tid}
use Rattle.dk_base.specs.Words.{members}
use Rattle.spec_kernel.specs.Words.{State}
use Rattle.kernel_store.specs.Words.{stored_state}
use Rattle.kernel_core.specs.declared.event.Parts.{Parts}
use Rattle.kernel_core.specs.Woken.{turned_threads}
use Rattle.kernel_core.proofs.Turning.{none_listed, turned_few, turned_since}
use Rattle.kernel_core.proofs.event.Parts.end_event.Goals as goal
use Rattle.kernel_core.proofs.event.Parts.end_event.Goals.{then-len-eq0, else-len-eq0}

pub list-requires : goal.list-requires
list-requires c =
    let m = stored_state c.count.new.self in
    let same = ap (λ (k : State). length k.process_table.threads) c.count.ensures.state in
    let few : length m.process_table.threads ≤ THREADS_MAX = omega (arith, same, c.requires.ready.few) in
    omega (arith, same, c.requires.ready.woken.spare, turned_few m c.without.result c.args.were c.runnable.result c.runnable.ensures c.without.ensures few)

pub returns-clause-woken : goal.returns-clause-woken
returns-clause-woken c =
    λ before were.
    let m = stored_state c.count.new.self in
    let same = ap (λ (k : State). length k.process_table.threads) c.count.ensures.state in
    let few : length m.process_table.threads ≤ THREADS_MAX = omega (arith, same, c.requires.ready.few) in
    let listed : c.list.new.room.items ≡ turned_threads before m =
    c.list.ensures ∙ ap (λ xs. xs ++ map tid (members c.without.result)) c.requires.ready.woken.empty
    ∙ turned_since before m c.without.result c.args.were c.runnable.result were c.runnable.ensures c.without.ensures few in
    elim c.if-len-eq0.branch [
      | then-len-eq0 w ↦
          w.woken-is ∙ w.new-woken.ensures ∙ sym (none_listed c.list.new.room.items (omega (arith, c.len.ensures, w.if-len-eq0.true))) ∙ listed
          ∙ sym (ap (λ (p : Parts). turned_threads before (stored_state p.store)) w.self-is)
      | else-len-eq0 w ↦
          w.woken-is ∙ w.into_list-woken.ensures ∙ ap (λ r. r.items) w.replace.ensures.value ∙ listed
          ∙ sym (ap (λ (p : Parts). turned_threads before (stored_state p.store)) w.self-is)
    ]
