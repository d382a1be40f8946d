use Rattle.std.proofs.Common.{List, ap, subst, sym}
use Rattle.spec_records.specs.Words.{Port}
use Rattle.kernel_store.specs.Turning.{KnowsPorts}
use Rattle.kernel_store.proofs.Waits.{waits_anew}
use Rattle.kernel_store.proofs.ports.note_told.Goals as goal

pub returns-then-told : goal.returns-then-told
returns-then-told c = λ before same known. waits_anew c.args.processes.now c.args.held.now c.args.ports.now.ports.ports c.find_ended.result c.find_ended.ensures

pub returns-else-told : goal.returns-else-told
returns-else-told c = λ before same known.
    subst (λ (ps : List Port). KnowsPorts c.args.processes.now c.args.held.now ps c.args.ended.now) (sym (same c.if-told.false)) known
