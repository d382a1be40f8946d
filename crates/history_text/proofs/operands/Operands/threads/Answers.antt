use Rattle.std.proofs.Common.{rules}
use Rattle.line_reader.specs.Combinators.{items_to}
use Rattle.line_reader.specs.OperandContracts.{Fails}
use Rattle.line_reader.specs.Operands.{is_no_stop}
use Rattle.history_text.specs.Operands.{thread_from_word}
use Rattle.line_reader.proofs.ItemByItem.{items-kept, items-ended, items-failed, items-fewer}
use Rattle.history_text.proofs.Skips.{threads_by_item}
use Rattle.history_text.proofs.operands.Operands.threads.Goals as goal

pub returns-in_err-thread : goal.returns-in_err-thread
returns-in_err-thread c =
    let fails : Fails (items_to is_no_stop (thread_from_word c.args.names.now) c.args.self.now) c.in_err-thread.field-0.0 =
    λ reason is. items-failed (threads_by_item c.args.names.now) c.loop-threads.threads c.loop-threads.self reason _ c.loop-threads.invariant (c.in_err-thread.ensures reason is) in
    search rules

pub loop-threads-smaller : goal.loop-threads-smaller
loop-threads-smaller c = items-fewer (threads_by_item c.args.names.now) c.in-Some.thread _ c.loop-threads.self c.next_thread.new.self c.in_ok-thread.ensures c.in-Some.is

pub loop-threads-preserved : goal.loop-threads-preserved
loop-threads-preserved c =
    rw c.in_ok-push.ensures.ok (items-kept (threads_by_item c.args.names.now) c.loop-threads.threads c.in-Some.thread _ c.loop-threads.self c.next_thread.new.self _ c.loop-threads.invariant c.in_ok-thread.ensures c.in-Some.is)

pub returns : goal.returns
returns c = items-ended (threads_by_item c.args.names.now) c.loop-threads.threads _ c.loop-threads.self c.next_thread.new.self _ c.loop-threads.invariant c.in_ok-thread.ensures c.in_default.is
