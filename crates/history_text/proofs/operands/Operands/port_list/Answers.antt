use Rattle.std.proofs.Common.{rules}
use Rattle.line_reader.specs.Combinators.{items_to}
use Rattle.line_reader.specs.OperandContracts.{Fails}
use Rattle.line_reader.specs.Operands.{is_no_stop}
use Rattle.line_reader.proofs.ItemByItem.{items-kept, items-ended, items-failed, items-fewer}
use Rattle.history_text.specs.Operands.{fd_from_word}
use Rattle.history_text.proofs.Skips.{ports_by_item}
use Rattle.history_text.proofs.operands.Operands.port_list.Goals as goal

pub returns-in_err-port : goal.returns-in_err-port
returns-in_err-port c =
    let fails : Fails (items_to is_no_stop fd_from_word c.args.self.now) c.in_err-port.field-0.0 =
    λ reason is. items-failed ports_by_item c.loop-ports.ports c.loop-ports.self reason _ c.loop-ports.invariant (c.in_err-port.ensures reason is) in
    search rules

pub loop-ports-smaller : goal.loop-ports-smaller
loop-ports-smaller c = items-fewer ports_by_item c.in-Some.port _ c.loop-ports.self c.next_port.new.self c.in_ok-port.ensures c.in-Some.is

pub loop-ports-preserved : goal.loop-ports-preserved
loop-ports-preserved c =
    rw c.in_ok-push.ensures.ok (items-kept ports_by_item c.loop-ports.ports c.in-Some.port _ c.loop-ports.self c.next_port.new.self _ c.loop-ports.invariant c.in_ok-port.ensures c.in-Some.is)

pub returns : goal.returns
returns c = items-ended ports_by_item c.loop-ports.ports _ c.loop-ports.self c.next_port.new.self _ c.loop-ports.invariant c.in_ok-port.ensures c.in_default.is
