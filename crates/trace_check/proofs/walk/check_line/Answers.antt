use Rattle.std.proofs.Common.{◌≡◌, true, false}
use Rattle.std.specs.Prelude.{bytes_eq}
use Rattle.trace_check.proofs.Steps.{IsTurn, has_budget, line_same, line_differs, tested}
use Rattle.trace_check.proofs.walk.check_line.Goals as goal

pub take_turn-requires-clause-left : goal.take_turn-requires-clause-left
take_turn-requires-clause-left c = has_budget c.args.sys.now c.requires

pub returns-then-is_same_line : goal.returns-then-is_same_line
returns-then-is_same_line c =
    let is : IsTurn c.args.sys.now c.take_turn.new.sys c.in-Some.t.0 c.events-number.result c.in_ok-want.want =
    record {
      step = c.in_ok-take_turn.ensures;
      count = c.events-number.ensures.count;
      event = c.event.result.now;
      last = c.event.ensures.event;
      told = c.script.result.now;
      same = c.script.ensures;
      line = c.in_ok-want.ensures;
    } in
    let test : bytes_eq c.args.have.now c.in_ok-want.want ≡ true =
    tested c.is_same_line.result c.args.have.now c.slice.result.now c.in_ok-want.want true c.if-is_same_line.true c.is_same_line.ensures c.slice.ensures in
    line_same _ _ _ _ _ is _ c.requires c.in-Some.ensures test

pub returns : goal.returns
returns c =
    let is : IsTurn c.args.sys.now c.take_turn.new.sys c.in-Some.t.0 c.events-number.result c.in_ok-want.want =
    record {
      step = c.in_ok-take_turn.ensures;
      count = c.events-number.ensures.count;
      event = c.event.result.now;
      last = c.event.ensures.event;
      told = c.script.result.now;
      same = c.script.ensures;
      line = c.in_ok-want.ensures;
    } in
    let test : bytes_eq c.args.have.now c.in_ok-want.want ≡ false =
    tested c.is_same_line.result c.args.have.now c.slice.result.now c.in_ok-want.want false c.if-is_same_line.false c.is_same_line.ensures c.slice.ensures in
    line_differs _ _ _ _ _ is _ c.requires c.in-Some.ensures c.in_ok-differs-2.field-0 c.slice-else-is_same_line.result.now test c.in_ok-differs-2.ensures c.slice-else-is_same_line.ensures
