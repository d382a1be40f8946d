use Rattle.std.proofs.Common.{◌≡◌, ◌∙◌, None, ap, arith, not, is_some, sym, true}
use Rattle.spec_records.specs.Words.{timer_at}
use Rattle.timer_src.proofs.Free.{all_taken, is_taken, lowest, none_of, one_free, taken_more}
use Rattle.timer_src.proofs.timers.Timers.lowest_free.Goals as goal

pub returns-then-is_none-clause-some : goal.returns-then-is_none-clause-some
returns-then-is_none-clause-some c =
    let p = c.args.process.0 in
    let ts = c.self.inside.table.items in
    let id = c.loop-id.id in
    let free : timer_at ts p id ≡ None = sym c.get.ensures.found ∙ none_of c.get.result (c.is_none.ensures ∙ ap not c.if-is_none.true) in
    let before = rw (← c.self.view_is) at c.loop-id.invariant.0 in
    rw (← c.self.view_is) (
      c.loop-id-test.true,
      free,
      sym (lowest p ts id c.loop-id-test.true before free),
      one_free p ts id c.self.invariant.2 c.get.ensures.distinct c.loop-id-test.true free,
    )

pub loop-id-preserved : goal.loop-id-preserved
loop-id-preserved c =
    let p = c.args.process.0 in
    let ts = c.self.inside.table.items in
    let before = rw (← c.self.view_is) at c.loop-id.invariant.0 in
    let here : is_taken p ts c.loop-id.id ≡ true = ap is_some (sym c.get.ensures.found) ∙ c.is_none.ensures ∙ ap not c.if-is_none.false in
    rw (← c.self.view_is) (taken_more p ts c.loop-id.id before here, λ h. c.get.ensures.distinct)

pub returns-clause-none : goal.returns-clause-none
returns-clause-none c =
    let p = c.args.process.0 in
    let ts = c.self.inside.table.items in
    let before = rw (← c.self.view_is) at c.loop-id.invariant.0 in
    let apart = rw (← c.self.view_is) at (c.loop-id.invariant.1 (omega arith)) in
    rw (← c.self.view_is) (all_taken p ts c.self.invariant.2 apart (λ k l. before k (omega arith)))
