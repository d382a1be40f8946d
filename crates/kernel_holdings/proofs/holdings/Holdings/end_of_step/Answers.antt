use Rattle.std.proofs.Common.{◌++◌, ap, arith, filter, length, ◌∙◌}
use Rattle.std.proofs.lemmas.List.{length-append}
use Rattle.std.proofs.lemmas.List.Sums.{count_by-le-length, length-filter}
use Rattle.spec_records.specs.Words.{notice_doors}
use Rattle.unref_notice.specs.Words.{was_shared}
use Rattle.kernel_holdings.specs.Words.{HoldingsValue, takes}
use Rattle.kernel_holdings.proofs.Telling.{fewer_fell, told_held}
use Rattle.kernel_holdings.proofs.holdings.Holdings.end_of_step.Goals as goal

pub tell-requires : goal.tell-requires
tell-requires c =
    let h = c.self.inside in
    let doors = c.args.doors.now.items in
    let found = c.end_of_step.ensures in
    let told =
    told_held h.counts h.tables h.names.names h.calls.tree.calls c.self.invariant.0 doors c.end_of_step.new.self.fallen c.requires.numbered found.order found.each in
    let fewer = fewer_fell h.counts h.tables h.names.names h.calls.tree.calls c.self.invariant.0 (notice_doors doors) in
    let shared = ap (λ (v : HoldingsValue). length (filter (was_shared v.opening) (notice_doors doors))) c.self.view_is in
    omega (arith, ap (λ ds. length (filter (takes doors) ds)) c.fallen.ensures, ap length told, fewer, shared, c.requires.room)

pub returns-clause-items : goal.returns-clause-items
returns-clause-items c =
    let h = c.self.inside in
    let doors = c.args.doors.now.items in
    let found = c.end_of_step.ensures in
    rw (← c.self.view_is)
    (c.tell.ensures
    ∙ ap (λ ds. c.args.into.now.items ++ filter (takes doors) ds) c.fallen.ensures
    ∙ ap (λ ds. c.args.into.now.items ++ ds)
    (told_held h.counts h.tables h.names.names h.calls.tree.calls c.self.invariant.0 doors c.end_of_step.new.self.fallen c.requires.numbered found.order found.each))

pub returns-clause-few : goal.returns-clause-few
returns-clause-few c =
    let kept = count_by-le-length (takes c.args.doors.now.items) c.fallen.result.now in
    let filtered = length-filter (takes c.args.doors.now.items) c.fallen.result.now in
    omega (arith, ap length c.tell.ensures, length-append c.args.into.now.items (filter (takes c.args.doors.now.items) c.fallen.result.now), kept, filtered, ap length c.fallen.ensures, c.end_of_step.ensures.few)
