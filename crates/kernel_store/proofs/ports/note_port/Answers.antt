use Rattle.std.proofs.Common.{ap, arith, length}
use Rattle.dk_base.proofs.ThreadMembers.{first_taken}
use Rattle.kernel_store.proofs.PortWaits.{none_asked, one_asked, waits_at_port}
use Rattle.kernel_store.proofs.ports.note_port.Goals as goal

pub loop-t-init : goal.loop-t-init
loop-t-init c = none_asked c.args.q c.args.processes.now c.args.held.now c.args.ports.now.ports.ports c.args.ended.now c.getting-rest.result c.getting-rest.ensures

pub loop-t-smaller : goal.loop-t-smaller
loop-t-smaller c =
    let t = c.in-Some.ensures in
    omega (arith, ap length (first_taken c.loop-t.rest c.put.new.self c.in-Some.t.0 t.first c.put.ensures t.within.0 t.within.1))

pub loop-t-preserved : goal.loop-t-preserved
loop-t-preserved c =
    one_asked c.args.q c.args.processes.now c.args.held.now c.args.ports.now.ports.ports c.args.ended.now c.loop-t.ended c.ask_at.new.ended c.loop-t.rest c.put.new.self c.in-Some.t.0
    c.put.ensures c.ask_at.ensures.asked c.ask_at.ensures.not_asked c.ask_at.ensures.others c.loop-t.invariant

pub returns : goal.returns
returns c = λ had before same known.
    waits_at_port c.args.processes.now had c.args.held.now before c.args.ports.now.ports.ports c.args.q c.args.ended.now c.loop-t.ended same
    (λ t w. c.loop-t.invariant.asked t (c.in_default.ensures.none t) w) c.loop-t.invariant.others known
