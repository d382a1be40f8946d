use Rattle.std.proofs.Common.{ℕ, ◌∙◌, arith, length, sym, take}
use Rattle.std.proofs.lemmas.List.{take_all}
use Rattle.std.proofs.lemmas.List.Elements.{All-more, All-same, All-weaker}
use Rattle.event_port.specs.Words.{HasRoomAt}
use Rattle.event_port.proofs.Changed.{KeepsRoom-then}
use Rattle.event_port.proofs.ports.Ports.room_for_each.Goals as goal

pub loop-p-preserved : goal.loop-p-preserved
loop-p-preserved c =
    let ps = c.args.ps.now in
    let i = c.loop-p.p-index in
    let HasRoom = λ (p : ℕ). HasRoomAt c.room.new.self.rooms p (length ps) in
    let before = All-weaker (λ p. HasRoomAt c.loop-p.self.rooms p (length ps)) HasRoom (λ p h. c.room.ensures.kept p (length ps) h) (take i ps) c.loop-p.invariant.2 in (
      c.room.ensures.ports ∙ c.loop-p.invariant.0,
      KeepsRoom-then c.args.self.now.rooms c.loop-p.self.rooms c.room.new.self.rooms c.loop-p.invariant.1 c.room.ensures.kept,
      All-more HasRoom ps i 0 (omega arith) before c.in_ok-room.ensures.ok,
    )

pub returns-clause-ok : goal.returns-clause-ok
returns-clause-ok c =
    let ps = c.args.ps.now in
    let i = c.loop-p.p-index in
    All-same (λ p. HasRoomAt c.loop-p.self.rooms p (length ps)) ps (take i ps) (sym (take_all i ps (omega arith))) c.loop-p.invariant.2
