use Rattle.std.proofs.Common.{◌++◌, ◌∷◌, [], List, ◌≡◌, ap, sym, ◌∙◌}
use Rattle.spec_histories.specs.declared.entry.SeatEntry.{SeatEntry}
use Rattle.seat_desk.proofs.Desks.{grown, made, may_reply}
use Rattle.seat_desk.proofs.desk.Desk.make.Goals as goal

pub reply-requires-clause-fit : goal.reply-requires-clause-fit
reply-requires-clause-fit g c =
    (may_reply g.J.Opening.opening (g.K.Answers.keeps c.deref_mut.result.now) (g.K.Answers.keeps c.self.inside.kernel.value)
    c.self.inside.history.items
    c.args.self.now c.args.thread.0 c.args.act (ap g.K.Answers.keeps c.deref_mut.ensures.value) c.self.invariant
    c.self.view_is c.requires.fit c.requires.few).fit

pub reply-requires-clause-few : goal.reply-requires-clause-few
reply-requires-clause-few g c =
    (may_reply g.J.Opening.opening (g.K.Answers.keeps c.deref_mut.result.now) (g.K.Answers.keeps c.self.inside.kernel.value)
    c.self.inside.history.items
    c.args.self.now c.args.thread.0 c.args.act (ap g.K.Answers.keeps c.deref_mut.ensures.value) c.self.invariant
    c.self.view_is c.requires.fit c.requires.few).few

pub invariant_of-self-2 : goal.invariant_of-self-2
invariant_of-self-2 g c =
    let es : List SeatEntry = c.self.inside.history.items in
    let e : SeatEntry =
    record { seat = c.args.seat; number = c.args.number; thread = c.args.thread; act = c.args.act; reply = c.in_ok-act.field-0.kept } in
    let x : SeatEntry = record e { act = c.in_ok-act.field-0.act } in
    let more : c.push.new.self.items ≡ es ++ e ∷ [] =
    grown c.push.new.self.items c.reserve.new.self.items es x e c.push.ensures.items c.in_ok-reserve.ensures.items
    (λ i. record e { act = c.in_ok-act.ensures.act i }) in
    made g.J.Opening.opening (g.K.Answers.keeps c.deref_mut.result.now) (g.K.Answers.keeps c.self.inside.kernel.value)
    (g.K.Answers.keeps c.reply.new.kernel) es c.args.self.now c.push.new.self.items e (ap g.K.Answers.keeps c.deref_mut.ensures.value)
    c.self.invariant c.self.view_is more c.requires.number c.requires.fit c.in_ok-act.ensures.kept c.in_ok-act.ensures.state

pub returns-clause-done : goal.returns-clause-done
returns-clause-done g c =
    let e : SeatEntry =
    record { seat = c.args.seat; number = c.args.number; thread = c.args.thread; act = c.args.act; reply = c.in_ok-act.field-0.told } in
    let x : SeatEntry = record e { act = c.in_ok-act.field-0.act; reply = c.in_ok-act.field-0.kept } in
    grown c.push.new.self.items c.reserve.new.self.items c.args.self.now x e c.push.ensures.items
    (c.in_ok-reserve.ensures.items ∙ c.self.view_is)
    (λ i. record e { act = c.in_ok-act.ensures.act i; reply = sym c.in_ok-act.ensures.told i })

pub returns-clause-legal : goal.returns-clause-legal
returns-clause-legal g c = (invariant_of-self-2 g c).legal
