use Rattle.std.proofs.Common.{◌≡◌, ◌≤◌, ◌∙◌, length, take, ap, sym, arith, length-take}
use Rattle.std.specs.Prelude.{position}
use Rattle.thread_machine.specs.Slots.{Slots, is_named}
use Rattle.thread_machine.proofs.Slotted.{place-some, place-none}
use Rattle.thread_machine.proofs.variables.Variables.place.Goals as goal

pub returns-in-Some : goal.returns-in-Some
returns-in-Some c =
    place-some
    c.args.self.now.set
    c.args.name.now
    c.in-Some.place
    (ap (position (is_named c.args.name.now)) (sym c.set_ones.ensures) ∙ sym c.find.ensures ∙ c.in-Some.is)

pub returns-in-None : goal.returns-in-None
returns-in-None c =
    let few : c.self.inside.set ≤ length c.self.inside.variables.items = c.self.invariant
    in let seen : length (take c.self.inside.set c.self.inside.variables.items) ≡ length c.args.self.now.set =
    ap (λ (slots : Slots). length slots.set) c.self.view_is
    in let all : length (take c.self.inside.set c.self.inside.variables.items) ≡ c.self.inside.set =
    omega (arith, length-take c.self.inside.set c.self.inside.variables.items)
    in sym all
    ∙ seen
    ∙ place-none
    c.args.self.now.set
    c.args.name.now
    (ap (position (is_named c.args.name.now)) (sym c.set_ones.ensures) ∙ sym c.find.ensures ∙ c.in-None.is)
