use Rattle.std.proofs.Common.{◌≡◌, ◌<◌, ◌≤◌, List, length, get_or, subst}
use Rattle.thread_machine.specs.Slots.{Slot}
use Rattle.thread_machine.proofs.Slotted.{slot_value-index, slot_value-past}
use Rattle.thread_machine.proofs.variables.Variables.get.Goals as goal

pub returns-then-place-set_ones : goal.returns-then-place-set_ones
returns-then-place-set_ones c =
    slot_value-index
    c.args.self.now.set
    c.args.name.now
    c.place-place.result
    c.index-set_ones-place.result
    c.place-place.ensures
    (subst (λ (slots : List Slot). c.place-place.result < length slots) c.set_ones-set_ones.ensures c.if-place-set_ones.true)
    (subst
    (λ (slots : List Slot). c.index-set_ones-place.result ≡ get_or slots c.place-place.result c.index-set_ones-place.result)
    c.set_ones-set_ones.ensures
    c.index-set_ones-place.is)

pub returns-else-place-set_ones : goal.returns-else-place-set_ones
returns-else-place-set_ones c =
    slot_value-past
    c.args.self.now.set
    c.args.name.now
    c.place-place.result
    c.place-place.ensures
    (subst (λ (slots : List Slot). length slots ≤ c.place-place.result) c.set_ones-set_ones.ensures c.if-place-set_ones.false)
