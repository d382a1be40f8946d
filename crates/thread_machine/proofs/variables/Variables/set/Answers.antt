use Rattle.std.proofs.Common.{◌≡◌, ◌<◌, ◌≤◌, length, take, ap, arith}
use Rattle.spec_requests.specs.Words.{with_both}
use Rattle.thread_machine.specs.Slots.{Slots, place_of}
use Rattle.thread_machine.proofs.Slotted.{place-within, set-next, set-there}
use Rattle.thread_machine.proofs.variables.Variables.set.Goals as goal

pub index_mut-requires : goal.index_mut-requires
index_mut-requires c =
    let few : c.self.inside.set ≤ length c.self.inside.variables.items = c.self.invariant
    in let room : 0 < c.args.self.now.spare = c.requires.room
    in let spare = ap (λ (slots : Slots). slots.spare) c.self.view_is
    in let seen = ap (λ (slots : Slots). slots.set) c.self.view_is
    in let le : place_of (take c.self.inside.set c.self.inside.variables.items) c.args.name.now ≤ c.self.inside.set =
    place-within c.self.inside.variables.items c.self.inside.set c.args.name.now few
    in let there : c.place-place.result ≡ place_of (take c.self.inside.set c.self.inside.variables.items) c.args.name.now =
    rw seen c.place-place.ensures
    in omega arith

pub returns-then-place-self-clause-held : goal.returns-then-place-self-clause-held
returns-then-place-self-clause-held c =
    λ values h name.
    let room : 0 < c.args.self.now.spare = c.requires.room
    in let spare = ap (λ (slots : Slots). slots.spare) c.self.view_is
    in let few : c.self.inside.set < length c.self.inside.variables.items = omega arith
    in set-next
    c.self.inside.variables.items
    c.args.self.now.set
    c.self.inside.set
    c.place-place.result
    c.set.new.self
    c.args.name.now
    (with_both c.args.bytes.now c.args.descriptors.now)
    values
    name
    (ap (λ (slots : Slots). slots.set) c.self.view_is)
    few
    c.place-place.ensures
    c.if-place-self.true
    c.set.ensures.name
    c.set.ensures.value
    h

pub returns-else-place-self-clause-held : goal.returns-else-place-self-clause-held
returns-else-place-self-clause-held c =
    λ values h name. set-there
    c.self.inside.variables.items
    c.args.self.now.set
    c.self.inside.set
    c.place-place.result
    c.set.new.self
    c.args.name.now
    (with_both c.args.bytes.now c.args.descriptors.now)
    values
    name
    (ap (λ (slots : Slots). slots.set) c.self.view_is)
    c.self.invariant
    c.place-place.ensures
    c.if-place-self.false
    c.set.ensures.name
    c.set.ensures.value
    h
