use Rattle.name_space.specs.Words.{NameTable}
use Rattle.kernel_store.specs.Turning.{is_found_at}
use Rattle.kernel_store.proofs.Knowing.{knows_turned}
use Rattle.std.proofs.Common.{ap, ◌∙◌}
use Rattle.law_calls.specs.Words.{is_calling, is_given_item}
use Rattle.spec_records.specs.Words.{is_done}
use Rattle.law_calls.proofs.Backing.{turned as turned_backed}
use Rattle.kernel_store.proofs.Acts.{inside_dormant, inside_idle, state_is, turned}
use Rattle.kernel_store.proofs.Waits.{waits_turned}
use Rattle.kernel_store.proofs.store.Store.turn.Goals as goal

pub invariant_of-self : goal.invariant_of-self
invariant_of-self c =
    let state = state_is c.self.invariant.0 c.self.view_is c.args.t.0 in
    rw c.turn.ensures (
      turned c.self.invariant.0 c.self.view_is c.args.t.0 c.args.state c.requires.active.not_idle c.requires.active.not_dormant (inside_idle c.args.state c.requires.to_inside)
          (inside_dormant c.args.state c.requires.to_inside),
      c.self.invariant.1,
      turned_backed c.self.inside.processes c.self.inside.held.calls.tree c.self.invariant.0.calls c.self.invariant.2 c.args.t.0 c.args.state
          (ap is_calling state ∙ c.requires.active.not_calling) (ap is_given_item state ∙ c.requires.active.not_given) (ap is_done state ∙ c.requires.active.not_done)
          c.requires.to_inside,
      knows_turned c.self.inside.processes c.self.inside.held.names.names c.self.inside.named c.note_turn.new.named c.args.t.0 c.args.state
          (c.note_turn.ensures.here ∙ ap (λ (n : NameTable). is_found_at n.names c.args.state) c.names.ensures) c.note_turn.ensures.others c.self.invariant.3,
      c.self.invariant.4,
      waits_turned c.self.inside.processes c.self.inside.held c.self.inside.ports.ports.ports c.self.inside.ended c.note_wait.new.ended c.args.t.0 c.args.state c.note_wait.ensures.here c.note_wait.ensures.others c.self.invariant.5,
    )
