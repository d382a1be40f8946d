use Rattle.std.proofs.Common.{◌≡◌, take}
use Rattle.std.specs.Prelude.{flat_map}
use Rattle.spec_requests.specs.Words.{greatest_data, piece_bytes}
use Rattle.thread_machine.specs.Slots.{slot_value}
use Rattle.thread_machine.proofs.variables.Variables.«data».Given as goal

abbrev pub invariant-loop-piece : goal.invariant-loop-piece
invariant-loop-piece l = l.bytes ≡ take greatest_data (flat_map (piece_bytes (slot_value l.self.set)) (take l.piece-index l.pieces))
