use Rattle.std.proofs.Common.{◌≡◌, ◌≤◌, ◌*◌, ◌++◌, ◌∷◌, flat_map, length, take}
use Rattle.trace_text.specs.Taken.{TakesAtMost}
use Rattle.history_text.specs.LineWords.{fd_word}
use Rattle.history_text.proofs.write_operands.push_ports.Given as goal

abbrev pub invariant-loop-port : goal.invariant-loop-port
invariant-loop-port l =
    (l.text.items ≡ l.fn.text.items ++ flat_map (λ port. 32 ∷ fd_word port) (take l.port-index l.ports))
    × TakesAtMost l.fn.text l.text (21 * l.port-index)
    × (21 * length l.ports ≤ l.fn.text.spare)
