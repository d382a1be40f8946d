use Rattle.std.proofs.Common.{◌≡◌, ◌++◌, take}
use Rattle.std.specs.Prelude.{map}
use Rattle.line_forms.specs.Words.{fd_word}
use Rattle.line_text.specs.Words.{spaced_words}
use Rattle.line_writer.proofs.put_operands.put_ports.Given as goal

abbrev pub invariant-loop-port : goal.invariant-loop-port
invariant-loop-port l = l.text ≡ l.initial.text ++ spaced_words (map fd_word (take l.port-index l.ports))
