use Rattle.std.proofs.Common.{◌++◌, ◌∷◌, [], ap, ◌∙◌}
use Rattle.line_text.specs.Words.{spaced_words}
use Rattle.line_forms.specs.Words.{fd_word}
use Rattle.line_writer.proofs.SpacedWords.{map_more}
use Rattle.line_writer.proofs.put_operands.put_ports.Goals as goal

pub loop-port-preserved : goal.loop-port-preserved
loop-port-preserved c =
    c.in_ok-put_fd.ensures ∙
    ap (λ text. text ++ spaced_words (fd_word c.port-item.result ∷ [])) c.loop-port.invariant ∙
    map_more fd_word c.args.ports.now c.loop-port.port-index c.port-item.result c.port-item.result c.args.text.now c.loop-port-test.true c.port-item.is
