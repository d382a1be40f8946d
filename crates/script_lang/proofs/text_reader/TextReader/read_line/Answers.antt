use Rattle.std.proofs.Common.{◌∷◌}
use Rattle.script_lang.specs.TextReaderContracts.{remaining_result}
use Rattle.script_lang.proofs.ReaderSteps.{refused}
use Rattle.script_lang.proofs.text_reader.TextReader.read_line.Goals as goal

pub returns-in-Err-clause-read : goal.returns-in-Err-clause-read
returns-in-Err-clause-read c = λ lines.
    rw c.at.ensures (refused (remaining_result c.args.self.now (c.args.line.now ∷ lines)) c.args.self.now.number c.in-Err.fault (λ reason is. c.in-Err.ensures.read reason is lines))
