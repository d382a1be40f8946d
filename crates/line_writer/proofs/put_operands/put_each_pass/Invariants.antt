use Rattle.std.proofs.Common.{◌≡◌, ◌++◌, take}
use Rattle.std.specs.Prelude.{map}
use Rattle.line_forms.specs.Words.{pass_word}
use Rattle.line_text.specs.Words.{spaced_words}
use Rattle.line_writer.proofs.put_operands.put_each_pass.Given as goal

abbrev pub invariant-loop-pass : goal.invariant-loop-pass
invariant-loop-pass l = l.text ≡ l.initial.text ++ spaced_words (map pass_word (take l.pass-index l.passes))
