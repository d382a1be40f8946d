use Rattle.line_text.proofs.JoinedWords.{words_of-joined_words, is_word-plain}
use Rattle.line_text.proofs.PartWords.{is_plain-name}
use Rattle.line_text.proofs.DecimalWords.{is_plain-decimal}
use Rattle.line_text.proofs.StringsFound.{is_word-string}
use Rattle.line_text.proofs.laws.words_are_read_back.Goals as goal

pub returns : goal.returns
returns c =
    record { joined = words_of-joined_words; plain = is_word-plain; name = is_plain-name; number = is_plain-decimal; string = is_word-string }
