use Rattle.line_text.proofs.StringWords.{string_of-quoted_text, string_again}
use Rattle.line_text.proofs.StringsFound.{string_found}
use Rattle.line_text.proofs.laws.string_is_read_where_spelled.Goals as goal

pub returns : goal.returns
returns c = record { written = string_of-quoted_text; again = string_again; found = string_found }
