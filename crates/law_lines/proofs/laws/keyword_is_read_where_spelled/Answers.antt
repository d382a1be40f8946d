use Rattle.law_lines.proofs.KeywordWords.{keyword-again, keyword-found, keyword-since}
use Rattle.law_lines.proofs.laws.keyword_is_read_where_spelled.Goals as goal

pub returns : goal.returns
returns c = record { again = keyword-again; found = keyword-found; since = keyword-since }
