-- What the reader's own contracts say of members: one at a time.
use Rattle.std.specs.Prelude.{ℕ, Bool, true, false, List, Option, Some, None}
use Rattle.line_reader.specs.ListContracts.{is_at_stop}
use Rattle.line_reader.specs.Words.{Reader, is_no_stop, next_word, pure, spelled_value, ◌>>=◌}
use Rattle.history_text.specs.Types.{Member}
use Rattle.history_text.specs.Declarations.{member_of}

abbrev pub member_unless : Bool → Reader (Option Member)
member_unless true = pure None
member_unless false = do
  kind ← next_word
  word ← next_word
  member ← spelled_value (member_of kind word)
  pure (Some member)

-- the next member, if there is one
abbrev pub next_member : Reader (Option Member)
next_member rest = member_unless (is_at_stop is_no_stop rest.words) rest
