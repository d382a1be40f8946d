-- What is replied to a line, by the lines that were replied to before. There is no table and no cache: what a key stands for is
-- looked up in these lines, and so is whether a line was answered not long ago.
use Rattle.std.specs.Prelude.{ℕ, suc, ◌+◌, ◌&&◌, Bool, false, bytes_eq, codes, decimal, nat_le, nat_lt, not, List, [], ◌∷◌, ◌++◌, Option, Some, None, filter, filter_map, is_some, length, reverse, take, zero, if◌then◌else◌}
use Rattle.std.specs.BTreeSet.{insert_key}
use Rattle.std.specs.Cmp.Lexicographic.{slice_cmp}
use Rattle.std.specs.List.{list_any}
use Rattle.std.specs.Option.{unwrap_or}
use Rattle.std.specs.Ordering.{nat_cmp}
use Rattle.line_text.specs.Words.{spaced_words}
use Rattle.ncd_app.specs.Commands.{asks, command_of}
use Rattle.ncd_app.specs.declared.line.Change.{Change}
use Rattle.ncd_app.specs.declared.line.Command.TheVariants as command
use Rattle.ncd_app.specs.declared.line.Command.{Command}
use Rattle.ncd_app.specs.declared.line.Question.TheVariants.{Get, Who}
use Rattle.ncd_app.specs.declared.line.Question.{Question}
use Rattle.ncd_app.specs.declared.line.Record.TheVariants.{Alias, Value}
use Rattle.ncd_app.specs.declared.line.Record.{Record}

-- a line and what was replied to it
pub record Exchange : Type 0 where
  pub line : List ℕ
  pub reply : List ℕ

-- the line changed a record
abbrev pub is_ok : Exchange → Bool
is_ok x = bytes_eq x.reply (codes "ok")

-- ---- the records, by the lines that replied `ok`

-- what a line makes of a record, if it makes anything
abbrev pub change_in : Command → Option Change
change_in (command.Change c) = Some c
change_in (command.Ask q) = None
change_in command.Statistics = None
change_in command.Bad = None

-- what the lines that replied `ok` made of records, the last of them first, as all these lists are
abbrev pub changes : List Exchange → List Change
changes past = filter_map (λ x. change_in (command_of x.line)) (filter is_ok past)

-- a key's record: that of the last line for it
abbrev pub record_of : List Change → List ℕ → Option Record
record_of [] key = None
record_of (c ∷ earlier) key = if bytes_eq c.key key then c.made else record_of earlier key

-- the keys of the lines, each once, in order of bytes
abbrev pub keys_in_order : List Change → List (List ℕ)
keys_in_order [] = []
keys_in_order (c ∷ earlier) = insert_key (slice_cmp nat_cmp) (keys_in_order earlier) c.key

-- the keys that have a record
abbrev pub recorded : List Change → List (List ℕ)
recorded cs = filter (λ key. is_some (record_of cs key)) (keys_in_order cs)

-- ---- replies

-- a word, and other words after it
abbrev pub words_after : List ℕ → List (List ℕ) → List ℕ
words_after word words = word ++ spaced_words words

-- a record is this value
abbrev pub has_value : List ℕ → Option Record → Bool
has_value value None = false
has_value value (Some (Value v)) = bytes_eq value v
has_value value (Some (Alias target)) = false

-- what is found from a record on, where so many aliases may yet be followed
unfoldable pub found_from : List Change → ℕ → Option Record → List ℕ
found_from cs left None = codes "none"
found_from cs left (Some (Value v)) = words_after (codes "value") (v ∷ [])
found_from cs zero (Some (Alias target)) = codes "loop"
found_from cs (suc left) (Some (Alias target)) = found_from cs left (record_of cs target)

abbrev pub listed : List (List ℕ) → List ℕ
listed [] = codes "none"
listed (key ∷ keys) = words_after (codes "keys") (take 32 (key ∷ keys))

-- the answer to a question
abbrev pub answer : List Change → Question → List ℕ
answer cs (Get key) = found_from cs 8 (record_of cs key)
answer cs (Who value) = listed (filter (λ key. has_value value (record_of cs key)) (keys_in_order cs))

-- a record for this key finds no room
abbrev pub is_full : List Change → List ℕ → Bool
is_full cs key = nat_le 1024 (length (recorded cs)) && not (is_some (record_of cs key))

-- why a line makes nothing of a record, if it makes nothing
abbrev pub refusal_of : List Change → List ℕ → Option Record → Option (List ℕ)
refusal_of cs key (Some made) = if is_full cs key then Some (codes "full") else None
refusal_of cs key None = if is_some (record_of cs key) then None else Some (codes "none")

abbrev pub refusal : List Change → Change → Option (List ℕ)
refusal cs c = refusal_of cs c.key c.made

-- ---- hits, by which lines stand between

-- the lines that asked after the last that replied `ok`
abbrev pub asked : List Exchange → List (List ℕ)
asked [] = []
asked (last ∷ earlier) = if is_ok last then [] else (if asks (command_of last.line) then last.line ∷ asked earlier else asked earlier)

-- those that are other lines
abbrev pub without : List ℕ → List (List ℕ) → List (List ℕ)
without line lines = filter (λ other. not (bytes_eq line other)) lines

-- the different ones, each at its last place
abbrev pub different : List (List ℕ) → List (List ℕ)
different [] = []
different (line ∷ earlier) = line ∷ without line (different earlier)

-- those after the last place of a line
abbrev pub after : List ℕ → List (List ℕ) → List (List ℕ)
after line [] = []
after line (other ∷ earlier) = if bytes_eq line other then [] else other ∷ after line earlier

-- the line asked before, and fewer than 64 different others did since
abbrev pub is_hit : List Exchange → List ℕ → Bool
is_hit past line = list_any (bytes_eq line) (asked past) && nat_lt (length (different (after line (asked past)))) 64

-- how many of the lines that asked were hits, and how many were not
abbrev pub hits : List Exchange → ℕ
hits [] = 0
hits (last ∷ earlier) = (if asks (command_of last.line) && is_hit earlier last.line then 1 else 0) + hits earlier

abbrev pub misses : List Exchange → ℕ
misses [] = 0
misses (last ∷ earlier) = (if asks (command_of last.line) && not (is_hit earlier last.line) then 1 else 0) + misses earlier

abbrev pub statistics : ℕ → ℕ → List ℕ
statistics h m = words_after (codes "hits") (decimal h ∷ codes "misses" ∷ decimal m ∷ [])

-- ---- all of it

abbrev pub reply_to : List Exchange → Command → List ℕ
reply_to past (command.Change c) = unwrap_or (refusal (changes past) c) (codes "ok")
reply_to past (command.Ask q) = answer (changes past) q
reply_to past command.Statistics = statistics (hits past) (misses past)
reply_to past command.Bad = codes "bad"

abbrev pub exchange : List Exchange → List ℕ → Exchange
exchange past line = record { line = line; reply = reply_to past (command_of line) }

-- each of these lines with what was replied to it
abbrev pub exchanges : List (List ℕ) → List Exchange
exchanges [] = []
exchanges (line ∷ earlier) = exchange (exchanges earlier) line ∷ exchanges earlier

-- what is replied to a line after these, in the order in which they were replied to
abbrev pub reply : List (List ℕ) → List ℕ → List ℕ
reply lines line = reply_to (exchanges (reverse lines)) (command_of line)
