-- A reader of operands fails with `form` or with `range` and with no other reason.
use Rattle.std.proofs.Common.{◌≡◌, ℕ, Bool, true, false, cond, ◌&&◌, List, [], ◌∷◌, Option, Some, None, Result, Ok, Err, refl, length}
use Rattle.std.specs.Prelude.{⊤, ◌==◌, nat_le, bytes_eq, codes, take}
use Rattle.line_reader.specs.Types.{Piece, Reason}
use Rattle.line_forms.specs.declared.reason.Reason.TheVariants.{Form, Range}
use Rattle.line_reader.specs.Words.{Reader, Rest, attributes, child, condition, declared_number, descriptor_number, fd, fd_from_word, fill_parts, first_of, is_no_stop, is_plus, is_rsize, items_from, items_to, list_in_range, misspelling, mode, more_pieces, name, name_from_word, next_word, nonempty_list, number, number_from_word, number_reader, op, optional_word, optional_word_of, param, parent, pass_from_word, pass_parts, passes, passes_after, path, piece_from_word, pieces, pieces_after, poll, ports, procedure, process, pure, rsize, rsize_after, spelled_value, text_piece, then_read, thread, thread_from_word, value, value_at_end, value_at_end_of, value_from_word, value_of_undeclared, value_out_of_range, value_with_rest, variable_parts, variable_piece, wait_option, ◌>>=◌}
use Rattle.line_forms.specs.Words.{Tables, attributes_of, child_number, cond_of, earlier_number, entry_number, greatest_64, mode_of, op_of, param_of, poll_of, process_number, thread_number}
use Rattle.line_text.specs.declared.number.Number.{Number}
use Rattle.line_text.specs.declared.number.Number.TheVariants.{Found, OutOfRange, NoNumber}
use Rattle.line_text.specs.Words.{bounded_number, is_name, part_before_last, parts_at, string_of}

abbrev pub is_of_operands : Reason → Bool
is_of_operands Form = true
is_of_operands Range = true
is_of_operands reason = false

abbrev pub FailsByOperands : {A : Type 0} → Result (A × Rest) Reason → Type 0
FailsByOperands (Err reason) = is_of_operands reason ≡ true
FailsByOperands (Ok found) = ⊤

pub record ByOperands {A : Type 0} (read : Reader A) : Type 0 where
  pub fails : (rest : Rest) → FailsByOperands (read rest)

pub fails-pure : {A : Type 0} (x : A) → ByOperands (pure x)
fails-pure x = record { fails = λ rest. tt }

pub fails-misspelling : {A : Type 0} → ByOperands {A = A} misspelling
fails-misspelling = record { fails = λ rest. refl }

fails-value_with_rest : {A : Type 0} (words : List (List ℕ)) (x : A) → ByOperands (value_with_rest words x)
fails-value_with_rest words x = record { fails = λ rest. tt }

fails-value_out_of_range : {A : Type 0} (x : A) → ByOperands (value_out_of_range x)
fails-value_out_of_range x = record { fails = λ rest. tt }

fails-value_of_undeclared : {A : Type 0} (x : A) → ByOperands (value_of_undeclared x)
fails-value_of_undeclared x = record { fails = λ rest. tt }

then_fails : {A B : Type 0} (next : A → Reader B) → ((x : A) → ByOperands (next x)) → (found : Result (A × Rest) Reason) → FailsByOperands found → FailsByOperands (then_read next found)
then_fails next others (Err reason) h = h
then_fails next others (Ok found) h = (others found.0).fails found.1

pub fails-then : {A B : Type 0} (read : Reader A) (next : A → Reader B) → ByOperands read → ((x : A) → ByOperands (next x)) → ByOperands (read >>= next)
fails-then read next first others = record { fails = λ rest. then_fails next others (read rest) (first.fails rest) }

fails-if : {A : Type 0} (test : Bool) (one other : Reader A) → ByOperands one → ByOperands other → ByOperands (cond test one other)
fails-if true one other one_fails other_fails = one_fails
fails-if false one other one_fails other_fails = other_fails

fails-spelled_value : {A : Type 0} (value : Option A) → ByOperands (spelled_value value)
fails-spelled_value None = fails-misspelling
fails-spelled_value (Some x) = fails-pure x

fails-declared_number : (number : Option ℕ) → ByOperands (declared_number number)
fails-declared_number None = fails-value_of_undeclared 0
fails-declared_number (Some n) = fails-pure n

fails-first_of : (words : List (List ℕ)) → ByOperands (first_of words)
fails-first_of [] = fails-misspelling
fails-first_of (word ∷ words) = fails-value_with_rest words word

fails-next_word : ByOperands next_word
fails-next_word = record { fails = λ rest. (fails-first_of rest.words).fails rest }

fails-optional_word_of : (keyword : List ℕ) (words : List (List ℕ)) → ByOperands (optional_word_of keyword words)
fails-optional_word_of keyword [] = fails-pure false
fails-optional_word_of keyword (word ∷ words) = fails-if (bytes_eq word keyword) _ _ (fails-value_with_rest words true) (fails-pure false)

pub fails-optional_word : (keyword : List ℕ) → ByOperands (optional_word keyword)
fails-optional_word keyword = record { fails = λ rest. (fails-optional_word_of keyword rest.words).fails rest }

fails-value_at_end_of : {A : Type 0} (x : A) (words : List (List ℕ)) (in_range : Bool) → ByOperands (value_at_end_of x words in_range)
fails-value_at_end_of x [] true = fails-pure x
fails-value_at_end_of x [] false = record { fails = λ rest. refl }
fails-value_at_end_of x (word ∷ words) in_range = fails-misspelling

pub fails-value_at_end : {A : Type 0} (x : A) → ByOperands (value_at_end x)
fails-value_at_end x = record { fails = λ rest. (fails-value_at_end_of x rest.words rest.in_range).fails rest }

fails-items_from : {A : Type 0} (stops : List ℕ → Bool) (read : List ℕ → Reader A) → ((word : List ℕ) → ByOperands (read word)) → (words : List (List ℕ)) → ByOperands (items_from stops read words)
fails-items_from stops read each [] = fails-value_with_rest [] []
fails-items_from stops read each (word ∷ words) =
    fails-if (stops word) _ _ (fails-value_with_rest (word ∷ words) [])
    (fails-then (read word) _ (each word) (λ first. fails-then (items_from stops read words) _ (fails-items_from stops read each words) (λ others. fails-pure _)))

pub fails-items_to : {A : Type 0} (stops : List ℕ → Bool) (read : List ℕ → Reader A) → ((word : List ℕ) → ByOperands (read word)) → ByOperands (items_to stops read)
fails-items_to stops read each = record { fails = λ rest. (fails-items_from stops read each rest.words).fails rest }

pub fails-list_in_range : {A : Type 0} (low high : ℕ) (items : List A) → ByOperands (list_in_range low high items)
fails-list_in_range low high items = fails-if (nat_le low (length items) && nat_le (length items) high) _ _ (fails-pure items) fails-misspelling

pub fails-nonempty_list : {A : Type 0} (items : List A) → ByOperands (nonempty_list items)
fails-nonempty_list [] = fails-misspelling
fails-nonempty_list (item ∷ items) = fails-pure (item ∷ items)

-- operands

fails-number_reader : (number : Number) → ByOperands (number_reader number)
fails-number_reader (Found n) = fails-pure n
fails-number_reader OutOfRange = fails-value_out_of_range 0
fails-number_reader NoNumber = fails-misspelling

fails-number_from_word : (low high : ℕ) (word : List ℕ) → ByOperands (number_from_word low high word)
fails-number_from_word low high word = fails-number_reader (bounded_number low high word)

fails-name_from_word : (word : List ℕ) → ByOperands (name_from_word word)
fails-name_from_word word = fails-if (is_name word) (pure word) misspelling (fails-pure word) fails-misspelling

fails-variable_parts : (word : List ℕ) (parts : Option (List ℕ × List ℕ)) → ByOperands (variable_parts word parts)
fails-variable_parts word None = fails-then (name_from_word word) _ (fails-name_from_word word) (λ variable. fails-pure _)
fails-variable_parts word (Some parts) =
    fails-then (name_from_word parts.0) _ (fails-name_from_word parts.0) (λ variable. fails-then (number_from_word 0 15 parts.1) _ (fails-number_from_word 0 15 parts.1) (λ k. fails-pure _))

fails-descriptor_number : (word : List ℕ) → ByOperands (descriptor_number word)
fails-descriptor_number word = fails-then (number_from_word 0 255 word) _ (fails-number_from_word 0 255 word) (λ n. fails-pure _)

fails-fd_from_word : (word : List ℕ) → ByOperands (fd_from_word word)
fails-fd_from_word [] = fails-misspelling
fails-fd_from_word (b ∷ bs) = fails-if (b == 36) _ _ (fails-variable_parts bs (parts_at 46 bs)) (fails-descriptor_number (b ∷ bs))

fails-pass_parts : (word : List ℕ) (front : Option (List ℕ)) → ByOperands (pass_parts word front)
fails-pass_parts word None = fails-then (fd_from_word word) _ (fails-fd_from_word word) (λ fd. fails-pure _)
fails-pass_parts word (Some front) = fails-then (fd_from_word front) _ (fails-fd_from_word front) (λ fd. fails-pure _)

fails-pass_from_word : (word : List ℕ) → ByOperands (pass_from_word word)
fails-pass_from_word word = fails-pass_parts word (part_before_last 33 word)

fails-text_piece : (word : List ℕ) → ByOperands (text_piece word)
fails-text_piece word = fails-then (spelled_value (string_of word)) _ (fails-spelled_value (string_of word)) (λ text. fails-pure _)

fails-variable_piece : (word : List ℕ) → ByOperands (variable_piece word)
fails-variable_piece word = fails-then (name_from_word word) _ (fails-name_from_word word) (λ variable. fails-pure _)

fails-fill_parts : (parts : Option (List ℕ × List ℕ)) → ByOperands (fill_parts parts)
fails-fill_parts None = fails-misspelling
fails-fill_parts (Some parts) =
    fails-if (bytes_eq parts.0 (codes "fill")) _ _ (fails-then (number_from_word 0 8192 parts.1) _ (fails-number_from_word 0 8192 parts.1) (λ n. fails-pure _)) fails-misspelling

fails-piece_from_word : (word : List ℕ) → ByOperands (piece_from_word word)
fails-piece_from_word [] = fails-misspelling
fails-piece_from_word (b ∷ bs) =
    fails-if (b == 34) _ _ (fails-text_piece (b ∷ bs)) (fails-if (b == 36) _ _ (fails-variable_piece bs) (fails-fill_parts (parts_at 58 (b ∷ bs))))

pub fails-thread_from_word : (tables : Tables) (word : List ℕ) → ByOperands (thread_from_word tables word)
fails-thread_from_word tables word =
    fails-then (name_from_word word) _ (fails-name_from_word word) (λ name. fails-then (declared_number (thread_number tables name)) _ (fails-declared_number (thread_number tables name)) (λ n. fails-pure _))

-- operands of a line

after_word : {A : Type 0} (read : List ℕ → Reader A) → ((word : List ℕ) → ByOperands (read word)) → ByOperands (next_word >>= read)
after_word read each = fails-then next_word read fails-next_word each

pub fails-number : (low high : ℕ) → ByOperands (number low high)
fails-number low high = after_word (number_from_word low high) (fails-number_from_word low high)

pub fails-name : ByOperands name
fails-name = after_word name_from_word fails-name_from_word

pub fails-procedure : (tables : Tables) (process : ℕ) → ByOperands (procedure tables process)
fails-procedure tables process = fails-then name _ fails-name (λ bytes. fails-declared_number (entry_number tables process bytes))

pub fails-thread : (tables : Tables) → ByOperands (thread tables)
fails-thread tables = after_word (thread_from_word tables) (fails-thread_from_word tables)

pub fails-process : (tables : Tables) → ByOperands (process tables)
fails-process tables = fails-then name _ fails-name (λ bytes. fails-then (declared_number (process_number tables bytes)) _ (fails-declared_number (process_number tables bytes)) (λ n. fails-pure _))

pub fails-parent : (tables : Tables) (before : ℕ) → ByOperands (parent tables before)
fails-parent tables before = fails-then name _ fails-name (λ bytes. fails-then (declared_number (earlier_number (take before tables.processes) bytes)) _ (fails-declared_number (earlier_number (take before tables.processes) bytes)) (λ n. fails-pure _))

pub fails-child : (tables : Tables) (process : ℕ) → ByOperands (child tables process)
fails-child tables process = fails-then name _ fails-name (λ bytes. fails-then (declared_number (child_number tables process bytes)) _ (fails-declared_number (child_number tables process bytes)) (λ n. fails-pure _))

pub fails-path : (tables : Tables) → ByOperands (path tables)
fails-path tables = fails-then name _ fails-name (λ bytes. fails-pure _)

pub fails-fd : ByOperands fd
fails-fd = after_word fd_from_word fails-fd_from_word

pub fails-poll : ByOperands poll
fails-poll = after_word (λ bytes. spelled_value (poll_of bytes)) (λ bytes. fails-spelled_value (poll_of bytes))

pub fails-param : ByOperands param
fails-param = after_word (λ bytes. spelled_value (param_of bytes)) (λ bytes. fails-spelled_value (param_of bytes))

pub fails-mode : ByOperands mode
fails-mode = after_word (λ bytes. spelled_value (mode_of bytes)) (λ bytes. fails-spelled_value (mode_of bytes))

pub fails-op : ByOperands op
fails-op = after_word (λ bytes. spelled_value (op_of bytes)) (λ bytes. fails-spelled_value (op_of bytes))

pub fails-condition : ByOperands condition
fails-condition = after_word (λ bytes. spelled_value (cond_of bytes)) (λ bytes. fails-spelled_value (cond_of bytes))

pub fails-value : ByOperands value
fails-value = after_word value_from_word (λ bytes. fails-if (bytes_eq bytes (codes "max")) _ _ (fails-pure greatest_64) (fails-number_from_word 0 greatest_64 bytes))

fails-passes_after : (begins : Bool) → ByOperands (passes_after begins)
fails-passes_after false = fails-pure []
fails-passes_after true = fails-then (items_to is_rsize pass_from_word) _ (fails-items_to is_rsize pass_from_word fails-pass_from_word) (λ given. fails-list_in_range 1 32 given)

pub fails-passes : ByOperands passes
fails-passes = fails-then (optional_word (codes "desc")) _ (fails-optional_word (codes "desc")) fails-passes_after

fails-rsize_after : (begins : Bool) → ByOperands (rsize_after begins)
fails-rsize_after false = fails-pure 4096
fails-rsize_after true = fails-number 0 greatest_64

pub fails-rsize : ByOperands rsize
fails-rsize = fails-then (optional_word (codes "rsize")) _ (fails-optional_word (codes "rsize")) fails-rsize_after

pub fails-ports : ByOperands ports
fails-ports = fails-then (items_to is_no_stop fd_from_word) _ (fails-items_to is_no_stop fd_from_word fails-fd_from_word) (λ fds. fails-list_in_range 1 16 fds)

fails-more_pieces : (words : List (List ℕ)) → ByOperands (more_pieces words)
fails-more_pieces [] = fails-value_with_rest [] []
fails-more_pieces (sign ∷ []) = fails-if (is_plus sign) _ _ fails-misspelling (fails-value_with_rest (sign ∷ []) [])
fails-more_pieces (sign ∷ bytes ∷ words) =
    fails-if (is_plus sign) _ _
    (fails-then (piece_from_word bytes) _ (fails-piece_from_word bytes) (λ first. fails-then (more_pieces words) _ (fails-more_pieces words) (λ others. fails-pure _)))
    (fails-value_with_rest (sign ∷ bytes ∷ words) [])

fails-pieces_after : (first : Piece) → ByOperands (pieces_after first)
fails-pieces_after first = record { fails = λ rest. (fails-then (more_pieces rest.words) (λ others. pure (first ∷ others)) (fails-more_pieces rest.words) (λ others. fails-pure _)).fails rest }

pub fails-pieces : ByOperands pieces
fails-pieces = after_word (λ bytes. piece_from_word bytes >>= pieces_after) (λ bytes. fails-then (piece_from_word bytes) _ (fails-piece_from_word bytes) fails-pieces_after)

pub fails-attributes : ByOperands attributes
fails-attributes = record { fails = λ rest. (fails-then (spelled_value (attributes_of rest.words)) (value_with_rest []) (fails-spelled_value (attributes_of rest.words)) (λ set. fails-value_with_rest [] set)).fails rest }

pub fails-wait_option : ByOperands wait_option
fails-wait_option = fails-then (optional_word (codes "nowait")) _ (fails-optional_word (codes "nowait")) (λ nowait. fails-pure _)
