-- The lists of operands, one item after another.
use Rattle.std.proofs.Common.{◌≡◌, ℕ, ◌<◌, Bool, true, false, cond, List, [], ◌∷◌, length, Some, Result, Ok, Err, refl, ap, sym, ◌∙◌, arith}
use Rattle.std.proofs.lemmas.Bool.{false≢true}
use Rattle.line_forms.specs.Words.{Tables}
use Rattle.line_reader.specs.Types.{Piece, Reason}
use Rattle.line_reader.specs.Combinators.{Rest, Reader, pure, value_with_rest, misspelling, then_read, items_to, ◌>>=◌}
use Rattle.line_reader.specs.Operands.{is_rsize, is_no_stop, pass_from_word, fd_from_word, piece_from_word, is_plus, more_pieces, thread_from_word}
use Rattle.line_reader.specs.ListContracts.{next_item, next_piece, piece_after}
use Rattle.line_reader.proofs.SkippedWords.{at_words, moved, skips-pass_from_word, skips-fd_from_word, skips-piece_from_word, skips-thread_from_word}
use Rattle.line_reader.proofs.ItemByItem.{IsByItem, items_by_item, onto, then_all, first_then, first_then-onto, first_at_words, if_at, is_taken, words_left}

pub passes_by_item : IsByItem (items_to is_rsize pass_from_word) (next_item is_rsize pass_from_word)
passes_by_item = items_by_item is_rsize pass_from_word skips-pass_from_word

pub ports_by_item : IsByItem (items_to is_no_stop fd_from_word) (next_item is_no_stop fd_from_word)
ports_by_item = items_by_item is_no_stop fd_from_word skips-fd_from_word

pub threads_by_item : (tables : Tables) → IsByItem (items_to is_no_stop (thread_from_word tables)) (next_item is_no_stop (thread_from_word tables))
threads_by_item tables = items_by_item is_no_stop (thread_from_word tables) (skips-thread_from_word tables)

-- data

abbrev pub pieces_left : Reader (List Piece)
pieces_left rest = more_pieces rest.words rest

more_pieces-at_words : (words others : List (List ℕ)) (rest : Rest) → more_pieces words (at_words others rest) ≡ more_pieces words rest
more_pieces-at_words [] others rest = refl
more_pieces-at_words (sign ∷ []) others rest = if_at (is_plus sign) misspelling (value_with_rest (sign ∷ []) []) (at_words others rest) rest refl refl
more_pieces-at_words (sign ∷ word ∷ words) others rest =
    if_at (is_plus sign) (piece_from_word word >>= first_then (more_pieces words)) (value_with_rest (sign ∷ word ∷ words) []) (at_words others rest) rest (
    ap (then_read (first_then (more_pieces words))) ((skips-piece_from_word word).same others rest) ∙
    first_at_words (more_pieces words) (λ o r. more_pieces-at_words words o r) others (piece_from_word word rest)) refl

piece_found : (words : List (List ℕ)) (found : Result (Piece × Rest) Reason) → then_read (first_then (more_pieces words)) found ≡ then_read (then_all pieces_left) (then_read (λ item. pure (Some item)) (moved words found))
piece_found words (Err reason) = refl
piece_found words (Ok found) =
    first_then-onto found.0 (more_pieces words found.1) ∙
    ap (onto (found.0 ∷ [])) (sym (more_pieces-at_words words words found.1))

-- the word `+`, where no word follows it
last_sign : (test : Bool) (sign : List ℕ) (in_range known : Bool)
    → let rest : Rest = record { words = sign ∷ []; in_range = in_range; known = known } in
    cond test misspelling (value_with_rest (sign ∷ []) []) rest ≡ then_read (then_all pieces_left) (then_read piece_after (cond test (value_with_rest [] true) (pure false) rest))
last_sign true sign in_range known = refl
last_sign false sign in_range known = refl

next_sign : (test : Bool) (sign word : List ℕ) (words : List (List ℕ)) (in_range known : Bool)
    → let rest : Rest = record { words = sign ∷ word ∷ words; in_range = in_range; known = known } in
    cond test (piece_from_word word >>= first_then (more_pieces words)) (value_with_rest (sign ∷ word ∷ words) []) rest ≡ then_read (then_all pieces_left) (then_read piece_after (cond test (value_with_rest (word ∷ words) true) (pure false) rest))
next_sign true sign word words in_range known =
    let rest : Rest = record { words = sign ∷ word ∷ words; in_range = in_range; known = known } in
    piece_found words (piece_from_word word rest) ∙
    ap (λ found. then_read (then_all pieces_left) (then_read (λ item. pure (Some item)) found)) (sym ((skips-piece_from_word word).same words rest))
next_sign false sign word words in_range known = refl

piece_of_words : (words : List (List ℕ)) (in_range known : Bool)
    → let rest : Rest = record { words = words; in_range = in_range; known = known } in
    pieces_left rest ≡ then_read (then_all pieces_left) (next_piece rest)
piece_of_words [] in_range known = refl
piece_of_words (sign ∷ []) in_range known = last_sign (is_plus sign) sign in_range known
piece_of_words (sign ∷ word ∷ words) in_range known = next_sign (is_plus sign) sign word words in_range known

fewer_after : (words : List (List ℕ)) (found : Result (Piece × Rest) Reason) (x : Piece) (new : Rest) → then_read (λ item. pure (Some item)) (moved words found) ≡ Ok (Some x, new) → new.words ≡ words
fewer_after words (Err reason) x new e = absurd (false≢true (ap is_taken e))
fewer_after words (Ok found) x new e = sym (ap words_left e)

fewer_last : (test : Bool) (sign : List ℕ) (in_range known : Bool) (x : Piece) (new : Rest)
    → let rest : Rest = record { words = sign ∷ []; in_range = in_range; known = known } in
    then_read piece_after (cond test (value_with_rest [] true) (pure false) rest) ≡ Ok (Some x, new) → length new.words < length (sign ∷ [])
fewer_last true sign in_range known x new e = absurd (false≢true (ap is_taken e))
fewer_last false sign in_range known x new e = absurd (false≢true (ap is_taken e))

fewer_sign : (test : Bool) (sign word : List ℕ) (words : List (List ℕ)) (in_range known : Bool) (x : Piece) (new : Rest)
    → let rest : Rest = record { words = sign ∷ word ∷ words; in_range = in_range; known = known } in
    then_read piece_after (cond test (value_with_rest (word ∷ words) true) (pure false) rest) ≡ Ok (Some x, new) → length new.words < length (sign ∷ word ∷ words)
fewer_sign true sign word words in_range known x new e =
    let rest : Rest = record { words = sign ∷ word ∷ words; in_range = in_range; known = known } in
    let moved_found = ap (then_read (λ item. pure (Some item))) (sym ((skips-piece_from_word word).same words rest)) ∙ e in
    let left : new.words ≡ words = fewer_after words (piece_from_word word rest) x new moved_found in
    let lengths : length new.words ≡ length words = ap length left in
    omega arith
fewer_sign false sign word words in_range known x new e = absurd (false≢true (ap is_taken e))

fewer_of_words : (words : List (List ℕ)) (in_range known : Bool) (x : Piece) (new : Rest)
    → let rest : Rest = record { words = words; in_range = in_range; known = known } in
    next_piece rest ≡ Ok (Some x, new) → length new.words < length words
fewer_of_words [] in_range known x new e = absurd (false≢true (ap is_taken e))
fewer_of_words (sign ∷ []) in_range known x new e = fewer_last (is_plus sign) sign in_range known x new e
fewer_of_words (sign ∷ word ∷ words) in_range known x new e = fewer_sign (is_plus sign) sign word words in_range known x new e

pub pieces_by_item : IsByItem pieces_left next_piece
pieces_by_item = record {
  step = λ rest. piece_of_words rest.words rest.in_range rest.known;
  fewer = λ rest new x found. fewer_of_words rest.words rest.in_range rest.known x new found;
}
