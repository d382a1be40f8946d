-- Data, descriptors to be passed and `rsize`, and what may follow them.
use Rattle.std.proofs.Common.{◌≡◌, ℕ, Bool, true, false, cond, not, List, [], ◌∷◌, ◌++◌, Result, Ok, refl, ap, sym, ◌∙◌, subst}
use Rattle.std.specs.Prelude.{bytes_eq, codes, flat_map, map}
use Rattle.std.specs.List.{list_all}
use Rattle.std.proofs.lemmas.Bool.{false≢true}
use Rattle.std.proofs.lemmas.Slice.Eq.{bytes_eq-Decides}
use Rattle.line_text.specs.Words.{is_word}
use Rattle.line_reader.specs.Types.{Piece, Reason}
use Rattle.line_reader.specs.Words.{Reader, Rest, is_at_stop, is_plus, items_from, misspelling, more_pieces, piece_from_word, pieces, pieces_after, pure, then_read, value_with_rest, ◌>>=◌}
use Rattle.line_forms.specs.Words.{Each, Spelling, SpellsMorePieces, SpellsPieces, data_words, joined_piece, piece_word}
use Rattle.line_reader.proofs.SkippedWords.{at_words}
use Rattle.line_reader.proofs.ItemByItem.{first_then}
use Rattle.law_lines.proofs.Given.{Clean, same_value, same_rest, no_answer, in_turn}
use Rattle.law_lines.proofs.DescriptorWords.{Gave}
use Rattle.law_lines.proofs.PieceWords.{piece_found, piece_again, piece_written, piece_is_word}

-- What an operand of several words says: nothing before it was out of range, and where its continuation holds of the
-- words that it left, it holds of its own.
pub record GaveAll (Spells : Spelling → Spelling) (words : List (List ℕ)) (rest new : Rest) : Type 1 where
  pub clean : Clean rest
  pub spells : (Next : Spelling) → Next new.words → Spells Next words

-- an operand of several words is read, and its continuation holds of the words that are left
pub record ReadAll {A : Type 0} (read : List (List ℕ) → Reader A) (x : A) (Next : Spelling) (words : List (List ℕ)) : Type 0 where
  pub left : List (List ℕ)
  pub next : Next left
  pub reads : (rest : Rest) → read words rest ≡ Ok (x, at_words left rest)

clean_at : (words : List (List ℕ)) (rest new : Rest) → at_words words rest ≡ new → Clean new → Clean rest
clean_at words rest new e clean = record { in_range = ap (λ r. r.in_range) e ∙ clean.in_range; known = ap (λ r. r.known) e ∙ clean.known }

left_words : (words : List (List ℕ)) (rest new : Rest) → at_words words rest ≡ new → (Next : Spelling) → Next new.words → Next words
left_words words rest new e Next next = subst Next (sym (ap (λ r. r.words) e)) next

-- lists of words

items_nothing : {A : Type 0} (Spells : A → List ℕ → Type 0) (words : List (List ℕ)) (rest : Rest) (xs : List A) (new : Rest) → ◌≡◌ {A = Result (List A × Rest) Reason} (Ok ([], at_words words rest)) (Ok (xs, new)) → Clean new → GaveAll (Each Spells xs) words rest new
items_nothing Spells words rest xs new e clean =
    subst (λ ys. GaveAll (Each Spells ys) words rest new) (same_value e) (record {
      clean = clean_at words rest new (same_rest e) clean;
      spells = left_words words rest new (same_rest e);
    })

items_one : {A : Type 0} (Spells : A → List ℕ → Type 0) (read : List ℕ → Reader A) (others : Reader (List A)) → ((word : List ℕ) (rest : Rest) (x : A) (new : Rest) → read word rest ≡ Ok (x, new) → Clean new → Gave Spells x word rest new)
    → (word : List ℕ) (words : List (List ℕ)) (rest : Rest) (xs : List A) (new : Rest) → ((rest : Rest) (xs : List A) (new : Rest) → others rest ≡ Ok (xs, new) → Clean new → GaveAll (Each Spells xs) words rest new)
    → then_read (first_then others) (read word rest) ≡ Ok (xs, new) → Clean new → GaveAll (Each Spells xs) (word ∷ words) rest new
items_one Spells read others found word words rest xs new later e clean =
    let turn = in_turn (read word) (first_then others) rest xs new e in
    let after = in_turn others (λ ys. pure (turn.x ∷ ys)) turn.mid xs new turn.then in
    let last : after.mid ≡ new = same_rest after.then in
    let tail = later turn.mid after.x after.mid after.first (subst Clean (sym last) clean) in
    let head = found word rest turn.x turn.mid turn.first tail.clean in
    subst (λ ys. GaveAll (Each Spells ys) (word ∷ words) rest new) (same_value after.then) (record {
      clean = subst Clean head.same tail.clean;
      spells = λ Next next. (head.spells, tail.spells Next (subst (λ r. Next r.words) (sym last) next));
    })

items_if : {A : Type 0} (Spells : A → List ℕ → Type 0) (read : List ℕ → Reader A) (others : Reader (List A)) → ((word : List ℕ) (rest : Rest) (x : A) (new : Rest) → read word rest ≡ Ok (x, new) → Clean new → Gave Spells x word rest new)
    → (test : Bool) (word : List ℕ) (words : List (List ℕ)) (rest : Rest) (xs : List A) (new : Rest) → ((rest : Rest) (xs : List A) (new : Rest) → others rest ≡ Ok (xs, new) → Clean new → GaveAll (Each Spells xs) words rest new)
    → cond test (value_with_rest (word ∷ words) []) (read word >>= first_then others) rest ≡ Ok (xs, new) → Clean new → GaveAll (Each Spells xs) (word ∷ words) rest new
items_if Spells read others found true word words rest xs new later e clean = items_nothing Spells (word ∷ words) rest xs new e clean
items_if Spells read others found false word words rest xs new later e clean = items_one Spells read others found word words rest xs new later e clean

pub items_found : {A : Type 0} (Spells : A → List ℕ → Type 0) (stops : List ℕ → Bool) (read : List ℕ → Reader A) → ((word : List ℕ) (rest : Rest) (x : A) (new : Rest) → read word rest ≡ Ok (x, new) → Clean new → Gave Spells x word rest new)
    → (words : List (List ℕ)) (rest : Rest) (xs : List A) (new : Rest) → items_from stops read words rest ≡ Ok (xs, new) → Clean new → GaveAll (Each Spells xs) words rest new
items_found Spells stops read found [] rest xs new e clean = items_nothing Spells [] rest xs new e clean
items_found Spells stops read found (word ∷ words) rest xs new e clean =
    items_if Spells read (items_from stops read words) found (stops word) word words rest xs new (items_found Spells stops read found words) e clean

nothing_read : {A : Type 0} (stops : List ℕ → Bool) (read : List ℕ → Reader A) (words : List (List ℕ)) (rest : Rest) → is_at_stop stops words ≡ true → items_from stops read words rest ≡ Ok ([], at_words words rest)
nothing_read stops read [] rest stop = refl
nothing_read stops read (word ∷ words) rest stop = ap (λ test. cond test (value_with_rest (word ∷ words) []) (read word >>= first_then (items_from stops read words)) rest) stop

pub items_again : {A : Type 0} (Spells : A → List ℕ → Type 0) (stops : List ℕ → Bool) (read : List ℕ → Reader A) → ((x : A) (word : List ℕ) (rest : Rest) → Spells x word → read word rest ≡ Ok (x, rest)) → ((x : A) (word : List ℕ) → Spells x word → stops word ≡ false)
    → (Next : Spelling) → ((words : List (List ℕ)) → Next words → is_at_stop stops words ≡ true) → (xs : List A) (words : List (List ℕ)) → Each Spells xs Next words → ReadAll (items_from stops read) xs Next words
items_again Spells stops read again on Next stop [] words spells = record { left = words; next = spells; reads = λ rest. nothing_read stops read words rest (stop words spells) }
items_again Spells stops read again on Next stop (x ∷ xs) [] spells = absurd spells
items_again Spells stops read again on Next stop (x ∷ xs) (word ∷ words) spells =
    let later = items_again Spells stops read again on Next stop xs words spells.1 in
    record {
      left = later.left;
      next = later.next;
      reads = λ rest.
          ap (λ test. cond test (value_with_rest (word ∷ words) []) (read word >>= first_then (items_from stops read words)) rest) (on x word spells.0) ∙
          ap (then_read (first_then (items_from stops read words))) (again x word rest spells.0) ∙
          ap (then_read (λ ys. pure (x ∷ ys))) (later.reads rest);
    }

pub each_written : {A : Type 0} (Spells : A → List ℕ → Type 0) (word_of : A → List ℕ) → ((x : A) (word : List ℕ) → Spells x word → Spells x (word_of x)) → (Next Written : Spelling) (written : List (List ℕ)) → Written written
    → (xs : List A) (words : List (List ℕ)) → Each Spells xs Next words → Each Spells xs Written (map word_of xs ++ written)
each_written Spells word_of one Next Written written done [] words spells = done
each_written Spells word_of one Next Written written done (x ∷ xs) [] spells = absurd spells
each_written Spells word_of one Next Written written done (x ∷ xs) (word ∷ words) spells = (one x word spells.0, each_written Spells word_of one Next Written written done xs words spells.1)

pub each_words : {A : Type 0} (Spells : A → List ℕ → Type 0) (word_of : A → List ℕ) → ((x : A) (word : List ℕ) → Spells x word → is_word (word_of x) ≡ true) → (Next : Spelling) (xs : List A) (words : List (List ℕ)) → Each Spells xs Next words → list_all is_word (map word_of xs) ≡ true
each_words Spells word_of one Next [] words spells = refl
each_words Spells word_of one Next (x ∷ xs) [] spells = absurd spells
each_words Spells word_of one Next (x ∷ xs) (word ∷ words) spells = rw (one x word spells.0, each_words Spells word_of one Next xs words spells.1) refl

-- what is after the items
pub each_left : {A : Type 0} (Spells : A → List ℕ → Type 0) (Next : Spelling) (xs : List A) (words : List (List ℕ)) → Each Spells xs Next words → (left : List (List ℕ)) × Next left
each_left Spells Next [] words spells = (words, spells)
each_left Spells Next (x ∷ xs) [] spells = absurd spells
each_left Spells Next (x ∷ xs) (word ∷ words) spells = each_left Spells Next xs words spells.1

-- data

piece_one : (others : Reader (List Piece)) (sign word : List ℕ) (words : List (List ℕ)) (rest : Rest) (xs : List Piece) (new : Rest) → sign ≡ codes "+" → ((rest : Rest) (xs : List Piece) (new : Rest) → others rest ≡ Ok (xs, new) → Clean new → GaveAll (SpellsMorePieces xs) words rest new)
    → then_read (first_then others) (piece_from_word word rest) ≡ Ok (xs, new) → Clean new → GaveAll (SpellsMorePieces xs) (sign ∷ word ∷ words) rest new
piece_one others sign word words rest xs new plus later e clean =
    let turn = in_turn (piece_from_word word) (first_then others) rest xs new e in
    let after = in_turn others (λ ys. pure (turn.x ∷ ys)) turn.mid xs new turn.then in
    let last : after.mid ≡ new = same_rest after.then in
    let tail = later turn.mid after.x after.mid after.first (subst Clean (sym last) clean) in
    let head = piece_found word rest turn.x turn.mid turn.first tail.clean in
    subst (λ ys. GaveAll (SpellsMorePieces ys) (sign ∷ word ∷ words) rest new) (same_value after.then) (record {
      clean = subst Clean head.same tail.clean;
      spells = λ Next next. (plus, (head.spells, tail.spells Next (subst (λ r. Next r.words) (sym last) next)));
    })

pieces_nothing : (words : List (List ℕ)) (rest : Rest) (xs : List Piece) (new : Rest) → ◌≡◌ {A = Result (List Piece × Rest) Reason} (Ok ([], at_words words rest)) (Ok (xs, new)) → Clean new → GaveAll (SpellsMorePieces xs) words rest new
pieces_nothing words rest xs new e clean =
    subst (λ ys. GaveAll (SpellsMorePieces ys) words rest new) (same_value e) (record {
      clean = clean_at words rest new (same_rest e) clean;
      spells = left_words words rest new (same_rest e);
    })

last_if : (test : Bool) (sign : List ℕ) (rest : Rest) (xs : List Piece) (new : Rest) → cond test misspelling (value_with_rest (sign ∷ []) []) rest ≡ Ok (xs, new) → Clean new → GaveAll (SpellsMorePieces xs) (sign ∷ []) rest new
last_if true sign rest xs new e clean = absurd (no_answer e)
last_if false sign rest xs new e clean = pieces_nothing (sign ∷ []) rest xs new e clean

more_if : (test : Bool) (sign word : List ℕ) (words : List (List ℕ)) (rest : Rest) (xs : List Piece) (new : Rest) → bytes_eq sign (codes "+") ≡ test → ((rest : Rest) (xs : List Piece) (new : Rest) → more_pieces words rest ≡ Ok (xs, new) → Clean new → GaveAll (SpellsMorePieces xs) words rest new)
    → cond test (piece_from_word word >>= first_then (more_pieces words)) (value_with_rest (sign ∷ word ∷ words) []) rest ≡ Ok (xs, new) → Clean new → GaveAll (SpellsMorePieces xs) (sign ∷ word ∷ words) rest new
more_if true sign word words rest xs new is later e clean = piece_one (more_pieces words) sign word words rest xs new ((bytes_eq-Decides sign (codes "+")).0 is) later e clean
more_if false sign word words rest xs new is later e clean = pieces_nothing (sign ∷ word ∷ words) rest xs new e clean

more_found : (words : List (List ℕ)) (rest : Rest) (xs : List Piece) (new : Rest) → more_pieces words rest ≡ Ok (xs, new) → Clean new → GaveAll (SpellsMorePieces xs) words rest new
more_found [] rest xs new e clean = pieces_nothing [] rest xs new e clean
more_found (sign ∷ []) rest xs new e clean = last_if (is_plus sign) sign rest xs new e clean
more_found (sign ∷ word ∷ words) rest xs new e clean = more_if (is_plus sign) sign word words rest xs new refl (more_found words) e clean

pieces_at : (words : List (List ℕ)) (in_range known : Bool) (xs : List Piece) (new : Rest)
    → let rest : Rest = record { words = words; in_range = in_range; known = known } in
    pieces rest ≡ Ok (xs, new) → Clean new → GaveAll (SpellsPieces xs) words rest new
pieces_at [] in_range known xs new e clean = absurd (no_answer e)
pieces_at (word ∷ words) in_range known xs new e clean =
    let rest : Rest = record { words = word ∷ words; in_range = in_range; known = known } in
    let turn = in_turn (piece_from_word word) pieces_after (at_words words rest) xs new e in
    let after = in_turn (more_pieces turn.mid.words) (λ ys. pure (turn.x ∷ ys)) turn.mid xs new turn.then in
    let last : after.mid ≡ new = same_rest after.then in
    let tail = more_found turn.mid.words turn.mid after.x after.mid after.first (subst Clean (sym last) clean) in
    let head = piece_found word (at_words words rest) turn.x turn.mid turn.first tail.clean in
    let words_are : turn.mid.words ≡ words = ap (λ r. r.words) head.same in
    let first_clean : Clean (at_words words rest) = subst Clean head.same tail.clean in
    subst (λ ys. GaveAll (SpellsPieces ys) (word ∷ words) rest new) (same_value after.then) (record {
      clean = record { in_range = first_clean.in_range; known = first_clean.known };
      spells = λ Next next. (head.spells, subst (SpellsMorePieces after.x Next) words_are (tail.spells Next (subst (λ r. Next r.words) (sym last) next)));
    })

pub pieces_found : (rest : Rest) (xs : List Piece) (new : Rest) → pieces rest ≡ Ok (xs, new) → Clean new → GaveAll (SpellsPieces xs) rest.words rest new
pieces_found rest xs new e clean = pieces_at rest.words rest.in_range rest.known xs new e clean

-- no `+` follows
abbrev pub no_plus : List (List ℕ) → Bool
no_plus [] = true
no_plus (word ∷ words) = not (is_plus word)

not_true : (b : Bool) → not b ≡ true → b ≡ false
not_true true e = absurd (false≢true e)
not_true false e = refl

no_more : (words : List (List ℕ)) (rest : Rest) → no_plus words ≡ true → more_pieces words rest ≡ Ok ([], at_words words rest)
no_more [] rest stop = refl
no_more (sign ∷ []) rest stop = ap (λ test. cond test misspelling (value_with_rest (sign ∷ []) []) rest) (not_true (is_plus sign) stop)
no_more (sign ∷ word ∷ words) rest stop =
    ap (λ test. cond test (piece_from_word word >>= first_then (more_pieces words)) (value_with_rest (sign ∷ word ∷ words) []) rest) (not_true (is_plus sign) stop)

more_again : (Next : Spelling) → ((words : List (List ℕ)) → Next words → no_plus words ≡ true) → (xs : List Piece) (words : List (List ℕ)) → SpellsMorePieces xs Next words → ReadAll more_pieces xs Next words
more_again Next stop [] words spells = record { left = words; next = spells; reads = λ rest. no_more words rest (stop words spells) }
more_again Next stop (x ∷ xs) [] spells = absurd spells
more_again Next stop (x ∷ xs) (sign ∷ []) spells = absurd spells.1
more_again Next stop (x ∷ xs) (sign ∷ word ∷ words) spells =
    let later = more_again Next stop xs words spells.1.1 in
    record {
      left = later.left;
      next = later.next;
      reads = λ rest.
          ap (λ s. cond (is_plus s) (piece_from_word word >>= first_then (more_pieces words)) (value_with_rest (sign ∷ word ∷ words) []) rest) spells.0 ∙
          ap (then_read (first_then (more_pieces words))) (piece_again x word rest spells.1.0) ∙
          ap (then_read (λ ys. pure (x ∷ ys))) (later.reads rest);
    }

-- a reader, where these words are left
abbrev pub reads_words : {A : Type 0} → Reader A → List (List ℕ) → Reader A
reads_words read words rest = read (at_words words rest)

pub pieces_again : (Next : Spelling) → ((words : List (List ℕ)) → Next words → no_plus words ≡ true) → (xs : List Piece) (words : List (List ℕ)) → SpellsPieces xs Next words → ReadAll (reads_words pieces) xs Next words
pieces_again Next stop [] words spells = absurd spells
pieces_again Next stop (x ∷ xs) [] spells = absurd spells
pieces_again Next stop (x ∷ xs) (word ∷ words) spells =
    let later = more_again Next stop xs words spells.1 in
    record {
      left = later.left;
      next = later.next;
      reads = λ rest.
          ap (then_read pieces_after) (piece_again x word (at_words words rest) spells.0) ∙
          ap (then_read (λ ys. pure (x ∷ ys))) (later.reads (at_words words rest));
    }

more_written : (Next Written : Spelling) (written : List (List ℕ)) → Written written → (xs : List Piece) (words : List (List ℕ)) → SpellsMorePieces xs Next words → SpellsMorePieces xs Written (flat_map joined_piece xs ++ written)
more_written Next Written written done [] words spells = done
more_written Next Written written done (x ∷ xs) [] spells = absurd spells
more_written Next Written written done (x ∷ xs) (sign ∷ []) spells = absurd spells.1
more_written Next Written written done (x ∷ xs) (sign ∷ word ∷ words) spells =
    (refl, (piece_written x word spells.1.0, more_written Next Written written done xs words spells.1.1))

pub pieces_written : (Next Written : Spelling) (written : List (List ℕ)) → Written written → (xs : List Piece) (words : List (List ℕ)) → SpellsPieces xs Next words → SpellsPieces xs Written (data_words xs ++ written)
pieces_written Next Written written done [] words spells = absurd spells
pieces_written Next Written written done (x ∷ xs) [] spells = absurd spells
pieces_written Next Written written done (x ∷ xs) (word ∷ words) spells = (piece_written x word spells.0, more_written Next Written written done xs words spells.1)

more_words : (Next : Spelling) (xs : List Piece) (words : List (List ℕ)) → SpellsMorePieces xs Next words → list_all is_word (flat_map joined_piece xs) ≡ true
more_words Next [] words spells = refl
more_words Next (x ∷ xs) [] spells = absurd spells
more_words Next (x ∷ xs) (sign ∷ []) spells = absurd spells.1
more_words Next (x ∷ xs) (sign ∷ word ∷ words) spells =
    rw (piece_is_word x (piece_word x) (piece_written x word spells.1.0), more_words Next xs words spells.1.1) refl

pub pieces_words : (Next : Spelling) (xs : List Piece) (words : List (List ℕ)) → SpellsPieces xs Next words → list_all is_word (data_words xs) ≡ true
pieces_words Next [] words spells = absurd spells
pieces_words Next (x ∷ xs) [] spells = absurd spells
pieces_words Next (x ∷ xs) (word ∷ words) spells = rw (piece_is_word x (piece_word x) (piece_written x word spells.0), more_words Next xs words spells.1) refl

more_left : (Next : Spelling) (xs : List Piece) (words : List (List ℕ)) → SpellsMorePieces xs Next words → (left : List (List ℕ)) × Next left
more_left Next [] words spells = (words, spells)
more_left Next (x ∷ xs) [] spells = absurd spells
more_left Next (x ∷ xs) (sign ∷ []) spells = absurd spells.1
more_left Next (x ∷ xs) (sign ∷ word ∷ words) spells = more_left Next xs words spells.1.1

-- what is after data
pub pieces_left_after : (Next : Spelling) (xs : List Piece) (words : List (List ℕ)) → SpellsPieces xs Next words → (left : List (List ℕ)) × Next left
pieces_left_after Next [] words spells = absurd spells
pieces_left_after Next (x ∷ xs) [] spells = absurd spells
pieces_left_after Next (x ∷ xs) (word ∷ words) spells = more_left Next xs words spells.1
