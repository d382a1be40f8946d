-- Lines that have operands of one word, and then what a line ends with.
use Rattle.std.proofs.Common.{◌≡◌, ℕ, Bool, true, List, [], ◌∷◌, Ok, refl, ap, sym, ◌∙◌, subst}
use Rattle.std.specs.List.{list_all}
use Rattle.std.proofs.lemmas.Bool.{and_parts}
use Rattle.line_text.specs.Words.{is_word}
use Rattle.line_reader.specs.Types.{Line}
use Rattle.line_forms.specs.Words.{AreDistinct, First, HasPaths, Spelling, SpellsLine, Tables}
use Rattle.line_reader.specs.Words.{Reader, Rest, rest_of, then_read, ◌>>=◌}
use Rattle.line_reader.proofs.SkippedWords.{at_words}
use Rattle.law_lines.proofs.Given.{Clean, no_answer, in_turn}
use Rattle.law_lines.proofs.WordKinds.{WordKind, WordValue, read_word, SpellsWord, word_of, is_small, HasPath, nothing_left, word_left, word_found_at, word_again, word_written, spelled_is_word}
use Rattle.law_lines.proofs.LastOperands.{Last, LastValue, read_last, SpellsLast, last_words, last_found, last_again, last_written, last_are_words}

abbrev pub Values : List WordKind → Last → Type 0
Values [] last = LastValue last
Values (kind ∷ kinds) last = WordValue kind × Values kinds last

abbrev pub read_all : Tables → ℕ → (kinds : List WordKind) (last : Last) → (Values kinds last → Line) → Reader Line
read_all tables of [] last make = read_last last make
read_all tables of (kind ∷ kinds) last make = read_word tables of kind >>= (λ x. read_all tables of kinds last (λ xs. make (x, xs)))

abbrev pub SpellsAll : Tables → ℕ → (kinds : List WordKind) (last : Last) → Values kinds last → Spelling
SpellsAll tables of [] last xs words = SpellsLast last xs words
SpellsAll tables of (kind ∷ kinds) last xs words = First (SpellsWord tables of kind xs.0) (SpellsAll tables of kinds last xs.1) words

abbrev pub words_all : Tables → (kinds : List WordKind) (last : Last) → Values kinds last → List (List ℕ)
words_all tables [] last xs = last_words last xs
words_all tables (kind ∷ kinds) last xs = word_of tables kind xs.0 ∷ words_all tables kinds last xs.1

abbrev pub AllPaths : Tables → (kinds : List WordKind) (last : Last) → Values kinds last → Type 0
AllPaths tables [] last xs = Unit {0}
AllPaths tables (kind ∷ kinds) last xs = HasPath tables kind xs.0 (AllPaths tables kinds last xs.1)

abbrev pub all_small : List WordKind → Bool
all_small kinds = list_all is_small kinds

-- what is read is spelled

record WordStep (tables : Tables) (of : ℕ) (kind : WordKind) (x : WordValue kind) (words : List (List ℕ)) (rest mid : Rest) : Type 1 where
  clean : Clean rest
  spells : (Next : Spelling) (Others : Type 0) → HasPath tables kind x Others → (Others → Next mid.words) → First (SpellsWord tables of kind x) Next words

word_step_at : (tables : Tables) (of : ℕ) (kind : WordKind) (words : List (List ℕ)) (in_range known : Bool) (x : WordValue kind) (mid : Rest)
    → let rest : Rest = record { words = words; in_range = in_range; known = known } in
    is_small kind ≡ true → read_word tables of kind rest ≡ Ok (x, mid) → Clean mid → WordStep tables of kind x words rest mid
word_step_at tables of kind [] in_range known x mid small e clean = absurd (no_answer (sym (nothing_left tables of kind in_range known) ∙ e))
word_step_at tables of kind (word ∷ words) in_range known x mid small e clean =
    let rest : Rest = record { words = word ∷ words; in_range = in_range; known = known } in
    let found = word_found_at tables of kind word (at_words words rest) x mid small (sym (word_left tables of kind word words in_range known) ∙ e) clean in
    let first_clean : Clean (at_words words rest) = subst Clean found.same clean in
    record {
      clean = record { in_range = first_clean.in_range; known = first_clean.known };
      spells = λ Next Others has next. let spelled = found.spells Others has in (spelled.0, subst (λ r. Next r.words) found.same (next spelled.1));
    }

word_step : (tables : Tables) (of : ℕ) (kind : WordKind) (rest : Rest) (x : WordValue kind) (mid : Rest) → is_small kind ≡ true → read_word tables of kind rest ≡ Ok (x, mid) → Clean mid → WordStep tables of kind x rest.words rest mid
word_step tables of kind rest x mid small e clean = word_step_at tables of kind rest.words rest.in_range rest.known x mid small e clean

pub record AllFound (tables : Tables) (of : ℕ) (kinds : List WordKind) (last : Last) (make : Values kinds last → Line) (line : Line) (rest : Rest) : Type 0 where
  pub xs : Values kinds last
  pub is : line ≡ make xs
  pub clean : Clean rest
  pub spells : AllPaths tables kinds last xs → SpellsAll tables of kinds last xs rest.words

pub all_found : (tables : Tables) (of : ℕ) (kinds : List WordKind) (last : Last) (make : Values kinds last → Line) (rest : Rest) (line : Line) (new : Rest) → all_small kinds ≡ true → read_all tables of kinds last make rest ≡ Ok (line, new) → new.known ≡ true
    → AllFound tables of kinds last make line rest
all_found tables of [] last make rest line new small e known =
    let found = last_found last make rest line new e known in
    record { xs = found.x; is = found.is; clean = found.clean; spells = λ paths. found.spells }
all_found tables of (kind ∷ kinds) last make rest line new small e known =
    let parts = and_parts (is_small kind) (all_small kinds) small in
    let turn = in_turn (read_word tables of kind) (λ x. read_all tables of kinds last (λ xs. make (x, xs))) rest line new e in
    let later = all_found tables of kinds last (λ xs. make (turn.x, xs)) turn.mid line new parts.1 turn.then known in
    let first = word_step tables of kind rest turn.x turn.mid parts.0 turn.first later.clean in
    record {
      xs = (turn.x, later.xs);
      is = later.is;
      clean = first.clean;
      spells = λ paths. first.spells (SpellsAll tables of kinds last later.xs) (AllPaths tables kinds last later.xs) paths later.spells;
    }

-- what is spelled is read

pub all_again : (tables : Tables) (of : ℕ) (kinds : List WordKind) (last : Last) (make : Values kinds last → Line) (xs : Values kinds last) (words : List (List ℕ)) → all_small kinds ≡ true → AreDistinct tables → SpellsAll tables of kinds last xs words
    → read_all tables of kinds last make (rest_of words) ≡ Ok (make xs, rest_of [])
all_again tables of [] last make xs words small distinct spells = last_again last make xs words spells
all_again tables of (kind ∷ kinds) last make xs [] small distinct spells = absurd spells
all_again tables of (kind ∷ kinds) last make xs (word ∷ words) small distinct spells =
    let parts = and_parts (is_small kind) (all_small kinds) small in
    ap (then_read (λ x. read_all tables of kinds last (λ ys. make (x, ys)))) (word_left tables of kind word words true true ∙ word_again tables of kind word (rest_of words) xs.0 parts.0 distinct spells.0) ∙
    all_again tables of kinds last (λ ys. make (xs.0, ys)) xs.1 words parts.1 distinct spells.1

-- the words that are written

pub all_written : (tables : Tables) (of : ℕ) (kinds : List WordKind) (last : Last) (xs : Values kinds last) (words : List (List ℕ)) → SpellsAll tables of kinds last xs words → SpellsAll tables of kinds last xs (words_all tables kinds last xs)
all_written tables of [] last xs words spells = last_written last xs words spells
all_written tables of (kind ∷ kinds) last xs [] spells = absurd spells
all_written tables of (kind ∷ kinds) last xs (word ∷ words) spells = (word_written tables of kind word xs.0 spells.0, all_written tables of kinds last xs.1 words spells.1)

pub all_are_words : (tables : Tables) (of : ℕ) (kinds : List WordKind) (last : Last) (xs : Values kinds last) (words : List (List ℕ)) → all_small kinds ≡ true → SpellsAll tables of kinds last xs words → list_all is_word (words_all tables kinds last xs) ≡ true
all_are_words tables of [] last xs words small spells = last_are_words last xs words spells
all_are_words tables of (kind ∷ kinds) last xs [] small spells = absurd spells
all_are_words tables of (kind ∷ kinds) last xs (word ∷ words) small spells =
    let parts = and_parts (is_small kind) (all_small kinds) small in
    rw (spelled_is_word tables of kind (word_of tables kind xs.0) xs.0 parts.0 (word_written tables of kind word xs.0 spells.0), all_are_words tables of kinds last xs.1 words parts.1 spells.1) refl

-- a line of such operands after its keyword

pub line_by : (tables : Tables) (of : ℕ) (kinds : List WordKind) (last : Last) (make : Values kinds last → Line) (keyword : List ℕ) (words : List (List ℕ)) (line : Line) (new : Rest)
    → ((xs : Values kinds last) → HasPaths tables (make xs) → AllPaths tables kinds last xs)
    → ((xs : Values kinds last) → SpellsAll tables of kinds last xs words → SpellsLine tables of (make xs) (keyword ∷ words))
    → all_small kinds ≡ true → read_all tables of kinds last make (rest_of words) ≡ Ok (line, new) → new.known ≡ true → HasPaths tables line → SpellsLine tables of line (keyword ∷ words)
line_by tables of kinds last make keyword words line new paths spells small e known has =
    let found = all_found tables of kinds last make (rest_of words) line new small e known in
    let P : Line → Type 0 = λ l. HasPaths tables l → SpellsLine tables of l (keyword ∷ words) in
    subst P (sym found.is) (λ p. spells found.xs (found.spells (paths found.xs p))) has
