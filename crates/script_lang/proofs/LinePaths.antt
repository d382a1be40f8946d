-- The paths of a line that is read are in the table, where the table has the path that the line's words use.
use Rattle.std.proofs.Common.{◌≡◌, ℕ, zero, suc, ◌<◌, Bool, true, false, List, [], ◌∷◌, length, Option, Some, None, Result, Ok, Err, refl, sym, ap, ◌∙◌, subst, arith}
use Rattle.std.specs.Prelude.{codes}
use Rattle.std.proofs.lemmas.Bool.{false≢true}
use Rattle.std.proofs.lemmas.List.{append-nil}
use Rattle.line_text.specs.Types.{PathId}
use Rattle.line_text.specs.Words.{has_name}
use Rattle.script_lang.specs.Types.{Keyword, Line, Reason}
use Rattle.line_forms.specs.declared.keyword.Keyword.TheVariants as keyword
use Rattle.line_forms.specs.declared.line.Line.TheVariants.{Attach, Detach, Open, Await}
use Rattle.line_reader.specs.Words.{Reader, Rest, attach_line, await_line, create_line, detach_line, fd_from_word, fork_line, interrupt_line, kill_line, line_with, name, name_from_word, next_word, open_line, path, path_id, pure, rest_of, value_at_end, ◌>>=◌}
use Rattle.line_forms.specs.Words.{HasPaths, SpellsLine, Tables, keyword_word, path_number, words_after_first}
use Rattle.law_lines.proofs.Given.{in_turn, no_answer, same_value, same_rest, name_given, ended_given}
use Rattle.law_lines.proofs.KeywordWords.{keyword-same}
use Rattle.law_lines.proofs.LineFound.{line-found}
use Rattle.line_reader.proofs.SkippedWords.{at_words, moved, SkipsWords, skips-name_from_word, skips-fd_from_word}
use Rattle.script_lang.specs.TextTables.{path_of_words}
use Rattle.script_lang.proofs.FirstUses.{place_within}

-- the table of paths has the path that a line uses, if it uses one
abbrev pub is_used : Tables → Option (List ℕ) → Bool
is_used tables None = true
is_used tables (Some used) = has_name tables.paths used

-- and the first of these words, if there is one
abbrev has_first : Tables → List (List ℕ) → Bool
has_first tables [] = true
has_first tables (word ∷ words) = has_name tables.paths word

number_within : (tables : Tables) (word : List ℕ) → has_name tables.paths word ≡ true → path_number tables word < length tables.paths
number_within tables word has = let within = place_within tables.paths [] word has in rw append-nil at within

path_given : (tables : Tables) (word : List ℕ) (words : List (List ℕ)) (in_range known : Bool) (x : PathId) (new : Rest)
    → let rest : Rest = record { words = word ∷ words; in_range = in_range; known = known } in
    has_name tables.paths word ≡ true → path tables rest ≡ Ok (x, new) → x.0 < length tables.paths
path_given tables word words in_range known x new has e =
    let rest : Rest = record { words = word ∷ words; in_range = in_range; known = known } in
    let turn = in_turn name (λ bytes. pure (path_id (path_number tables bytes))) rest x new e in
    let named = name_given word (at_words words rest) turn.x turn.mid turn.first in
    let is : path_number tables word ≡ x.0 = ap (path_number tables) (sym named.is) ∙ ap (λ p. p.0) (same_value turn.then) in
    subst (λ n. n < length tables.paths) is (number_within tables word has)

path_at : (tables : Tables) (words : List (List ℕ)) (in_range known : Bool) (x : PathId) (new : Rest)
    → let rest : Rest = record { words = words; in_range = in_range; known = known } in
    has_first tables words ≡ true → path tables rest ≡ Ok (x, new) → x.0 < length tables.paths
path_at tables [] in_range known x new has e = absurd (no_answer e)
path_at tables (word ∷ words) in_range known x new has e = path_given tables word words in_range known x new has e

path_known : (tables : Tables) (rest : Rest) (x : PathId) (new : Rest) → has_first tables rest.words ≡ true → path tables rest ≡ Ok (x, new) → x.0 < length tables.paths
path_known tables rest x new has e = path_at tables rest.words rest.in_range rest.known x new has e

-- what is left after a word

moved_words : {A : Type 0} (words : List (List ℕ)) (found : Result (A × Rest) Reason) (x : A) (mid : Rest) → moved words found ≡ Ok (x, mid) → mid.words ≡ words
moved_words words (Err reason) x mid e = absurd (no_answer e)
moved_words words (Ok found) x mid e = ap (λ r. r.words) (sym (same_rest e))

word_at : {A : Type 0} (read : List ℕ → Reader A) (words : List (List ℕ)) (in_range known : Bool) (x : A) (mid : Rest)
    → let rest : Rest = record { words = words; in_range = in_range; known = known } in
    ((word : List ℕ) → SkipsWords (read word)) → (next_word >>= read) rest ≡ Ok (x, mid) → mid.words ≡ words_after_first words
word_at read [] in_range known x mid skips e = absurd (no_answer e)
word_at read (word ∷ words) in_range known x mid skips e =
    let rest : Rest = record { words = word ∷ words; in_range = in_range; known = known } in
    moved_words words (read word rest) x mid (sym ((skips word).same words rest) ∙ e)

word_after : {A : Type 0} (read : List ℕ → Reader A) (rest : Rest) (x : A) (mid : Rest) → ((word : List ℕ) → SkipsWords (read word)) → (next_word >>= read) rest ≡ Ok (x, mid) → mid.words ≡ words_after_first rest.words
word_after read rest x mid skips e = word_at read rest.words rest.in_range rest.known x mid skips e

-- the four commands that have a path

first_path : (tables : Tables) (make : PathId → Line) (rest : Rest) (line : Line) (new : Rest) → ((path : PathId) → path.0 < length tables.paths → HasPaths tables (make path)) → has_first tables rest.words ≡ true
    → (path tables >>= (λ at. value_at_end (make at))) rest ≡ Ok (line, new) → HasPaths tables line
first_path tables make rest line new paths has e =
    let turn = in_turn (path tables) (λ at. value_at_end (make at)) rest line new e in
    let end = ended_given (make turn.x) turn.mid line new turn.then in
    subst (HasPaths tables) (sym end.is) (paths turn.x (path_known tables rest turn.x turn.mid has turn.first))

second_path : {A : Type 0} (tables : Tables) (read : List ℕ → Reader A) (make : A → PathId → Line) (rest : Rest) (line : Line) (new : Rest) → ((word : List ℕ) → SkipsWords (read word)) → ((x : A) (path : PathId) → path.0 < length tables.paths → HasPaths tables (make x path))
    → has_first tables (words_after_first rest.words) ≡ true → (next_word >>= read >>= (λ x. path tables >>= (λ at. value_at_end (make x at)))) rest ≡ Ok (line, new) → HasPaths tables line
second_path tables read make rest line new skips paths has e =
    let turn = in_turn (next_word >>= read) (λ x. path tables >>= (λ at. value_at_end (make x at))) rest line new e in
    let left = word_after read rest turn.x turn.mid skips turn.first in
    first_path tables (make turn.x) turn.mid line new (paths turn.x) (ap (has_first tables) left ∙ has) turn.then

attach_uses : (tables : Tables) (words : List (List ℕ)) → is_used tables (path_of_words (codes "attach" ∷ words)) ≡ true → has_first tables (words_after_first words) ≡ true
attach_uses tables [] used = refl
attach_uses tables (word ∷ []) used = refl
attach_uses tables (word ∷ next ∷ words) used = used

detach_uses : (tables : Tables) (words : List (List ℕ)) → is_used tables (path_of_words (codes "detach" ∷ words)) ≡ true → has_first tables words ≡ true
detach_uses tables [] used = refl
detach_uses tables (word ∷ []) used = used
detach_uses tables (word ∷ next ∷ words) used = used

open_uses : (tables : Tables) (words : List (List ℕ)) → is_used tables (path_of_words (codes "open" ∷ words)) ≡ true → has_first tables (words_after_first words) ≡ true
open_uses tables [] used = refl
open_uses tables (word ∷ []) used = refl
open_uses tables (word ∷ next ∷ words) used = used

await_uses : (tables : Tables) (words : List (List ℕ)) → is_used tables (path_of_words (codes "await" ∷ words)) ≡ true → has_first tables words ≡ true
await_uses tables [] used = refl
await_uses tables (word ∷ []) used = used
await_uses tables (word ∷ next ∷ words) used = used

attach_paths : (tables : Tables) (words : List (List ℕ)) (line : Line) (new : Rest) → is_used tables (path_of_words (codes "attach" ∷ words)) ≡ true → attach_line tables (rest_of words) ≡ Ok (line, new) → HasPaths tables line
unfolding attach_line
attach_paths tables words line new used e = second_path tables fd_from_word Attach (rest_of words) line new skips-fd_from_word (λ x path within. (within, tt)) (attach_uses tables words used) e

detach_paths : (tables : Tables) (words : List (List ℕ)) (line : Line) (new : Rest) → is_used tables (path_of_words (codes "detach" ∷ words)) ≡ true → detach_line tables (rest_of words) ≡ Ok (line, new) → HasPaths tables line
unfolding detach_line
detach_paths tables words line new used e = first_path tables Detach (rest_of words) line new (λ path within. (within, tt)) (detach_uses tables words used) e

open_paths : (tables : Tables) (words : List (List ℕ)) (line : Line) (new : Rest) → is_used tables (path_of_words (codes "open" ∷ words)) ≡ true → open_line tables (rest_of words) ≡ Ok (line, new) → HasPaths tables line
unfolding open_line
open_paths tables words line new used e = second_path tables name_from_word Open (rest_of words) line new skips-name_from_word (λ x path within. (within, tt)) (open_uses tables words used) e

await_paths : (tables : Tables) (words : List (List ℕ)) (line : Line) (new : Rest) → is_used tables (path_of_words (codes "await" ∷ words)) ≡ true → await_line tables (rest_of words) ≡ Ok (line, new) → HasPaths tables line
unfolding await_line
await_paths tables words line new used e = first_path tables Await (rest_of words) line new (λ path within. (within, tt)) (await_uses tables words used) e

-- The others read no path, so they read the same by any table of paths. By one that is long enough their words spell the
-- line, and the words that spell a line with a path begin with one of the four keywords.

abbrev with_paths : Tables → List (List ℕ) → Tables
with_paths tables paths = record tables { paths = paths }

abbrev takes_path : Keyword → Bool
takes_path keyword.Attach = true
takes_path keyword.Detach = true
takes_path keyword.Open = true
takes_path keyword.Await = true
takes_path keyword = false

same_reading : (tables : Tables) (paths : List (List ℕ)) (of : ℕ) (keyword : Keyword) (rest : Rest) → takes_path keyword ≡ false → line_with tables of keyword rest ≡ line_with (with_paths tables paths) of keyword rest
unfolding create_line interrupt_line kill_line fork_line
same_reading tables paths of keyword.Attach rest none = absurd (false≢true (sym none))
same_reading tables paths of keyword.Detach rest none = absurd (false≢true (sym none))
same_reading tables paths of keyword.Open rest none = absurd (false≢true (sym none))
same_reading tables paths of keyword.Await rest none = absurd (false≢true (sym none))
same_reading tables paths of keyword rest none = refl

abbrev so_many : ℕ → List (List ℕ)
so_many zero = [] ∷ []
so_many (suc n) = [] ∷ so_many n

more_than : (n : ℕ) → n < length (so_many n)
more_than zero = omega arith
more_than (suc n) = let h = more_than n in omega arith

other_keyword : (keyword : Keyword) (of : Keyword) → takes_path keyword ≡ false → takes_path of ≡ true → keyword_word keyword ≡ keyword_word of → ⊥
other_keyword keyword of none some same =
    false≢true (sym none ∙ ap takes_path (keyword-same keyword of same) ∙ some)

path_spells : (tables : Tables) (of : ℕ) (keyword : Keyword) (words : List (List ℕ)) (line : Line) (new : Rest) (n : ℕ) → takes_path keyword ≡ false → line_with tables of keyword (rest_of words) ≡ Ok (line, new) → new.known ≡ true
    → HasPaths (with_paths tables (so_many n)) line → SpellsLine (with_paths tables (so_many n)) of line (keyword_word keyword ∷ words)
path_spells tables of keyword words line new n none e known has =
    line-found (with_paths tables (so_many n)) of keyword words line new (sym (same_reading tables (so_many n) of keyword (rest_of words) none) ∙ e) known has

pathless : (tables : Tables) (of : ℕ) (keyword : Keyword) (words : List (List ℕ)) (line : Line) (new : Rest) → takes_path keyword ≡ false → line_with tables of keyword (rest_of words) ≡ Ok (line, new) → new.known ≡ true → HasPaths tables line
pathless tables of first words (Attach door at) new none e known = absurd (other_keyword first keyword.Attach none refl (path_spells tables of first words (Attach door at) new at.0 none e known (more_than at.0, tt)).0)
pathless tables of first words (Detach at) new none e known = absurd (other_keyword first keyword.Detach none refl (path_spells tables of first words (Detach at) new at.0 none e known (more_than at.0, tt)).0)
pathless tables of first words (Open var at) new none e known = absurd (other_keyword first keyword.Open none refl (path_spells tables of first words (Open var at) new at.0 none e known (more_than at.0, tt)).0)
pathless tables of first words (Await at) new none e known = absurd (other_keyword first keyword.Await none refl (path_spells tables of first words (Await at) new at.0 none e known (more_than at.0, tt)).0)
pathless tables of first words line new none e known = tt

pub line_paths : (tables : Tables) (of : ℕ) (keyword : Keyword) (words : List (List ℕ)) (line : Line) (new : Rest) → is_used tables (path_of_words (keyword_word keyword ∷ words)) ≡ true → line_with tables of keyword (rest_of words) ≡ Ok (line, new) → new.known ≡ true → HasPaths tables line
line_paths tables of keyword.Attach words line new used e known = attach_paths tables words line new used e
line_paths tables of keyword.Detach words line new used e known = detach_paths tables words line new used e
line_paths tables of keyword.Open words line new used e known = open_paths tables words line new used e
line_paths tables of keyword.Await words line new used e known = await_paths tables words line new used e
line_paths tables of keyword words line new used e known = pathless tables of keyword words line new refl e known
