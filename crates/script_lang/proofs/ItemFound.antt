-- What is read after a first word is spelled by it and the words after it.
use Rattle.std.proofs.Common.{◌≡◌, ℕ, ◌≤◌, ◌<◌, ◌^◌, Bool, true, false, cond, ◌&&◌, List, [], ◌∷◌, length, take, Option, Some, None, Ok, refl, sym, ap, ◌∙◌, subst, inl, inr, arith, lit<, option_map}
use Rattle.std.specs.Prelude.{codes, bytes_eq, nat_le}
use Rattle.std.proofs.lemmas.Bool.{le-leb, leb-true}
use Rattle.std.proofs.lemmas.Slice.Eq.{bytes_eq-Decides}
use Rattle.line_text.specs.Types.{Pid, Tid}
use Rattle.line_text.specs.Words.{SpellsName, SpellsNumber, is_name}
use Rattle.script_lang.specs.Types.{Keyword, Line}
use Rattle.line_forms.specs.declared.line.Line.TheVariants.{Create}
use Rattle.line_reader.specs.Words.{Reader, Rest, declared_number, is_no_stop, items_to, line_with, name, name_from_word, next_word, nonempty_list, number, number_from_word, optional_word, parent, pid, pure, rest_of, then_read, thread_from_word, value_at_end, value_with_rest, ◌>>=◌}
use Rattle.line_forms.specs.Words.{ArePaths, Each, Ends, First, SpellsLine, SpellsParent, SpellsThread, Tables, Then, earlier_number, keyword_of, keyword_of_line, keyword_version, keyword_word}
use Rattle.line_forms.proofs.Numbering.{name_of_earlier}
use Rattle.law_lines.proofs.DataWords.{GaveAll, items_found}
use Rattle.law_lines.proofs.DescriptorWords.{Gave}
use Rattle.law_lines.proofs.Given.{Clean, in_turn, no_answer, same_value, same_rest, name_given, number_given, declared_given, ended_given}
use Rattle.law_lines.proofs.KeywordWords.{keyword-found, keyword-same, keyword-since}
use Rattle.law_lines.proofs.LineFound.{line-found}
use Rattle.law_lines.proofs.PassWords.{at_least_one_given}
use Rattle.line_reader.proofs.SkippedWords.{at_words}
use Rattle.law_lines.proofs.WordKinds.{AThread, word_found_at}
use Rattle.script_lang.specs.declared.item.ScriptLine.{ScriptLine}
use Rattle.script_lang.specs.declared.item.ScriptLine.TheVariants.{Budget, Process, Child, Spare, Thread, Procedure, Do, Schedule}
use Rattle.script_lang.specs.declared.item.ScriptPlace.{ScriptPlace}
use Rattle.script_lang.specs.declared.item.ScriptPlace.TheVariants.{Start, Processes, Members, Body, Schedule as Scheduled}
use Rattle.script_lang.specs.Items.{budget_item, process_item, child_item, spare_item, thread_item, procedure_item, schedule_item, limit_after, parent_after, line_item, is_keyword, item_in_schedule, item_in_processes, item_at_place}
use Rattle.script_lang.specs.Spelled.{SpellsLimit, SpellsScriptLine, is_of_version, path_uses}
use Rattle.script_lang.specs.TextTables.{path_of_words}
use Rattle.script_lang.proofs.LinePaths.{is_used, line_paths}

-- these words are this item, its paths are in the table, and it is one of this version
pub record SpelledItem (version : ℕ) (tables : Tables) (of : ℕ) (words : List (List ℕ)) (item : ScriptLine) : Type 0 where
  pub spells : SpellsScriptLine tables of item words
  pub paths : ArePaths tables (path_uses item)
  pub of_version : is_of_version version item ≡ true

-- operands of one word

word_at : {A : Type 0} (Spells : A → List ℕ → Type 0) (read : List ℕ → Reader A) (words : List (List ℕ)) (in_range known : Bool) (x : A) (mid : Rest)
    → let rest : Rest = record { words = words; in_range = in_range; known = known } in
    ((word : List ℕ) (rest new : Rest) → read word rest ≡ Ok (x, new) → Clean new → Gave Spells x word rest new) → (next_word >>= read) rest ≡ Ok (x, mid) → Clean mid → GaveAll (First (Spells x)) words rest mid
word_at Spells read [] in_range known x mid found e clean = absurd (no_answer e)
word_at Spells read (word ∷ words) in_range known x mid found e clean =
    let rest : Rest = record { words = word ∷ words; in_range = in_range; known = known } in
    let gave = found word (at_words words rest) mid e clean in
    let first_clean : Clean (at_words words rest) = subst Clean gave.same clean in
    record {
      clean = record { in_range = first_clean.in_range; known = first_clean.known };
      spells = λ Next next. (gave.spells, subst Next (ap (λ r. r.words) gave.same) next);
    }

name_found : (rest : Rest) (x : List ℕ) (mid : Rest) → name rest ≡ Ok (x, mid) → Clean mid → GaveAll (First (SpellsName x)) rest.words rest mid
name_found rest x mid e clean =
    word_at SpellsName name_from_word rest.words rest.in_range rest.known x mid (λ word at new read good.
    let named = name_given word at x new read in record { spells = (ap is_name named.is ∙ named.named, sym named.is); same = named.same }) e clean

number_found : (low high : ℕ) (rest : Rest) (x : ℕ) (mid : Rest) → high < 2 ^ 64 → number low high rest ≡ Ok (x, mid) → Clean mid → GaveAll (First (SpellsNumber low high x)) rest.words rest mid
number_found low high rest x mid small e clean =
    word_at (SpellsNumber low high) (number_from_word low high) rest.words rest.in_range rest.known x mid (λ word at new read good.
    let found = number_given low high word at x new small read good in record { spells = found.is; same = found.same }) e clean

-- the line's end

record IsEnd (value item : ScriptLine) (rest : Rest) : Type 0 where
  is : item ≡ value
  clean : Clean rest
  words : rest.words ≡ []

end_found : (value : ScriptLine) (rest : Rest) (item : ScriptLine) (new : Rest) → value_at_end value rest ≡ Ok (item, new) → new.known ≡ true → IsEnd value item rest
end_found value rest item new e known =
    let end = ended_given value rest item new e in
    record { is = end.is; clean = record { in_range = end.in_range; known = ap (λ r. r.known) (sym end.same) ∙ known }; words = end.words }

-- a name and no more

record IsNamed (make : List ℕ → ScriptLine) (words : List (List ℕ)) (item : ScriptLine) : Type 0 where
  name : List ℕ
  is : item ≡ make name
  spells : First (SpellsName name) Ends words

named_found : (make : List ℕ → ScriptLine) (words : List (List ℕ)) (item : ScriptLine) (new : Rest) → (name >>= (λ bytes. value_at_end (make bytes))) (rest_of words) ≡ Ok (item, new) → new.known ≡ true → IsNamed make words item
named_found make words item new e known =
    let turn = in_turn name (λ bytes. value_at_end (make bytes)) (rest_of words) item new e in
    let end = end_found (make turn.x) turn.mid item new turn.then known in
    let first = name_found (rest_of words) turn.x turn.mid turn.first end.clean in
    record { name = turn.x; is = end.is; spells = first.spells Ends end.words }

-- what follows a first word, if it is read there, is an item that it and the word spell
record Spells (version : ℕ) (tables : Tables) (of : ℕ) (word : List ℕ) (read : Reader ScriptLine) : Type 0 where
  found : (words : List (List ℕ)) (item : ScriptLine) (new : Rest) → is_used tables (path_of_words (word ∷ words)) ≡ true → read (rest_of words) ≡ Ok (item, new) → new.known ≡ true → SpelledItem version tables of (word ∷ words) item

spare_spells : (version : ℕ) (tables : Tables) (of : ℕ) → nat_le 1 version ≡ true → Spells version tables of (codes "spare") spare_item
unfolding spare_item
spare_spells version tables of some = record {
  found = λ words item new used e known.
      let named = named_found Spare words item new e known in
      subst (SpelledItem version tables of (codes "spare" ∷ words)) (sym named.is) (record { spells = (refl, named.spells); paths = tt; of_version = some });
}

thread_spells : (version : ℕ) (tables : Tables) (of : ℕ) → nat_le 1 version ≡ true → Spells version tables of (codes "thread") thread_item
unfolding thread_item
thread_spells version tables of some = record {
  found = λ words item new used e known.
      let named = named_found Thread words item new e known in
      subst (SpelledItem version tables of (codes "thread" ∷ words)) (sym named.is) (record { spells = (refl, named.spells); paths = tt; of_version = some });
}

procedure_spells : (version : ℕ) (tables : Tables) (of : ℕ) → nat_le 1 version ≡ true → Spells version tables of (codes "proc") procedure_item
unfolding procedure_item
procedure_spells version tables of some = record {
  found = λ words item new used e known.
      let named = named_found Procedure words item new e known in
      subst (SpelledItem version tables of (codes "proc" ∷ words)) (sym named.is) (record { spells = (refl, named.spells); paths = tt; of_version = some });
}

budget_spells : (version : ℕ) (tables : Tables) (of : ℕ) → nat_le 1 version ≡ true → Spells version tables of (codes "budget") budget_item
unfolding budget_item
budget_spells version tables of some = record {
  found = λ words item new used e known.
      let turn = in_turn (number 1 100000) (λ events. value_at_end (Budget events)) (rest_of words) item new e in
      let end = end_found (Budget turn.x) turn.mid item new turn.then known in
      let first = number_found 1 100000 (rest_of words) turn.x turn.mid (lit< tt) turn.first end.clean in
      subst (SpelledItem version tables of (codes "budget" ∷ words)) (sym end.is) (record { spells = (refl, first.spells Ends end.words); paths = tt; of_version = some });
}

-- `limit N` or nothing

record IsLimited (process : List ℕ) (item : ScriptLine) (rest : Rest) : Type 0 where
  limit : ℕ
  is : item ≡ Process process limit
  clean : Clean rest
  spells : SpellsLimit limit rest.words

abbrev limit_then : List ℕ → Bool → Reader ScriptLine
limit_then process limited = limit_after limited >>= (λ limit. value_at_end (Process process limit))

unlimited : (process : List ℕ) (rest : Rest) (item : ScriptLine) (new : Rest) → value_at_end (Process process 256) rest ≡ Ok (item, new) → new.known ≡ true → IsLimited process item rest
unlimited process rest item new e known =
    let end = end_found (Process process 256) rest item new e known in
    record { limit = 256; is = end.is; clean = end.clean; spells = inl (refl, end.words) }

limit_if : (test : Bool) (process word : List ℕ) (words : List (List ℕ)) (in_range known : Bool) (item : ScriptLine) (new : Rest)
    → let rest : Rest = record { words = word ∷ words; in_range = in_range; known = known } in
    bytes_eq word (codes "limit") ≡ test → then_read (limit_then process) (cond test (value_with_rest words true) (pure false) rest) ≡ Ok (item, new) → new.known ≡ true → IsLimited process item rest
limit_if true process word words in_range known item new is_keyword e good =
    let rest : Rest = record { words = word ∷ words; in_range = in_range; known = known } in
    let turn = in_turn (number 0 256) (λ limit. value_at_end (Process process limit)) (at_words words rest) item new e in
    let end = end_found (Process process turn.x) turn.mid item new turn.then good in
    let first = number_found 0 256 (at_words words rest) turn.x turn.mid (lit< tt) turn.first end.clean in
    record {
      limit = turn.x;
      is = end.is;
      clean = record { in_range = first.clean.in_range; known = first.clean.known };
      spells = inr ((bytes_eq-Decides word (codes "limit")).0 is_keyword, first.spells Ends end.words);
    }
limit_if false process word words in_range known item new is_keyword e good =
    unlimited process (record { words = word ∷ words; in_range = in_range; known = known }) item new e good

limit_at : (process : List ℕ) (words : List (List ℕ)) (in_range known : Bool) (item : ScriptLine) (new : Rest)
    → let rest : Rest = record { words = words; in_range = in_range; known = known } in
    (optional_word (codes "limit") >>= limit_then process) rest ≡ Ok (item, new) → new.known ≡ true → IsLimited process item rest
limit_at process [] in_range known item new e good = unlimited process (record { words = []; in_range = in_range; known = known }) item new e good
limit_at process (word ∷ words) in_range known item new e good = limit_if (bytes_eq word (codes "limit")) process word words in_range known item new refl e good

process_spells : (version : ℕ) (tables : Tables) (of : ℕ) → nat_le 1 version ≡ true → Spells version tables of (codes "process") process_item
unfolding process_item
process_spells version tables of some = record {
  found = λ words item new used e known.
      let turn = in_turn name (λ process. optional_word (codes "limit") >>= limit_then process) (rest_of words) item new e in
      let limited = limit_at turn.x turn.mid.words turn.mid.in_range turn.mid.known item new turn.then known in
      let first = name_found (rest_of words) turn.x turn.mid turn.first limited.clean in
      subst (SpelledItem version tables of (codes "process" ∷ words)) (sym limited.is) (record { spells = (refl, first.spells (SpellsLimit limited.limit) limited.spells); paths = tt; of_version = some });
}

-- `of PARENT`

abbrev parent_from_word : Tables → ℕ → List ℕ → Reader Pid
parent_from_word tables before word = name_from_word word >>= (λ bytes. declared_number (earlier_number (take before tables.processes) bytes) >>= (λ n. pure (pid n)))

parent_gave : (tables : Tables) (before : ℕ) (word : List ℕ) (rest : Rest) (x : Pid) (new : Rest) → parent_from_word tables before word rest ≡ Ok (x, new) → Clean new → Gave (SpellsParent tables before) x word rest new
parent_gave tables before word rest x new e clean =
    let turn = in_turn (name_from_word word) (λ bytes. declared_number (earlier_number (take before tables.processes) bytes) >>= (λ n. pure (pid n))) rest x new e in
    let named = name_given word rest turn.x turn.mid turn.first in
    let later = in_turn (declared_number (earlier_number (take before tables.processes) turn.x)) (λ n. pure (pid n)) turn.mid x new turn.then in
    let last : later.mid ≡ new = same_rest later.then in
    let number = declared_given (earlier_number (take before tables.processes) turn.x) turn.mid later.x later.mid later.first (subst Clean (sym last) clean) in
    let numbered = name_of_earlier tables.processes before word later.x (ap (earlier_number (take before tables.processes)) (sym named.is) ∙ number.is) in
    subst (λ p. Gave (SpellsParent tables before) p word rest new) (same_value later.then) (record { spells = ((named.named, numbered.0), numbered.1); same = sym last ∙ number.same ∙ named.same })

parent_as : (tables : Tables) (before : ℕ) (words : List (List ℕ)) (in_range known : Bool)
    → let rest : Rest = record { words = words; in_range = in_range; known = known } in
    parent tables before rest ≡ (next_word >>= parent_from_word tables before) rest
parent_as tables before [] in_range known = refl
parent_as tables before (word ∷ words) in_range known = refl

parent_found : (tables : Tables) (before : ℕ) (rest : Rest) (x : Pid) (mid : Rest) → parent tables before rest ≡ Ok (x, mid) → Clean mid → GaveAll (First (SpellsParent tables before x)) rest.words rest mid
parent_found tables before rest x mid e clean =
    word_at (SpellsParent tables before) (parent_from_word tables before) rest.words rest.in_range rest.known x mid (λ word at new read good. parent_gave tables before word at x new read good)
    (sym (parent_as tables before rest.words rest.in_range rest.known) ∙ e) clean

record IsParented (tables : Tables) (before : ℕ) (child : List ℕ) (item : ScriptLine) (rest : Rest) : Type 0 where
  parent : Pid
  is : item ≡ Child child parent
  clean : Clean rest
  spells : Then (codes "of") (First (SpellsParent tables before parent) Ends) rest.words

abbrev parent_then : Tables → ℕ → List ℕ → Bool → Reader ScriptLine
parent_then tables before child named = parent_after tables before named >>= (λ parent. value_at_end (Child child parent))

parent_if : (test : Bool) (tables : Tables) (before : ℕ) (child word : List ℕ) (words : List (List ℕ)) (in_range known : Bool) (item : ScriptLine) (new : Rest)
    → let rest : Rest = record { words = word ∷ words; in_range = in_range; known = known } in
    bytes_eq word (codes "of") ≡ test → then_read (parent_then tables before child) (cond test (value_with_rest words true) (pure false) rest) ≡ Ok (item, new) → new.known ≡ true → IsParented tables before child item rest
parent_if true tables before child word words in_range known item new is_keyword e good =
    let rest : Rest = record { words = word ∷ words; in_range = in_range; known = known } in
    let turn = in_turn (parent tables before) (λ parent. value_at_end (Child child parent)) (at_words words rest) item new e in
    let end = end_found (Child child turn.x) turn.mid item new turn.then good in
    let first = parent_found tables before (at_words words rest) turn.x turn.mid turn.first end.clean in
    record {
      parent = turn.x;
      is = end.is;
      clean = record { in_range = first.clean.in_range; known = first.clean.known };
      spells = ((bytes_eq-Decides word (codes "of")).0 is_keyword, first.spells Ends end.words);
    }
parent_if false tables before child word words in_range known item new is_keyword e good = absurd (no_answer e)

parented_at : (tables : Tables) (before : ℕ) (child : List ℕ) (words : List (List ℕ)) (in_range known : Bool) (item : ScriptLine) (new : Rest)
    → let rest : Rest = record { words = words; in_range = in_range; known = known } in
    (optional_word (codes "of") >>= parent_then tables before child) rest ≡ Ok (item, new) → new.known ≡ true → IsParented tables before child item rest
parented_at tables before child [] in_range known item new e good = absurd (no_answer e)
parented_at tables before child (word ∷ words) in_range known item new e good = parent_if (bytes_eq word (codes "of")) tables before child word words in_range known item new refl e good

child_spells : (version : ℕ) (tables : Tables) (of : ℕ) → nat_le 2 version ≡ true → Spells version tables of (codes "child") (child_item tables of)
unfolding child_item
child_spells version tables of since = record {
  found = λ words item new used e known.
      let turn = in_turn name (λ child. optional_word (codes "of") >>= parent_then tables of child) (rest_of words) item new e in
      let parented = parented_at tables of turn.x turn.mid.words turn.mid.in_range turn.mid.known item new turn.then known in
      let first = name_found (rest_of words) turn.x turn.mid turn.first parented.clean in
      subst (SpelledItem version tables of (codes "child" ∷ words)) (sym parented.is) (record { spells = (refl, first.spells (Then (codes "of") (First (SpellsParent tables of parented.parent) Ends)) parented.spells); paths = tt; of_version = since });
}

-- the threads of a schedule

schedule_spelled : (version : ℕ) (tables : Tables) (of : ℕ) → nat_le 1 version ≡ true → (threads : List Tid) (words : List (List ℕ)) → 1 ≤ length threads → Each (SpellsThread tables) threads Ends words → SpelledItem version tables of (codes "schedule" ∷ words) (Schedule threads)
schedule_spelled version tables of some [] words one_at_least spells = absurd (omega arith)
schedule_spelled version tables of some (thread ∷ threads) words one_at_least spells = record { spells = (refl, spells); paths = tt; of_version = some }

thread_gave : (tables : Tables) (word : List ℕ) (rest : Rest) (x : Tid) (new : Rest) → thread_from_word tables word rest ≡ Ok (x, new) → Clean new → Gave (SpellsThread tables) x word rest new
thread_gave tables word rest x new e clean =
    let found = word_found_at tables 0 AThread word rest x new refl e clean in
    record { spells = (found.spells (Unit {0}) tt).0; same = found.same }

schedule_spells : (version : ℕ) (tables : Tables) (of : ℕ) → nat_le 1 version ≡ true → Spells version tables of (codes "schedule") (schedule_item tables)
unfolding schedule_item
schedule_spells version tables of some = record {
  found = λ words item new used e known.
      let named = in_turn (items_to is_no_stop (thread_from_word tables)) (λ named. nonempty_list named >>= (λ threads. value_at_end (Schedule threads))) (rest_of words) item new e in
      let turn = in_turn (nonempty_list named.x) (λ threads. value_at_end (Schedule threads)) named.mid item new named.then in
      let end = end_found (Schedule turn.x) turn.mid item new turn.then known in
      let count = at_least_one_given named.x named.mid turn.x turn.mid turn.first in
      let items = items_found (SpellsThread tables) is_no_stop (thread_from_word tables) (thread_gave tables) words (rest_of words) named.x named.mid named.first (subst Clean count.same end.clean) in
      let left : named.mid.words ≡ [] = ap (λ r. r.words) (sym count.same) ∙ end.words in
      subst (SpelledItem version tables of (codes "schedule" ∷ words)) (sym (end.is ∙ ap Schedule count.is)) (schedule_spelled version tables of some named.x words count.least (items.spells Ends left));
}

-- a line of a body

spelled_keyword : (tables : Tables) (of : ℕ) (line : Line) (word : List ℕ) (words : List (List ℕ)) → SpellsLine tables of line (word ∷ words) → word ≡ keyword_word (keyword_of_line line)
spelled_keyword tables of (Create var entry cookie attrs) word words spells = spells.0
spelled_keyword tables of line word words spells = spells.0

line_since : (version : ℕ) (tables : Tables) (of : ℕ) (keyword : Keyword) (line : Line) (words : List (List ℕ)) → keyword_version keyword ≤ version → SpellsLine tables of line (keyword_word keyword ∷ words) → is_of_version version (Do line) ≡ true
line_since version tables of keyword line words since spells =
    let same : keyword ≡ keyword_of_line line = keyword-same keyword (keyword_of_line line) (spelled_keyword tables of line (keyword_word keyword) words spells) in
    le-leb (keyword_version (keyword_of_line line)) version (subst (λ k. keyword_version k ≤ version) same since)

line_spells : (version : ℕ) (tables : Tables) (of : ℕ) (keyword : Keyword) → keyword_version keyword ≤ version → Spells version tables of (keyword_word keyword) (line_item tables of keyword)
line_spells version tables of keyword since = record {
  found = λ words item new used e known.
      let turn = in_turn (line_with tables of keyword) (λ line. pure (Do line)) (rest_of words) item new e in
      let good : turn.mid.known ≡ true = ap (λ r. r.known) (same_rest turn.then) ∙ known in
      let paths = line_paths tables of keyword words turn.x turn.mid used turn.first good in
      let spells = line-found tables of keyword words turn.x turn.mid turn.first good paths in
      subst (SpelledItem version tables of (keyword_word keyword ∷ words)) (same_value turn.then) (record { spells = spells; paths = paths; of_version = line_since version tables of keyword turn.x words since spells });
}

-- the same where a first word may be none of its place

pub record MaySpell (version : ℕ) (tables : Tables) (of : ℕ) (word : List ℕ) (given : Option (Reader ScriptLine)) : Type 0 where
  pub found : (read : Reader ScriptLine) (words : List (List ℕ)) (item : ScriptLine) (new : Rest) → given ≡ Some read → is_used tables (path_of_words (word ∷ words)) ≡ true → read (rest_of words) ≡ Ok (item, new) → new.known ≡ true → SpelledItem version tables of (word ∷ words) item

none_spells : (version : ℕ) (tables : Tables) (of : ℕ) (word : List ℕ) → MaySpell version tables of word None
none_spells version tables of word = record { found = λ read words item new is_keyword used e known. cc }

some_spells : (version : ℕ) (tables : Tables) (of : ℕ) (keyword word : List ℕ) (read : Reader ScriptLine) → word ≡ keyword → Spells version tables of keyword read → MaySpell version tables of word (Some read)
some_spells version tables of keyword word read same spells = record {
  found = λ other words item new is_keyword used e known.
      let reads : read (rest_of words) ≡ Ok (item, new) = let one : read ≡ other = cc in ap (λ r. r (rest_of words)) one ∙ e in
      let uses : is_used tables (path_of_words (keyword ∷ words)) ≡ true = ap (λ w. is_used tables (path_of_words (w ∷ words))) (sym same) ∙ used in
      subst (λ w. SpelledItem version tables of (w ∷ words) item) (sym same) (spells.found words item new uses reads known);
}

if_at : (test : Bool) (version : ℕ) (tables : Tables) (of : ℕ) (keyword word : List ℕ) (read : Reader ScriptLine) (others : Option (Reader ScriptLine)) → bytes_eq word keyword ≡ test → Spells version tables of keyword read → MaySpell version tables of word others → MaySpell version tables of word (cond test (Some read) others)
if_at true version tables of keyword word read others is_keyword spells later = some_spells version tables of keyword word read ((bytes_eq-Decides word keyword).0 is_keyword) spells
if_at false version tables of keyword word read others is_keyword spells later = later

if_spells : (version : ℕ) (tables : Tables) (of : ℕ) (keyword word : List ℕ) (read : Reader ScriptLine) (others : Option (Reader ScriptLine)) → Spells version tables of keyword read → MaySpell version tables of word others → MaySpell version tables of word (cond (is_keyword word keyword) (Some read) others)
if_spells version tables of keyword word read others spells later = if_at (is_keyword word keyword) version tables of keyword word read others refl spells later

item_in_schedule-spells : (version : ℕ) (tables : Tables) (of : ℕ) (word : List ℕ) → nat_le 1 version ≡ true → MaySpell version tables of word (item_in_schedule tables word)
item_in_schedule-spells version tables of word some = if_spells version tables of (codes "schedule") word _ _ (schedule_spells version tables of some) (none_spells version tables of word)

child_if : (since is : Bool) (version : ℕ) (tables : Tables) (of : ℕ) (word : List ℕ) (others : Option (Reader ScriptLine)) → nat_le 2 version ≡ since → is_keyword word (codes "child") ≡ is → MaySpell version tables of word others → MaySpell version tables of word (cond (since && is) (Some (child_item tables of)) others)
child_if true true version tables of word others since is later = some_spells version tables of (codes "child") word (child_item tables of) ((bytes_eq-Decides word (codes "child")).0 is) (child_spells version tables of since)
child_if true false version tables of word others since is later = later
child_if false is version tables of word others since same later = later

item_in_processes-spells : (version : ℕ) (tables : Tables) (of : ℕ) (word : List ℕ) → nat_le 1 version ≡ true → MaySpell version tables of word (item_in_processes version tables of word)
item_in_processes-spells version tables of word some =
    if_spells version tables of (codes "process") word _ _ (process_spells version tables of some) (
    child_if (nat_le 2 version) (is_keyword word (codes "child")) version tables of word _ refl refl (item_in_schedule-spells version tables of word some))

keyword_spells : (version : ℕ) (tables : Tables) (of : ℕ) (word : List ℕ) (keyword : Option Keyword) → nat_le 1 version ≡ true → keyword_of version word ≡ keyword → MaySpell version tables of word (option_map (line_item tables of) keyword)
keyword_spells version tables of word None some is_keyword = none_spells version tables of word
keyword_spells version tables of word (Some keyword) some is_keyword =
    some_spells version tables of (keyword_word keyword) word _ (keyword-found version word keyword is_keyword) (line_spells version tables of keyword (keyword-since version word keyword (leb-true 1 version some) is_keyword))

pub item_spells : (place : ScriptPlace) (version : ℕ) (tables : Tables) (of : ℕ) (word : List ℕ) → nat_le 1 version ≡ true → MaySpell version tables of word (item_at_place place version tables of word)
item_spells Start version tables of word some = if_spells version tables of (codes "budget") word _ _ (budget_spells version tables of some) (item_in_processes-spells version tables of word some)
item_spells Processes version tables of word some = item_in_processes-spells version tables of word some
item_spells Members version tables of word some =
    if_spells version tables of (codes "spare") word _ _ (spare_spells version tables of some) (
    if_spells version tables of (codes "thread") word _ _ (thread_spells version tables of some) (
    if_spells version tables of (codes "proc") word _ _ (procedure_spells version tables of some) (item_in_processes-spells version tables of word some)))
item_spells Body version tables of word some = keyword_spells version tables of word (keyword_of version word) some refl
item_spells Scheduled version tables of word some = item_in_schedule-spells version tables of word some
