-- The names that the words of a line declare, and the paths that they use, by what they spell.
use Rattle.std.proofs.Common.{◌≡◌, ℕ, Bool, true, false, cond, ◌==◌, ◌||◌, List, [], ◌∷◌, Option, Some, None, refl, ◌∙◌}
use Rattle.std.specs.Prelude.{codes, bytes_eq, unwrap_or, slice_get}
use Rattle.std.specs.List.{onto_first}
use Rattle.std.proofs.lemmas.Bool.{eqb-true, or_parts}
use Rattle.line_text.specs.Types.{PathId}
use Rattle.line_text.specs.declared.mode.Mode.TheVariants.{Word}
use Rattle.line_text.specs.Words.{words_from, words_of}
use Rattle.script_lang.specs.Types.{Line}
use Rattle.line_forms.specs.declared.line.Line.TheVariants.{Attach, Detach, Open, Await}
use Rattle.line_forms.specs.Words.{SpellsLine, Tables, keyword_of_line, keyword_word, path_word, paths_of}
use Rattle.script_lang.specs.declared.item.ScriptLine.{ScriptLine}
use Rattle.script_lang.specs.declared.item.ScriptLine.TheVariants.{Budget, Process, Child, Spare, Thread, Procedure, Do, Schedule}
use Rattle.script_lang.specs.Parsing.{is_skipped}
use Rattle.script_lang.specs.Spelled.{SpellsScriptLine, path_uses}
use Rattle.script_lang.specs.TextTables.{second_of, third_of, process_of_words, thread_of_words, procedure_of_words, path_of_words}

-- what the words of a line declare, and the path that they use
pub record NamesIn (words : List (List ℕ)) (process_name thread_name procedure_name path_name : Option (List ℕ)) : Type 0 where
  pub process : process_of_words words ≡ process_name
  pub thread : thread_of_words words ≡ thread_name
  pub procedure : procedure_of_words words ≡ procedure_name
  pub path : path_of_words words ≡ path_name

-- a line names nothing by a keyword that is not its first word

no_second : (keyword word : List ℕ) (words : List (List ℕ)) → bytes_eq word keyword ≡ false → second_of keyword (word ∷ words) ≡ None
no_second keyword word [] other = refl
no_second keyword word (second ∷ words) other = rw other refl

no_third : (keyword word : List ℕ) (words : List (List ℕ)) → bytes_eq word keyword ≡ false → third_of keyword (word ∷ words) ≡ None
no_third keyword word [] other = refl
no_third keyword word (second ∷ []) other = refl
no_third keyword word (second ∷ third ∷ words) other = rw other refl

-- the first words of lines that declare something, and of those with a path

abbrev declares : List ℕ → Bool
declares word = bytes_eq word (codes "process") || (bytes_eq word (codes "child") || (bytes_eq word (codes "spare") || (bytes_eq word (codes "thread") || bytes_eq word (codes "proc"))))

abbrev has_path : List ℕ → Bool
has_path word = bytes_eq word (codes "attach") || (bytes_eq word (codes "detach") || (bytes_eq word (codes "open") || bytes_eq word (codes "await")))

no_path : (word : List ℕ) (words : List (List ℕ)) → has_path word ≡ false → path_of_words (word ∷ words) ≡ None
no_path word words pathless =
    let attach = or_parts (bytes_eq word (codes "attach")) _ pathless in
    let detach = or_parts (bytes_eq word (codes "detach")) _ attach.1 in
    let opens = or_parts (bytes_eq word (codes "open")) (bytes_eq word (codes "await")) detach.1 in
    rw (no_third (codes "attach") word words attach.0, no_second (codes "detach") word words detach.0, no_third (codes "open") word words opens.0, no_second (codes "await") word words opens.1) refl

uses_path : (word : List ℕ) (words : List (List ℕ)) (path : Option (List ℕ)) → declares word ≡ false → path_of_words (word ∷ words) ≡ path → NamesIn (word ∷ words) None None None path
uses_path word words path nothing is =
    let process = or_parts (bytes_eq word (codes "process")) _ nothing in
    let child = or_parts (bytes_eq word (codes "child")) _ process.1 in
    let spare = or_parts (bytes_eq word (codes "spare")) _ child.1 in
    let thread = or_parts (bytes_eq word (codes "thread")) (bytes_eq word (codes "proc")) spare.1 in
    record {
      process = rw (no_second (codes "process") word words process.0, no_second (codes "child") word words child.0) refl;
      thread = rw (no_second (codes "spare") word words spare.0, no_second (codes "thread") word words thread.0) refl;
      procedure = no_second (codes "proc") word words thread.1;
      path = is;
    }

names_nothing : (word : List ℕ) (words : List (List ℕ)) → declares word ≡ false → has_path word ≡ false → NamesIn (word ∷ words) None None None None
names_nothing word words nothing pathless = uses_path word words None nothing (no_path word words pathless)

no_words : NamesIn [] None None None None
no_words = record { process = refl; thread = refl; procedure = refl; path = refl }

-- a line that is skipped

abbrev AreSkipped : List (List ℕ) → Type 0
AreSkipped [] = Unit {0}
AreSkipped ([] ∷ words) = ⊥
AreSkipped ((b ∷ bs) ∷ words) = b ≡ 35

comment_first : (b : ℕ) (words : List (List ℕ)) → b ≡ 35 → AreSkipped (onto_first b words)
comment_first b [] is = is
comment_first b (word ∷ words) is = is

skipped_if : (space : Bool) (b : ℕ) (bs : List ℕ) → (b == 32) ≡ space → cond space (is_skipped bs) (b == 35) ≡ true → (is_skipped bs ≡ true → AreSkipped (words_of bs)) → AreSkipped (words_of (b ∷ bs))
skipped_if true b bs is skipped later = rw (eqb-true b 32 is) (later skipped)
skipped_if false b bs is skipped later = rw (eqb-true b 35 skipped) (comment_first 35 (words_from Word bs) refl)

skipped_words : (line : List ℕ) → is_skipped line ≡ true → AreSkipped (words_of line)
skipped_words [] skipped = tt
skipped_words (b ∷ bs) skipped = skipped_if (b == 32) b bs refl skipped (skipped_words bs)

skipped_names : (words : List (List ℕ)) → AreSkipped words → NamesIn words None None None None
skipped_names [] skipped = no_words
skipped_names ([] ∷ words) skipped = absurd skipped
skipped_names ((b ∷ bs) ∷ words) skipped =
    names_nothing (b ∷ bs) words (rw skipped refl) (rw skipped refl)

pub names_skipped : (line : List ℕ) → is_skipped line ≡ true → NamesIn (words_of line) None None None None
names_skipped line skipped = skipped_names (words_of line) (skipped_words line skipped)

-- a line of a body

-- the first of these paths
abbrev pub path_used : Tables → List PathId → Option (List ℕ)
path_used tables [] = None
path_used tables (path ∷ paths) = Some (path_word tables path)

-- a word that has a path's number is written for it
path_is : (found : Option (List ℕ)) (word : List ℕ) → found ≡ Some word → Some word ≡ Some (unwrap_or found [])
path_is found word is = rw is refl

path_alone : (word : List ℕ) (words : List (List ℕ)) (tables : Tables) (at : PathId) (path : List ℕ) → declares word ≡ false → path_of_words (word ∷ words) ≡ Some path → slice_get tables.paths at.0 ≡ Some path
    → NamesIn (word ∷ words) None None None (Some (path_word tables at))
path_alone word words tables at path nothing found is = uses_path word words (Some (path_word tables at)) nothing (found ∙ path_is (slice_get tables.paths at.0) path is)

detach_path : (path : List ℕ) (words : List (List ℕ)) → path_of_words (codes "detach" ∷ path ∷ words) ≡ Some path
detach_path path words = rw (no_third (codes "attach") (codes "detach") (path ∷ words) refl) refl

await_path : (path : List ℕ) (words : List (List ℕ)) → path_of_words (codes "await" ∷ path ∷ words) ≡ Some path
await_path path words = rw (no_third (codes "attach") (codes "await") (path ∷ words) refl) refl

body_names : (tables : Tables) (of : ℕ) (line : Line) (words : List (List ℕ)) → SpellsLine tables of line words → NamesIn words None None None (path_used tables (paths_of line))
body_names tables of (Attach fd at) [] spells = absurd spells
body_names tables of (Attach fd at) (word ∷ []) spells = absurd spells.1
body_names tables of (Attach fd at) (word ∷ door ∷ []) spells = absurd spells.1.1
body_names tables of (Attach fd at) (word ∷ door ∷ path ∷ words) spells =
    rw spells.0 (path_alone (codes "attach") (door ∷ path ∷ words) tables at path refl refl spells.1.1.0.1)
body_names tables of (Detach at) [] spells = absurd spells
body_names tables of (Detach at) (word ∷ []) spells = absurd spells.1
body_names tables of (Detach at) (word ∷ path ∷ words) spells =
    rw spells.0 (path_alone (codes "detach") (path ∷ words) tables at path refl (detach_path path words) spells.1.0.1)
body_names tables of (Open var at) [] spells = absurd spells
body_names tables of (Open var at) (word ∷ []) spells = absurd spells.1
body_names tables of (Open var at) (word ∷ name ∷ []) spells = absurd spells.1.1
body_names tables of (Open var at) (word ∷ name ∷ path ∷ words) spells =
    rw spells.0 (path_alone (codes "open") (name ∷ path ∷ words) tables at path refl refl spells.1.1.0.1)
body_names tables of (Await at) [] spells = absurd spells
body_names tables of (Await at) (word ∷ []) spells = absurd spells.1
body_names tables of (Await at) (word ∷ path ∷ words) spells =
    rw spells.0 (path_alone (codes "await") (path ∷ words) tables at path refl (await_path path words) spells.1.0.1)
body_names tables of line [] spells = no_words
body_names tables of line (word ∷ words) spells =
    rw spells.0 (names_nothing (keyword_word (keyword_of_line line)) words refl refl)

-- a line

abbrev pub process_named : ScriptLine → Option (List ℕ)
process_named (Process name limit) = Some name
process_named (Child name parent) = Some name
process_named item = None

abbrev pub thread_named : ScriptLine → Option (List ℕ)
thread_named (Spare name) = Some name
thread_named (Thread name) = Some name
thread_named item = None

abbrev pub procedure_named : ScriptLine → Option (List ℕ)
procedure_named (Procedure name) = Some name
procedure_named item = None

pub item_names : (tables : Tables) (of : ℕ) (item : ScriptLine) (words : List (List ℕ)) → SpellsScriptLine tables of item words → NamesIn words (process_named item) (thread_named item) (procedure_named item) (path_used tables (path_uses item))
item_names tables of (Budget events) [] spells = absurd spells
item_names tables of (Budget events) (word ∷ words) spells =
    rw spells.0 (names_nothing (codes "budget") words refl refl)
item_names tables of (Process name limit) [] spells = absurd spells
item_names tables of (Process name limit) (word ∷ []) spells = absurd spells.1
item_names tables of (Process name limit) (word ∷ named ∷ words) spells =
    rw (spells.0, spells.1.0.1) (record { process = refl; thread = refl; procedure = refl; path = no_path (codes "process") (name ∷ words) refl })
item_names tables of (Child name parent) [] spells = absurd spells
item_names tables of (Child name parent) (word ∷ []) spells = absurd spells.1
item_names tables of (Child name parent) (word ∷ named ∷ words) spells =
    rw (spells.0, spells.1.0.1) (record { process = refl; thread = refl; procedure = refl; path = no_path (codes "child") (name ∷ words) refl })
item_names tables of (Spare name) [] spells = absurd spells
item_names tables of (Spare name) (word ∷ []) spells = absurd spells.1
item_names tables of (Spare name) (word ∷ named ∷ words) spells =
    rw (spells.0, spells.1.0.1) (record { process = refl; thread = refl; procedure = refl; path = no_path (codes "spare") (name ∷ words) refl })
item_names tables of (Thread name) [] spells = absurd spells
item_names tables of (Thread name) (word ∷ []) spells = absurd spells.1
item_names tables of (Thread name) (word ∷ named ∷ words) spells =
    rw (spells.0, spells.1.0.1) (record { process = refl; thread = refl; procedure = refl; path = no_path (codes "thread") (name ∷ words) refl })
item_names tables of (Procedure name) [] spells = absurd spells
item_names tables of (Procedure name) (word ∷ []) spells = absurd spells.1
item_names tables of (Procedure name) (word ∷ named ∷ words) spells =
    rw (spells.0, spells.1.0.1) (record { process = refl; thread = refl; procedure = refl; path = no_path (codes "proc") (name ∷ words) refl })
item_names tables of (Do line) words spells = body_names tables of line words spells
item_names tables of (Schedule []) words spells = absurd spells
item_names tables of (Schedule (thread ∷ threads)) [] spells = absurd spells
item_names tables of (Schedule (thread ∷ threads)) (word ∷ words) spells =
    rw spells.0 (names_nothing (codes "schedule") words refl refl)
