-- The thread that a line names, by the number that is found for its second word.
use Rattle.std.proofs.Common.{◌≡◌, ℕ, ◌-◌, ◌==◌, ◌<◌, Bool, true, false, cond, List, [], length, get_or, Option, Some, None, refl, sym, ap, ◌∙◌, arith}
use Rattle.std.specs.Prelude.{option_map, slice_get, position, MatchOption}
use Rattle.std.specs.List.{position_or_len}
use Rattle.std.proofs.lemmas.Bool.{false≢true}
use Rattle.std.proofs.lemmas.Slice.Eq.{bytes_eq-Decides}
use Rattle.std.proofs.lemmas.List.Sums.{fails_before_first}
use Rattle.std.proofs.lemmas.Option.{slice_get_within, get_or_from_slice_get}
use Rattle.line_text.specs.Types.{Tid}
use Rattle.dk_base.specs.ByNumber.{at_number}
use Rattle.line_forms.specs.Words.{from_one, is_same}
use Rattle.line_forms.proofs.Numbering.{name_of_number, same_some, no_value}
use Rattle.line_forms.proofs.PathSearch.{place_missing}
use Rattle.script_lang.specs.Words.{ScriptValue, tables_of}
use Rattle.spec_requests.specs.Words.{NamesThread, second_word, thread_named}

-- a name that has no place stands nowhere
nowhere : (names : List (List ℕ)) (name : List ℕ) (i : ℕ) → position (is_same name) names ≡ None → slice_get names i ≡ Some name → ⊥
nowhere names name i none at =
    let within : i < length names = slice_get_within names i name at in
    let missing : length names ≡ position_or_len (is_same name) names = place_missing (is_same name) names none in
    let fails : is_same name (get_or names i []) ≡ false = fails_before_first (is_same name) names i [] (omega arith) in
    false≢true (sym fails ∙ ap (is_same name) (get_or_from_slice_get names i name [] at) ∙ (bytes_eq-Decides name name).1 refl)

no_place : (place : Option ℕ) → from_one place ≡ None → place ≡ None
no_place None e = refl
no_place (Some i) e = absurd (no_value (sym e))

at_place : (is_zero : Bool) (found : Option (List ℕ)) (name : List ℕ) → cond is_zero None found ≡ Some name → found ≡ Some name
at_place true found name e = absurd (no_value e)
at_place false found name e = e

-- a name that has no number is that of no number
unnumbered : (names : List (List ℕ)) (name : List ℕ) (n : ℕ) → from_one (position (is_same name) names) ≡ None → at_number names n ≡ Some name → ⊥
unnumbered names name n none at = nowhere names name (n - 1) (no_place (position (is_same name) names) none) (at_place (n == 0) (slice_get names (n - 1)) name at)

-- the number that is found for a line's second word
pub named_by : (script : ScriptValue) (line word : List ℕ) (found : Option Tid) → second_word line ≡ Some word → option_map (λ thread. thread.0) found ≡ thread_named script word
    → MatchOption found ((thread : Tid) → NamesThread script line thread → ⊥) (λ thread. NamesThread script line thread)
named_by script line word (Some thread) second e =
    record { word = word; second = second; declared = name_of_number (tables_of script).threads word thread.0 (sym e) }
named_by script line word None second e =
    λ thread named. unnumbered (tables_of script).threads word thread.0 (sym e) (named.declared ∙ ap Some (same_some (sym named.second ∙ second)))
