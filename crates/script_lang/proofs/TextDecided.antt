-- Every text is decided: what is read is what is spelled.
use Rattle.std.proofs.Common.{◌≡◌, ℕ, List, Result, Ok, Err, MatchResult, refl, ap}
use Rattle.script_lang.specs.declared.bad.Bad.{Bad}
use Rattle.script_lang.specs.declared.bad.ParseFault.{ParseFault}
use Rattle.script_lang.specs.declared.bad.ParseFault.TheVariants.{Bad as BadLine, Memory as NoRoom}
use Rattle.script_lang.specs.Decided.{IsDecided, IsParsed}
use Rattle.script_lang.specs.Parsing.{parse_result, first_bad_line, fault_of}
use Rattle.script_lang.specs.TextReaderContracts.{Refuses}
use Rattle.script_lang.specs.Value.{ScriptValue}
use Rattle.script_lang.proofs.TextFound.{text_found}
use Rattle.script_lang.proofs.TextOnly.{text_only}

same_script : (answer : Result ScriptValue Bad) (one other : ScriptValue) → answer ≡ Ok one → answer ≡ Ok other → one ≡ other
same_script answer one other e f = cc

no_script : (answer : Result ScriptValue Bad) (script : ScriptValue) (fault : Bad) → answer ≡ Ok script → answer ≡ Err fault → ⊥
no_script answer script fault e f = cc

decided_as : (text : List ℕ) (answer : Result ScriptValue Bad) → parse_result text ≡ answer → IsDecided text answer
unfolding first_bad_line
decided_as text (Ok script) e =
    record {
      spelled = text_found text script e;
      only = λ other spelled. same_script (parse_result text) other script (text_only text other spelled) e;
      good = ap fault_of e;
    }
decided_as text (Err fault) e =
    record {
      none = λ script spelled. no_script (parse_result text) script fault (text_only text script spelled) e;
      bad = ap fault_of e;
    }

pub text_decided : (text : List ℕ) → IsDecided text (parse_result text)
text_decided text = decided_as text (parse_result text) refl

-- what the reader answers of a text
pub parsed : (text : List ℕ) (result : Result ScriptValue ParseFault) → MatchResult result (λ script. parse_result text ≡ Ok script) (λ fault. Refuses (parse_result text) fault) → IsParsed text result
parsed text (Ok script) e = decided_as text (Ok script) e
parsed text (Err (BadLine fault)) refuses = decided_as text (Err fault) (refuses fault refl)
parsed text (Err NoRoom) refuses = tt
