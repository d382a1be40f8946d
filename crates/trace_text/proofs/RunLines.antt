-- The lines of a run as another event is told.
use Rattle.std.proofs.Common.{◌≡◌, ◌++◌, ◌∷◌, [], List, ap, ◌∙◌}
use Rattle.std.proofs.lemmas.Grind.{flat_map-append}
use Rattle.std.proofs.lemmas.List.{append-nil}
use Rattle.script_lang.specs.Words.{ScriptValue}
use Rattle.spec_requests.specs.Types.{Event}
use Rattle.spec_requests.specs.TraceText.{whole_line}
use Rattle.spec_requests.specs.Words.{line_of, lines_text}

pub one_more : (script : ScriptValue) (es : List Event) (e : Event) → lines_text script (es ++ e ∷ []) ≡ lines_text script es ++ (line_of script e ++ 10 ∷ [])
one_more script es e = flat_map-append (whole_line script) es (e ∷ []) ∙ ap (λ xs. lines_text script es ++ xs) (append-nil (line_of script e ++ 10 ∷ []))
