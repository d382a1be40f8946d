use Rattle.std.proofs.Common.{◌≡◌, drop, flat_map}
use Rattle.line_text.specs.Words.{with_distinct_names}
use Rattle.line_forms.specs.Words.{piece_variables}
use Rattle.script_lang.proofs.variables.add_of_pieces.Given as goal

abbrev pub invariant-loop-piece : goal.invariant-loop-piece
invariant-loop-piece l = with_distinct_names l.names (flat_map piece_variables (drop l.piece-index l.pieces)) ≡ with_distinct_names l.initial.names (flat_map piece_variables l.pieces)
