use Rattle.std.proofs.Common.{◌≡◌, drop, flat_map}
use Rattle.line_text.specs.Words.{with_distinct_names}
use Rattle.line_forms.specs.Words.{pass_variables}
use Rattle.script_lang.proofs.variables.add_of_passes.Given as goal

abbrev pub invariant-loop-pass : goal.invariant-loop-pass
invariant-loop-pass l = with_distinct_names l.names (flat_map pass_variables (drop l.pass-index l.passes)) ≡ with_distinct_names l.initial.names (flat_map pass_variables l.passes)
