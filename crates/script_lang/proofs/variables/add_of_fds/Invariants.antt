use Rattle.std.proofs.Common.{◌≡◌, drop, flat_map}
use Rattle.line_text.specs.Words.{with_distinct_names}
use Rattle.line_forms.specs.Words.{fd_variables}
use Rattle.script_lang.proofs.variables.add_of_fds.Given as goal

abbrev pub invariant-loop-fd : goal.invariant-loop-fd
invariant-loop-fd l = with_distinct_names l.names (flat_map fd_variables (drop l.fd-index l.fds)) ≡ with_distinct_names l.initial.names (flat_map fd_variables l.fds)
