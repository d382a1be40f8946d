use Rattle.std.proofs.Common.{◌≡◌, ◌++◌, ◌∷◌, [], take}
use Rattle.std.specs.Prelude.{codes}
use Rattle.history_text.specs.HeadText.{head_lines}
use Rattle.history_text.proofs.write_head.head.Given as goal

abbrev pub invariant-loop-i : goal.invariant-loop-i
invariant-loop-i l = l.text ≡ codes "doors history 1" ++ 10 ∷ [] ++ head_lines l.names 0 (take l.i l.names.processes)
