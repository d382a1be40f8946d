use Rattle.std.proofs.Common.{◌≡◌, ◌++◌, take, map}
use Rattle.script_lang.specs.declared.item.ScriptLine.TheVariants.{Do}
use Rattle.script_lang.specs.Printed.{items_text}
use Rattle.script_lang.proofs.print.put_lines.Given as goal

abbrev pub invariant-loop-line : goal.invariant-loop-line
invariant-loop-line l = l.text ≡ l.initial.text ++ items_text l.tables (map Do (take l.line-index l.lines))
