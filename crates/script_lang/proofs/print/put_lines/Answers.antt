use Rattle.std.proofs.Common.{◌++◌, ◌∷◌, [], ap, ◌∙◌}
use Rattle.line_text.specs.Words.{joined_words}
use Rattle.line_forms.specs.Words.{line_words}
use Rattle.script_lang.proofs.PrintSteps.{body_more}
use Rattle.script_lang.proofs.print.put_lines.Goals as goal

pub loop-line-preserved : goal.loop-line-preserved
loop-line-preserved c =
    let words = joined_words (line_words c.args.tables.now c.line-item.result) in
    c.in_ok-end_line.ensures.ok ∙
    ap (λ text. text ++ 10 ∷ []) c.in_ok-put_line.ensures.ok ∙
    ap (λ text. (text ++ words) ++ 10 ∷ []) c.loop-line.invariant ∙
    body_more c.args.tables.now c.args.lines.now c.loop-line.line-index c.line-item.result c.line-item.result c.args.text.now c.loop-line-test.true c.line-item.is
