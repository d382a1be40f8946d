use Rattle.std.proofs.Common.{◌++◌, ap, ◌∙◌, sym}
use Rattle.script_lang.specs.Printed.{items_text, declared_items}
use Rattle.script_lang.proofs.PrintSteps.{put_items}
use Rattle.script_lang.proofs.print.put_parts.Goals as goal

pub loop-part-preserved : goal.loop-part-preserved
loop-part-preserved c =
    let tables = c.args.tables.now in
    ap (λ text. text ++ items_text tables c.next.new.self) c.in_ok-put_part.ensures ∙
    put_items tables c.loop-part.text (declared_items c.in-Some.part) c.next.new.self ∙
    ap (λ items. c.loop-part.text ++ items_text tables items) (sym c.in-Some.ensures) ∙
    c.loop-part.invariant
