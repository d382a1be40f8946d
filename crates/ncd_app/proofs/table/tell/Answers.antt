use Rattle.std.proofs.Common.{◌+◌, ◌++◌, ◌∷◌, sym, ap, ◌∙◌, subst, arith}
use Rattle.ncd_app.specs.Table.{IsTold}
use Rattle.ncd_app.proofs.Telling.{key_if, told_full, told_more, told_none}
use Rattle.ncd_app.proofs.table.tell.Goals as goal
use Rattle.ncd_app.proofs.table.tell.Goals.{then-not-is_value-via-then-not-is_value, then-not-is_value-via-else-not-is_value+then-told-ge-TOLD_KEYS}

pub returns-then-not-is_value : goal.returns-then-not-is_value
returns-then-not-is_value c =
    λ keys t. elim c.then-not-is_value.branch [
      | then-not-is_value-via-then-not-is_value w ↦
          let nothing = key_if c.args.value.now c.args.key.now c.args.record.now _ (sym c.is_value.ensures ∙ w.if-not-is_value.true) in
          subst (λ more. IsTold c.args.text.now c.args.told (keys ++ more)) (sym nothing) (told_none c.args.text.now c.args.told keys t)
      | then-not-is_value-via-else-not-is_value+then-told-ge-TOLD_KEYS w ↦ told_full c.args.text.now c.args.told keys _ w.if-told-ge-TOLD_KEYS.true t
    ]

pub returns : goal.returns
returns c =
    λ keys t.
    let one = key_if c.args.value.now c.args.key.now c.args.record.now _ (sym c.is_value.ensures ∙ c.if-not-is_value.false) in
    let after = c.in_ok-word.ensures.ok ∙ ap (λ key. c.args.text.now ++ 32 ∷ key) c.bytes.ensures in
    subst (λ more. IsTold c.word.new.self (c.args.told + 1) (keys ++ more)) (sym one)
    (told_more c.args.text.now c.word.new.self c.args.told keys c.args.key.now (omega arith) after t)
