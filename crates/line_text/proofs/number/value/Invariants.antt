use Rattle.std.proofs.Common.{◌≡◌, ◌<◌, ◌^◌, true, drop}
use Rattle.std.specs.List.{list_all}
use Rattle.line_text.specs.Numbers.{is_digit, value_from, value_of}
use Rattle.line_text.proofs.number.value.Given as goal

abbrev pub invariant-loop-digit : goal.invariant-loop-digit
invariant-loop-digit l =
    (list_all is_digit (drop l.digit-index l.digits) ≡ true) × (value_from l.value (drop l.digit-index l.digits) ≡ value_of l.digits) × (l.value < 2 ^ 64)
