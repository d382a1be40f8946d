use Rattle.std.proofs.Common.{◌==◌, rules, tests}
use Rattle.std.proofs.lemmas.Iterator.Consumers.{nth_from_yields_List, YieldsList-from_filter}
use Rattle.std.proofs.lemmas.Iterator.Splits.{YieldsList-from_slice_split}
use Rattle.spec_requests.specs.Words.{is_some_word}
use Rattle.trace_text.proofs.turn.second_word.Goals as goal

pub returns : goal.returns
returns c =
    nth_from_yields_List _ _ 1 c.nth.ensures.ran
    (YieldsList-from_filter _ is_some_word
    (YieldsList-from_slice_split _ (λ b. b == 32) {f = tt} c.args.line.now (cc) (cc) (cc) (λ x b q k. search (rules, tests)))
    c.filter.ensures.closure (λ x b q k. search (rules, tests)))
