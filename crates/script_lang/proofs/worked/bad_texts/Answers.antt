use Rattle.script_lang.proofs.Texts.{empty_input, bad_range, bad_twice, bad_open, bad_body, bad_unknown}
use Rattle.script_lang.proofs.worked.bad_texts.Goals as goal

pub returns : goal.returns
returns c =
    record {
      empty_input = empty_input;
      bad_range = bad_range;
      bad_twice = bad_twice;
      bad_open = bad_open;
      bad_body = bad_body;
      bad_unknown = bad_unknown;
    }
