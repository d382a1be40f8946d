use Rattle.std.proofs.Common.{rules}
use Rattle.std.proofs.lemmas.Result.{err_from_is_err_and}
use Rattle.script_lang.proofs.ReadingBegins.{read_whole, refused_whole}
use Rattle.script_lang.proofs.ScriptRead.{answer_is_script}
use Rattle.script_lang.proofs.parse.read.Goals as goal

pub returns : goal.returns
returns c =
    read_whole c.args.text.now c.in-Some.first.now c.in-Some.rest.now c.in-Some-version_of.version c.new-reader.result.lines c.new-reader.result c.read_lines.new.self c.finish.result
    c.in-Some.ensures.line (search rules) (search rules) (search rules) (search rules) (search rules) c.in_ok-read_lines.ensures.read c.finish.ensures

pub finish-requires-clause-script : goal.finish-requires-clause-script
finish-requires-clause-script c =
    answer_is_script c.args.text.now c.in-Some.first.now c.in-Some.rest.now c.in-Some-version_of.version c.new-reader.result.lines c.new-reader.result c.read_lines.new.self
    c.in-Some.ensures.line (search rules) (search rules) (search rules) (search rules) (search rules) c.in_ok-read_lines.ensures.read c.in_ok-read_lines.ensures.names

pub returns-in_err-read_lines : goal.returns-in_err-read_lines
returns-in_err-read_lines c =
    let p = err_from_is_err_and c.from_residual-in_err-read_lines.result c.from_residual-in_err-read_lines.ensures.1 in
    rw (p.1, p.2) (
    refused_whole c.args.text.now c.in-Some.first.now c.in-Some.rest.now c.in-Some-version_of.version c.new-reader.result.lines c.new-reader.result _
    c.in-Some.ensures.line (search rules) (search rules) (search rules) (search rules) (search rules) c.in_err-read_lines.ensures.read)
