use Rattle.std.proofs.Common.{◌∷◌, ◌++◌, decimal, ap, ◌∙◌}
use Rattle.load_gen.proofs.Writing.{client_written, on_ok}
use Rattle.load_gen.proofs.load_script.put_client_lines.Goals as goal

pub returns : goal.returns
returns c =
    on_ok c.bytes-2.result
    (λ last. client_written c.args.name.now c.args.text.now c.first.new.self c.word.new.self c.bytes.new.self c.number.new.self c.bytes-2.new.self c.args.calls
    c.in_ok-first.ensures.ok c.in_ok-word.ensures.ok c.in_ok-bytes.ensures.ok (c.in_ok-number.ensures.ok ∙ ap (λ calls. c.bytes.new.self ++ 32 ∷ decimal calls) c.from.ensures) last)
    c.bytes-2.ensures.ok
