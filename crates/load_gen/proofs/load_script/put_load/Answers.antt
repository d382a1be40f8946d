use Rattle.std.proofs.Common.{◌++◌, codes, ap, ◌∙◌}
use Rattle.load_gen.specs.LoadText.{client_text}
use Rattle.load_gen.proofs.Writing.{load_written, on_ok}
use Rattle.load_gen.proofs.load_script.put_load.Goals as goal

pub returns : goal.returns
returns c =
    on_ok c.put_client-4.result
    (λ last. load_written c.args.n c.args.text.now c.bytes.new.self c.put_client.new.text c.put_client-2.new.text c.put_client-3.new.text c.put_client-4.new.text
    c.in_ok-bytes.ensures.ok
    (c.in_ok-put_client.ensures ∙ ap (λ calls. c.bytes.new.self ++ client_text (codes "k1") calls) c.calls_of.ensures)
    (c.in_ok-put_client-2.ensures ∙ ap (λ calls. c.put_client.new.text ++ client_text (codes "k2") calls) c.calls_of-2.ensures)
    (c.in_ok-put_client-3.ensures ∙ ap (λ calls. c.put_client-2.new.text ++ client_text (codes "k3") calls) c.calls_of-3.ensures)
    (last ∙ ap (λ calls. c.put_client-3.new.text ++ client_text (codes "k4") calls) c.calls_of-4.ensures))
    c.put_client-4.ensures
