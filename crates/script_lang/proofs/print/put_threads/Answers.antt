use Rattle.std.proofs.Common.{◌++◌, ◌∷◌, [], ap, ◌∙◌, append-nil, sym, refl, get_or}
use Rattle.line_text.specs.Words.{spaced_words}
use Rattle.line_forms.specs.Words.{thread_word}
use Rattle.line_writer.proofs.SpacedWords.{map_more}
use Rattle.script_lang.proofs.print.put_threads.Goals as goal

pub loop-thread-preserved : goal.loop-thread-preserved
loop-thread-preserved c =
    let thread = get_or c.args.threads.now c.loop-thread.thread-index (record { 0 = 0 }) in
    c.in_ok-word.ensures.ok ∙
    ap (λ word. c.loop-thread.text ++ 32 ∷ word) (c.thread_name.ensures ∙ sym (append-nil (thread_word c.args.tables.now thread))) ∙
    ap (λ text. text ++ spaced_words (thread_word c.args.tables.now thread ∷ [])) c.loop-thread.invariant ∙
    map_more (thread_word c.args.tables.now) c.args.threads.now c.loop-thread.thread-index thread (record { 0 = 0 }) c.args.text.now c.loop-thread-test.true refl
