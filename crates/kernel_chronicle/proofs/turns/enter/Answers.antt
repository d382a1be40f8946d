use Rattle.std.proofs.Common.{Some, ◌+◌, ◌++◌, ap, refl, sym, subst, ◌∙◌}
use Rattle.spec_histories.specs.Histories.{Entry, end, next}
use Rattle.history_text.specs.declared.line.Asked.TheVariants.{Enter, GoOn}
use Rattle.history_text.specs.LeftText.{left_text}
use Rattle.history_text.specs.Lookups.{process_of}
use Rattle.kernel_chronicle.specs.declared.refusal.Refusal.{Refusal}
use Rattle.kernel_chronicle.specs.Written.{IsCauseOfEnter, Written}
use Rattle.kernel_chronicle.proofs.Few.{few_items, few_sent}
use Rattle.kernel_chronicle.proofs.Tellings.{bytes_are, cause_of_enter, entered_mentions, left_is, line_is, reply_is, rooted}
use Rattle.kernel_chronicle.proofs.turns.enter.Goals as goal

pub hand_over-requires-clause-items : goal.hand_over-requires-clause-items
hand_over-requires-clause-items c =
    few_items (Some c.in-Ok.request) c.in-Ok-enter.told.stepped.answer c.in-Ok-enter.ensures.small
    (few_sent c.args.names.now (process_of c.args.names.now (record { 0 = c.args.asked.now.thread })) c.in-Ok.request c.in-Ok.ensures.writable)

pub returns-in-Ok-enter-clause-done : goal.returns-in-Ok-enter-clause-done
returns-in-Ok-enter-clause-done c =
    let names = c.args.names.now in
    let history = c.args.held.now in
    let t = c.args.asked.now.thread in
    let r = c.in-Ok.request in
    let told = c.in-Ok-enter.told in
    let e : Entry = next history t (Some r) in
    let is = c.in-Ok-enter.ensures.told in
    record {
      request = r;
      asked = c.in-Ok.ensures.asked;
      entered = record {
        grows = c.in-Ok-enter.ensures.done;
        legal = c.in-Ok-enter.ensures.legal;
        mentions =
            entered_mentions names _ (record { 0 = t }) (record { 0 = e.root }) r _ c.mentioned_by-mentioned.ensures
            (rooted names _ (record { 0 = t }) told.root.0 e.root _ (ap (λ (x : Entry). x.root) is) c.hand_over.ensures.mentions);
        reply = reply_is t (Some r) told e _ is c.hand_over.ensures.reply;
        bytes = bytes_are t (Some r) told e _ is c.hand_over.ensures.bytes;
        text =
            line_is names e _ _ told.stepped.answer
            (left_is names c.number.result e.number (record { 0 = t }) c.root.result e.root (Enter r) _ _ c.in-Ok-room_for_turn.ensures.line c.number.ensures c.root.ensures c.push_left.ensures.items)
            (ap (λ (x : Entry). x.answer) is) c.hand_over.ensures.text;
      };
    }

pub returns-in-Err-enter-clause-why : goal.returns-in-Err-enter-clause-why
returns-in-Err-enter-clause-why c =
    let w : Written = record { history = c.args.held.now; names = c.args.names.now } in
    subst (λ (why : Refusal). IsCauseOfEnter w c.args.asked.now c.args.data.now c.args.items.now why) (sym c.refusal_of.ensures)
    (cause_of_enter w c.args.asked.now c.args.data.now c.args.items.now c.in-Ok.request c.in-Err-enter.refused c.in-Ok.ensures.asked c.in-Err-enter.ensures.refused)
