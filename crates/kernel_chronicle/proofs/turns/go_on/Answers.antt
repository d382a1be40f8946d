use Rattle.std.proofs.Common.{None, ◌+◌, ◌++◌, ap, refl, sym, subst, ◌∙◌}
use Rattle.spec_histories.specs.Histories.{Entry, end, next}
use Rattle.history_text.specs.declared.line.Asked.TheVariants.{Enter, GoOn}
use Rattle.history_text.specs.LeftText.{left_text}
use Rattle.history_text.specs.Lookups.{process_of}
use Rattle.spec_kernel.specs.Words.{what_of_wait}
use Rattle.kernel_chronicle.specs.declared.refusal.Refusal.{Refusal}
use Rattle.kernel_chronicle.specs.Written.{IsCauseOfGoOn, Written}
use Rattle.kernel_chronicle.proofs.Few.{few_items, none_sent}
use Rattle.kernel_chronicle.proofs.Mentions.{nobody}
use Rattle.kernel_chronicle.proofs.Tellings.{bytes_are, cause_of_go_on, left_is, line_is, reply_is, rooted}
use Rattle.kernel_chronicle.proofs.turns.go_on.Goals as goal

pub hand_over-requires-clause-items : goal.hand_over-requires-clause-items
hand_over-requires-clause-items c = few_items None c.in-Ok-go_on.told.stepped.answer c.in-Ok-go_on.ensures.small none_sent

pub returns-in-Ok-go_on-clause-done : goal.returns-in-Ok-go_on-clause-done
returns-in-Ok-go_on-clause-done c =
    let names = c.args.names.now in
    let history = c.args.held.now in
    let t = c.args.thread.0 in
    let told = c.in-Ok-go_on.told in
    let e : Entry = next history t None in
    let is = c.in-Ok-go_on.ensures.told in
    record {
      grows = c.in-Ok-go_on.ensures.done;
      legal = c.in-Ok-go_on.ensures.legal;
      mentions =
          rooted names _ (record { 0 = t }) told.root.0 e.root 0 (ap (λ (x : Entry). x.root) is) c.hand_over.ensures.mentions ∙ nobody _;
      reply = reply_is t None told e _ is c.hand_over.ensures.reply;
      bytes = bytes_are t None told e _ is c.hand_over.ensures.bytes;
      text =
          line_is names e _ _ told.stepped.answer
          (left_is names c.number.result e.number (record { 0 = t }) c.root.result e.root (GoOn c.of_wait.result) _ _ c.in-Ok.ensures.line c.number.ensures c.root.ensures c.push_left_of_wait.ensures.items
          ∙ ap (λ w. left_text names e.number (record { 0 = t }) (record { 0 = e.root }) (GoOn w)) (c.of_wait.ensures ∙ ap what_of_wait c.state.ensures))
          (ap (λ (x : Entry). x.answer) is) c.hand_over.ensures.text;
    }

pub returns-in-Err-clause-why : goal.returns-in-Err-clause-why
returns-in-Err-clause-why c =
    let w : Written = record { history = c.args.held.now; names = c.args.names.now } in
    subst (λ (why : Refusal). IsCauseOfGoOn w c.args.thread.0 why) (sym c.refusal_of.ensures) (cause_of_go_on w c.args.thread.0 c.in-Err.refused c.in-Err.ensures.refused)
