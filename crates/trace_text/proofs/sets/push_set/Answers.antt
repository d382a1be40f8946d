use Rattle.std.proofs.Common.{refl, ◌∙◌, get_or, arith}
use Rattle.line_forms.specs.Words.{attribute_flags, bits_of_flags, flag_word}
use Rattle.trace_text.proofs.PlusJoined.{set_turn, unset_turn}
use Rattle.trace_text.proofs.sets.push_set.Goals as goal
use Rattle.trace_text.proofs.sets.push_set.Goals.{then-set-bits-ne0, else-set-bits-ne0}

pub loop-bits-preserved : goal.loop-bits-preserved
loop-bits-preserved c =
    elim c.if-set-bits-ne0.branch [
      | then-set-bits-ne0 w ↦
          let turn = set_turn c.args.set (bits_of_flags attribute_flags) c.loop-bits.bits-index c.args.text.now.items c.loop-bits.text.items w.push_attribute.new.text.items (flag_word attribute_flags (get_or (bits_of_flags attribute_flags) c.loop-bits.bits-index 0)) c.loop-bits.first c.loop-bits-test.true c.loop-bits.invariant.joined c.loop-bits.invariant.none_yet w.if-set-bits-ne0.true refl w.push_attribute.ensures.items in
          record { joined = rw w.text-is turn.0; none_yet = w.first-is ∙ turn.1; taken = rw w.text-is (omega arith, omega arith); roomy = c.loop-bits.invariant.roomy }
      | else-set-bits-ne0 w ↦
          let turn = unset_turn c.args.set (bits_of_flags attribute_flags) c.loop-bits.bits-index c.args.text.now.items c.loop-bits.text.items c.loop-bits.text.items c.loop-bits.first c.if-set-bits-ne0.first c.loop-bits-test.true c.loop-bits.invariant.joined c.loop-bits.invariant.none_yet w.if-set-bits-ne0.false refl w.first-is in
          record { joined = rw w.text-is turn.0; none_yet = turn.1; taken = rw w.text-is (omega arith, omega arith); roomy = c.loop-bits.invariant.roomy }
    ]
