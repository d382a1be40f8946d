use Rattle.std.proofs.Common.{◌≡◌, ◌∙◌, ◌<◌, ◌∷◌, [], ap, arith, false, length, length-append, sym, true}
use Rattle.std.proofs.lemmas.Bool.Decides.{nat_tests}
use Rattle.spec_records.specs.Words.{is_timer_of, tag_of}
use Rattle.timer_src.proofs.Lists.{is_there, left_next, left_still, told_next, told_still}
use Rattle.timer_src.proofs.process_end.tell_tags.Goals.{in-Some+then-t-process, in-Some+else-t-process, in_default}
use Rattle.timer_src.proofs.process_end.tell_tags.Goals as goal

pub push-requires : goal.push-requires
push-requires c =
    let own : is_timer_of c.args.process.0 c.in-Some.t ≡ true = grind (arith, nat_tests, c.if-t-process.true) in
    let more = left_next (is_timer_of c.args.process.0) tag_of c.args.table.now.items c.loop-place.place c.in-Some.t (sym c.in-Some.ensures) own in
    omega (arith, more, c.loop-place.invariant.room)

pub loop-place-preserved : goal.loop-place-preserved
loop-place-preserved c =
    let p = c.args.process.0 in
    let ts = c.args.table.now.items in
    let i = c.loop-place.place in
    let within : i < length ts = omega (arith, c.loop-place-test.true, c.len-place-end.ensures.len) in
    elim c.match-at.branch [
      | in-Some+then-t-process w ↦
          let t = w.in-Some.t in
          let own : is_timer_of p t ≡ true = grind (arith, nat_tests, w.if-t-process.true) in
          let there = sym w.in-Some.ensures in
          let more = left_next (is_timer_of p) tag_of ts i t there own in
          rw w.into-is record {
            told = rw (w.push.ensures.items, w.tag_of.ensures) (told_next (is_timer_of p) tag_of c.loop-place.into.items ts i t there own ∙ c.loop-place.invariant.told);
            room = omega (arith, more, c.loop-place.invariant.room, w.push.ensures.spare);
            places =
                let long = ap length w.push.ensures.items ∙ length-append c.loop-place.into.items (w.tag_of.result ∷ []) in
                omega (arith, long, c.loop-place.invariant.places, w.push.ensures.spare);
          }
      | in-Some+else-t-process w ↦
          let t = w.in-Some.t in
          let other : is_timer_of p t ≡ false = grind (arith, nat_tests, w.if-t-process.false) in
          let there = sym w.in-Some.ensures in
          let same = left_still (is_timer_of p) tag_of ts i t there other in
          rw w.into-is record {
            told = told_still (is_timer_of p) tag_of c.loop-place.into.items ts i t there other ∙ c.loop-place.invariant.told;
            room = omega (arith, same, c.loop-place.invariant.room);
            places = c.loop-place.invariant.places;
          }
      | in_default w ↦ absurd (is_there ts i within w.in_default.ensures)
    ]
