use Rattle.std.proofs.Common.{◌++◌, ◌∷◌, [], length, sym, ap, ◌∙◌, map, append_assoc, append-nil, arith}
use Rattle.std.proofs.lemmas.List.{length-map}
use Rattle.dk_base.specs.Numbers.{tid}
use Rattle.dk_base.specs.ThreadSets.{members}
use Rattle.dk_base.proofs.thread_set.ThreadSet.list.Goals as goal

pub loop-t-smaller : goal.loop-t-smaller
loop-t-smaller c =
    let one = ap length c.in-Some.ensures.some in
    omega (arith, one, length-map (members c.loop-t.rest) tid, length-map (members c.take.new.self) tid)

pub push-requires : goal.push-requires
push-requires c =
    let one = ap length c.in-Some.ensures.some in
    omega (arith, one, c.loop-t.invariant.1, length-map (members c.loop-t.rest) tid, length-map (members c.take.new.self) tid)

pub loop-t-preserved : goal.loop-t-preserved
loop-t-preserved c =
    let one = ap length c.in-Some.ensures.some in
    let rest = map tid (members c.take.new.self) in (
      ap (λ xs. xs ++ rest) c.push.ensures.items ∙ append_assoc c.loop-t.room.items (c.in-Some.t ∷ []) rest
          ∙ ap (λ xs. c.loop-t.room.items ++ xs) (sym c.in-Some.ensures.some) ∙ c.loop-t.invariant.0,
      omega (arith, one, c.loop-t.invariant.1, c.push.ensures.spare, length-map (members c.loop-t.rest) tid, length-map (members c.take.new.self) tid),
    )

pub returns : goal.returns
returns c = sym (append-nil c.loop-t.room.items) ∙ sym (ap (λ xs. c.loop-t.room.items ++ map tid xs) c.in_default.ensures.none) ∙ c.loop-t.invariant.0
