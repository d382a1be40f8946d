-- How many items the events of an answer are.
use Rattle.std.proofs.Common.{◌≡◌, ◌≤◌, ◌<◌, ◌*◌, ◌^◌, ℕ, List, [], ◌∷◌, length, flat_map, arith}
use Rattle.spec_kernel.specs.Types.{EventRec}
use Rattle.kernel_chronicle.specs.Replies.{event_numbers}

pub count_events : (es : List EventRec) → length (flat_map event_numbers es) ≡ 4 * length es
count_events [] = omega arith
count_events (e ∷ es) = omega (arith, count_events es)

pub few_events : (es : List EventRec) → length (flat_map event_numbers es) ≤ 256 → 4 * length es < 2 ^ 64
few_events es few = omega (arith, few, count_events es)
