-- Where no call was made.
use Rattle.std.proofs.Common.{◌≡◌, ℕ, List, [], arith}
use Rattle.call_tree.specs.Words.{LinksValue, IsEmpty, at}
use Rattle.call_tree.specs.Index.{IsWhole}

pub whole_empty : (links : LinksValue) (ck sk : List ℕ) → IsEmpty links → ((t : ℕ) → at ck t ≡ 0) → ((t : ℕ) → at sk t ≡ 0) → IsWhole links [] ck sk
whole_empty links ck sk e c s = record {
  apart = tt;
  rising = tt;
  indexed = record {
    caller = λ j x h. absurd (cc);
    server = λ j t x h k. absurd (cc);
    called = λ t j h. absurd (omega (arith, c t, h));
    serving = λ t j h. absurd (omega (arith, s t, h));
    up_is = λ t j x h k. absurd (cc);
    up_none = λ t h. ((e.1 t).0, (e.1 t).2);
    down_is = λ t j x h k. absurd (cc);
    down_none = λ t h. (e.1 t).1;
    later = λ j x h. absurd (cc);
    once = λ j i x y h k n. absurd (cc);
    sound = λ j x h. absurd (cc);
  };
}
