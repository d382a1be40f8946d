-- Where no thread serves another.
use Rattle.std.proofs.Common.{◌≡◌, ℕ, ap, sym, ◌∙◌, arith, List}
use Rattle.call_tree.specs.Chains.{Sound, at, other, other_at}
use Rattle.call_tree.proofs.Chain.{stops}

pub Sound-empty : (up down rank far : List ℕ) → ((t : ℕ) → at up t ≡ 0) → ((t : ℕ) → at down t ≡ 0) → ((t : ℕ) → at rank t ≡ 0) → ((t : ℕ) → at far t ≡ 0) → Sound 0 (at up) (at down) (at rank) (other far)
Sound-empty up down rank far u d r f =
    record {
      within = λ t p. absurd (omega (arith, u t));
      no_up = u 0;
      no_down = d 0;
      back_down = λ t p. absurd (omega (arith, u t));
      back_up = λ t p. absurd (omega (arith, d t));
      ranked = λ t p. absurd (omega (arith, u t));
      bounded = λ t. omega (arith, r t);
      lead = λ t e. (u _, ap (other far) (self t) ∙ self t);
      root = λ t e. (d _, ap (other far) (self t) ∙ self t);
      token = λ t e. stops (at up) (at rank t) t (u t) ∙ sym (self t);
      short = λ t p h. (omega (arith, self t), omega (arith, self t));
    }
  where
    self : (t : ℕ) → other far t ≡ t
    self t = ap (other_at t) (f t)
