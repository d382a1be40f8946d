-- What is found from a key on, by its record in a table.
use Rattle.std.proofs.Common.{◌≡◌, ◌-◌, ℕ, zero, suc, List, [], ◌∷◌, Option, Some, None, refl, sym, ap, ◌∙◌, arith}
use Rattle.std.specs.Prelude.{codes}
use Rattle.ncd_app.specs.Definition.{found_from, record_of, words_after}
use Rattle.ncd_app.specs.Table.{HoldsChanges, Pairs, record_in}
use Rattle.ncd_app.specs.declared.line.Change.{Change}
use Rattle.ncd_app.specs.declared.line.Record.TheVariants.{Alias, Value}
use Rattle.ncd_app.specs.declared.line.Record.{Record}

from_none : (cs : List Change) (left : ℕ) → found_from cs left None ≡ codes "none"
unfolding found_from
from_none cs zero = refl
from_none cs (suc left) = refl

from_value : (cs : List Change) (left : ℕ) (v : List ℕ) → found_from cs left (Some (Value v)) ≡ words_after (codes "value") (v ∷ [])
unfolding found_from
from_value cs zero v = refl
from_value cs (suc left) v = refl

from_loop : (cs : List Change) (target : List ℕ) → found_from cs zero (Some (Alias target)) ≡ codes "loop"
unfolding found_from
from_loop cs target = refl

pred_is : (left : ℕ) → left ≡ suc left - 1
pred_is left = omega arith

from_alias : (cs : List Change) (left : ℕ) (target : List ℕ) → (left ≡ 0 → ⊥) → found_from cs left (Some (Alias target)) ≡ found_from cs (left - 1) (record_of cs target)
unfolding found_from
from_alias cs zero target h = absurd (h refl)
from_alias cs (suc left) target h = ap (λ n. found_from cs n (record_of cs target)) (pred_is left)

module _ (es : Pairs) (cs : List Change) (key : List ℕ) (left : ℕ) (h : HoldsChanges es cs) where
  as_held : (o : Option Record) → record_in es key ≡ o → found_from cs left o ≡ found_from cs left (record_of cs key)
  as_held o e = ap (found_from cs left) (sym e ∙ h.held key)

  pub found_none : record_in es key ≡ None → codes "none" ≡ found_from cs left (record_of cs key)
  found_none e = sym (from_none cs left) ∙ as_held None e

  pub found_value : (v : List ℕ) → record_in es key ≡ Some (Value v) → words_after (codes "value") (v ∷ []) ≡ found_from cs left (record_of cs key)
  found_value v e = sym (from_value cs left v) ∙ as_held (Some (Value v)) e

  pub found_loop : (target : List ℕ) → left ≡ 0 → record_in es key ≡ Some (Alias target) → codes "loop" ≡ found_from cs left (record_of cs key)
  found_loop target none e = sym (ap (λ n. found_from cs n (Some (Alias target))) none ∙ from_loop cs target) ∙ as_held (Some (Alias target)) e

  pub found_alias : (target : List ℕ) → (left ≡ 0 → ⊥) → record_in es key ≡ Some (Alias target) → found_from cs (left - 1) (record_of cs target) ≡ found_from cs left (record_of cs key)
  found_alias target some e = sym (from_alias cs left target some) ∙ as_held (Some (Alias target)) e
