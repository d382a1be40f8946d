-- How a turn ends, put together from its steps.
use Rattle.std.proofs.Common.{◌≡◌, ℕ, ◌+◌, ◌%◌, ◌^◌, List, [], ◌∷◌, ◌++◌, Some, refl, ap, sym, subst, ◌∙◌}
use mathlib.Core.Option.{none}
use Rattle.atomic_table.specs.Table.{Allows, rest, step}
use Rattle.seat_table.specs.declared.view.View.{View}
use Rattle.seat_table.specs.Rule.{Appends, InTurn, Kept, Sitting, held, told, turns}
use Rattle.seat_table.proofs.Lists.{first_is, second_is}
use Rattle.seat_table.proofs.Rules.{appends}

module _ {E D : Type 0} where
  -- the value is given back to the slot of a seat `m` in its turn, which makes it `n`

  pub given : (m n : Sitting E D) (d : D) → n ≡ (m.0, (0, Some d) ∷ rest m.1) → n.0 ≡ m.0
  given m n d is = first_is n m.0 ((0, Some d) ∷ rest m.1) is

  holding : (m n : Sitting E D) (d : D) → InTurn m → n ≡ (m.0, (0, Some d) ∷ rest m.1) → n.1 ≡ (0, Some d) ∷ []
  holding m n d turn is = second_is n m.0 ((0, Some d) ∷ rest m.1) is ∙ (λ i. (0, Some d) ∷ ap rest turn.2 i)

  pub given_turn : (m n : Sitting E D) (d : D) → InTurn m → n ≡ (m.0, (0, Some d) ∷ rest m.1) → turns n.0.stage ≡ 1
  given_turn m n d turn is = ap (λ (v : View E). turns v.stage) (given m n d is) ∙ ap turns turn.1.1

module _ {E D : Type 0} (history : D → List E) where
  pub given_back :
      (m n : Sitting E D) (d : D) → InTurn m → n ≡ (m.0, (0, Some d) ∷ rest m.1) → history d ≡ m.0.whole →
      (d : D) × (n.1 ≡ (0, Some d) ∷ []) × (history d ≡ n.0.whole)
  given_back m n d turn is same = (d, holding m n d turn is, same ∙ ap (λ (v : View E). v.whole) (sym (given m n d is)))

module _ {E D : Type 0} (history : D → List E) (seat : E → ℕ) where
  -- the value is given back with one entry more, which makes it `n`, and the entry is told, which makes it `k`

  pub appends_given :
      (slots id : ℕ) (m n : Sitting E D) (d : D) → InTurn m → n ≡ (m.0, (0, Some d) ∷ rest m.1) →
      (e : E) × (history d ≡ m.0.whole ++ e ∷ []) × (seat e ≡ m.0.number) →
      Allows (Kept history seat) slots id n 2 (λ k. (k + 1) % 2 ^ 64) (Appends history seat (step slots 2 1 0 none) n)
  appends_given slots id m n d turn is entry =
      let there : n ≡ (m.0, (0, Some d) ∷ []) = is ∙ (λ i. (m.0, (0, Some d) ∷ ap rest turn.2 i)) in
      subst (λ x. Allows (Kept history seat) slots id x 2 (λ k. (k + 1) % 2 ^ 64) (Appends history seat (step slots 2 1 0 none) x)) (sym there)
      (appends history seat slots id turn.1.0 (m.0, (0, Some d) ∷ []) d entry.0 turn.0 turn.1.1 refl entry.1 entry.2)

  pub told_turn : (n k : Sitting E D) (all : List E) → k.0 ≡ told seat n.0 all → turns k.0.stage ≡ 1
  told_turn n k all is = ap (λ (v : View E). turns v.stage) is

  -- what the seat holds is the value
  holds_history : (m n : Sitting E D) (d : D) → InTurn m → n ≡ (m.0, (0, Some d) ∷ rest m.1) → held history n.1 ≡ history d
  holds_history m n d turn is = ap (held history) (holding m n d turn is)

  pub told_view :
      (m n k : Sitting E D) (d : D) → InTurn m → n ≡ (m.0, (0, Some d) ∷ rest m.1) → k.0 ≡ told seat n.0 (held history n.1) →
      k.0 ≡ told seat m.0 (history d)
  told_view m n k d turn is entry = entry ∙ (λ i. told seat (given m n d is i) (holds_history m n d turn is i))

  pub told_back :
      (m n k : Sitting E D) (d : D) → InTurn m → n ≡ (m.0, (0, Some d) ∷ rest m.1) → k.0 ≡ told seat n.0 (held history n.1) → k.1 ≡ n.1 →
      (d : D) × (k.1 ≡ (0, Some d) ∷ []) × (history d ≡ k.0.whole)
  told_back m n k d turn is entry kept =
      (d, kept ∙ holding m n d turn is, sym (ap (λ (v : View E). v.whole) entry ∙ holds_history m n d turn is))
