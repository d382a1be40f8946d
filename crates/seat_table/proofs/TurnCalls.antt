-- What a turn and a meeting do, put together from steps of the table.
use Rattle.std.proofs.Common.{◌≡◌, ℕ, List, [], ◌∷◌, Option, None, Some, ap, sym, subst, ◌∙◌}
use mathlib.Core.List.{IsPrefix}
use Rattle.seat_table.specs.declared.view.View.{View}
use Rattle.seat_table.specs.Rule.{Called, HasTurn, IsWaiting, MayDraw, Sitting, TakesTurn, drawn, joined, note_of, ticket_in, turned}
use Rattle.seat_table.specs.Sums.{Every}
use Rattle.seat_table.proofs.Lists.{first_is, second_is}

module _ {A : Type 0} (P : A → Type 0) where
  first_of : (x : A) (xs : List A) → Every P (x ∷ xs) → P x
  first_of x xs h = h.0

  rest_of : (x : A) (xs : List A) → Every P (x ∷ xs) → Every P xs
  rest_of x xs h = h.1

module _ {E D : Type 0} where
  -- a seat that has drawn a ticket waits with it
  pub drawn_waits : (m n : Sitting E D) (t : ℕ) → (n.0 ≡ drawn m.0 t) × (n.1 ≡ m.1) → MayDraw m → IsWaiting n t
  drawn_waits m n t draws may =
      (ap (λ (v : View E). v.sits) draws.0 ∙ may.0, ap (λ (v : View E). v.stage) draws.0, draws.1 ∙ may.2)

  -- what a seat waits with is its own ticket
  pub own_ticket : (m n : Sitting E D) (t : ℕ) → n ≡ m → IsWaiting m t → ticket_in n.0.stage ≡ t
  own_ticket m n t is waits = ap (λ (s : Sitting E D). ticket_in s.0.stage) is ∙ ap ticket_in waits.1

  pub still_waits : (m n : Sitting E D) (t : ℕ) → n ≡ m → IsWaiting m t → (t : ℕ) × IsWaiting n t
  still_waits m n t is waits = (t, subst (λ (s : Sitting E D). IsWaiting s t) (sym is) waits)

  -- `n` has joined a note of what another seat has seen to what `m` had seen, and `k` is as `n`
  pub met :
      (m n k note : Sitting E D) (xs : List E) → note ≡ (note_of xs, []) → n ≡ (joined m.0 note.0, m.1) →
      Every (λ ys. IsPrefix ys n.0.seen) n.0.olds → k ≡ n → IsPrefix m.0.seen k.0.seen × IsPrefix xs k.0.seen
  met m n k note xs is joins olds same =
      let now : View E = joined m.0 (note_of xs) in
      let there : n.0 ≡ now = ap (λ (s : Sitting E D). s.0) joins ∙ (λ i. joined m.0 (first_is note (note_of xs) [] is i)) in
      let P : List E → Type 0 = λ ys. IsPrefix ys now.seen in
      let begins : Every P (m.0.seen ∷ xs ∷ []) = subst (λ (v : View E). Every (λ ys. IsPrefix ys v.seen) v.olds) there olds in
      let both : IsPrefix m.0.seen now.seen × IsPrefix xs now.seen =
      (first_of P m.0.seen (xs ∷ []) begins, first_of P xs [] (rest_of P m.0.seen (xs ∷ []) begins)) in
      subst (λ (v : View E). IsPrefix m.0.seen v.seen × IsPrefix xs v.seen) (sym (ap (λ (s : Sitting E D). s.0) same ∙ there)) both

  pub met_view :
      (m n k note : Sitting E D) (xs : List E) → note ≡ (note_of xs, []) → n ≡ (joined m.0 note.0, m.1) → k ≡ n →
      k ≡ (joined m.0 (note_of xs), m.1)
  met_view m n k note xs is joins same = same ∙ (joins ∙ (λ i. (joined m.0 (first_is note (note_of xs) [] is i), m.1)))

module _ {E D : Type 0} (history : D → List E) (seat : E → ℕ) where
  -- `n` waits as `m`, and has the turn in `k` where its own ticket is served
  pub served :
      (m n k : Sitting E D) (t r : ℕ) → n ≡ m → IsWaiting m t → (r ≡ ticket_in n.0.stage → HasTurn history seat n k) → r ≡ t →
      HasTurn history seat m k
  served m n k t r is waits turn hit =
      subst (λ (s : Sitting E D). HasTurn history seat s k) is (turn (hit ∙ sym (own_ticket m n t is waits)))

  abbrev value_in : D → List (ℕ × Option D) → D
  value_in e [] = e
  value_in e ((k, None) ∷ xs) = e
  value_in e ((k, Some d) ∷ xs) = d

  -- `n` has drawn a ticket, `k` has the turn, and `l` has taken the value out
  pub takes :
      (m n k l : Sitting E D) (t : ℕ) (d : D) → n.0 ≡ drawn m.0 t → HasTurn history seat n k → k.1 ≡ (0, Some d) ∷ [] → l ≡ (k.0, (0, None) ∷ []) →
      TakesTurn history seat m l d
  takes m n k l t d draws turn holds is =
      let out : (0, Some turn.0) ∷ [] ≡ (0, Some d) ∷ [] = sym (second_is k (turned n.0 (history turn.0)) ((0, Some turn.0) ∷ []) turn.1) ∙ holds in
      let same : turn.0 ≡ d = ap (value_in d) out in
      let called : Called seat (drawn m.0 t) (history d) =
      subst (λ (x : View E × D). Called seat x.0 (history x.1)) (λ i. (draws i, same i)) turn.2 in (
        t,
        is
            ∙ (λ i. (first_is k (turned n.0 (history turn.0)) ((0, Some turn.0) ∷ []) turn.1 i, (0, None) ∷ []))
            ∙ (λ i. (turned (draws i) (history (same i)), (0, None) ∷ [])),
        record { seen = called.seen; mine = called.mine; few = called.few },
      )
