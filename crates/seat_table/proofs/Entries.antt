-- The entries of one seat, with one entry more.
use Rattle.std.proofs.Common.{◌≡◌, ◌≢◌, ℕ, List, [], ◌∷◌, ◌++◌, cond, eqb, ap, ◌∙◌, eq-eqb, ne_eqb}
use Rattle.std.proofs.lemmas.List.{append-nil}
use Rattle.std.proofs.lemmas.List.Elements.{filter-append}
use Rattle.seat_table.specs.Rule.{by}

module _ {E : Type 0} (seat : E → ℕ) where
  -- an entry of the seat n
  pub by-mine : (n : ℕ) (log : List E) (e : E) → seat e ≡ n → by seat n (log ++ e ∷ []) ≡ by seat n log ++ e ∷ []
  by-mine n log e is =
      filter-append (λ (x : E). eqb (seat x) n) log (e ∷ []) ∙ ap (λ b. by seat n log ++ cond b (e ∷ []) []) (eq-eqb (seat e) n is)

  -- or of another
  pub by-other : (n : ℕ) (log : List E) (e : E) → seat e ≢ n → by seat n (log ++ e ∷ []) ≡ by seat n log
  by-other n log e is =
      filter-append (λ (x : E). eqb (seat x) n) log (e ∷ [])
      ∙ (ap (λ b. by seat n log ++ cond b (e ∷ []) []) (ne_eqb (seat e) n is) ∙ append-nil (by seat n log))
