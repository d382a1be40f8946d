-- One line more of a head.
use Rattle.std.proofs.Common.{◌≡◌, ◌<◌, ◌+◌, ℕ, List, [], ◌∷◌, ◌++◌, take, get_or, length, zero, suc, refl, ap, sym, ◌∙◌, append_assoc, arith}
use Rattle.history_text.specs.Types.{NamedProcess}
use Rattle.history_text.specs.Names.{Names}
use Rattle.history_text.specs.HeadText.{head_line, head_lines}

next_line :
    (names : Names) (ps : List NamedProcess) (n i : ℕ) (d : NamedProcess) → i < length ps →
    head_lines names n (take (suc i) ps) ≡ head_lines names n (take i ps) ++ head_line names (n + i + 1) (get_or ps i d)
next_line names [] n i d h = absurd (omega (arith, h))
next_line names (p ∷ ps) n zero d h =
    let e : n + 1 ≡ n + 0 + 1 = omega arith in
    append-nil-right (head_line names (n + 1) p) ∙ ap (λ k. head_line names k p) e
  where
    append-nil-right : (xs : List ℕ) → xs ++ [] ≡ xs
    append-nil-right [] = refl
    append-nil-right (x ∷ xs) = ap (λ (ys : List ℕ). x ∷ ys) (append-nil-right xs)
next_line names (p ∷ ps) n (suc i) d h =
    let e : n + 1 + i + 1 ≡ n + suc i + 1 = omega arith in
    ap (λ (xs : List ℕ). head_line names (n + 1) p ++ xs)
    (next_line names ps (n + 1) i d (omega (arith, h)) ∙ ap (λ k. head_lines names (n + 1) (take i ps) ++ head_line names k (get_or ps i d)) e)
    ∙ sym (append_assoc (head_line names (n + 1) p) (head_lines names (n + 1) (take i ps)) (head_line names (n + suc i + 1) (get_or ps i d)))

pub one_line :
    (names : Names) (ps : List NamedProcess) (i : ℕ) (d : NamedProcess) → i < length ps →
    head_lines names 0 (take (i + 1) ps) ≡ head_lines names 0 (take i ps) ++ head_line names (i + 1) (get_or ps i d)
one_line names ps i d h =
    let e : suc i ≡ i + 1 = omega arith in
    let z : 0 + i + 1 ≡ i + 1 = omega arith in
    ap (λ k. head_lines names 0 (take k ps)) (sym e) ∙ next_line names ps 0 i d h
    ∙ ap (λ k. head_lines names 0 (take i ps) ++ head_line names k (get_or ps i d)) z
