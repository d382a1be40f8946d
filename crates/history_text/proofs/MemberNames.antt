-- The members of a process take their names one after the other.
use Rattle.std.proofs.Common.{◌≡◌, ◌<◌, ◌+◌, ℕ, Bool, true, false, List, [], ◌∷◌, ◌++◌, take, drop, get_or, length, zero, suc, refl, ap, sym, subst, ◌∙◌, append_assoc, arith}
use Rattle.std.specs.Prelude.{reverse, if◌then◌else◌}
use Rattle.std.proofs.lemmas.List.{reverse-append}
use Rattle.history_text.specs.Types.{NamedThread}
use Rattle.history_text.specs.Changes.{called_thread, with_member_names}
use Rattle.history_text.specs.Lookups.{is_member}

none_left : (p : ℕ) (rest : List NamedThread) → with_member_names p [] rest ≡ rest
none_left p [] = refl
none_left p (t ∷ rest) = refl

pub not_member :
    (p : ℕ) (names : List (List ℕ)) (t : NamedThread) (rest : List NamedThread) → is_member p t ≡ false →
    with_member_names p names (t ∷ rest) ≡ t ∷ with_member_names p names rest
not_member p [] t rest h = ap (λ (xs : List NamedThread). t ∷ xs) (sym (none_left p rest))
not_member p (name ∷ names) t rest h =
    ap (λ b. if b then called_thread name t ∷ with_member_names p names rest else t ∷ with_member_names p (name ∷ names) rest) h

pub next_name :
    (p : ℕ) (before after : List (List ℕ)) (name : List ℕ) (t : NamedThread) (rest : List NamedThread) → is_member p t ≡ true →
    before ≡ after ++ name ∷ [] →
    with_member_names p (reverse before) (t ∷ rest) ≡ called_thread name t ∷ with_member_names p (reverse after) rest
next_name p before after name t rest h e =
    ap (λ (xs : List (List ℕ)). with_member_names p (reverse xs) (t ∷ rest)) e
    ∙ ap (λ (xs : List (List ℕ)). with_member_names p xs (t ∷ rest)) (reverse-append after (name ∷ []))
    ∙ ap (λ b. if b then called_thread name t ∷ with_member_names p (reverse after) rest else t ∷ with_member_names p (name ∷ reverse after) rest) h

pub no_name :
    (p : ℕ) (names : List (List ℕ)) (t : NamedThread) (rest : List NamedThread) → names ≡ [] →
    with_member_names p (reverse names) (t ∷ rest) ≡ t ∷ with_member_names p (reverse names) rest
no_name p names t rest e =
    ap (λ (xs : List (List ℕ)). with_member_names p (reverse xs) (t ∷ rest)) e
    ∙ ap (λ (xs : List NamedThread). t ∷ xs) (sym (none_left p rest))
    ∙ ap (λ (xs : List (List ℕ)). t ∷ with_member_names p (reverse xs) rest) (sym e)
