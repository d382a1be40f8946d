-- The words of a set joined by `+`, as a loop over its attributes puts them one after another.
use Rattle.std.proofs.Common.{◌≡◌, ℕ, ◌+◌, ◌<◌, ◌==◌, Bool, true, false, if◌then◌else◌, List, [], ◌∷◌, ◌++◌, length, take, get_or, refl, sym, ap, ◌∙◌, arith, append_assoc, append-nil}
use Rattle.std.specs.Prelude.{bit_and, flat_map}
use Rattle.std.specs.List.{join_with_byte}
use Rattle.std.proofs.lemmas.Bool.Decides.{nat_tests}
use Rattle.std.proofs.lemmas.List.{take_more}
use Rattle.std.proofs.lemmas.Grind.{flat_map-append}
use Rattle.line_forms.specs.Words.{attribute_flags, attribute_if, flag_word}

abbrev pub has_none : List (List ℕ) → Bool
has_none [] = true
has_none (word ∷ words) = false

-- one more word after those so far
join-push : (ws : List (List ℕ)) (w : List ℕ) → join_with_byte 43 (ws ++ w ∷ []) ≡ join_with_byte 43 ws ++ (if has_none ws then w else 43 ∷ w)
join-push [] w = refl
join-push (v ∷ []) w = refl
join-push (v ∷ u ∷ ws) w = rw (join-push (u ∷ ws) w) (sym (append_assoc v (43 ∷ join_with_byte 43 (u ∷ ws)) (43 ∷ w)))

has_none-push : (ws : List (List ℕ)) (w : List ℕ) → has_none (ws ++ w ∷ []) ≡ false
has_none-push [] w = refl
has_none-push (v ∷ ws) w = refl

-- the words of the first so many of these attributes
abbrev words_before : ℕ → List ℕ → ℕ → List (List ℕ)
words_before set flags i = flat_map (attribute_if set) (take i flags)

words_before-more : (set : ℕ) (flags : List ℕ) (i : ℕ) → i < length flags → words_before set flags (i + 1) ≡ words_before set flags i ++ attribute_if set (get_or flags i 0)
words_before-more set flags i h =
    ap (flat_map (attribute_if set)) (take_more flags i 0 h)
    ∙ flat_map-append (attribute_if set) (take i flags) (get_or flags i 0 ∷ [])
    ∙ ap (λ (words : List (List ℕ)). words_before set flags i ++ words) (append-nil (attribute_if set (get_or flags i 0)))

is_not_zero : (n : ℕ) → (n ≡ 0 → ⊥) → (n == 0) ≡ false
is_not_zero n h = grind (arith, nat_tests)

is_zero : (n : ℕ) → n ≡ 0 → (n == 0) ≡ true
is_zero n h = grind (arith, nat_tests)

-- a turn of the loop whose attribute the set has
pub set_turn : (set : ℕ) (flags : List ℕ) (i : ℕ) (start old new w : List ℕ) (first : Bool) → i < length flags → old ≡ start ++ join_with_byte 43 (flat_map (attribute_if set) (take i flags)) → first ≡ has_none (flat_map (attribute_if set) (take i flags)) → (bit_and set (get_or flags i 0) ≡ 0 → ⊥) → w ≡ flag_word attribute_flags (get_or flags i 0) → new ≡ old ++ (if first then w else 43 ∷ w) → (new ≡ start ++ join_with_byte 43 (flat_map (attribute_if set) (take (i + 1) flags))) × (false ≡ has_none (flat_map (attribute_if set) (take (i + 1) flags)))
set_turn set flags i start old new w first h e f t v n =
    let ws : List (List ℕ) = words_before set flags i in
    let more : words_before set flags (i + 1) ≡ ws ++ w ∷ [] = words_before-more set flags i h ∙ ap (λ (b : Bool). ws ++ (if b then [] else flag_word attribute_flags (get_or flags i 0) ∷ [])) (is_not_zero _ t) ∙ ap (λ (u : List ℕ). ws ++ u ∷ []) (sym v) in
    let joined = join-push ws w in
    let grouped = append_assoc start (join_with_byte 43 ws) (if has_none ws then w else 43 ∷ w) in
    (rw more cc, sym (rw more (has_none-push ws w)))

-- a turn of the loop whose attribute the set does not have
pub unset_turn : (set : ℕ) (flags : List ℕ) (i : ℕ) (start old new : List ℕ) (first after : Bool) → i < length flags → old ≡ start ++ join_with_byte 43 (flat_map (attribute_if set) (take i flags)) → first ≡ has_none (flat_map (attribute_if set) (take i flags)) → bit_and set (get_or flags i 0) ≡ 0 → new ≡ old → after ≡ first → (new ≡ start ++ join_with_byte 43 (flat_map (attribute_if set) (take (i + 1) flags))) × (after ≡ has_none (flat_map (attribute_if set) (take (i + 1) flags)))
unset_turn set flags i start old new first after h e f t n k =
    let ws : List (List ℕ) = words_before set flags i in
    let w : List ℕ = flag_word attribute_flags (get_or flags i 0) in
    let more : words_before set flags (i + 1) ≡ ws = words_before-more set flags i h ∙ ap (λ (b : Bool). ws ++ (if b then [] else w ∷ [])) (is_zero _ t) ∙ append-nil ws in
    (rw more (n ∙ e), rw more (k ∙ f))
