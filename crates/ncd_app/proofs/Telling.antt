-- The first 32 keys of a list, told one after another.
use Rattle.std.proofs.Common.{◌≡◌, ℕ, ◌+◌, ◌<◌, ◌≤◌, Bool, true, false, cond, filter, List, [], ◌∷◌, ◌++◌, length, take, refl, sym, ap, ◌∙◌, append_assoc, append-nil, arith, length-append, subst}
use Rattle.std.proofs.lemmas.List.{length-take, map-append, take-append-le, take_all}
use Rattle.std.proofs.lemmas.List.Elements.{filter-append}
use Rattle.std.specs.Prelude.{Some, codes}
use Rattle.std.specs.Map.{keys_of}
use Rattle.line_text.specs.Words.{spaced_words}
use Rattle.ncd_app.specs.Definition.{has_value, listed, words_after}
use Rattle.ncd_app.specs.Table.{IsTold, Pairs, keys_with}
use Rattle.ncd_app.specs.declared.line.Record.{Record}

spaced_more : (words : List (List ℕ)) (word : List ℕ) → spaced_words (words ++ word ∷ []) ≡ spaced_words words ++ 32 ∷ word
spaced_more [] word = append-nil (32 ∷ word)
spaced_more (w ∷ words) word = ap (λ l. (32 ∷ w) ++ l) (spaced_more words word) ∙ sym (append_assoc (32 ∷ w) (spaced_words words) (32 ∷ word))

words_more : (first : List ℕ) (words : List (List ℕ)) (word : List ℕ) → words_after first (words ++ word ∷ []) ≡ words_after first words ++ 32 ∷ word
words_more first words word = ap (λ l. first ++ l) (spaced_more words word) ∙ sym (append_assoc first (spaced_words words) (32 ∷ word))

-- no further key is told where 32 are
full : (n : ℕ) (keys more : List (List ℕ)) → n ≤ length (take n keys) → take n (keys ++ more) ≡ take n keys
full n keys more h =
    let long : n ≤ length keys = omega (arith, length-take n keys) in
    take-append-le n keys more long

pub told_full : (text : List ℕ) (count : ℕ) (keys more : List (List ℕ)) → 32 ≤ count → IsTold text count keys → IsTold text count (keys ++ more)
told_full text count keys more h t =
    let same : take 32 (keys ++ more) ≡ take 32 keys = full 32 keys more (subst (λ n. 32 ≤ n) t.counted h) in
    record { told = t.told ∙ ap (words_after (codes "keys")) (sym same); counted = t.counted ∙ ap length (sym same) }

pub told_none : (text : List ℕ) (count : ℕ) (keys : List (List ℕ)) → IsTold text count keys → IsTold text count (keys ++ [])
told_none text count keys t = subst (IsTold text count) (sym (append-nil keys)) t

-- a further key is told
all_taken : (n : ℕ) (keys : List (List ℕ)) (count : ℕ) → count ≡ length (take n keys) → count < n → length keys < n
all_taken n keys count e h = omega (arith, length-take n keys)

pub told_more : (text after : List ℕ) (count : ℕ) (keys : List (List ℕ)) (key : List ℕ) → count < 32 → after ≡ text ++ 32 ∷ key → IsTold text count keys → IsTold after (count + 1) (keys ++ key ∷ [])
told_more text after count keys key h e t =
    let few : length keys < 32 = all_taken 32 keys count t.counted h in
    let before : take 32 keys ≡ keys = take_all 32 keys (omega arith) in
    let long : length (keys ++ key ∷ []) ≤ 32 = omega (arith, length-append keys (key ∷ [])) in
    let now : take 32 (keys ++ key ∷ []) ≡ keys ++ key ∷ [] = take_all 32 (keys ++ key ∷ []) long in
    record {
      told =
          e ∙ ap (λ l. l ++ 32 ∷ key) (t.told ∙ ap (words_after (codes "keys")) before)
          ∙ sym (words_more (codes "keys") keys key) ∙ ap (words_after (codes "keys")) (sym now);
      counted = ap (λ n. n + 1) (t.counted ∙ ap length before) ∙ sym (length-append keys (key ∷ [])) ∙ ap length (sym now);
    }

-- the keys of more pairs
pub keys_more : (value : List ℕ) (es fs : Pairs) → keys_with value (es ++ fs) ≡ keys_with value es ++ keys_with value fs
keys_more value es fs =
    ap keys_of (filter-append (λ e. has_value value (Some e.1)) es fs)
    ∙ map-append (λ e. e.0) (filter (λ e. has_value value (Some e.1)) es) (filter (λ e. has_value value (Some e.1)) fs)

-- what is told of one pair
pub key_if : (value key : List ℕ) (made : Record) (b : Bool) → has_value value (Some made) ≡ b → keys_with value ((key, made) ∷ []) ≡ cond b (key ∷ []) []
key_if value key made true h = ap (λ (b : Bool). keys_of (cond b ((key, made) ∷ []) [])) h
key_if value key made false h = ap (λ (b : Bool). keys_of (cond b ((key, made) ∷ []) [])) h

-- the whole text
some_first : (k : List ℕ) (ks : List (List ℕ)) → 1 ≤ length (take 32 (k ∷ ks))
some_first k ks = omega (arith, length-take 32 (k ∷ ks))

pub nothing_told : (text : List ℕ) (keys : List (List ℕ)) → IsTold text 0 keys → codes "none" ≡ listed keys
nothing_told text [] t = refl
nothing_told text (k ∷ ks) t = absurd (omega (arith, some_first k ks, t.counted))

abbrev nobodies : List (List ℕ)
nobodies = []

nobody : length (take 32 nobodies) ≤ 0
nobody = omega (arith, length-take 32 nobodies)

pub all_told : (text : List ℕ) (count : ℕ) (keys : List (List ℕ)) → 0 < count → IsTold text count keys → text ≡ listed keys
all_told text count [] h t = absurd (omega (arith, t.counted, nobody))
all_told text count (k ∷ ks) h t = t.told
