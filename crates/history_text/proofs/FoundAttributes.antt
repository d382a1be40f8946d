-- The attributes that a reading found.
use Rattle.std.proofs.Common.{◌≡◌, ℕ, ◌+◌, Bool, true, false, List, [], ◌∷◌, ◌++◌, refl, ap, sym, ◌∙◌, subst, append-nil}
use Rattle.std.proofs.lemmas.Bool.{and_parts}
use Rattle.std.proofs.lemmas.Slice.Eq.{slice_eq-Decides}
use Rattle.std.specs.Cmp.{unsigned_Decides}
use Rattle.std.specs.Cmp.Lexicographic.{pointwise}
use Rattle.std.specs.Prelude.{◌&&◌, bytes_eq, codes}
use Rattle.line_forms.specs.Sets.{Flag, attribute_flags, attribute_words}
use Rattle.history_text.specs.Operands.{attributes, bits_if, flags_in_order, optional_flag}
use Rattle.history_text.proofs.Found.{ReadsAs, Spelled, optional_spelled, pure-as, relate-as, spelled_as, then-as, words_if}

-- a flag's word stood, or not
abbrev IsFlag : Flag → ℕ → List (List ℕ) → Type 0
IsFlag flag bits words = (here : Bool) × (bits ≡ bits_if here flag.bits) × (words ≡ words_if here flag.word)

flag_as : (flag : Flag) → ReadsAs (optional_flag flag) (λ bits words new. IsFlag flag bits words)
flag_as flag = then-as (optional_spelled flag.word) (λ here. pure-as (λ rest. (here, refl, append-nil (words_if here flag.word))))

abbrev AreFlags : List Flag → ℕ → List (List ℕ) → Type 0
AreFlags [] bits words = (bits ≡ 0) × (words ≡ [])
AreFlags (flag ∷ flags) bits words = (here : Bool) × (others : ℕ) × (after : List (List ℕ)) × (bits ≡ bits_if here flag.bits + others) × (words ≡ words_if here flag.word ++ after) × AreFlags flags others after

flags_as : (flags : List Flag) → ReadsAs (flags_in_order flags) (λ bits words new. AreFlags flags bits words)
flags_as [] = pure-as (λ rest. (refl, refl))
flags_as (flag ∷ flags) = relate-as (IsFlag flag) (flag_as flag) (λ bits. relate-as (AreFlags flags) (flags_as flags) (λ others. pure-as (λ rest after are before is.
    (is.0, others, after ++ [], ap (λ n. n + others) is.1, ap (λ ws. ws ++ (after ++ [])) is.2, subst (AreFlags flags others) (sym (append-nil after)) are))))

-- all sets

abbrev for_both : (Bool → Bool) → Bool
for_both test = test true && test false

both_hold : (test : Bool → Bool) → for_both test ≡ true → (b : Bool) → test b ≡ true
both_hold test all true = (and_parts (test true) (test false) all).0
both_hold test all false = (and_parts (test true) (test false) all).1

abbrev set_bits : Bool → Bool → Bool → Bool → Bool → Bool → Bool → Bool → ℕ
set_bits a b c d e f g h = bits_if a 1 + (bits_if b 2 + (bits_if c 4 + (bits_if d 8 + (bits_if e 16 + (bits_if f 32 + (bits_if g 64 + (bits_if h 128 + 0)))))))

abbrev set_words : Bool → Bool → Bool → Bool → Bool → Bool → Bool → Bool → List (List ℕ)
set_words a b c d e f g h = words_if a (codes "unref") ++ (words_if b (codes "private") ++ (words_if c (codes "local") ++ (words_if d (codes "revoked") ++ (words_if e (codes "unref-multi") ++ (words_if f (codes "is-unref") ++ (words_if g (codes "refuse-desc") ++ (words_if h (codes "no-cancel") ++ [])))))))

abbrev same_words : Bool → Bool → Bool → Bool → Bool → Bool → Bool → Bool → Bool
same_words a b c d e f g h = pointwise bytes_eq (set_words a b c d e f g h) (attribute_words (record { 0 = set_bits a b c d e f g h }))

all_same : for_both (λ a. for_both (λ b. for_both (λ c. for_both (λ d. for_both (λ e. for_both (λ f. for_both (λ g. for_both (λ h. same_words a b c d e f g h)))))))) ≡ true
all_same = refl

same_set : (a b c d e f g h : Bool) → set_words a b c d e f g h ≡ attribute_words (record { 0 = set_bits a b c d e f g h })
same_set a b c d e f g h =
    let same : same_words a b c d e f g h ≡ true = both_hold (λ h'. same_words a b c d e f g h') (both_hold (λ g'. for_both (λ h'. same_words a b c d e f g' h')) (both_hold (λ f'. for_both (λ g'. for_both (λ h'. same_words a b c d e f' g' h'))) (both_hold (λ e'. for_both (λ f'. for_both (λ g'. for_both (λ h'. same_words a b c d e' f' g' h')))) (both_hold (λ d'. for_both (λ e'. for_both (λ f'. for_both (λ g'. for_both (λ h'. same_words a b c d' e' f' g' h'))))) (both_hold (λ c'. for_both (λ d'. for_both (λ e'. for_both (λ f'. for_both (λ g'. for_both (λ h'. same_words a b c' d' e' f' g' h')))))) (both_hold (λ b'. for_both (λ c'. for_both (λ d'. for_both (λ e'. for_both (λ f'. for_both (λ g'. for_both (λ h'. same_words a b' c' d' e' f' g' h'))))))) (both_hold (λ a'. for_both (λ b'. for_both (λ c'. for_both (λ d'. for_both (λ e'. for_both (λ f'. for_both (λ g'. for_both (λ h'. same_words a' b' c' d' e' f' g' h')))))))) all_same a) b) c) d) e) f) g) h in
    (slice_eq-Decides (λ x y. slice_eq-Decides unsigned_Decides x y (bytes_eq x y) refl) (set_words a b c d e f g h) (attribute_words (record { 0 = set_bits a b c d e f g h })) (same_words a b c d e f g h) refl).0 same

words_of_set : (bits : ℕ) (words : List (List ℕ)) → AreFlags attribute_flags bits words → words ≡ attribute_words (record { 0 = bits })
words_of_set bits words are =
    let r1 = are.5 in
    let r2 = r1.5 in
    let r3 = r2.5 in
    let r4 = r3.5 in
    let r5 = r4.5 in
    let r6 = r5.5 in
    let r7 = r6.5 in
    let last = r7.5 in
    let total : bits ≡ set_bits are.0 r1.0 r2.0 r3.0 r4.0 r5.0 r6.0 r7.0 = are.3 ∙ ap (λ n. bits_if are.0 1 + n) (r1.3 ∙ ap (λ n. bits_if r1.0 2 + n) (r2.3 ∙ ap (λ n. bits_if r2.0 4 + n) (r3.3 ∙ ap (λ n. bits_if r3.0 8 + n) (r4.3 ∙ ap (λ n. bits_if r4.0 16 + n) (r5.3 ∙ ap (λ n. bits_if r5.0 32 + n) (r6.3 ∙ ap (λ n. bits_if r6.0 64 + n) (r7.3 ∙ ap (λ n. bits_if r7.0 128 + n) (last.0)))))))) in
    let spelling : words ≡ set_words are.0 r1.0 r2.0 r3.0 r4.0 r5.0 r6.0 r7.0 = are.4 ∙ ap (λ ws. words_if are.0 (codes "unref") ++ ws) (r1.4 ∙ ap (λ ws. words_if r1.0 (codes "private") ++ ws) (r2.4 ∙ ap (λ ws. words_if r2.0 (codes "local") ++ ws) (r3.4 ∙ ap (λ ws. words_if r3.0 (codes "revoked") ++ ws) (r4.4 ∙ ap (λ ws. words_if r4.0 (codes "unref-multi") ++ ws) (r5.4 ∙ ap (λ ws. words_if r5.0 (codes "is-unref") ++ ws) (r6.4 ∙ ap (λ ws. words_if r6.0 (codes "refuse-desc") ++ ws) (r7.4 ∙ ap (λ ws. words_if r7.0 (codes "no-cancel") ++ ws) (last.1)))))))) in
    spelling ∙ same_set are.0 r1.0 r2.0 r3.0 r4.0 r5.0 r6.0 r7.0 ∙ ap (λ n. attribute_words (record { 0 = n })) (sym total)

pub attributes_spelled : Spelled attributes attribute_words
attributes_spelled = spelled_as attribute_words (relate-as (AreFlags attribute_flags) (flags_as attribute_flags) (λ bits. pure-as (λ rest before are. append-nil before ∙ words_of_set bits before are)))
