-- Words after a text, one after another.
use Rattle.std.proofs.Common.{◌≡◌, ℕ, ◌+◌, ◌<◌, List, [], ◌∷◌, ◌++◌, length, take, get_or, refl, ap, sym, ◌∙◌, append_assoc, append-nil}
use Rattle.std.specs.Prelude.{map, flat_map}
use Rattle.std.proofs.lemmas.List.{take_more, map-append}
use Rattle.std.proofs.lemmas.Grind.{flat_map-append}
use Rattle.line_text.specs.Words.{joined_words, spaced_words}
use Rattle.line_text.proofs.JoinedWords.{spaced_words-append, joined_first}
use Rattle.line_forms.specs.declared.line.Line.{Line}
use Rattle.line_forms.specs.declared.line.Line.TheVariants.{Create, Call, Return, Serve, Revoke, Bind, Unbind, Info, InfoQuery, GetParam, SetParam, Cred, TestCancel, Exit, Close, Dup, Attach, Detach, Open, Await, Pipe, Write, Read, PortCreate, Associate, Dissociate, Get, GetN, Send, SendN, Alert, TimerCreate, TimerSet, TimerDelete, Advance, Interrupt, Kill, Fork, Work, Ncd, Repeat, If, End}
use Rattle.line_forms.specs.Words.{Tables, keyword_of_line, keyword_word, line_words, operand_words}

-- the words of one more item
pub flat_more : {X : Type 0} (words_of : X → List (List ℕ)) (xs : List X) (i : ℕ) (x d : X) (text : List ℕ) → i < length xs → x ≡ get_or xs i d
    → (text ++ spaced_words (flat_map words_of (take i xs))) ++ spaced_words (words_of x) ≡ text ++ spaced_words (flat_map words_of (take (i + 1) xs))
flat_more words_of xs i x d text within is =
    append_assoc text (spaced_words (flat_map words_of (take i xs))) (spaced_words (words_of x)) ∙
    ap (λ rest. text ++ rest) (
    sym (spaced_words-append (flat_map words_of (take i xs)) (words_of x)) ∙
    ap spaced_words (
    ap (λ words. flat_map words_of (take i xs) ++ words) (sym (append-nil (words_of x))) ∙
    sym (flat_map-append words_of (take i xs) (x ∷ [])) ∙
    ap (flat_map words_of) (ap (λ y. take i xs ++ y ∷ []) is ∙ sym (take_more xs i d within))))

pub map_more : {X : Type 0} (word_of : X → List ℕ) (xs : List X) (i : ℕ) (x d : X) (text : List ℕ) → i < length xs → x ≡ get_or xs i d
    → (text ++ spaced_words (map word_of (take i xs))) ++ spaced_words (word_of x ∷ []) ≡ text ++ spaced_words (map word_of (take (i + 1) xs))
map_more word_of xs i x d text within is =
    append_assoc text (spaced_words (map word_of (take i xs))) (spaced_words (word_of x ∷ [])) ∙
    ap (λ rest. text ++ rest) (
    sym (spaced_words-append (map word_of (take i xs)) (word_of x ∷ [])) ∙
    ap spaced_words (
    sym (map-append word_of (take i xs) (x ∷ [])) ∙
    ap (map word_of) (ap (λ y. take i xs ++ y ∷ []) is ∙ sym (take_more xs i d within))))

-- two words after a text
pub after_two : (text word others : List ℕ) → (text ++ 32 ∷ word) ++ others ≡ text ++ 32 ∷ (word ++ others)
after_two text word others = append_assoc text (32 ∷ word) others

-- words after others
pub put_after : (text : List ℕ) (words others : List (List ℕ)) → (text ++ spaced_words words) ++ spaced_words others ≡ text ++ spaced_words (words ++ others)
put_after text words others = append_assoc text (spaced_words words) (spaced_words others) ∙ ap (λ rest. text ++ rest) (sym (spaced_words-append words others))

pub call_put : (text var fd : List ℕ) (words : List (List ℕ)) (keyword number : List ℕ)
    → ((((text ++ 32 ∷ var) ++ spaced_words (fd ∷ [])) ++ spaced_words words) ++ 32 ∷ keyword) ++ 32 ∷ number ≡ text ++ spaced_words (var ∷ fd ∷ words ++ keyword ∷ number ∷ [])
call_put text var fd words keyword number =
    let two : spaced_words (keyword ∷ number ∷ []) ≡ (32 ∷ keyword) ++ 32 ∷ number = ap (λ rest. 32 ∷ (keyword ++ 32 ∷ rest)) (append-nil number) in
    append_assoc (((text ++ 32 ∷ var) ++ spaced_words (fd ∷ [])) ++ spaced_words words) (32 ∷ keyword) (32 ∷ number) ∙
    ap (λ rest. (((text ++ 32 ∷ var) ++ spaced_words (fd ∷ [])) ++ spaced_words words) ++ rest) (sym two) ∙
    put_after ((text ++ 32 ∷ var) ++ spaced_words (fd ∷ [])) words (keyword ∷ number ∷ []) ∙
    ap (λ t. (t ++ spaced_words (fd ∷ [])) ++ spaced_words (words ++ keyword ∷ number ∷ [])) (ap (λ w. text ++ 32 ∷ w) (sym (append-nil var))) ∙
    ap (λ t. t ++ spaced_words (words ++ keyword ∷ number ∷ [])) (put_after text (var ∷ []) (fd ∷ [])) ∙
    put_after text (var ∷ fd ∷ []) (words ++ keyword ∷ number ∷ [])

-- a line is its keyword and its operands

pub parted : (tables : Tables) (line : Line) → line_words tables line ≡ keyword_word (keyword_of_line line) ∷ operand_words tables line
parted tables (Create var entry cookie attrs) = refl
parted tables (Call var door bytes pass room) = refl
parted tables (Return bytes pass) = refl
parted tables Serve = refl
parted tables (Revoke door) = refl
parted tables (Bind door) = refl
parted tables Unbind = refl
parted tables (Info fd) = refl
parted tables InfoQuery = refl
parted tables (GetParam door what) = refl
parted tables (SetParam door what n) = refl
parted tables Cred = refl
parted tables TestCancel = refl
parted tables Exit = refl
parted tables (Close what) = refl
parted tables (Dup var what) = refl
parted tables (Attach door at) = refl
parted tables (Detach at) = refl
parted tables (Open var at) = refl
parted tables (Await at) = refl
parted tables (Pipe reading writing) = refl
parted tables (Write to bytes) = refl
parted tables (Read var from most) = refl
parted tables (PortCreate var) = refl
parted tables (Associate port object events user) = refl
parted tables (Dissociate port object) = refl
parted tables (Get port wait) = refl
parted tables (GetN port most least wait) = refl
parted tables (Send port events user) = refl
parted tables (SendN events user to) = refl
parted tables (Alert port how events user) = refl
parted tables (TimerCreate port user) = refl
parted tables (TimerSet timer first interval) = refl
parted tables (TimerDelete timer) = refl
parted tables (Advance by) = refl
parted tables (Interrupt whom) = refl
parted tables (Kill whom) = refl
parted tables (Fork child) = refl
parted tables (Work var what bytes) = refl
parted tables (Ncd var bytes) = refl
parted tables (Repeat times) = refl
parted tables (If what) = refl
parted tables End = refl

pub line_made : (tables : Tables) (line : Line) → keyword_word (keyword_of_line line) ++ spaced_words (operand_words tables line) ≡ joined_words (line_words tables line)
line_made tables line = sym (joined_first (keyword_word (keyword_of_line line)) (operand_words tables line)) ∙ ap joined_words (sym (parted tables line))
