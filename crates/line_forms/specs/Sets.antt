-- The sets of a door's attributes, and of the events of a poll.
use Rattle.std.specs.Prelude.{ℕ, Bool, ◌==◌, not, bit_and, bit_or, List, [], ◌∷◌, filter, Option, Some, None, option_map, option_and_then, find, map, bytes_eq, codes, if◌then◌else◌}
use Rattle.line_text.specs.Types.{Attrs, PollSet}

-- a word, and the bits that it is
pub record Flag : Type 0 where
  pub word : List ℕ
  pub bits : ℕ

abbrev pub flag : List ℕ → ℕ → Flag
flag word bits = record { word = word; bits = bits }

-- ATTR
abbrev pub attribute_flags : List Flag
attribute_flags =
    flag (codes "unref") 1
    ∷ flag (codes "private") 2
    ∷ flag (codes "local") 4
    ∷ flag (codes "revoked") 8
    ∷ flag (codes "unref-multi") 16
    ∷ flag (codes "is-unref") 32
    ∷ flag (codes "refuse-desc") 64
    ∷ flag (codes "no-cancel") 128
    ∷ []

-- POLL: `none`, or some of `in`, `out`, `err`, `hup` in this order, joined by `+`
abbrev pub poll_flags : List Flag
poll_flags =
    flag (codes "none") 0
    ∷ flag (codes "in") 1
    ∷ flag (codes "out") 4
    ∷ flag (codes "in+out") 5
    ∷ flag (codes "err") 8
    ∷ flag (codes "in+err") 9
    ∷ flag (codes "out+err") 12
    ∷ flag (codes "in+out+err") 13
    ∷ flag (codes "hup") 16
    ∷ flag (codes "in+hup") 17
    ∷ flag (codes "out+hup") 20
    ∷ flag (codes "in+out+hup") 21
    ∷ flag (codes "err+hup") 24
    ∷ flag (codes "in+err+hup") 25
    ∷ flag (codes "out+err+hup") 28
    ∷ flag (codes "in+out+err+hup") 29
    ∷ []

abbrev pub is_word_of : List ℕ → Flag → Bool
is_word_of word f = bytes_eq word f.word

abbrev pub bits_of_word : List Flag → List ℕ → Option ℕ
bits_of_word flags word = option_map (λ f. f.bits) (find (is_word_of word) flags)

-- a set with these bits more, each at most once
abbrev pub with_bits : ℕ → ℕ → Option ℕ
with_bits set bits = if bit_and set bits == 0 then Some (bit_or set bits) else None

abbrev pub set_from : ℕ → List (List ℕ) → Option ℕ
set_from set [] = Some set
set_from set (word ∷ words) = option_and_then (λ more. set_from more words) (option_and_then (with_bits set) (bits_of_word attribute_flags word))

-- the attributes that these words name, each at most once, in any order
abbrev pub attributes_of : List (List ℕ) → Option Attrs
attributes_of words = option_map (λ set. record { 0 = set }) (set_from 0 words)

abbrev pub is_in_set : ℕ → Flag → Bool
is_in_set set f = not (bit_and set f.bits == 0)

-- the words of a set, in the table's order
abbrev pub attribute_words : Attrs → List (List ℕ)
attribute_words set = map (λ f. f.word) (filter (is_in_set set.0) attribute_flags)

abbrev pub poll_of : List ℕ → Option PollSet
poll_of word = option_map (λ bits. record { 0 = bits }) (bits_of_word poll_flags word)

abbrev pub has_bits : ℕ → Flag → Bool
has_bits bits f = f.bits == bits

abbrev pub word_or_empty : Option Flag → List ℕ
word_or_empty None = []
word_or_empty (Some f) = f.word

abbrev pub poll_word : PollSet → List ℕ
poll_word set = word_or_empty (find (has_bits set.0) poll_flags)
