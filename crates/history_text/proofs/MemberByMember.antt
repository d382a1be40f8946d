-- Members, read one after another.
use Rattle.std.proofs.Common.{◌≡◌, ℕ, ◌<◌, Bool, List, [], ◌∷◌, length, Option, Some, None, Result, Ok, Err, refl, ap, sym, arith}
use Rattle.std.proofs.lemmas.Bool.{false≢true}
use Rattle.std.specs.Prelude.{option_and_then, option_map}
use Rattle.line_reader.specs.Combinators.{Reader, Rest, pure, spelled_value, then_read, value_with_rest, ◌>>=◌}
use Rattle.line_reader.proofs.ItemByItem.{IsByItem, is_taken, onto, then_all, words_left}
use Rattle.history_text.specs.Types.{Member}
use Rattle.history_text.specs.Declarations.{member_of, members, members_of, with_member}
use Rattle.history_text.specs.MemberContracts.{next_member}

abbrev left : List (List ℕ) → Bool → Bool → Rest
left words in_range known = record { words = words; in_range = in_range; known = known }

abbrev all_of : Option (List Member) → Reader (List Member)
all_of found = spelled_value found >>= value_with_rest []

abbrev one_of : Option Member → Reader (Option Member)
one_of found = spelled_value found >>= (λ member. pure (Some member))

-- the words of a member more change nothing but the list
after_first : (others : Option (List Member)) (member : Member) (before after : List (List ℕ)) (in_range known : Bool)
    → all_of (option_map (λ members. member ∷ members) others) (left before in_range known) ≡ onto (member ∷ []) (all_of others (left after in_range known))
after_first None member before after in_range known = refl
after_first (Some others) member before after in_range known = refl

two_words : (member : Option Member) (before words : List (List ℕ)) (in_range known : Bool)
    → all_of (option_and_then (with_member (members_of words)) member) (left before in_range known) ≡ then_read (then_all members) (one_of member (left words in_range known))
two_words None before words in_range known = refl
two_words (Some member) before words in_range known = after_first (members_of words) member before words in_range known

next_of_words : (words : List (List ℕ)) (in_range known : Bool) → members (left words in_range known) ≡ then_read (then_all members) (next_member (left words in_range known))
next_of_words [] in_range known = refl
next_of_words (kind ∷ []) in_range known = refl
next_of_words (kind ∷ word ∷ words) in_range known = two_words (member_of kind word) (kind ∷ word ∷ words) words in_range known

fewer_after : (member : Option Member) (kind word : List ℕ) (words : List (List ℕ)) (in_range known : Bool) (x : Member) (new : Rest)
    → one_of member (left words in_range known) ≡ Ok (Some x, new) → length new.words < length (kind ∷ word ∷ words)
fewer_after None kind word words in_range known x new e = absurd (false≢true (ap is_taken e))
fewer_after (Some member) kind word words in_range known x new e =
    let lengths : length words ≡ length new.words = ap length (ap words_left e) in
    omega arith

fewer_of_words : (words : List (List ℕ)) (in_range known : Bool) (x : Member) (new : Rest) → next_member (left words in_range known) ≡ Ok (Some x, new) → length new.words < length words
fewer_of_words [] in_range known x new e = absurd (false≢true (ap is_taken e))
fewer_of_words (kind ∷ []) in_range known x new e = absurd (false≢true (ap is_taken e))
fewer_of_words (kind ∷ word ∷ words) in_range known x new e = fewer_after (member_of kind word) kind word words in_range known x new e

pub members_by_item : IsByItem members next_member
members_by_item = record {
  step = λ rest. next_of_words rest.words rest.in_range rest.known;
  fewer = λ rest new x found. fewer_of_words rest.words rest.in_range rest.known x new found;
}
