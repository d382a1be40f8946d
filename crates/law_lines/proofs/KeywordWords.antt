-- Keywords and their words.
use Rattle.std.proofs.Common.{◌≡◌, ℕ, ◌≤◌, Bool, true, cond, ◌==◌, ◌&&◌, List, Option, Some, None, refl, ap, sym, ◌∙◌, arith}
use Rattle.std.specs.Prelude.{nat_le, bytes_eq}
use Rattle.std.specs.Option.{option_or}
use Rattle.std.proofs.lemmas.Bool.{and_parts, le-leb, leb-true}
use Rattle.std.proofs.lemmas.Bool.Decides.{nat_tests}
use Rattle.std.proofs.lemmas.Slice.Eq.{bytes_eq-Decides}
use Rattle.line_reader.specs.Types.{Keyword}
use Rattle.line_forms.specs.declared.keyword.Keyword.TheVariants.{Create, Call, Return, Serve, Revoke, Bind, Unbind, Info, GetParam, SetParam, Cred, TestCancel, Exit, Close, Dup, Attach, Detach, Open, Await, Pipe, Write, Read, PortCreate, Associate, Dissociate, Get, GetN, Send, SendN, Alert, TimerCreate, TimerSet, TimerDelete, Advance, Interrupt, Kill, Fork, Work, Ncd, Repeat, If, End}
use Rattle.line_forms.specs.Words.{keyword_create_to_info, keyword_getn_to_end, keyword_getparam_to_detach, keyword_of, keyword_open_to_get, keyword_since_2, keyword_version, keyword_word, keywords_create_to_info, keywords_getn_to_end, keywords_getparam_to_detach, keywords_open_to_get, keywords_since_2}
use Rattle.line_forms.proofs.Numbering.{same_some}
use Rattle.law_lines.proofs.TableWords.{find_among, find_passes, word_found}

-- a keyword of a version that is not above this one
since : (least version : ℕ) (keyword : Keyword) → least ≤ version → cond (nat_le least version) (Some keyword) None ≡ Some keyword
since least version keyword most = ap (λ test. cond test (Some keyword) None) (le-leb least version most)

pub keyword-again : (version : ℕ) (keyword : Keyword) → keyword_version keyword ≤ version → keyword_of version (keyword_word keyword) ≡ Some keyword
unfolding keyword_create_to_info keyword_getparam_to_detach keyword_open_to_get keyword_getn_to_end keyword_since_2
keyword-again version Create least = refl
keyword-again version Call least = refl
keyword-again version Return least = refl
keyword-again version Serve least = refl
keyword-again version Revoke least = refl
keyword-again version Bind least = refl
keyword-again version Unbind least = refl
keyword-again version Info least = refl
keyword-again version GetParam least = refl
keyword-again version SetParam least = refl
keyword-again version Cred least = refl
keyword-again version TestCancel least = refl
keyword-again version Exit least = refl
keyword-again version Close least = refl
keyword-again version Dup least = refl
keyword-again version Attach least = refl
keyword-again version Detach least = refl
keyword-again version Open least = refl
keyword-again version Await least = refl
keyword-again version Pipe least = refl
keyword-again version Write least = refl
keyword-again version Read least = refl
keyword-again version PortCreate least = refl
keyword-again version Associate least = refl
keyword-again version Dissociate least = refl
keyword-again version Get least = refl
keyword-again version GetN least = refl
keyword-again version Send least = refl
keyword-again version SendN least = refl
keyword-again version Alert least = refl
keyword-again version TimerCreate least = since 3 version TimerCreate least
keyword-again version TimerSet least = since 3 version TimerSet least
keyword-again version TimerDelete least = since 3 version TimerDelete least
keyword-again version Advance least = since 3 version Advance least
keyword-again version Interrupt least = refl
keyword-again version Kill least = refl
keyword-again version Fork least = since 2 version Fork least
keyword-again version Work least = refl
keyword-again version Ncd least = since 4 version Ncd least
keyword-again version Repeat least = refl
keyword-again version If least = refl
keyword-again version End least = refl

version_at_most : (keyword : Keyword) → keyword_version keyword ≤ 4
version_at_most Fork = omega arith
version_at_most TimerCreate = omega arith
version_at_most TimerSet = omega arith
version_at_most TimerDelete = omega arith
version_at_most Advance = omega arith
version_at_most Ncd = omega arith
version_at_most keyword = omega arith

-- a word is of one keyword alone
pub keyword-same : (one other : Keyword) → keyword_word one ≡ keyword_word other → one ≡ other
keyword-same one other same = same_some (sym (keyword-again 4 one (version_at_most one)) ∙ ap (keyword_of 4) same ∙ keyword-again 4 other (version_at_most other))

door_found : (word : List ℕ) (keyword : Keyword) → keyword_create_to_info word ≡ Some keyword → word ≡ keyword_word keyword
unfolding keyword_create_to_info
door_found word keyword e = word_found keyword_word keywords_create_to_info word keyword e

descriptor_found : (word : List ℕ) (keyword : Keyword) → keyword_getparam_to_detach word ≡ Some keyword → word ≡ keyword_word keyword
unfolding keyword_getparam_to_detach
descriptor_found word keyword e = word_found keyword_word keywords_getparam_to_detach word keyword e

port_found : (word : List ℕ) (keyword : Keyword) → keyword_open_to_get word ≡ Some keyword → word ≡ keyword_word keyword
unfolding keyword_open_to_get
port_found word keyword e = word_found keyword_word keywords_open_to_get word keyword e

other_found : (word : List ℕ) (keyword : Keyword) → keyword_getn_to_end word ≡ Some keyword → word ≡ keyword_word keyword
unfolding keyword_getn_to_end
other_found word keyword e = word_found keyword_word keywords_getn_to_end word keyword e

-- of those that later versions add
abbrev is_later : ℕ → List ℕ → Keyword → Bool
is_later version word keyword = bytes_eq word (keyword_word keyword) && nat_le (keyword_version keyword) version

later_is : (version : ℕ) (word : List ℕ) (keyword : Keyword) → keyword_since_2 version word ≡ Some keyword → is_later version word keyword ≡ true
unfolding keyword_since_2
later_is version word keyword e = find_passes (is_later version word) keywords_since_2 keyword e

later_parts : (version : ℕ) (word : List ℕ) (keyword : Keyword) → keyword_since_2 version word ≡ Some keyword → (bytes_eq word (keyword_word keyword) ≡ true) × (nat_le (keyword_version keyword) version ≡ true)
later_parts version word keyword e = and_parts (bytes_eq word (keyword_word keyword)) (nat_le (keyword_version keyword) version) (later_is version word keyword e)

later_found : (version : ℕ) (word : List ℕ) (keyword : Keyword) → keyword_since_2 version word ≡ Some keyword → word ≡ keyword_word keyword
later_found version word keyword e = (bytes_eq-Decides word (keyword_word keyword)).0 (later_parts version word keyword e).0

either : (P : Type 0) (first second : Option Keyword) (keyword : Keyword) → (first ≡ Some keyword → P) → (second ≡ Some keyword → P) → option_or first second ≡ Some keyword → P
either P None second keyword one other e = other e
either P (Some found) second keyword one other e = one e

-- what holds of a keyword that each part may have found
by_part : (P : Type 0) (version : ℕ) (word : List ℕ) (keyword : Keyword)
    → (keyword_create_to_info word ≡ Some keyword → P) → (keyword_getparam_to_detach word ≡ Some keyword → P) → (keyword_open_to_get word ≡ Some keyword → P) → (keyword_getn_to_end word ≡ Some keyword → P) → (keyword_since_2 version word ≡ Some keyword → P)
    → keyword_of version word ≡ Some keyword → P
by_part P version word keyword door descriptor port other later e =
    either P (keyword_create_to_info word) _ keyword door (
    either P (keyword_getparam_to_detach word) _ keyword descriptor (
    either P (keyword_open_to_get word) _ keyword port (
    either P (keyword_getn_to_end word) (keyword_since_2 version word) keyword other later))) e

pub keyword-found : (version : ℕ) (word : List ℕ) (keyword : Keyword) → keyword_of version word ≡ Some keyword → word ≡ keyword_word keyword
keyword-found version word keyword e =
    by_part (word ≡ keyword_word keyword) version word keyword (door_found word keyword) (descriptor_found word keyword) (port_found word keyword) (other_found word keyword) (later_found version word keyword) e

-- a keyword of each version

abbrev is_word_of : List ℕ → Keyword → Bool
is_word_of word keyword = bytes_eq word (keyword_word keyword)

abbrev is_first : Keyword → Bool
is_first keyword = keyword_version keyword == 1

abbrev IsFirst : Keyword → Type 0
IsFirst keyword = is_first keyword ≡ true

door_first : (word : List ℕ) (keyword : Keyword) → keyword_create_to_info word ≡ Some keyword → IsFirst keyword
unfolding keyword_create_to_info
door_first word keyword e = find_among (is_word_of word) is_first keywords_create_to_info keyword refl e

descriptor_first : (word : List ℕ) (keyword : Keyword) → keyword_getparam_to_detach word ≡ Some keyword → IsFirst keyword
unfolding keyword_getparam_to_detach
descriptor_first word keyword e = find_among (is_word_of word) is_first keywords_getparam_to_detach keyword refl e

port_first : (word : List ℕ) (keyword : Keyword) → keyword_open_to_get word ≡ Some keyword → IsFirst keyword
unfolding keyword_open_to_get
port_first word keyword e = find_among (is_word_of word) is_first keywords_open_to_get keyword refl e

other_first : (word : List ℕ) (keyword : Keyword) → keyword_getn_to_end word ≡ Some keyword → IsFirst keyword
unfolding keyword_getn_to_end
other_first word keyword e = find_among (is_word_of word) is_first keywords_getn_to_end keyword refl e

first_since : (version : ℕ) (keyword : Keyword) → 1 ≤ version → IsFirst keyword → keyword_version keyword ≤ version
first_since version keyword some is = grind (arith, nat_tests)

later_since : (version : ℕ) (word : List ℕ) (keyword : Keyword) → keyword_since_2 version word ≡ Some keyword → keyword_version keyword ≤ version
later_since version word keyword e = leb-true (keyword_version keyword) version (later_parts version word keyword e).1

pub keyword-since : (version : ℕ) (word : List ℕ) (keyword : Keyword) → 1 ≤ version → keyword_of version word ≡ Some keyword → keyword_version keyword ≤ version
keyword-since version word keyword some e =
    by_part (keyword_version keyword ≤ version) version word keyword (λ is. first_since version keyword some (door_first word keyword is)) (λ is. first_since version keyword some (descriptor_first word keyword is)) (λ is. first_since version keyword some (port_first word keyword is))
    (λ is. first_since version keyword some (other_first word keyword is)) (later_since version word keyword) e
