use Rattle.std.proofs.Common.{◌≡◌, ℕ, List, Option, Some, None, refl}
use Rattle.std.specs.Option.{option_or}
use Rattle.line_forms.specs.Keywords.{keyword_create_to_info, keyword_getn_to_end, keyword_getparam_to_detach, keyword_of, keyword_open_to_get, keyword_since_2}
use Rattle.line_forms.proofs.keyword_words.keyword_of.Goals as goal

one_by_one : {A : Type 0} (a b c d e : Option A) → option_or (option_or (option_or (option_or a b) c) d) e ≡ option_or a (option_or b (option_or c (option_or d e)))
one_by_one (Some x) b c d e = refl
one_by_one None (Some x) c d e = refl
one_by_one None None (Some x) d e = refl
one_by_one None None None d e = refl

found_one_by_one : (version : ℕ) (word : List ℕ)
    → option_or (option_or (option_or (option_or (keyword_create_to_info word) (keyword_getparam_to_detach word)) (keyword_open_to_get word)) (keyword_getn_to_end word)) (keyword_since_2 version word) ≡ keyword_of version word
found_one_by_one version word = one_by_one (keyword_create_to_info word) (keyword_getparam_to_detach word) (keyword_open_to_get word) (keyword_getn_to_end word) (keyword_since_2 version word)

pub returns : goal.returns
returns c =
    rw (c.or-4.ensures, c.or-3.ensures, c.or-2.ensures, c.or.ensures, c.keyword_create_to_info.ensures, c.keyword_getparam_to_detach.ensures, c.keyword_open_to_get.ensures, c.keyword_getn_to_end.ensures, c.keyword_since_2.ensures)
    (found_one_by_one c.args.version c.args.word.now)
