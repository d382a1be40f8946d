-- How long the text of a load may be.
use Rattle.std.proofs.Common.{◌<◌, ◌≤◌, ◌==◌, ℕ, Bool, true, false, List, [], ◌∷◌, ◌++◌, length, codes, decimal, if◌then◌else◌, arith}
use Rattle.std.proofs.lemmas.Fmt.{length-decimal-le_succ}
use Rattle.std.proofs.lemmas.List.{length-append}
use Rattle.line_text.specs.Words.{text_of_lines}
use Rattle.load_gen.specs.Loads.{load_calls}
use Rattle.load_gen.specs.LoadText.{client_lines, client_text, first_lines, load_text}

lines_are_short : (name : List ℕ) (calls : ℕ) → length name ≤ 2 → calls ≤ 16000 → length (text_of_lines (client_lines name calls)) ≤ 20000
lines_are_short name calls short few =
    omega (arith, length-decimal-le_succ calls (omega arith), length-append name (10 ∷ codes "open d load" ++ 10 ∷ codes "repeat " ++ decimal calls ++ 10 ∷ codes "dup e $d\ncall r $d \"k\" desc $e!\nend\nend\n"), length-append (decimal calls) (10 ∷ codes "dup e $d\ncall r $d \"k\" desc $e!\nend\nend\n"))

shorter : (b : Bool) (lines : List ℕ) → length lines ≤ 20000 → length (if b then [] else lines) ≤ 20000
shorter true lines short = omega arith
shorter false lines short = short

pub client_is_short : (name : List ℕ) (calls : ℕ) → length name ≤ 2 → calls ≤ 16000 → length (client_text name calls) ≤ 20000
client_is_short name calls short few = shorter (calls == 0) (text_of_lines (client_lines name calls)) (lines_are_short name calls short few)

four_are_short : (a b c d : List ℕ) → length a ≤ 20000 → length b ≤ 20000 → length c ≤ 20000 → length d ≤ 20000 → length (a ++ (b ++ (c ++ d))) ≤ 80000
four_are_short a b c d p q r s = omega (arith, length-append a (b ++ (c ++ d)), length-append b (c ++ d), length-append c d)

short_after_first : (xs : List ℕ) → length xs ≤ 80000 → length (text_of_lines first_lines ++ xs) < 4000000000
short_after_first xs short = omega arith

calls_are_few : (n i : ℕ) → 1 ≤ i → n ≤ 16000 → load_calls n i ≤ 16000
calls_are_few n i first few = omega arith

pub load_is_short : (n : ℕ) → n ≤ 16000 → length (load_text n) < 4000000000
unfolding load_text
load_is_short n few =
    short_after_first _ (four_are_short
    (client_text (codes "k1") (load_calls n 1)) (client_text (codes "k2") (load_calls n 2)) (client_text (codes "k3") (load_calls n 3)) (client_text (codes "k4") (load_calls n 4))
    (client_is_short (codes "k1") (load_calls n 1) (omega arith) (calls_are_few n 1 (omega arith) few))
    (client_is_short (codes "k2") (load_calls n 2) (omega arith) (calls_are_few n 2 (omega arith) few))
    (client_is_short (codes "k3") (load_calls n 3) (omega arith) (calls_are_few n 3 (omega arith) few))
    (client_is_short (codes "k4") (load_calls n 4) (omega arith) (calls_are_few n 4 (omega arith) few)))
