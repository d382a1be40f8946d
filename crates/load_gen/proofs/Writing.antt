-- What is written piece by piece is the text of a load.
use Rattle.std.proofs.Common.{◌≡◌, ℕ, Result, Ok, Err, OnOk, List, [], ◌∷◌, ◌++◌, codes, decimal, refl, ap, ◌∙◌}
use Rattle.line_text.specs.Words.{text_of_lines}
use Rattle.load_gen.specs.Loads.{load_calls}
use Rattle.load_gen.specs.LoadText.{client_lines, client_text, first_lines, load_text}

after : (a b c : List ℕ) → (a ++ b) ++ c ≡ a ++ (b ++ c)
after [] b c = refl
after (x ∷ a) b c = ap (λ rest. x ∷ rest) (after a b c)

five_after : (old p q r s t : List ℕ) → ((((old ++ p) ++ q) ++ r) ++ s) ++ t ≡ old ++ (p ++ (q ++ (r ++ (s ++ t))))
five_after old p q r s t =
    after (((old ++ p) ++ q) ++ r) s t ∙ after ((old ++ p) ++ q) r (s ++ t) ∙ after (old ++ p) q (r ++ (s ++ t)) ∙ after old p (q ++ (r ++ (s ++ t)))

five_steps : (old p q r s t a b c d e : List ℕ) → a ≡ old ++ p → b ≡ a ++ q → c ≡ b ++ r → d ≡ c ++ s → e ≡ d ++ t → e ≡ old ++ (p ++ (q ++ (r ++ (s ++ t))))
five_steps old p q r s t a b c d e ha hb hc hd he =
    he ∙ ap (λ x. x ++ t) (hd ∙ ap (λ x. x ++ s) (hc ∙ ap (λ x. x ++ r) (hb ∙ ap (λ x. x ++ q) ha))) ∙ five_after old p q r s t

pub client_written : (name old a b c d e : List ℕ) (calls : ℕ)
    → a ≡ old ++ codes "thread" → b ≡ a ++ 32 ∷ name → c ≡ b ++ codes "\nopen d load\nrepeat" → d ≡ c ++ 32 ∷ decimal calls → e ≡ d ++ codes "\ndup e $d\ncall r $d \"k\" desc $e!\nend\nend\n"
    → e ≡ old ++ text_of_lines (client_lines name calls)
client_written name old a b c d e calls ha hb hc hd he =
    five_steps old (codes "thread") (32 ∷ name) (codes "\nopen d load\nrepeat") (32 ∷ decimal calls) (codes "\ndup e $d\ncall r $d \"k\" desc $e!\nend\nend\n") a b c d e ha hb hc hd he

pub load_written : (n : ℕ) (old a b c d e : List ℕ)
    → a ≡ old ++ text_of_lines first_lines → b ≡ a ++ client_text (codes "k1") (load_calls n 1) → c ≡ b ++ client_text (codes "k2") (load_calls n 2) → d ≡ c ++ client_text (codes "k3") (load_calls n 3) → e ≡ d ++ client_text (codes "k4") (load_calls n 4)
    → e ≡ old ++ load_text n
unfolding load_text
load_written n old a b c d e ha hb hc hd he =
    five_steps old (text_of_lines first_lines) (client_text (codes "k1") (load_calls n 1)) (client_text (codes "k2") (load_calls n 2)) (client_text (codes "k3") (load_calls n 3)) (client_text (codes "k4") (load_calls n 4)) a b c d e ha hb hc hd he

pub on_ok : {A E P Q : Type 0} (result : Result A E) → (P → Q) → OnOk result P → OnOk result Q
on_ok (Ok x) f h = f h
on_ok (Err e) f h = h
