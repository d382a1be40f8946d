-- The text of a load is the text of lines.
use Rattle.std.proofs.Common.{◌≡◌, ◌==◌, ℕ, Bool, true, false, cond, not, if◌then◌else◌, List, [], ◌∷◌, ◌++◌, codes, filter, flat_map, refl, sym, ap, ◌∙◌}
use Rattle.line_text.specs.Words.{text_of_lines}
use Rattle.line_text.proofs.TextLines.{text_of_lines-append}
use Rattle.load_gen.specs.Loads.{Client, client, clients_of, has_calls, load_calls}
use Rattle.load_gen.specs.LoadText.{client_lines, client_text, first_lines, load_text}

abbrev pub lines_of_client : Client → List (List ℕ)
lines_of_client c = client_lines c.name c.calls

abbrev pub lines_of_clients : List Client → List (List ℕ)
lines_of_clients clients = flat_map lines_of_client clients

part_then : (none : Bool) (c : Client) (others : List Client) (text : List ℕ) → text ≡ text_of_lines (lines_of_clients (filter has_calls others))
    → (if none then [] else text_of_lines (lines_of_client c)) ++ text ≡ text_of_lines (lines_of_clients (cond (not none) (c ∷ filter has_calls others) (filter has_calls others)))
part_then true c others text h = h
part_then false c others text h =
    ap (λ rest. text_of_lines (lines_of_client c) ++ rest) h
    ∙ sym (text_of_lines-append (lines_of_client c) (lines_of_clients (filter has_calls others)))

clients_then : (name : List ℕ) (calls : ℕ) (others : List Client) (text : List ℕ) → text ≡ text_of_lines (lines_of_clients (filter has_calls others))
    → client_text name calls ++ text ≡ text_of_lines (lines_of_clients (filter has_calls (client name calls ∷ others)))
clients_then name calls others text h = part_then (calls == 0) (client name calls) others text h

append_nothing : (xs : List ℕ) → xs ++ [] ≡ xs
append_nothing [] = refl
append_nothing (x ∷ xs) = ap (λ ys. x ∷ ys) (append_nothing xs)

abbrev pub load_lines : ℕ → List (List ℕ)
load_lines n = first_lines ++ lines_of_clients (clients_of n)

pub text_is_lines : (n : ℕ) → load_text n ≡ text_of_lines (load_lines n)
unfolding load_text
text_is_lines n =
    let calls = load_calls in
    let four = sym (append_nothing (client_text (codes "k4") (calls n 4))) ∙ clients_then (codes "k4") (calls n 4) [] [] refl in
    let three = clients_then (codes "k3") (calls n 3) (client (codes "k4") (calls n 4) ∷ []) _ four in
    let two = clients_then (codes "k2") (calls n 2) (client (codes "k3") (calls n 3) ∷ client (codes "k4") (calls n 4) ∷ []) _ three in
    let one = clients_then (codes "k1") (calls n 1) (client (codes "k2") (calls n 2) ∷ client (codes "k3") (calls n 3) ∷ client (codes "k4") (calls n 4) ∷ []) _ two in
    ap (λ rest. text_of_lines first_lines ++ rest) one ∙ sym (text_of_lines-append first_lines (lines_of_clients (clients_of n)))
