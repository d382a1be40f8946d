-- The text of every load is read as its script.
use Rattle.std.proofs.Common.{◌≡◌, ◌≤◌, ◌==◌, ℕ, zero, suc, true, false, List, [], ◌∷◌, ◌++◌, filter, Ok, codes, refl, sym, ap, ◌∙◌, subst, inl, inr, arith}
use Rattle.std.specs.Fmt.{digits}
use Rattle.std.specs.List.{list_all}
use Rattle.std.proofs.lemmas.Bool.{and_from}
use Rattle.line_text.specs.Words.{is_one_line, text_of_lines}
use Rattle.line_text.proofs.PrintableWords.{is_one_line-printable}
use Rattle.line_text.proofs.TextLines.{lines_of-text_of_lines}
use Rattle.line_forms.specs.Words.{Tables}
use Rattle.script_lang.specs.declared.item.ScriptLine.{ScriptLine}
use Rattle.script_lang.specs.Context.{ContextValue, context_after, first_context}
use Rattle.script_lang.specs.Parsing.{parse_result}
use Rattle.script_lang.specs.Scripts.{tables_of}
use Rattle.script_lang.specs.Spelled.{SpellsLines, SpellsScript, SpellsScriptLines, spells}
use Rattle.script_lang.proofs.TextOnly.{text_only}
use Rattle.load_gen.specs.Loads.{Client, client, clients_of, has_calls, load_calls, load_script, script_with_clients}
use Rattle.load_gen.specs.LoadText.{first_lines, load_text}
use Rattle.load_gen.proofs.LoadLines.{load_lines, lines_of_clients, text_is_lines}
use Rattle.load_gen.proofs.LoadRead.{lines_after_header, one_client, two_clients, three_clients, four_clients_spelled}

printable_lines : (tables : Tables) (context : ContextValue) (lines : List (List ℕ)) (items : List ScriptLine) → SpellsScriptLines tables context lines items → list_all is_one_line lines ≡ true
printable_lines tables context [] items h = refl
printable_lines tables context (line ∷ lines) [] h = and_from _ _ (is_one_line-printable line h.0) (printable_lines tables context lines [] h.1.others)
printable_lines tables context (line ∷ lines) (item ∷ items) h =
    elim h.1 [
      | inl skipped ↦ and_from _ _ (is_one_line-printable line h.0) (printable_lines tables context lines (item ∷ items) skipped.others)
      | inr spelled ↦ and_from _ _ (is_one_line-printable line h.0) (printable_lines tables (context_after context item) lines items spelled.others)
    ]

text_spelled : (clients : List Client) → SpellsScript (lines_after_header ++ lines_of_clients clients) (script_with_clients clients) → spells (text_of_lines (first_lines ++ lines_of_clients clients)) (script_with_clients clients)
unfolding spells digits
text_spelled clients h =
    let script = script_with_clients clients in
    let one_line : list_all is_one_line (first_lines ++ lines_of_clients clients) ≡ true = and_from _ _ refl (printable_lines (tables_of script) first_context (lines_after_header ++ lines_of_clients clients) h.items h.spells) in
    subst (λ lines. SpellsLines lines script) (sym (lines_of-text_of_lines (first_lines ++ lines_of_clients clients) one_line)) (refl, refl, h)

abbrev IsSpelled : List Client → Type 0
IsSpelled clients = SpellsScript (lines_after_header ++ lines_of_clients clients) (script_with_clients clients)

all_call : (a b c d : ℕ) → (a == 0) ≡ false → (b == 0) ≡ false → (c == 0) ≡ false → (d == 0) ≡ false
    → filter has_calls (client (codes "k1") a ∷ client (codes "k2") b ∷ client (codes "k3") c ∷ client (codes "k4") d ∷ []) ≡ client (codes "k1") a ∷ client (codes "k2") b ∷ client (codes "k3") c ∷ client (codes "k4") d ∷ []
all_call a b c d ha hb hc hd = rw (ha, hb, hc, hd) refl

is_some_call : (m : ℕ) → 1 ≤ m → (m == 0) ≡ false
is_some_call m some = grind arith

many : (n : ℕ) → 4 ≤ n → n ≤ 16000 → IsSpelled (clients_of n)
many n some few =
    let a = load_calls n 1 in
    let b = load_calls n 2 in
    let c = load_calls n 3 in
    let d = load_calls n 4 in
    subst IsSpelled (sym (all_call a b c d (is_some_call a (omega arith)) (is_some_call b (omega arith)) (is_some_call c (omega arith)) (is_some_call d (omega arith))))
    (four_clients_spelled a b c d (omega arith) (omega arith) (omega arith) (omega arith) (omega arith) (omega arith) (omega arith) (omega arith))

clients_spelled : (n : ℕ) → 1 ≤ n → n ≤ 16000 → IsSpelled (clients_of n)
clients_spelled zero some few = absurd (omega arith)
clients_spelled (suc zero) some few = one_client 1 (omega arith) (omega arith)
clients_spelled (suc (suc zero)) some few = two_clients 1 1 (omega arith) (omega arith) (omega arith) (omega arith)
clients_spelled (suc (suc (suc zero))) some few = three_clients 1 1 1 (omega arith) (omega arith) (omega arith) (omega arith) (omega arith) (omega arith)
clients_spelled (suc (suc (suc (suc n)))) some few = many (suc (suc (suc (suc n)))) (omega arith) few

pub load_read : (n : ℕ) → 1 ≤ n → n ≤ 16000 → parse_result (load_text n) ≡ Ok (load_script n)
unfolding load_script
load_read n some few =
    ap parse_result (text_is_lines n) ∙ text_only (text_of_lines (load_lines n)) (script_with_clients (clients_of n)) (text_spelled (clients_of n) (clients_spelled n some few))
