-- The lines of a load before its clients, and of one to four clients, spell a script.
use Rattle.std.proofs.Common.{◌≡◌, ◌≤◌, ℕ, List, [], ◌∷◌, ◌++◌, slice_get, Some, codes, flat_map, refl, inl, inr, arith}
use Rattle.std.specs.Fmt.{digits}
use Rattle.dk_base.specs.declared.limits.TheConstants.{BUDGET_MAX, DESCRIPTORS_MAX}
use Rattle.line_forms.specs.Words.{Tables, qualified_name}
use Rattle.line_forms.specs.declared.line.Line.TheVariants.{Attach, Close, Create, End, Return, Serve}
use Rattle.line_forms.specs.declared.line.Piece.TheVariants.{Of}
use Rattle.script_lang.specs.declared.item.ScriptLine.{ScriptLine}
use Rattle.script_lang.specs.declared.item.ScriptLine.TheVariants.{Budget, Do, Procedure, Process, Thread}
use Rattle.script_lang.specs.Context.{first_context}
use Rattle.script_lang.specs.Scripts.{tables_of}
use Rattle.script_lang.specs.Spelled.{SpellsScript, SpellsScriptLines}
use Rattle.load_gen.specs.Loads.{Client, client, load_path, no_attributes, script_with_clients, variable}
use Rattle.load_gen.specs.LoadText.{first_lines}
use Rattle.load_gen.proofs.LoadLines.{lines_of_clients}
use Rattle.load_gen.proofs.LoadSpelled.{IsThreadLine, before_client, client_items, client_spelled, client_variables}

abbrev pub first_items : List ScriptLine
first_items = Budget BUDGET_MAX ∷ Process (codes "srv") DESCRIPTORS_MAX ∷ Thread (codes "s") ∷ Do (Create (codes "d") 0 0 no_attributes) ∷ Do (Attach (variable (codes "d")) load_path) ∷ Do Serve ∷ Do End ∷ Procedure (codes "echo") ∷ Do (Close (variable (codes "arg"))) ∷ Do (Return (Of (codes "arg") ∷ []) []) ∷ Do End ∷ Process (codes "cli") DESCRIPTORS_MAX ∷ []

abbrev tail_of : List (List ℕ) → List (List ℕ)
tail_of [] = []
tail_of (line ∷ lines) = lines

abbrev pub lines_after_header : List (List ℕ)
lines_after_header = tail_of first_lines

pub first_spelled : (tables : Tables) (lines : List (List ℕ)) (items : List ScriptLine)
    → slice_get tables.procedures 0 ≡ Some (qualified_name 1 (codes "echo")) → slice_get tables.paths 0 ≡ Some (codes "load")
    → SpellsScriptLines tables (before_client (codes "s" ∷ []) (codes "arg" ∷ [])) lines items
    → SpellsScriptLines tables first_context (lines_after_header ++ lines) (first_items ++ items)
unfolding digits
first_spelled tables lines items procedure path others = (refl, inr (record { read = refl; spells = (refl, ((omega arith, omega arith, refl), refl)); may_stand = record { of_place = refl; once = refl; within_limits = refl; in_its_place = refl }; others = (refl, inr (record { read = refl; spells = (refl, ((refl, refl), inl (refl, refl))); may_stand = record { of_place = refl; once = refl; within_limits = refl; in_its_place = refl }; others = (refl, inr (record { read = refl; spells = (refl, ((refl, refl), refl)); may_stand = record { of_place = refl; once = refl; within_limits = refl; in_its_place = refl }; others = (refl, inr (record { read = refl; spells = (refl, ((refl, refl), ((refl, procedure), ((omega arith, omega arith, refl), refl)))); may_stand = record { of_place = refl; once = refl; within_limits = refl; in_its_place = refl }; others = (refl, inr (record { read = refl; spells = (refl, (inl (refl, (refl, refl)), ((refl, path), refl))); may_stand = record { of_place = refl; once = refl; within_limits = refl; in_its_place = refl }; others = (refl, inr (record { read = refl; spells = (refl, refl); may_stand = record { of_place = refl; once = refl; within_limits = refl; in_its_place = refl }; others = (refl, inr (record { read = refl; spells = (refl, refl); may_stand = record { of_place = refl; once = refl; within_limits = refl; in_its_place = refl }; others = (refl, inr (record { read = refl; spells = (refl, ((refl, refl), refl)); may_stand = record { of_place = refl; once = refl; within_limits = refl; in_its_place = refl }; others = (refl, inr (record { read = refl; spells = (refl, (inl (refl, (refl, refl)), refl)); may_stand = record { of_place = refl; once = refl; within_limits = refl; in_its_place = refl }; others = (refl, inr (record { read = refl; spells = (refl, ((refl, refl), refl)); may_stand = record { of_place = refl; once = refl; within_limits = refl; in_its_place = refl }; others = (refl, inr (record { read = refl; spells = (refl, refl); may_stand = record { of_place = refl; once = refl; within_limits = refl; in_its_place = refl }; others = (refl, inr (record { read = refl; spells = (refl, ((refl, refl), inl (refl, refl))); may_stand = record { of_place = refl; once = refl; within_limits = refl; in_its_place = refl }; others = others })) })) })) })) })) })) })) })) })) })) })) }))

thread_line_1 : IsThreadLine (codes "k1")
thread_line_1 = record { name_is = refl; printable = refl; words = refl }

thread_line_2 : IsThreadLine (codes "k2")
thread_line_2 = record { name_is = refl; printable = refl; words = refl }

thread_line_3 : IsThreadLine (codes "k3")
thread_line_3 = record { name_is = refl; printable = refl; words = refl }

thread_line_4 : IsThreadLine (codes "k4")
thread_line_4 = record { name_is = refl; printable = refl; words = refl }

abbrev pub items_of_client : Client → List ScriptLine
items_of_client c = client_items c.name c.calls

pub one_client : (m1 : ℕ) → 1 ≤ m1 → m1 ≤ 16000 → SpellsScript (lines_after_header ++ lines_of_clients (client (codes "k1") m1 ∷ [])) (script_with_clients (client (codes "k1") m1 ∷ []))
one_client m1 s1 f1 =
    let script = script_with_clients (client (codes "k1") m1 ∷ []) in
    record {
      items = first_items ++ flat_map items_of_client (client (codes "k1") m1 ∷ []);
      spells = first_spelled (tables_of script) (lines_of_clients (client (codes "k1") m1 ∷ [])) (flat_map items_of_client (client (codes "k1") m1 ∷ [])) refl refl
          (client_spelled (tables_of script) (codes "k1") m1 (codes "s" ∷ []) (codes "arg" ∷ []) (lines_of_clients ([])) (flat_map items_of_client ([])) thread_line_1 refl refl refl s1 f1 refl);
      of_version = refl;
      different_paths = refl;
      numbered_paths = refl;
      is_script = refl;
    }

pub two_clients : (m1 m2 : ℕ) → 1 ≤ m1 → m1 ≤ 16000 → 1 ≤ m2 → m2 ≤ 16000 → SpellsScript (lines_after_header ++ lines_of_clients (client (codes "k1") m1 ∷ client (codes "k2") m2 ∷ [])) (script_with_clients (client (codes "k1") m1 ∷ client (codes "k2") m2 ∷ []))
two_clients m1 m2 s1 f1 s2 f2 =
    let script = script_with_clients (client (codes "k1") m1 ∷ client (codes "k2") m2 ∷ []) in
    record {
      items = first_items ++ flat_map items_of_client (client (codes "k1") m1 ∷ client (codes "k2") m2 ∷ []);
      spells = first_spelled (tables_of script) (lines_of_clients (client (codes "k1") m1 ∷ client (codes "k2") m2 ∷ [])) (flat_map items_of_client (client (codes "k1") m1 ∷ client (codes "k2") m2 ∷ [])) refl refl
          (client_spelled (tables_of script) (codes "k1") m1 (codes "s" ∷ []) (codes "arg" ∷ []) (lines_of_clients (client (codes "k2") m2 ∷ [])) (flat_map items_of_client (client (codes "k2") m2 ∷ [])) thread_line_1 refl refl refl s1 f1 (client_spelled (tables_of script) (codes "k2") m2 (codes "s" ∷ codes "k1" ∷ []) client_variables (lines_of_clients ([])) (flat_map items_of_client ([])) thread_line_2 refl refl refl s2 f2 refl));
      of_version = refl;
      different_paths = refl;
      numbered_paths = refl;
      is_script = refl;
    }

pub three_clients : (m1 m2 m3 : ℕ) → 1 ≤ m1 → m1 ≤ 16000 → 1 ≤ m2 → m2 ≤ 16000 → 1 ≤ m3 → m3 ≤ 16000 → SpellsScript (lines_after_header ++ lines_of_clients (client (codes "k1") m1 ∷ client (codes "k2") m2 ∷ client (codes "k3") m3 ∷ [])) (script_with_clients (client (codes "k1") m1 ∷ client (codes "k2") m2 ∷ client (codes "k3") m3 ∷ []))
three_clients m1 m2 m3 s1 f1 s2 f2 s3 f3 =
    let script = script_with_clients (client (codes "k1") m1 ∷ client (codes "k2") m2 ∷ client (codes "k3") m3 ∷ []) in
    record {
      items = first_items ++ flat_map items_of_client (client (codes "k1") m1 ∷ client (codes "k2") m2 ∷ client (codes "k3") m3 ∷ []);
      spells = first_spelled (tables_of script) (lines_of_clients (client (codes "k1") m1 ∷ client (codes "k2") m2 ∷ client (codes "k3") m3 ∷ [])) (flat_map items_of_client (client (codes "k1") m1 ∷ client (codes "k2") m2 ∷ client (codes "k3") m3 ∷ [])) refl refl
          (client_spelled (tables_of script) (codes "k1") m1 (codes "s" ∷ []) (codes "arg" ∷ []) (lines_of_clients (client (codes "k2") m2 ∷ client (codes "k3") m3 ∷ [])) (flat_map items_of_client (client (codes "k2") m2 ∷ client (codes "k3") m3 ∷ [])) thread_line_1 refl refl refl s1 f1 (client_spelled (tables_of script) (codes "k2") m2 (codes "s" ∷ codes "k1" ∷ []) client_variables (lines_of_clients (client (codes "k3") m3 ∷ [])) (flat_map items_of_client (client (codes "k3") m3 ∷ [])) thread_line_2 refl refl refl s2 f2 (client_spelled (tables_of script) (codes "k3") m3 (codes "s" ∷ codes "k1" ∷ codes "k2" ∷ []) client_variables (lines_of_clients ([])) (flat_map items_of_client ([])) thread_line_3 refl refl refl s3 f3 refl)));
      of_version = refl;
      different_paths = refl;
      numbered_paths = refl;
      is_script = refl;
    }

pub four_clients_spelled : (m1 m2 m3 m4 : ℕ) → 1 ≤ m1 → m1 ≤ 16000 → 1 ≤ m2 → m2 ≤ 16000 → 1 ≤ m3 → m3 ≤ 16000 → 1 ≤ m4 → m4 ≤ 16000 → SpellsScript (lines_after_header ++ lines_of_clients (client (codes "k1") m1 ∷ client (codes "k2") m2 ∷ client (codes "k3") m3 ∷ client (codes "k4") m4 ∷ [])) (script_with_clients (client (codes "k1") m1 ∷ client (codes "k2") m2 ∷ client (codes "k3") m3 ∷ client (codes "k4") m4 ∷ []))
four_clients_spelled m1 m2 m3 m4 s1 f1 s2 f2 s3 f3 s4 f4 =
    let script = script_with_clients (client (codes "k1") m1 ∷ client (codes "k2") m2 ∷ client (codes "k3") m3 ∷ client (codes "k4") m4 ∷ []) in
    record {
      items = first_items ++ flat_map items_of_client (client (codes "k1") m1 ∷ client (codes "k2") m2 ∷ client (codes "k3") m3 ∷ client (codes "k4") m4 ∷ []);
      spells = first_spelled (tables_of script) (lines_of_clients (client (codes "k1") m1 ∷ client (codes "k2") m2 ∷ client (codes "k3") m3 ∷ client (codes "k4") m4 ∷ [])) (flat_map items_of_client (client (codes "k1") m1 ∷ client (codes "k2") m2 ∷ client (codes "k3") m3 ∷ client (codes "k4") m4 ∷ [])) refl refl
          (client_spelled (tables_of script) (codes "k1") m1 (codes "s" ∷ []) (codes "arg" ∷ []) (lines_of_clients (client (codes "k2") m2 ∷ client (codes "k3") m3 ∷ client (codes "k4") m4 ∷ [])) (flat_map items_of_client (client (codes "k2") m2 ∷ client (codes "k3") m3 ∷ client (codes "k4") m4 ∷ [])) thread_line_1 refl refl refl s1 f1 (client_spelled (tables_of script) (codes "k2") m2 (codes "s" ∷ codes "k1" ∷ []) client_variables (lines_of_clients (client (codes "k3") m3 ∷ client (codes "k4") m4 ∷ [])) (flat_map items_of_client (client (codes "k3") m3 ∷ client (codes "k4") m4 ∷ [])) thread_line_2 refl refl refl s2 f2 (client_spelled (tables_of script) (codes "k3") m3 (codes "s" ∷ codes "k1" ∷ codes "k2" ∷ []) client_variables (lines_of_clients (client (codes "k4") m4 ∷ [])) (flat_map items_of_client (client (codes "k4") m4 ∷ [])) thread_line_3 refl refl refl s3 f3 (client_spelled (tables_of script) (codes "k4") m4 (codes "s" ∷ codes "k1" ∷ codes "k2" ∷ codes "k3" ∷ []) client_variables (lines_of_clients ([])) (flat_map items_of_client ([])) thread_line_4 refl refl refl s4 f4 refl))));
      of_version = refl;
      different_paths = refl;
      numbered_paths = refl;
      is_script = refl;
    }
