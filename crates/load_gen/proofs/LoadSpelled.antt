-- The text of a load spells its script.
use Rattle.std.proofs.Common.{◌≡◌, ◌≤◌, ℕ, true, false, nat_le, List, [], ◌∷◌, ◌++◌, map, length, slice_get, Some, codes, decimal, refl, sym, subst, inl, inr, arith}
use Rattle.dk_base.specs.declared.limits.TheConstants.{THREADS_MAX}
use Rattle.line_text.specs.Words.{SpellsString, has_name, is_name, joined_words, words_of}
use Rattle.line_text.proofs.DecimalWords.{is_plain-decimal}
use Rattle.line_text.proofs.JoinedWords.{words_of-joined_words, is_word-plain}
use Rattle.line_text.proofs.PrintableWords.{are_printable-decimal}
use Rattle.line_forms.specs.Words.{Tables}
use Rattle.line_forms.specs.declared.line.Line.TheVariants.{End, Repeat}
use Rattle.script_lang.specs.declared.item.ScriptLine.{ScriptLine}
use Rattle.script_lang.specs.declared.item.ScriptLine.TheVariants.{Thread, Do}
use Rattle.script_lang.specs.declared.item.ScriptPlace.TheVariants.{Members}
use Rattle.script_lang.specs.Context.{ContextValue}
use Rattle.script_lang.specs.Parsing.{is_printable_line}
use Rattle.script_lang.specs.Spelled.{SpellsScriptLine, SpellsScriptLines}
use Rattle.load_gen.specs.Loads.{client_body}
use Rattle.load_gen.specs.LoadText.{client_lines}

-- before a client's thread
abbrev pub before_client : List (List ℕ) → List (List ℕ) → ContextValue
before_client threads variables = record { place = Members; processes = codes "srv" ∷ codes "cli" ∷ []; threads = threads; procedures = []; variables = variables; depth = 0; after_repeat = false }

abbrev pub client_variables : List (List ℕ)
client_variables = codes "d" ∷ codes "e" ∷ codes "r" ∷ []

abbrev pub client_items : List ℕ → ℕ → List ScriptLine
client_items name calls = Thread name ∷ map Do (client_body calls) ++ Do End ∷ []

-- the line of a thread, read word by word
pub record IsThreadLine (name : List ℕ) : Type 0 where
  pub name_is : is_name name ≡ true
  pub printable : is_printable_line (joined_words (codes "thread" ∷ name ∷ [])) ≡ true
  pub words : words_of (joined_words (codes "thread" ∷ name ∷ [])) ≡ codes "thread" ∷ name ∷ []

-- the string of the call's data
text_k : SpellsString (codes "k") (codes "\"k\"")
text_k = (refl, record { first = codes "k"; others = codes "\""; split = refl; spells_first = inl (refl, refl, refl); spells_others = refl })

pub client_spelled : (tables : Tables) (name : List ℕ) (calls : ℕ) (threads variables lines : List (List ℕ)) (items : List ScriptLine)
    → IsThreadLine name → has_name threads name ≡ false → nat_le THREADS_MAX (length threads) ≡ false → slice_get tables.paths 0 ≡ Some (codes "load") → 1 ≤ calls → calls ≤ 16000
    → SpellsScriptLines tables (before_client (threads ++ name ∷ []) client_variables) lines items
    → SpellsScriptLines tables (before_client threads variables) (client_lines name calls ++ lines) (client_items name calls ++ items)
client_spelled tables name calls threads variables lines items is new room path some few others =
    let number_plain = is_plain-decimal calls (omega arith) in
    let repeat_words : words_of (joined_words (codes "repeat" ∷ decimal calls ∷ [])) ≡ codes "repeat" ∷ decimal calls ∷ [] = words_of-joined_words (codes "repeat" ∷ decimal calls ∷ []) (rw (is_word-plain (decimal calls) number_plain) refl) in (
      is.printable,
      inr (record {
        read = refl;
        spells = subst (SpellsScriptLine tables 2 (Thread name)) (sym is.words) (refl, ((is.name_is, refl), refl));
        may_stand = record { of_place = refl; once = new; within_limits = room; in_its_place = refl };
        others = (
          refl,
          inr (record {
            read = refl;
            spells = (refl, ((refl, refl), ((refl, path), refl)));
            may_stand = record { of_place = refl; once = refl; within_limits = refl; in_its_place = refl };
            others = (
              are_printable-decimal calls (omega arith),
              inr (record {
                read = refl;
                spells = subst (SpellsScriptLine tables 2 (Do (Repeat calls))) (sym repeat_words) (refl, ((some, omega arith, refl), refl));
                may_stand = record { of_place = refl; once = refl; within_limits = refl; in_its_place = refl };
                others = (
                  refl,
                  inr (record {
                    read = refl;
                    spells = (refl, ((refl, refl), (inl (refl, (refl, refl)), refl)));
                    may_stand = record { of_place = refl; once = refl; within_limits = refl; in_its_place = refl };
                    others = (
                      refl,
                      inr (record {
                        read = refl;
                        spells = (refl, ((refl, refl), (inl (refl, (refl, refl)), (text_k, (omega arith, (refl, (record { front = codes "$e"; spells_fd = inl (refl, (refl, refl)); marked = refl }, inl (refl, refl))))))));
                        may_stand = record { of_place = refl; once = refl; within_limits = refl; in_its_place = refl };
                        others = (
                          refl,
                          inr (record {
                            read = refl;
                            spells = (refl, refl);
                            may_stand = record { of_place = refl; once = refl; within_limits = refl; in_its_place = refl };
                            others = (
                              refl,
                              inr (record {
                                read = refl;
                                spells = (refl, refl);
                                may_stand = record { of_place = refl; once = refl; within_limits = refl; in_its_place = refl };
                                others = others;
                              }),
                            );
                          }),
                        );
                      }),
                    );
                  }),
                );
              }),
            );
          }),
        );
      }),
    )
