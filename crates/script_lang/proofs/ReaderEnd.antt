-- A reader at the end of a text.
use Rattle.std.proofs.Common.{◌≡◌, ℕ, true, false, List, [], Some, None, Ok, Err, refl, sym}
use Rattle.std.proofs.lemmas.List.{append-nil}
use Rattle.std.proofs.lemmas.Bool.{false≢true}
use Rattle.line_forms.specs.declared.reason.Reason.TheVariants.{Open, Unknown}
use Rattle.script_lang.specs.declared.draft.Draft.{Draft}
use Rattle.script_lang.specs.declared.draft.Owner.{Owner}
use Rattle.script_lang.specs.declared.draft.Owner.TheVariants.{Nobody, Thread as OfThread, Procedure as OfProcedure}
use Rattle.script_lang.specs.declared.item.ScriptPlace.{ScriptPlace}
use Rattle.script_lang.specs.declared.item.ScriptPlace.TheVariants.{Start, Processes, Members, Body, Schedule}
use Rattle.script_lang.specs.declared.text_reader.TextReader.{TextReader}
use Rattle.script_lang.specs.Context.{is_closed, is_closed_place}
use Rattle.script_lang.specs.Drafts.{script_with, script_of_draft}
use Rattle.script_lang.specs.Parsing.{bad_line}
use Rattle.script_lang.specs.TextReaderContracts.{IsInStep, remaining_result, has_owner, is_body}

no_owner : (owner : Owner) (place : ScriptPlace) → is_closed_place place ≡ true → has_owner owner ≡ is_body place → owner ≡ Nobody
no_owner Nobody place closed h = refl
no_owner (OfThread name) Start closed h = absurd (false≢true (sym h))
no_owner (OfThread name) Processes closed h = absurd (false≢true (sym h))
no_owner (OfThread name) Members closed h = absurd (false≢true (sym h))
no_owner (OfThread name) Schedule closed h = absurd (false≢true (sym h))
no_owner (OfThread name) Body closed h = absurd (false≢true closed)
no_owner (OfProcedure name) Start closed h = absurd (false≢true (sym h))
no_owner (OfProcedure name) Processes closed h = absurd (false≢true (sym h))
no_owner (OfProcedure name) Members closed h = absurd (false≢true (sym h))
no_owner (OfProcedure name) Schedule closed h = absurd (false≢true (sym h))
no_owner (OfProcedure name) Body closed h = absurd (false≢true closed)

script_at_end : (version : ℕ) (paths : List (List ℕ)) (draft : Draft) (depth : ℕ) → draft.owner ≡ Nobody → script_with version paths draft depth [] ≡ script_of_draft version paths draft
script_at_end version paths draft depth e = rw e (simp append-nil)

pub closed_end : (reader : TextReader) → IsInStep reader → is_closed reader.context ≡ true → reader.unknown ≡ None → remaining_result reader [] ≡ Ok (script_of_draft reader.lines.version reader.lines.tables.paths reader.draft)
closed_end reader sound closed known =
    rw (closed, known, script_at_end reader.lines.version reader.lines.tables.paths reader.draft reader.context.depth (no_owner reader.draft.owner reader.context.place closed sound.in_body)) refl

pub unknown_end : (reader : TextReader) (n : ℕ) → is_closed reader.context ≡ true → reader.unknown ≡ Some n → remaining_result reader [] ≡ Err (bad_line n Unknown)
unknown_end reader n closed known = rw (closed, known) refl

pub open_end : (reader : TextReader) → is_closed reader.context ≡ false → remaining_result reader [] ≡ Err (bad_line reader.number Open)
open_end reader closed = rw closed refl
