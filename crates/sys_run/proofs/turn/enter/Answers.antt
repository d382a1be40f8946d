use Rattle.std.proofs.Common.{◌≡◌, ◌⊎◌, ◌∙◌, Some, None, Result, Ok, Err, OnErr, true, inl, inr, refl, ap, subst}
use Rattle.std.proofs.lemmas.Bool.{false≢true}
use Rattle.dk_base.specs.ByNumber.{at_number}
use Rattle.dk_base.specs.declared.request.Request.TheVariants as request
use Rattle.spec_kernel.specs.Types.{Request}
use Rattle.spec_events.specs.Words.{asked_with, line_in, reply_after}
use Rattle.kernel_core.specs.Entries.{is_cache_line}
use Rattle.sys_run.specs.NameTables.{AllTablesStandFrom}
use Rattle.sys_run.proofs.Turns.{declared-by}
use Rattle.sys_run.proofs.turn.enter.Goals as goal

-- a request asks a line, for which the kernel never wants memory, or it asks none
line_or_none : (r : Request) → (is_cache_line r ≡ true) ⊎ (line_in (Some r) ≡ None)
line_or_none (request.Ncd line) = inl refl
line_or_none r = inr refl

in_any : {T E P : Type 0} (result : Result T E) → P → OnErr result P
in_any (Ok x) p = tt
in_any (Err fault) p = p

pub process_of-requires-clause-first : goal.process_of-requires-clause-first
process_of-requires-clause-first c = c.requires.tables.thread.0

pub process_of-requires-clause-declared : goal.process_of-requires-clause-declared
process_of-requires-clause-declared c = c.requires.tables.thread.1

pub reply-requires-clause-process : goal.reply-requires-clause-process
reply-requires-clause-process c =
    c.requires.tables.process _ (declared-by (at_number c.args.script.now.threads c.args.t.0) _ c.process_of.ensures)

pub reply-requires-clause-can : goal.reply-requires-clause-can
reply-requires-clause-can c =
    (c.requires.tables.asked, record { stand = c.requires.tables.tables_stand.stand; few = c.requires.tables.few })

pub returns-in_err-stepped-clause-tables_err : goal.returns-in_err-stepped-clause-tables_err
returns-in_err-stepped-clause-tables_err c = in_any c.from_residual-in_err-stepped.result (by_line (line_or_none c.in_ok-request.request))
  where
    by_line : (is_cache_line c.in_ok-request.request ≡ true) ⊎ (line_in (Some c.in_ok-request.request) ≡ None) → c.reply.new.self ≡ c.args.tables.now
    by_line (inl line) = absurd (false≢true (c.in_err-stepped.ensures.line line))
    by_line (inr none) = c.in_ok-reply.ensures.same none

pub returns-clause-replied : goal.returns-clause-replied
returns-clause-replied c = λ f stands.
    let same = c.in_ok-request.ensures f stands
    in record {
      process = c.process_of.result.0;
      declared = declared-by (at_number c.args.script.now.threads c.args.t.0) _ c.process_of.ensures;
      replied = λ asked h.
          c.in_ok-reply.ensures.reply asked h ∙ ap (λ (r : Request). reply_after asked c.process_of.result.0 (line_in (Some r))) same;
      stand = λ asked h.
          subst (λ (r : Request). AllTablesStandFrom (asked_with asked c.process_of.result.0 (line_in (Some r))) 1 c.reply.new.self) same
          (c.in_ok-reply.ensures.stand asked h);
      there = c.in_ok-reply.ensures.count;
    }
