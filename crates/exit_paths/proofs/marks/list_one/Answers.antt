use Rattle.std.proofs.Common.{◌==◌, ◌&&◌, ◌++◌, ◌∷◌, [], Bool, sym, ap, ◌∙◌, arith}
use Rattle.exit_paths.specs.Words.{threads_where}
use Rattle.exit_paths.proofs.Alone.{none_listed, not_listed, one_listed, zero_listed}
use Rattle.exit_paths.proofs.marks.list_one.Goals as goal
use Rattle.exit_paths.proofs.marks.list_one.Goals.{then-t-le-THREADS_MAX, else-t-le-THREADS_MAX}

pub returns-then-not-listed : goal.returns-then-not-listed
returns-then-not-listed c =
    c.into_list.ensures ∙ c.requires.empty ∙ sym (ap (λ (b : Bool). threads_where (λ k. (k == c.args.t.0) && b)) c.if-not-listed.true ∙ not_listed c.args.t.0)

pub returns-then-t-eq0 : goal.returns-then-t-eq0
returns-then-t-eq0 c =
    c.into_list-then-t-eq0.ensures ∙ c.requires.empty ∙ sym (ap (λ u. threads_where (λ k. (k == u) && c.args.listed)) c.if-t-eq0.true ∙ zero_listed c.args.listed)

pub returns : goal.returns
returns c =
    elim c.if-t-le-THREADS_MAX.branch [
      | then-t-le-THREADS_MAX w ↦
          c.into_list-2.ensures ∙ ap (λ r. r.items) w.room-is ∙ w.push.ensures.items ∙ ap (λ xs. xs ++ c.args.t ∷ []) c.requires.empty
          ∙ sym (ap (λ (b : Bool). threads_where (λ k. (k == c.args.t.0) && b)) c.if-not-listed.false ∙ one_listed c.args.t (omega arith) w.if-t-le-THREADS_MAX.true)
      | else-t-le-THREADS_MAX w ↦
          c.into_list-2.ensures ∙ ap (λ r. r.items) w.room-is ∙ c.requires.empty
          ∙ sym (none_listed c.args.t.0 w.if-t-le-THREADS_MAX.false c.args.listed)
    ]
