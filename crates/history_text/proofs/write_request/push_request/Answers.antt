use Rattle.std.proofs.Common.{[], ◌∷◌, ◌∙◌, append_assoc}
use Rattle.std.specs.Prelude.{codes}
use Rattle.line_text.specs.Words.{spaced_words}
use Rattle.history_text.specs.LineWords.{fd_word}
use Rattle.history_text.proofs.write_request.push_request.Goals as goal

pub returns-in-Dissociate-clause-items : goal.returns-in-Dissociate-clause-items
returns-in-Dissociate-clause-items c =
    rw c.in-Dissociate.is (
    c.push_of_two_fds.ensures.items
    ∙ append_assoc c.args.text.now.items (codes " dissociate") (spaced_words (fd_word c.in-Dissociate.port ∷ fd_word c.in-Dissociate.object ∷ [])))
