use Rattle.script_lang.proofs.Texts.{child_in_version_1, fork_in_version_1, version_5, child_of_none, limited_child, declared_before, child_of_itself, child_of_a_later_one, fork_of_no_child, fork_of_anothers_child}
use Rattle.script_lang.proofs.worked.bad_children.Goals as goal

pub returns : goal.returns
returns c =
    record {
      child_in_version_1 = child_in_version_1;
      fork_in_version_1 = fork_in_version_1;
      version_5 = version_5;
      child_of_none = child_of_none;
      limited_child = limited_child;
      declared_before = declared_before;
      child_of_itself = child_of_itself;
      child_of_a_later_one = child_of_a_later_one;
      fork_of_no_child = fork_of_no_child;
      fork_of_anothers_child = fork_of_anothers_child;
    }
