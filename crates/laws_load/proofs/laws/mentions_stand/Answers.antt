use Rattle.laws_load.proofs.Mentions.{name_stands_at_its_mentions}
use Rattle.sudoers_tree.specs.Load.{named_files_of_policy}
use Rattle.laws_load.proofs.laws.mentions_stand.Goals as goal

pub returns : goal.returns
returns c =
    λ policy kind name is. name_stands_at_its_mentions c.tokens_ascend.ensures c.members_are_listed.ensures policy kind name (c.loaded_lines_stand.ensures (named_files_of_policy policy) policy is)
    (c.loaded_is_walk.ensures (named_files_of_policy policy) policy is).says
