use Rattle.sudoers_match.proofs.Alike.{alike_settings_give_same_runas_default}
use Rattle.sudoers_match.proofs.laws.alike_defaults_are_same.Goals as goal

pub returns : goal.returns
returns c = alike_settings_give_same_runas_default c.alike_lists_say_same.ensures
