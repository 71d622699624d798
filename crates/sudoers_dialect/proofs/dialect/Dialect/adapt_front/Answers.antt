use Rattle.sudoers_dialect.proofs.Fronts.{profile_front_stays}
use Rattle.sudoers_dialect.proofs.dialect.Dialect.adapt_front.Goals as goal

pub returns-in-Profile : goal.returns-in-Profile
returns-in-Profile c = profile_front_stays c.args.self c.args.front c.in-Profile.is c.requires
