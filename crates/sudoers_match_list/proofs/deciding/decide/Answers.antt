use Rattle.sudoers_match_list.proofs.deciding.decide.Goals as goal

pub find_last_hit-requires : goal.find_last_hit-requires
find_last_hit-requires g c = c.in_ok-verdicts.ensures c.args.kind (g.K.MemberKind.test c.args.asked.now)
