use Rattle.sudoers_match_list.proofs.Common.{IsLastHitOrCycleOfAlias, AliasNumberAndMembers, ap, false, subst, sym, ◌∙◌}
use Rattle.std.proofs.Common.{option_map}
use Rattle.sudoers_match_list.proofs.Known.{no_cycle}
use Rattle.sudoers_match_list.proofs.Roots.{finds, ends_undefined, ends_flat}
use Rattle.sudoers_match_list.proofs.alias_cycles.is_cycle_reached_from_name.Goals as goal

pub returns-in_default : goal.returns-in_default
returns-in_default c =
    let lines = c.args.numbers.now.walk in (
      c.requires,
      ends_undefined c.args.kind lines c.args.name.now (no_cycle c.args.kind lines c.is_walk.ensures)
          (sym c.find_alias_of_atom.ensures.number ∙ ap (option_map (λ (a : AliasNumberAndMembers). a.number)) c.in_default.is),
    )

pub returns-in-Latest : goal.returns-in-Latest
returns-in-Latest c =
    let lines = c.args.numbers.now.walk in
    let settled = subst (IsLastHitOrCycleOfAlias c.args.kind lines (λ _. false) c.in-Some.alias.number c.decide_alias.new.self) c.in-Latest.is c.in_ok-decide_alias.ensures in (
      settled.0,
      ends_flat c.args.kind lines c.args.name.now (no_cycle c.args.kind lines c.is_walk.ensures) c.in-Some.alias.number
          (sym c.find_alias_of_atom.ensures.number ∙ ap (option_map (λ (a : AliasNumberAndMembers). a.number)) c.in-Some.is) settled.1.flat settled.1.is_flat,
    )

pub returns-in-Cyclic : goal.returns-in-Cyclic
returns-in-Cyclic c =
    let lines = c.args.numbers.now.walk in
    let settled = subst (IsLastHitOrCycleOfAlias c.args.kind lines (λ _. false) c.in-Some.alias.number c.decide_alias.new.self) c.in-Cyclic.is c.in_ok-decide_alias.ensures in
    finds c.args.kind lines c.args.name.now c.in-Some.alias.number
    (sym c.find_alias_of_atom.ensures.number ∙ ap (option_map (λ (a : AliasNumberAndMembers). a.number)) c.in-Some.is) settled
