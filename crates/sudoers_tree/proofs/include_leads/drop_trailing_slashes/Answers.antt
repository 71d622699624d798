use Rattle.sudoers_tree.proofs.Common.{ap, false, name_without_trailing_slashes, rules, sym, true, ◌==◌, ◌∙◌, ◌≡◌}
use Rattle.sudoers_tree.proofs.Folders.{trailing_byte_other_than_slash_stays, trailing_slash_is_dropped}
use Rattle.sudoers_tree.proofs.include_leads.drop_trailing_slashes.Goals as goal

pub loop-last-preserved : goal.loop-last-preserved
loop-last-preserved c =
    let slash : (c.in-Some.last.now == 47) ≡ true = search rules in
    sym (trailing_slash_is_dropped c.in-Some.rest.now c.in-Some.last.now slash) ∙ sym (ap name_without_trailing_slashes c.in-Some.ensures.cases.0) ∙ c.loop-last.invariant

pub returns-then-last-ne47 : goal.returns-then-last-ne47
returns-then-last-ne47 c =
    let other : (c.in-Some.last.now == 47) ≡ false = search rules in
    c.in-Some.ensures.cases.0 ∙ sym (trailing_byte_other_than_slash_stays c.in-Some.rest.now c.in-Some.last.now other)
    ∙ sym (ap name_without_trailing_slashes c.in-Some.ensures.cases.0) ∙ c.loop-last.invariant
