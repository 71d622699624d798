use Rattle.std.proofs.Common.{◌∙◌, arith, sym}
use Rattle.sudoers_text.proofs.Reached.{place_ends_prefix_without_backslash_or_cr}
use Rattle.sudoers_text.proofs.tokenizing.last_unescaped_offset_before.Goals as goal

pub returns-else-not-is_no_backslash_or_cr-clause-apart : goal.returns-else-not-is_no_backslash_or_cr-clause-apart
returns-else-not-is_no_backslash_or_cr-clause-apart c =
    place_ends_prefix_without_backslash_or_cr c.args.line.now c.args.from c.loop-place.place c.loop-place-test.true (omega (arith, c.loop-place.invariant.not_behind, c.requires.inside)) (sym c.is_no_backslash_or_cr.ensures ∙ c.if-not-is_no_backslash_or_cr.false)
