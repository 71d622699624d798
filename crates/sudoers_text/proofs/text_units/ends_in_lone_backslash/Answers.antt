use Rattle.std.proofs.Common.{◌≡◌, ℕ, ◌+◌, ◌<◌, List, Bool, true, false, drop, get_or, length, ap, sym, ◌∙◌}
use Rattle.std.specs.Prelude.{◌==◌, if◌then◌else◌}
use Rattle.std.proofs.lemmas.List.{drop_more}
use Rattle.sudoers_text.specs.Line.{ends_in_unpaired_backslash}
use Rattle.sudoers_text.proofs.text_units.ends_in_lone_backslash.Goals as goal
use Rattle.sudoers_text.proofs.text_units.ends_in_lone_backslash.Goals.{then-behind_backslash, else-behind_backslash}

one_on : (behind : Bool) (bytes : List ℕ) (i : ℕ) (next : Bool) → i < length bytes → next ≡ (if behind then false else get_or bytes i 0 == 92) → ends_in_unpaired_backslash next (drop (i + 1) bytes) ≡ ends_in_unpaired_backslash behind (drop i bytes)
one_on true bytes i next inside is =
    ap (λ (b : Bool). ends_in_unpaired_backslash b (drop (i + 1) bytes)) is ∙ sym (ap (λ (t : List ℕ). ends_in_unpaired_backslash true t) (drop_more bytes i 0 inside))
one_on false bytes i next inside is =
    ap (λ (b : Bool). ends_in_unpaired_backslash b (drop (i + 1) bytes)) is ∙ sym (ap (λ (t : List ℕ). ends_in_unpaired_backslash false t) (drop_more bytes i 0 inside))

pub loop-byte-preserved : goal.loop-byte-preserved
loop-byte-preserved c =
    one_on c.loop-byte.behind_backslash c.args.bytes.now c.loop-byte.byte-index _ c.loop-byte-test.true
    (elim c.if-behind_backslash.branch [
      | then-behind_backslash w ↦ rw w.if-behind_backslash.true w.behind_backslash-is
      | else-behind_backslash w ↦ rw w.if-behind_backslash.false w.behind_backslash-is
    ])
    ∙ c.loop-byte.invariant
