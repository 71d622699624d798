use Rattle.std.proofs.Common.{◌≡◌, ◌<◌, ◌-◌, ℕ, Bool, List, length, drop, None, sym, ap, subst, ◌∙◌, arith}
use Rattle.std.proofs.lemmas.List.{drop-map, drop_all}
use Rattle.sudoers_match_member.specs.Folded.{byte_case_folded_if_wanted, bytes_case_folded_if_wanted}
use Rattle.sudoers_match_member.specs.Sets.{set_item_at, set_items_after_skipped_bytes, set_items_behind_opening_bracket}
use Rattle.sudoers_match_member.proofs.Unclosed.{set_is_unclosed_before_item}
use Rattle.sudoers_match_member.proofs.unclosed_places.UnclosedPlaces.is_behind_item.Goals as goal

behind_item : (lower : Bool) (rest : List ℕ) (len : ℕ) → len ≡ (set_item_at (bytes_case_folded_if_wanted lower rest)).1 → 0 < len
    → set_items_after_skipped_bytes 0 (bytes_case_folded_if_wanted lower (drop len rest)) ≡ None → set_items_behind_opening_bracket (bytes_case_folded_if_wanted lower rest) ≡ None
behind_item lower rest len is some e =
    set_is_unclosed_before_item (bytes_case_folded_if_wanted lower rest) (subst (λ n. 0 < n) is some)
    (ap (λ n. set_items_after_skipped_bytes 0 (drop n (bytes_case_folded_if_wanted lower rest))) (sym is) ∙ ap (set_items_after_skipped_bytes 0) (drop-map (byte_case_folded_if_wanted lower) len rest) ∙ e)

pub returns-then-len-rest : goal.returns-then-len-rest
returns-then-len-rest c t =
    behind_item c.args.lower c.args.rest.now c.read_set_item-len.result.1 (ap (λ i. i.1) c.read_set_item-len.ensures.item) c.read_set_item-len.ensures.some
    (ap (λ xs. set_items_after_skipped_bytes 0 (bytes_case_folded_if_wanted c.args.lower xs)) (drop_all c.read_set_item-len.result.1 c.args.rest.now (omega (arith, c.if-len-rest.true))))

pub returns-else-len-rest : goal.returns-else-len-rest
returns-else-len-rest c is =
    let rest = c.args.rest.now in let len = c.read_set_item-len.result.1 in let within = c.read_set_item-len.ensures.within in
    let there : length rest - (length rest - len) ≡ len = omega (arith, within) in
    behind_item c.args.lower rest len (ap (λ i. i.1) c.read_set_item-len.ensures.item) c.read_set_item-len.ensures.some
    (subst (λ n. set_items_after_skipped_bytes 0 (bytes_case_folded_if_wanted c.args.lower (drop n rest)) ≡ None) there
    (c.requires (length rest - len) (omega arith) (c.has.ensures is)))
