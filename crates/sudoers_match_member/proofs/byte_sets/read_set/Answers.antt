use Rattle.std.proofs.Common.{◌≡◌, ◌≢◌, ℕ, ◌+◌, ◌-◌, ◌<◌, Bool, false, ◌||◌, List, length, drop, take, get_or, sym, ap, ◌∙◌, arith, add-zero, zero-add}
use Rattle.std.proofs.lemmas.List.{length-drop, drop-drop, get_or-drop, get_or-replicate}
use Rattle.sudoers_match_member.specs.declared.byte_sets.SetItem.{SetItem}
use Rattle.sudoers_match_member.specs.Sets.{is_byte_in_set_item, set_item_at, set_items_after_skipped_bytes}
use Rattle.sudoers_match_member.specs.internal.Seen.{set_end_and_byte_seen}
use Rattle.sudoers_match_member.proofs.Sets.{first_set_item_is_passed_to_end, next_set_item_is_passed_to_end, set_ends_at_closing_bracket}
use Rattle.sudoers_match_member.specs.Folded.{byte_case_folded_if_wanted, bytes_case_folded_if_wanted}
use Rattle.sudoers_match_member.proofs.AsRead.{case_folding_keeps_rest_from_place, case_folding_keeps_length, byte_of_folded_bytes_is_folded_byte}
use Rattle.sudoers_match_member.proofs.byte_sets.read_set.Goals as goal

pub loop-at-init : goal.loop-at-init
loop-at-init c = record {
  rest = λ b h. let some = c.read_set_item-first.ensures.some in let bytes = bytes_case_folded_if_wanted c.args.lower c.args.bytes.now in let has = get_or c.add_item.new.has b false in
      ap (λ n. set_end_and_byte_seen b n has (set_items_after_skipped_bytes 0 (drop c.read_set_item-first.result.1 bytes))) (sym (zero-add c.read_set_item-first.result.1))
      ∙ first_set_item_is_passed_to_end bytes (omega (arith, c.read_set_item-first.ensures.within, case_folding_keeps_length c.args.lower c.args.bytes.now)) b 0 false has c.read_set_item-first.result
      c.read_set_item-first.ensures.item some (c.add_item.ensures b h ∙ ap (λ old. old || is_byte_in_set_item b c.read_set_item-first.result.0) (get_or-replicate 256 b false false h));
  some = c.read_set_item-first.ensures.some;
}

byte_at : (lower : Bool) (bytes : List ℕ) (at : ℕ) → at < length bytes → get_or (drop at (bytes_case_folded_if_wanted lower bytes)) 0 0 ≡ byte_case_folded_if_wanted lower (get_or bytes at 0)
byte_at lower bytes at h = get_or-drop at (bytes_case_folded_if_wanted lower bytes) 0 0 ∙ ap (λ n. get_or (bytes_case_folded_if_wanted lower bytes) n 0) (add-zero at) ∙ byte_of_folded_bytes_is_folded_byte lower bytes at h

onward : (lower : Bool) (bytes : List ℕ) (at : ℕ) (b : ℕ) (has more : Bool) (item : SetItem × ℕ) → at < length bytes → byte_case_folded_if_wanted lower (get_or bytes at 0) ≢ 93
    → item ≡ set_item_at (bytes_case_folded_if_wanted lower (take (length bytes - at) (drop at bytes))) → 0 < item.1 → more ≡ (has || is_byte_in_set_item b item.0)
    → set_end_and_byte_seen b (at + item.1) more (set_items_after_skipped_bytes 0 (drop (at + item.1) (bytes_case_folded_if_wanted lower bytes))) ≡ set_end_and_byte_seen b at has (set_items_after_skipped_bytes 0 (drop at (bytes_case_folded_if_wanted lower bytes)))
onward lower bytes at b has more item h n is some e =
    let xs = bytes_case_folded_if_wanted lower bytes in
    let size = length-drop at xs in
    let same = case_folding_keeps_length lower bytes in
    ap (λ rest. set_end_and_byte_seen b (at + item.1) more (set_items_after_skipped_bytes 0 rest)) (sym (drop-drop item.1 at xs))
    ∙ next_set_item_is_passed_to_end (drop at xs) (omega arith) (λ f. n (sym (byte_at lower bytes at h) ∙ f)) b at has more item (is ∙ ap set_item_at (case_folding_keeps_rest_from_place lower bytes at)) some e

pub returns-then-fold_byte_case_if_wanted-eq93-clause-set : goal.returns-then-fold_byte_case_if_wanted-eq93-clause-set
returns-then-fold_byte_case_if_wanted-eq93-clause-set c b h =
    let lower = c.args.lower in let bytes = c.args.bytes.now in let at = c.loop-at.at in let xs = bytes_case_folded_if_wanted lower bytes in
    set_ends_at_closing_bracket (drop at xs) (omega (arith, length-drop at xs, case_folding_keeps_length lower bytes, c.loop-at-test.true)) (byte_at lower bytes at c.loop-at-test.true ∙ sym c.fold_byte_case_if_wanted.ensures ∙ c.if-fold_byte_case_if_wanted-eq93.true)
    b at (get_or c.loop-at.has b false) ∙ c.loop-at.invariant.rest b h

pub loop-at-preserved : goal.loop-at-preserved
loop-at-preserved c = record {
  rest = λ b h. onward c.args.lower c.args.bytes.now c.loop-at.at b (get_or c.loop-at.has b false) (get_or c.add_item-in-loop-at.new.has b false) c.read_set_item-item.result
      c.loop-at-test.true (λ e. c.if-fold_byte_case_if_wanted-eq93.false (c.fold_byte_case_if_wanted.ensures ∙ e)) c.read_set_item-item.ensures.item c.read_set_item-item.ensures.some (c.add_item-in-loop-at.ensures b h)
      ∙ c.loop-at.invariant.rest b h;
  some = omega arith;
}
