use Rattle.std.proofs.Common.{◌≡◌, ◌+◌, ◌-◌, ◌∙◌, Bool, List, Some, Vec, ℕ, ap, arith, drop, if◌then◌else◌, map}
use Rattle.std.specs.Str.{bytes_eq}
use Rattle.std.specs.declared.alloc.Global.{Global}
use Rattle.indexmap.specs.IndexMap.{get}
use Rattle.laws_compare.specs.Content.{FlatPrivilegeRow}
use Rattle.std.specs.Prelude.{slice_index_or}
use Rattle.sudoers_compare.specs.FlatSpecs.{row_of_placed_view}
use Rattle.sudoers_compare.specs.NextRows.{first_passing_number}
use Rattle.sudoers_compare.specs.Overruled.{command_key, is_row_of_same_command}
use Rattle.sudoers_compare.proofs.Chains.{item_of_mapped_list_at}
use Rattle.sudoers_compare.proofs.NextNumbers.{bytes_are_alike_either_way, first_row_one_further_to_front, one_more_number_is_next}
use Rattle.sudoers_compare.proofs.next_rows.list_next_rows_of_same_command.Goals as goal

pub loop-number-preserved : goal.loop-number-preserved
loop-number-preserved c =
    let rows = map row_of_placed_view c.args.rows.now in
    let number = c.loop-number.number in
    let fewer = number - 1 in
    let row = row_of_placed_view (slice_index_or c.args.rows.now fewer c.index-rows-number.result) in
    let key = c.in_ok-key.key in
    let less : fewer + 1 ≡ number = omega (arith, c.loop-number-test.true) in
    let stands = item_of_mapped_list_at row_of_placed_view c.args.rows.now fewer c.index-rows-number.result (omega (arith, c.loop-number.invariant.0, c.loop-number-test.true)) in
    let key_is : key.items ≡ command_key row.grant.atom.atom = c.in_ok-key.ensures.items ∙ c.key_of_command.ensures in
    let passes : List ℕ → FlatPrivilegeRow → Bool = λ bytes later. bytes_eq bytes (command_key later.grant.atom.atom) in
    let eq : Vec ℕ Global → Vec ℕ Global → Bool = λ a b. bytes_eq a.items b.items in
    let behind_is : c.in_ok-behind.behind ≡ first_passing_number (is_row_of_same_command row) number (drop number rows) =
    c.in_ok-behind.ensures.old ∙ c.loop-number.invariant.2 key ∙ ap (λ (bytes : List ℕ). first_passing_number (passes bytes) number (drop number rows)) key_is in (
      omega (arith, c.loop-number.invariant.0),
      one_more_number_is_next is_row_of_same_command rows number fewer row c.loop-number.next.items c.push.new.self.items c.in_ok-behind.behind less stands c.loop-number.invariant.1 behind_is c.in_ok-push.ensures.items,
      λ other. first_row_one_further_to_front (passes other.items) rows number fewer row (get eq c.loop-number.nearest other) (get eq c.insert.new.self other) less stands (c.loop-number.invariant.2 other)
          (c.in_ok-behind.ensures.updates.0 other
          ∙ ap (λ (b : Bool). if b then Some fewer else get eq c.loop-number.nearest other) (bytes_are_alike_either_way key.items other.items ∙ ap (bytes_eq other.items) key_is)),
    )
