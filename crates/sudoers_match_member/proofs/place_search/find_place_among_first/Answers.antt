use Rattle.std.proofs.Common.{◌≡◌, ◌+◌, ◌<◌, ℕ, true, false, Bool, List, drop, take, get_or, Option, Some, None, arith, refl, sym, ap, subst, ◌∙◌, inl, inr}
use Rattle.std.specs.Option.{is_some}
use Rattle.std.specs.Prelude.{max}
use Rattle.std.proofs.lemmas.Option.{IfSome_then}
use Rattle.std.proofs.lemmas.Bool.{cases_lt, false≢true}
use Rattle.std.proofs.lemmas.List.{drop-drop, get_or-take, get_or-replicate, take_rest, length-take}
use Rattle.sudoers_match_member.specs.Wildcard.{PatternItem}
use Rattle.sudoers_match_member.specs.internal.Places.{items_from_place, BeginWithStarless, DoesMatchFrom, DoTakersTakeFrom}
use Rattle.sudoers_match_member.proofs.Places.{row_extends_starless_items, match_from_place_has_bytes_for_row, takers_of_row_take_match}
use Rattle.sudoers_match_member.proofs.place_search.find_place_among_first.Goals as goal

pub loop-mode-init : goal.loop-mode-init
loop-mode-init c = record {
  within = omega arith;
  passed = omega arith;
  items = refl;
  starless = λ i h. absurd (omega (arith, h));
  count = c.requires.count;
  size = refl;
  width = omega arith;
  few = λ place h m. h;
  may = λ place h m. get_or-replicate 16640 place true false (omega (arith, h, c.requires.most));
  known = c.requires.known;
  tail = refl;
}

-- a place that is dropped is none from which the pattern matches
dropped_place_does_not_match : (places : List Bool) (width place : ℕ) → place < width → get_or (take width places) place false ≡ false → get_or places place false ≡ true → ⊥
dropped_place_does_not_match places width place h dropped may = false≢true (sym dropped ∙ get_or-take width places place false h ∙ may)

pub returns-then-row-eq0-clause-found : goal.returns-then-row-eq0-clause-found
returns-then-row-eq0-clause-found c =
    let old = c.loop-mode.invariant in
    IfSome_then c.find_first_place.result c.find_first_place.ensures.found
    (λ first is. (
      omega (arith, is.0, length-take c.loop-mode.width c.loop-mode.places, old.width),
      λ place h m. dropped_place_does_not_match c.loop-mode.places c.loop-mode.width place (omega (arith, h, is.0, length-take c.loop-mode.width c.loop-mode.places)) (is.1 place h)
          (old.may place (omega (arith, h, is.0, length-take c.loop-mode.width c.loop-mode.places)) m),
    ))

pub returns-then-row-eq0-clause-missing : goal.returns-then-row-eq0-clause-missing
returns-then-row-eq0-clause-missing c none place h m =
    let old = c.loop-mode.invariant in let within = old.few place h m in
    dropped_place_does_not_match c.loop-mode.places c.loop-mode.width place within (c.find_first_place.ensures.missing none place) (old.may place within m)

pub returns-then-left-row-clause-missing : goal.returns-then-left-row-clause-missing
returns-then-left-row-clause-missing c none place h m =
    let old = c.loop-mode.invariant in let row = c.read_item_row-row.ensures.row in let count = c.read_item_row-row.result.count in
    let starless = row_extends_starless_items _ _ c.loop-mode.passed count old.items old.starless row.starless in
    omega (arith, match_from_place_has_bytes_for_row c.args.mode c.args.lower c.args.pattern.now c.args.text.now place c.loop-mode.passed count m starless (omega (arith, c.if-row-eq0.false)), c.if-left-row.true)

option_without_value_is_none : (o : Option ℕ) → is_some o ≡ false → o ≡ None
option_without_value_is_none None e = refl
option_without_value_is_none (Some x) e = absurd (false≢true (sym e))

pub returns-then-is_none-clause-missing : goal.returns-then-is_none-clause-missing
returns-then-is_none-clause-missing c none place h m =
    let old = c.loop-mode.invariant in let row = c.read_item_row-row.ensures.row in let count = c.read_item_row-row.result.count in
    let passed = c.loop-mode.passed in let text = c.args.text.now in let lower = c.args.lower in let pattern = c.args.pattern.now in
    let starless = row_extends_starless_items _ _ passed count old.items old.starless row.starless in
    let some : 0 < count = omega (arith, c.if-row-eq0.false) in
    let few : (place : ℕ) → place < c.args.most → DoesMatchFrom c.args.mode lower pattern text place → place < c.min-width.result = λ place h m.
    omega (arith, old.few place h m, match_from_place_has_bytes_for_row c.args.mode lower pattern text place passed count m starless some, c.min-width.ensures) in
    let may : (place : ℕ) → place < c.min-width.result → DoesMatchFrom c.args.mode lower pattern text place → get_or c.drop_places.new.places place false ≡ true = λ place h m.
    c.drop_places.ensures.kept place h (old.may place (omega (arith, h, c.min-width.ensures)) m)
    (subst (λ xs. DoTakersTakeFrom c.read_item_row-row.result.takers count xs place) (sym (take_rest text passed))
    (takers_of_row_take_match c.args.mode lower pattern text place passed c.loop-mode.at count c.read_item_row-row.result.takers (λ i. omega (arith, c.type_inv.text i)) m old.items starless row.takers)) in
    let within = few place h m in
    dropped_place_does_not_match c.drop_places.new.places c.min-width.result place within
    (c.find_first_place-in-loop-mode.ensures.missing (option_without_value_is_none c.find_first_place-in-loop-mode.result c.if-is_none.ensures) place) (may place within m)

starless_up_to_larger : (items : List PatternItem) (a b n : ℕ) → BeginWithStarless items a → BeginWithStarless items b → n ≡ max a b → BeginWithStarless items n
starless_up_to_larger items a b n of_a of_b is i h =
    elim (cases_lt i a) [ inl less ↦ of_a i less | inr more ↦ of_b i (omega (arith, is, h, more)) ]

pub loop-mode-preserved : goal.loop-mode-preserved
loop-mode-preserved c =
    let old = c.loop-mode.invariant in let row = c.read_item_row-row.ensures.row in let count = c.read_item_row-row.result.count in
    let passed = c.loop-mode.passed in let text = c.args.text.now in let lower = c.args.lower in let pattern = c.args.pattern.now in
    let starless = row_extends_starless_items _ _ passed count old.items old.starless row.starless in
    let some : 0 < count = omega (arith, c.if-row-eq0.false) in
    let few : (place : ℕ) → place < c.args.most → DoesMatchFrom c.args.mode lower pattern text place → place < c.min-width.result = λ place h m.
    omega (arith, old.few place h m, match_from_place_has_bytes_for_row c.args.mode lower pattern text place passed count m starless some, c.min-width.ensures) in
    let may : (place : ℕ) → place < c.min-width.result → DoesMatchFrom c.args.mode lower pattern text place → get_or c.drop_places.new.places place false ≡ true = λ place h m.
    c.drop_places.ensures.kept place h (old.may place (omega (arith, h, c.min-width.ensures)) m)
    (subst (λ xs. DoTakersTakeFrom c.read_item_row-row.result.takers count xs place) (sym (take_rest text passed))
    (takers_of_row_take_match c.args.mode lower pattern text place passed c.loop-mode.at count c.read_item_row-row.result.takers (λ i. omega (arith, c.type_inv.text i)) m old.items starless row.takers)) in
    record {
      within = row.within;
      passed = omega (arith, c.if-left-row.false, old.passed);
      items = sym (drop-drop count passed (items_from_place lower pattern 0)) ∙ ap (drop count) old.items ∙ row.rest;
      starless = starless;
      count = starless_up_to_larger _ (passed + count) c.loop-mode.count c.max.result starless old.count c.max.ensures;
      size = c.drop_places.ensures.length ∙ old.size;
      width = omega (arith, c.min-width.ensures, old.width);
      few = few;
      may = may;
      known = c.read_item_row-row.ensures.known;
      tail = c.read_item_row-row.ensures.tail ∙ old.tail;
    }
