use Rattle.std.proofs.Common.{◌≡◌, ◌<◌, ◌≤◌, ◌+◌, ◌-◌, ℕ, zero, suc, true, false, Bool, List, [], refl, length, get_or, slice_set, add-zero, add-one, arith, sym, ap, subst, ◌∙◌, inl, inr}
use Rattle.std.proofs.lemmas.Bool.{cases_eq}
use Rattle.std.proofs.lemmas.List.{get_or-set_same, get_or-set_other, length-set}
use Rattle.sudoers_match_member.specs.declared.item_set.ItemSet.{ItemSet}
use Rattle.sudoers_match_member.specs.internal.Places.{HasItem, IsTaker, DoTakersTakeFrom}
use Rattle.sudoers_match_member.proofs.place_search.drop_places.Goals as goal

-- the items that are reached after a byte more, from those before it
reached_on : (takers : List ItemSet) (count : ℕ) (text : List ℕ) (places : List Bool) (number : ℕ) (first : Bool) (before taking after : ItemSet)
    → first ≡ get_or places number false → ((item : ℕ) → IsTaker takers (get_or text number 0) item → HasItem taking item) → count ≤ 256
    → (first ≡ true → HasItem taking 0 → HasItem after 0) → ((i : ℕ) → i + 1 < 256 → HasItem before i → HasItem taking (i + 1) → HasItem after (i + 1))
    → ((place item : ℕ) → place + item + 1 ≡ number → item < count → get_or places place false ≡ true → DoTakersTakeFrom takers count text place → HasItem before item)
    → (place item : ℕ) → place + item + 1 ≡ number + 1 → item < count → get_or places place false ≡ true → DoTakersTakeFrom takers count text place → HasItem after item
reached_on takers count text places number first before taking after is taken few begins behind so_far place zero at within may takes =
    let here : place ≡ number = omega arith in
    begins (is ∙ ap (λ n. get_or places n false) (sym here) ∙ may) (taken 0 (subst (λ n. IsTaker takers (get_or text n 0) 0) (add-zero place ∙ here) (takes 0 within)))
reached_on takers count text places number first before taking after is taken few begins behind so_far place (suc item) at within may takes =
    let here : place + suc item ≡ number = omega arith in
    let last = so_far place item (omega arith) (omega arith) may takes in
    subst (HasItem after) (add-one item) (behind item (omega arith) last (subst (HasItem taking) (sym (add-one item)) (taken (suc item) (subst (λ n. IsTaker takers (get_or text n 0) (suc item)) here (takes (suc item) within)))))

pub loop-number-preserved : goal.loop-number-preserved
loop-number-preserved c =
    reached_on c.args.row.now.takers c.args.row.now.count c.args.text.now c.args.places.now c.loop-number.number (get_or c.args.places.now c.loop-number.number false)
    c.loop-number.reached (get_or c.args.row.now.takers (get_or c.args.text.now c.loop-number.number 0) (record { words = [] })) c.advance-reached.result refl (λ item t. t) c.requires.few
    c.advance-reached.ensures.first c.advance-reached.ensures.behind c.loop-number.invariant

pub loop-place-preserved : goal.loop-place-preserved
loop-place-preserved c =
    let places = c.args.places.now in let now = c.loop-place.places in let place = c.loop-place.place in let last = c.args.row.now.count - 1 in
    let old = c.loop-place.invariant in let takers = c.args.row.now.takers in let count = c.args.row.now.count in let text = c.args.text.now in
    let inside : place < length now = omega (arith, old.size, c.requires.room, c.requires.some, c.loop-place-test.true) in
    let after = reached_on takers count text places (place + last) (get_or now (place + last) false)
    c.loop-place.reached (get_or takers (get_or text (place + last) 0) (record { words = [] })) c.advance-reached-in-loop-place.result (old.rest (place + last) (omega arith)) (λ item t. t) c.requires.few
    c.advance-reached-in-loop-place.ensures.first c.advance-reached-in-loop-place.ensures.behind old.reached in
    record {
      size = length-set now place c.has_one_of.result ∙ old.size;
      reached = λ p item at. after p item (omega (arith, at));
      kept = λ p h may takes. elim (cases_eq p place) [
        | inl same ↦ ap (λ n. get_or (slice_set now place c.has_one_of.result) n false) same ∙ get_or-set_same now place c.has_one_of.result false inside
            ∙ c.has_one_of.ensures last (omega (arith, c.requires.few, c.requires.some)) (after p last (omega (arith, same)) (omega (arith, c.requires.some)) may takes) c.add.ensures.added
        | inr other ↦ get_or-set_other now place p c.has_one_of.result false other ∙ old.kept p (omega (arith, h, other)) may takes
      ];
      rest = λ p h. get_or-set_other now place p c.has_one_of.result false (λ e. omega (arith, e, h)) ∙ old.rest p (omega (arith, h));
    }
