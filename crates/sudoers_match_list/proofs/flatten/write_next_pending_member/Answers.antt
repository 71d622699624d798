use Rattle.sudoers_match_list.proofs.Common.{IfErr-weaker, IsPendingPartInPlaceOfAliasMember, List, PendingListPart, [], ap, arith, expanded_member_limit, expansion_steps_left, inl, inr, length, length-append, length-map}
use Rattle.sudoers_match_list.proofs.Common.{list_expanded_n_times, map, member_in_tables, member_under_negation, members_left_to_write, nil_from_length, on_ok_weaker, refl, rules, subst, sym, ℕ, ◌++◌, ◌<◌, ◌∙◌}
use Rattle.sudoers_match_list.proofs.Common.{◌∷◌, ◌≡◌, ◌≤◌, ◌⊎◌}
use Rattle.sudoers_match_list.specs.declared.flatten_size_fault.FlattenSizeFault.TheVariants.{TooLarge, NoMemory}
use Rattle.sudoers_match_list.proofs.Parts.{none_written, none_stepped, left_split, plain_stepped, alias_written, alias_stepped}
use Rattle.sudoers_match_list.proofs.Appended.{pushed_row_takes_next_value}
use Rattle.sudoers_match_list.proofs.flatten.write_next_pending_member.Goals as goal

one_longer : {X Y : Type 0} (f : X → Y) (xs : List X) (y : Y) (ys whole : List Y) (n : ℕ) → whole ≡ y ∷ ys → n ≤ length xs → n < length (map f xs ++ whole)
one_longer f xs y ys whole n is h =
    let all = ap length is in
    omega (arith, all, length-map xs f, length-append (map f xs) whole)

pub returns-in_default-clause-rows : goal.returns-in_default-clause-rows
returns-in_default-clause-rows c =
    let aliases = c.args.source.now in
    let t = aliases.lines.tables.now in
    let empty = nil_from_length c.args.part.now.rows.now c.in_default.ensures.cases in
    ap (λ ms. map (member_in_tables t) c.args.flat.now.items ++ ms) (none_written c.args.kind aliases.policy.now t c.args.parts.now.items c.args.part.now empty)

pub returns-in_default-clause-fewer : goal.returns-in_default-clause-fewer
returns-in_default-clause-fewer c =
    let aliases = c.args.source.now in
    none_stepped c.args.kind aliases.policy.now aliases.lines.tables.now c.args.parts.now.items c.args.part.now (nil_from_length c.args.part.now.rows.now c.in_default.ensures.cases)

pub returns-in-None-clause-rows : goal.returns-in-None-clause-rows
returns-in-None-clause-rows c =
    let k = c.args.kind in
    let aliases = c.args.source.now in
    let lines = aliases.policy.now in
    let t = aliases.lines.tables.now in
    let p = c.args.part.now in
    let ps = c.args.parts.now.items in
    let q : PendingListPart = record { rows = c.in-Some.rest; negated = p.negated; times = p.times } in
    let r = c.flip_member_sign_if_negated-row.result in
    let is : p.rows.now ≡ c.in-Some.row.now ∷ c.in-Some.rest.now = search rules in
    let plain : list_expanded_n_times p.times k lines (member_in_tables t r ∷ []) ≡ member_in_tables t r ∷ [] = c.in-None.ensures in
    let same : member_in_tables t r ≡ member_under_negation p.negated (member_in_tables t c.in-Some.row.now) = c.flip_member_sign_if_negated-row.ensures t in
    let split = left_split k lines t ps p q c.in-Some.row.now c.in-Some.rest.now is refl refl refl in
    let one : list_expanded_n_times p.times k lines (member_under_negation p.negated (member_in_tables t c.in-Some.row.now) ∷ []) ≡ member_in_tables t r ∷ [] =
    ap (λ m. list_expanded_n_times p.times k lines (m ∷ [])) (sym same) ∙ plain in
    let next : members_left_to_write k lines t (ps ++ p ∷ []) ≡ member_in_tables t r ∷ members_left_to_write k lines t c.push.new.self.items =
    split ∙ ap (λ ms. ms ++ members_left_to_write k lines t (ps ++ q ∷ [])) one ∙ ap (λ qs. member_in_tables t r ∷ members_left_to_write k lines t qs) (sym c.in_ok-push.ensures.items) in
    on_ok_weaker c.push_member_within_limit.result
    (λ pushed. pushed_row_takes_next_value (member_in_tables t) c.args.flat.now.items c.push_member_within_limit.new.flat.items r (members_left_to_write k lines t (ps ++ p ∷ [])) (members_left_to_write k lines t c.push.new.self.items)
    (map (member_in_tables t) c.args.flat.now.items ++ members_left_to_write k lines t (ps ++ p ∷ [])) pushed next refl)
    c.push_member_within_limit.ensures.pushed

pub returns-in-None-clause-fewer : goal.returns-in-None-clause-fewer
returns-in-None-clause-fewer c =
    let k = c.args.kind in
    let aliases = c.args.source.now in
    let lines = aliases.policy.now in
    let t = aliases.lines.tables.now in
    let p = c.args.part.now in
    let ps = c.args.parts.now.items in
    let q : PendingListPart = record { rows = c.in-Some.rest; negated = p.negated; times = p.times } in
    let is : p.rows.now ≡ c.in-Some.row.now ∷ c.in-Some.rest.now = search rules in
    on_ok_weaker c.push_member_within_limit.result
    (λ pushed. subst (λ qs. expansion_steps_left k lines t qs < expansion_steps_left k lines t (ps ++ p ∷ [])) (sym c.in_ok-push.ensures.items)
    (plain_stepped k lines t ps p q c.in-Some.row.now c.in-Some.rest.now is refl refl refl))
    c.push_member_within_limit.ensures.pushed

pub returns-in-None-clause-fault : goal.returns-in-None-clause-fault
returns-in-None-clause-fault c =
    let k = c.args.kind in
    let aliases = c.args.source.now in
    let lines = aliases.policy.now in
    let t = aliases.lines.tables.now in
    let p = c.args.part.now in
    let ps = c.args.parts.now.items in
    let flat = c.args.flat.now.items in
    let q : PendingListPart = record { rows = c.in-Some.rest; negated = p.negated; times = p.times } in
    let r = c.flip_member_sign_if_negated-row.result in
    let is : p.rows.now ≡ c.in-Some.row.now ∷ c.in-Some.rest.now = search rules in
    let plain : list_expanded_n_times p.times k lines (member_in_tables t r ∷ []) ≡ member_in_tables t r ∷ [] = c.in-None.ensures in
    let same : member_in_tables t r ≡ member_under_negation p.negated (member_in_tables t c.in-Some.row.now) = c.flip_member_sign_if_negated-row.ensures t in
    let split = left_split k lines t ps p q c.in-Some.row.now c.in-Some.rest.now is refl refl refl in
    let one : list_expanded_n_times p.times k lines (member_under_negation p.negated (member_in_tables t c.in-Some.row.now) ∷ []) ≡ member_in_tables t r ∷ [] =
    ap (λ m. list_expanded_n_times p.times k lines (m ∷ [])) (sym same) ∙ plain in
    let next : members_left_to_write k lines t (ps ++ p ∷ []) ≡ member_in_tables t r ∷ members_left_to_write k lines t (ps ++ q ∷ []) = split ∙ ap (λ ms. ms ++ members_left_to_write k lines t (ps ++ q ∷ [])) one in
    IfErr-weaker c.push_member_within_limit.result (λ fault. (fault ≡ NoMemory) ⊎ ((fault ≡ TooLarge) × (expanded_member_limit ≤ length flat)))
    (λ fault. (fault ≡ NoMemory) ⊎ ((fault ≡ TooLarge) × (expanded_member_limit < length (map (member_in_tables t) flat ++ members_left_to_write k lines t (ps ++ p ∷ [])))))
    (λ fault why. elim why [ inl n ↦ inl n | inr h ↦ inr (h.0, one_longer (member_in_tables t) flat (member_in_tables t r) (members_left_to_write k lines t (ps ++ q ∷ [])) (members_left_to_write k lines t (ps ++ p ∷ [])) expanded_member_limit next h.1) ])
    c.push_member_within_limit.ensures.fault

pub returns-in_ok-push-in-Some-find_pending_part_in_place_of_alias_member-clause-rows : goal.returns-in_ok-push-in-Some-find_pending_part_in_place_of_alias_member-clause-rows
returns-in_ok-push-in-Some-find_pending_part_in_place_of_alias_member-clause-rows c =
    let k = c.args.kind in
    let aliases = c.args.source.now in
    let lines = aliases.policy.now in
    let t = aliases.lines.tables.now in
    let p = c.args.part.now in
    let ps = c.args.parts.now.items in
    let q : PendingListPart = record { rows = c.in-Some.rest; negated = p.negated; times = p.times } in
    let a = c.in-Some-find_pending_part_in_place_of_alias_member.members in
    let is : p.rows.now ≡ c.in-Some.row.now ∷ c.in-Some.rest.now = search rules in
    let new : c.push-in-Some-find_pending_part_in_place_of_alias_member.new.self.items ≡ (ps ++ q ∷ []) ++ a ∷ [] =
    c.in_ok-push-in-Some-find_pending_part_in_place_of_alias_member.ensures.items ∙ ap (λ qs. qs ++ a ∷ []) c.in_ok-push.ensures.items in
    let replaces : IsPendingPartInPlaceOfAliasMember k lines t p.times (member_under_negation p.negated (member_in_tables t c.in-Some.row.now)) a =
    subst (λ m. IsPendingPartInPlaceOfAliasMember k lines t p.times m a) (c.flip_member_sign_if_negated-row.ensures t) c.in-Some-find_pending_part_in_place_of_alias_member.ensures in
    ap (λ ms. map (member_in_tables t) c.args.flat.now.items ++ ms)
    (ap (members_left_to_write k lines t) new ∙ alias_written k lines t ps p q c.in-Some.row.now c.in-Some.rest.now is refl refl refl a replaces)

pub returns-in_ok-push-in-Some-find_pending_part_in_place_of_alias_member-clause-fewer : goal.returns-in_ok-push-in-Some-find_pending_part_in_place_of_alias_member-clause-fewer
returns-in_ok-push-in-Some-find_pending_part_in_place_of_alias_member-clause-fewer c =
    let k = c.args.kind in
    let aliases = c.args.source.now in
    let lines = aliases.policy.now in
    let t = aliases.lines.tables.now in
    let p = c.args.part.now in
    let ps = c.args.parts.now.items in
    let q : PendingListPart = record { rows = c.in-Some.rest; negated = p.negated; times = p.times } in
    let a = c.in-Some-find_pending_part_in_place_of_alias_member.members in
    let is : p.rows.now ≡ c.in-Some.row.now ∷ c.in-Some.rest.now = search rules in
    let new : c.push-in-Some-find_pending_part_in_place_of_alias_member.new.self.items ≡ (ps ++ q ∷ []) ++ a ∷ [] =
    c.in_ok-push-in-Some-find_pending_part_in_place_of_alias_member.ensures.items ∙ ap (λ qs. qs ++ a ∷ []) c.in_ok-push.ensures.items in
    let replaces : IsPendingPartInPlaceOfAliasMember k lines t p.times (member_under_negation p.negated (member_in_tables t c.in-Some.row.now)) a =
    subst (λ m. IsPendingPartInPlaceOfAliasMember k lines t p.times m a) (c.flip_member_sign_if_negated-row.ensures t) c.in-Some-find_pending_part_in_place_of_alias_member.ensures in
    subst (λ qs. expansion_steps_left k lines t qs < expansion_steps_left k lines t (ps ++ p ∷ [])) (sym new)
    (alias_stepped k lines t ps p q c.in-Some.row.now c.in-Some.rest.now is refl refl refl a replaces)
