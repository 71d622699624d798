-- Members put into the list of an alias in a file of a policy and taken out of it.
use Rattle.sudoers_edit.proofs.Common.{AddMember, AreLinesAtSpots, Bool, Def, DefinitionFilePlace, DropMember, EditFault, EditReplacesFileLine, Err, IsLineTextWithItemCutOut, IsLineTextWithItemPutIn, IsAliasDefinedAt, Kind, Line}
use Rattle.sudoers_edit.proofs.Common.{LineTexts, List, LoadedPolicy, LawsBehindMemberEdits, NamedFile, Node, None, Ok, Option, ParsedFile, Place, Result, Some, TextFault, WalkLineSpot, WalkState, [], ap, ap₂, arith}
use Rattle.sudoers_edit.proofs.Common.{bytes_between, text_owned_by_alias_member, text_owned_by_member, cut_outcome_of_text, definition_place_of_name, definitions_from_line_number, definitions_in_line}
use Rattle.sudoers_edit.proofs.Common.{definitions_of_alias_line, definitions_of_lines, edit_result_and_then, eqb-false, eqb-true, extents_of_definition_members, extents_of_members, false, file_names}
use Rattle.sudoers_edit.proofs.Common.{file_place_of_definition, file_place_of_walk_place, files_with_bytes_replaced, inl, inr, join, lead_of_parsed_line, length, line_texts_of_file, lines_of_numbered_file}
use Rattle.sudoers_edit.proofs.Common.{lines_with_item_cut_out, lines_with_item_put_in, lines_with_member_added, lines_with_member_dropped, replaced_lines_unless_too_long, lines_with_one_replaced, map, name_of_numbered_file}
use Rattle.sudoers_edit.proofs.Common.{named_files_of_policy, named_of, option_map, owned_bytes_start, owned_bytes_stop, place_within_file_of_definition, policy_or_load_fault, policy_with_file_defining_alias_edited}
use Rattle.sudoers_edit.proofs.Common.{policy_with_file_lines, refl, result_with_bytes_to_drop_item, result_with_offset_to_add_item, result_with_definition_at, slice_get, step, subst, suc, sym, texts_of_lines, true, zero, ℕ, ◌+◌}
use Rattle.sudoers_edit.proofs.Common.{◌<◌, ◌==◌, ◌∙◌, ◌∷◌, ◌≡◌, ◌⊎◌}
use Rattle.std.specs.Prelude.{slice_index_or}
use Rattle.sudoers_grammar.specs.Node as node
use Rattle.sudoers_edit.specs.declared.extra_item.ItemListKind.TheVariants as among
use Rattle.sudoers_edit.proofs.PlaceLemmas.{HaveSameKindPlaceAndName, HaveSameDefinitionNames, joined_definitions_have_same_heads, definitions_of_same_names_have_same_heads, same_heads_give_same_first_place, definitions_have_their_own_heads, same_definition_names_are_symmetric}
use Rattle.sudoers_edit.proofs.ExtentLemmas.{result_at_splice_offset_is_next, result_at_owned_bytes_is_next}
use Rattle.sudoers_edit.proofs.MemberMore.{line_with_one_member_more_has_parts, owned_members_belong_to_some_definition}
use Rattle.sudoers_edit.proofs.WayBackLemmas.{text_with_single_reading_is_logical_line}
use Rattle.sudoers_edit.proofs.SwapLemmas.{IsLineReplaced, item_cut_out_is_put_in_again, item_put_in_is_cut_out_again, replaced_text_makes_replaced_line}
use Rattle.sudoers_edit.proofs.ReplacedLemmas.{lines_with_line_put, read_lines_of_equal_texts_are_equal}
use Rattle.sudoers_edit.proofs.SpotLemmas.{AreWalksAtSamePlaces, LeadWhereOthersLead, file_and_line_of_spot, files_and_lines_of_walk, walks_alike}

-- OTHER FILES

equal_named_files_have_equal_texts : (g : ℕ) (files others : List ParsedFile) → map named_of others ≡ map named_of files → join (texts_of_lines (lines_of_numbered_file others g)) ≡ join (texts_of_lines (lines_of_numbered_file files g))
equal_named_files_have_equal_texts g [] [] same = refl
equal_named_files_have_equal_texts g [] (o ∷ others) same = absurd cc
equal_named_files_have_equal_texts g (file ∷ files) [] same = absurd cc
equal_named_files_have_equal_texts zero (file ∷ files) (o ∷ others) same = let first : named_of o ≡ named_of file = cc in ap (λ (x : NamedFile). x.bytes) first
equal_named_files_have_equal_texts (suc g) (file ∷ files) (o ∷ others) same = let rest : map named_of others ≡ map named_of files = cc in equal_named_files_have_equal_texts g files others rest

-- files of which one has other bytes, as they are read
replacement_keeps_text_of_other_file : (g : ℕ) (files : List ParsedFile) (others : List ParsedFile) (f : ℕ) (bytes : List ℕ)
    → map named_of others ≡ files_with_bytes_replaced f bytes (map named_of files) → (f ≡ g → ⊥)
    → join (texts_of_lines (lines_of_numbered_file others g)) ≡ join (texts_of_lines (lines_of_numbered_file files g))
replacement_keeps_text_of_other_file g [] [] zero bytes same other = refl
replacement_keeps_text_of_other_file g [] [] (suc f) bytes same other = refl
replacement_keeps_text_of_other_file g [] (o ∷ others) zero bytes same other = absurd cc
replacement_keeps_text_of_other_file g [] (o ∷ others) (suc f) bytes same other = absurd cc
replacement_keeps_text_of_other_file g (file ∷ files) [] zero bytes same other = absurd cc
replacement_keeps_text_of_other_file g (file ∷ files) [] (suc f) bytes same other = absurd cc
replacement_keeps_text_of_other_file zero (file ∷ files) (o ∷ others) zero bytes same other = absurd (other refl)
replacement_keeps_text_of_other_file (suc g) (file ∷ files) (o ∷ others) zero bytes same other =
    let rest : map named_of others ≡ map named_of files = cc in
    equal_named_files_have_equal_texts g files others rest
replacement_keeps_text_of_other_file zero (file ∷ files) (o ∷ others) (suc f) bytes same other =
    let first : named_of o ≡ named_of file = cc in
    ap (λ (x : NamedFile). x.bytes) first
replacement_keeps_text_of_other_file (suc g) (file ∷ files) (o ∷ others) (suc f) bytes same other =
    let rest : map named_of others ≡ files_with_bytes_replaced f bytes (map named_of files) = cc in
    replacement_keeps_text_of_other_file g files others f bytes rest (λ e. other (ap suc e))

replacement_of_bytes_keeps_file_names : (files others : List ParsedFile) (f : ℕ) (bytes : List ℕ) → map named_of others ≡ files_with_bytes_replaced f bytes (map named_of files) → file_names files ≡ file_names others
replacement_of_bytes_keeps_file_names [] [] zero bytes same = refl
replacement_of_bytes_keeps_file_names [] [] (suc f) bytes same = refl
replacement_of_bytes_keeps_file_names [] (o ∷ others) zero bytes same = absurd cc
replacement_of_bytes_keeps_file_names [] (o ∷ others) (suc f) bytes same = absurd cc
replacement_of_bytes_keeps_file_names (file ∷ files) [] zero bytes same = absurd cc
replacement_of_bytes_keeps_file_names (file ∷ files) [] (suc f) bytes same = absurd cc
replacement_of_bytes_keeps_file_names (file ∷ files) (o ∷ others) zero bytes same =
    let first : named_of o ≡ record { name = file.name; bytes = bytes } = cc in
    let rest : map named_of others ≡ map named_of files = cc in
    ap₂ (λ (n : List ℕ) (ns : List (List ℕ)). n ∷ ns) (sym (ap (λ (x : NamedFile). x.name) first)) (names_as files others rest)
  where
    names_as : (files others : List ParsedFile) → map named_of others ≡ map named_of files → file_names files ≡ file_names others
    names_as [] [] same = refl
    names_as [] (o ∷ others) same = absurd cc
    names_as (file ∷ files) [] same = absurd cc
    names_as (file ∷ files) (o ∷ others) same =
        let first : named_of o ≡ named_of file = cc in
        let rest : map named_of others ≡ map named_of files = cc in
        ap₂ (λ (n : List ℕ) (ns : List (List ℕ)). n ∷ ns) (sym (ap (λ (x : NamedFile). x.name) first)) (names_as files others rest)
replacement_of_bytes_keeps_file_names (file ∷ files) (o ∷ others) (suc f) bytes same =
    let first : named_of o ≡ named_of file = cc in
    let rest : map named_of others ≡ files_with_bytes_replaced f bytes (map named_of files) = cc in
    ap₂ (λ (n : List ℕ) (ns : List (List ℕ)). n ∷ ns) (sym (ap (λ (x : NamedFile). x.name) first)) (replacement_of_bytes_keeps_file_names files others f bytes rest)

cut_lines_of_result_are_unique : (a b : List (List ℕ)) (r : Result (List (List ℕ)) TextFault) → r ≡ Ok a → r ≡ Ok b → a ≡ b
cut_lines_of_result_are_unique a b r p q = let s : Ok a ≡ r = sym p in cc

-- the lines of the other files stay
replacement_keeps_lines_of_other_file : LawsBehindMemberEdits → (policy after : LoadedPolicy) (f g : ℕ) (bytes : List ℕ) → policy_or_load_fault (named_files_of_policy policy) ≡ Ok policy → policy_or_load_fault (files_with_bytes_replaced f bytes (named_files_of_policy policy)) ≡ Ok after
    → (f ≡ g → ⊥) → lines_of_numbered_file after.files g ≡ lines_of_numbered_file policy.files g
replacement_keeps_lines_of_other_file laws policy after f g bytes loaded now other =
    let joined : join (texts_of_lines (lines_of_numbered_file after.files g)) ≡ join (texts_of_lines (lines_of_numbered_file policy.files g)) =
    replacement_keeps_text_of_other_file g policy.files after.files f bytes (laws.bytes (files_with_bytes_replaced f bytes (named_files_of_policy policy)) after now) other in
    let is : cut_outcome_of_text (join (texts_of_lines (lines_of_numbered_file after.files g))) ≡ Ok (texts_of_lines (lines_of_numbered_file after.files g)) = laws.cut (files_with_bytes_replaced f bytes (named_files_of_policy policy)) after now g in
    let was : cut_outcome_of_text (join (texts_of_lines (lines_of_numbered_file policy.files g))) ≡ Ok (texts_of_lines (lines_of_numbered_file policy.files g)) = laws.cut (named_files_of_policy policy) policy loaded g in
    let same : texts_of_lines (lines_of_numbered_file after.files g) ≡ texts_of_lines (lines_of_numbered_file policy.files g) =
    cut_lines_of_result_are_unique (texts_of_lines (lines_of_numbered_file after.files g)) (texts_of_lines (lines_of_numbered_file policy.files g)) (cut_outcome_of_text (join (texts_of_lines (lines_of_numbered_file after.files g)))) is (ap cut_outcome_of_text joined ∙ was) in
    read_lines_of_equal_texts_are_equal (lines_of_numbered_file after.files g) (lines_of_numbered_file policy.files g) (laws.known (files_with_bytes_replaced f bytes (named_files_of_policy policy)) after now g).says
    (laws.known (named_files_of_policy policy) policy loaded g).says same

-- THE LINE THAT IS ANOTHER

-- a line of lines of which one was replaced is the new one in the place of the old, or stays
line_after_replacement_is_same_or_new : (ls : List Line) (n m : ℕ) (new old l k : Line) → slice_get ls n ≡ Some old → slice_get ls m ≡ Some l → slice_get (lines_with_line_put n new ls) m ≡ Some k
    → (l ≡ k) ⊎ ((l ≡ old) × (k ≡ new))
unfolding lines_with_line_put
line_after_replacement_is_same_or_new [] n m new old l k here was is = absurd cc
line_after_replacement_is_same_or_new (x ∷ ls) zero zero new old l k here was is = inr (cc, cc)
line_after_replacement_is_same_or_new (x ∷ ls) zero (suc m) new old l k here was is = inl cc
line_after_replacement_is_same_or_new (x ∷ ls) (suc n) zero new old l k here was is = inl cc
line_after_replacement_is_same_or_new (x ∷ ls) (suc n) (suc m) new old l k here was is = line_after_replacement_is_same_or_new ls n m new old l k here was is

lines_lead_alike_themselves : (name : List ℕ) (ls : List Line) → LeadWhereOthersLead name ls ls
lines_lead_alike_themselves name [] = tt
lines_lead_alike_themselves name (l ∷ ls) = (refl, lines_lead_alike_themselves name ls)

replaced_line_of_equal_lead_leads_alike : (name : List ℕ) (ls : List Line) (n : ℕ) (new old : Line) → slice_get ls n ≡ Some old → lead_of_parsed_line name new.node ≡ lead_of_parsed_line name old.node → LeadWhereOthersLead name ls (lines_with_line_put n new ls)
unfolding lines_with_line_put
replaced_line_of_equal_lead_leads_alike name [] n new old here same = absurd cc
replaced_line_of_equal_lead_leads_alike name (l ∷ ls) zero new old here same =
    let e : old ≡ l = cc in (subst (λ (x : Line). lead_of_parsed_line name new.node ≡ lead_of_parsed_line name x.node) e same, lines_lead_alike_themselves name ls)
replaced_line_of_equal_lead_leads_alike name (l ∷ ls) (suc n) new old here same = (refl, replaced_line_of_equal_lead_leads_alike name ls n new old here same)

-- THE WALK

abbrev DefineAlikeInEachLine : LoadedPolicy → LoadedPolicy → Type 0
DefineAlikeInEachLine policy after = (g m : ℕ) (l k : Line) → slice_get (lines_of_numbered_file policy.files g) m ≡ Some l → slice_get (lines_of_numbered_file after.files g) m ≡ Some k
    → (n : ℕ) → HaveSameKindPlaceAndName (definitions_in_line n k.node) (definitions_in_line n l.node)

walks_define_alike_in_each_line : (policy after : LoadedPolicy) → DefineAlikeInEachLine policy after → (spots : List WalkLineSpot) (lines : List Line) (others : List WalkLineSpot) (news : List Line) → AreLinesAtSpots policy.files spots lines
    → AreLinesAtSpots after.files others news → map file_and_line_of_spot others ≡ map file_and_line_of_spot spots
    → (m : ℕ) → HaveSameKindPlaceAndName (definitions_from_line_number m news) (definitions_from_line_number m lines)
walks_define_alike_in_each_line policy after heads [] [] [] [] old new same m = definitions_have_their_own_heads []
walks_define_alike_in_each_line policy after heads [] [] [] (k ∷ news) old new same m = absurd new
walks_define_alike_in_each_line policy after heads [] [] (b ∷ others) [] old new same m = absurd new
walks_define_alike_in_each_line policy after heads [] [] (b ∷ others) (k ∷ news) old new same m = absurd cc
walks_define_alike_in_each_line policy after heads [] (l ∷ lines) others news old new same m = absurd old
walks_define_alike_in_each_line policy after heads (a ∷ spots) [] others news old new same m = absurd old
walks_define_alike_in_each_line policy after heads (a ∷ spots) (l ∷ lines) [] [] old new same m = absurd cc
walks_define_alike_in_each_line policy after heads (a ∷ spots) (l ∷ lines) [] (k ∷ news) old new same m = absurd new
walks_define_alike_in_each_line policy after heads (a ∷ spots) (l ∷ lines) (b ∷ others) [] old new same m = absurd new
walks_define_alike_in_each_line policy after heads (a ∷ spots) (l ∷ lines) (b ∷ others) (k ∷ news) old new same m =
    let first : file_and_line_of_spot b ≡ file_and_line_of_spot a = cc in
    let file : b.file ≡ a.file = ap (λ (p : ℕ × ℕ). p.0) first in
    let line : b.line ≡ a.line = ap (λ (p : ℕ × ℕ). p.1) first in
    let rest : map file_and_line_of_spot others ≡ map file_and_line_of_spot spots = cc in
    let here : slice_get (lines_of_numbered_file after.files a.file) a.line ≡ Some k =
    ap₂ (λ f n. slice_get (lines_of_numbered_file after.files f) n) (sym file) (sym line) ∙ new.0.is_line in
    joined_definitions_have_same_heads (definitions_in_line m k.node) (definitions_in_line m l.node) (definitions_from_line_number (m + 1) news) (definitions_from_line_number (m + 1) lines)
    (heads a.file a.line l k old.0.is_line here m) (walks_define_alike_in_each_line policy after heads spots lines others news old.1 new.1 rest (m + 1))

-- the same place, but for its row
spot_of_equal_places_has_equal_place : (spots others : List WalkLineSpot) (n : ℕ) → map file_and_line_of_spot others ≡ map file_and_line_of_spot spots
    → ((slice_index_or others n (record { file = 0; line = 0; row = 1 })).file ≡ (slice_index_or spots n (record { file = 0; line = 0; row = 1 })).file)
    × ((slice_index_or others n (record { file = 0; line = 0; row = 1 })).line ≡ (slice_index_or spots n (record { file = 0; line = 0; row = 1 })).line)
spot_of_equal_places_has_equal_place [] [] n same = (refl, refl)
spot_of_equal_places_has_equal_place [] (b ∷ others) n same = absurd cc
spot_of_equal_places_has_equal_place (a ∷ spots) [] n same = absurd cc
spot_of_equal_places_has_equal_place (a ∷ spots) (b ∷ others) zero same =
    let first : file_and_line_of_spot b ≡ file_and_line_of_spot a = cc in
    (ap (λ (p : ℕ × ℕ). p.0) first, ap (λ (p : ℕ × ℕ). p.1) first)
spot_of_equal_places_has_equal_place (a ∷ spots) (b ∷ others) (suc n) same = spot_of_equal_places_has_equal_place spots others n (let rest : map file_and_line_of_spot others ≡ map file_and_line_of_spot spots = cc in rest)

equal_places_give_equal_file_place : (w v : WalkState) → files_and_lines_of_walk v ≡ files_and_lines_of_walk w → (p : Place) → file_place_of_walk_place v p ≡ file_place_of_walk_place w p
equal_places_give_equal_file_place w v same p =
    let both = spot_of_equal_places_has_equal_place w.spots v.spots p.line same in
    ap₂ (λ f n. let at : DefinitionFilePlace = record { file = f; line = n; def = p.def } in at) both.0 both.1

equal_places_give_equal_optional_file_place : (w v : WalkState) → files_and_lines_of_walk v ≡ files_and_lines_of_walk w → (o : Option Place) → option_map (file_place_of_walk_place v) o ≡ option_map (file_place_of_walk_place w) o
equal_places_give_equal_optional_file_place w v same None = refl
equal_places_give_equal_optional_file_place w v same (Some p) = ap Some (equal_places_give_equal_file_place w v same p)

-- one line of definitions that keep their kind and names is another: an alias is defined where it was
pub replaced_definitions_keep_alias_places : LawsBehindMemberEdits → (policy after : LoadedPolicy) (f n : ℕ) (bytes : List ℕ) (old new : Line) (j : Kind) (ds es : List Def) → policy_or_load_fault (named_files_of_policy policy) ≡ Ok policy
    → policy_or_load_fault (files_with_bytes_replaced f bytes (named_files_of_policy policy)) ≡ Ok after → slice_get (lines_of_numbered_file policy.files f) n ≡ Some old → lines_of_numbered_file after.files f ≡ lines_with_line_put n new (lines_of_numbered_file policy.files f)
    → old.node ≡ node.Alias j ds → new.node ≡ node.Alias j es → HaveSameDefinitionNames es ds → (k : Kind) (name : List ℕ) → file_place_of_definition k name after.walk ≡ file_place_of_definition k name policy.walk
replaced_definitions_keep_alias_places laws policy after f n bytes old new j ds es loaded now here put is was same k name =
    ap (option_map (file_place_of_walk_place after.walk)) named ∙ equal_places_give_equal_optional_file_place policy.walk after.walk alike.places (definition_place_of_name k name policy.walk.lines)
  where
    lead : (g : ℕ) → LeadWhereOthersLead (name_of_numbered_file policy.files g) (lines_of_numbered_file policy.files g) (lines_of_numbered_file after.files g)
    lead g = by (f == g) refl
      where
        by : (b : Bool) → (f == g) ≡ b → LeadWhereOthersLead (name_of_numbered_file policy.files g) (lines_of_numbered_file policy.files g) (lines_of_numbered_file after.files g)
        by true e =
            subst (λ h. LeadWhereOthersLead (name_of_numbered_file policy.files h) (lines_of_numbered_file policy.files h) (lines_of_numbered_file after.files h)) (eqb-true f g e)
            (subst (LeadWhereOthersLead (name_of_numbered_file policy.files f) (lines_of_numbered_file policy.files f)) (sym put)
            (replaced_line_of_equal_lead_leads_alike (name_of_numbered_file policy.files f) (lines_of_numbered_file policy.files f) n new old here (ap (lead_of_parsed_line (name_of_numbered_file policy.files f)) was ∙ sym (ap (lead_of_parsed_line (name_of_numbered_file policy.files f)) is))))
        by false e =
            subst (LeadWhereOthersLead (name_of_numbered_file policy.files g) (lines_of_numbered_file policy.files g)) (sym (replacement_keeps_lines_of_other_file laws policy after f g bytes loaded now (eqb-false f g e)))
            (lines_lead_alike_themselves (name_of_numbered_file policy.files g) (lines_of_numbered_file policy.files g))

    alike : AreWalksAtSamePlaces after.walk policy.walk
    alike = walks_alike policy.files after.files
        (replacement_of_bytes_keeps_file_names policy.files after.files f bytes (laws.bytes (files_with_bytes_replaced f bytes (named_files_of_policy policy)) after now)) lead policy.walk after.walk
        (laws.walk (named_files_of_policy policy) policy loaded) (laws.walk (files_with_bytes_replaced f bytes (named_files_of_policy policy)) after now)

    heads : DefineAlikeInEachLine policy after
    heads g m l k was_line is_line i = by (f == g) refl
      where
        here_heads : (l ≡ k) ⊎ ((l ≡ old) × (k ≡ new)) → HaveSameKindPlaceAndName (definitions_in_line i k.node) (definitions_in_line i l.node)
        here_heads (inl e) = subst (λ (x : Line). HaveSameKindPlaceAndName (definitions_in_line i x.node) (definitions_in_line i l.node)) e (definitions_have_their_own_heads (definitions_in_line i l.node))
        here_heads (inr e) =
            subst (λ (x : Node). HaveSameKindPlaceAndName (definitions_in_line i x) (definitions_in_line i l.node)) (sym (ap (λ (x : Line). x.node) e.1 ∙ was))
            (subst (λ (x : Node). HaveSameKindPlaceAndName (definitions_in_line i (node.Alias j es)) (definitions_in_line i x)) (sym (ap (λ (x : Line). x.node) e.0 ∙ is)) (definitions_of_same_names_have_same_heads j i 0 es ds same))

        by : (b : Bool) → (f == g) ≡ b → HaveSameKindPlaceAndName (definitions_in_line i k.node) (definitions_in_line i l.node)
        by true e =
            let there : f ≡ g = eqb-true f g e in
            let was_here : slice_get (lines_of_numbered_file policy.files f) m ≡ Some l = ap (λ h. slice_get (lines_of_numbered_file policy.files h) m) there ∙ was_line in
            let is_here : slice_get (lines_with_line_put n new (lines_of_numbered_file policy.files f)) m ≡ Some k =
            ap (λ ls. slice_get ls m) (sym put) ∙ ap (λ h. slice_get (lines_of_numbered_file after.files h) m) there ∙ is_line in
            here_heads (line_after_replacement_is_same_or_new (lines_of_numbered_file policy.files f) n m new old l k here was_here is_here)
        by false e =
            let stays : slice_get (lines_of_numbered_file policy.files g) m ≡ Some k = ap (λ ls. slice_get ls m) (sym (replacement_keeps_lines_of_other_file laws policy after f g bytes loaded now (eqb-false f g e))) ∙ is_line in
            here_heads (inl (let found : Some l ≡ slice_get (lines_of_numbered_file policy.files g) m = sym was_line in cc))

    named : definition_place_of_name k name after.walk.lines ≡ definition_place_of_name k name policy.walk.lines
    named = same_heads_give_same_first_place k name (definitions_of_lines after.walk.lines) (definitions_of_lines policy.walk.lines)
        (walks_define_alike_in_each_line policy after heads policy.walk.spots policy.walk.lines after.walk.spots after.walk.lines (laws.stand (named_files_of_policy policy) policy loaded)
        (laws.stand (files_with_bytes_replaced f bytes (named_files_of_policy policy)) after now) alike.places 0)

-- WHAT THE CODE MEETS

pub alias_refusal_refuses_member_edits : (k : Kind) (name : List ℕ) (at : ℕ) (s : List ℕ) (policy : LoadedPolicy) (fault : EditFault)
    → ((next : List Line → Place → Line → Def → Result LineTexts EditFault) → policy_with_file_defining_alias_edited k name policy (λ place lines. result_with_definition_at (Some place) lines (next lines)) ≡ Err fault)
    → (step (AddMember k name at s) policy ≡ Err fault) × (step (DropMember k name at) policy ≡ Err fault)
unfolding lines_with_member_added lines_with_member_dropped
alias_refusal_refuses_member_edits k name at s policy fault none = (
  none (λ lines place line d. result_with_offset_to_add_item at (extents_of_members d.members) (λ from. lines_with_item_put_in (among.Members place.def) at from place.line s line lines)),
  none (λ lines place line d. result_with_bytes_to_drop_item at (extents_of_members d.members) (λ from to. lines_with_item_cut_out (among.Members place.def) at from to place.line line lines)),
)

-- what is done at an alias that is there
pub edit_at_defined_alias_edits_its_file : (k : Kind) (name : List ℕ) (policy : LoadedPolicy) (at : DefinitionFilePlace) (line : Line) (d : Def) (edit : Place → List Line → Result LineTexts EditFault)
    → IsAliasDefinedAt k name policy at line d → policy_with_file_defining_alias_edited k name policy edit ≡ edit_result_and_then (edit (place_within_file_of_definition at) (lines_of_numbered_file policy.files at.file)) (policy_with_file_lines policy at.file)
edit_at_defined_alias_edits_its_file k name policy at line d edit is = rw is.named refl

pub member_addition_at_alias_puts_item_in : (at : ℕ) (s : List ℕ) (k : Kind) (name : List ℕ) (policy : LoadedPolicy) (place : DefinitionFilePlace) (line : Line) (d : Def) → IsAliasDefinedAt k name policy place line d
    → lines_with_member_added (place_within_file_of_definition place) at s (lines_of_numbered_file policy.files place.file)
    ≡ result_with_offset_to_add_item at (extents_of_members d.members) (λ from. lines_with_item_put_in (among.Members place.def) at from place.line s line (lines_of_numbered_file policy.files place.file))
unfolding lines_with_member_added
member_addition_at_alias_puts_item_in at s k name policy place line d is = rw (is.here, is.makes, is.stands) refl

pub member_drop_at_alias_cuts_item_out : (at : ℕ) (k : Kind) (name : List ℕ) (policy : LoadedPolicy) (place : DefinitionFilePlace) (line : Line) (d : Def) → IsAliasDefinedAt k name policy place line d
    → lines_with_member_dropped (place_within_file_of_definition place) at (lines_of_numbered_file policy.files place.file)
    ≡ result_with_bytes_to_drop_item at (extents_of_members d.members) (λ from to. lines_with_item_cut_out (among.Members place.def) at from to place.line line (lines_of_numbered_file policy.files place.file))
unfolding lines_with_member_dropped
member_drop_at_alias_cuts_item_out at k name policy place line d is = rw (is.here, is.makes, is.stands) refl

-- a file with a line
file_with_line_has_number_below_count : (files : List ParsedFile) (f n : ℕ) (line : Line) → slice_get (lines_of_numbered_file files f) n ≡ Some line → f < length files
file_with_line_has_number_below_count [] zero n line here = absurd cc
file_with_line_has_number_below_count [] (suc f) n line here = absurd cc
file_with_line_has_number_below_count (file ∷ files) zero n line here = omega arith
file_with_line_has_number_below_count (file ∷ files) (suc f) n line here = omega (arith, file_with_line_has_number_below_count files f n line here)

-- THE WAY BACK

-- the alias in the policy after it
alias_is_defined_after_line_replacement : LawsBehindMemberEdits → (k : Kind) (name : List ℕ) (policy after : LoadedPolicy) (bytes : List ℕ) (place : DefinitionFilePlace) (line new : Line) (d e : Def) (j : Kind) (ds es : List Def)
    → policy_or_load_fault (named_files_of_policy policy) ≡ Ok policy → policy_or_load_fault (files_with_bytes_replaced place.file bytes (named_files_of_policy policy)) ≡ Ok after → IsAliasDefinedAt k name policy place line d
    → IsLineReplaced (lines_of_numbered_file policy.files place.file) (lines_of_numbered_file after.files place.file) place.line line new → line.node ≡ node.Alias j ds → new.node ≡ node.Alias j es
    → HaveSameDefinitionNames es ds → slice_get es place.def ≡ Some e → IsAliasDefinedAt k name after place new e
alias_is_defined_after_line_replacement laws k name policy after bytes place line new d e j ds es loaded now is swap was later names stands = record {
  named = replaced_definitions_keep_alias_places laws policy after place.file place.line bytes line new j ds es loaded now is.here swap.is was later names k name ∙ is.named;
  here = swap.here;
  defs = es;
  makes = ap definitions_of_alias_line later;
  stands = stands;
}

pub member_addition_replaces_file_line : LawsBehindMemberEdits → (k : Kind) (name : List ℕ) (at from : ℕ) (s text : List ℕ) (policy : LoadedPolicy) (place : DefinitionFilePlace) (line : Line) (d : Def)
    → policy_or_load_fault (named_files_of_policy policy) ≡ Ok policy → IsAliasDefinedAt k name policy place line d → (put : IsLineTextWithItemPutIn (among.Members place.def) at from s line text)
    → lines_with_member_added (place_within_file_of_definition place) at s (lines_of_numbered_file policy.files place.file) ≡ replaced_lines_unless_too_long place.line text (line_texts_of_file policy place.file)
    → EditReplacesFileLine (AddMember k name at s) (DropMember k name at) (DropMember k name at ∷ []) policy place.file place.line text
member_addition_replaces_file_line laws k name at from s text policy place line d loaded is put forth = record {
  here = file_with_line_has_number_below_count policy.files place.file place.line line is.here;
  said_is = text_with_single_reading_is_logical_line text put.new put.says;
  forth = edit_at_defined_alias_edits_its_file k name policy place line d (λ p. lines_with_member_added p at s) is ∙ ap (λ r. edit_result_and_then r (policy_with_file_lines policy place.file)) forth;
  inverse_is = refl;
  back_is = refl;
  back = λ after now inside same.
      let f : ℕ = place.file in
      let bytes : List ℕ = join (lines_with_one_replaced place.line text (line_texts_of_file policy f)) in
      let before : List Line = lines_of_numbered_file policy.files f in
      let later : List Line = lines_of_numbered_file after.files f in
      let to : ℕ = from + length s in
      let new : Line = record { text = text; node = put.new } in
      let more = line_with_one_member_more_has_parts place.def at from to put.new line.node put.more in
      let swap = replaced_text_makes_replaced_line before later place.line line text put.new (laws.known (named_files_of_policy policy) policy loaded f) (laws.known (files_with_bytes_replaced f bytes (named_files_of_policy policy)) after now f) is.here put.says same in
      let e = owned_members_belong_to_some_definition (slice_get more.more place.def) at from more.owned.begins in
      let there : IsAliasDefinedAt k name after place new e.0 =
      alias_is_defined_after_line_replacement laws k name policy after bytes place line new d e.0 more.k more.less more.more loaded now is swap more.was more.is more.names e.1 in
      let begins : owned_bytes_start at (extents_of_members e.0.members) ≡ Some from = ap (λ o. owned_bytes_start at (extents_of_definition_members o)) (sym e.1) ∙ more.owned.begins in
      let stops : owned_bytes_stop at (extents_of_members e.0.members) ≡ Some to = ap (λ o. owned_bytes_stop at (extents_of_definition_members o)) (sym e.1) ∙ more.owned.stops in
      edit_at_defined_alias_edits_its_file k name after place new e.0 (λ p. lines_with_member_dropped p at) there
      ∙ ap (λ r. edit_result_and_then r (policy_with_file_lines after f))
      (member_drop_at_alias_cuts_item_out at k name after place new e.0 there
      ∙ result_at_owned_bytes_is_next at from to (extents_of_members e.0.members) (λ from to. lines_with_item_cut_out (among.Members place.def) at from to place.line new later) begins stops
      ∙ item_put_in_is_cut_out_again (among.Members place.def) at from place.line s text before later line (laws.known (named_files_of_policy policy) policy loaded f) is.here put swap);
}

bytes_owned_by_member_are_between_offsets : (k : Kind) (name : List ℕ) (policy : LoadedPolicy) (at from to : ℕ) (place : DefinitionFilePlace) (line : Line) (d : Def) → IsAliasDefinedAt k name policy place line d
    → owned_bytes_start at (extents_of_members d.members) ≡ Some from → owned_bytes_stop at (extents_of_members d.members) ≡ Some to → text_owned_by_alias_member k name at policy ≡ bytes_between from to line.text
unfolding text_owned_by_member
bytes_owned_by_member_are_between_offsets k name policy at from to place line d is begins stops = rw (is.named, is.here, is.makes, is.stands, begins, stops) refl

pub member_drop_replaces_file_line : LawsBehindMemberEdits → (k : Kind) (name : List ℕ) (at from to : ℕ) (s text : List ℕ) (policy : LoadedPolicy) (place : DefinitionFilePlace) (line : Line) (d : Def)
    → policy_or_load_fault (named_files_of_policy policy) ≡ Ok policy → IsAliasDefinedAt k name policy place line d → owned_bytes_start at (extents_of_members d.members) ≡ Some from
    → owned_bytes_stop at (extents_of_members d.members) ≡ Some to → (cut : IsLineTextWithItemCutOut (among.Members place.def) at from to line text) → s ≡ bytes_between from to line.text
    → lines_with_member_dropped (place_within_file_of_definition place) at (lines_of_numbered_file policy.files place.file) ≡ replaced_lines_unless_too_long place.line text (line_texts_of_file policy place.file)
    → EditReplacesFileLine (DropMember k name at) (AddMember k name at s) (AddMember k name at s ∷ []) policy place.file place.line text
member_drop_replaces_file_line laws k name at from to s text policy place line d loaded is begins stops cut owned forth = record {
  here = file_with_line_has_number_below_count policy.files place.file place.line line is.here;
  said_is = text_with_single_reading_is_logical_line text cut.new cut.says;
  forth = edit_at_defined_alias_edits_its_file k name policy place line d (λ p. lines_with_member_dropped p at) is ∙ ap (λ r. edit_result_and_then r (policy_with_file_lines policy place.file)) forth;
  inverse_is = ap (λ z. AddMember k name at z ∷ []) (owned ∙ sym (bytes_owned_by_member_are_between_offsets k name policy at from to place line d is begins stops));
  back_is = refl;
  back = λ after now inside same.
      let f : ℕ = place.file in
      let bytes : List ℕ = join (lines_with_one_replaced place.line text (line_texts_of_file policy f)) in
      let before : List Line = lines_of_numbered_file policy.files f in
      let later : List Line = lines_of_numbered_file after.files f in
      let new : Line = record { text = text; node = cut.new } in
      let more = line_with_one_member_more_has_parts place.def at from to line.node cut.new cut.more in
      let swap = replaced_text_makes_replaced_line before later place.line line text cut.new (laws.known (named_files_of_policy policy) policy loaded f) (laws.known (files_with_bytes_replaced f bytes (named_files_of_policy policy)) after now f) is.here cut.says same in
      let e = owned_members_belong_to_some_definition (slice_get more.less place.def) at from more.owned.fits in
      let there : IsAliasDefinedAt k name after place new e.0 =
      alias_is_defined_after_line_replacement laws k name policy after bytes place line new d e.0 more.k more.more more.less loaded now is swap more.is more.was (same_definition_names_are_symmetric more.more more.less more.names) e.1 in
      let fits : owned_bytes_start at (extents_of_members e.0.members) ≡ Some from = ap (λ o. owned_bytes_start at (extents_of_definition_members o)) (sym e.1) ∙ more.owned.fits in
      edit_at_defined_alias_edits_its_file k name after place new e.0 (λ p. lines_with_member_added p at s) there
      ∙ ap (λ r. edit_result_and_then r (policy_with_file_lines after f))
      (member_addition_at_alias_puts_item_in at s k name after place new e.0 there
      ∙ result_at_splice_offset_is_next at from (extents_of_members e.0.members) (λ from. lines_with_item_put_in (among.Members place.def) at from place.line s new later) fits
      ∙ item_cut_out_is_put_in_again (among.Members place.def) at from to place.line s text before later line (laws.known (named_files_of_policy policy) policy loaded f) is.here cut owned swap);
}
