-- The old name given back where the new one stands.
use Rattle.std.proofs.Common.{◌≡◌, inl, inr, ℕ, ◌+◌, ◌-◌, ◌≤◌, ◌<◌, List, [], ◌∷◌, ◌++◌, map, length, take, drop, refl, sym, ap, ap₂, subst, ◌∙◌, arith, append_assoc}
use Rattle.std.specs.List.{AllByRecursion}
use Rattle.std.proofs.lemmas.List.{length-take-le, length-take, take_at, drop_at, drop-take, drop-drop, drop-append-le, length-append, length-drop}
use Rattle.std.proofs.Math.Seq.{drop-append-add, take-append-add}
use Rattle.sudoers_text.specs.Renamed.{offset_after_replacement}
use Rattle.sudoers_grammar.specs.Node.{Node}
use Rattle.sudoers_grammar.specs.Line.{LineReadsAsNode}
use Rattle.sudoers_grammar.specs.Renamed.{NamedAlias, NameStandsAtOffset, node_with_alias_renamed, renamed_alias, renaming_of_alias_in_node, alias_offsets_in_node, bytes_replaced_at_offsets, offset_after_renames, line_text_after_rename}
use Rattle.sudoers_grammar.proofs.RenamedAgain.{IsMovedWholeAtOffset, renamed_offsets_are_each_moved, node_again}
use Rattle.sudoers_grammar.proofs.RenamedStarts.{AreOffsetsApart, lower_start_keeps_offsets_apart, offsets_apart_end_no_earlier_than_start, offset_before_renames_is_unchanged, offset_after_first_rename_is_replaced}
use Rattle.sudoers_grammar.proofs.NamesStand.{StandsAtOffsets, alias_stands_at_its_offsets_in_line}
use Rattle.sudoers_grammar.proofs.Ascending.{TokensOfLinesAreOrdered}
use Rattle.sudoers_grammar.proofs.RenamedText.{replacement_keeps_bytes_before_first_place, StandsAtPlaceInLine, line_is_prefix_name_and_rest, slice_of_equal_prefixes_is_equal}

-- Behind another front the same is put at the places behind it.
replacement_after_other_front_is_same : (size : ℕ) (word a b line : List ℕ) (qs : List ℕ) → AreOffsetsApart size (length a) (length (a ++ line)) qs
    → bytes_replaced_at_offsets size word (map (offset_after_replacement (length a) (length b)) qs) (b ++ line) ≡ b ++ drop (length a) (bytes_replaced_at_offsets size word qs (a ++ line))
replacement_after_other_front_is_same size word a b line [] apart = ap (λ (t : List ℕ). b ++ t) (sym (drop_at a line (length a) refl))
replacement_after_other_front_is_same size word a b line (q ∷ qs) apart =
    let A = length a in
    let B = length b in
    let L = bytes_replaced_at_offsets size word qs (a ++ line) in
    let tail = drop A L in
    let within = offsets_apart_end_no_earlier_than_start size (q + size) (length (a ++ line)) qs apart.1 in
    let later : bytes_replaced_at_offsets size word (map (offset_after_replacement A B) qs) (b ++ line) ≡ b ++ tail =
    replacement_after_other_front_is_same size word a b line qs (lower_start_keeps_offsets_apart size (q + size) A (length (a ++ line)) qs (omega (arith, apart.0)) apart.1) in
    let c = q - A in
    let place : offset_after_replacement A B q ≡ B + c = omega (arith, apart.0) in
    let behind : offset_after_replacement A B q + size ≡ B + (c + size) = omega (arith, apart.0) in
    let same : q ≡ A + c = omega (arith, apart.0) in
    let sum : A + (c + size) ≡ q + size = omega (arith, apart.0) in
    let agree = replacement_keeps_bytes_before_first_place size word (a ++ line) (q + size) qs apart.1 q (omega arith) in
    let long : length (take q L) ≡ q = ap length agree ∙ length-take-le q (a ++ line) (omega (arith, within)) in
    let rest = word ++ drop (q + size) L in
    let front : take (offset_after_replacement A B q) (b ++ tail) ≡ b ++ take c tail = ap (λ (n : ℕ). take n (b ++ tail)) place ∙ take-append-add b tail c in
    let back : drop (offset_after_replacement A B q + size) (b ++ tail) ≡ drop (q + size) L =
    ap (λ (n : ℕ). drop n (b ++ tail)) behind ∙ drop-append-add b tail (c + size) ∙ drop-drop (c + size) A L ∙ ap (λ (n : ℕ). drop n L) sum in
    let there : drop A (take q L ++ rest) ≡ take c tail ++ rest =
    drop-append-le A (take q L) rest (omega (arith, long, apart.0))
    ∙ ap (λ (t : List ℕ). t ++ rest) (ap (λ (n : ℕ). drop A (take n L)) same ∙ drop-take A c L) in
    ap (λ (M : List ℕ). take (offset_after_replacement A B q) M ++ (word ++ drop (offset_after_replacement A B q + size) M)) later
    ∙ ap₂ (λ (x y : List ℕ). x ++ (word ++ y)) front back
    ∙ append_assoc b (take c tail) rest
    ∙ ap (λ (t : List ℕ). b ++ t) (sym there)

added_base_keeps_replaced_offsets : (p old new : ℕ) (qs : List ℕ) → map (offset_after_replacement (p + old) (p + new)) qs ≡ map (offset_after_replacement old new) qs
added_base_keeps_replaced_offsets p old new [] = refl
added_base_keeps_replaced_offsets p old new (q ∷ qs) =
    ap₂ (λ (x : ℕ) (xs : List ℕ). x ∷ xs) (let e : offset_after_replacement (p + old) (p + new) q ≡ offset_after_replacement old new q = omega arith in e)
    (added_base_keeps_replaced_offsets p old new qs)

-- where the places lie then
offsets_after_renames_are_replaced_offsets : (old new p from to : ℕ) (all ps : List ℕ) → p < from → AreOffsetsApart old from to ps
    → map (offset_after_renames old new (p ∷ all)) ps ≡ map (offset_after_replacement old new) (map (offset_after_renames old new all) ps)
offsets_after_renames_are_replaced_offsets old new p from to all [] h a = refl
offsets_after_renames_are_replaced_offsets old new p from to all (q ∷ qs) h a =
    ap₂ (λ (x : ℕ) (xs : List ℕ). x ∷ xs) (offset_after_first_rename_is_replaced old new p all q (omega (arith, h, a.0)))
    (offsets_after_renames_are_replaced_offsets old new p (q + old) to all qs (omega (arith, h, a.0)) a.1)

replaced_offsets_stay_apart : (old new from to : ℕ) (qs : List ℕ) → old ≤ from → AreOffsetsApart new from to qs
    → AreOffsetsApart new (offset_after_replacement old new from) (offset_after_replacement old new to) (map (offset_after_replacement old new) qs)
replaced_offsets_stay_apart old new from to [] h a = omega (arith, h, a)
replaced_offsets_stay_apart old new from to (q ∷ qs) h a = (
  omega (arith, h, a.0),
  lower_start_keeps_offsets_apart new (offset_after_replacement old new (q + new)) (offset_after_replacement old new q + new) (offset_after_replacement old new to)
      (map (offset_after_replacement old new) qs) (omega (arith, h, a.0)) (replaced_offsets_stay_apart old new (q + new) to qs (omega (arith, h, a.0)) a.1),
)

offsets_after_renames_stay_apart : (name fresh line : List ℕ) (from : ℕ) (ps : List ℕ) → 0 < length name → AreOffsetsApart (length name) from (length line) ps
    → AreOffsetsApart (length fresh) from (length (bytes_replaced_at_offsets (length name) fresh ps line)) (map (offset_after_renames (length name) (length fresh) ps) ps)
offsets_after_renames_stay_apart name fresh line from [] some a = a
offsets_after_renames_stay_apart name fresh line from (p ∷ ps) some a =
    let N = length name in
    let F = length fresh in
    let L = bytes_replaced_at_offsets N fresh ps line in
    let later : AreOffsetsApart F (p + N) (length L) (map (offset_after_renames N F ps) ps) = offsets_after_renames_stay_apart name fresh line (p + N) ps some a.1 in
    let le = offsets_apart_end_no_earlier_than_start F (p + N) (length L) (map (offset_after_renames N F ps) ps) later in
    let first : offset_after_renames N F (p ∷ ps) p ≡ p = offset_before_renames_is_unchanged N F N p (length line) (p ∷ ps) p (omega arith, a.1) (omega arith) in
    let others = offsets_after_renames_are_replaced_offsets N F p (p + N) (length line) ps ps (omega (arith, some)) a.1 in
    let size : offset_after_replacement N F (length L) ≡ length (take p L ++ (fresh ++ drop (p + N) L)) =
    omega (
      arith,
      length-append (take p L) (fresh ++ drop (p + N) L),
      length-append fresh (drop (p + N) L),
      length-take-le p L
          (omega (arith, le)),
      length-drop (p + N) L,
      le,
    ) in
    let moved = replaced_offsets_stay_apart N F (p + N) (length L) (map (offset_after_renames N F ps) ps) (omega arith) later in (
      omega (arith, first, a.0),
      subst (λ (n : ℕ). AreOffsetsApart F (offset_after_renames N F (p ∷ ps) p + F) n (map (offset_after_renames N F (p ∷ ps)) ps)) size
          (subst (λ (qs : List ℕ). AreOffsetsApart F (offset_after_renames N F (p ∷ ps) p + F) (offset_after_replacement N F (length L)) qs) (sym others)
          (lower_start_keeps_offsets_apart F (offset_after_replacement N F (p + N)) (offset_after_renames N F (p ∷ ps) p + F) (offset_after_replacement N F (length L))
          (map (offset_after_replacement N F) (map (offset_after_renames N F ps) ps)) (omega (arith, first)) moved)),
    )

-- The old name at the new places gives the old line.
pub replacement_back_gives_old_line : (name fresh line : List ℕ) (from : ℕ) (ps : List ℕ) → 0 < length name → AreOffsetsApart (length name) from (length line) ps
    → AllByRecursion (NameStandsAtOffset line name) ps
    → bytes_replaced_at_offsets (length fresh) name (map (offset_after_renames (length name) (length fresh) ps) ps) (bytes_replaced_at_offsets (length name) fresh ps line) ≡ line
replacement_back_gives_old_line name fresh line from [] some a is = refl
replacement_back_gives_old_line name fresh line from (p ∷ ps) some a is =
    let N = length name in
    let F = length fresh in
    let L = bytes_replaced_at_offsets N fresh ps line in
    let qs = map (offset_after_renames N F ps) ps in
    let front = take p L in
    let rest = drop (p + N) L in
    let le = offsets_apart_end_no_earlier_than_start N (p + N) (length line) ps a.1 in
    let agree = replacement_keeps_bytes_before_first_place N fresh line (p + N) ps a.1 (p + N) (omega arith) in
    let agree_front : front ≡ take p line = replacement_keeps_bytes_before_first_place N fresh line (p + N) ps a.1 p (omega arith) in
    let size : length front ≡ p = ap length agree_front ∙ length-take-le p line (omega (arith, le)) in
    let old_size : length (front ++ name) ≡ p + N = length-append front name ∙ ap (λ (n : ℕ). n + N) size in
    let new_size : length (front ++ fresh) ≡ p + F = length-append front fresh ∙ ap (λ (n : ℕ). n + F) size in
    let later : bytes_replaced_at_offsets F name qs L ≡ line = replacement_back_gives_old_line name fresh line (p + N) ps some a.1 is.1 in
    let here : StandsAtPlaceInLine line name p = record { inside = le; stands = is.0 } in
    let whole_line : line ≡ take p line ++ (name ++ drop (p + N) line) = line_is_prefix_name_and_rest line name p here in
    let inside : p + N ≤ length L = omega (arith, ap length agree, length-take (p + N) L, length-take-le (p + N) line le, le) in
    let there : StandsAtPlaceInLine L name p = record { inside = inside; stands = slice_of_equal_prefixes_is_equal L line p (p + N) (omega arith) agree ∙ is.0 } in
    let whole_L : (front ++ name) ++ rest ≡ L = append_assoc front name rest ∙ sym (line_is_prefix_name_and_rest L name p there) in
    let apart : AreOffsetsApart F (length (front ++ name)) (length ((front ++ name) ++ rest)) qs =
    subst (λ (n : ℕ). AreOffsetsApart F n (length ((front ++ name) ++ rest)) qs) (sym old_size)
    (subst (λ (t : List ℕ). AreOffsetsApart F (p + N) (length t) qs) (sym whole_L) (offsets_after_renames_stay_apart name fresh line (p + N) ps some a.1)) in
    let first : offset_after_renames N F (p ∷ ps) p ≡ p = offset_before_renames_is_unchanged N F N p (length line) (p ∷ ps) p (omega arith, a.1) (omega arith) in
    let others : map (offset_after_renames N F (p ∷ ps)) ps ≡ map (offset_after_replacement (length (front ++ name)) (length (front ++ fresh))) qs =
    offsets_after_renames_are_replaced_offsets N F p (p + N) (length line) ps ps (omega (arith, some)) a.1 ∙ sym (added_base_keeps_replaced_offsets p N F qs)
    ∙ ap₂ (λ (x y : ℕ). map (offset_after_replacement x y) qs) (sym old_size) (sym new_size) in
    let tail = drop (p + N) line in
    let M = bytes_replaced_at_offsets F name (map (offset_after_renames N F (p ∷ ps)) ps) (front ++ (fresh ++ rest)) in
    let inner : M ≡ (front ++ fresh) ++ tail =
    ap₂ (λ (xs t : List ℕ). bytes_replaced_at_offsets F name xs t) others (sym (append_assoc front fresh rest))
    ∙ replacement_after_other_front_is_same F name (front ++ name) (front ++ fresh) rest qs apart
    ∙ ap (λ (t : List ℕ). (front ++ fresh) ++ t)
    (ap₂ (λ (n : ℕ) (t : List ℕ). drop n (bytes_replaced_at_offsets F name qs t)) old_size whole_L ∙ ap (drop (p + N)) later) in
    ap (λ (n : ℕ). take n M ++ (name ++ drop (n + F) M)) first
    ∙ ap (λ (t : List ℕ). take p t ++ (name ++ drop (p + F) t)) inner
    ∙ ap₂ (λ (x y : List ℕ). x ++ (name ++ y)) (ap (take p) (append_assoc front fresh tail) ∙ take_at front (fresh ++ tail) p size)
    (drop_at (front ++ fresh) tail (p + F) new_size)
    ∙ ap (λ (t : List ℕ). t ++ (name ++ tail)) agree_front
    ∙ sym whole_line

-- The old name given back at the places where the new one stands gives the old line.
pub old_name_put_back_gives_old_line : TokensOfLinesAreOrdered → (old : NamedAlias) (fresh line : List ℕ) (n : Node) → LineReadsAsNode line n
    → bytes_replaced_at_offsets (length fresh) old.name (map (offset_after_renames (length old.name) (length fresh) (alias_offsets_in_node old n)) (alias_offsets_in_node old n))
    (line_text_after_rename old fresh n line) ≡ line
old_name_put_back_gives_old_line ascend old fresh line n is = by_starts (alias_offsets_in_node old n) (alias_stands_at_its_offsets_in_line ascend old line n is)
  where
    by_starts : (ps : List ℕ) → StandsAtOffsets line old.name ps
        → bytes_replaced_at_offsets (length fresh) old.name (map (offset_after_renames (length old.name) (length fresh) ps) ps) (bytes_replaced_at_offsets (length old.name) fresh ps line) ≡ line
    by_starts [] s = refl
    by_starts (p ∷ ps) s =
        elim s.some [
          | inl none ↦ absurd (cc)
          | inr some ↦ replacement_back_gives_old_line old.name fresh line 0 (p ∷ ps) some s.apart s.stand
        ]

-- The new name stands where the old one stood, if it was not there.
pub new_name_stands_at_moved_offsets : TokensOfLinesAreOrdered → (old : NamedAlias) (fresh line : List ℕ) (n : Node) → LineReadsAsNode line n → alias_offsets_in_node (renamed_alias old fresh) n ≡ []
    → alias_offsets_in_node (renamed_alias old fresh) (node_with_alias_renamed (renaming_of_alias_in_node old fresh n) n)
    ≡ map (offset_after_renames (length old.name) (length fresh) (alias_offsets_in_node old n)) (alias_offsets_in_node old n)
new_name_stands_at_moved_offsets ascend old fresh line n is none =
    node_again (renaming_of_alias_in_node old fresh n) n none (by_starts (alias_offsets_in_node old n) (alias_stands_at_its_offsets_in_line ascend old line n is))
  where
    by_starts : (ps : List ℕ) → StandsAtOffsets line old.name ps
        → AllByRecursion (IsMovedWholeAtOffset (length old.name) (length fresh) (offset_after_renames (length old.name) (length fresh) ps)) ps
    by_starts [] s = tt
    by_starts (p ∷ ps) s =
        elim s.some [
          | inl nothing ↦ absurd (cc)
          | inr some ↦ renamed_offsets_are_each_moved (length old.name) (length fresh) (length line) (p ∷ ps) some s.apart
        ]

-- The renamed line with the old name is the old line.
pub renaming_back_gives_old_line : TokensOfLinesAreOrdered → (old : NamedAlias) (fresh line : List ℕ) (n : Node) → LineReadsAsNode line n → alias_offsets_in_node (renamed_alias old fresh) n ≡ []
    → line_text_after_rename (renamed_alias old fresh) old.name (node_with_alias_renamed (renaming_of_alias_in_node old fresh n) n) (line_text_after_rename old fresh n line) ≡ line
renaming_back_gives_old_line ascend old fresh line n is none =
    ap (λ (ps : List ℕ). bytes_replaced_at_offsets (length fresh) old.name ps (line_text_after_rename old fresh n line)) (new_name_stands_at_moved_offsets ascend old fresh line n is none)
    ∙ old_name_put_back_gives_old_line ascend old fresh line n is
