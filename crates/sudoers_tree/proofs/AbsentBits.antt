-- A name whose bits are not among those of a line is absent from it.
use Rattle.sudoers_tree.proofs.Common.{AliasMember, AllByRecursion, Bool, Decides-eqb, IsLastingLineRow, Kind, LineRow, List, Node, Tables, [], add-one, aliases_in_node, ap, append-nil, append_assoc, ap₂, arith}
use Rattle.sudoers_tree.proofs.Common.{bits_of_alias_names_in, bits_of_name, bits_with_names_added, bytes_eq, bytes_eq-Decides, drop, drop-cons, false, get_or, if◌then◌else◌, is_equal_kind, length, line_of_row, map}
use Rattle.sudoers_tree.proofs.Common.{max, mention_span_if_alias_named, mentions_from_line_number, mentions_in_line, min, node_in_tables, refl, subst, suc, sym, true, ℕ, ◌&&◌, ◌++◌, ◌+◌, ◌-◌, ◌<◌, ◌==◌, ◌∙◌, ◌∷◌, ◌≡◌}
use Rattle.std.proofs.lemmas.Nat.{and_or_self}
use Rattle.std.proofs.lemmas.Nat.Bits.{bit_at_and, bit_at_or, same_from_bits}
use Rattle.std.specs.Int.{bit_at}
use Rattle.std.specs.Int.Bits.{bit_and, bit_or}
use Rattle.std.specs.List.{flat_map}
use Rattle.sudoers_tree.specs.declared.place.Span.{Span}
use Rattle.sudoers_tree.specs.Standing.{IsAliasNameAbsent, names_defined_in_line, alias_names_in_line}
use Rattle.sudoers_tree.proofs.ListedMembers.{mentions_in_line_are_those_of_its_aliases}

-- the bits with one more have what they had
max_keeps_min_with_smaller : (x y z : ℕ) → min x z ≡ z → min (max x y) z ≡ z
max_keeps_min_with_smaller x y z is = omega arith

or_keeps_bits_of_mask : (a b m : ℕ) → bit_and a m ≡ m → bit_and (bit_or a b) m ≡ m
or_keeps_bits_of_mask a b m has = same_from_bits (bit_and (bit_or a b) m) m (λ i.
    bit_at_and (bit_or a b) m i
    ∙ ap (λ x. min x (bit_at m i)) (bit_at_or a b i)
    ∙ max_keeps_min_with_smaller (bit_at a i) (bit_at b i) (bit_at m i) (sym (bit_at_and a m i) ∙ ap (λ n. bit_at n i) has))

adding_names_keeps_bits_of_mask : (names : List (List ℕ)) (a m : ℕ) → bit_and a m ≡ m → bit_and (bits_with_names_added a names) m ≡ m
adding_names_keeps_bits_of_mask [] a m has = has
adding_names_keeps_bits_of_mask (n ∷ names) a m has = adding_names_keeps_bits_of_mask names (bit_or a (bits_of_name n)) m (or_keeps_bits_of_mask a (bits_of_name n) m has)

name_without_its_bits_is_among_no_names : (name : List ℕ) (names : List (List ℕ)) (a : ℕ) → (bit_and (bits_with_names_added a names) (bits_of_name name) ≡ bits_of_name name → ⊥)
    → AllByRecursion (λ (other : List ℕ). bytes_eq name other ≡ false) names
name_without_its_bits_is_among_no_names name [] a lacks = tt
name_without_its_bits_is_among_no_names name (other ∷ names) a lacks = (by (bytes_eq name other) refl, name_without_its_bits_is_among_no_names name names (bit_or a (bits_of_name other)) lacks)
  where
    by : (t : Bool) → bytes_eq name other ≡ t → bytes_eq name other ≡ false
    by false e = e
    by true e =
        let same : name ≡ other = (bytes_eq-Decides name other).0 e in
        let has : bit_and (bit_or a (bits_of_name other)) (bits_of_name name) ≡ bits_of_name name =
        subst (λ (n : List ℕ). bit_and (bit_or a (bits_of_name n)) (bits_of_name name) ≡ bits_of_name name) same (and_or_self (bits_of_name name) a) in
        absurd (lacks (adding_names_keeps_bits_of_mask names (bit_or a (bits_of_name other)) (bits_of_name name) has))

-- ---- a name that is absent

alias_not_among_names_has_no_mentions : (k : Kind) (name : List ℕ) (n : ℕ) (aliases : List AliasMember)
    → AllByRecursion (λ (other : List ℕ). bytes_eq name other ≡ false) (map (λ (a : AliasMember). a.name) aliases) → flat_map (mention_span_if_alias_named k name n) aliases ≡ []
alias_not_among_names_has_no_mentions k name n [] all = refl
alias_not_among_names_has_no_mentions k name n (a ∷ aliases) all = ap₂ (λ (x y : List Span). x ++ y) (by (is_equal_kind k a.kind) (bytes_eq name a.name) all.0) (alias_not_among_names_has_no_mentions k name n aliases all.1)
  where
    place : Span
    place = record { line = n; start = a.stop - length name; stop = a.stop }

    by : (same is : Bool) → is ≡ false → (if same && is then place ∷ [] else []) ≡ []
    by same is e = rw e (grind arith)

name_absent_from_all_is_absent_from_rest : (names others : List (List ℕ)) (name : List ℕ) → AllByRecursion (λ (other : List ℕ). bytes_eq name other ≡ false) (names ++ others)
    → AllByRecursion (λ (other : List ℕ). bytes_eq name other ≡ false) others
name_absent_from_all_is_absent_from_rest [] others name all = all
name_absent_from_all_is_absent_from_rest (first ∷ names) others name all = name_absent_from_all_is_absent_from_rest names others name all.1

-- A line from which a name is absent does not mention it.
pub absent_alias_name_is_not_mentioned : (k : Kind) (name : List ℕ) (n : ℕ) (says : Node) → IsAliasNameAbsent name says → mentions_in_line k name n says ≡ []
absent_alias_name_is_not_mentioned k name n says name_without_its_bits_is_among_no_names =
    mentions_in_line_are_those_of_its_aliases k name n says
    ∙ alias_not_among_names_has_no_mentions k name n (aliases_in_node says) (name_absent_from_all_is_absent_from_rest (names_defined_in_line says) (map (λ (a : AliasMember). a.name) (aliases_in_node says)) name name_without_its_bits_is_among_no_names)

-- ---- rows

-- One more line of a list of rows, whose mentions are added.
pub mentions_go_on_after_row : (k : Kind) (name : List ℕ) (n : ℕ) (t : Tables) (rows : List LineRow) (d : LineRow) (before after all : List Span) → n < length rows
    → after ≡ before ++ mentions_in_line k name n (node_in_tables t (get_or rows n d).node)
    → before ++ mentions_from_line_number k name n (map (line_of_row t) (drop n rows)) ≡ all
    → after ++ mentions_from_line_number k name (n + 1) (map (line_of_row t) (drop (n + 1) rows)) ≡ all
mentions_go_on_after_row k name n t rows d before after all within adds so_far =
    let here : List Span = mentions_in_line k name n (node_in_tables t (get_or rows n d).node) in
    let rest : List Span = mentions_from_line_number k name (n + 1) (map (line_of_row t) (drop (suc n) rows)) in
    ap (λ (i : ℕ). after ++ mentions_from_line_number k name (n + 1) (map (line_of_row t) (drop i rows))) (add-one n)
    ∙ ap (λ (spans : List Span). spans ++ rest) adds
    ∙ append_assoc before here rest
    ∙ sym (ap (λ (ls : List LineRow). before ++ mentions_from_line_number k name n (map (line_of_row t) ls)) (drop-cons rows n d within))
    ∙ so_far

-- A line without the bits of a name has no alias of that name.
pub name_without_its_bits_is_absent : (name : List ℕ) (says : Node) → (bit_and (bits_of_alias_names_in says) (bits_of_name name) ≡ bits_of_name name → ⊥) → IsAliasNameAbsent name says
name_without_its_bits_is_absent name says lacks = name_without_its_bits_is_among_no_names name (alias_names_in_line says) 0 lacks

pub row_without_name_bits_has_no_such_alias : (t : Tables) (row : LineRow) (bits : ℕ) (name : List ℕ) → IsLastingLineRow t row → bits ≡ bits_of_name name
    → (bit_and row.bits bits == bits) ≡ false → IsAliasNameAbsent name (node_in_tables t row.node)
row_without_name_bits_has_no_such_alias t row bits name stands is lacks =
    name_without_its_bits_is_absent name (node_in_tables t row.node) (λ has.
    let same : bit_and row.bits bits ≡ bits = ap₂ bit_and stands.bits is ∙ has ∙ sym is in
    let found : (bit_and row.bits bits == bits) ≡ true = (Decides-eqb (bit_and row.bits bits) bits).1 same in
    absurd cc)

-- A line without the bits of a name is passed over.
pub row_without_name_bits_adds_no_mentions : (k : Kind) (name : List ℕ) (n : ℕ) (t : Tables) (row : LineRow) (bits : ℕ) (before : List Span) → IsLastingLineRow t row → bits ≡ bits_of_name name
    → (bit_and row.bits bits == bits) ≡ false → before ≡ before ++ mentions_in_line k name n (node_in_tables t row.node)
row_without_name_bits_adds_no_mentions k name n t row bits before stands is lacks =
    sym (append-nil before)
    ∙ ap (λ (spans : List Span). before ++ spans) (sym (absent_alias_name_is_not_mentioned k name n (node_in_tables t row.node) (row_without_name_bits_has_no_such_alias t row bits name stands is lacks)))
