-- The items of a set of bytes, as `[a-z_]` has them, and where the set ends.
use Rattle.std.specs.Prelude.{ℕ, zero, suc, ◌+◌, ◌-◌, Bool, ◌==◌, List, [], ◌∷◌, Option, Some, None, if◌then◌else◌, length, drop}
use Rattle.sudoers_match_member.specs.declared.byte_classes.PosixByteClass.{PosixByteClass}
use Rattle.sudoers_match_member.specs.declared.byte_sets.SetItem.{SetItem}
use Rattle.sudoers_match_member.specs.declared.byte_sets.SetItem.TheVariants.{Of, Range}
use Rattle.sudoers_match_member.specs.Class.{class_named_at, bracketed_name_of_class, is_byte_of_class, is_between}

-- the item has the byte
abbrev pub is_byte_in_set_item : ℕ → SetItem → Bool
is_byte_in_set_item b (Of k) = is_byte_of_class k b
is_byte_in_set_item b (Range low high) = is_between low high b

abbrev pub escaped_range_bound : List ℕ → Option (ℕ × ℕ)
escaped_range_bound [] = None
escaped_range_bound (c ∷ cs) = Some (c, 2)

-- what an end of a range is, `\c` or a byte other than `\`, with its length
abbrev pub range_bound_at : List ℕ → Option (ℕ × ℕ)
range_bound_at [] = None
range_bound_at (b ∷ bs) = if b == 92 then escaped_range_bound bs else Some (b, 1)

-- the upper end behind `-`, which is no bare `]`
abbrev pub upper_range_bound : List ℕ → Option (ℕ × ℕ)
upper_range_bound [] = None
upper_range_bound (b ∷ bs) = if b == 93 then None else range_bound_at (b ∷ bs)

abbrev pub upper_bound_after_dash : List ℕ → Option (ℕ × ℕ)
upper_bound_after_dash [] = None
upper_bound_after_dash (b ∷ bs) = if b == 45 then upper_range_bound bs else None

abbrev pub range_with_upper_bound : ℕ → ℕ → Option (ℕ × ℕ) → SetItem × ℕ
range_with_upper_bound low n None = (Range low low, n)
range_with_upper_bound low n (Some to) = (Range low to.0, n + 1 + to.1)

-- a range, `\c` or a byte
abbrev pub range_from_lower_bound : Option (ℕ × ℕ) → List ℕ → SetItem × ℕ
range_from_lower_bound None bytes = (Range 92 92, 1)
range_from_lower_bound (Some low) bytes = range_with_upper_bound low.0 low.1 (upper_bound_after_dash (drop low.1 bytes))

abbrev pub class_or_range_item : Option PosixByteClass → List ℕ → SetItem × ℕ
class_or_range_item (Some k) bytes = (Of k, length (bracketed_name_of_class k))
class_or_range_item None bytes = range_from_lower_bound (range_bound_at bytes) bytes

-- the item that begins these bytes and its length: the first of a class, a range, `\c`, a byte
unfoldable pub set_item_at : List ℕ → SetItem × ℕ
set_item_at bytes = class_or_range_item (class_named_at bytes) bytes

abbrev pub set_one_byte_longer : Option (List SetItem × ℕ) → Option (List SetItem × ℕ)
set_one_byte_longer None = None
set_one_byte_longer (Some set) = Some (set.0, suc set.1)

abbrev pub set_with_item_put_first : SetItem → Option (List SetItem × ℕ) → Option (List SetItem × ℕ)
set_with_item_put_first item None = None
set_with_item_put_first item (Some set) = Some (item ∷ set.0, set.1)

-- The items up to the `]` that closes the set, and how many bytes they have; none where nothing closes it. So many bytes of an
-- item are still to pass.
abbrev pub set_items_after_skipped_bytes : ℕ → List ℕ → Option (List SetItem × ℕ)
set_items_after_skipped_bytes k [] = None
set_items_after_skipped_bytes (suc k) (b ∷ bs) = set_one_byte_longer (set_items_after_skipped_bytes k bs)
set_items_after_skipped_bytes zero (b ∷ bs) =
    if b == 93 then Some ([], 0) else set_with_item_put_first (set_item_at (b ∷ bs)).0 (set_one_byte_longer (set_items_after_skipped_bytes ((set_item_at (b ∷ bs)).1 - 1) bs))

-- the set behind its `[` or `[!`: what stands there first is an item, also a `]`
abbrev pub set_items_behind_opening_bracket : List ℕ → Option (List SetItem × ℕ)
set_items_behind_opening_bracket [] = None
set_items_behind_opening_bracket (b ∷ bs) = set_with_item_put_first (set_item_at (b ∷ bs)).0 (set_one_byte_longer (set_items_after_skipped_bytes ((set_item_at (b ∷ bs)).1 - 1) bs))
